-- The records of a capture, one packet after another.
use Rattle.std.proofs.Common.{◌≡◌, ℕ, suc, List, [], ◌∷◌, ◌++◌, length, drop, Option, Some, None, Box, Result, Ok, Err, IfOk, refl, sym, ◌∙◌, ap, subst, arith, append_assoc, length-append, drop_of_length-le, drop_at}
use Rattle.std.specs.declared.alloc.Global.{Global}
use Rattle.krb_file.specs.Fields.{Fault}
use Rattle.krb_file.specs.declared.fault.FileFault.{FileFault}
use Rattle.krb_file.specs.declared.fault.FileFault.TheVariants as faults
use Rattle.krb_packet.specs.Captures.{packets}
use Rattle.krb_packet.specs.Streaming.{ReturnsNext, PacketsModel, Reads}
use Rattle.krb_packet.specs.declared.packet.Packet.{Packet}
use Rattle.krb_capture.specs.Labels.{Label}
use Rattle.krb_record.specs.Labels.{Label as RecordLabel}
use Rattle.krb_capture.specs.Captures.{Finding, HasFollowed, Progress, Settings, at_first, counted_each, happened_each, happened_in, has_no_packet, lines_of, packet_told}
use Rattle.krb_capture.specs.Found.{found_happened, found_text}
use Rattle.krb_capture.specs.Happened.{told_at_first}
use Rattle.krb_capture.specs.declared.happened.Happened.{Happened}
use Rattle.krb_capture.specs.Rests.{HasFollowedBut, Lists}
use Rattle.krb_capture.specs.declared.capture.Capture.{Capture}
use Rattle.krb_capture.specs.declared.directions.Rest.{Rest}
use Rattle.krb_capture_run.specs.Captures.{IsCaptureRest, capture_listing, listing_from, refused_end}
use Rattle.krb_run.specs.Records.{ListsRecords, RecordListing, after_line}
use Rattle.krb_run.proofs.Records.{ListsRecords-weaker}
use Rattle.krb_run.specs.declared.run.RunEnd.{RunEnd}
use Rattle.krb_run.specs.declared.run.RunFault.{RunFault}
use Rattle.krb_capture_run.specs.inner.CaptureRuns.{AddsCaptureEnd, AddsFileRefusal, CaptureSource, IsCaptureLeft}
use Rattle.krb_run.specs.Records.{AddsLine}

-- what a call of the reader promises
abbrev pub Promises : PacketsModel → Result (Option Packet) FileFault → PacketsModel → Type 0
Promises old given new = (file : List ℕ) (count : ℕ) → Reads old file count → ReturnsNext file count given new

pub here : {A : Type 0} (items prefix suffix : List A) (item : A) (count : ℕ) → length prefix ≡ count → items ≡ prefix ++ item ∷ suffix → drop count items ≡ item ∷ suffix
here items prefix suffix item count counted parts = ap (drop count) parts ∙ drop_at prefix (item ∷ suffix) count counted

pub there : {A : Type 0} (items prefix suffix : List A) (item : A) (count : ℕ) → length prefix ≡ count → items ≡ prefix ++ item ∷ suffix → drop (suc count) items ≡ suffix
there items prefix suffix item count counted parts =
    ap (drop (suc count)) (parts ∙ sym (append_assoc prefix (item ∷ []) suffix)) ∙ drop_at (prefix ++ item ∷ []) suffix (suc count) (omega (arith, counted, length-append prefix (item ∷ [])))

-- the last records were added, if they alone are left
pub ended_so : (IsLeft : RecordListing → Type 0) (before after : List ℕ) (ended : Option RunEnd) (end : RunEnd) (left last : RecordListing) → ended ≡ Some end → after ≡ before ++ last.last → left ≡ last → last.lines ≡ [] → last.end ≡ end → AddsLine IsLeft left before after (Ok ended)
ended_so IsLeft before after None end left last e a l n f = absurd cc
ended_so IsLeft before after (Some x) end left last e a l n f =
    let x' : x ≡ end = cc in
    (a ∙ ap (λ y. before ++ y.last) (sym l), ap (λ y. y.lines) l ∙ n, x' ∙ sym f ∙ ap (λ y. y.end) (sym l))

lines-append : (label : Label) (happened : Option Happened) (xs ys : List Finding) → lines_of label happened (xs ++ ys) ≡ lines_of label happened xs ++ lines_of label (happened_each xs happened) ys
lines-append label happened [] ys = refl
lines-append label happened (x ∷ xs) ys =
    let after = found_happened x.0 x.1 happened in
    ap (λ l. found_text label x.0 x.1 happened ++ l) (lines-append label after xs ys) ∙ sym (append_assoc (found_text label x.0 x.1 happened) (lines_of label after xs) (lines_of label (happened_each xs after) ys))

each-append : (xs ys : List Finding) (happened : Option Happened) → happened_each (xs ++ ys) happened ≡ happened_each ys (happened_each xs happened)
each-append [] ys happened = refl
each-append (x ∷ xs) ys happened = each-append xs ys (found_happened x.0 x.1 happened)

-- some lines, and others after them
pub after_both : (label : Label) (happened : Option Happened) (found listed others : List Finding) (left : RecordListing) → found ≡ listed ++ others → after_line (lines_of label happened found) left ≡ after_line (lines_of label happened listed) (after_line (lines_of label (happened_each listed happened) others) left)
after_both label happened found listed others left e =
    ap (λ l. after_line l left) (ap (lines_of label happened) e ∙ lines-append label happened listed others)
    ∙ ap (λ l. record left { lines = l }) (append_assoc (lines_of label happened listed) (lines_of label (happened_each listed happened) others) left.lines)

-- the first findings were listed, and what happened with them is now what happened before the others
module _ (label : Label) (was now : Option Happened) (found listed others : List Finding) (parts : found ≡ listed ++ others) (same : now ≡ happened_each listed was) (rest : Option Happened → RecordListing) where
  split : after_line (lines_of label was found) (rest (happened_each found was)) ≡ after_line (lines_of label was listed) (after_line (lines_of label now others) (rest (happened_each others now)))
  split =
      ap (λ h. after_line (lines_of label was found) (rest h)) (ap (λ f. happened_each f was) parts ∙ each-append listed others was)
      ∙ after_both label was found listed others (rest (happened_each others (happened_each listed was))) parts
      ∙ ap (λ h. after_line (lines_of label was listed) (after_line (lines_of label h others) (rest (happened_each others h)))) (sym same)

-- what is left of the last packet
pub rest_added : (label : RecordLabel) (model : PacketsModel) (was now : Capture) (rest : Box Rest Global) (next : Option (Box Rest Global)) (source : CaptureSource) (left : RecordListing) (before after : List ℕ) → IsCaptureLeft model was (Some rest) label source left → ((settings : Settings) (progress : Progress) (found : List Finding) → HasFollowedBut was settings progress (Some rest) found → Lists (happened_in was.happened) now settings (record { found = found; progress = progress }) next before after) → AddsLine (IsCaptureLeft model now next label source) left before after (Ok None)
rest_added label model was now rest next source left before after is_left goes_on =
    let lists = goes_on source.settings is_left.progress is_left.found is_left.followed in
    let rest_of = λ (h : Option Happened). listing_from source.settings (drop is_left.count (packets source.file).items) (packets source.file).end h is_left.progress in (
      lines_of source.settings.label (happened_in was.happened) lists.listed,
      after_line (lines_of source.settings.label (happened_in now.happened) lists.left) (rest_of (happened_each lists.left (happened_in now.happened))),
      lists.text,
      is_left.is ∙ split source.settings.label (happened_in was.happened) (happened_in now.happened) is_left.found lists.listed lists.left lists.parts lists.happened rest_of,
      record {
        count = is_left.count;
        progress = is_left.progress;
        found = lists.left;
        reads = is_left.reads;
        followed = lists.followed;
        label_is = is_left.label_is;
        is = refl;
      },
    )

-- nothing is left of the last packet
record AreFollowed (model : PacketsModel) (capture : Capture) (label : RecordLabel) (source : CaptureSource) (left : RecordListing) : Type 0 where
  count : ℕ
  progress : Progress
  reads : Reads model source.file count
  followed : HasFollowed capture source.settings progress
  label_is : label.form ≡ source.settings.label.form
  is : left ≡ listing_from source.settings (drop count (packets source.file).items) (packets source.file).end (happened_in capture.happened) progress

are_followed : (model : PacketsModel) (capture : Capture) (rest : Option (Box Rest Global)) (label : RecordLabel) (source : CaptureSource) (left : RecordListing) → rest ≡ None → IsCaptureLeft model capture rest label source left → AreFollowed model capture label source left
are_followed model capture (Some rest) label source left e l = absurd cc
are_followed model capture None label source left e l = record {
  count = l.count;
  progress = l.progress;
  reads = l.reads;
  followed = record {
    profile = l.followed.profile;
    port = l.followed.port;
    label = l.followed.label;
    fragments = l.followed.fragments;
    table = l.followed.table.0;
    last = l.followed.last;
    counts = sym (ap (λ found. counted_each found capture.listing.counts) l.followed.table.1) ∙ l.followed.counts;
  };
  label_is = l.label_is;
  is = l.is ∙ ap (λ found. after_line (lines_of source.settings.label (happened_in capture.happened) found) (listing_from source.settings (drop l.count (packets source.file).items) (packets source.file).end (happened_each found (happened_in capture.happened)) l.progress)) l.followed.table.1;
}

module _ (label : RecordLabel) (old new : PacketsModel) (was now : Capture) (rest : Option (Box Rest Global)) (none : rest ≡ None) (source : CaptureSource) (left : RecordListing) (before after : List ℕ) (given_left : IsCaptureLeft old was rest label source left) where
  is_left : AreFollowed old was label source left
  is_left = are_followed old was rest label source left none given_left

  abbrev found : List Packet
  found = (packets source.file).items

  abbrev refusal : Option Fault
  refusal = (packets source.file).end

  pub packet_added : (packet : Packet) (next : Option (Box Rest Global)) → Promises old (Ok (Some packet)) new → ((settings : Settings) (progress : Progress) → HasFollowed was settings progress → Lists (happened_in was.happened) now settings (packet_told settings packet progress) next before after) → AddsLine (IsCaptureLeft new now next label source) left before after (Ok None)
  packet_added packet next promises lists =
      let count = is_left.count in
      let given = promises source.file count is_left.reads in
      let taken = packet_told source.settings packet is_left.progress in
      let listed = lists source.settings is_left.progress is_left.followed in
      let rest_of = λ (h : Option Happened). listing_from source.settings given.0.suffix refusal h taken.progress in
      let later = happened_in now.happened in
      let first = here found given.0.prefix given.0.suffix packet count given.0.counted given.0.parts in
      let rest = there found given.0.prefix given.0.suffix packet count given.0.counted given.0.parts in (
        lines_of source.settings.label (happened_in was.happened) listed.listed,
        after_line (lines_of source.settings.label later listed.left) (rest_of (happened_each listed.left later)),
        listed.text,
        is_left.is ∙ ap (λ xs. listing_from source.settings xs refusal (happened_in was.happened) is_left.progress) first ∙ split source.settings.label (happened_in was.happened) later taken.found listed.listed listed.left listed.parts listed.happened rest_of,
        record {
          count = suc count;
          progress = taken.progress;
          found = listed.left;
          reads = given.1;
          followed = listed.followed;
          label_is = is_left.label_is;
          is = ap (λ xs. after_line (lines_of source.settings.label later listed.left) (listing_from source.settings xs refusal (happened_each listed.left later) taken.progress)) (sym rest);
        },
      )

  -- no packet is left
  none_left : length found ≡ is_left.count → (end : Option Fault) → refusal ≡ end → left ≡ listing_from source.settings [] end (happened_in was.happened) is_left.progress
  none_left counted end e =
      is_left.is
      ∙ ap (λ xs. listing_from source.settings xs refusal (happened_in was.happened) is_left.progress) (drop_of_length-le found {i = is_left.count} (omega (arith, counted)))
      ∙ ap (λ x. listing_from source.settings [] x (happened_in was.happened) is_left.progress) e

  pub end_added : (IsLeft : RecordListing → Type 0) (r : Result (Option RunEnd) RunFault) → Promises old (Ok None) new → IfOk r (AddsCaptureEnd was before after) → AddsLine IsLeft left before after r
  end_added IsLeft (Err e) promises adds = tt
  end_added IsLeft (Ok ended) promises adds =
      let given = promises source.file is_left.count is_left.reads in
      let last = none_left given.counted None given.is in
      let added = adds source.settings is_left.progress is_left.followed in
      ended_so IsLeft before after ended _ left (listing_from source.settings [] None (happened_in was.happened) is_left.progress) added.0 added.1 last refl refl

  -- after which nothing is left
  pub refusal_added : (IsLeft : RecordListing → Type 0) (e : FileFault) (r : Result (Option RunEnd) RunFault) → Promises old (Err e) new → IfOk r (AddsFileRefusal e was label before after) → AddsLine IsLeft left before after r
  refusal_added IsLeft e (Err f) promises adds = tt
  refusal_added IsLeft faults.Read (Ok ended) promises adds = absurd adds
  refusal_added IsLeft faults.Memory (Ok ended) promises adds = absurd adds
  refusal_added IsLeft (faults.Refused fault) (Ok ended) promises adds =
      let given = promises source.file is_left.count is_left.reads in
      let last = none_left given.counted (Some fault) given.is in
      let added = adds source.settings is_left.progress is_left.followed is_left.label_is in
      ended_so IsLeft before after ended _ left (listing_from source.settings [] (Some fault) (happened_in was.happened) is_left.progress) (added.0 ∙ ap (λ counts. Some (refused_end (has_no_packet counts))) is_left.followed.counts) added.1 last refl refl

-- of the same listing less is said of what is left
pub less_said : {IsLeft : RecordListing → Type 0} (all other : RecordListing) → all ≡ other → (WasLeft : RecordListing → Type 0) (written_before written_after : Option (List ℕ)) (result : Result RunEnd RunFault) → ListsRecords all IsLeft written_before written_after result → ((left : RecordListing) → IsLeft left → WasLeft left) → ListsRecords other WasLeft written_before written_after result
less_said {IsLeft = IsLeft} all other same WasLeft written_before written_after result listed weaker = ListsRecords-weaker other IsLeft WasLeft written_before written_after result weaker (subst (λ (l : RecordListing). ListsRecords l IsLeft written_before written_after result) same listed)

-- before the first packet
pub all_left : (settings : Settings) (file : List ℕ) (model : PacketsModel) (capture : Capture) (label : RecordLabel) → label.form ≡ settings.label.form → Reads model file 0 → HasFollowed capture settings at_first → happened_in capture.happened ≡ told_at_first settings.label.form → IsCaptureLeft model capture None label (record { settings = settings; file = file }) (capture_listing settings file)
unfolding capture_listing
all_left settings file model capture label same reads h e = record {
  count = 0;
  progress = at_first;
  found = [];
  reads = reads;
  followed = record { profile = h.profile; port = h.port; label = h.label; fragments = h.fragments; table = (h.table, refl); last = h.last; counts = h.counts };
  label_is = same;
  is = ap (λ x. listing_from settings (packets file).items (packets file).end x at_first) (sym e);
}

-- after any
pub is_rest : (settings : Settings) (file : List ℕ) (model : PacketsModel) (capture : Capture) (rest : Option (Box Rest Global)) (label : RecordLabel) (left : RecordListing) → IsCaptureLeft model capture rest label (record { settings = settings; file = file }) left → IsCaptureRest settings file left
is_rest settings file model capture rest label left l = record { count = l.count; progress = l.progress; happened = happened_in capture.happened; found = l.found; is = l.is }
