-- What is decoded of a capture, one packet after another.
use Rattle.std.proofs.Common.{◌≡◌, ℕ, zero, suc, ◌+◌, ◌-◌, ◌≤◌, ◌⊎◌, inl, inr, Bool, true, false, List, [], ◌∷◌, ◌++◌, length, take, drop, Option, Some, None, Box, Result, Ok, Err, IfOk, refl, sym, ◌∙◌, ap, ap₂, subst, arith, append_assoc, append-nil, length-append, drop_of_length-le}
use Rattle.std.specs.Prelude.{◌||◌, ◌==◌, nat_lt, if◌then◌else◌}
use Rattle.std.specs.declared.alloc.Global.{Global}
use Rattle.std.proofs.lemmas.Bool.{le-ltb, lt-ltb}
use Rattle.std.proofs.lemmas.Bool.Decides.{nat_tests}
use Rattle.std.proofs.lemmas.List.{length-take, length-take-le}
use Rattle.krb_der.specs.declared.profile.Profile.{Profile}
use Rattle.krb_file.specs.Fields.{Fault}
use Rattle.krb_file.specs.declared.fault.FileFault.{FileFault}
use Rattle.krb_file.specs.declared.fault.FileFault.TheVariants as faults
use Rattle.krb_packet.specs.Captures.{packets}
use Rattle.krb_packet.specs.Streaming.{PacketsModel, Reads}
use Rattle.krb_packet.specs.declared.packet.Packet.{Packet}
use Rattle.krb_record.specs.Labels.{Label as RecordLabel}
use Rattle.krb_record.specs.declared.form.Form.TheVariants.{NamedLines}
use Rattle.krb_capture.specs.Captures.{Finding, HasFollowed, Progress, Settings, at_first, counted_each, end_text, happened_each, happened_in, has_no_packet, lines_of, packet_told, refusal_text}
use Rattle.krb_capture.specs.Labels.{Label}
use Rattle.krb_capture.specs.Rests.{HasFollowedBut, Lists}
use Rattle.krb_capture.specs.declared.capture.Capture.{Capture}
use Rattle.krb_capture.specs.declared.directions.Rest.{Rest}
use Rattle.krb_run.specs.Records.{AddsLine, RecordListing, after_line}
use Rattle.krb_run.specs.declared.run.RunEnd.{RunEnd}
use Rattle.krb_run.specs.declared.run.RunEnd.TheVariants as run
use Rattle.krb_run.specs.declared.run.RunFault.{RunFault}
use Rattle.krb_run.specs.Extents.{extent_of}
use Rattle.krb_run.specs.Paths.{field_path}
use Rattle.krb_capture_run.specs.Captures.{lines_from, refused_end}
use Rattle.krb_capture_run.specs.Decoded.{Ends, Next, decoded_capture, decoding, end_after, ending, followed, found_from, few_text, missing, missing_text, none_text, with_missing}
use Rattle.krb_capture_run.specs.inner.CaptureRuns.{AddsCaptureEnd, AddsFileRefusal}
use Rattle.krb_capture_run.specs.inner.DecodedRuns.{AllCame, DecodedSource, HasLines, HaveCome, IsDecodedLeft, IsFoundLeft, SaysMissing, after_packet, has_come, more_of, wanted_of}
use Rattle.krb_capture_run.specs.declared.decode_run.Wanted.{Wanted}
use Rattle.krb_capture_run.proofs.CaptureLines.{Promises, after_both, ended_so, here, there}

-- ---- nothing is told
none_each : (found : List Finding) → happened_each found None ≡ None
none_each [] = refl
none_each (x ∷ xs) = none_each xs

-- some lines, and others after them
parts_none : (label : Label) (found listed others : List Finding) (left : RecordListing) → found ≡ listed ++ others → after_line (lines_of label None found) left ≡ after_line (lines_of label None listed) (after_line (lines_of label None others) left)
parts_none label found listed others left e =
    after_both label None found listed others left e ∙ ap (λ h. after_line (lines_of label None listed) (after_line (lines_of label h others) left)) (none_each listed)

abbrev settings_of : DecodedSource → Settings
settings_of source = decoding source.profile source.limit source.port source.packet

-- ---- what is left of the last packet
module _ (label : RecordLabel) (source : DecodedSource) where
  pub rest_found : (model : PacketsModel) (was now : Capture) (rest : Box Rest Global) (next : Option (Box Rest Global)) (wanted : Option Wanted) (left : RecordListing) (before after : List ℕ) → IsFoundLeft model was (Some rest) label wanted source left → ((settings : Settings) (progress : Progress) (found : List Finding) → HasFollowedBut was settings progress (Some rest) found → Lists (happened_in was.happened) now settings (record { found = found; progress = progress }) next before after) → AddsLine (IsFoundLeft model now next label wanted source) left before after (Ok None)
  rest_found model was now rest next wanted left before after l goes_on =
      let settings = settings_of source in
      let lists = goes_on settings l.progress l.found l.followed_is in
      let all = drop l.count (packets source.file).items in
      let others = found_from settings (followed (more_of wanted) all) (ending (more_of wanted) all (packets source.file).end) l.progress in (
        lines_of settings.label None lists.listed,
        after_line (lines_of settings.label None lists.left) others,
        lists.text ∙ ap (λ h. before ++ lines_of settings.label h lists.listed) l.untold,
        l.is ∙ parts_none settings.label l.found lists.listed lists.left others lists.parts,
        record {
          count = l.count;
          progress = l.progress;
          found = lists.left;
          reads = l.reads;
          came = l.came;
          followed_is = lists.followed;
          untold = lists.happened ∙ ap (happened_each lists.listed) l.untold ∙ none_each lists.listed;
          form = l.form;
          is = refl;
        },
      )

-- nothing is left of it
record AreFound (model : PacketsModel) (capture : Capture) (label : RecordLabel) (wanted : Option Wanted) (source : DecodedSource) (left : RecordListing) : Type 0 where
  count : ℕ
  progress : Progress
  reads : Reads model source.file count
  came : HaveCome wanted source.packet count
  has : HasFollowed capture (settings_of source) progress
  untold : happened_in capture.happened ≡ None
  form : label.form ≡ (settings_of source).label.form
  is : left ≡ found_from (settings_of source) (followed (more_of wanted) (drop count (packets source.file).items)) (ending (more_of wanted) (drop count (packets source.file).items) (packets source.file).end) progress

are_found : (model : PacketsModel) (capture : Capture) (rest : Option (Box Rest Global)) (label : RecordLabel) (wanted : Option Wanted) (source : DecodedSource) (left : RecordListing) → rest ≡ None → IsFoundLeft model capture rest label wanted source left → AreFound model capture label wanted source left
are_found model capture (Some rest) label wanted source left e l = absurd cc
are_found model capture None label wanted source left e l =
    let settings = settings_of source in
    let all = drop l.count (packets source.file).items in
    record {
      count = l.count;
      progress = l.progress;
      reads = l.reads;
      came = l.came;
      has = record {
        profile = l.followed_is.profile;
        port = l.followed_is.port;
        label = l.followed_is.label;
        fragments = l.followed_is.fragments;
        table = l.followed_is.table.0;
        last = l.followed_is.last;
        counts = sym (ap (λ found. counted_each found capture.listing.counts) l.followed_is.table.1) ∙ l.followed_is.counts;
      };
      untold = l.untold;
      form = l.form;
      is = l.is ∙ ap (λ found. after_line (lines_of settings.label None found) (found_from settings (followed (more_of wanted) all) (ending (more_of wanted) all (packets source.file).end) l.progress)) l.followed_is.table.1;
    }

-- ---- packets up to the wanted one
not_true : false ≡ true → ⊥
not_true e = cc

not_zero : (n : ℕ) → (suc n == 0) ≡ true → ⊥
not_zero n e = not_true (sym none ∙ e)
  where
    none : (suc n == 0) ≡ false
    none = grind (arith, nat_tests)

less_step : (m n : ℕ) → nat_lt (suc m) (suc n) ≡ nat_lt m n
less_step m n = grind (arith, nat_tests)

some_packets : (packet : Packet) (others : List Packet) → nat_lt 0 (length (packet ∷ others)) ≡ true
some_packets packet others = lt-ltb 0 (length (packet ∷ others)) (omega arith)

follows_one : (wanted : Option Wanted) (packet : Packet) (others : List Packet) → has_come wanted ≡ false → followed (more_of wanted) (packet ∷ others) ≡ packet ∷ followed (more_of (after_packet wanted)) others
follows_one None packet others e = refl
follows_one (Some wanted) packet others e = by wanted.more refl e
  where
    by : (more : ℕ) → wanted.more ≡ more → (more == 0) ≡ false → take more (packet ∷ others) ≡ packet ∷ take (more - 1) others
    by zero m e = absurd cc
    by (suc less) m e = let same : suc less - 1 ≡ less = omega arith in ap (λ k. packet ∷ take k others) (sym same)

ends_as : (wanted : Option Wanted) (packet : Packet) (others : List Packet) (refusal : Option Fault) → has_come wanted ≡ false → ending (more_of wanted) (packet ∷ others) refusal ≡ ending (more_of (after_packet wanted)) others refusal
ends_as None packet others refusal e = refl
ends_as (Some wanted) packet others refusal e = by wanted.more e
  where
    by : (more : ℕ) → (more == 0) ≡ false → (if nat_lt more (length (packet ∷ others)) then Next else Ends refusal) ≡ (if nat_lt (more - 1) (length others) then Next else Ends refusal)
    by zero e = absurd cc
    by (suc less) e =
        let same : suc less - 1 ≡ less = omega arith in
        ap (λ b. if b then Next else Ends refusal) (less_step less (length others)) ∙ ap (λ k. if nat_lt k (length others) then Next else Ends refusal) (sym same)

comes_one : (wanted : Option Wanted) (packet : Option ℕ) (count : ℕ) → has_come wanted ≡ false → HaveCome wanted packet count → HaveCome (after_packet wanted) packet (suc count)
comes_one None packet count e came = came
comes_one (Some wanted) packet count e came = (came.0, by wanted.more e came.1)
  where
    by : (more : ℕ) → (more == 0) ≡ false → wanted.number ≡ more + count → wanted.number ≡ (more - 1) + suc count
    by zero e n = absurd cc
    by (suc less) e n = omega (arith, n)

-- none is left
none_followed : (wanted : Option Wanted) → followed (more_of wanted) [] ≡ []
none_followed None = refl
none_followed (Some wanted) = by wanted.more
  where
    by : (more : ℕ) → ◌≡◌ {A = List Packet} (take more []) []
    by zero = refl
    by (suc less) = refl

none_ends : (wanted : Option Wanted) (refusal : Option Fault) → ending (more_of wanted) [] refusal ≡ Ends refusal
none_ends None refusal = refl
none_ends (Some wanted) refusal = ap (λ b. if b then Next else Ends refusal) (le-ltb wanted.more 0 (omega arith))

-- ---- a packet, or none
module _ (label : RecordLabel) (source : DecodedSource) (old new : PacketsModel) (was now : Capture) (rest : Option (Box Rest Global)) (none : rest ≡ None) (wanted : Option Wanted) (left : RecordListing) (before after : List ℕ) (given_left : IsFoundLeft old was rest label wanted source left) where
  l : AreFound old was label wanted source left
  l = are_found old was rest label wanted source left none given_left

  abbrev settings : Settings
  settings = settings_of source

  abbrev all : List Packet
  all = (packets source.file).items

  pub packet_found : (packet : Packet) (next : Option (Box Rest Global)) → has_come wanted ≡ false → Promises old (Ok (Some packet)) new → ((settings : Settings) (progress : Progress) → HasFollowed was settings progress → Lists (happened_in was.happened) now settings (packet_told settings packet progress) next before after) → AddsLine (IsFoundLeft new now next label (after_packet wanted) source) left before after (Ok None)
  packet_found packet next more promises lists =
      let given = promises source.file l.count l.reads in
      let taken = packet_told settings packet l.progress in
      let listed = lists settings l.progress l.has in
      let suffix = given.0.suffix in
      let first = here all given.0.prefix given.0.suffix packet l.count given.0.counted given.0.parts in
      let others = there all given.0.prefix given.0.suffix packet l.count given.0.counted given.0.parts in
      let fault = (packets source.file).end in
      let ends = ending (more_of (after_packet wanted)) given.0.suffix (packets source.file).end in
      let later = found_from settings (followed (more_of (after_packet wanted)) given.0.suffix) ends taken.progress in (
        lines_of settings.label None listed.listed,
        after_line (lines_of settings.label None listed.left) later,
        listed.text ∙ ap (λ h. before ++ lines_of settings.label h listed.listed) l.untold,
        l.is
            ∙ ap (λ xs. found_from settings (followed (more_of wanted) xs) (ending (more_of wanted) xs fault) l.progress) first
            ∙ ap₂ (λ xs e. found_from settings xs e l.progress) (follows_one wanted packet suffix more) (ends_as wanted packet suffix fault more)
            ∙ ap (λ h. record { lines = lines_of settings.label None taken.found ++ lines_from settings (followed (more_of (after_packet wanted)) suffix) h taken.progress; last = later.last; end = later.end }) (none_each taken.found)
            ∙ parts_none settings.label taken.found listed.listed listed.left later listed.parts,
        record {
          count = suc l.count;
          progress = taken.progress;
          found = listed.left;
          reads = given.1;
          came = comes_one wanted source.packet l.count more l.came;
          followed_is = listed.followed;
          untold = listed.happened ∙ ap (happened_each listed.listed) l.untold ∙ none_each listed.listed;
          form = l.form;
          is = ap (λ xs. after_line (lines_of settings.label None listed.left) (found_from settings (followed (more_of (after_packet wanted)) xs) (ending (more_of (after_packet wanted)) xs fault) taken.progress)) (sym others);
        },
      )

  -- one follows the wanted one
  pub next_found : (packet : Packet) (IsLeft : RecordListing → Type 0) → has_come wanted ≡ true → Promises old (Ok (Some packet)) new → AddsLine IsLeft left before before (Ok (Some run.Clean))
  next_found packet IsLeft come promises =
      let given = promises source.file l.count l.reads in
      let first = here all given.0.prefix given.0.suffix packet l.count given.0.counted given.0.parts in
      let is = l.is ∙ ap (λ xs. found_from settings (followed (more_of wanted) xs) (ending (more_of wanted) xs (packets source.file).end) l.progress) first ∙ by wanted come packet given.0.suffix in
      ended_so IsLeft before before (Some run.Clean) run.Clean left (found_from settings [] Next l.progress) refl (sym (append-nil before)) is refl refl
    where
      by : (wanted : Option Wanted) → has_come wanted ≡ true → (packet : Packet) (others : List Packet) → found_from settings (followed (more_of wanted) (packet ∷ others)) (ending (more_of wanted) (packet ∷ others) (packets source.file).end) l.progress ≡ found_from settings [] Next l.progress
      by None come packet others = absurd (not_true come)
      by (Some wanted) come packet others = of wanted.more come
        where
          of : (more : ℕ) → (more == 0) ≡ true → found_from settings (take more (packet ∷ others)) (if nat_lt more (length (packet ∷ others)) then Next else Ends (packets source.file).end) l.progress ≡ found_from settings [] Next l.progress
          of zero come = ap (λ b. found_from settings [] (if b then Next else Ends (packets source.file).end) l.progress) (some_packets packet others)
          of (suc less) come = absurd (not_zero less come)

  -- no packet is left
  none_left : length all ≡ l.count → (end : Option Fault) → (packets source.file).end ≡ end → left ≡ found_from settings [] (Ends end) l.progress
  none_left counted end e =
      l.is
      ∙ ap (λ xs. found_from settings (followed (more_of wanted) xs) (ending (more_of wanted) xs (packets source.file).end) l.progress) (drop_of_length-le all {i = l.count} (omega (arith, counted)))
      ∙ ap₂ (λ xs x. found_from settings xs x l.progress) (none_followed wanted) (none_ends wanted (packets source.file).end ∙ ap Ends e)

  pub end_found : (IsLeft : RecordListing → Type 0) (r : Result (Option RunEnd) RunFault) → Promises old (Ok None) new → IfOk r (AddsCaptureEnd was before after) → AddsLine IsLeft left before after r
  end_found IsLeft (Err e) promises adds = tt
  end_found IsLeft (Ok ended) promises adds =
      let given = promises source.file l.count l.reads in
      let added = adds settings l.progress l.has in
      ended_so IsLeft before after ended _ left (found_from settings [] (Ends None) l.progress) added.0 (added.1 ∙ ap (λ h. before ++ end_text settings h l.progress) l.untold) (none_left given.counted None given.is) refl refl

  pub refusal_found : (IsLeft : RecordListing → Type 0) (e : FileFault) (r : Result (Option RunEnd) RunFault) → Promises old (Err e) new → IfOk r (AddsFileRefusal e was label before after) → AddsLine IsLeft left before after r
  refusal_found IsLeft e (Err f) promises adds = tt
  refusal_found IsLeft faults.Read (Ok ended) promises adds = absurd adds
  refusal_found IsLeft faults.Memory (Ok ended) promises adds = absurd adds
  refusal_found IsLeft (faults.Refused fault) (Ok ended) promises adds =
      let given = promises source.file l.count l.reads in
      let added = adds settings l.progress l.has l.form in
      ended_so IsLeft before after ended _ left (found_from settings [] (Ends (Some fault)) l.progress) (added.0 ∙ ap (λ counts. Some (refused_end (has_no_packet counts))) l.has.counts)
      (added.1 ∙ ap (λ h. before ++ refusal_text settings h l.progress fault.place fault.why (field_path fault.field) (extent_of fault)) l.untold) (none_left given.counted (Some fault) given.is) refl refl

  -- all came that are followed
  came_all : (w : Option Wanted) (packet : Option ℕ) → HaveCome w packet l.count → l.count ≤ length all → (has_come w ≡ true) ⊎ (length all ≡ l.count) → HaveCome w packet (length (followed packet all))
  came_all None packet came few done = came
  came_all (Some w) packet came few done = (came.0, by w.more done came.1 ∙ ap (λ p. w.more + length (followed p all)) (sym came.0))
    where
      by : (more : ℕ) → ((more == 0) ≡ true) ⊎ (length all ≡ l.count) → w.number ≡ more + l.count → w.number ≡ more + length (take w.number all)
      by zero (inl e) n = omega (arith, n, length-take-le w.number all (omega (arith, few, n)))
      by (suc less) (inl e) n = absurd (not_zero less e)
      by more (inr e) n = omega (arith, n, e, length-take w.number all)

  pub next_came : (packet : Packet) → has_come wanted ≡ true → Promises old (Ok (Some packet)) new → AllCame wanted source
  next_came packet come promises =
      let given = promises source.file l.count l.reads in
      let few : l.count ≤ length all = omega (arith, given.0.counted, ap length given.0.parts, length-append given.0.prefix (packet ∷ given.0.suffix)) in
      came_all wanted source.packet l.came few (inl come)

  pub end_came : Promises old (Ok None) new → AllCame wanted source
  end_came promises = let given = promises source.file l.count l.reads in came_all wanted source.packet l.came (omega (arith, given.counted)) (inr given.counted)

  pub refusal_came : (fault : Fault) → Promises old (Err (faults.Refused fault)) new → AllCame wanted source
  refusal_came fault promises = let given = promises source.file l.count l.reads in came_all wanted source.packet l.came (omega (arith, given.counted)) (inr given.counted)

  pub refused_came : (e : FileFault) (ended : Option RunEnd) → Promises old (Err e) new → AddsFileRefusal e was label before after ended → AllCame wanted source
  refused_came faults.Read ended promises adds = absurd adds
  refused_came faults.Memory ended promises adds = absurd adds
  refused_came (faults.Refused fault) ended promises adds = refusal_came fault promises

-- ---- what is said if there is no line
pub missing_step : (packet : Option ℕ) (came : ℕ) (before line : List ℕ) (others : RecordListing) → with_missing packet came before (after_line line others) ≡ after_line line (with_missing packet came (before ++ line) others)
missing_step packet came before line others =
    ap {A = List ℕ} (λ text. record { lines = line ++ others.lines; last = others.last ++ missing packet came text; end = end_after (missing packet came text) others.end })
    (ap (λ t. before ++ t) (append_assoc line others.lines others.last) ∙ sym (append_assoc before line (others.lines ++ others.last)))

pub has_after : (flag : Bool) (before text line : List ℕ) (after : List ℕ) → HasLines flag before → after ≡ text ++ line → HasLines (flag || nat_lt (length text) (length after)) (before ++ line)
has_after true [] text line after has e = absurd has
has_after true (octet ∷ before) text line after has e = tt
has_after false before text [] after has e =
    subst (λ b. HasLines b (before ++ [])) (sym (le-ltb (length text) (length after) (omega (arith, ap length e, ap length (append-nil text))))) (append-nil before ∙ has)
has_after false before text (octet ∷ line) after has e =
    subst (λ b. HasLines b (before ++ octet ∷ line)) (sym (lt-ltb (length text) (length after) (omega (arith, ap length e, length-append text (octet ∷ line)))))
    (subst (λ (l : List ℕ). HasLines true (l ++ octet ∷ line)) (sym has) tt)

-- the end was added, and then what is said
pub said_at_end : (wanted : Option Wanted) (source : DecodedSource) (flag : Bool) (base left : RecordListing) (before old between new : List ℕ) (end ended : RunEnd) → AllCame wanted source → left ≡ with_missing source.packet (length (followed source.packet (packets source.file).items)) before base → between ≡ old ++ base.last → base.lines ≡ [] → end ≡ base.end → HasLines flag (before ++ base.last) → SaysMissing wanted flag end between new ended → (new ≡ old ++ left.last) × (left.lines ≡ []) × (ended ≡ left.end)
said_at_end wanted source flag base left before old between new end ended came is t n f has says =
    let count : ℕ = length (followed source.packet (packets source.file).items) in
    let lines : before ++ (base.lines ++ base.last) ≡ before ++ base.last = ap (λ l. before ++ (l ++ base.last)) n in
    let said = by wanted flag (before ++ base.last) came has says in (
      said.0 ∙ ap (λ b. b ++ missing source.packet count (before ++ base.last)) t ∙ append_assoc old base.last (missing source.packet count (before ++ base.last))
          ∙ ap (λ l. old ++ (base.last ++ missing source.packet count l)) (sym lines) ∙ ap (λ l. old ++ l.last) (sym is),
      ap (λ l. l.lines) is ∙ n,
      said.1 ∙ ap (end_after (missing source.packet count (before ++ base.last))) f ∙ ap (λ l. end_after (missing source.packet count l) base.end) (sym lines) ∙ ap (λ l. l.end) (sym is),
    )
  where
    by : (w : Option Wanted) (flag : Bool) (lines : List ℕ) → HaveCome w source.packet (length (followed source.packet (packets source.file).items)) → HasLines flag lines → SaysMissing w flag end between new ended → (new ≡ between ++ missing source.packet (length (followed source.packet (packets source.file).items)) lines) × (ended ≡ end_after (missing source.packet (length (followed source.packet (packets source.file).items)) lines) end)
    by None flag lines came has says =
        let none : missing source.packet (length (followed source.packet (packets source.file).items)) lines ≡ [] = ap (λ p. missing p (length (followed source.packet (packets source.file).items)) lines) came in
        (says.0 ∙ sym (append-nil between) ∙ ap (λ l. between ++ l) (sym none), says.1 ∙ ap (λ l. end_after l end) (sym none))
    by (Some w) true [] came has says = absurd has
    by (Some w) true (octet ∷ lines) came has says =
        let none : missing source.packet (length (followed source.packet (packets source.file).items)) (octet ∷ lines) ≡ [] = ap (λ p. missing p (length (followed source.packet (packets source.file).items)) (octet ∷ lines)) came.0 in
        (says.0 ∙ sym (append-nil between) ∙ ap (λ l. between ++ l) (sym none), says.1 ∙ ap (λ l. end_after l end) (sym none))
    by (Some w) false lines came has says =
        let count : ℕ = length (followed source.packet (packets source.file).items) in
        let more : w.number - count ≡ w.more = omega (arith, came.1) in
        let text : missing source.packet count lines ≡ missing_text w.number w.more = ap (missing source.packet count) has ∙ ap (λ p. missing p count []) came.0 ∙ ap (missing_text w.number) more in
        (says.0 ∙ ap (λ l. between ++ l) (sym text), says.1 ∙ some_end w.more ∙ ap (λ l. end_after l end) (sym text))
      where
        some_end : (m : ℕ) → run.Refused ≡ end_after (missing_text w.number m) end
        some_end m = of (m == 0)
          where
            of : (b : Bool) → run.Refused ≡ end_after (if b then none_text w.number else few_text w.number (w.number - m)) end
            of true = refl
            of false = refl

module _ (model model' : PacketsModel) (was now : Capture) (rest next : Option (Box Rest Global)) (label label' : RecordLabel) (w w' : Option Wanted) (flag flag' : Bool) (source : DecodedSource) (left : RecordListing) (before after : List ℕ) (m n : ℕ) (old_size : m ≡ length before) (new_size : n ≡ length after) (has_more : flag' ≡ (flag || nat_lt m n)) (d : IsDecodedLeft model was rest label w flag source left) where
  has_now : (line : List ℕ) → after ≡ before ++ line → HasLines flag' (d.before ++ line)
  has_now line e =
      subst (λ b. HasLines b (d.before ++ line)) (sym (has_more ∙ ap₂ (λ k l. flag || nat_lt k l) old_size new_size)) (has_after flag d.before before line after d.has e)

  pub line_decoded : ((base : RecordListing) → IsFoundLeft model was rest label w source base → AddsLine (IsFoundLeft model' now next label' w' source) base before after (Ok None)) → AddsLine (IsDecodedLeft model' now next label' w' flag' source) left before after (Ok None)
  line_decoded adds =
      let a = adds d.base d.found_left in
      let count : ℕ = length (followed source.packet (packets source.file).items) in (
        a.0,
        with_missing source.packet count (d.before ++ a.0) a.1,
        a.2,
        d.is ∙ ap (with_missing source.packet count d.before) a.3 ∙ missing_step source.packet count d.before a.0 a.1,
        record { before = d.before ++ a.0; base = a.1; has = has_now a.0 a.2; found_left = a.4; is = refl },
      )

  pub end_decoded : (end ended : RunEnd) (new : List ℕ) → ((base : RecordListing) → IsFoundLeft model was rest label w source base → AddsLine (IsFoundLeft model' now next label' w' source) base before after (Ok (Some end))) → ((base : RecordListing) → IsFoundLeft model was rest label w source base → AllCame w' source) → SaysMissing w' flag' end after new ended → AddsLine (IsDecodedLeft model' now next label' w' flag' source) left before new (Ok (Some ended))
  end_decoded end ended new adds came says =
      let a = adds d.base d.found_left in
      said_at_end w' source flag' d.base left d.before before after new end ended (came d.base d.found_left) d.is a.0 a.1 a.2 (has_now d.base.last a.0) says

-- ---- before the first packet
pub all_decoded : (profile : Profile) (limit port : ℕ) (packet : Option ℕ) (file : List ℕ) (model : PacketsModel) (capture : Capture) (label : RecordLabel) → label.form ≡ NamedLines → Reads model file 0 → HasFollowed capture (decoding profile limit port packet) at_first → happened_in capture.happened ≡ None → IsDecodedLeft model capture None label (wanted_of packet) false (record { profile = profile; limit = limit; port = port; packet = packet; file = file }) (decoded_capture profile limit port packet file)
unfolding decoded_capture
all_decoded profile limit port packet file model capture label form reads h untold = record {
  before = [];
  base = found_from (decoding profile limit port packet) (followed packet (packets file).items) (ending packet (packets file).items (packets file).end) at_first;
  has = refl;
  found_left = record {
    count = 0;
    progress = at_first;
    found = [];
    reads = reads;
    came = by packet;
    followed_is = record { profile = h.profile; port = h.port; label = h.label; fragments = h.fragments; table = (h.table, refl); last = h.last; counts = h.counts };
    untold = untold;
    form = form;
    is = ap (λ m. found_from (decoding profile limit port packet) (followed m (packets file).items) (ending m (packets file).items (packets file).end) at_first) (sym (more packet));
  };
  is = refl;
}
  where
    by : (packet : Option ℕ) → HaveCome (wanted_of packet) packet 0
    by None = refl
    by (Some number) = (refl, omega arith)

    more : (packet : Option ℕ) → more_of (wanted_of packet) ≡ packet
    more None = refl
    more (Some number) = refl
