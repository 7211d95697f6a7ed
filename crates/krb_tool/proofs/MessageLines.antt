-- Messages in lines, which come piece by piece.
use Rattle.std.proofs.Common.{◌≡◌, ℕ, ◌+◌, ◌-◌, ◌≤◌, Bool, true, false, List, [], ◌∷◌, ◌++◌, length, take, min, Option, Some, None, refl, sym, ◌∙◌, ap, subst, arith, append-nil, length-append, length-take, take_all}
use Rattle.std.specs.Prelude.{nat_lt, not, ◌&&◌, ◌==◌}
use Rattle.std.proofs.lemmas.Bool.Decides.{nat_tests}
use Rattle.krb_der.specs.Octets.{when}
use Rattle.krb_der.specs.declared.profile.Profile.{Profile}
use Rattle.krb_record.specs.Labels.{Label, line_of}
use Rattle.krb_run.specs.Conversions.{Converted, Converts, after_text}
use Rattle.krb_run.specs.TextLines.{is_blank_line}
use Rattle.krb_run.specs.Files.{FileListing}
use Rattle.krb_tool.specs.MessageLines.{ListsLines, is_passed, lines_listed, next_line, with_line, with_record}
use Rattle.krb_tool.specs.Messages.{input_limit, input_listing, listing_with}
use Rattle.krb_tool.specs.declared.lines_run.LineLister.{LineLister}
use Rattle.krb_tool.specs.declared.lines_run.LinesRequest.{LinesRequest}
use Rattle.krb_tool.specs.declared.lines_run.Seen.{Seen}
use Rattle.krb_tool.specs.declared.message_input.MessageInput.{MessageInput}
use Rattle.krb_run.specs.declared.run.RunEnd.{RunEnd}
use Rattle.krb_run.specs.declared.run.RunEnd.TheVariants as run
use Rattle.krb_run.specs.LineReaders.{Adds, EndsLine, HasLine, IsStopped}
use Rattle.krb_tool.specs.inner.MessageLines.{IsCounted, PutsLine, kept_octets, message_lines, records_from}
use Rattle.krb_run.proofs.FirstOctets.{first-both, first-kept}
use Rattle.krb_tool.proofs.Messages.{too-long}
use Rattle.krb_run.proofs.SourceLineParts.{is_nothing, is_something}

-- ---- the octets that are kept of a line
-- they decide whether it is too long
record Decides (line : List ℕ) : Type 0 where
  passed : is_passed (take kept_octets line) ≡ is_passed line
  listing : (input : MessageInput) → input_listing input (take kept_octets line) ≡ input_listing input line

not_passed : (line : List ℕ) → nat_lt input_limit (length line) ≡ true → is_passed line ≡ false
not_passed line e = ap (λ b. not b && is_blank_line line) e

decides_by : (line : List ℕ) (b : Bool) → nat_lt input_limit (length line) ≡ b → Decides line
decides_by line true e =
    let long : nat_lt input_limit (length (take kept_octets line)) ≡ true =
    ap (nat_lt input_limit) (length-take kept_octets line) ∙ long_min (length line) e in
    record {
      passed = not_passed (take kept_octets line) long ∙ sym (not_passed line e);
      listing = λ input. too-long input (take kept_octets line) long ∙ sym (too-long input line e);
    }
  where
    long_min : (size : ℕ) → nat_lt input_limit size ≡ true → nat_lt input_limit (min kept_octets size) ≡ true
    long_min size e = grind (arith, nat_tests)
decides_by line false e =
    let all : take kept_octets line ≡ line = take_all kept_octets line (short (length line) e) in
    record {
      passed = ap is_passed all;
      listing = λ input. ap (input_listing input) all;
    }
  where
    short : (size : ℕ) → nat_lt input_limit size ≡ false → size ≤ kept_octets
    short size e = grind (arith, nat_tests)

decides : (line : List ℕ) → Decides line
decides line = decides_by line (nat_lt input_limit (length line)) refl

-- ---- the record of a line
with_record-line : (end : RunEnd) (seen : Seen) (size : ℕ) → with_record end (with_line seen size) ≡ with_line (with_record end seen) size
with_record-line run.Clean seen size = refl
with_record-line run.Refused seen size = refl
with_record-line run.RefusedAtOnce seen size = refl

-- a record more is counted, and nothing else
pub record CountsRecord (old new : Seen) : Type 0 where
  pub lines : new.lines ≡ old.lines
  pub octets : new.octets ≡ old.octets
  pub few : new.messages + new.refused ≤ old.messages + old.refused + 1

pub counts_record : (end : RunEnd) (seen : Seen) → CountsRecord seen (with_record end seen)
counts_record run.Clean seen = record { lines = refl; octets = refl; few = omega arith }
counts_record run.Refused seen = record { lines = refl; octets = refl; few = omega arith }
counts_record run.RefusedAtOnce seen = record { lines = refl; octets = refl; few = omega arith }

-- a line more is counted
pub with_line-is : (old new : Seen) (size : ℕ) → new.lines ≡ old.lines + 1 → new.octets ≡ old.octets + (size + 1) → new.messages ≡ old.messages → new.refused ≡ old.refused → new.is_refused_at_once ≡ old.is_refused_at_once → new ≡ with_line old size
with_line-is old new size lines octets messages refused at_once = λ i. record { lines = lines i; octets = (octets ∙ more old.octets size) i; messages = messages i; refused = refused i; is_refused_at_once = at_once i }
  where
    more : (all size : ℕ) → all + (size + 1) ≡ all + size + 1
    more all size = omega arith

-- a line that is passed over
passed-step : (request : LinesRequest) (seen : Seen) (line : List ℕ) (more : List (List ℕ)) → is_passed line ≡ true → records_from request seen (line ∷ more) ≡ after_text [] (records_from request (with_line seen (length line)) more)
passed-step request seen line more e =
    ap (λ b. when b (λ _. records_from request (with_line seen (length line)) more) (λ _. put_and request seen line more (listing_with request.label.now (input_listing (next_line request.label.now request.profile seen) line)))) e
  where
    put_and : LinesRequest → Seen → List ℕ → List (List ℕ) → FileListing → Converted Seen
    put_and request seen line more listing = after_text listing.text (records_from request (with_record listing.end (with_line seen (length line))) more)

-- one that has a record
put-step : (request : LinesRequest) (seen : Seen) (line : List ℕ) (more : List (List ℕ)) (added : List ℕ) (end : RunEnd) → is_passed line ≡ false → listing_with request.label.now (input_listing (next_line request.label.now request.profile seen) line) ≡ record { text = added; end = end } → records_from request seen (line ∷ more) ≡ after_text added (records_from request (with_line (with_record end seen) (length line)) more)
put-step request seen line more added end e is =
    ap (λ b. when b (λ _. records_from request (with_line seen (length line)) more) (λ _. after_text (listing_with request.label.now (input_listing (next_line request.label.now request.profile seen) line)).text (records_from request (with_record (input_listing (next_line request.label.now request.profile seen) line).end (with_line seen (length line))) more))) e
    ∙ ap (λ listing. after_text listing.text (records_from request (with_record listing.end (with_line seen (length line))) more)) is
    ∙ ap (λ s. after_text added (records_from request s more)) (with_record-line end seen (length line))

-- the line is passed over
pub PutsLine-passed : (lister : LineLister) → is_passed lister.line.items ≡ true → PutsLine lister lister
PutsLine-passed lister passed = record {
  added = [];
  text = sym (append-nil lister.text);
  line = refl;
  size = refl;
  request = refl;
  octets = refl;
  lines = refl;
  few = omega arith;
  step = λ line more kept. passed-step lister.request lister.seen line more (sym ((decides line).passed) ∙ ap is_passed (sym kept) ∙ passed);
}

-- its record was added
pub PutsLine-made : (old new : LineLister) (octets : List ℕ) (ended : RunEnd) → is_passed old.line.items ≡ false → octets ≡ old.line.items
    → new.text ≡ old.text ++ line_of old.request.label.now (input_listing (next_line old.request.label.now old.request.profile old.seen) octets).shown
    → ended ≡ (input_listing (next_line old.request.label.now old.request.profile old.seen) octets).end
    → new.seen ≡ with_record ended old.seen → new.line ≡ old.line → new.size ≡ old.size → new.request ≡ old.request → PutsLine old new
PutsLine-made old new octets ended passed same text end seen line size request =
    let label : Label = old.request.label.now in
    let input : MessageInput = next_line label old.request.profile old.seen in
    let counted = counts_record ended old.seen in
    record {
      added = line_of label (input_listing input octets).shown;
      text = text;
      line = line;
      size = size;
      request = request;
      octets = ap (λ s. s.octets) seen ∙ counted.octets;
      lines = ap (λ s. s.lines) seen ∙ counted.lines;
      few = omega (arith, ap (λ s. s.messages) seen, ap (λ s. s.refused) seen, counted.few);
      step = λ whole more kept.
          put-step old.request old.seen whole more (line_of label (input_listing input octets).shown) ended
          (sym ((decides whole).passed) ∙ ap is_passed (sym kept) ∙ passed)
          (ap (listing_with label) (sym ((decides whole).listing input) ∙ ap (input_listing input) (sym kept ∙ sym same)) ∙ (λ i. record { text = line_of label (input_listing input octets).shown; end = sym end i }))
          ∙ ap (λ s. after_text (line_of label (input_listing input octets).shown) (records_from old.request (with_line s (length whole)) more)) (sym seen);
    }

-- it has ended
pub ends-put : (old between new : LineLister) → IsCounted old → PutsLine old between → new.text ≡ between.text → new.request ≡ between.request → new.line.items ≡ [] → new.size ≡ 0 → new.seen ≡ with_line between.seen between.size → EndsLine message_lines old new true
ends-put old between new c p text request line size seen =
    let octets : new.seen.octets ≡ old.seen.octets + old.size + 1 = ap (λ s. s.octets) seen ∙ (λ i. p.octets i + p.size i + 1) in
    let lines : new.seen.lines ≡ old.seen.lines + 1 = ap (λ s. s.lines) seen ∙ ap (λ n. n + 1) p.lines in
    let few : new.seen.messages + new.seen.refused ≤ old.seen.messages + old.seen.refused + 1 = omega (arith, ap (λ s. s.messages) seen, ap (λ s. s.refused) seen, p.few) in
    record {
      added = p.added;
      text = text ∙ p.text;
      request = request ∙ p.request;
      holds = record { kept = line; size = size };
      rest = λ whole more held.
          p.step whole more held.kept
          ∙ ap (λ s. after_text p.added (records_from old.request s more)) (ap (with_line between.seen) (sym held.size ∙ sym p.size) ∙ sym seen)
          ∙ ap (λ q. after_text p.added (records_from q new.seen more)) (sym (request ∙ p.request));
      none = refl;
      few = omega (arith, octets, size);
      follows = (record { lines = omega (arith, lines, octets, c.lines); records = omega (arith, lines, few, c.records) }, tt, λ line held. tt);
    }

-- ---- octets of a line came
pub adds-octets : (old new : LineLister) (octets : List ℕ) (count : ℕ) → new.line.items ≡ old.line.items ++ take count octets → count ≡ min (length octets) (kept_octets - length old.line.items) → new.size ≡ old.size + length octets → new.request ≡ old.request → new.seen ≡ old.seen → new.text ≡ old.text → Adds message_lines old octets new true
adds-octets old new octets count line is size request seen text = record {
  request = request;
  text = text;
  holds = λ last held. record {
    kept =
        line
        ∙ first-kept kept_octets old.line.items octets count (omega (arith, ap length held.kept, length-take kept_octets last)) is
        ∙ ap (λ l. take kept_octets (l ++ octets)) held.kept
        ∙ first-both kept_octets last octets;
    size = size ∙ ap (λ n. n + length octets) held.size ∙ sym (length-append last octets);
  };
  few = omega (arith, size, ap (λ s. s.octets) seen);
  grows = record {
    rest = λ lines. λ i. records_from (request i) (seen i) lines;
    goes_on = λ g. (
      record {
        lines = subst (λ s. s.lines ≤ s.octets) (sym seen) g.0.lines;
        records = subst (λ s. s.messages + s.refused ≤ s.lines) (sym seen) g.0.records;
      },
      tt,
      λ last held. tt,
    );
  };
}

-- ---- the last line
-- no line ends a run
never_stopped : (lister : LineLister) → IsStopped message_lines lister → ⊥
never_stopped lister s = s.fault tt

not_some : {A : Type 0} {value : A} → None ≡ Some value → ⊥
not_some e = cc

first_of : List ℕ → Option ℕ
first_of [] = None
first_of (octet ∷ octets) = Some octet

nothing_kept : (last : List ℕ) → take kept_octets last ≡ [] → last ≡ []
unfolding first_of
nothing_kept [] e = refl
nothing_kept (octet ∷ last) e = absurd (not_some (sym (ap first_of e)))

pub has-line : (lister : LineLister) (empty : Bool) → empty ≡ (length lister.line.items == 0) → HasLine message_lines lister (not empty)
has-line lister empty is = by empty (sym is)
  where
    by : (empty : Bool) → (length lister.line.items == 0) ≡ empty → HasLine message_lines lister (not empty)
    by true e = λ c line held. nothing_kept line (sym held.kept ∙ is_nothing lister.line.items e)
    by false e = (λ held. is_something lister.line.items e held.kept, never_stopped lister)

-- ---- a run
-- no line ends it, and none is too long
abbrev pub NoneEnds : List ℕ → Type 0
NoneEnds text = Unit {0} × Unit {0}

pub lists-lines : (label : Label) (profile : Profile) (had left written_before written_after : Option (List ℕ)) (ended : RunEnd) → Converts (lines_listed label profile) NoneEnds had left written_before written_after ended → ListsLines label profile had left written_before written_after ended
lists-lines label profile had left written_before written_after ended c = record {
  read = c.read;
  taken = c.taken;
  added = c.added;
  ended_so = c.ended_so;
  all_read = λ right. c.all_read (tt, tt);
  stops = record { prefix = c.stops.prefix; piece = c.stops.piece; parts = c.stops.parts; goes_on = tt; short = c.stops.short };
}
