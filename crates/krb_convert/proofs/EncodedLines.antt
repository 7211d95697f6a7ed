-- Lines that are encoded, piece by piece.
use Rattle.std.proofs.Common.{◌≡◌, ℕ, ◌+◌, ◌^◌, ◌<◌, ◌≤◌, ◌⊎◌, inl, inr, Bool, true, false, List, [], ◌∷◌, ◌++◌, length, Option, Some, None, refl, sym, ◌∙◌, ap, subst, arith, append-nil, length-append}
use Rattle.std.specs.Option.{option_map}
use Rattle.std.proofs.lemmas.Bool.Decides.{nat_tests}
use Rattle.std.specs.Prelude.{◌&&◌, ◌==◌, nat_lt, not, is_some, IsSome, IfSome, Result, Ok, Err}
use Rattle.krb_run.specs.Conversions.{Converted, Converts, FailsToConvert, after_text}
use Rattle.krb_der.specs.declared.profile.Profile.{Profile}
use Rattle.krb_convert.specs.Encoding.{Encodes, Ending, FailsToEncode, GoesOn as Goes, encoded, ended_encoded, Faulty, LongLine, SecondMessage, line_spelled, most_of_line, written_as, message_and, ending_of, ending_after, IsNoFault}
use Rattle.krb_run.specs.TextLines.{is_blank_line, lines_of}
use Rattle.krb_der.specs.Octets.{when}
use Rattle.krb_json.specs.Lines as lines
use Rattle.krb_json.specs.Laws.{AreOfMessage, AreOfTicket, LinesSpellMessages, LinesSpellOctets}
use Rattle.krb_json.specs.Reading.{AreSpelled, line_fault_of}
use Rattle.krb_json.specs.Tickets.{line_octets}
use Rattle.krb_json.specs.declared.line_fault.LineFault.{LineFault}
use Rattle.krb_json.specs.declared.line_fault.LineFault.TheVariants as wrong
use Rattle.krb_convert.specs.declared.encode_run.EncodeEnd.{EncodeEnd}
use Rattle.krb_convert.specs.declared.json_reader.EncodeRequest.{EncodeRequest}
use Rattle.krb_convert.specs.declared.json_reader.JsonReader.{JsonReader}
use Rattle.krb_convert.specs.inner.EncodedLines.{KeepsFault, TakesLine, encoded_from, json_reading, read_and, rest_by, rest_of}
use Rattle.krb_run.specs.LineReaders.{Adds, EndsLine, Follows, GoesOn, HasLine, closed, line_rules}
use Rattle.krb_run.specs.Streams.{FailsBy, ListsBy}
use Rattle.krb_run.specs.declared.run.RunFault.{RunFault}
use Rattle.krb_run.proofs.ConversionRuns.{Converts-listed, FailsToConvert-by}
use Rattle.krb_run.proofs.SourceLineParts.{is_nothing, is_something}

-- ---- a line
abbrev second : ℕ → Converted Ending
second number = record { text = []; end = SecondMessage number }

abbrev pub faulty : ℕ → Option lines.LineFault → Converted Ending
faulty number found = record { text = []; end = Faulty number found }

abbrev too_long : EncodeRequest → ℕ → Converted Ending
too_long request number = record { text = []; end = LongLine number (most_of_line request.limit) }

-- what becomes of one that is not too long
abbrev not_long : (request : EncodeRequest) (number : ℕ) (came : Bool) (line : List ℕ) (more : List (List ℕ)) → Converted Ending
not_long request number came line more =
    when (is_blank_line line) (λ _. encoded_from request (number + 1) came more) (λ _. when (not request.is_framed && came) (λ _. second number) (λ _. read_and request number line (encoded_from request (number + 1) true more)))

-- one that is too long
pub long-step : (request : EncodeRequest) (number : ℕ) (came : Bool) (line : List ℕ) (more : List (List ℕ)) → most_of_line request.limit < length line → encoded_from request number came (line ∷ more) ≡ too_long request number
long-step request number came line more long =
    let is : nat_lt (most_of_line request.limit) (length line) ≡ true = grind (arith, nat_tests, long) in
    ap (λ b. when b (λ _. too_long request number) (λ _. not_long request number came line more)) is

module _ (request : EncodeRequest) (number : ℕ) (came : Bool) (line : List ℕ) (more : List (List ℕ)) (short : length line ≤ most_of_line request.limit) where
  short-step : encoded_from request number came (line ∷ more) ≡ not_long request number came line more
  short-step =
      let is : nat_lt (most_of_line request.limit) (length line) ≡ false = grind (arith, nat_tests, short) in
      ap (λ b. when b (λ _. too_long request number) (λ _. not_long request number came line more)) is

  -- a blank one
  pub blank-step : is_blank_line line ≡ true → encoded_from request number came (line ∷ more) ≡ after_text [] (encoded_from request (number + 1) came more)
  blank-step e =
      short-step ∙ ap (λ b. when b (λ _. encoded_from request (number + 1) came more) (λ _. when (not request.is_framed && came) (λ _. second number) (λ _. read_and request number line (encoded_from request (number + 1) true more)))) e

  -- one after the message that is all
  pub second-step : is_blank_line line ≡ false → (not request.is_framed && came) ≡ true → encoded_from request number came (line ∷ more) ≡ second number
  second-step blank full =
      short-step ∙ (λ i. when (blank i) (λ _. encoded_from request (number + 1) came more) (λ _. when (full i) (λ _. second number) (λ _. read_and request number line (encoded_from request (number + 1) true more))))

  -- one that is read
  pub read-step : is_blank_line line ≡ false → (not request.is_framed && came) ≡ false → encoded_from request number came (line ∷ more) ≡ read_and request number line (encoded_from request (number + 1) true more)
  read-step blank full =
      short-step ∙ (λ i. when (blank i) (λ _. encoded_from request (number + 1) came more) (λ _. when (full i) (λ _. second number) (λ _. read_and request number line (encoded_from request (number + 1) true more))))

pub message-step : (is_framed : Bool) (number : ℕ) (spells : Result (List ℕ) lines.LineFault) (octets : List ℕ) (others : Converted Ending) → spells ≡ Ok octets → message_and is_framed number spells others ≡ after_text (written_as is_framed octets) others
message-step is_framed number spells octets others e = ap (λ s. message_and is_framed number s others) e

pub fault-step : (is_framed : Bool) (number : ℕ) (spells : Result (List ℕ) lines.LineFault) (found : Option lines.LineFault) (others : Converted Ending) → IsSome found → IfSome found (λ fault. spells ≡ Err fault) → message_and is_framed number spells others ≡ faulty number found
fault-step is_framed number spells None others some e = absurd cc
fault-step is_framed number spells (Some fault) others some e = ap (λ s. message_and is_framed number s others) e

-- ---- the octets that a line spells are few
pub framed-short : LinesSpellMessages → (profile : Profile) (limit : ℕ) (line octets : List ℕ) → limit < 2 ^ 31 → AreSpelled (lines.line_spells profile limit line) octets → length octets < 2 ^ 31
framed-short spell profile limit line octets small a = let s = spell profile limit line a.message small a.spelled in omega (arith, s.short, small, ap length a.form)

pub alone-short : LinesSpellOctets → (profile : Profile) (limit : ℕ) (line octets : List ℕ) → limit < 2 ^ 31 → line_octets profile limit line ≡ Ok octets → length octets < 2 ^ 31
alone-short spell profile limit line octets small e = of (spell.some profile limit line octets small e)
  where
    of : AreOfMessage profile limit octets ⊎ AreOfTicket profile limit octets → length octets < 2 ^ 31
    of (inl m) = omega (arith, m.spelled.short, small, ap length m.form)
    of (inr t) = omega (arith, t.short, small)

pub found_some : (fault : LineFault) → (fault ≡ wrong.Memory → ⊥) → IsSome (line_fault_of fault)
found_some wrong.NotJson never = refl
found_some wrong.NotAMessage never = refl
found_some (wrong.At found) never = refl
found_some wrong.Memory never = absurd (never refl)

-- ---- the line of a reader
no_fault : (is_framed came : Bool) → IsNoFault (ending_after is_framed came)
no_fault true came = tt
no_fault false true = tt
no_fault false false = tt

not_kept : (reader : JsonReader) → reader.fault ≡ None → option_map ending_of reader.fault ≡ None
not_kept reader none = ap (option_map ending_of) none

-- it is blank
pub takes-blank : (reader : JsonReader) → reader.fault ≡ None → length reader.line.items ≤ most_of_line reader.request.limit → is_blank_line reader.line.items ≡ true → TakesLine reader reader true
takes-blank reader none short blank = record {
  added = [];
  text = sym (append-nil reader.text.items);
  request = refl;
  lines = refl;
  step = λ more. blank-step reader.request (reader.lines + 1) reader.came reader.line.items more short blank ∙ ap (λ fault. after_text [] (rest_by fault reader.request (reader.lines + 1 + 1) reader.came more)) (sym (not_kept reader none));
  fault = none;
}

-- it is at fault
pub takes-fault : (old new : JsonReader) (ending : Ending) → option_map ending_of new.fault ≡ Some ending → (IsNoFault ending → ⊥) → new.text ≡ old.text → new.request ≡ old.request → new.lines ≡ old.lines → ((more : List (List ℕ)) → encoded_from old.request (old.lines + 1) old.came (old.line.items ∷ more) ≡ record { text = []; end = ending }) → TakesLine old new false
takes-fault old new ending kept wrong text request lines step = record {
  added = [];
  text = ap (λ t. t.items) text ∙ sym (append-nil old.text.items);
  request = request;
  lines = lines;
  step = λ more. step more ∙ ap (λ fault. after_text [] (rest_by fault old.request (old.lines + 1 + 1) new.came more)) (sym kept);
  fault = (ending, kept, wrong);
}

-- it spells a message, whose octets were added
pub takes-message : (old new : JsonReader) (added : List ℕ) → new.fault ≡ None → new.came ≡ true → new.text.items ≡ old.text.items ++ added → new.request ≡ old.request → new.lines ≡ old.lines → ((more : List (List ℕ)) → encoded_from old.request (old.lines + 1) old.came (old.line.items ∷ more) ≡ after_text added (encoded_from old.request (old.lines + 1 + 1) true more)) → TakesLine old new true
takes-message old new added none came text request lines step = record {
  added = added;
  text = text;
  request = request;
  lines = lines;
  step = λ more. step more ∙ (λ i. after_text added (rest_by (sym (not_kept new none) i) old.request (old.lines + 1 + 1) (sym came i) more));
  fault = none;
}

-- others may follow, and no fault is found before they do
no_end : (reader : JsonReader) → reader.fault ≡ None → IsNoFault (rest_of reader []).end
no_end reader none =
    let rest : rest_of reader [] ≡ record { text = []; end = ending_after reader.request.is_framed reader.came } = ap (λ fault. rest_by fault reader.request (reader.lines + 1) reader.came []) (not_kept reader none) in
    subst (λ c. IsNoFault c.end) (sym rest) (no_fault reader.request.is_framed reader.came)

waits : (reader : JsonReader) → reader.fault ≡ None → length reader.line.items ≤ most_of_line reader.request.limit → GoesOn json_reading reader
waits reader none short = ((none, short), no_end reader none, λ line held. subst (λ l. length l ≤ most_of_line reader.request.limit) held short)

empty_short : (reader : JsonReader) → reader.line.items ≡ [] → length reader.line.items ≤ most_of_line reader.request.limit
empty_short reader empty = omega (arith, ap length empty)

follows : (new : JsonReader) (is_read : Bool) → new.line.items ≡ [] → KeepsFault new is_read → Follows json_reading new is_read
follows new true empty none = waits new none (empty_short new empty)
follows new false empty k = record { end = k.0; rest = λ lines. ap (λ fault. rest_by fault new.request (new.lines + 1) new.came lines) k.1; fault = k.2 }

-- ---- octets of it came
pub adds-some : (old new : JsonReader) (octets : List ℕ) → old.fault ≡ None → new.line.items ≡ old.line.items ++ octets → new.text ≡ old.text → new.request ≡ old.request → new.came ≡ old.came → new.lines ≡ old.lines → new.fault ≡ old.fault → length new.line.items ≤ most_of_line new.request.limit → Adds json_reading old octets new true
adds-some old new octets none line text request came lines fault short = record {
  request = request;
  text = ap (λ t. t.items) text;
  holds = λ before held. line ∙ ap (λ l. l ++ octets) held;
  few = omega (arith, lines);
  grows = record {
    rest = λ more. (λ i. rest_by (option_map ending_of (fault i)) (request i) (lines i + 1) (came i) more);
    goes_on = λ g. waits new (fault ∙ none) short;
  };
}

-- and now it is too long
pub adds-last : (old new : JsonReader) (octets : List ℕ) → old.fault ≡ None → new.line.items ≡ old.line.items ++ octets → new.text ≡ old.text → new.request ≡ old.request → new.lines ≡ old.lines → option_map ending_of new.fault ≡ Some (LongLine (old.lines + 1) (most_of_line old.request.limit)) → most_of_line old.request.limit < length new.line.items → Adds json_reading old octets new false
adds-last old new octets none line text request lines fault long = record {
  request = request;
  text = ap (λ t. t.items) text;
  holds = λ before held. line ∙ ap (λ l. l ++ octets) held;
  few = omega (arith, lines);
  grows = record {
    stopped = record {
      end = LongLine (old.lines + 1) (most_of_line old.request.limit);
      rest = λ more. ap (λ f. rest_by f new.request (new.lines + 1) new.came more) fault;
      fault = λ x. x;
    };
    long = λ before more held short. omega (arith, short, longer before more held);
    rest = λ before more others held.
        ap (λ f. rest_by f old.request (old.lines + 1) old.came (((before ++ octets) ++ more) ∷ others)) (not_kept old none)
        ∙ long-step old.request (old.lines + 1) old.came ((before ++ octets) ++ more) others (longer before more held);
  };
}
  where
    longer : (before more : List ℕ) → old.line.items ≡ before → most_of_line old.request.limit < length ((before ++ octets) ++ more)
    longer before more held =
        let all : length new.line.items ≡ length (before ++ octets) = ap length (line ∙ ap (λ l. l ++ octets) held) in
        omega (arith, long, all, length-append (before ++ octets) more)

-- what no lines become
pub nothing_after : (reader : JsonReader) → (rest_of reader []).text ≡ []
nothing_after reader = none (option_map ending_of reader.fault)
  where
    none : (fault : Option Ending) → (rest_by fault reader.request (reader.lines + 1) reader.came []).text ≡ []
    none None = refl
    none (Some ending) = refl

-- it has ended, and is counted
pub ends-taken : (old between new : JsonReader) (is_read : Bool) → old.fault ≡ None → TakesLine old between is_read → new.text ≡ between.text → new.request ≡ between.request → new.came ≡ between.came → new.fault ≡ between.fault → new.lines ≡ between.lines + 1 → new.line.items ≡ [] → EndsLine json_reading old new is_read
ends-taken old between new is_read none t text request came fault lines empty = record {
  added = t.added;
  text = ap (λ v. v.items) text ∙ t.text;
  request = request ∙ t.request;
  holds = empty;
  rest = λ line more held.
      ap (λ f. rest_by f old.request (old.lines + 1) old.came (line ∷ more)) (not_kept old none)
      ∙ ap (λ l. encoded_from old.request (old.lines + 1) old.came (l ∷ more)) (sym held)
      ∙ t.step more
      ∙ (λ i. after_text t.added (rest_by (option_map ending_of (sym fault i)) (sym (request ∙ t.request) i) (sym (lines ∙ ap (λ n. n + 1) t.lines) i + 1) (sym came i) more));
  none = nothing_after new;
  few = omega (arith, lines, t.lines);
  follows = follows new is_read empty (kept is_read t.fault);
}
  where
    kept : (is_read : Bool) → KeepsFault between is_read → KeepsFault new is_read
    kept true none = fault ∙ none
    kept false k = (k.0, ap (option_map ending_of) fault ∙ k.1, k.2)

-- a line that has not ended
pub not_at_fault : (fault : Option EncodeEnd) → is_some fault ≡ false → fault ≡ None
not_at_fault None e = refl
not_at_fault (Some fault) e = absurd cc

pub has-line : (reader : JsonReader) (empty : Bool) → reader.fault ≡ None → empty ≡ (length reader.line.items == 0) → HasLine json_reading reader (not empty)
has-line reader empty none is = by empty (sym is)
  where
    by : (empty : Bool) → (length reader.line.items == 0) ≡ empty → HasLine json_reading reader (not empty)
    by true e = λ is_open line held. sym held ∙ is_nothing reader.line.items e
    by false e = (is_something reader.line.items e, λ s. s.fault (subst (λ c. IsNoFault c.end) (s.rest []) (no_end reader none)))

-- none that is at fault may end
pub has-none : (reader : JsonReader) → is_some reader.fault ≡ true → HasLine json_reading reader false
has-none reader some = λ is_open line held. absurd (never (sym (ap is_some is_open.0) ∙ some))
  where
    never : false ≡ true → ⊥
    never e = cc

-- nothing came yet
pub start-is : (reader : JsonReader) (lines : List (List ℕ)) → reader.fault ≡ None → reader.text.items ≡ [] → reader.lines ≡ 0 → reader.came ≡ false → encoded_from reader.request 1 false lines ≡ after_text reader.text.items (rest_of reader lines)
start-is reader lines none text count came = λ i. after_text (sym text i) (rest_by (sym (not_kept reader none) i) reader.request (sym count i + 1) (sym came i) lines)

pub goes_on-start : (reader : JsonReader) → reader.fault ≡ None → reader.line.items ≡ [] → GoesOn json_reading reader
goes_on-start reader none empty = waits reader none (empty_short reader empty)

-- no text is added at the end
pub nothing_closes : (is_framed : Bool) (profile : Profile) (limit : ℕ) → (λ text. after_text (encoded is_framed profile limit text).text (record { text = []; end = (encoded is_framed profile limit text).end })) ≡ encoded is_framed profile limit
nothing_closes is_framed profile limit = λ i text. record { text = append-nil (encoded is_framed profile limit text).text i; end = (encoded is_framed profile limit text).end }

-- ---- a run
module _ (request : EncodeRequest) (had left written_before written_after : Option (List ℕ)) where
  abbrev convert : List ℕ → Converted Ending
  convert text = closed json_reading request (encoded_from request 1 false (lines_of text))

  -- that has ended
  pub encodes-listed : (ended : EncodeEnd) → ListsBy (line_rules json_reading request) had left written_before written_after ended → Encodes request.is_framed request.profile request.limit had left written_before written_after ended
  unfolding encoded ended_encoded
  encodes-listed ended l =
      subst (λ (convert : List ℕ → Converted Ending). Converts convert (Goes request.is_framed request.profile request.limit) had left written_before written_after (ending_of ended)) (nothing_closes request.is_framed request.profile request.limit)
      (Converts-listed convert (ended_encoded request.is_framed request.profile request.limit) (Goes request.is_framed request.profile request.limit) ending_of had left written_before written_after ended l)

  -- that has failed
  pub encodes-failed : (failed : RunFault) → FailsBy (line_rules json_reading request) had left written_before written_after failed → FailsToEncode request.is_framed request.profile request.limit had left written_before written_after failed
  unfolding encoded ended_encoded
  encodes-failed failed f =
      subst (λ (convert : List ℕ → Converted Ending). FailsToConvert (λ read. (convert read).text) (ended_encoded request.is_framed request.profile request.limit) had left written_before written_after failed) (nothing_closes request.is_framed request.profile request.limit)
      (FailsToConvert-by convert (ended_encoded request.is_framed request.profile request.limit) (Goes request.is_framed request.profile request.limit) ending_of had left written_before written_after failed f)
