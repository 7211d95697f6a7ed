-- Each line of the listing of the messages that lines spell is one.
use Rattle.std.proofs.Common.{ℕ, ◌+◌, ◌^◌, ◌<◌, ◌≤◌, ◌==◌, Bool, true, false, List, [], ◌∷◌, length, arith}
use Rattle.std.proofs.lemmas.Bool.{cond_both}
use Rattle.std.specs.List.{AllByRecursion, onto_first}
use Rattle.krb_der.specs.Octets.{AreOctets, when}
use Rattle.krb_der.specs.declared.profile.Profile.{Profile}
use Rattle.krb_record.specs.Labels.{Label}
use Rattle.krb_record.specs.Streams.{counted_end_record}
use Rattle.krb_run.specs.Conversions.{Converted, after_text}
use Rattle.krb_run.specs.TextLines.{lines_of, parts, without_empty_last}
use Rattle.krb_tool.specs.GoingOn.{counted_end_line}
use Rattle.krb_tool.specs.MessageLines.{is_passed, lines_listed, next_line, none_seen, records_of, with_line, with_record}
use Rattle.krb_tool.specs.Messages.{OneRecord, input_listing, listing_with}
use Rattle.krb_tool.proofs.MessageLines.{counts_record}
use Rattle.krb_tool_laws.specs.Listings.{AreLinesOf, AreRead, IsNamed, MessagesAreLines}
use Rattle.krb_tool_laws.proofs.InForms.{base_in, one_in}
use Rattle.krb_tool_laws.proofs.Lines.{a_line, and_lines, no_lines}
use Rattle.krb_tool_laws.proofs.ListedMessages.{IsGood, Premises, good_line, input_is, message_is, octets_listed}

-- ---- the lines of a text
-- how many octets they have, with a line feed after each
abbrev room : List (List ℕ) → ℕ
room [] = 0
room (line ∷ lines) = length line + 1 + room lines

-- they are octets, at most so many
abbrev AreFew : ℕ → List (List ℕ) → Type 0
AreFew most lines = AllByRecursion AreOctets lines × (room lines ≤ most)

one_more : (octet most : ℕ) (all : List (List ℕ)) → octet < 256 → 0 < most → AreFew most all → AreFew (most + 1) (onto_first octet all)
one_more octet most [] small some are = (((small, tt), tt), omega (arith, some))
one_more octet most (line ∷ lines) small some are = (((small, are.0.0), are.0.1), omega (arith, are.1))

few_parts : (text : List ℕ) → AreOctets text → AreFew (length text + 1) (parts text)
few_parts [] are = ((tt, tt), omega arith)
few_parts (octet ∷ text) are =
    let others = few_parts text are.1 in
    cond_both {A = List (List ℕ)} (octet == 10) ([] ∷ parts text) (onto_first octet (parts text)) (λ all. AreFew (length (octet ∷ text) + 1) all) (λ t. ((tt, others.0), omega (arith, others.1)))
    (λ t. let more = one_more octet (length text + 1) (parts text) are.0 (omega arith) others in (more.0, omega (arith, more.1)))

without_last : (most : ℕ) (lines : List (List ℕ)) → AreFew most lines → AreFew most (without_empty_last lines)
without_last most [] are = are
without_last most ([] ∷ []) are = (tt, omega arith)
without_last most ([] ∷ next ∷ lines) are =
    let others = without_last (room (next ∷ lines)) (next ∷ lines) (are.0.1, omega arith) in
    ((are.0.0, others.0), omega (arith, are.1, others.1))
without_last most ((octet ∷ line) ∷ lines) are =
    let others = without_last (room lines) lines (are.0.1, omega arith) in
    ((are.0.0, others.0), omega (arith, are.1, others.1))

few_lines : (text : List ℕ) → AreOctets text → AreFew (length text + 1) (lines_of text)
few_lines text are = without_last (length text + 1) (parts text) (few_parts text are)

-- ---- their records
module _ (p : Premises) (label : Label) (named : IsNamed label) (profile : Profile) where
  either : {A : Type 0} (test : Bool) (one other : Unit {0} → Converted A) → AreLinesOf label.form (one tt).text → AreLinesOf label.form (other tt).text → AreLinesOf label.form (when test one other).text
  either true one other a b = a
  either false one other a b = b

  bounded : {A : Type 0} (test : Bool) (one other : Unit {0} → Converted A) (count : Converted A → ℕ) (most : ℕ) → count (one tt) ≤ most → count (other tt) ≤ most → count (when test one other) ≤ most
  bounded true one other count most a b = a
  bounded false one other count most a b = b

  count_line : (messages refused : ℕ) → messages < 10 ^ 64 → refused < 10 ^ 64 → AreLinesOf label.form (counted_end_line label messages refused)
  count_line messages refused m r = a_line label named (counted_end_record messages refused) (one_in (λ f. counted_end_record messages refused) label.form named.0 (p.counted_line_is (base_in label.form) messages refused)) (λ json. p.ends_json.counted_stream messages refused m r)

  -- after what was seen, with which these lines are few
  records_are : (seen : _) (lines : List (List ℕ)) → AllByRecursion AreOctets lines → (next_line label profile seen).at + room lines < 10 ^ 64 → seen.lines + room lines < 10 ^ 64 → AreLinesOf label.form (records_of label profile seen lines).text
  records_are seen [] are octets counted = no_lines label.form
  records_are seen (line ∷ lines) are octets counted =
      let its : OneRecord = input_listing (next_line label profile seen) line in
      let good : IsGood label.form its = input_is p (next_line label profile seen) line (record { at = omega (arith, octets); length = omega (arith, octets) }) (omega (arith, counted)) are.0 in
      let now = counts_record its.end (with_line seen (length line)) in
      either (is_passed line) (λ _. records_of label profile (with_line seen (length line)) lines) (λ _. after_text (listing_with label its).text (records_of label profile (with_record its.end (with_line seen (length line))) lines))
      (records_are (with_line seen (length line)) lines are.1 (omega (arith, octets)) (omega (arith, counted)))
      (and_lines label.form (listing_with label its).text (records_of label profile (with_record its.end (with_line seen (length line))) lines).text (good_line label its named good)
      (records_are (with_record its.end (with_line seen (length line))) lines are.1 (omega (arith, octets, now.octets)) (omega (arith, counted, now.lines))))

  -- and how many records there are then
  few_records : (seen : _) (lines : List (List ℕ)) → (records_of label profile seen lines).end.messages + (records_of label profile seen lines).end.refused ≤ seen.messages + seen.refused + room lines
  few_records seen [] = omega arith
  few_records seen (line ∷ lines) =
      let its : OneRecord = input_listing (next_line label profile seen) line in
      let now = counts_record its.end (with_line seen (length line)) in
      bounded (is_passed line) (λ _. records_of label profile (with_line seen (length line)) lines) (λ _. after_text (listing_with label its).text (records_of label profile (with_record its.end (with_line seen (length line))) lines))
      (λ records. records.end.messages + records.end.refused) (seen.messages + seen.refused + room (line ∷ lines))
      (omega (arith, few_records (with_line seen (length line)) lines))
      (omega (arith, few_records (with_record its.end (with_line seen (length line))) lines, now.few))

lines_are : Premises → (label : Label) (profile : Profile) (text : List ℕ) → IsNamed label → AreRead text → AreLinesOf label.form (lines_listed label profile text).text
unfolding lines_listed
lines_are p label profile text named are =
    let few = few_lines text are.0 in
    let counts = few_records p label named profile none_seen (lines_of text) in
    let records = records_of label profile none_seen (lines_of text) in
    and_lines label.form records.text (counted_end_line label records.end.messages records.end.refused) (records_are p label named profile none_seen (lines_of text) few.0 (omega (arith, few.1, are.1)) (omega (arith, few.1, are.1)))
    (count_line p label named profile records.end.messages records.end.refused (omega (arith, few.1, are.1, counts)) (omega (arith, few.1, are.1, counts)))

pub messages_are_lines : Premises → MessagesAreLines
messages_are_lines p = record { of_octets = octets_listed p; of_input = message_is p; of_lines = lines_are p }
