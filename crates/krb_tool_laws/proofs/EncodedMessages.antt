-- What is encoded is messages of the profile.
use Rattle.std.proofs.Common.{◌≡◌, ℕ, ◌+◌, ◌^◌, ◌<◌, ◌⊎◌, inl, inr, Bool, true, false, List, [], ◌∷◌, ◌++◌, length, map, None, Result, Ok, Err, refl, sym, ◌∙◌, ap, subst, arith, append-nil}
use Rattle.std.specs.Prelude.{nat_lt}
use Rattle.std.specs.List.{AllByRecursion, flat_map}
use Rattle.krb_der.specs.Octets.{AreOctets, when}
use Rattle.krb_der.specs.declared.profile.Profile.{Profile}
use Rattle.krb_msg.specs.Grammar.{messages}
use Rattle.krb_msg.specs.Judgement.{Done, message_outcome}
use Rattle.krb_msg.specs.Stream.{Boundary, Frames, with_first, frames}
use Rattle.krb_msg.specs.Views.{kind_of, kind_term_in, message_der, message_value_in, IsInProfile}
use Rattle.krb_msg.specs.declared.message.Message.{Message}
use Rattle.krb_msg.specs.inner.MessagePrefixFree.{message_begins}
use Rattle.krb_msg.proofs.Grammars.{one_of_is_octets, whole_outcome}
use Rattle.krb_msg.proofs.Judged.{message_der_in, message_is_whole, messages_are_grammar}
use Rattle.krb_msg.proofs.KindLaws.{kind_is_one_of}
use Rattle.krb_msg.proofs.MessageOfDer.{message_of_der_is_message}
use Rattle.krb_msg.proofs.Messages.{IsWhole-message}
use Rattle.krb_msg.proofs.Streams.{IsMessage, frames-frame}
use Rattle.krb_frame.specs.Frame.{framed}
use Rattle.krb_json.specs.Laws.{IsSpelled, LinesSpellMessages, LinesSpellOctets}
use Rattle.krb_json.specs.Lines.{LineFault, line_of, line_spells}
use Rattle.krb_json.specs.Tickets.{as_octets, line_octets}
use Rattle.krb_json.specs.Unencrypted.{unencrypted_in}
use Rattle.krb_run.specs.Conversions.{Converted}
use Rattle.krb_convert.specs.Decoding as decoding
use Rattle.krb_convert.specs.Decoding.{AllAreEncrypted, decoded, ending_at}
use Rattle.krb_run.specs.TextLines.{lines_of}
use Rattle.krb_convert.specs.Encoding.{Ending, All, LongLine, SecondMessage, most_of_line, message_and, encoded_lines, encoded}
use Rattle.krb_run.specs.TextLines.{is_blank_line}
use Rattle.krb_convert.specs.Laws.{AreFrames, EncodedIsMessages, IsAlone}
use Rattle.krb_tool.specs.Paths.{found_path}
use Rattle.krb_convert.specs.inner.JsonLines.{octets_line}
use Rattle.krb_convert.proofs.DecodedFrames.{decoded-all, stream_ending}

-- ---- a message in a frame
are_octets : (profile : Profile) (m : Message) → IsInProfile profile m → AreOctets (message_der m)
are_octets profile m p =
    let form = message_der_in profile m in
    subst AreOctets form (one_of_is_octets (messages profile) (messages_are_grammar profile) (kind_term_in profile (kind_of m)) (kind_is_one_of profile (kind_of m)) (message_value_in profile m) p.fits (omega (arith, p.short, ap length form)))

pub is_message : (profile : Profile) (limit : ℕ) (m : Message) → IsSpelled profile limit m → IsMessage (messages profile) limit (message_der m)
is_message profile limit m s =
    let done = whole_outcome (message_outcome (messages profile) (length (message_der m)) (message_der m)) (message_is_whole profile m s.in_profile) in
    let whole = IsWhole-message (messages profile) (length (message_der m)) (message_der m) done.0 (are_octets profile m s.in_profile) done.1 in
    record { some = message_begins m; short = s.in_profile.short; within = s.short; whole = done.1 ∙ ap Done (whole.2.fills refl) }

frames_of : (profile : Profile) (limit : ℕ) (ms : List Message) → AllByRecursion (IsSpelled profile limit) ms → frames (messages profile) limit (flat_map (λ m. framed (message_der m)) ms) ≡ record { contents = map message_der ms; end = Boundary }
unfolding frames
frames_of profile limit [] each = refl
frames_of profile limit (m ∷ ms) each =
    frames-frame (messages profile) limit (message_der m) (flat_map (λ n. framed (message_der n)) ms) (is_message profile limit m each.0)
    ∙ ap (with_first (message_der m)) (frames_of profile limit ms each.1)

-- ---- what is decoded of frames
all_encrypted : (profile : Profile) (limit : ℕ) (ms : List Message) → AllByRecursion (IsSpelled profile limit) ms → AllByRecursion (λ m. unencrypted_in m ≡ None) ms → AllAreEncrypted (map message_der ms)
all_encrypted profile limit [] each encrypted = tt
all_encrypted profile limit (m ∷ ms) each encrypted =
    (ap unencrypted_in (message_of_der_is_message profile m each.0.in_profile) ∙ encrypted.0, all_encrypted profile limit ms each.1 encrypted.1)

all_lines : (profile : Profile) (limit : ℕ) (ms : List Message) → AllByRecursion (IsSpelled profile limit) ms → flat_map octets_line (map message_der ms) ≡ flat_map line_of ms
all_lines profile limit [] each = refl
all_lines profile limit (m ∷ ms) each = (λ i. line_of (message_of_der_is_message profile m each.0.in_profile i) ++ all_lines profile limit ms each.1 i)

ending-boundary : (profile : Profile) (limit : ℕ) (octets : List ℕ) (found : Frames) → frames (messages profile) limit octets ≡ found → found.end ≡ Boundary → stream_ending profile limit octets ≡ decoding.All
unfolding stream_ending
ending-boundary profile limit octets found is boundary =
    ap (λ f. ending_at (length f.contents) f.end (found_path profile f octets)) is ∙ ap (λ end. ending_at (length found.contents) end (found_path profile found octets)) boundary

decoded_of : (profile : Profile) (limit : ℕ) (octets : List ℕ) (ms : List Message) → frames (messages profile) limit octets ≡ record { contents = map message_der ms; end = Boundary } → AllByRecursion (IsSpelled profile limit) ms → AllByRecursion (λ m. unencrypted_in m ≡ None) ms → decoded profile limit octets ≡ record { text = flat_map line_of ms; end = decoding.All }
decoded_of profile limit octets ms found each encrypted =
    let all = decoded-all profile limit octets (map message_der ms) (all_encrypted profile limit ms each encrypted) (ap (λ f. f.contents) found) in
    let text = all_lines profile limit ms each in
    let end = ending-boundary profile limit octets (record { contents = map message_der ms; end = Boundary }) found refl in
    all ∙ (λ i. record { text = text i; end = end i })

-- ---- lines
abbrev second : ℕ → Converted Ending
second number = record { text = []; end = SecondMessage number }

abbrev too_long : (limit number : ℕ) → Converted Ending
too_long limit number = record { text = []; end = LongLine number (most_of_line limit) }

-- the messages of which octets are the frames
record Messages (profile : Profile) (limit : ℕ) (octets : List ℕ) : Type 0 where
  those : List Message
  spelled : AllByRecursion (IsSpelled profile limit) those
  form : octets ≡ flat_map (λ m. framed (message_der m)) those

are_frames : (profile : Profile) (limit : ℕ) (octets : List ℕ) → Messages profile limit octets → AreFrames profile limit octets
are_frames profile limit octets m =
    let found = ap (frames (messages profile) limit) m.form ∙ frames_of profile limit m.those m.spelled in
    record { framed_messages = m.those; spelled = m.spelled; form = m.form; found = found; lines = decoded_of profile limit octets m.those found m.spelled }

module _ (spell : LinesSpellMessages) (spell_octets : LinesSpellOctets) (profile : Profile) (limit : ℕ) (small : limit < 2 ^ 31) where
  -- as frames
  none : Messages profile limit []
  none = record { those = []; spelled = tt; form = refl }

  message_first : (number : ℕ) (line : List ℕ) (spells : Result Message LineFault) (others : Converted Ending) → line_spells profile limit line ≡ spells → Messages profile limit others.text → Messages profile limit (message_and true number (as_octets spells) others).text
  message_first number line (Ok m) others is rest = record {
    those = m ∷ rest.those;
    spelled = (spell profile limit line m small is, rest.spelled);
    form = ap (λ text. framed (message_der m) ++ text) rest.form;
  }
  message_first number line (Err fault) others is rest = none

  line_first : (number : ℕ) (line : List ℕ) (long blank : Bool) (after others : Converted Ending) → Messages profile limit after.text → Messages profile limit others.text → Messages profile limit (when long (λ _. too_long limit number) (λ _. when blank (λ _. after) (λ _. message_and true number (as_octets (line_spells profile limit line)) others))).text
  line_first number line true blank after others a o = none
  line_first number line false true after others a o = a
  line_first number line false false after others a o = message_first number line (line_spells profile limit line) others refl o

  all_lines_first : (number : ℕ) (came : Bool) (lines : List (List ℕ)) → Messages profile limit (encoded_lines true profile limit number came lines).text
  all_lines_first number came [] = none
  all_lines_first number came (line ∷ lines) =
      line_first number line (nat_lt (most_of_line limit) (length line)) (is_blank_line line) (encoded_lines true profile limit (number + 1) came lines) (encoded_lines true profile limit (number + 1) true lines) (all_lines_first (number + 1) came lines) (all_lines_first (number + 1) true lines)

  pub stream_encoded : (text : List ℕ) → AreFrames profile limit (encoded true profile limit text).text
  unfolding encoded
  stream_encoded text = are_frames profile limit (encoded true profile limit text).text (all_lines_first 1 false (lines_of text))

  -- or one alone
  abbrev IsOne : Converted Ending → Type 0
  IsOne converted = ((converted.text ≡ []) × (converted.end ≡ All → ⊥)) ⊎ IsAlone profile limit converted.text

  blank_or_second : (long blank : Bool) (number : ℕ) (after : Converted Ending) → after.text ≡ [] → (when long (λ _. too_long limit number) (λ _. when blank (λ _. after) (λ _. second number))).text ≡ []
  blank_or_second true blank number after empty = refl
  blank_or_second false true number after empty = empty
  blank_or_second false false number after empty = refl

  nothing_after : (number : ℕ) (lines : List (List ℕ)) → (encoded_lines false profile limit number true lines).text ≡ []
  nothing_after number [] = refl
  nothing_after number (line ∷ lines) = blank_or_second (nat_lt (most_of_line limit) (length line)) (is_blank_line line) number (encoded_lines false profile limit (number + 1) true lines) (nothing_after (number + 1) lines)

  message_alone : (number : ℕ) (line : List ℕ) (spells : Result (List ℕ) LineFault) (others : Converted Ending) → line_octets profile limit line ≡ spells → others.text ≡ [] → IsOne (message_and false number spells others)
  message_alone number line (Ok octets) others is rest =
      inr (subst (IsAlone profile limit) (sym (ap (λ text. octets ++ text) rest ∙ append-nil octets)) (spell_octets.some profile limit line octets small is))
  message_alone number line (Err fault) others is rest = inl (refl, λ e. cc)

  line_alone : (number : ℕ) (line : List ℕ) (long blank : Bool) (after others : Converted Ending) → IsOne after → others.text ≡ [] → IsOne (when long (λ _. too_long limit number) (λ _. when blank (λ _. after) (λ _. message_and false number (line_octets profile limit line) others)))
  line_alone number line true blank after others a rest = inl (refl, λ e. cc)
  line_alone number line false true after others a rest = a
  line_alone number line false false after others a rest = message_alone number line (line_octets profile limit line) others refl rest

  lines_alone : (number : ℕ) (lines : List (List ℕ)) → IsOne (encoded_lines false profile limit number false lines)
  lines_alone number [] = inl (refl, λ e. cc)
  lines_alone number (line ∷ lines) =
      line_alone number line (nat_lt (most_of_line limit) (length line)) (is_blank_line line) (encoded_lines false profile limit (number + 1) false lines) (encoded_lines false profile limit (number + 1) true lines) (lines_alone (number + 1) lines) (nothing_after (number + 1) lines)

  alone : (text : List ℕ) → IsOne (encoded false profile limit text)
  unfolding encoded
  alone text = lines_alone 1 (lines_of text)

  some_of : (converted : Converted Ending) → IsOne converted → (converted.text ≡ []) ⊎ IsAlone profile limit converted.text
  some_of converted (inl none) = inl none.0
  some_of converted (inr one) = inr one

  all_of : (converted : Converted Ending) → IsOne converted → converted.end ≡ All → IsAlone profile limit converted.text
  all_of converted (inl none) e = absurd (none.1 e)
  all_of converted (inr one) e = one

  pub some_encoded : (text : List ℕ) → ((encoded false profile limit text).text ≡ []) ⊎ IsAlone profile limit (encoded false profile limit text).text
  some_encoded text = some_of (encoded false profile limit text) (alone text)

  pub all_encoded : (text : List ℕ) → (encoded false profile limit text).end ≡ All → IsAlone profile limit (encoded false profile limit text).text
  all_encoded text e = all_of (encoded false profile limit text) (alone text) e

pub encoded_is_messages : LinesSpellMessages → LinesSpellOctets → EncodedIsMessages
encoded_is_messages spell spell_octets = record {
  streams = λ profile limit text small. stream_encoded spell spell_octets profile limit small text;
  some = λ profile limit text small. some_encoded spell spell_octets profile limit small text;
  all = λ profile limit text small. all_encoded spell spell_octets profile limit small text;
}
