-- Streams and messages that are decoded and encoded again.
use Rattle.std.proofs.Common.{◌≡◌, ℕ, ◌+◌, ◌^◌, ◌≤◌, ◌⊎◌, inl, inr, Bool, true, false, List, [], ◌∷◌, ◌++◌, length, take, drop, Option, Some, None, refl, sym, ◌∙◌, ap, subst, arith, append-nil, append_assoc, ne_eqb}
use Rattle.std.specs.Prelude.{◌==◌, ◌&&◌, not, map, nat_le, nat_lt, if◌then◌else◌, Ok}
use Rattle.std.specs.List.{All, AllByRecursion, flat_map}
use Rattle.std.proofs.lemmas.Bool.{cases_lt, cases_Bool}
use Rattle.std.proofs.lemmas.Bool.Decides.{nat_tests}
use Rattle.std.proofs.lemmas.List.Elements.{All-nil, All-cons}
use Rattle.std.proofs.lemmas.List.Splits.{slice_split_at}
use Rattle.json.specs.Print.{print_from}
use Rattle.krb_der.specs.Octets.{AreOctets, number}
use Rattle.krb_der.specs.declared.profile.Profile.{Profile}
use Rattle.krb_der.specs.declared.verdict.Refusal.{Refusal}
use Rattle.krb_der.specs.declared.why.Why.{Why}
use Rattle.krb_der.specs.declared.why.Why.TheVariants as why
use Rattle.krb_msg.specs.Grammar.{messages}
use Rattle.krb_msg.specs.Judgement.{Outcome, Open, Bad, Done, message_outcome, verdict_of}
use Rattle.krb_msg.specs.Laws.{AreMessage}
use Rattle.krb_msg.specs.Stream.{End, Boundary, Within, Refused, Frames, ends, frame_and, frames}
use Rattle.krb_msg.specs.Term.{Term}
use Rattle.krb_msg.specs.Views.{message_der, message_of_der}
use Rattle.krb_msg.specs.declared.message.Message.{Message}
use Rattle.krb_msg.proofs.FramePrefixes.{frames-length, frames-short}
use Rattle.krb_msg.proofs.Judged.{whole_is_message}
use Rattle.krb_msg.proofs.Streams.{IsMessage, IsParse, frames-parse}
use Rattle.krb_frame.specs.Frame.{framed}
use Rattle.krb_judge.specs.Parses.{refusal_of}
use Rattle.krb_judge.proofs.Slices.{message_in}
use Rattle.krb_json.specs.Laws.{LinesSpellOctets, TextsAreJson, TextsAreShort, TextsComeBack}
use Rattle.krb_json.specs.Lines.{message_text, line_spells}
use Rattle.krb_json.specs.Tickets.{as_octets}
use Rattle.krb_json.specs.Unencrypted.{unencrypted_in}
use Rattle.krb_run.specs.Conversions.{after_text}
use Rattle.krb_convert.specs.Decoding as decoding
use Rattle.krb_convert.specs.Decoding.{ending_at, line_and, decoded, message_decoded, decoded_whole, AllAreEncrypted}
use Rattle.krb_convert.specs.Encoding as encoding
use Rattle.krb_run.specs.TextLines.{parts, without_empty_last, lines_of}
use Rattle.krb_convert.specs.Encoding.{line_spelled, most_of_line, written_as, encoded_lines, encoded}
use Rattle.krb_run.specs.TextLines.{is_blank_line}
use Rattle.krb_convert.specs.Laws.{StreamsComeBack, MessageComesBack, DecodedComesBack}
use Rattle.krb_tool.specs.Paths.{found_path, refused_path}
use Rattle.krb_convert.specs.inner.JsonLines.{IsOfMessage, octets_line}
use Rattle.krb_convert.proofs.DecodedFrames.{decoded-all, encrypted_all, of_message}
use Rattle.krb_convert.proofs.EncodedLines.{read-step, message-step}
use Rattle.krb_run.proofs.SourceLineParts.{lines-empty}
use Rattle.krb_convert.proofs.WholeRuns.{whole-long, whole-short}

-- ---- all of a stream is decoded
at_boundary : (count : ℕ) (end : End) (path : Option (List ℕ)) → ending_at count end path ≡ decoding.All → end ≡ Boundary
at_boundary count Boundary path e = refl
at_boundary count (Within present) path e = absurd cc
at_boundary count (Refused place reason) path e = absurd cc

-- ---- what is left of a stream that ends between two frames is nothing
frame_never : (outcome : Outcome) (present : List ℕ) (rest : Frames) → frame_and outcome present rest ≡ ends Boundary → ⊥
frame_never Open present rest e = let end : Within (4 + length present) ≡ Boundary = ap (λ f. f.end) e in cc
frame_never (Bad offset reason) present rest e = let end : Refused (4 + offset) reason ≡ Boundary = ap (λ f. f.end) e in cc
frame_never (Done count) present rest e = let some : present ∷ rest.contents ≡ [] = ap (λ f. f.contents) e in cc

refused_never : (place : ℕ) (reason : Why) → ends (Refused place reason) ≡ ends Boundary → ⊥
refused_never place reason e = let end : Refused place reason ≡ Boundary = ap (λ f. f.end) e in cc

tests_never : (high long empty : Bool) (found : Frames) → (found ≡ ends Boundary → ⊥) → (if high then ends (Refused 3 why.HighBit) else if long then ends (Refused 3 why.TooLong) else if empty then ends (Refused 3 why.Empty) else found) ≡ ends Boundary → ⊥
tests_never true long empty found never e = refused_never 3 why.HighBit e
tests_never false true empty found never e = refused_never 3 why.TooLong e
tests_never false false true found never e = refused_never 3 why.Empty e
tests_never false false false found never e = never e

nothing_left : (terms : List Term) (limit : ℕ) (tail : List ℕ) → frames terms limit tail ≡ ends Boundary → tail ≡ []
nothing_left terms limit [] e = refl
nothing_left terms limit (octet ∷ tail) e =
    elim (cases_lt (length (octet ∷ tail)) 4) [
      | inl h ↦ let end : Within (length (octet ∷ tail)) ≡ Boundary = ap (λ f. f.end) (sym (frames-short terms limit octet tail h) ∙ e) in absurd cc
      | inr h ↦
          let n : ℕ = number (take 4 (octet ∷ tail)) in
          let rest : List ℕ = drop 4 (octet ∷ tail) in
          absurd (tests_never (nat_le (2 ^ 31) n) (nat_lt limit n) (n == 0) (frame_and (message_outcome terms n (take n rest)) (take n rest) (frames terms limit (drop n rest)))
          (frame_never (message_outcome terms n (take n rest)) (take n rest) (frames terms limit (drop n rest)))
          (sym (frames-length terms limit (octet ∷ tail) h) ∙ e))
    ]

-- ---- a message and its text
abbrev text_of : List ℕ → List ℕ
text_of octets = message_text (message_of_der octets)

no_feed : (text : List ℕ) → AllByRecursion (λ octet. (32 ≤ octet) × (octet ≤ 126)) text → All (λ octet. (octet == 10) ≡ false) text
no_feed [] p = All-nil (λ octet. (octet == 10) ≡ false)
no_feed (octet ∷ text) p = All-cons (λ o. (o == 10) ≡ false) octet text (ne_eqb octet 10 (omega (arith, p.0.0))) (no_feed text p.1)

-- a text is an object, which begins with a brace
not_blank : (m : Message) → is_blank_line (message_text m) ≡ false
unfolding print_from
not_blank m = refl

-- octets are of a message that its text spells
record ComesBack (profile : Profile) (limit : ℕ) (octets : List ℕ) : Type 0 where
  one_line : All (λ octet. (octet == 10) ≡ false) (text_of octets)
  short : length (text_of octets) ≤ most_of_line limit
  spelled : (is_framed : Bool) → line_spelled is_framed profile limit (text_of octets) ≡ Ok octets
  form : message_der (message_of_der octets) ≡ octets

pub both_are : (first second : List ℕ) → AreOctets (first ++ second) → AreOctets first × AreOctets second
both_are [] second are = (tt, are)
both_are (octet ∷ first) second are = let rest = both_are first second are.1 in ((are.0, rest.0), rest.1)

module _ (json : TextsAreJson) (short : TextsAreShort) (back : TextsComeBack) (spell_octets : LinesSpellOctets) (profile : Profile) (limit : ℕ) where
  spelled-so : (octets : List ℕ) (m : Message) → line_spells profile limit (message_text m) ≡ Ok m → message_der m ≡ octets → (is_framed : Bool) → line_spelled is_framed profile limit (message_text m) ≡ Ok octets
  spelled-so octets m spells form true = ap as_octets spells ∙ ap Ok form
  spelled-so octets m spells form false = spell_octets.messages profile limit (message_text m) m spells ∙ ap Ok form

  comes_back : (octets : List ℕ) → AreMessage profile (length octets) octets → length octets ≤ limit → ComesBack profile limit octets
  comes_back octets m within =
      let o : IsOfMessage profile octets = of_message profile octets m in
      record {
        one_line = no_feed (text_of octets) (json profile (message_of_der octets) o.in_profile).printable;
        short = omega (arith, short profile (message_of_der octets) o.in_profile, within, ap length o.form);
        spelled = spelled-so octets (message_of_der octets) (back profile limit (message_of_der octets) o.in_profile (omega (arith, within, ap length o.form))) o.form;
        form = o.form;
      }

  frame_back : (octets : List ℕ) → AreOctets octets → IsMessage (messages profile) limit octets → ComesBack profile limit octets
  frame_back octets are one = comes_back octets (whole_is_message profile (length octets) octets one.short are (omega arith) (ap verdict_of one.whole)) one.within

  all_come_back : (contents : List (List ℕ)) → AreOctets (flat_map framed contents) → AllByRecursion (IsMessage (messages profile) limit) contents → AllByRecursion (ComesBack profile limit) contents
  all_come_back [] are each = tt
  all_come_back (octets ∷ contents) are each =
      let one = both_are (framed octets) (flat_map framed contents) are in
      (frame_back octets one.0.1.1.1.1 each.0, all_come_back contents one.1 each.1)

-- ---- the lines of messages
module _ (profile : Profile) (limit : ℕ) where
  parts_of : (contents : List (List ℕ)) → AllByRecursion (ComesBack profile limit) contents → parts (flat_map octets_line contents) ≡ map text_of contents ++ [] ∷ []
  parts_of [] each = refl
  parts_of (octets ∷ contents) each =
      ap parts (append_assoc (text_of octets) (10 ∷ []) (flat_map octets_line contents))
      ∙ slice_split_at (λ octet. octet == 10) (text_of octets) 10 (flat_map octets_line contents) each.0.one_line refl
      ∙ ap (λ lines. text_of octets ∷ lines) (parts_of contents each.1)

  lines_of-texts : (contents : List (List ℕ)) → AllByRecursion (ComesBack profile limit) contents → lines_of (flat_map octets_line contents) ≡ map text_of contents
  lines_of-texts contents each = ap without_empty_last (parts_of contents each) ∙ lines-empty (map text_of contents)

  -- the first line spells a message
  first_back : (is_framed : Bool) (number : ℕ) (came : Bool) (octets : List ℕ) (lines : List (List ℕ)) → (not is_framed && came) ≡ false → ComesBack profile limit octets → encoded_lines is_framed profile limit number came (text_of octets ∷ lines) ≡ after_text (written_as is_framed octets) (encoded_lines is_framed profile limit (number + 1) true lines)
  first_back is_framed number came octets lines first back =
      read-step (record { is_framed = is_framed; profile = profile; limit = limit }) number came (text_of octets) lines back.short (not_blank (message_of_der octets)) first
      ∙ message-step is_framed number (line_spelled is_framed profile limit (text_of octets)) octets (encoded_lines is_framed profile limit (number + 1) true lines) (back.spelled is_framed)

  lines_back : (number : ℕ) (came : Bool) (contents : List (List ℕ)) → AllByRecursion (ComesBack profile limit) contents → encoded_lines true profile limit number came (map text_of contents) ≡ record { text = flat_map framed contents; end = encoding.All }
  lines_back number came [] each = refl
  lines_back number came (octets ∷ contents) each =
      first_back true number came octets (map text_of contents) refl each.0
      ∙ ap (after_text (framed octets)) (lines_back (number + 1) true contents each.1)

  text_back : (contents : List (List ℕ)) → AllByRecursion (ComesBack profile limit) contents → encoded true profile limit (flat_map octets_line contents) ≡ record { text = flat_map framed contents; end = encoding.All }
  unfolding encoded
  text_back contents each = ap (encoded_lines true profile limit 1 false) (lines_of-texts contents each) ∙ lines_back 1 false contents each

  -- one alone, without its length
  alone_back : (octets : List ℕ) → ComesBack profile limit octets → encoded false profile limit (flat_map octets_line (octets ∷ [])) ≡ record { text = octets; end = encoding.All }
  unfolding encoded
  alone_back octets one =
      ap (encoded_lines false profile limit 1 false) (lines_of-texts (octets ∷ []) (one, tt))
      ∙ first_back false 1 false octets [] refl one
      ∙ ap (λ t. record { text = t; end = encoding.All }) (append-nil octets)

-- ---- a stream
-- whose contents are these
stream_back : TextsAreJson → TextsAreShort → TextsComeBack → LinesSpellOctets → (profile : Profile) (limit : ℕ) (stream : List ℕ) → AreOctets stream → IsParse (messages profile) limit stream (frames (messages profile) limit stream) → AllAreEncrypted (frames (messages profile) limit stream).contents → (frames (messages profile) limit stream).end ≡ Boundary → encoded true profile limit (decoded profile limit stream).text ≡ record { text = stream; end = encoding.All }
stream_back json short back spell_octets profile limit stream are parse encrypted boundary =
    ap (λ c. encoded true profile limit c.text) (decoded-all profile limit stream contents encrypted refl)
    ∙ text_back profile limit contents (all_come_back json short back spell_octets profile limit contents (subst AreOctets all are) parse.are_messages)
    ∙ ap (λ t. record { text = t; end = encoding.All }) (sym all)
  where
    contents : List (List ℕ)
    contents = (frames (messages profile) limit stream).contents

    all : stream ≡ flat_map framed contents
    all = parse.parts ∙ ap (λ tail. flat_map framed contents ++ tail) (nothing_left (messages profile) limit parse.tail (parse.ended ∙ ap ends boundary)) ∙ append-nil (flat_map framed contents)

streams_back : TextsAreJson → TextsAreShort → TextsComeBack → LinesSpellOctets → StreamsComeBack
unfolding decoded
streams_back json short back spell_octets profile limit stream are e =
    let found : Frames = frames (messages profile) limit stream in
    let all = encrypted_all 0 found.contents (ending_at (length found.contents) found.end (found_path profile found stream)) e in
    stream_back json short back spell_octets profile limit stream are (frames-parse (messages profile) limit stream are) all.0 (at_boundary (length found.contents) found.end (found_path profile found stream) all.1)

-- ---- octets that are one message
-- those that are not refused, and no more than the limit
alone_of : (profile : Profile) (limit : ℕ) (octets : List ℕ) (found : Option Refusal) (unencrypted : Option (List ℕ)) → (found ≡ None → ComesBack profile limit octets) → refusal_of profile octets ≡ found → unencrypted_in (message_of_der octets) ≡ unencrypted → (message_decoded profile octets (refusal_of profile octets)).end ≡ decoding.All → encoded false profile limit (message_decoded profile octets (refusal_of profile octets)).text ≡ record { text = octets; end = encoding.All }
alone_of profile limit octets None None back f u e =
    ap (λ r. encoded false profile limit (message_decoded profile octets r).text) f
    ∙ ap (λ s. encoded false profile limit (line_and 1 octets s (record { text = []; end = decoding.All })).text) u
    ∙ alone_back profile limit octets (back refl)
alone_of profile limit octets None (Some path) back f u e =
    let end : decoding.Unencrypted 1 path ≡ decoding.All = sym (ap (λ s. (line_and 1 octets s (record { text = []; end = decoding.All })).end) u) ∙ sym (ap (λ r. (message_decoded profile octets r).end) f) ∙ e in
    absurd cc
alone_of profile limit octets (Some refusal) unencrypted back f u e =
    let end : decoding.Refusing 0 refusal (refused_path profile octets refusal) ≡ decoding.All = sym (ap (λ r. (message_decoded profile octets r).end) f) ∙ e in
    absurd cc

whole_back : TextsAreJson → TextsAreShort → TextsComeBack → LinesSpellOctets → MessageComesBack
whole_back json short back spell_octets profile limit octets are e = by (cases_Bool (nat_lt limit (length octets)))
  where
    by : (nat_lt limit (length octets) ≡ true) ⊎ (nat_lt limit (length octets) ≡ false) → encoded false profile limit (decoded_whole profile limit octets).text ≡ record { text = octets; end = encoding.All }
    by (inl long) =
        let end : decoding.Refusing 0 (record { place = 0; why = why.TooLong }) None ≡ decoding.All = sym (ap (λ c. c.end) (whole-long profile limit octets long)) ∙ e in
        absurd cc
    by (inr few) =
        let is = whole-short profile limit octets (refusal_of profile octets) few refl in
        let within : length octets ≤ limit = grind (arith, nat_tests, few) in
        ap (λ c. encoded false profile limit c.text) is
        ∙ alone_of profile limit octets (refusal_of profile octets) (unencrypted_in (message_of_der octets)) (λ none. comes_back json short back spell_octets profile limit octets (message_in profile octets are none) within) refl refl (sym (ap (λ c. c.end) is) ∙ e)

pub decoded_comes_back : TextsAreJson → TextsAreShort → TextsComeBack → LinesSpellOctets → DecodedComesBack
decoded_comes_back json short back spell_octets = record { streams = streams_back json short back spell_octets; messages = whole_back json short back spell_octets }
