-- Streams that differ in what is not encrypted alone are decoded alike.
use Rattle.std.proofs.Common.{◌≡◌, ℕ, ◌+◌, List, [], ◌∷◌, ◌++◌, length, map, drop, Option, Some, None, refl, sym, ◌∙◌, ap, arith, append_assoc, le-ltb}
use Rattle.std.specs.List.{AllByRecursion, flat_map}
use Rattle.std.proofs.Math.Seq.{drop-append-add}
use Rattle.std.proofs.lemmas.List.Sums.{sum_by-cons}
use Rattle.krb_der.specs.declared.profile.Profile.{Profile}
use Rattle.krb_msg.specs.Grammar.{messages}
use Rattle.krb_msg.specs.Stream.{Frames, with_first, frames}
use Rattle.krb_msg.specs.Views.{message_der, message_of_der}
use Rattle.krb_msg.specs.declared.message.Message.{Message}
use Rattle.krb_msg.proofs.MessageOfDer.{message_of_der_is_message}
use Rattle.krb_msg.proofs.Streams.{frames-frame}
use Rattle.krb_frame.specs.Decoded.{frames_size}
use Rattle.krb_frame.specs.Frame.{framed}
use Rattle.krb_judge.proofs.Slices.{message_not_refused}
use Rattle.krb_json.specs.Laws.{IsSpelled, UnencryptedChangesNothing}
use Rattle.krb_json.specs.Lines.{line_of}
use Rattle.krb_json.specs.Unencrypted.{unencrypted_in}
use Rattle.krb_run.specs.Conversions.{Converted, after_text}
use Rattle.krb_convert.specs.Decoding.{Ending, All, Unencrypted, ending_at, line_and, lines_after, decoded, decoded_whole}
use Rattle.krb_convert.specs.Laws.{AreAlike, UnencryptedIsNotDecoded}
use Rattle.krb_tool.specs.Paths.{found_path, frame_path, last_octets}
use Rattle.krb_tool_laws.proofs.EncodedMessages.{is_message}
use Rattle.krb_convert.proofs.WholeRuns.{whole-short}

-- ---- a line
-- that of a message before others, or none if it is not encrypted
shown : (number : ℕ) → Message → (unencrypted : Option (List ℕ)) → Converted Ending → Converted Ending
shown number m None others = after_text (line_of m) others
shown number m (Some path) others = record { text = []; end = Unencrypted number path }

line-shown : (number : ℕ) (octets : List ℕ) (unencrypted : Option (List ℕ)) (others : Converted Ending) → line_and number octets unencrypted others ≡ shown number (message_of_der octets) unencrypted others
unfolding shown
line-shown number octets None others = refl
line-shown number octets (Some path) others = refl

message-shown : (profile : Profile) (limit number : ℕ) (m : Message) (others : Converted Ending) → IsSpelled profile limit m → line_and number (message_der m) (unencrypted_in (message_of_der (message_der m))) others ≡ shown number m (unencrypted_in m) others
message-shown profile limit number m others s =
    line-shown number (message_der m) (unencrypted_in (message_of_der (message_der m))) others
    ∙ ap (λ n. shown number n (unencrypted_in n) others) (message_of_der_is_message profile m s.in_profile)

shown-alike : (number : ℕ) (m other : Message) (unencrypted : Option (List ℕ)) (after others : Converted Ending) → (unencrypted ≡ None → line_of m ≡ line_of other) → after ≡ others → shown number m unencrypted after ≡ shown number other unencrypted others
unfolding shown
shown-alike number m other None after others same e = (λ i. after_text (same refl i) (e i))
shown-alike number m other (Some path) after others same e = refl

module _ (law : UnencryptedChangesNothing) (profile : Profile) (limit : ℕ) where
  line-alike : (number : ℕ) (pair : Message × Message) (after others : Converted Ending) → AreAlike profile limit pair → after ≡ others → line_and number (message_der pair.0) (unencrypted_in (message_of_der (message_der pair.0))) after ≡ line_and number (message_der pair.1) (unencrypted_in (message_of_der (message_der pair.1))) others
  line-alike number pair after others a e =
      message-shown profile limit number pair.0 after a.first
      ∙ shown-alike number pair.0 pair.1 (unencrypted_in pair.0) after others (λ none. ap (λ text. text ++ 10 ∷ []) (law.texts pair.0 pair.1 a.alike none)) e
      ∙ ap (λ unencrypted. shown number pair.1 unencrypted others) (law.paths pair.0 pair.1 a.alike)
      ∙ sym (message-shown profile limit number pair.1 others a.second)

  lines-alike : (before : ℕ) (pairs : List (Message × Message)) (rest : List (List ℕ)) (end : Ending) → AllByRecursion (AreAlike profile limit) pairs → lines_after before (map (λ p. message_der p.0) pairs ++ rest) end ≡ lines_after before (map (λ p. message_der p.1) pairs ++ rest) end
  lines-alike before [] rest end each = refl
  lines-alike before (pair ∷ pairs) rest end each =
      line-alike (before + 1) pair (lines_after (before + 1) (map (λ p. message_der p.0) pairs ++ rest) end) (lines_after (before + 1) (map (λ p. message_der p.1) pairs ++ rest) end) each.0 (lines-alike (before + 1) pairs rest end each.1)

  lengths-alike : (pairs : List (Message × Message)) (rest : List (List ℕ)) → length (map (λ p. message_der p.0) pairs ++ rest) ≡ length (map (λ p. message_der p.1) pairs ++ rest)
  lengths-alike [] rest = refl
  lengths-alike (pair ∷ pairs) rest = omega (arith, lengths-alike pairs rest)

-- ---- frames before others
module _ (profile : Profile) (limit : ℕ) {A : Type 0} (message : A → Message) where
  frames-before : (those : List A) (rest : List ℕ) → AllByRecursion (λ a. IsSpelled profile limit (message a)) those → frames (messages profile) limit (flat_map (λ a. framed (message_der (message a))) those ++ rest) ≡ record { contents = map (λ a. message_der (message a)) those ++ (frames (messages profile) limit rest).contents; end = (frames (messages profile) limit rest).end }
  frames-before [] rest each = refl
  frames-before (a ∷ those) rest each =
      ap (frames (messages profile) limit) (append_assoc (framed (message_der (message a))) (flat_map (λ b. framed (message_der (message b))) those) rest)
      ∙ frames-frame (messages profile) limit (message_der (message a)) (flat_map (λ b. framed (message_der (message b))) those ++ rest) (is_message profile limit (message a) each.0)
      ∙ ap (with_first (message_der (message a))) (frames-before those rest each.1)

  size-first : (first : List ℕ) (contents : List (List ℕ)) → frames_size (first ∷ contents) ≡ length (framed first) + frames_size contents
  size-first first contents = sum_by-cons (λ c. 4 + length c) first contents ∙ omega arith

  after-before : (those : List A) (contents : List (List ℕ)) (rest : List ℕ) → drop (frames_size (map (λ a. message_der (message a)) those ++ contents)) (flat_map (λ a. framed (message_der (message a))) those ++ rest) ≡ drop (frames_size contents) rest
  after-before [] contents rest = refl
  after-before (a ∷ those) contents rest =
      ap (λ n. drop n (flat_map (λ b. framed (message_der (message b))) (a ∷ those) ++ rest)) (size-first (message_der (message a)) (map (λ b. message_der (message b)) those ++ contents))
      ∙ ap (drop (length (framed (message_der (message a))) + frames_size (map (λ b. message_der (message b)) those ++ contents))) (append_assoc (framed (message_der (message a))) (flat_map (λ b. framed (message_der (message b))) those) rest)
      ∙ drop-append-add (framed (message_der (message a))) (flat_map (λ b. framed (message_der (message b))) those ++ rest) (frames_size (map (λ b. message_der (message b)) those ++ contents))
      ∙ after-before those contents rest

  -- what is decoded of messages before a rest
  decoded-before : (those : List A) (rest : List ℕ) → AllByRecursion (λ a. IsSpelled profile limit (message a)) those → decoded profile limit (flat_map (λ a. framed (message_der (message a))) those ++ rest)
      ≡ lines_after 0 (map (λ a. message_der (message a)) those ++ (frames (messages profile) limit rest).contents)
      (ending_at (length (map (λ a. message_der (message a)) those ++ (frames (messages profile) limit rest).contents)) (frames (messages profile) limit rest).end (found_path profile (frames (messages profile) limit rest) rest))
  unfolding decoded
  decoded-before those rest each =
      let after : Frames = frames (messages profile) limit rest in
      let contents : List (List ℕ) = map (λ a. message_der (message a)) those ++ after.contents in
      let stream : List ℕ = flat_map (λ a. framed (message_der (message a))) those ++ rest in
      ap (λ found. lines_after 0 found.contents (ending_at (length found.contents) found.end (found_path profile found stream))) (frames-before those rest each)
      ∙ ap (λ octets. lines_after 0 contents (ending_at (length contents) after.end (frame_path profile (last_octets after.end octets)))) (after-before those after.contents rest)

firsts : (profile : Profile) (limit : ℕ) (pairs : List (Message × Message)) → AllByRecursion (AreAlike profile limit) pairs → AllByRecursion (λ p. IsSpelled profile limit p.0) pairs
firsts profile limit [] each = tt
firsts profile limit (pair ∷ pairs) each = (each.0.first, firsts profile limit pairs each.1)

seconds : (profile : Profile) (limit : ℕ) (pairs : List (Message × Message)) → AllByRecursion (AreAlike profile limit) pairs → AllByRecursion (λ p. IsSpelled profile limit p.1) pairs
seconds profile limit [] each = tt
seconds profile limit (pair ∷ pairs) each = (each.0.second, seconds profile limit pairs each.1)

-- ---- the law
module _ (law : UnencryptedChangesNothing) (profile : Profile) (limit : ℕ) where
  streams-alike : (pairs : List (Message × Message)) (rest : List ℕ) → AllByRecursion (AreAlike profile limit) pairs → decoded profile limit (flat_map (λ p. framed (message_der p.0)) pairs ++ rest) ≡ decoded profile limit (flat_map (λ p. framed (message_der p.1)) pairs ++ rest)
  streams-alike pairs rest each =
      let after : Frames = frames (messages profile) limit rest in
      let path : Option (List ℕ) = found_path profile after rest in
      let first : List (List ℕ) = map (λ p. message_der p.0) pairs ++ after.contents in
      let second : List (List ℕ) = map (λ p. message_der p.1) pairs ++ after.contents in
      decoded-before profile limit (λ p. p.0) pairs rest (firsts profile limit pairs each)
      ∙ lines-alike law profile limit 0 pairs after.contents (ending_at (length first) after.end path) each
      ∙ ap (λ n. lines_after 0 second (ending_at n after.end path)) (lengths-alike law profile limit pairs after.contents)
      ∙ sym (decoded-before profile limit (λ p. p.1) pairs rest (seconds profile limit pairs each))

  message-whole : (m : Message) → IsSpelled profile limit m → decoded_whole profile limit (message_der m) ≡ line_and 1 (message_der m) (unencrypted_in (message_of_der (message_der m))) (record { text = []; end = All })
  message-whole m s =
      whole-short profile limit (message_der m) None (le-ltb limit (length (message_der m)) s.short) (sym (message_not_refused profile m (record { in_profile = s.in_profile; form = refl })))

  messages-alike : (pair : Message × Message) → AreAlike profile limit pair → decoded_whole profile limit (message_der pair.0) ≡ decoded_whole profile limit (message_der pair.1)
  messages-alike pair a =
      message-whole pair.0 a.first
      ∙ line-alike law profile limit 1 pair (record { text = []; end = All }) (record { text = []; end = All }) a refl
      ∙ sym (message-whole pair.1 a.second)

pub unencrypted_is_not_decoded : UnencryptedChangesNothing → UnencryptedIsNotDecoded
unencrypted_is_not_decoded law = record { streams = λ profile limit. streams-alike law profile limit; messages = λ profile limit. messages-alike law profile limit }
