-- Streams that go on, and differ in what is not encrypted alone, are decoded alike.
use Rattle.std.proofs.Common.{◌≡◌, ℕ, ◌+◌, List, [], ◌∷◌, ◌++◌, length, map, Option, Some, None, refl, sym, ◌∙◌, ap, ap₂, append_assoc, arith}
use Rattle.std.specs.List.{AllByRecursion, flat_map}
use Rattle.krb_convert.specs.Laws.{AreAlike}
use Rattle.krb_der.specs.declared.profile.Profile.{Profile}
use Rattle.krb_frame.specs.Frame.{framed}
use Rattle.krb_frame.specs.GoingOn.{Contents, Entry, entries}
use Rattle.krb_frame.proofs.GoingOn.{entries-frame}
use Rattle.krb_json.specs.Laws.{IsSpelled, UnencryptedChangesNothing}
use Rattle.krb_json.specs.Unencrypted.{unencrypted_in}
use Rattle.krb_msg.specs.Grammar.{messages}
use Rattle.krb_msg.specs.Laws.{DerIsPrefixFree}
use Rattle.krb_msg.specs.Views.{message_der}
use Rattle.krb_msg.specs.declared.message.Message.{Message}
use Rattle.krb_msg.proofs.Streams.{frames-frame}
use Rattle.krb_tool.specs.GoingOn.{Faulty, Listed, Whole, entry_of, messages_in, refused_in}
use Rattle.krb_tool_laws.proofs.EncodedMessages.{is_message}
use Rattle.krb_decode.specs.Streams.{IsDecoded, end_part, part_by, part_of, parts_after}
use Rattle.krb_decode_laws.specs.Streams.{StreamsAreDecodedAlike}
use Rattle.krb_decode_laws.proofs.MaskedSizes.{same-size}

-- ---- frames of messages before others
module _ (profile : Profile) (limit : ℕ) (side : Message × Message → Message) where
  frames-first : (pairs : List (Message × Message)) (rest : List ℕ) → AllByRecursion (λ p. IsSpelled profile limit (side p)) pairs
      → entries (messages profile) limit (flat_map (λ p. framed (message_der (side p))) pairs ++ rest) ≡ map (λ p. Contents (message_der (side p))) pairs ++ entries (messages profile) limit rest
  frames-first [] rest each = refl
  frames-first (p ∷ pairs) rest each =
      let more : List ℕ = flat_map (λ q. framed (message_der (side q))) pairs ++ rest in
      ap (entries (messages profile) limit) (append_assoc (framed (message_der (side p))) (flat_map (λ q. framed (message_der (side q))) pairs) rest)
      ∙ entries-frame (messages profile) limit (framed (message_der (side p))) (message_der (side p)) more (omega arith) (frames-frame (messages profile) limit (message_der (side p)) more (is_message profile limit (side p) each.0))
      ∙ ap (λ l. Contents (message_der (side p)) ∷ l) (frames-first pairs rest each.1)

-- what is listed of them
module _ (prefix_free : DerIsPrefixFree) where
  pub same-message : (m n : Message) → message_der m ≡ message_der n → m ≡ n
  same-message m n e = (prefix_free m n [] [] (ap (λ d. d ++ []) e)).0

  same-listed : (one other : Listed) → entry_of one ≡ entry_of other → one ≡ other
  same-listed (Whole m) (Whole n) e = ap Whole (same-message m n cc)
  same-listed (Whole m) (Faulty place reason prefix) e = absurd cc
  same-listed (Faulty place reason prefix) (Whole n) e = absurd cc
  same-listed (Faulty place reason prefix) (Faulty at why octets) e = cc

  pub same-all : (one other : List Listed) → map entry_of one ≡ map entry_of other → one ≡ other
  same-all [] [] e = refl
  same-all [] (b ∷ other) e = absurd cc
  same-all (a ∷ one) [] e = absurd cc
  same-all (a ∷ one) (b ∷ other) e =
      let parts : (entry_of a ≡ entry_of b) × (map entry_of one ≡ map entry_of other) = (cc, cc) in
      ap₂ (λ x l. x ∷ l) (same-listed a b parts.0) (same-all one other parts.1)

  record IsSplit (side : Message × Message → Message) (pairs : List (Message × Message)) (others : List Entry) (found : List Listed) : Type 0 where
    after : List Listed
    form : found ≡ map (λ p. Whole (side p)) pairs ++ after
    are : map entry_of after ≡ others

  split : (side : Message × Message → Message) (pairs : List (Message × Message)) (others : List Entry) (found : List Listed) → map entry_of found ≡ map (λ p. Contents (message_der (side p))) pairs ++ others → IsSplit side pairs others found
  split side [] others found e = record { after = found; form = refl; are = e }
  split side (p ∷ pairs) others [] e = absurd cc
  split side (p ∷ pairs) others (a ∷ found) e =
      let parts : (entry_of a ≡ Contents (message_der (side p))) × (map entry_of found ≡ map (λ p. Contents (message_der (side p))) pairs ++ others) = (cc, cc) in
      let rest : IsSplit side pairs others found = split side pairs others found parts.1 in
      record { after = rest.after; form = ap₂ (λ x l. x ∷ l) (same-listed a (Whole (side p)) parts.0) rest.form; are = rest.are }

-- ---- their lines
module _ (law : UnencryptedChangesNothing) (profile : Profile) (limit : ℕ) where
  part-alike : (number : ℕ) (m n : Message) → AreAlike profile limit (m, n) → part_of number m ≡ part_of number n
  part-alike number m n a = by (unencrypted_in m) refl ∙ ap (λ unencrypted. part_by unencrypted number n) (law.paths m n a.alike)
    where
      by : (unencrypted : Option (List ℕ)) → unencrypted_in m ≡ unencrypted → part_by unencrypted number m ≡ part_by unencrypted number n
      by None none = ap (λ text. text ++ 10 ∷ []) (law.texts m n a.alike none)
      by (Some path) some = refl

  abbrev first_found : List (Message × Message) → List Listed → List Listed
  first_found pairs after = map (λ p. Whole p.0) pairs ++ after

  abbrev second_found : List (Message × Message) → List Listed → List Listed
  second_found pairs after = map (λ p. Whole p.1) pairs ++ after

  parts-alike : (before offset : ℕ) (pairs : List (Message × Message)) (after : List Listed) → AllByRecursion (AreAlike profile limit) pairs → parts_after profile before offset (first_found pairs after) ≡ parts_after profile before offset (second_found pairs after)
  parts-alike before offset [] after each = refl
  parts-alike before offset (p ∷ pairs) after each =
      ap₂ (λ line size. line ++ parts_after profile (before + 1) (offset + (4 + size)) (first_found pairs after)) (part-alike (before + 1) p.0 p.1 each.0) (same-size p.0 p.1 each.0.alike)
      ∙ ap (λ l. part_of (before + 1) p.1 ++ l) (parts-alike (before + 1) (offset + (4 + length (message_der p.1))) pairs after each.1)

  messages-alike : (pairs : List (Message × Message)) (after : List Listed) → messages_in (first_found pairs after) ≡ messages_in (second_found pairs after)
  messages-alike [] after = refl
  messages-alike (p ∷ pairs) after = ap (λ n. 1 + n) (messages-alike pairs after)

  refused-alike : (pairs : List (Message × Message)) (after : List Listed) → refused_in (first_found pairs after) ≡ refused_in (second_found pairs after)
  refused-alike [] after = refl
  refused-alike (p ∷ pairs) after = refused-alike pairs after

  firsts : (pairs : List (Message × Message)) → AllByRecursion (AreAlike profile limit) pairs → AllByRecursion (λ p. IsSpelled profile limit p.0) pairs
  firsts [] each = tt
  firsts (p ∷ pairs) each = (each.0.first, firsts pairs each.1)

  seconds : (pairs : List (Message × Message)) → AllByRecursion (AreAlike profile limit) pairs → AllByRecursion (λ p. IsSpelled profile limit p.1) pairs
  seconds [] each = tt
  seconds (p ∷ pairs) each = (each.0.second, seconds pairs each.1)

  abbrev text_of : List Listed → List ℕ
  text_of found = parts_after profile 0 0 found ++ end_part (messages_in found) (refused_in found)

  alike : DerIsPrefixFree → (pairs : List (Message × Message)) (rest text other : List ℕ) → AllByRecursion (AreAlike profile limit) pairs
      → IsDecoded profile limit (flat_map (λ p. framed (message_der p.0)) pairs ++ rest) text → IsDecoded profile limit (flat_map (λ p. framed (message_der p.1)) pairs ++ rest) other → text ≡ other
  alike prefix_free pairs rest text other each one two =
      let others : List Entry = entries (messages profile) limit rest in
      let a : IsSplit prefix_free (λ p. p.0) pairs others one.found = split prefix_free (λ p. p.0) pairs others one.found (one.in_frames ∙ frames-first profile limit (λ p. p.0) pairs rest (firsts pairs each)) in
      let b : IsSplit prefix_free (λ p. p.1) pairs others two.found = split prefix_free (λ p. p.1) pairs others two.found (two.in_frames ∙ frames-first profile limit (λ p. p.1) pairs rest (seconds pairs each)) in
      one.lines
      ∙ ap text_of (a.form ∙ ap (first_found pairs) (same-all prefix_free a.after b.after (a.are ∙ sym b.are)))
      ∙ ap₂ (λ lines end. lines ++ end) (parts-alike 0 0 pairs b.after each) (ap₂ end_part (messages-alike pairs b.after) (refused-alike pairs b.after))
      ∙ ap text_of (sym b.form)
      ∙ sym two.lines

pub streams_are_decoded_alike : UnencryptedChangesNothing → DerIsPrefixFree → StreamsAreDecodedAlike
streams_are_decoded_alike law prefix_free profile limit pairs rest text other each one two = alike law profile limit prefix_free pairs rest text other each one two
