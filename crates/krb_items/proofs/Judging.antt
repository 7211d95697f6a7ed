-- The steps by which the octets that are there of a token are judged.
use Rattle.std.proofs.Common.{◌≡◌, ℕ, zero, suc, ◌<◌, ◌==◌, false, Result, Ok, refl, ap, ◌∙◌, arith}
use Rattle.std.proofs.lemmas.Bool.Decides.{nat_tests}
use Rattle.krb_items.specs.Fronts.{Front, and_then, ends_here, fields_front, front_after, identifier_front, identifiers_front, sequence_front, shape_front}
use Rattle.krb_items.specs.Heads.{count_in}
use Rattle.krb_items.specs.Shapes.{fields_of}
use Rattle.krb_items.specs.declared.fronts.Stop.{Stop}
use Rattle.krb_items.specs.declared.shape.Sequence.{Sequence}

-- what is in a SEQUENCE are its fields
pub sequence-goes : (levels left : ℕ) (token : Front → Result (Unit {0}) Stop) (of : Sequence) (front : Front) → levels ≡ suc left → sequence_front levels token of front ≡ fields_front (shape_front (sequence_front left token) token) (fields_of of) front
sequence-goes levels left token of front is = rw is refl

-- ---- OBJECT IDENTIFIERs one after another
some-room : (room : ℕ) → 0 < room → (room == 0) ≡ false
some-room room some = grind (arith, nat_tests)

pub identifiers-done : (bound : ℕ) (front : Front) → front.room ≡ 0 → identifiers_front bound front ≡ Ok tt
identifiers-done zero front none = rw none refl
identifiers-done (suc bound) front none = rw none refl

pub identifiers-end : (bound : ℕ) (front : Front) → bound ≡ 0 → 0 < front.room → identifiers_front bound front ≡ ends_here
identifiers-end bound front is some = rw is (rw (some-room front.room some) refl)

-- the first of them, and those after it
pub identifiers-by : (bound left : ℕ) (front : Front) (read : Result Front Stop) → bound ≡ suc left → 0 < front.room → identifier_front front ≡ read
    → identifiers_front bound front ≡ and_then read (λ _. identifiers_front left (front_after (count_in front.octets) front))
identifiers-by bound left front read is some e =
    ap (λ n. identifiers_front n front) is ∙ first ∙ ap (λ r. and_then r (λ _. identifiers_front left (front_after (count_in front.octets) front))) e
  where
    first : identifiers_front (suc left) front ≡ and_then (identifier_front front) (λ _. identifiers_front left (front_after (count_in front.octets) front))
    first = rw (some-room front.room some) refl
