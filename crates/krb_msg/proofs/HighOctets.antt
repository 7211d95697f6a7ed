-- Octets above 7F, found by the bits of all of them put together.
use Rattle.std.proofs.Common.{◌≡◌, ℕ, ◌+◌, ◌<◌, ◌≤◌, ◌⊎◌, inl, inr, ◌||◌, Bool, false, nat_lt, bit_or, List, [], ◌∷◌, ◌++◌, length, drop, get_or, refl, sym, ◌∙◌, ap, arith, lt-ltb, le-ltb}
use Rattle.std.proofs.Math.Bool.{or_assoc, or-false}
use Rattle.std.specs.List.{flat_map, list_any}
use Rattle.std.proofs.lemmas.Bool.{cases_lt, or_parts}
use Rattle.std.proofs.lemmas.List.{drop_more, drop_all}
use Rattle.std.proofs.lemmas.List.Folds.{list_any-append}
use Rattle.std.proofs.lemmas.Nat.{or_lt, le_or_l, le_or_r}
use Rattle.krb_der.specs.Octets.{item, length_octets}
use Rattle.krb_msg.specs.Grammar.{kerberos_string}
use Rattle.krb_msg.specs.Notes.{Note, HighOctet, has, text_has}
use Rattle.krb_msg.specs.Term.{der}

or_high : (a b : ℕ) → nat_lt 0x7F (bit_or a b) ≡ (nat_lt 0x7F a || nat_lt 0x7F b)
or_high a b = go (cases_lt a 128) (cases_lt b 128)
  where
    go : (a < 128) ⊎ (128 ≤ a) → (b < 128) ⊎ (128 ≤ b) → nat_lt 0x7F (bit_or a b) ≡ (nat_lt 0x7F a || nat_lt 0x7F b)
    go (inl p) (inl q) =
        le-ltb 0x7F (bit_or a b) (omega (arith, or_lt 7 a b p q)) ∙ sym (λ i. le-ltb 0x7F a (omega (arith, p)) i || le-ltb 0x7F b (omega (arith, q)) i)
    go (inl p) (inr q) =
        lt-ltb 0x7F (bit_or a b) (omega (arith, q, le_or_r a b)) ∙ sym (λ i. le-ltb 0x7F a (omega (arith, p)) i || lt-ltb 0x7F b (omega (arith, q)) i)
    go (inr p) q =
        lt-ltb 0x7F (bit_or a b) (omega (arith, p, le_or_l a b)) ∙ sym (ap (λ c. c || nat_lt 0x7F b) (lt-ltb 0x7F a (omega (arith, p))))

pub next_octet : (octets : List ℕ) (place bits : ℕ) → place < length octets → list_any (λ octet. nat_lt 0x7F octet) octets ≡ (nat_lt 0x7F bits || list_any (λ octet. nat_lt 0x7F octet) (drop place octets)) → list_any (λ octet. nat_lt 0x7F octet) octets ≡ (nat_lt 0x7F (bit_or bits (get_or octets place 0)) || list_any (λ octet. nat_lt 0x7F octet) (drop (place + 1) octets))
next_octet octets place bits h e =
    e ∙ ap (λ l. nat_lt 0x7F bits || list_any (λ octet. nat_lt 0x7F octet) l) (drop_more octets place 0 h)
    ∙ sym (or_assoc (nat_lt 0x7F bits) (nat_lt 0x7F (get_or octets place 0)) (list_any (λ octet. nat_lt 0x7F octet) (drop (place + 1) octets)))
    ∙ ap (λ b. b || list_any (λ octet. nat_lt 0x7F octet) (drop (place + 1) octets)) (sym (or_high bits (get_or octets place 0)))

pub no_octet_left : (octets : List ℕ) (place bits : ℕ) → length octets ≤ place → list_any (λ octet. nat_lt 0x7F octet) octets ≡ (nat_lt 0x7F bits || list_any (λ octet. nat_lt 0x7F octet) (drop place octets)) → nat_lt 0x7F bits ≡ list_any (λ octet. nat_lt 0x7F octet) octets
no_octet_left octets place bits h e =
    sym (e ∙ ap (λ l. nat_lt 0x7F bits || list_any (λ octet. nat_lt 0x7F octet) l) (drop_all place octets h) ∙ or-false (nat_lt 0x7F bits))

-- ---- strings one after another
abbrev has_high : List ℕ → Bool
has_high octets = list_any (λ octet. nat_lt 0x7F octet) octets

text-none : (note : Note) (octets : List ℕ) → has_high octets ≡ false → text_has note octets ≡ false
text-none HighOctet octets none = none
text-none other octets none = refl

item-none : (tag : ℕ) (own rest : List ℕ) → has_high (item tag own ++ rest) ≡ false → (has_high own ≡ false) × (has_high rest ≡ false)
item-none tag own rest none =
    let parts = or_parts (has_high (item tag own)) (has_high rest) (sym (list_any-append (λ octet. nat_lt 0x7F octet) (item tag own) rest) ∙ none) in
    let after = (or_parts (nat_lt 0x7F tag) (has_high (length_octets (length own) ++ own)) parts.0).1 in
    ((or_parts (has_high (length_octets (length own))) (has_high own) (sym (list_any-append (λ octet. nat_lt 0x7F octet) (length_octets (length own)) own) ∙ after)).1, parts.1)

-- if no octet of theirs is above 7F, no note holds in one of them
pub no_high_strings : (strings : List (List ℕ)) → list_any (λ octet. nat_lt 0x7F octet) (flat_map (der kerberos_string) strings) ≡ false → (note : Note) → list_any (has note kerberos_string) strings ≡ false
no_high_strings [] none note = refl
no_high_strings (string ∷ strings) none note =
    let parts = item-none 0x1B string (flat_map (der kerberos_string) strings) none in
    rw (text-none note string parts.0, no_high_strings strings parts.1 note) refl
