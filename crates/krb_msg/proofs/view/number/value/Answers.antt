-- Two, three or four octets are those that the pattern names.
use Rattle.std.proofs.Common.{◌≡◌, ℕ, ◌<◌, ◌≤◌, ℤ, List, [], ◌∷◌, length, slice_index_or, FitsSigned, to_z, of_z, w64, refl, ap, ◌∙◌, arith, rules}
use Rattle.std.proofs.lemmas.Int.{to_z-of_z}
use Rattle.krb_der.specs.Octets.{integer_value as value_of}
use Rattle.krb_msg.proofs.view.number.value.Goals as goal

two_of : (xs : List ℕ) → 2 ≤ length xs → length xs < 3 → slice_index_or xs 0 0 ∷ slice_index_or xs 1 0 ∷ [] ≡ xs
two_of [] h l = absurd (omega arith)
two_of (a ∷ []) h l = absurd (omega arith)
two_of (a ∷ b ∷ []) h l = refl
two_of (a ∷ b ∷ c ∷ xs) h l = absurd (omega arith)

three_of : (xs : List ℕ) → 3 ≤ length xs → length xs < 4 → slice_index_or xs 0 0 ∷ slice_index_or xs 1 0 ∷ slice_index_or xs 2 0 ∷ [] ≡ xs
three_of [] h l = absurd (omega arith)
three_of (a ∷ xs) h l = ap (λ ys. a ∷ ys) (two_of xs (omega arith) (omega arith))

four_of : (xs : List ℕ) → 4 ≤ length xs → length xs < 5 → slice_index_or xs 0 0 ∷ slice_index_or xs 1 0 ∷ slice_index_or xs 2 0 ∷ slice_index_or xs 3 0 ∷ [] ≡ xs
four_of [] h l = absurd (omega arith)
four_of (a ∷ xs) h l = ap (λ ys. a ∷ ys) (three_of xs (omega arith) (omega arith))

value_is : (octets : List ℕ) {others : List ℕ} (value : ℤ) → FitsSigned w64 value → value ≡ value_of others → others ≡ octets → to_z w64 (of_z w64 value) ≡ value_of octets
value_is octets value fits e same = to_z-of_z w64 value fits ∙ e ∙ ap value_of same

pub returns-in-len2 : goal.returns-in-len2
returns-in-len2 c = value_is c.args.contents.now c.integer_value.result (search rules) c.integer_value.ensures (two_of c.args.contents.now c.in-len2.len_at_least c.in-len2.len_below)

pub returns-in-len3 : goal.returns-in-len3
returns-in-len3 c = value_is c.args.contents.now c.integer_value-in-len3.result (search rules) c.integer_value-in-len3.ensures (three_of c.args.contents.now c.in-len3.len_at_least c.in-len3.len_below)

pub returns-in-len4 : goal.returns-in-len4
returns-in-len4 c = value_is c.args.contents.now c.integer_value-in-len4.result (search rules) c.integer_value-in-len4.ensures (four_of c.args.contents.now c.in-len4.len_at_least c.in-len4.len_below)
