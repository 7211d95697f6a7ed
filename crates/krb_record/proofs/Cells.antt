-- Cells of strings that are plain, which are these strings, and cells of no path.
use Rattle.std.proofs.Common.{◌≡◌, ℕ, ◌≤◌, ◌<◌, Bool, true, false, ◌&&◌, List, [], ◌∷◌, ◌++◌, length, codes, refl, ◌∙◌, ap, arith}
use Rattle.std.proofs.lemmas.Bool.Decides.{nat_tests}
use Rattle.std.proofs.lemmas.Bool.{and_parts}
use Rattle.std.specs.List.{flat_map, list_all}
use Rattle.std.specs.Prelude.{bytes_eq, nat_eq}
use Rattle.krb_record.specs.declared.path.Path.{Path}
use Rattle.krb_record.specs.Forms.{cells_from, escaped_if, is_mistaken, shown_octet, string_cell}
use Rattle.krb_record.specs.Values.{Value}
use Rattle.krb_record.specs.inner.Strings.{is_plain_in}

plain_octet : (o : ℕ) → is_plain_in false o ≡ true → shown_octet o ≡ o ∷ []
plain_octet o e = grind (arith, nat_tests)

plain_octets : (octets : List ℕ) → list_all (is_plain_in false) octets ≡ true → flat_map shown_octet octets ≡ octets
plain_octets [] e = refl
plain_octets (o ∷ octets) e =
    let h = and_parts (is_plain_in false o) (list_all (is_plain_in false) octets) e in
    rw (plain_octet o h.0, plain_octets octets h.1) refl

and_false : (a : Bool) → (a && false) ≡ false
and_false true = refl
and_false false = refl

-- a longer text is another one
differs : (word octets : List ℕ) → length word < length octets → bytes_eq word octets ≡ false
differs [] [] h = absurd (omega arith)
differs [] (o ∷ octets) h = refl
differs (w ∷ word) [] h = refl
differs (w ∷ word) (o ∷ octets) h = ap (λ b. nat_eq w o && b) (differs word octets (omega arith)) ∙ and_false (nat_eq w o)

not_mistaken : (octets : List ℕ) → 4 ≤ length octets → is_mistaken octets ≡ false
not_mistaken octets h =
    rw (differs (codes "-") octets (omega arith), differs (codes "\"\"") octets (omega arith), differs (codes "[]") octets (omega arith), differs (codes "[-]") octets (omega arith), differs (codes "..") octets (omega arith)) refl

pub plain_cell : (octets : List ℕ) → 4 ≤ length octets → list_all (is_plain_in false) octets ≡ true → string_cell octets ≡ octets
unfolding string_cell
plain_cell [] h e = absurd (omega arith)
plain_cell (o ∷ octets) h e =
    ap (λ b. escaped_if b shown_octet o ++ flat_map shown_octet octets) (not_mistaken (o ∷ octets) h) ∙ plain_octets (o ∷ octets) e

-- where no bit is left no cell is wanted
pub no_cells : (paths : List Path) → (value : Value) → cells_from 0 paths value ≡ []
no_cells [] value = refl
no_cells (path ∷ others) value = no_cells others value
