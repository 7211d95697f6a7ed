-- Plain octets, which are not escaped.
use Rattle.std.proofs.Common.{◌≡◌, ℕ, ◌≤◌, Bool, true, not, ◌&&◌, ◌==◌, List, [], ◌∷◌, slice_index_or, refl, arith}
use Rattle.std.proofs.lemmas.Bool.Decides.{nat_tests}
use Rattle.std.proofs.lemmas.Bool.{and_parts}
use Rattle.std.proofs.lemmas.List.Sums.{AllPass-from_list_all}
use Rattle.std.proofs.lemmas.Str.Ascii.{IsAscii-from_all}
use Rattle.std.specs.List.{list_all}
use Rattle.std.specs.Str.{IsAscii}
use Rattle.krb_record.specs.Text.{is_plain, escape_octet, escape}
use Rattle.krb_record.specs.inner.Strings.{is_plain_in}

pub plain : (o : ℕ) → is_plain o ≡ true → escape_octet o ≡ o ∷ []
plain o e = rw e

pub plain-range : (o : ℕ) → is_plain o ≡ true → (33 ≤ o) × (o ≤ 126)
plain-range o e = (grind (arith, nat_tests), grind (arith, nat_tests))

plain_in : (in_json : Bool) (o : ℕ) → is_plain_in in_json o ≡ true → is_plain o ≡ true
plain_in in_json o e = (and_parts (is_plain o) (not (in_json && o == 0x22)) e).0

-- are their own text
pub escape_plain : (in_json : Bool) (octets : List ℕ) → list_all (is_plain_in in_json) octets ≡ true → escape octets ≡ octets
escape_plain in_json [] e = refl
escape_plain in_json (o ∷ octets) e =
    let h = and_parts (is_plain_in in_json o) (list_all (is_plain_in in_json) octets) e in
    rw (plain o (plain_in in_json o h.0), escape_plain in_json octets h.1) refl

-- and ASCII
pub ascii_plain : (in_json : Bool) (octets : List ℕ) → list_all (is_plain_in in_json) octets ≡ true → IsAscii octets
ascii_plain in_json octets e = IsAscii-from_all octets (λ k d within. omega (arith, plain-range (slice_index_or octets k d) (plain_in in_json (slice_index_or octets k d) (AllPass-from_list_all (is_plain_in in_json) octets e k d within))))
