-- Texts of blanks and graphic characters of ASCII.
use Rattle.std.proofs.Common.{◌≡◌, ℕ, ◌&&◌, ◌≤◌, nat_le, Bool, true, List, [], ◌∷◌, ◌++◌, arith}
use Rattle.std.proofs.lemmas.Bool.{and_parts}
use Rattle.std.proofs.lemmas.Bool.Decides.{nat_tests}
use Rattle.std.proofs.lemmas.Str.Ascii.{IsAscii-nil, IsAscii-cons}
use Rattle.std.specs.List.{list_all}
use Rattle.std.specs.Str.{IsAscii}
use Rattle.krb_record.specs.Text.{IsPrintable}

pub record Prints (text : List ℕ) : Type 0 where
  pub all : IsPrintable text

abbrev pub is_printable : ℕ → Bool
is_printable c = nat_le 32 c && nat_le c 126

in_range : (c : ℕ) → is_printable c ≡ true → (32 ≤ c) × (c ≤ 126)
in_range c e = (grind (arith, nat_tests), grind (arith, nat_tests))

all_in_range : (text : List ℕ) → list_all is_printable text ≡ true → IsPrintable text
all_in_range [] e = tt
all_in_range (c ∷ cs) e =
    let h = and_parts (is_printable c) (list_all is_printable cs) e in
    (in_range c h.0, all_in_range cs h.1)

pub word : (text : List ℕ) → list_all is_printable text ≡ true → Prints text
word text e = record { all = all_in_range text e }

all-append : (xs ys : List ℕ) → IsPrintable xs → IsPrintable ys → IsPrintable (xs ++ ys)
all-append [] ys h k = k
all-append (x ∷ xs) ys h k = (h.0, all-append xs ys h.1 k)

pub join : {xs ys : List ℕ} → Prints xs → Prints ys → Prints (xs ++ ys)
join {xs} {ys} h k = record { all = all-append xs ys h.all k.all }

-- a printable text is ASCII
pub ascii : (text : List ℕ) → IsPrintable text → IsAscii text
ascii [] h = IsAscii-nil
ascii (c ∷ cs) h = IsAscii-cons c cs (omega (arith, h.0.1)) (ascii cs h.1)
