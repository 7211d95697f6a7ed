-- Laws of choosing.
use Rattle.std.specs.Prelude.{ℕ, ℤ, unsigned_abs, ◌≡◌, ◌<◌, ◌^◌, Bool, true, List, [], ◌∷◌, ◌++◌, length, map, bytes_eq, codes}
use Rattle.std.specs.Fmt.{signed_decimal}
use Rattle.std.specs.List.{AllByRecursion, list_any}
use Rattle.krb_der.specs.Octets.{AreOctets}
use Rattle.krb_record.specs.Forms.{item_cell, list_cell, name_cell, record_text, shows_kind, string_cell}
use Rattle.krb_record.specs.Text.{AllAreOctets, IsPrintable, joined, line_feed}
use Rattle.krb_record.specs.Values.{Printed}
use Rattle.krb_choice.specs.Choices.{Choice, Column, Print, chosen_text, is_kept, kind_alone, row_text, shown, text_by}
use Rattle.krb_choice.specs.Marked.{written}
use Rattle.krb_choice.specs.Wanted.{choice_form}
use Rattle.krb_choice_laws.specs.Plain.{IsPlain}

-- What is written of the text of a record is what the choice has of the record.
abbrev pub WrittenIsChosen : Type 0
WrittenIsChosen = (c : Choice) (is_last : Bool) (r : Printed) → IsPlain r → written c is_last (record_text (choice_form c) r) ≡ chosen_text c is_last r

-- A message that a choice keeps is of a kind that its form shows.
abbrev pub KeptKindsAreShown : Type 0
KeptKindsAreShown = (c : Choice) (is_last : Bool) (r : Printed) → IsPlain r → is_kept c is_last (shown r) ≡ true → shows_kind (choice_form c) (kind_alone r.kind) ≡ true

-- A choice by kinds keeps each record of one of them, and prints it.
abbrev pub AllKindsAreKept : Type 0
AllKindsAreKept = (kinds : List (List ℕ)) (print : Print) (is_last : Bool) (r : Printed) → list_any (bytes_eq (kind_alone r.kind)) kinds ≡ true → chosen_text (record { by_kind = true; kinds = kinds; print = print }) is_last r ≡ text_by print r

-- ---- rows
-- a row of n cells: printable texts with tabs between, and a line feed
abbrev pub IsRowOf : (n : ℕ) → List ℕ → Type 0
IsRowOf n row = (cells : List (List ℕ)) × (length cells ≡ n) × AllByRecursion IsPrintable cells × (row ≡ joined [] (9 ∷ []) (λ cell. cell) cells ++ line_feed)

abbrev pub RowsArePrintable : Type 0
RowsArePrintable = (columns : List Column) (r : Printed) (row : ℕ) → IsPlain r → IsRowOf (length columns) (row_text columns (shown r) row)

-- ---- two members of one name that differ, and are no objects, have cells that differ
-- strings, alone and in a list, and names of files, which are not empty
abbrev pub StringsAreApart : Type 0
StringsAreApart = (octets others : List ℕ) → AreOctets octets → AreOctets others → string_cell octets ≡ string_cell others → octets ≡ others

abbrev pub StringListsAreApart : Type 0
StringListsAreApart = (strings others : List (List ℕ)) → AllAreOctets strings → AllAreOctets others → joined (codes "[]") (codes ",") item_cell strings ≡ joined (codes "[]") (codes ",") item_cell others → strings ≡ others

abbrev pub FileNamesAreApart : Type 0
FileNamesAreApart = (octets others : List ℕ) → AreOctets octets → AreOctets others → 0 < length octets → 0 < length others → name_cell octets ≡ name_cell others → octets ≡ others

-- a string is not absent
abbrev pub StringsAreThere : Type 0
StringsAreThere = (octets : List ℕ) → AreOctets octets → string_cell octets ≡ codes "-" → ⊥

-- numbers, alone and in a list
abbrev pub NumbersAreApart : Type 0
NumbersAreApart = (number other : ℤ) → unsigned_abs number < 2 ^ 63 → unsigned_abs other < 2 ^ 63 → signed_decimal number ≡ signed_decimal other → number ≡ other

abbrev pub AreNumbers : List ℤ → Type 0
AreNumbers numbers = AllByRecursion (λ number. unsigned_abs number < 2 ^ 63) numbers

abbrev pub NumberListsAreApart : Type 0
NumberListsAreApart = (numbers others : List ℤ) → AreNumbers numbers → AreNumbers others → list_cell (map signed_decimal numbers) ≡ list_cell (map signed_decimal others) → numbers ≡ others
