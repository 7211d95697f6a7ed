-- The form in which records are listed for a choice.
use Rattle.std.specs.Prelude.{ℕ, ◌+◌, ◌*◌, ◌^◌, ◌&&◌, nat_le, not, Bool, true, false, List, [], ◌∷◌, ◌++◌, Option, None, Some, bytes_eq, codes, if◌then◌else◌}
use Rattle.std.specs.Int.RustNames.{bit_or}
use Rattle.std.specs.List.{list_any}
use Rattle.krb_record.specs.declared.form.Form.{Form}
use Rattle.krb_record.specs.declared.form.Form.TheVariants as forms
use Rattle.krb_record.specs.declared.form.Wanted.{Wanted}
use Rattle.krb_record.specs.Forms.{kept_form, kind_bit, name_bit, nothing_wanted, path_number}
use Rattle.krb_choice.specs.Choices.{Choice, Column, Inside, Kind, Member, Print, Rows, Shows, Whole}

-- ---- messages of some kinds, and what is inside
-- what is inside is of no kind of messages, and of none without a capital
abbrev pub messages : List (List ℕ)
messages = codes "AS-REQ" ∷ codes "AS-REP" ∷ codes "TGS-REQ" ∷ codes "TGS-REP" ∷ codes "AP-REQ" ∷ codes "AP-REP" ∷ codes "KRB-SAFE" ∷ codes "KRB-PRIV" ∷ codes "KRB-CRED" ∷ codes "KRB-ERROR" ∷ []

abbrev pub begins_large : List ℕ → Bool
begins_large [] = false
begins_large (first ∷ others) = not (nat_le 97 first && nat_le first 122)

abbrev pub may_be_inside : List ℕ → Bool
may_be_inside kind = not (list_any (λ message. bytes_eq message kind) messages) && begins_large kind

abbrev pub and_bits : Wanted → ℕ → Wanted
and_bits wanted bits = record { bits = bit_or wanted.bits bits }

abbrev pub with_inside : Wanted → Wanted
with_inside wanted = and_bits wanted (2 ^ 63)

abbrev pub with_kind : (by_kind : Bool) → Wanted → List ℕ → Wanted
with_kind by_kind wanted kind = if by_kind && may_be_inside kind then with_inside (and_bits wanted (0xFFFF * 2 ^ 16)) else and_bits wanted (kind_bit kind)

abbrev pub with_kinds : Wanted → (by_kind : Bool) → List (List ℕ) → Wanted
with_kinds wanted by_kind [] = wanted
with_kinds wanted by_kind (kind ∷ others) = with_kinds (with_kind by_kind wanted kind) by_kind others

-- ---- columns
abbrev pub wanted_shown : Wanted → Shows → Wanted
wanted_shown wanted Kind = wanted
wanted_shown wanted Inside = with_inside wanted
wanted_shown wanted (Member name path) = and_bits (and_bits wanted (name_bit (codes ",\"" ++ name))) (2 ^ (32 + path_number path))

abbrev pub wanted_within : Option (List ℕ) → Wanted → Wanted
wanted_within None wanted = wanted
wanted_within (Some kind) wanted = with_inside wanted

abbrev pub wanted_beside : Wanted → Column → Wanted
wanted_beside wanted column = wanted_within column.within (wanted_shown wanted column.shows)

abbrev pub with_columns : Wanted → List Column → Wanted
with_columns wanted [] = wanted
with_columns wanted (column ∷ others) = with_columns (wanted_beside wanted column) others

abbrev pub wanted_by : (by_kind : Bool) → (kinds : List (List ℕ)) → List Column → Wanted
wanted_by by_kind kinds columns = with_columns (with_kinds nothing_wanted by_kind kinds) columns

abbrev pub print_form : (by_kind : Bool) → (kinds : List (List ℕ)) → Print → Form
print_form by_kind kinds (Whole base) = kept_form base
print_form by_kind kinds (Rows columns) = forms.Rows (wanted_by by_kind kinds columns)

unfoldable pub choice_form : Choice → Form
choice_form c = print_form c.by_kind c.kinds c.print
