-- Dumps spell the octets that they are written of.
use Rattle.std.proofs.Common.{ℕ, zero, suc, not, ◌&&◌, replicate, append_assoc, subst, ◌+◌, ◌*◌, ◌/◌, ◌%◌, ◌^◌, ◌==◌, ◌≡◌, ◌<◌, ◌||◌, if◌then◌else◌, nat_le, Bool, true, false, List, [], ◌∷◌, ◌++◌, length, take, drop, None, Ok, refl, ap, ◌∙◌, arith}
use Rattle.std.proofs.lemmas.Bool.Decides.{nat_tests}
use Rattle.std.proofs.lemmas.List.Elements.{All-append, All-cons}
use Rattle.hex.specs.Hex.{encode_lower, encode_with, is_hex_digit}
use Rattle.krb_der.specs.Octets.{AreOctets, when}
use Rattle.krb_input.specs.Characters.{count_digits, skip_blanks}
use Rattle.krb_input.specs.Dumps.{begins_dump, begins_octets, count_zeros, dump_from, lines, then_lines}
use Rattle.krb_input.specs.Inputs.{as_form, spelled}
use Rattle.krb_input.specs.Octets.{first_no_text}
use Rattle.krb_input.specs.Readings.{prepend}
use Rattle.krb_source.specs.declared.spelling.Spelling.TheVariants as form
use Rattle.krb_laws.specs.Spelled.{DumpsAreSpelled}
use Rattle.krb_laws.specs.Written.{HasOffsets, IsBeside, IsGroup, IsLayout, Layout, colon_if, dump_end, dump_line, dump_lines, grouped, offset_text, rows_of, spaced}
use Rattle.krb_laws.proofs.DumpRows.{end_read, gap_skipped, group_counted, line_read, none_counted, one_less}
use Rattle.krb_laws.proofs.Hexadecimal.{not_skipped}
use Rattle.krb_laws.proofs.Inputs.{spelled_dump}
use Rattle.krb_laws.proofs.Pairs.{digit_no_blank, digit_of, digits_pair}
use Rattle.krb_laws.proofs.Offsets.{offset_begins, offset_in_line}
use Rattle.krb_laws.proofs.Printed.{ArePrintable, AreInLine, IsInLine, IsPrintable, beside_printable, first_line, grouped_printable, in_line, line_before}
use Rattle.krb_laws.proofs.Rows.{AreGroups, AreRows, all_of, all_of_rows, group_some, groups_are, rows_are}

-- ---- the octets of lines
colon_printable : (has_colon : Bool) (text : List ℕ) → ArePrintable text → ArePrintable (colon_if has_colon ++ text)
colon_printable true text are = All-cons IsPrintable 0x3A text refl are
colon_printable false text are = are

line_in_line : (layout : Layout) (count : ℕ) (octets : List ℕ) → IsLayout layout → AreOctets octets → AreInLine (dump_line layout count octets)
line_in_line layout count octets is are =
    let rows : List (List ℕ) = rows_of (length octets) layout.group octets in
    let after : List ℕ = layout.beside octets in
    let printable = grouped_printable layout.has_colon layout.gap layout.is_wide rows after (groups_are layout.has_colon (length octets) layout.group octets is.group are) (beside_printable layout.has_colon after (is.beside octets)) in
    let tail : List ℕ = colon_if layout.has_colon ++ grouped layout.gap layout.is_wide rows after in
    All-append IsInLine (offset_text layout count) tail (offset_in_line layout is count) (in_line tail (colon_printable layout.has_colon (grouped layout.gap layout.is_wide rows after) printable))

ended_read : (layout : Layout) (count : ℕ) (has_end : Bool) → IsLayout layout → layout.has_end ≡ has_end → count < layout.base ^ layout.digits → dump_from count (lines (dump_end layout count)) ≡ Ok []
ended_read layout count true is ends small =
    ap (λ b. dump_from count (lines (if b then offset_text layout count ++ (0x0A ∷ []) else []))) ends
    ∙ ap (dump_from count) (first_line (offset_text layout count) [] (offset_in_line layout is count))
    ∙ ap (λ found. then_lines (0x0A ∷ []) found (λ read. dump_from (count + length read) (lines []))) (end_read layout count is ends small)
ended_read layout count false is ends small = ap (λ b. dump_from count (lines (if b then offset_text layout count ++ (0x0A ∷ []) else []))) ends

ended_text : (layout : Layout) (count : ℕ) (has_end : Bool) → IsLayout layout → first_no_text (if has_end then offset_text layout count ++ (0x0A ∷ []) else []) ≡ None
ended_text layout count true is = line_before (offset_text layout count) [] (offset_in_line layout is count) refl
ended_text layout count false is = refl

lines_read : (layout : Layout) (count : ℕ) (rows : List (List ℕ)) → IsLayout layout → AreRows (layout.base ^ layout.digits) count rows → dump_from count (lines (dump_lines layout count rows)) ≡ Ok (all_of rows)
lines_read layout count [] is are = ended_read layout count layout.has_end is refl are
lines_read layout count ([] ∷ others) is are = absurd (omega (arith, are.1))
lines_read layout count ((octet ∷ octets) ∷ others) is are =
    let first : List ℕ = dump_line layout count (octet ∷ octets) in
    let text : List ℕ = dump_lines layout (count + length (octet ∷ octets)) others in
    ap (dump_from count) (first_line first text (line_in_line layout count (octet ∷ octets) is are.0))
    ∙ ap (λ found. then_lines (0x0A ∷ text) found (λ read. dump_from (count + length read) (lines text))) (line_read layout count octet octets is are.0 are.2)
    ∙ ap (prepend (octet ∷ octets)) (lines_read layout (count + length (octet ∷ octets)) others is are.3)

lines_text : (layout : Layout) (count : ℕ) (rows : List (List ℕ)) → IsLayout layout → AreRows (layout.base ^ layout.digits) count rows → first_no_text (dump_lines layout count rows) ≡ None
lines_text layout count [] is are = ended_text layout count layout.has_end is
lines_text layout count (octets ∷ others) is are =
    line_before (dump_line layout count octets) (dump_lines layout (count + length octets) others) (line_in_line layout count octets is are.0) (lines_text layout (count + length octets) others is are.3)

-- ---- how the first line begins
-- the end of a line is no digit
count_before : (line text : List ℕ) → count_digits (line ++ (0x0A ∷ text)) ≡ count_digits line
count_before [] text = refl
count_before (octet ∷ line) text = ap (λ n. when (is_hex_digit octet) (λ _. suc n) (λ _. 0)) (count_before line text)

-- a group has two digits or more, and two if no `:` comes before it
group_begins : (as_of_od has_colon : Bool) (size digits : ℕ) → IsGroup has_colon size → digits ≡ 2 * size → (if has_colon then nat_le 2 digits else (digits == 2 || as_of_od)) ≡ true
group_begins as_of_od true size digits is same = let some : 0 < size = is.0 in grind (arith, nat_tests)
group_begins as_of_od false size digits is same = let two : (digits == 2) ≡ true = grind (arith, nat_tests) in ap (λ b. b || as_of_od) two

-- neither `:` nor a blank is a digit
none_first : (has_colon : Bool) (gap : ℕ) (is_wide : ℕ → Bool) (octets : List ℕ) (others : List (List ℕ)) (after text : List ℕ) → count_digits ((colon_if has_colon ++ grouped (suc gap) is_wide (octets ∷ others) after) ++ (0x0A ∷ text)) ≡ 0
none_first true gap is_wide octets others after text = refl
none_first false gap is_wide octets others after text = refl

no_zero_first : (has_colon : Bool) (gap : ℕ) (is_wide : ℕ → Bool) (octets : List ℕ) (others : List (List ℕ)) (after text : List ℕ) → count_zeros ((colon_if has_colon ++ grouped (suc gap) is_wide (octets ∷ others) after) ++ (0x0A ∷ text)) ≡ 0
no_zero_first true gap is_wide octets others after text = refl
no_zero_first false gap is_wide octets others after text = refl

-- what is looked for after the first offset
begins_as : (as_of_od has_colon : Bool) (gap : ℕ) (is_wide : ℕ → Bool) (octets : List ℕ) (others : List (List ℕ)) (after text : List ℕ) →
    begins_octets as_of_od ((colon_if has_colon ++ grouped (suc gap) is_wide (octets ∷ others) after) ++ (0x0A ∷ text))
    ≡ (if has_colon then nat_le 2 (count_digits (skip_blanks ((replicate gap 0x20 ++ (encode_lower octets ++ spaced is_wide 1 others after)) ++ (0x0A ∷ text))))
    else (count_digits (skip_blanks ((replicate gap 0x20 ++ (encode_lower octets ++ spaced is_wide 1 others after)) ++ (0x0A ∷ text))) == 2 || as_of_od))
begins_as as_of_od true gap is_wide octets others after text = refl
begins_as as_of_od false gap is_wide octets others after text = refl

begins_by : (as_of_od has_colon : Bool) (gap : ℕ) (is_wide : ℕ → Bool) (octet : ℕ) (octets : List ℕ) (others : List (List ℕ)) (after text : List ℕ) → AreGroups has_colon ((octet ∷ octets) ∷ others) → IsBeside has_colon after →
    begins_octets as_of_od ((colon_if has_colon ++ grouped (suc gap) is_wide ((octet ∷ octets) ∷ others) after) ++ (0x0A ∷ text)) ≡ true
unfolding encode_with
begins_by as_of_od has_colon gap is_wide octet octets others after text are is =
    let pair = digits_pair octet are.0.0 in
    let rest : List ℕ = spaced is_wide 1 others after in
    let group : List ℕ = encode_lower (octet ∷ octets) ++ rest in
    let counted = count_before group text ∙ group_counted (octet ∷ octets) rest are.0 (none_counted has_colon is_wide 1 others after is) in
    let skipped : skip_blanks ((replicate gap 0x20 ++ group) ++ (0x0A ∷ text)) ≡ group ++ (0x0A ∷ text) =
    ap skip_blanks (append_assoc (replicate gap 0x20) group (0x0A ∷ text)) ∙ gap_skipped gap (group ++ (0x0A ∷ text))
    ∙ not_skipped (digit_of (octet / 16)) (digit_of (octet % 16) ∷ ((encode_lower octets ++ rest) ++ (0x0A ∷ text))) (digit_no_blank (digit_of (octet / 16)) pair.high_digit) in
    begins_as as_of_od has_colon gap is_wide (octet ∷ octets) others after text
    ∙ ap (λ t. if has_colon then nat_le 2 (count_digits t) else (count_digits t == 2 || as_of_od)) skipped
    ∙ group_begins as_of_od has_colon (length (octet ∷ octets)) (count_digits (group ++ (0x0A ∷ text))) are.1 counted

-- the first line
begins_line : (layout : Layout) (gap group octet : ℕ) (octets text : List ℕ) → IsLayout layout → layout.gap ≡ suc gap → layout.group ≡ suc group → AreOctets (octet ∷ octets) → begins_dump (dump_line layout 0 (octet ∷ octets) ++ (0x0A ∷ text)) ≡ true
begins_line layout gap group octet octets text is has_gap has_group are =
    let after : List ℕ = layout.beside (octet ∷ octets) in
    let others : List (List ℕ) = rows_of (length octets) (suc group) (drop group octets) in
    let first : List ℕ = octet ∷ take group octets in
    let tail : List ℕ = colon_if layout.has_colon ++ grouped (suc gap) layout.is_wide (first ∷ others) after in
    let groups = groups_are layout.has_colon (length (octet ∷ octets)) (suc group) (octet ∷ octets) (subst (IsGroup layout.has_colon) has_group is.group) are in
    let as_od : Bool = layout.digits == 7 && not layout.has_prefix in
    ap (λ g. begins_dump ((offset_text layout 0 ++ (colon_if layout.has_colon ++ grouped g layout.is_wide (rows_of (length (octet ∷ octets)) layout.group (octet ∷ octets)) after)) ++ (0x0A ∷ text))) has_gap
    ∙ ap (λ g. begins_dump ((offset_text layout 0 ++ (colon_if layout.has_colon ++ grouped (suc gap) layout.is_wide (rows_of (length (octet ∷ octets)) g (octet ∷ octets)) after)) ++ (0x0A ∷ text))) has_group
    ∙ ap begins_dump (append_assoc (offset_text layout 0) tail (0x0A ∷ text))
    ∙ offset_begins layout is (tail ++ (0x0A ∷ text)) (none_first layout.has_colon gap layout.is_wide first others after text) (no_zero_first layout.has_colon gap layout.is_wide first others after text)
    ∙ begins_by as_od layout.has_colon gap layout.is_wide octet (take group octets) others after text groups (is.beside (octet ∷ octets))

-- ---- rows
rows_read : (layout : Layout) (octet : ℕ) (octets : List ℕ) (others : List (List ℕ)) → IsLayout layout → AreRows (layout.base ^ layout.digits) 0 ((octet ∷ octets) ∷ others) →
    spelled (dump_lines layout 0 ((octet ∷ octets) ∷ others)) ≡ Ok (form.Dump, all_of ((octet ∷ octets) ∷ others))
rows_read layout octet octets others is are =
    let text : List ℕ = dump_lines layout 0 ((octet ∷ octets) ∷ others) in
    let gap = one_less layout.gap is.gap in
    let group = one_less layout.group (group_some layout.has_colon layout.group is.group) in
    let begins = begins_line layout gap.0 group.0 octet octets (dump_lines layout (0 + length (octet ∷ octets)) others) is gap.1 group.1 are.0 in
    spelled_dump text (lines_text layout 0 ((octet ∷ octets) ∷ others) is are) begins
    ∙ ap (as_form (length text) form.Dump) (lines_read layout 0 ((octet ∷ octets) ∷ others) is are)

by_width : (layout : Layout) (width octet : ℕ) (octets : List ℕ) → IsLayout layout → 0 < width → AreOctets (octet ∷ octets) → HasOffsets layout (octet ∷ octets) →
    spelled (dump_lines layout 0 (rows_of (length (octet ∷ octets)) width (octet ∷ octets))) ≡ Ok (form.Dump, octet ∷ octets)
by_width layout zero octet octets is some are few = absurd (omega arith)
by_width layout (suc more) octet octets is some are few =
    rows_read layout octet (take more octets) (rows_of (length octets) (suc more) (drop more octets)) is (rows_are (layout.base ^ layout.digits) (length (octet ∷ octets)) (suc more) 0 (octet ∷ octets) some are (omega (arith, few)))
    ∙ ap (λ all. Ok (form.Dump, all)) (all_of_rows (length (octet ∷ octets)) (suc more) (octet ∷ octets) some (omega arith))

pub dumps_are_spelled : DumpsAreSpelled
dumps_are_spelled layout [] is are some few = absurd (omega arith)
dumps_are_spelled layout (octet ∷ octets) is are some few = by_width layout layout.width octet octets is is.some are few
