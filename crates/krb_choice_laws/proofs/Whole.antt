-- Records that are kept whole: the text between their marks, and their kinds.
use Rattle.std.proofs.Common.{◌≡◌, ◌∙◌, ℕ, ◌==◌, ◌/◌, ◌%◌, ◌^◌, ◌≤◌, ◌||◌, Bool, true, false, not, cond, List, [], ◌∷◌, ◌++◌, append-nil, append_assoc, length, map, Option, Some, None, sym, refl, ap, ap₂, subst, arith, codes, if◌then◌else◌}
use Rattle.std.proofs.lemmas.Bool.{and_from, and_parts}
use Rattle.std.proofs.lemmas.Bool.Decides.{nat_tests}
use Rattle.std.specs.Fmt.{decimal}
use Rattle.std.specs.Int.Bits.{and_zero_l}
use Rattle.std.specs.List.{AllByRecursion, flat_map, list_all, list_any}
use Rattle.std.specs.Option.{option_map}
use Rattle.std.specs.Prelude.{IfSome}
use Rattle.krb_record.specs.Forms.{all_paths, aside_text, cells, cells_from, closing, fields_text, form_of, heading, inside_text, kept_form, kind_mark, labelled, last_text, name_bit, nothing_wanted, opening, opening_from, origin_text, part_text, parts_text, record_text, value_text}
use Rattle.krb_record.specs.Text.{IsPrintable, joined, line_feed}
use Rattle.krb_record.specs.Values.{Field, LastLine, Part, Printed}
use Rattle.krb_record.specs.declared.form.Base.{Base}
use Rattle.krb_record.specs.declared.form.Base.TheVariants as bases
use Rattle.krb_record.specs.declared.form.Form.TheVariants as form
use Rattle.krb_record.proofs.Printable.{is_printable, word}
use Rattle.krb_choice.specs.Choices.{kind_alone}
use Rattle.krb_choice.specs.Marked.{Piece, after_kind, aside_of, kept_piece, kind_read, part_fields, parts_read, pieces, unmarked, whole_text}
use Rattle.krb_choice_laws.specs.Plain.{ArePlain, IsPlain, IsPlainField, IsPlainPart, line_text}
use Rattle.krb_choice_laws.proofs.Marks.{pieces-append, unmarked-append}
use Rattle.krb_choice_laws.proofs.Numbers.{number}
use Rattle.krb_choice_laws.proofs.Spelled.{prints}

-- ---- what stands between marks, and the kinds
abbrev between : List ℕ → List ℕ
between text = unmarked text ++ flat_map kept_piece (pieces text)

abbrev pub kinds_of : List Piece → List (List ℕ)
kinds_of [] = []
kinds_of (p ∷ others) = if p.mark == 1 then kind_alone p.text ∷ kinds_of others else kinds_of others

-- no octet ends a record
abbrev pub has_no_feed : List ℕ → Bool
has_no_feed text = list_all (λ c. not (c == 10)) text

pub feeds-append : (xs ys : List ℕ) → has_no_feed xs ≡ true → has_no_feed ys ≡ true → has_no_feed (xs ++ ys) ≡ true
feeds-append [] ys h k = k
feeds-append (x ∷ xs) ys h k = let parts = and_parts (not (x == 10)) (has_no_feed xs) h in and_from (not (x == 10)) (has_no_feed (xs ++ ys)) parts.0 (feeds-append xs ys parts.1 k)

no-feed : (c : ℕ) → 32 ≤ c → not (c == 10) ≡ true
no-feed c h = grind (arith, nat_tests)

pub no-feeds : (text : List ℕ) → IsPrintable text → has_no_feed text ≡ true
no-feeds [] h = refl
no-feeds (c ∷ others) h = and_from (not (c == 10)) (has_no_feed others) (no-feed c h.0.0) (no-feeds others h.1)

-- the line that tells of a record is the first one
abbrev pub or_told : (told other : Option (List ℕ)) → Option (List ℕ)
or_told None other = other
or_told (Some line) other = Some line

-- a text before any other gives it a text, kinds, and what tells of the record
pub record Keeps (xs text : List ℕ) (kinds : List (List ℕ)) (told : Option (List ℕ)) : Type 0 where
  pub text_is : (rest : List ℕ) → between (xs ++ rest) ≡ text ++ between rest
  pub kinds_are : (rest : List ℕ) → kinds_of (pieces (xs ++ rest)) ≡ kinds ++ kinds_of (pieces rest)
  pub told_is : (rest : List ℕ) → aside_of (pieces (xs ++ rest)) ≡ or_told told (aside_of (pieces rest))
  pub feed : has_no_feed xs ≡ true

or-or : (a b c : Option (List ℕ)) → or_told a (or_told b c) ≡ or_told (or_told a b) c
or-or None b c = refl
or-or (Some line) b c = refl

pub both : {xs ys text more : List ℕ} {kinds others : List (List ℕ)} {told again : Option (List ℕ)} → Keeps xs text kinds told → Keeps ys more others again → Keeps (xs ++ ys) (text ++ more) (kinds ++ others) (or_told told again)
both {xs} {ys} {text} {more} {kinds} {others} {told} {again} h k = record {
  text_is = λ rest. ap between (append_assoc xs ys rest) ∙ h.text_is (ys ++ rest) ∙ ap (λ l. text ++ l) (k.text_is rest) ∙ sym (append_assoc text more (between rest));
  kinds_are = λ rest. ap (λ l. kinds_of (pieces l)) (append_assoc xs ys rest) ∙ h.kinds_are (ys ++ rest) ∙ ap (λ l. kinds ++ l) (k.kinds_are rest) ∙ sym (append_assoc kinds others (kinds_of (pieces rest)));
  told_is = λ rest. ap (λ l. aside_of (pieces l)) (append_assoc xs ys rest) ∙ h.told_is (ys ++ rest) ∙ ap (or_told told) (k.told_is rest) ∙ or-or told again (aside_of (pieces rest));
  feed = feeds-append xs ys h.feed k.feed;
}

pub plain : (xs : List ℕ) → IsPrintable xs → Keeps xs xs [] None
plain xs h = record {
  text_is = λ rest. ap₂ (λ a b. a ++ flat_map kept_piece b) (unmarked-append xs rest h) (pieces-append xs rest h) ∙ append_assoc xs (unmarked rest) (flat_map kept_piece (pieces rest));
  kinds_are = λ rest. ap kinds_of (pieces-append xs rest h);
  told_is = λ rest. ap aside_of (pieces-append xs rest h);
  feed = no-feeds xs h;
}

said : (text : List ℕ) → list_all is_printable text ≡ true → Keeps text text [] None
said text e = plain text (word text e).all

pub none : Keeps [] [] [] None
none = plain [] tt

marked-kind : (kind : List ℕ) → IsPrintable kind → Keeps (kind_mark kind) [] (kind_alone kind ∷ []) None
marked-kind kind h = record {
  text_is = λ rest. ap between (ap (λ l. 1 ∷ l) (append_assoc kind (6 ∷ []) rest)) ∙ ap (flat_map kept_piece) (pieces-append kind (6 ∷ rest) h);
  kinds_are = λ rest.
      ap (λ l. kinds_of (pieces (1 ∷ l))) (append_assoc kind (6 ∷ []) rest)
      ∙ ap₂ (λ (text : List ℕ) (all : List Piece). kind_alone text ∷ kinds_of all) (unmarked-append kind (6 ∷ rest) h ∙ append-nil kind) (pieces-append kind (6 ∷ rest) h);
  told_is = λ rest. ap (λ l. aside_of (pieces (1 ∷ l))) (append_assoc kind (6 ∷ []) rest) ∙ ap aside_of (pieces-append kind (6 ∷ rest) h);
  feed = feeds-append kind (6 ∷ []) (no-feeds kind h) refl;
}

marked-aside : (text : List ℕ) → IsPrintable text → Keeps (5 ∷ text ++ 6 ∷ []) [] [] (Some text)
marked-aside text h = record {
  text_is = λ rest. ap between (ap (λ l. 5 ∷ l) (append_assoc text (6 ∷ []) rest)) ∙ ap (flat_map kept_piece) (pieces-append text (6 ∷ rest) h);
  kinds_are = λ rest. ap (λ l. kinds_of (pieces (5 ∷ l))) (append_assoc text (6 ∷ []) rest) ∙ ap kinds_of (pieces-append text (6 ∷ rest) h);
  told_is = λ rest. ap (λ l. aside_of (pieces (5 ∷ l))) (append_assoc text (6 ∷ []) rest) ∙ ap Some (unmarked-append text (6 ∷ rest) h ∙ append-nil text);
  feed = feeds-append text (6 ∷ []) (no-feeds text h) refl;
}

-- ---- fields

labelled-keeps : (base : Base) (label : List ℕ) (f : Field) → IsPrintable label → IsPlainField f → Keeps (labelled (kept_form base) label (codes ",\"" ++ f.name) f.value) (labelled (form_of base) label (codes ",\"" ++ f.name) f.value) [] None
unfolding labelled
labelled-keeps bases.Lines label f l h = plain _ (prints label (value_text false f.value) l (h.line false))
labelled-keeps bases.NamedLines label f l h = plain _ (prints label (value_text true f.value) l (h.line true))
labelled-keeps bases.Json label f l h = plain _ h.object

field-label : (f : Field) → IsPlainField f → IsPrintable (codes " " ++ f.name ++ codes "=")
field-label f h = prints (codes " " ++ f.name) (codes "=") (prints (codes " ") f.name (word (codes " ") refl).all h.name) (word (codes "=") refl).all

fields-keep : (base : Base) (fields : List Field) → ArePlain fields → Keeps (fields_text (kept_form base) fields) (fields_text (form_of base) fields) [] None
fields-keep base [] h = none
fields-keep base (f ∷ others) h = both (labelled-keeps base (codes " " ++ f.name ++ codes "=") f (field-label f h.0) h.0) (fields-keep base others h.1)

origin-keeps : (base : Base) (fields : List Field) → ArePlain fields → Keeps (origin_text (kept_form base) fields) (origin_text (form_of base) fields) [] None
origin-keeps base [] h = none
origin-keeps base (f ∷ others) h = both (labelled-keeps base (f.name ++ codes "=") f (prints f.name (codes "=") h.0.name (word (codes "=") refl).all) h.0) (fields-keep base others h.1)

-- ---- what begins and ends a record
opening-keeps : (base : Base) (kind : List ℕ) → IsPrintable kind → Keeps (opening (kept_form base) kind) (opening (form_of base) kind) (kind_alone kind ∷ []) None
unfolding opening
opening-keeps bases.Lines kind h = both (marked-kind kind h) (plain kind h)
opening-keeps bases.NamedLines kind h = both (marked-kind kind h) (plain kind h)
opening-keeps bases.Json kind h = both (both (both (marked-kind kind h) (said (codes "{\"kind\":\"") refl)) (plain kind h)) (said (codes "\"") refl)

closing-keeps : (base : Base) → Keeps (closing (kept_form base)) (closing (form_of base)) [] None
unfolding closing
closing-keeps bases.Lines = none
closing-keeps bases.NamedLines = none
closing-keeps bases.Json = said (codes "}") refl

from-keeps : (base : Base) (origin : List Field) (kind : List ℕ) → ArePlain origin → IsPrintable kind → Keeps (opening_from (kept_form base) origin kind) (opening_from (form_of base) origin kind) (kind_alone kind ∷ []) None
unfolding opening opening_from
from-keeps bases.Lines origin kind h k = both (both (origin-keeps bases.Lines origin h) (said (codes " ") refl)) (opening-keeps bases.Lines kind k)
from-keeps bases.NamedLines origin kind h k = both (both (origin-keeps bases.NamedLines origin h) (said (codes " ") refl)) (opening-keeps bases.NamedLines kind k)
from-keeps bases.Json origin kind h k = both (opening-keeps bases.Json kind k) (origin-keeps bases.Json origin h)

heading-keeps : (base : Base) (origin : List Field) (kind : List ℕ) → ArePlain origin → IsPrintable kind → Keeps (heading (kept_form base) origin kind) (heading (form_of base) origin kind) (kind_alone kind ∷ []) None
heading-keeps base [] kind h k = opening-keeps base kind k
heading-keeps base (f ∷ others) kind h k = from-keeps base (f ∷ others) kind h k

aside-keeps : (base : Base) (aside : Option LastLine) → IfSome aside (λ line. IsPrintable (line_text line)) → Keeps (aside_text (kept_form base) aside) (aside_text (form_of base) aside) [] (option_map line_text aside)
aside-keeps base None h = none
aside-keeps bases.Lines (Some line) h = marked-aside (line_text line) h
aside-keeps bases.NamedLines (Some line) h = marked-aside (line_text line) h
aside-keeps bases.Json (Some line) h = marked-aside (line_text line) h

-- ---- what is inside
abbrev part_kinds : List Part → List (List ℕ)
part_kinds parts = map (λ p. kind_alone p.kind) parts

part-keeps : (base : Base) (p : Part) → IsPlainPart p → Keeps (part_text (kept_form base) p) (part_text (form_of base) p) (kind_alone p.kind ∷ []) None
unfolding part_text
part-keeps base p h = both (both (opening-keeps base p.kind h.kind) (fields-keep base p.fields h.fields)) (closing-keeps base)

nothing-shown : (fields : List Field) → fields_text (form.Rows nothing_wanted) fields ≡ []
unfolding labelled cells
nothing-shown [] = refl
nothing-shown (f ∷ others) = ap₂ (λ (b : Bool) (l : List ℕ). cond b [] (2 ∷ (codes ",\"" ++ f.name) ++ cells_from (0 / 2 ^ 32 % 2 ^ 26) all_paths f.value) ++ l) (ap (λ n. n == 0) (and_zero_l (name_bit (codes ",\"" ++ f.name)))) (nothing-shown others)

lone-keeps : (p : Part) → IsPlainPart p → Keeps (part_text (form.Rows nothing_wanted) p) [] (kind_alone p.kind ∷ []) None
unfolding part_text opening closing
lone-keeps p h =
    subst (λ l. Keeps ((kind_mark p.kind ++ l) ++ []) [] (kind_alone p.kind ∷ []) None) (sym (nothing-shown p.fields)) (both (both (marked-kind p.kind h.kind) none) none)

lone-parts : (parts : List Part) → AllByRecursion IsPlainPart parts → Keeps (flat_map (part_text (form.Rows nothing_wanted)) parts) [] (part_kinds parts) None
lone-parts [] h = none
lone-parts (p ∷ others) h = both (lone-keeps p h.0) (lone-parts others h.1)

named-parts : (parts : List Part) → AllByRecursion IsPlainPart parts → Keeps (flat_map (λ p. codes " " ++ part_text form.KeptNamedLines p) parts) (flat_map (λ p. codes " " ++ part_text form.NamedLines p) parts) (part_kinds parts) None
named-parts [] h = none
named-parts (p ∷ others) h = both (both (said (codes " ") refl) (part-keeps bases.NamedLines p h.0)) (named-parts others h.1)

more-parts : (parts : List Part) → AllByRecursion IsPlainPart parts → Keeps (flat_map (λ p. codes "," ++ part_text form.KeptJson p) parts) (flat_map (λ p. codes "," ++ part_text form.Json p) parts) (part_kinds parts) None
more-parts [] h = none
more-parts (p ∷ others) h = both (both (said (codes ",") refl) (part-keeps bases.Json p h.0)) (more-parts others h.1)

listed-parts : (parts : List Part) → AllByRecursion IsPlainPart parts → Keeps (joined [] (codes ",") (part_text form.KeptJson) parts) (joined [] (codes ",") (part_text form.Json) parts) (part_kinds parts) None
listed-parts [] h = none
listed-parts (p ∷ others) h = both (part-keeps bases.Json p h.0) (more-parts others h.1)

parts-keep : (base : Base) (parts : List Part) → AllByRecursion IsPlainPart parts → Keeps (inside_text (kept_form base) parts) (inside_text (form_of base) parts) (part_kinds parts) None
unfolding inside_text
parts-keep bases.Lines parts h = lone-parts parts h
parts-keep bases.NamedLines parts h = both (both (said (codes " inside=") refl) (plain (decimal (length parts)) (number (length parts)))) (named-parts parts h)
parts-keep bases.Json parts h =
    subst (λ l. Keeps (inside_text form.KeptJson parts) (inside_text form.Json parts) l None) (append-nil (part_kinds parts))
    (both (said (codes ",\"inside\":") refl) (both (both (said (codes "[") refl) (listed-parts parts h)) (said (codes "]") refl)))

abbrev pub inside_kinds : Option (List Part) → List (List ℕ)
inside_kinds None = []
inside_kinds (Some parts) = part_kinds parts

inside-keeps : (base : Base) (inside : Option (List Part)) → IfSome inside (λ parts. AllByRecursion IsPlainPart parts) → Keeps (parts_text (kept_form base) inside) (parts_text (form_of base) inside) (inside_kinds inside) None
inside-keeps base None h = none
inside-keeps base (Some parts) h = parts-keep base parts h

-- ---- the record
last-keeps : (base : Base) (last : List Field) → ArePlain last → Keeps (last_text (kept_form base) last) (last_text (form_of base) last) [] None
last-keeps base [] h = none
last-keeps bases.Lines (f ∷ others) h = none
last-keeps bases.NamedLines (f ∷ others) h = none
last-keeps bases.Json (f ∷ others) h = fields-keep bases.Json (f ∷ others) h

or-none : (told : Option (List ℕ)) → or_told told None ≡ told
or-none None = refl
or-none (Some line) = refl

pub record-keeps : (base : Base) (r : Printed) → IsPlain r → Keeps (record_text (kept_form base) r) (record_text (form_of base) r) (kind_alone r.kind ∷ inside_kinds r.inside) (option_map line_text r.aside)
unfolding record_text
record-keeps base r h =
    subst (λ t. Keeps (record_text (kept_form base) r) (record_text (form_of base) r) (kind_alone r.kind ∷ inside_kinds r.inside) t) (or-none (option_map line_text r.aside))
    (subst (λ l. Keeps (record_text (kept_form base) r) (record_text (form_of base) r) (kind_alone r.kind ∷ l) (or_told (option_map line_text r.aside) None)) (append-nil (inside_kinds r.inside))
    (both (both (both (heading-keeps base r.origin r.kind h.origin h.kind) (fields-keep base r.fields h.fields)) (aside-keeps base r.aside h.aside)) (both (inside-keeps base r.inside h.inside) (both (last-keeps base r.last h.last) (closing-keeps base)))))

-- without its marks it is the record's own
pub whole-is : (base : Base) (r : Printed) → IsPlain r → whole_text (record_text (kept_form base) r) ≡ record_text (form_of base) r ++ line_feed
whole-is base r h =
    ap (λ l. l ++ line_feed) (ap between (sym (append-nil (record_text (kept_form base) r))) ∙ (record-keeps base r h).text_is [] ∙ append-nil (record_text (form_of base) r))

pub kinds-are : (base : Base) (r : Printed) → IsPlain r → kinds_of (pieces (record_text (kept_form base) r)) ≡ kind_alone r.kind ∷ inside_kinds r.inside
kinds-are base r h =
    ap (λ l. kinds_of (pieces l)) (sym (append-nil (record_text (kept_form base) r))) ∙ (record-keeps base r h).kinds_are [] ∙ append-nil (kind_alone r.kind ∷ inside_kinds r.inside)

-- ---- kinds of pieces
heads : (x y : List ℕ) (xs ys : List (List ℕ)) → x ∷ xs ≡ y ∷ ys → x ≡ y
heads x y xs ys e = cc

tails : (x y : List ℕ) (xs ys : List (List ℕ)) → x ∷ xs ≡ y ∷ ys → xs ≡ ys
tails x y xs ys e = cc

pub first-kind : (all : List Piece) (kind : List ℕ) (kinds : List (List ℕ)) → kinds_of all ≡ kind ∷ kinds → (kind_read all ≡ kind) × (kinds_of (after_kind all) ≡ kinds)
first-kind [] kind kinds e = cc
first-kind (p ∷ others) kind kinds e =
    (elim (p.mark == 1) as (λ is. cond is (kind_alone p.text ∷ kinds_of others) (kinds_of others) ≡ kind ∷ kinds → (cond is (kind_alone p.text) (kind_read others) ≡ kind) × (kinds_of (cond is others (after_kind others)) ≡ kinds)) [
      | true ↦ λ f. (heads (kind_alone p.text) kind (kinds_of others) kinds f, tails (kind_alone p.text) kind (kinds_of others) kinds f)
      | false ↦ λ f. first-kind others kind kinds f
    ]) e

pub any-kind : (test : List ℕ → Bool) (all : List Piece) → list_any (λ p. test p.kind) (parts_read all) ≡ list_any test (kinds_of all)
any-kind test [] = refl
any-kind test (p ∷ others) =
    elim (p.mark == 1) as (λ is. list_any (λ part. test part.kind) (cond is (record { kind = kind_alone p.text; fields = part_fields others } ∷ parts_read others) (parts_read others)) ≡ list_any test (cond is (kind_alone p.text ∷ kinds_of others) (kinds_of others))) [
      | true ↦ ap (λ b. test (kind_alone p.text) || b) (any-kind test others)
      | false ↦ any-kind test others
    ]
