-- Records with their labels.
use Rattle.std.proofs.Common.{◌≡◌, ℕ, Bool, true, false, List, [], ◌∷◌, ◌++◌, Some, None, refl, sym, ◌∙◌, ap, append_assoc, append-nil, codes}
use Rattle.std.proofs.Common.{◌-◌, length, take, drop, subst, arith, ap₂, length-take, take-append-drop}
use Rattle.std.proofs.lemmas.Str.{IsCharBoundary-at_seam, IsUtf8-from_ascii, IsUtf8-take}
use Rattle.std.proofs.lemmas.Str.Ascii.{IsAscii-cons, IsAscii-nil}
use Rattle.std.proofs.lemmas.Map.Views.{exact_unsigned_eq}
use Rattle.std.specs.Cmp.Lexicographic.{pointwise}
use Rattle.std.specs.Prelude.{nat_eq, ◌&&◌}
use Rattle.std.specs.Str.{IsCharBoundary, IsUtf8}
use Rattle.krb_record.specs.declared.form.Form.{Form}
use Rattle.krb_record.specs.declared.form.Form.TheVariants as forms
use Rattle.krb_record.specs.declared.form.Wanted.{Wanted}
use Rattle.krb_record.specs.Forms.{aside_text, cells, closing, field, fields_text, heading, kind_mark, labelled, last_text, opening, opening_from, parts_text, ending, record_line, record_text, value_text}
use Rattle.krb_record.specs.Labels.{AddsMembers, EndsRecord, Label, begin_text, file_field, label_text, line_of}
use Rattle.krb_record.specs.Text.{line_feed}
use Rattle.krb_record.specs.Values.{FileName, Field, Printed, with_first, with_last}

-- ---- lines
-- the name of a file and a blank precede what begins a line
before_origin : (name origin kind : List ℕ) → (name ++ codes " ") ++ ((origin ++ codes " ") ++ kind) ≡ ((name ++ (32 ∷ origin)) ++ codes " ") ++ kind
before_origin name origin kind =
    sym (append_assoc (name ++ codes " ") (origin ++ codes " ") kind)
    ∙ ap (λ l. l ++ kind) (sym (append_assoc (name ++ codes " ") origin (codes " ")) ∙ ap (λ l. l ++ codes " ") (append_assoc name (codes " ") origin))

heading-plain : (name : List ℕ) (origin : List Field) (kind : List ℕ) → label_text forms.Lines name ++ heading forms.Lines origin kind ≡ heading forms.Lines (file_field name ∷ origin) kind
unfolding label_text labelled opening opening_from
heading-plain name [] kind = ap (λ l. (l ++ codes " ") ++ kind) (sym (append-nil (codes "file=" ++ value_text false (FileName name))))
heading-plain name (first ∷ others) kind = before_origin (codes "file=" ++ value_text false (FileName name)) (((first.name ++ codes "=") ++ value_text false first.value) ++ fields_text forms.Lines others) kind

heading-named : (name : List ℕ) (origin : List Field) (kind : List ℕ) → label_text forms.NamedLines name ++ heading forms.NamedLines origin kind ≡ heading forms.NamedLines (file_field name ∷ origin) kind
unfolding label_text labelled opening opening_from
heading-named name [] kind = ap (λ l. (l ++ codes " ") ++ kind) (sym (append-nil (codes "file=" ++ value_text true (FileName name))))
heading-named name (first ∷ others) kind = before_origin (codes "file=" ++ value_text true (FileName name)) (((first.name ++ codes "=") ++ value_text true first.value) ++ fields_text forms.NamedLines others) kind

heading-kept-plain : (name : List ℕ) (origin : List Field) (kind : List ℕ) → label_text forms.KeptLines name ++ heading forms.KeptLines origin kind ≡ heading forms.KeptLines (file_field name ∷ origin) kind
unfolding label_text labelled opening opening_from
heading-kept-plain name [] kind = ap (λ l. (l ++ codes " ") ++ (kind_mark kind ++ kind)) (sym (append-nil (codes "file=" ++ value_text false (FileName name))))
heading-kept-plain name (first ∷ others) kind = before_origin (codes "file=" ++ value_text false (FileName name)) (((first.name ++ codes "=") ++ value_text false first.value) ++ fields_text forms.KeptLines others) (kind_mark kind ++ kind)

heading-kept-named : (name : List ℕ) (origin : List Field) (kind : List ℕ) → label_text forms.KeptNamedLines name ++ heading forms.KeptNamedLines origin kind ≡ heading forms.KeptNamedLines (file_field name ∷ origin) kind
unfolding label_text labelled opening opening_from
heading-kept-named name [] kind = ap (λ l. (l ++ codes " ") ++ (kind_mark kind ++ kind)) (sym (append-nil (codes "file=" ++ value_text true (FileName name))))
heading-kept-named name (first ∷ others) kind = before_origin (codes "file=" ++ value_text true (FileName name)) (((first.name ++ codes "=") ++ value_text true first.value) ++ fields_text forms.KeptNamedLines others) (kind_mark kind ++ kind)

-- the cells of a row
before_cells : (name first others kind : List ℕ) → (name ++ []) ++ ((first ++ others) ++ kind) ≡ (name ++ (first ++ others)) ++ kind
before_cells name first others kind = ap (λ l. l ++ ((first ++ others) ++ kind)) (append-nil name) ∙ sym (append_assoc name (first ++ others) kind)

heading-rows : (wanted : Wanted) (name : List ℕ) (origin : List Field) (kind : List ℕ) → label_text (forms.Rows wanted) name ++ heading (forms.Rows wanted) origin kind ≡ heading (forms.Rows wanted) (file_field name ∷ origin) kind
unfolding label_text labelled opening opening_from
heading-rows wanted name [] kind = refl
heading-rows wanted name (first ∷ others) kind = before_cells (cells wanted (codes ",\"file") (FileName name)) (cells wanted (codes ",\"" ++ first.name) first.value) (fields_text (forms.Rows wanted) others) (kind_mark kind)

-- and the whole line
line_before : (name before after fields aside rest : List ℕ) → name ++ before ≡ after → name ++ ((((before ++ fields) ++ aside) ++ rest) ++ line_feed) ≡ (((after ++ fields) ++ aside) ++ rest) ++ line_feed
line_before name before after fields aside rest e =
    sym (append_assoc name (((before ++ fields) ++ aside) ++ rest) line_feed)
    ∙ ap (λ l. l ++ line_feed)
    (sym (append_assoc name ((before ++ fields) ++ aside) rest)
    ∙ ap (λ l. l ++ rest) (sym (append_assoc name (before ++ fields) aside)
    ∙ ap (λ l. l ++ aside) (sym (append_assoc name before fields) ∙ ap (λ l. l ++ fields) e)))

-- of a form whose headings begin with the label
abbrev BeginsHeadings : Form → List ℕ → Type 0
BeginsHeadings f name = (origin : List Field) (kind : List ℕ) → label_text f name ++ heading f origin kind ≡ heading f (file_field name ∷ origin) kind

line-so : (f : Form) (name : List ℕ) (r : Printed) → BeginsHeadings f name → label_text f name ++ record_line f r ≡ record_line f (with_first (file_field name) r)
unfolding record_text
line-so f name r begins = line_before (label_text f name) (heading f r.origin r.kind) (heading f (file_field name ∷ r.origin) r.kind) (fields_text f r.fields) (aside_text f r.aside) (ending f r.inside r.last) (begins r.origin r.kind)

-- ---- objects
fields-more : (f : Form) (fields : List Field) (last : Field) → fields_text f (fields ++ last ∷ []) ≡ fields_text f fields ++ field f last.name last.value
fields-more f [] last = append-nil (field f last.name last.value)
fields-more f (first ∷ fields) last =
    ap (λ l. field f first.name first.value ++ l) (fields-more f fields last)
    ∙ sym (append_assoc (field f first.name first.value) (fields_text f fields) (field f last.name last.value))

last-more : (fields : List Field) (last : Field) → last_text forms.Json (fields ++ last ∷ []) ≡ last_text forms.Json fields ++ field forms.Json last.name last.value
last-more [] last = append-nil (field forms.Json last.name last.value)
last-more (first ∷ fields) last = fields-more forms.Json (first ∷ fields) last

last-more-kept : (fields : List Field) (last : Field) → last_text forms.KeptJson (fields ++ last ∷ []) ≡ last_text forms.KeptJson fields ++ field forms.KeptJson last.name last.value
last-more-kept [] last = append-nil (field forms.KeptJson last.name last.value)
last-more-kept (first ∷ fields) last = fields-more forms.KeptJson (first ∷ fields) last

-- the text of the label is that of the last member
member-is : (name : List ℕ) → label_text forms.Json name ≡ field forms.Json (file_field name).name (file_field name).value
unfolding label_text labelled
member-is name = append-nil (labelled forms.Json (codes "file=") (codes ",\"file") (FileName name))

member-is-kept : (name : List ℕ) → label_text forms.KeptJson name ≡ field forms.KeptJson (file_field name).name (file_field name).value
unfolding label_text labelled
member-is-kept name = append-nil (labelled forms.KeptJson (codes "file=") (codes ",\"file") (FileName name))

-- an object without what ends it
abbrev object_of : Form → (last : List ℕ) → Printed → List ℕ
object_of f last r = ((heading f r.origin r.kind ++ fields_text f r.fields) ++ aside_text f r.aside) ++ (parts_text f r.inside ++ last)

more_last : (a b c d : List ℕ) → a ++ (b ++ (c ++ d)) ≡ (a ++ (b ++ c)) ++ d
more_last a b c d = ap (λ l. a ++ l) (sym (append_assoc b c d)) ∙ sym (append_assoc a (b ++ c) d)

ends_so : (a b c d e : List ℕ) → (a ++ (b ++ (c ++ d))) ++ e ≡ (a ++ (b ++ c)) ++ (d ++ e)
ends_so a b c d e = ap (λ l. l ++ e) (more_last a b c d) ∙ append_assoc (a ++ (b ++ c)) d e

-- of a form whose records end with `}`
object-is : (f : Form) (r : Printed) → closing f ≡ codes "}" → record_line f r ≡ object_of f (last_text f r.last) r ++ codes "}\n"
unfolding record_text
object-is f r closed =
    ap (λ l. (((heading f r.origin r.kind ++ fields_text f r.fields) ++ aside_text f r.aside) ++ (parts_text f r.inside ++ (last_text f r.last ++ l))) ++ line_feed) closed
    ∙ ends_so ((heading f r.origin r.kind ++ fields_text f r.fields) ++ aside_text f r.aside) (parts_text f r.inside) (last_text f r.last) (codes "}") line_feed

-- of such a form whose last fields have the label after them
record IsObject (f : Form) (name : List ℕ) : Type 0 where
  closed : closing f ≡ codes "}"
  more : (fields : List Field) → last_text f (fields ++ file_field name ∷ []) ≡ last_text f fields ++ label_text f name

labelled-object : (f : Form) (name : List ℕ) (r : Printed) → IsObject f name → record_line f (with_last (r.last ++ file_field name ∷ []) r) ≡ (object_of f (last_text f r.last) r ++ label_text f name) ++ codes "}\n"
labelled-object f name r is =
    object-is f (with_last (r.last ++ file_field name ∷ []) r) is.closed
    ∙ ap (λ l. object_of f l r ++ codes "}\n") (is.more r.last)
    ∙ ap (λ l. l ++ codes "}\n") (more_last ((heading f r.origin r.kind ++ fields_text f r.fields) ++ aside_text f r.aside) (parts_text f r.inside) (last_text f r.last) (label_text f name))

json-is-object : (name : List ℕ) → IsObject forms.Json name
unfolding closing
json-is-object name = record { closed = refl; more = λ fields. last-more fields (file_field name) ∙ ap (λ l. last_text forms.Json fields ++ l) (sym (member-is name)) }

kept-is-object : (name : List ℕ) → IsObject forms.KeptJson name
unfolding closing
kept-is-object name = record { closed = refl; more = λ fields. last-more-kept fields (file_field name) ∙ ap (λ l. last_text forms.KeptJson fields ++ l) (sym (member-is-kept name)) }

-- ---- the end of a record
-- of one whose line is all there
pub ends-unlabelled : (form : Form) (text : List ℕ) → EndsRecord (record { form = form; file = None }) text text
ends-unlabelled form text before r e = e ∙ ap (λ l. l ++ record_line form r) (append-nil before)

-- of one that was begun with its label
ends-so : (f : Form) (name text before : List ℕ) (r : Printed) → BeginsHeadings f name → text ≡ (before ++ label_text f name) ++ record_line f r → text ≡ before ++ record_line f (with_first (file_field name) r)
ends-so f name text before r begins e = e ∙ append_assoc before (label_text f name) (record_line f r) ∙ ap (λ l. before ++ l) (line-so f name r begins)

pub ends-plain : (name text : List ℕ) → EndsRecord (record { form = forms.Lines; file = Some name }) text text
ends-plain name text before r e = ends-so forms.Lines name text before r (heading-plain name) e

pub ends-named : (name text : List ℕ) → EndsRecord (record { form = forms.NamedLines; file = Some name }) text text
ends-named name text before r e = ends-so forms.NamedLines name text before r (heading-named name) e

pub ends-kept-plain : (name text : List ℕ) → EndsRecord (record { form = forms.KeptLines; file = Some name }) text text
ends-kept-plain name text before r e = ends-so forms.KeptLines name text before r (heading-kept-plain name) e

pub ends-kept-named : (name text : List ℕ) → EndsRecord (record { form = forms.KeptNamedLines; file = Some name }) text text
ends-kept-named name text before r e = ends-so forms.KeptNamedLines name text before r (heading-kept-named name) e

pub ends-rows : (wanted : Wanted) (name text : List ℕ) → EndsRecord (record { form = forms.Rows wanted; file = Some name }) text text
ends-rows wanted name text before r e = ends-so (forms.Rows wanted) name text before r (heading-rows wanted name) e

-- of an object to which its label was added
ends-with-member : (f : Form) (name members old new before : List ℕ) (r : Printed) → IsObject f name → members ≡ label_text f name → AddsMembers members old new → old ≡ (before ++ []) ++ record_line f r → new ≡ before ++ record_line f (with_last (r.last ++ file_field name ∷ []) r)
ends-with-member f name members old new before r object-so is adds e =
    let object : List ℕ = object_of f (last_text f r.last) r in
    adds (before ++ object)
    (e ∙ ap (λ l. l ++ record_line f r) (append-nil before) ∙ ap (λ l. before ++ l) (object-is f r object-so.closed) ∙ sym (append_assoc before object (codes "}\n")))
    ∙ ap (λ l. ((before ++ object) ++ l) ++ codes "}\n") is
    ∙ ap (λ l. l ++ codes "}\n") (append_assoc before object (label_text f name))
    ∙ append_assoc before (object ++ label_text f name) (codes "}\n")
    ∙ ap (λ l. before ++ l) (sym (labelled-object f name r object-so))

pub ends-object : (name members old new : List ℕ) → members ≡ label_text forms.Json name → AddsMembers members old new → EndsRecord (record { form = forms.Json; file = Some name }) old new
ends-object name members old new is adds before r e = ends-with-member forms.Json name members old new before r (json-is-object name) is adds e

pub ends-kept-object : (name members old new : List ℕ) → members ≡ label_text forms.KeptJson name → AddsMembers members old new → EndsRecord (record { form = forms.KeptJson; file = Some name }) old new
ends-kept-object name members old new is adds before r e = ends-with-member forms.KeptJson name members old new before r (kept-is-object name) is adds e

-- what a line has before its record was appended, then a record, and then its end
pub ends-after : (label : Label) (old begun put new : List ℕ) (r : Printed) → EndsRecord label put new → begun ≡ old ++ begin_text label → put ≡ begun ++ record_line label.form r → new ≡ old ++ line_of label r
ends-after label old begun put new r ends b p = ends old r (p ∙ ap (λ l. l ++ record_line label.form r) b)

-- ---- where an object ends
both_true : (a b : Bool) → (a && b) ≡ true → (a ≡ true) × (b ≡ true)
both_true true b e = (refl, e)
both_true false b e = absurd cc

same_list : (xs ys : List ℕ) → pointwise nat_eq xs ys ≡ true → xs ≡ ys
same_list [] [] e = refl
same_list [] (y ∷ ys) e = absurd cc
same_list (x ∷ xs) [] e = absurd cc
same_list (x ∷ xs) (y ∷ ys) e =
    let parts = both_true (nat_eq x y) (pointwise nat_eq xs ys) e in
    ap₂ (λ h t. h ∷ t) (exact_unsigned_eq x y parts.0) (same_list xs ys parts.1)

closing-is : IsUtf8 (codes "}\n")
closing-is = IsUtf8-from_ascii (codes "}\n") (IsAscii-cons 125 (10 ∷ []) (omega arith) (IsAscii-cons 10 [] (omega arith) IsAscii-nil))

-- what comes before its end is text
pub before_closing : (text octets : List ℕ) (size : ℕ) → IsUtf8 text → octets ≡ text → size ≡ length text → pointwise nat_eq (drop (length octets - 2) octets) (codes "}\n") ≡ true → IsUtf8 (take (size - 2) text)
before_closing text octets size utf8 same is found =
    let last : drop (length text - 2) text ≡ codes "}\n" = same_list _ _ (subst (λ l. pointwise nat_eq (drop (length l - 2) l) (codes "}\n") ≡ true) same found) in
    let long : length (take (length text - 2) text) ≡ length text - 2 = omega (arith, length-take (length text - 2) text) in
    let seam = IsCharBoundary-at_seam text (take (length text - 2) text) (drop (length text - 2) text) (sym (take-append-drop (length text - 2) text)) (subst IsUtf8 (sym last) closing-is) in
    subst (λ n. IsUtf8 (take (n - 2) text)) (sym is) (IsUtf8-take text (length text - 2) utf8 (subst (IsCharBoundary text) long seam))
