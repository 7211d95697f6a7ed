-- The records of items of octets are lines of printable ASCII.
use Rattle.std.proofs.Common.{◌≡◌, ℕ, pos, ◌+◌, ◌-◌, ◌^◌, max, Bool, true, false, nat_lt, List, [], ◌∷◌, ◌++◌, length, take, drop, codes, Option, Some, None, IfSome, refl, sym, ◌∙◌, ap, subst, arith, cond, append_assoc, append-nil}
use Rattle.std.specs.Fmt.{decimal}
use Rattle.std.specs.List.{AllByRecursion, flat_map, list_all}
use Rattle.krb_der.specs.Octets.{AreOctets, integer_value}
use Rattle.krb_der.specs.Reasons.{reason_name, reason_number}
use Rattle.krb_der.specs.inner.Numbers.{AreOctets-drop, AreOctets-take}
use Rattle.krb_der.specs.declared.verdict.Refusal.{Refusal}
use Rattle.krb_source.specs.Layers.{layer_name}
use Rattle.krb_source.specs.declared.layer.Layer.{Layer}
use Rattle.krb_source.specs.declared.layer.Layer.TheVariants as layers
use Rattle.krb_record.specs.Forms.{closing, field, form_of, heading, opening_from}
use Rattle.krb_record.specs.Labels.{begin_text, label_text}
use Rattle.krb_record.specs.Laws.{IsOneLine}
use Rattle.krb_record.specs.Origins.{message_origin}
use Rattle.krb_record.specs.Text.{AllAreOctets, IsPrintable, hex, line_feed}
use Rattle.krb_record.specs.Values.{FileName, Layers, Number, Reason, String, Value, Absent, if_there}
use Rattle.krb_record.specs.declared.form.Base.{Base}
use Rattle.krb_record.specs.declared.form.Base.TheVariants as bases
use Rattle.krb_record.proofs.Printable.{Prints, is_printable, join, word}
use Rattle.krb_record.proofs.Reasons as reasons
use Rattle.krb_text_laws.proofs.EachForm.{IsShown, begins, ends, labelled_field, one_field}
use Rattle.krb_text_laws.proofs.EndOneLine.{number_shown}
use Rattle.krb_text_laws.proofs.Printable.{all_joined, in_hex, listed, number as number_prints}
use Rattle.krb_items.specs.Heads.{Begun}
use Rattle.krb_items.specs.Items.{Item, Part}
use Rattle.krb_items.specs.Reached.{context_by, items_as, last_members, limits_by, reached, seen}
use Rattle.krb_items.specs.Records.{Context, after_place, before_place, contents_place, contents_text, fault_line, heads_text, hex_if, hide_if, identifier_by, identifier_numbers, item_line, item_value, leaf_value, listed_fault, listed_item, listed_items, listed_part, number_of_tag, number_value, numbers_in, octet_at_fault, octets_before, origin_text, quoted, tag_word, type_word, via_text, with_number, words_field, words_text}
use Rattle.krb_items.specs.declared.listing.Listed.{Listed}
use Rattle.krb_items.specs.declared.listing.Shown.{Shown}
use Rattle.krb_items.specs.declared.shape.Leaf.{Leaf}
use Rattle.krb_items.specs.declared.shape.Leaf.TheVariants as leaves
use Rattle.krb_items.specs.declared.tag.Tag.{Tag}
use Rattle.krb_items.specs.declared.tag.Tag.TheVariants as tags
use Rattle.krb_tool_laws.specs.Listings.{ArePrintedLines}
use Rattle.krb_items_laws.specs.Printed.{ItemsArePrinted, label_in}
use Rattle.krb_items_laws.proofs.OctetItems.{ArePlain, CutPlain, IsPlain, IsPlainPart, NamePrints, ShownOctets, items-plain}

-- ---- values
octets-of : (text : List ℕ) → IsPrintable text → AreOctets text
octets-of [] h = tt
octets-of (c ∷ text) h = (omega (arith, h.0), octets-of text h.1)

shown-if : (b : Bool) (value other : Value) → IsShown value → IsShown other → IsShown (cond b value other)
shown-if true value other v o = v
shown-if false value other v o = o

identifier-shown : (octets numbers : List ℕ) → AreOctets octets → IsShown (identifier_by octets numbers)
identifier-shown octets numbers a =
    shown-if (list_all (λ number. nat_lt number (2 ^ 64)) numbers) _ _
    (octets-of _ (all_joined [] (codes ".") decimal (λ n. Unit {0}) (word [] refl) (word (codes ".") refl) (λ n h. number_prints n) (identifier_numbers numbers) (every (identifier_numbers numbers))).all) a
  where
    every : (numbers : List ℕ) → AllByRecursion (λ (n : ℕ). Unit {0}) numbers
    every [] = tt
    every (n ∷ numbers) = (tt, every numbers)

leaf-shown : (leaf : Leaf) (octets : List ℕ) → AreOctets octets → IsShown (leaf_value leaf octets)
leaf-shown leaves.Number octets a = shown-if (nat_lt 5 (length octets)) Absent (number_value leaves.Number (integer_value octets)) tt tt
leaf-shown (leaves.Numbered registry) octets a = shown-if (nat_lt 5 (length octets)) Absent (number_value (leaves.Numbered registry) (integer_value octets)) tt tt
leaf-shown leaves.ErrorCode octets a = shown-if (nat_lt 5 (length octets)) Absent (number_value leaves.ErrorCode (integer_value octets)) tt tt
leaf-shown (leaves.Flags registry) [] a = tt
leaf-shown (leaves.Flags registry) (unused ∷ octets) a = a.1
leaf-shown leaves.Text octets a = a
leaf-shown leaves.Time octets a = a
leaf-shown leaves.Octets octets a = a
leaf-shown leaves.Truth [] a = tt
leaf-shown leaves.Truth (octet ∷ octets) a = tt
leaf-shown leaves.Identifier octets a = identifier-shown octets (numbers_in 0 octets) a
leaf-shown other octets a = tt

item-shown : (shown : Option (Leaf × List ℕ)) → ShownOctets shown → IsShown (item_value shown)
item-shown None a = tt
item-shown (Some shown) a = leaf-shown shown.0 shown.1 a

-- ---- words
quoted-prints : (text : List ℕ) → Prints text → Prints (quoted text)
quoted-prints text h = join (join (word (codes "\"") refl) h) (word (codes "\"") refl)

words-print : {A : Type 0} (base : Base) (name : List ℕ) (text : A → List ℕ) (P : A → Type 0) (words : List A) → list_all is_printable name ≡ true → ((a : A) → P a → Prints (text a)) → AllByRecursion P words → Prints (words_field (form_of base) name text words)
unfolding words_text
words-print bases.Lines name text P words n t h = join (join (join (word (codes " ") refl) (word name n)) (word (codes "=") refl)) (all_joined (codes "-") (codes ",") text P (word (codes "-") refl) (word (codes ",") refl) t words h)
words-print bases.NamedLines name text P words n t h = join (join (join (word (codes " ") refl) (word name n)) (word (codes "=") refl)) (all_joined (codes "-") (codes ",") text P (word (codes "-") refl) (word (codes ",") refl) t words h)
words-print bases.Json name text P words n t h =
    join (join (join (word (codes ",\"") refl) (word name n)) (word (codes "\":") refl)) (listed (λ word. quoted (text word)) P (λ a p. quoted-prints (text a) (t a p)) words h)

type-prints : (tag : Tag) → list_all is_printable (type_word tag) ≡ true
unfolding type_word
type-prints tags.Integer = refl
type-prints other = refl

tag-prints : (tag : Tag) → Prints (tag_word tag)
tag-prints tag = by (number_of_tag tag)
  where
    by : (number : Option ℕ) → Prints (with_number (type_word tag) number)
    by None = word (type_word tag) (type-prints tag)
    by (Some number) = join (join (word (type_word tag) (type-prints tag)) (number_prints number)) (word (codes "]") refl)

-- ---- where an item is
layer-prints : (layer : Layer) → Prints (layer_name layer)
layer-prints layers.Frame = word _ refl
layer-prints layers.Gss = word _ refl
layer-prints layers.Spnego = word _ refl

every : {A : Type 0} (values : List A) → AllByRecursion (λ (a : A). Unit {0}) values
every [] = tt
every (a ∷ values) = (tt, every values)

via-prints : (layers : List Layer) → Prints (via_text layers)
via-prints [] = word [] refl
via-prints (first ∷ others) =
    join (join (word (codes "via=") refl) (all_joined [] (codes ",") layer_name (λ l. Unit {0}) (word [] refl) (word (codes ",") refl) (λ l h. layer-prints l) (first ∷ others) (every (first ∷ others)))) (word (codes " ") refl)

object-prints : (inside : List Layer) (kind : List ℕ) → list_all is_printable kind ≡ true → Prints (heading (form_of bases.Json) (message_origin None inside) kind)
unfolding opening_from
object-prints [] kind k = begins bases.Json kind k
object-prints (first ∷ others) kind k =
    join (begins bases.Json kind k) (join (labelled_field bases.Json (codes "via=") (codes ",\"via") (Layers (first ∷ others)) (word (codes "via=") refl) (word (codes ",\"via") refl) tt) (word [] refl))

before-prints : (base : Base) (inside : List Layer) (kind : List ℕ) → list_all is_printable kind ≡ true → Prints (before_place (form_of base) inside kind)
unfolding before_place
before-prints bases.Lines inside kind k = via-prints inside
before-prints bases.NamedLines inside kind k = via-prints inside
before-prints bases.Json inside kind k = object-prints inside kind k

after-prints : (base : Base) (kind : List ℕ) → list_all is_printable kind ≡ true → Prints (after_place (form_of base) kind)
unfolding after_place
after-prints bases.Lines kind k = join (word (codes " ") refl) (word kind k)
after-prints bases.NamedLines kind k = join (word (codes " ") refl) (word kind k)
after-prints bases.Json kind k = word [] refl

heads-print : (base : Base) (begun : Begun) → AllAreOctets begun.heads → Prints (heads_text (form_of base) begun)
unfolding heads_text
heads-print base begun h =
    join (join (labelled_field base (codes "at=") (codes ",\"at") (Number (pos begun.at)) (word (codes "at=") refl) (word (codes ",\"at") refl) tt) (one_field base (codes "depth") (Number (pos begun.depth)) refl tt))
    (words-print base (codes "heads") hex AreOctets begun.heads refl in_hex h)

contents-print : (base : Base) (begun : Begun) → Prints (contents_text (form_of base) begun)
unfolding contents_text
contents-print base begun =
    join (one_field base (codes "contents") (if_there (λ n. Number (pos n)) (contents_place begun begun.size)) refl (number_shown (contents_place begun begun.size))) (one_field base (codes "length") (if_there (λ n. Number (pos n)) begun.size) refl (number_shown begun.size))

-- what is round each record
pub record IsRound (base : Base) (context : Context) : Type 0 where
  pub form : context.form ≡ form_of base
  pub begin : Prints context.begin
  pub last : Prints context.last
  pub octets : AreOctets context.octets

origin-prints : (base : Base) (context : Context) (kind : List ℕ) (begun : Begun) → IsRound base context → list_all is_printable kind ≡ true → AllAreOctets begun.heads → Prints (origin_text context kind begun)
origin-prints base context kind begun r k h =
    subst (λ f. Prints (context.begin ++ before_place f begun.layers kind ++ heads_text f begun ++ contents_text f begun ++ after_place f kind)) (sym r.form)
    (join (join (join (join r.begin (before-prints base begun.layers kind k)) (heads-print base begun h)) (contents-print base begun)) (after-prints base kind k))

-- ---- lines
line-is : (text last close : List ℕ) → Prints text → Prints last → Prints close → IsOneLine (text ++ (last ++ close ++ line_feed))
line-is text last close t l c = (text ++ (last ++ close), (join t (join l c)).all, sym (append_assoc text (last ++ close) line_feed))

item-prints : (base : Base) (context : Context) (item : Item) → IsRound base context → IsPlain item → IsOneLine (item_line context item)
unfolding item_line
item-prints base context item r p =
    line-is _ context.last (closing context.form)
    (join (join (join (origin-prints base context (codes "item") item.begun r refl p.heads)
    (subst (λ f. Prints (field f (codes "name") (String item.name))) (sym r.form) (one_field base (codes "name") (String item.name) refl (octets-of item.name p.name.all))))
    (subst (λ f. Prints (words_field f (codes "type") tag_word item.begun.tags)) (sym r.form) (words-print base (codes "type") tag_word (λ t. Unit {0}) item.begun.tags refl (λ t h. tag-prints t) (every item.begun.tags))))
    (subst (λ f. Prints (field f (codes "value") (item_value item.shown))) (sym r.form) (one_field base (codes "value") (item_value item.shown) refl (item-shown item.shown p.shown))))
    r.last (subst (λ f. Prints (closing f)) (sym r.form) (ends base))

name-shown : (name : Option (List ℕ)) → NamePrints name → IsShown (if_there String name)
name-shown None n = tt
name-shown (Some name) n = octets-of name n.all

hex-shown : (octets : List ℕ) → AreOctets octets → IsShown (hex_if octets)
hex-shown [] a = tt
hex-shown (octet ∷ octets) a = a

octet-octets : (octets : List ℕ) (place : ℕ) (hides : Bool) → AreOctets octets → AreOctets (cond hides [] (take 1 (drop place octets)))
octet-octets octets place true a = tt
octet-octets octets place false a = AreOctets-take 1 (drop place octets) (AreOctets-drop place octets a)

fault-prints : (base : Base) (context : Context) (refusal : Refusal) (shown : Shown) (name : Option (List ℕ)) (begun : Begun) → IsRound base context → NamePrints name → AllAreOctets begun.heads → IsOneLine (fault_line context refusal shown name begun)
unfolding fault_line
fault-prints base context refusal shown name begun r n h =
    line-is _ context.last (closing context.form)
    (join (join (join (join (join (join (origin-prints base context (codes "fault") begun r refl h)
    (subst (λ f. Prints (field f (codes "name") (if_there String name))) (sym r.form) (one_field base (codes "name") (if_there String name) refl (name-shown name n))))
    (subst (λ f. Prints (words_field f (codes "type") tag_word begun.tags)) (sym r.form) (words-print base (codes "type") tag_word (λ t. Unit {0}) begun.tags refl (λ t h. tag-prints t) (every begun.tags))))
    (subst (λ f. Prints (field f (codes "place") (Number (pos refusal.place)))) (sym r.form) (one_field base (codes "place") (Number (pos refusal.place)) refl tt)))
    (subst (λ f. Prints (field f (codes "why") (Reason (reason_number refusal.why) (reason_name refusal.why)))) (sym r.form) (one_field base (codes "why") (Reason (reason_number refusal.why) (reason_name refusal.why)) refl (reasons.name refusal.why).all)))
    (subst (λ f. Prints (field f (codes "octet") (hex_if (octet_at_fault context.octets refusal.place shown)))) (sym r.form) (one_field base (codes "octet") (hex_if (octet_at_fault context.octets refusal.place shown)) refl (hex-shown (octet_at_fault context.octets refusal.place shown) (octet-octets context.octets refusal.place shown.hides r.octets)))))
    (subst (λ f. Prints (field f (codes "before") (hex_if (octets_before context.octets refusal.place shown)))) (sym r.form) (one_field base (codes "before") (hex_if (octets_before context.octets refusal.place shown)) refl
    (hex-shown (octets_before context.octets refusal.place shown) (AreOctets-take (refusal.place - max shown.from (refusal.place - 16)) (drop (max shown.from (refusal.place - 16)) context.octets) (AreOctets-drop (max shown.from (refusal.place - 16)) context.octets r.octets))))))
    r.last (subst (λ f. Prints (closing f)) (sym r.form) (ends base))

-- ---- what is listed
pub lines-append : (text other : List ℕ) → ArePrintedLines text → ArePrintedLines other → ArePrintedLines (text ++ other)
lines-append text other t o = (t.0 ++ o.0, all t.0 t.1, (λ i. t.2 i ++ o.2 i) ∙ sym (both t.0))
  where
    all : (lines : List (List ℕ)) → AllByRecursion IsPrintable lines → AllByRecursion IsPrintable (lines ++ o.0)
    all [] a = o.1
    all (first ∷ lines) a = (a.0, all lines a.1)

    both : (lines : List (List ℕ)) → flat_map (λ (line : List ℕ). line ++ line_feed) (lines ++ o.0) ≡ flat_map (λ (line : List ℕ). line ++ line_feed) lines ++ flat_map (λ (line : List ℕ). line ++ line_feed) o.0
    both [] = refl
    both (first ∷ lines) = ap (λ x. (first ++ line_feed) ++ x) (both lines) ∙ sym (append_assoc (first ++ line_feed) (flat_map (λ (line : List ℕ). line ++ line_feed) lines) (flat_map (λ (line : List ℕ). line ++ line_feed) o.0))

pub one-line-more : (text line : List ℕ) → ArePrintedLines text → IsOneLine line → ArePrintedLines (text ++ line)
one-line-more text line t l = lines-append text line t (l.0 ∷ [], (l.1, tt), l.2 ∙ sym (append-nil (l.0 ++ line_feed)))

items-listed : (base : Base) (context : Context) (items : List Item) (listed : Listed) → IsRound base context → AllByRecursion IsPlain items → ArePrintedLines listed.text → ArePrintedLines (listed_items context items listed).text
items-listed base context [] listed r a t = t
items-listed base context (item ∷ items) listed r a t = items-listed base context items (listed_item context item listed) r a.1 (one-line-more listed.text (item_line context item) t (item-prints base context item r a.0))

fault-listed : (base : Base) (context : Context) (fault : Option Refusal) (part : Part) (listed : Listed) → IsRound base context → IsPlainPart part → ArePrintedLines listed.text → ArePrintedLines (listed_fault context fault part listed).text
fault-listed base context None part listed r p t = t
fault-listed base context (Some refusal) part listed r p t =
    one-line-more listed.text _ t (fault-prints base context refusal (hide_if part.counted (Some refusal) part.begun listed.shown) part.name part.begun r p.name p.heads)

part-listed : (base : Base) (context : Context) (cut : Option Part) (listed : Listed) → IsRound base context → CutPlain cut → ArePrintedLines listed.text → ArePrintedLines (listed_part context cut listed).text
part-listed base context None listed r p t = t
part-listed base context (Some part) listed r p t = fault-listed base context context.fault part listed r p t

-- ---- labels
begin-prints : (base : Base) (file : Option (List ℕ)) → IfSome file AreOctets → Prints (begin_text (label_in base file))
unfolding label_text
begin-prints base None a = word [] refl
begin-prints bases.Lines (Some name) a = join (labelled_field bases.Lines (codes "file=") (codes ",\"file") (FileName name) (word (codes "file=") refl) (word (codes ",\"file") refl) a) (word (codes " ") refl)
begin-prints bases.NamedLines (Some name) a = join (labelled_field bases.NamedLines (codes "file=") (codes ",\"file") (FileName name) (word (codes "file=") refl) (word (codes ",\"file") refl) a) (word (codes " ") refl)
begin-prints bases.Json (Some name) a = word [] refl

last-prints : (base : Base) (file : Option (List ℕ)) → IfSome file AreOctets → Prints (last_members (label_in base file))
last-prints base None a = word [] refl
last-prints bases.Lines (Some name) a = word [] refl
last-prints bases.NamedLines (Some name) a = word [] refl
last-prints bases.Json (Some name) a = join (one_field bases.Json (codes "file") (FileName name) refl a) (word [] refl)

seen-octets : (fault : Option Refusal) (octets : List ℕ) → AreOctets octets → AreOctets (seen fault octets)
seen-octets None octets a = a
seen-octets (Some refusal) octets a = AreOctets-take (refusal.place + 1) octets a

pub items-are-printed : ItemsArePrinted
unfolding reached
items-are-printed base file text lies octets fault named a t =
    let plain : ArePlain (items_as lies (limits_by octets fault) (seen fault octets)) = items-plain lies (limits_by octets fault) (seen fault octets) (seen-octets fault octets a) in
    let round : IsRound base (context_by (label_in base file) (seen fault octets) fault) = record { form = refl; begin = begin-prints base file named; last = last-prints base file named; octets = seen-octets fault octets a } in
    part-listed base (context_by (label_in base file) (seen fault octets) fault) (items_as lies (limits_by octets fault) (seen fault octets)).cut _ round plain.cut_plain
    (items-listed base (context_by (label_in base file) (seen fault octets) fault) (items_as lies (limits_by octets fault) (seen fault octets)).items (record { text = text; count = 0; shown = record { from = 0; hides = false } }) round plain.items_plain t)
