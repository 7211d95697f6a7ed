-- The records of items and of what is at fault, and what is listed so far.
use Rattle.std.specs.Prelude.{ℕ, ℤ, pos, ◌≡◌, ◌+◌, ◌-◌, ◌*◌, ◌^◌, ◌&&◌, ◌||◌, ◌==◌, min, max, Bool, true, false, nat_lt, nat_le, if◌then◌else◌, List, [], ◌∷◌, ◌++◌, length, take, drop, codes, Option, Some, None}
use Rattle.std.specs.Fmt.{decimal}
use Rattle.std.specs.List.{list_all}
use Rattle.krb_der.specs.Octets.{integer_value}
use Rattle.krb_der.specs.Reasons.{reason_number, reason_name}
use Rattle.krb_der.specs.declared.verdict.Refusal.{Refusal}
use Rattle.krb_source.specs.Layers.{layer_name}
use Rattle.krb_source.specs.declared.layer.Layer.{Layer}
use Rattle.krb_registry.specs.declared.registry.Registry.{Registry}
use Rattle.krb_record.specs.Forms.{base_of, match_base, closing, field, heading, labelled}
use Rattle.krb_record.specs.Origins.{message_origin}
use Rattle.krb_record.specs.Text.{hex, joined, line_feed, list_text}
use Rattle.krb_record.specs.Values.{Value, Absent, ErrorCode, Flags, Hex, Named, Number, Quoted, Reason, String, YesNo, if_there}
use Rattle.krb_record.specs.declared.form.Form.{Form}
use Rattle.krb_items.specs.Heads.{Begun, size_of}
use Rattle.krb_items.specs.Items.{Item, Items, Part, is_counted}
use Rattle.krb_items.specs.declared.listing.Listed.{Listed}
use Rattle.krb_items.specs.declared.listing.Shown.{Shown}
use Rattle.krb_items.specs.declared.listing.End.{End}
use Rattle.krb_items.specs.declared.listing.End.TheVariants as ends
use Rattle.krb_items.specs.declared.shape.Leaf.{Leaf}
use Rattle.krb_items.specs.declared.shape.Leaf.TheVariants as leaves
use Rattle.krb_items.specs.declared.tag.Tag.{Tag}
use Rattle.krb_items.specs.declared.tag.Tag.TheVariants as tags

-- ---- lists of words
unfoldable pub type_word : Tag → List ℕ
type_word (tags.Context index) = codes "["
type_word (tags.Application number) = codes "[APPLICATION-"
type_word tags.Boolean = codes "BOOLEAN"
type_word tags.Integer = codes "INTEGER"
type_word tags.BitString = codes "BIT-STRING"
type_word tags.OctetString = codes "OCTET-STRING"
type_word tags.GeneralString = codes "GeneralString"
type_word tags.GeneralizedTime = codes "GeneralizedTime"
type_word tags.Sequence = codes "SEQUENCE"
type_word tags.SequenceOf = codes "SEQUENCE-OF"
type_word tags.Frame = codes "frame"
type_word tags.Octets = codes "octets"
type_word tags.ObjectIdentifier = codes "OBJECT-IDENTIFIER"
type_word tags.Enumerated = codes "ENUMERATED"

abbrev pub number_of_tag : Tag → Option ℕ
number_of_tag (tags.Context index) = Some index
number_of_tag (tags.Application number) = Some number
number_of_tag other = None

abbrev pub with_number : List ℕ → Option ℕ → List ℕ
with_number word None = word
with_number word (Some number) = word ++ decimal number ++ codes "]"

-- what a type is called; an explicit tag has its number in brackets
abbrev pub tag_word : Tag → List ℕ
tag_word tag = with_number (type_word tag) (number_of_tag tag)

abbrev pub quoted : List ℕ → List ℕ
quoted word = codes "\"" ++ word ++ codes "\""

-- words in a line with commas between them, or `-` if there are none; in an object an array of strings
unfoldable pub words_text : {A : Type 0} → Form → List ℕ → List ℕ → (A → List ℕ) → List A → List ℕ
words_text form label begin text words = match_base (base_of form) (label ++ joined (codes "-") (codes ",") text words) (begin ++ codes "\":" ++ list_text (λ word. quoted (text word)) words)

abbrev pub words_field : {A : Type 0} → Form → List ℕ → (A → List ℕ) → List A → List ℕ
words_field form name text words = words_text form (codes " " ++ name ++ codes "=") (codes ",\"" ++ name) text words

-- ---- where an item is
-- the form of the records, what a line has before each of them and what an object has last, all octets up to and with one that is refused, and what is refused of them
pub record Context : Type 0 where
  pub form : Form
  pub begin : List ℕ
  pub last : List ℕ
  pub octets : List ℕ
  pub fault : Option Refusal

-- what a line of an item has before its place: what it lies in
abbrev pub via_text : List Layer → List ℕ
via_text [] = []
via_text (first ∷ others) = codes "via=" ++ joined [] (codes ",") layer_name (first ∷ others) ++ codes " "

unfoldable pub before_place : Form → List Layer → List ℕ → List ℕ
before_place form layers kind = match_base (base_of form) (via_text layers) (heading form (message_origin None layers) kind)

unfoldable pub after_place : Form → List ℕ → List ℕ
after_place form kind = match_base (base_of form) (codes " " ++ kind) []

-- the place of the contents is known if the last length is
abbrev pub contents_place : Begun → Option ℕ → Option ℕ
contents_place begun None = None
contents_place begun (Some size) = Some begun.next

unfoldable pub heads_text : Form → Begun → List ℕ
heads_text form begun =
    labelled form (codes "at=") (codes ",\"at") (Number (pos begun.at))
    ++ field form (codes "depth") (Number (pos begun.depth))
    ++ words_field form (codes "heads") hex begun.heads

unfoldable pub contents_text : Form → Begun → List ℕ
contents_text form begun =
    field form (codes "contents") (if_there (λ n. Number (pos n)) (contents_place begun begun.size))
    ++ field form (codes "length") (if_there (λ n. Number (pos n)) begun.size)

abbrev pub origin_text : Context → List ℕ → Begun → List ℕ
origin_text context kind begun = context.begin ++ before_place context.form begun.layers kind ++ heads_text context.form begun ++ contents_text context.form begun ++ after_place context.form kind

abbrev pub ending : Context → List ℕ
ending context = context.last ++ closing context.form ++ line_feed

-- ---- what an item is
-- a number as it is shown
abbrev pub number_value : Leaf → ℤ → Value
number_value leaves.Number number = Number number
number_value (leaves.Numbered registry) number = Named registry number
number_value leaves.ErrorCode number = ErrorCode number
number_value leaf number = Number number

-- contents of an INTEGER, of which there are five at most
abbrev pub integer_in : Leaf → List ℕ → Value
integer_in leaf octets = if nat_lt 5 (length octets) then Absent else number_value leaf (integer_value octets)

abbrev pub flags_in : Registry → List ℕ → Value
flags_in registry [] = Absent
flags_in registry (unused ∷ octets) = Flags registry (unused, octets)

-- contents of a BOOLEAN (X.690, 8.2)
abbrev pub truth_in : List ℕ → Value
truth_in [] = Absent
truth_in (octet ∷ octets) = YesNo (nat_lt 0 octet)

-- contents of an OBJECT IDENTIFIER (X.690, 8.19): its numbers, of seven bits an octet, after the part of one that is read
abbrev pub numbers_in : (part : ℕ) → List ℕ → List ℕ
numbers_in part [] = if part == 0 then [] else part ∷ []
numbers_in part (octet ∷ octets) = if nat_lt octet 0x80 then (part * 128 + octet) ∷ numbers_in 0 octets else numbers_in (part * 128 + (octet - 0x80)) octets

-- the first is that of two: 40 times the one, which is 2 at most, and the other (8.19.4)
abbrev pub first_two : ℕ → List ℕ
first_two number = if nat_lt number 40 then 0 ∷ number ∷ [] else if nat_lt number 80 then 1 ∷ (number - 40) ∷ [] else 2 ∷ (number - 80) ∷ []

abbrev pub identifier_numbers : List ℕ → List ℕ
identifier_numbers [] = []
identifier_numbers (number ∷ numbers) = first_two number ++ numbers

-- with dots between them, or the contents if one has more than 64 bits
abbrev pub identifier_by : List ℕ → List ℕ → Value
identifier_by octets numbers = if list_all (λ number. nat_lt number (2 ^ 64)) numbers then String (joined [] (codes ".") decimal (identifier_numbers numbers)) else Hex octets

abbrev pub identifier_in : List ℕ → Value
identifier_in octets = identifier_by octets (numbers_in 0 octets)

abbrev pub leaf_value : Leaf → List ℕ → Value
leaf_value leaves.Number octets = integer_in leaves.Number octets
leaf_value (leaves.Numbered registry) octets = integer_in (leaves.Numbered registry) octets
leaf_value leaves.ErrorCode octets = integer_in leaves.ErrorCode octets
leaf_value (leaves.Flags registry) octets = flags_in registry octets
leaf_value leaves.Text octets = Quoted octets
leaf_value leaves.Time octets = String octets
leaf_value leaves.Octets octets = Hex octets
leaf_value leaves.Truth octets = truth_in octets
leaf_value leaves.Hidden octets = Number (pos (length octets))
leaf_value leaves.Identifier octets = identifier_in octets
leaf_value (leaves.Counted size) octets = Number (pos size)
leaf_value leaves.Opened octets = Number (pos (length octets))
leaf_value (leaves.Holder holder) octets = Number (pos (length octets))

abbrev pub item_value : Option (Leaf × List ℕ) → Value
item_value None = Absent
item_value (Some shown) = leaf_value shown.0 shown.1

unfoldable pub item_line : Context → Item → List ℕ
item_line context item =
    origin_text context (codes "item") item.begun
    ++ field context.form (codes "name") (String item.name)
    ++ words_field context.form (codes "type") tag_word item.begun.tags
    ++ field context.form (codes "value") (item_value item.shown)
    ++ ending context

-- ---- what is at fault
-- Octets from a place on are not shown: the octets before the one at fault are shown from after them on, and that one is not shown if it is among them.
abbrev pub hide : Option Refusal → (start size : ℕ) → Shown → Shown
hide None start size shown = shown
hide (Some refusal) start size shown = record {
  from = if nat_lt start refusal.place && nat_lt 0 size then min (start + size) refusal.place else shown.from;
  hides = shown.hides || (nat_le start refusal.place && nat_lt refusal.place (start + size));
}

abbrev pub hide_if : Bool → Option Refusal → Begun → Shown → Shown
hide_if false fault begun shown = shown
hide_if true fault begun shown = hide fault begun.next (size_of begun.size) shown

abbrev pub is_hidden : Option (Leaf × List ℕ) → Bool
is_hidden None = false
is_hidden (Some shown) = is_counted shown.0

-- octets in hexadecimal, if there are any
abbrev pub hex_if : List ℕ → Value
hex_if [] = Absent
hex_if (octet ∷ octets) = Hex (octet ∷ octets)

abbrev pub octet_at_fault : List ℕ → ℕ → Shown → List ℕ
octet_at_fault octets place shown = if shown.hides then [] else take 1 (drop place octets)

-- up to sixteen octets right before it
abbrev pub octets_before : List ℕ → ℕ → Shown → List ℕ
octets_before octets place shown = take (place - max shown.from (place - 16)) (drop (max shown.from (place - 16)) octets)

unfoldable pub fault_line : Context → Refusal → Shown → Option (List ℕ) → Begun → List ℕ
fault_line context refusal shown name begun =
    origin_text context (codes "fault") begun
    ++ field context.form (codes "name") (if_there String name)
    ++ words_field context.form (codes "type") tag_word begun.tags
    ++ field context.form (codes "place") (Number (pos refusal.place))
    ++ field context.form (codes "why") (Reason (reason_number refusal.why) (reason_name refusal.why))
    ++ field context.form (codes "octet") (hex_if (octet_at_fault context.octets refusal.place shown))
    ++ field context.form (codes "before") (hex_if (octets_before context.octets refusal.place shown))
    ++ ending context

-- ---- what is listed, after what was listed before it
abbrev pub listed_item : Context → Item → Listed → Listed
listed_item context item listed = record {
  text = listed.text ++ item_line context item;
  count = min (listed.count + 1) (2 ^ 64 - 1);
  shown = hide_if (is_hidden item.shown) context.fault item.begun listed.shown;
}

abbrev pub listed_items : Context → List Item → Listed → Listed
listed_items context [] listed = listed
listed_items context (item ∷ items) listed = listed_items context items (listed_item context item listed)

abbrev pub listed_fault : Context → Option Refusal → Part → Listed → Listed
listed_fault context None part listed = listed
listed_fault context (Some refusal) part listed = record {
  text = listed.text ++ fault_line context refusal (hide_if part.counted (Some refusal) part.begun listed.shown) part.name part.begun;
  count = listed.count;
  shown = listed.shown;
}

abbrev pub listed_part : Context → Option Part → Listed → Listed
listed_part context None listed = listed
listed_part context (Some part) listed = listed_fault context context.fault part listed

abbrev pub end_of : Option Part → End
end_of None = ends.Whole
end_of (Some part) = ends.Cut

-- items were listed, and they end so
pub record Lists (context : Context) (items : Items) (old new : Listed) (end : End) : Type 0 where
  pub listed : new ≡ listed_part context items.cut (listed_items context items.items old)
  pub ended : end ≡ end_of items.cut
