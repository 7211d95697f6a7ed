-- The names of `--fields` and the kinds of `--only`: which there are, and which records have them.
use Rattle.std.specs.Prelude.{ℕ, ◌++◌, ◌||◌, ◌&&◌, not, Bool, true, false, List, [], ◌∷◌, map, Option, Some, None, codes, if◌then◌else◌}
use Rattle.std.specs.List.{filter, flat_map, list_any, list_all}
use Rattle.std.specs.Str.{bytes_eq}
use Rattle.std.specs.Borrow.{Bor}
use Rattle.krb_fields.specs.Fields.{Field, Shape}
use Rattle.krb_fields.specs.Table.{endings, inside, origin, records}
use Rattle.krb_fields.specs.declared.shape.Listing.{Listing}
use Rattle.krb_fields.specs.declared.shape.Value.{Value}
use Rattle.krb_fields.specs.declared.shape.Value.TheVariants.{Inside}
use Rattle.krb_fields.specs.declared.found.Name.{Name}

-- a text is one of others
abbrev pub is_among : List ℕ → List (List ℕ) → Bool
is_among text others = list_any (bytes_eq text) others

-- ---- the names that there are
-- a field, and the members of its value: its name, and what follows it
abbrev pub member_names : Field → List (List ℕ)
member_names field = map (λ ending. field.name ++ ending) (endings field.value)

abbrev pub field_names : List Field → List (List ℕ)
field_names fields = flat_map member_names fields

-- of a record its kind, its fields, and what its origin tells
abbrev pub shape_names : Shape → List (List ℕ)
shape_names s = codes "kind" ∷ field_names s.fields ++ field_names s.told

-- of what is inside the kind, a dot, and a name of its own
abbrev pub inside_names : Shape → List (List ℕ)
inside_names s = map (λ name. s.kind ++ (codes "." ++ name)) (shape_names s)

-- records of a shape may have something inside
abbrev pub is_inside : Value → Bool
is_inside Inside = true
is_inside _ = false

abbrev pub has_inside : Shape → Bool
has_inside s = list_any (λ field. is_inside field.value) s.fields

abbrev pub shows_inside : Listing → Bool
shows_inside listing = list_any has_inside (records listing)

-- what is inside of the records of a listing
abbrev pub inside_of : Listing → List Shape
inside_of listing = if shows_inside listing then inside else []

-- the names of a listing: where a record is from, its own, and those of what is inside of it
abbrev pub listing_names : Listing → List (List ℕ)
listing_names listing = field_names (origin listing) ++ flat_map shape_names (records listing) ++ flat_map inside_names (inside_of listing)

abbrev pub all_names : List Listing → List (List ℕ)
all_names listings = flat_map listing_names listings

-- ---- the kinds that there are
abbrev pub kind_text : Shape → List ℕ
kind_text s = s.kind

abbrev pub listing_kinds : Listing → List (List ℕ)
listing_kinds listing = map kind_text (records listing) ++ map kind_text (inside_of listing)

abbrev pub all_kinds : List Listing → List (List ℕ)
all_kinds listings = flat_map listing_kinds listings

-- ---- each once
abbrev pub with_new : List (List ℕ) → List ℕ → List (List ℕ)
with_new texts text = if is_among text texts then texts else texts ++ text ∷ []

abbrev pub with_all : List (List ℕ) → List (List ℕ) → List (List ℕ)
with_all texts [] = texts
with_all texts (first ∷ others) = with_all (with_new texts first) others

-- each text where it is first
abbrev pub each_once : List (List ℕ) → List (List ℕ)
each_once texts = with_all [] texts

-- ---- a name
-- its text
abbrev pub within_text : Option (Bor (List ℕ)) → List ℕ
within_text None = []
within_text (Some kind) = kind.now ++ codes "."

abbrev pub name_text : Name → List ℕ
name_text name = within_text name.within ++ name.field.now ++ name.ending.now

-- fields have a member
abbrev pub has_member : List Field → Name → Bool
has_member fields name = list_any (λ field. bytes_eq field.name name.field.now && is_among name.ending.now (endings field.value)) fields

-- Records of a shape have a name, absent or not; one of what is inside each may have that may have something inside.
abbrev pub has_itself : Shape → Name → Bool
has_itself s name = bytes_eq name.field.now (codes "kind") || has_member s.fields name || has_member s.told name

abbrev pub has_by : Option (Bor (List ℕ)) → Shape → Name → Bool
has_by None s name = has_itself s name
has_by (Some kind) s name = has_inside s

abbrev pub has : Shape → Name → Bool
has s name = has_by name.within s name

-- A name chooses the records that have it: the kind, and where a record is from, do not.
abbrev pub chooses_by : Option (Bor (List ℕ)) → List Listing → Name → Bool
chooses_by None listings name = not (bytes_eq name.field.now (codes "kind")) && not (list_any (λ listing. has_member (origin listing) name) listings)
chooses_by (Some kind) listings name = true

abbrev pub chooses : List Listing → Name → Bool
chooses listings name = chooses_by name.within listings name

-- the kinds of the records of listings that have all of some names
abbrev pub kinds_with : List Listing → List Name → List (List ℕ)
kinds_with listings names = flat_map (λ listing. map kind_text (filter (λ s. list_all (has s) names) (records listing))) listings
