-- The identifier and length octets of items, as they are read of octets up to and with one that is refused (X.690, 8.1.2 and 8.1.3). Whether contents fit in what they lie in is not asked here.
use Rattle.std.specs.Prelude.{ℕ, ◌+◌, ◌-◌, ◌%◌, min, ◌&&◌, ◌||◌, ◌==◌, nat_lt, if◌then◌else◌, List, [], ◌∷◌, ◌++◌, length, take, drop, Option, Some, None}
use Rattle.krb_der.specs.Octets.{when, begins_with, number}
use Rattle.krb_source.specs.declared.layer.Layer.{Layer}
use Rattle.krb_items.specs.declared.head.Head.{Head}
use Rattle.krb_items.specs.declared.tag.Tag.{Tag}
use Rattle.krb_items.specs.declared.tag.Tag.TheVariants as tags

-- a length of the long form, of which so many octets follow the first
abbrev pub long_head : ℕ → List ℕ → Option Head
long_head count [] = None
long_head count (first ∷ octets) =
    if (count == 0) || nat_lt 4 count || nat_lt (length (first ∷ octets)) count then None
    else if (first == 0) || ((count == 1) && nat_lt first 0x80) then None
    else Some (record { header = 2 + count; size = number (take count (first ∷ octets)) })

-- the head with which octets begin, if it is all there and its length has its shortest form
abbrev pub head_in : List ℕ → Option Head
head_in [] = None
head_in (tag ∷ []) = None
head_in (tag ∷ first ∷ octets) = if nat_lt first 0x80 then Some (record { header = 2; size = first }) else long_head (first - 0x80) octets

-- how many octets are there of the first item
abbrev pub count_by : Option Head → List ℕ → ℕ
count_by None octets = 0
count_by (Some head) octets = min (length octets) (head.header + head.size)

abbrev pub count_in : List ℕ → ℕ
count_in octets = count_by (head_in octets) octets

-- the contents of the first item, as far as they are there
abbrev pub contents_by : Option Head → List ℕ → List ℕ
contents_by None octets = []
contents_by (Some head) octets = take head.size (drop head.header octets)

-- the contents in so many heads
abbrev pub contents_in : List Tag → List ℕ → List ℕ
contents_in [] octets = octets
contents_in (tag ∷ tags) octets = contents_in tags (contents_by (head_in octets) octets)

-- ---- the heads of an item
abbrev pub octet_of : Tag → ℕ
octet_of (tags.Context index) = 0xA0 + index % 32
octet_of (tags.Application number) = 0x60 + number % 32
octet_of tags.Boolean = 0x01
octet_of tags.ObjectIdentifier = 0x06
octet_of tags.Enumerated = 0x0A
octet_of tags.Integer = 0x02
octet_of tags.BitString = 0x03
octet_of tags.OctetString = 0x04
octet_of tags.GeneralString = 0x1B
octet_of tags.GeneralizedTime = 0x18
octet_of tags.Sequence = 0x30
octet_of tags.SequenceOf = 0x30
octet_of tags.Frame = 0x00
octet_of tags.Octets = 0x00

-- An item as far as its heads are read: what it lies in, the place of its first octet, in how many items it is, the place after its heads, their octets, their tags, of those whose tag is right, and the length of the last, if that is right.
pub record Begun : Type 0 where
  pub layers : List Layer
  pub at : ℕ
  pub depth : ℕ
  pub next : ℕ
  pub heads : List (List ℕ)
  pub tags : List Tag
  pub size : Option ℕ

abbrev pub begun_at : List Layer → (place depth : ℕ) → Begun
begun_at layers place depth = record { layers = layers; at = place; depth = depth; next = place; heads = []; tags = []; size = None }

-- one more head, whose tag is right
abbrev pub with_head : Begun → Tag → List ℕ → Option ℕ → Begun
with_head begun tag octets size = record { layers = begun.layers; at = begun.at; depth = begun.depth; next = begun.next + length octets; heads = begun.heads ++ octets ∷ []; tags = begun.tags ++ tag ∷ []; size = size }

-- the octet that is there in place of a tag, if there is one
abbrev pub with_unknown : Begun → List ℕ → Begun
with_unknown begun [] = begun
with_unknown begun (octet ∷ octets) = record { layers = begun.layers; at = begun.at; depth = begun.depth; next = begun.next; heads = begun.heads ++ (octet ∷ []) ∷ []; tags = begun.tags; size = None }

-- octets that have a tag and no head
abbrev pub with_octets : Begun → Tag → ℕ → Begun
with_octets begun tag size = record { layers = begun.layers; at = begun.at; depth = begun.depth; next = begun.next; heads = begun.heads; tags = begun.tags ++ tag ∷ []; size = Some size }

-- how many octets its contents are to have
abbrev pub size_of : Option ℕ → ℕ
size_of None = 0
size_of (Some size) = size

-- the item, and the contents that are there, if all of its heads are right
pub record Headed : Type 0 where
  pub begun : Begun
  pub contents : Option (List ℕ)

abbrev pub stopped : Begun → Headed
stopped begun = record { begun = begun; contents = None }

-- a head whose tag is right; the function reads the heads after it
abbrev pub headed_by : (limit : ℕ) → Begun → Tag → List ℕ → Option Head → (Begun → List ℕ → Headed) → Headed
headed_by limit begun tag octets None next = stopped (with_head begun tag octets None)
headed_by limit begun tag octets (Some head) next =
    when (nat_lt limit (begun.next + length (take head.header octets)))
    (λ _. stopped (with_head begun tag (take head.header octets) (Some head.size)))
    (λ _. next (with_head begun tag (take head.header octets) (Some head.size)) (take head.size (drop head.header octets)))

-- Heads with these tags are read, of which the first octets up to a place are right.
abbrev pub headed : (limit : ℕ) → Begun → List Tag → List ℕ → Headed
headed limit begun [] octets = record { begun = begun; contents = Some octets }
headed limit begun (tag ∷ tags) octets =
    when (begins_with (octet_of tag) octets)
    (λ _. headed_by limit begun tag octets (head_in octets) (λ next rest. headed limit next tags rest))
    (λ _. stopped (with_unknown begun octets))
