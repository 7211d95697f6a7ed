-- The law that items are all of the octets that are accepted.
use Rattle.std.specs.Prelude.{ℕ, ◌≡◌, ◌+◌, Bool, false, nat_lt, if◌then◌else◌, List, [], ◌∷◌, ◌++◌, length, take, drop, None}
use Rattle.std.specs.List.{flat_map}
use Rattle.krb_der.specs.Octets.{AreOctets, number}
use Rattle.krb_der.specs.declared.profile.Profile.{Profile}
use Rattle.krb_judge.specs.Parses.{refusal_of, ticket_refusal}
use Rattle.krb_items.specs.Heads.{Begun, size_of}
use Rattle.krb_items.specs.Items.{Item, Items}
use Rattle.krb_items.specs.Reached.{items_as, limits_by}
use Rattle.krb_items.specs.declared.reaching.Lies.{Lies}
use Rattle.krb_items.specs.declared.reaching.Lies.TheVariants as lies

-- its heads, one after another
abbrev pub head_octets : Begun → List ℕ
head_octets begun = flat_map (λ octets. octets) begun.heads

-- so many octets from a place on
abbrev pub octets_at : (place size : ℕ) → List ℕ → List ℕ
octets_at place size octets = take size (drop place octets)

-- whether there are items in an item: the one after it is deeper
abbrev pub holds_items : Item → List Item → Bool
holds_items item [] = false
holds_items item (next ∷ items) = nat_lt item.begun.depth next.begun.depth

-- the contents of an item, if there is none in it
abbrev pub own_contents : List ℕ → Item → List Item → List ℕ
own_contents octets item items = if holds_items item items then [] else octets_at item.begun.next (size_of item.begun.size) octets

-- the heads of each item, and of each in which there is none its contents, in order
abbrev pub covered : List ℕ → List Item → List ℕ
covered octets [] = []
covered octets (item ∷ items) = head_octets item.begun ++ (own_contents octets item items ++ covered octets items)

-- An item begins at a place, with the octets of its heads, and its contents are after these.
pub record BeginsAt (octets : List ℕ) (place : ℕ) (item : Item) : Type 0 where
  pub at : item.begun.at ≡ place
  pub contents : item.begun.next ≡ place + length (head_octets item.begun)
  pub heads : head_octets item.begun ≡ octets_at place (length (head_octets item.begun)) octets

-- where its octets end that are in no other item
abbrev pub end_of : Item → List Item → ℕ
end_of item items = if holds_items item items then item.begun.next else item.begun.next + size_of item.begun.size

-- From a place on each item begins where the one before it ends, and the last ends where the octets do.
abbrev pub AreInOrder : List ℕ → (place : ℕ) → List Item → Type 0
AreInOrder octets place [] = place ≡ length octets
AreInOrder octets place (item ∷ items) = BeginsAt octets place item × AreInOrder octets (end_of item items) items

pub record Covers (octets : List ℕ) (items : Items) : Type 0 where
  pub whole : items.cut ≡ None
  pub places : AreInOrder octets 0 items.items
  pub parts : covered octets items.items ≡ octets

-- the items of octets of which nothing is refused
abbrev pub whole_items : Lies → List ℕ → Items
whole_items lies octets = items_as lies (limits_by octets None) octets

-- The items of a message that is accepted are all of its octets.
abbrev pub MessagesAreCovered : Type 0
MessagesAreCovered = (profile : Profile) (octets : List ℕ) → AreOctets octets → refusal_of profile octets ≡ None → Covers octets (whole_items lies.Alone octets)

abbrev pub TicketsAreCovered : Type 0
TicketsAreCovered = (profile : Profile) (octets : List ℕ) → AreOctets octets → ticket_refusal profile octets ≡ None → Covers octets (whole_items lies.Ticket octets)

-- So are those of a frame, whose first four octets say how many the message has (RFC 4120, 7.2.2).
abbrev pub FramesAreCovered : Type 0
FramesAreCovered = (profile : Profile) (a b c d : ℕ) (message : List ℕ) → AreOctets message → number (a ∷ b ∷ c ∷ d ∷ []) ≡ length message → refusal_of profile message ≡ None
    → Covers (a ∷ b ∷ c ∷ d ∷ message) (whole_items lies.Framed (a ∷ b ∷ c ∷ d ∷ message))
