-- The law that what is listed of octets that were cut is the first of what is listed of all of them.
use Rattle.std.specs.Prelude.{ℕ, ◌≡◌, ◌^◌, ◌<◌, List, [], ◌∷◌, ◌++◌, length, take, Some, None}
use Rattle.krb_der.specs.Octets.{AreOctets, number}
use Rattle.krb_der.specs.declared.profile.Profile.{Profile}
use Rattle.krb_der.specs.declared.verdict.Refusal.{Refusal}
use Rattle.krb_judge.specs.Parses.{refusal_of, ticket_refusal}
use Rattle.krb_items.specs.Items.{Item, Items}
use Rattle.krb_items.specs.Reached.{announced, believed, items_as, limits_by, seen}
use Rattle.krb_items.specs.declared.reaching.Lies.{Lies}
use Rattle.krb_items.specs.declared.reaching.Lies.TheVariants as lies
use Rattle.krb_items_run.specs.Items.{Listable, front_listable, listable}
use Rattle.krb_items_laws.specs.Covers.{whole_items}

-- the first items of others, in order
abbrev pub AreFirst : List Item → List Item → Type 0
AreFirst items others = (rest : List Item) × (others ≡ items ++ rest)

-- what is listed of octets
abbrev pub listed_items : Listable → List ℕ → Items
listed_items found octets = items_as found.lies (limits_by octets found.fault) (seen found.fault octets)

-- what is listed of so many of the octets, where the first length, which says how many there are, is believed
abbrev pub front_items : Profile → Lies → (count : ℕ) → List ℕ → Items
front_items profile lies count octets = listed_items (front_listable profile lies (length octets) (take count octets)) (take count octets)

-- The items of a message that is accepted, cut anywhere, are its first ones.
abbrev pub MessageFrontsAreFirst : Type 0
MessageFrontsAreFirst = (profile : Profile) (octets : List ℕ) (count : ℕ) → AreOctets octets → refusal_of profile octets ≡ None → count < length octets
    → AreFirst (front_items profile lies.Alone count octets).items (whole_items lies.Alone octets).items

abbrev pub TicketFrontsAreFirst : Type 0
TicketFrontsAreFirst = (profile : Profile) (octets : List ℕ) (count : ℕ) → AreOctets octets → ticket_refusal profile octets ≡ None → count < length octets
    → AreFirst (front_items profile lies.Ticket count octets).items (whole_items lies.Ticket octets).items

-- So are those of a message after the four octets of a frame (RFC 4120, 7.2.2).
abbrev pub FrameFrontsAreFirst : Type 0
FrameFrontsAreFirst = (profile : Profile) (a b c d : ℕ) (message : List ℕ) (count : ℕ) → AreOctets message → refusal_of profile message ≡ None → count < length (a ∷ b ∷ c ∷ d ∷ message)
    → AreFirst (front_items profile lies.Framed count (a ∷ b ∷ c ∷ d ∷ message)).items (whole_items lies.Framed (a ∷ b ∷ c ∷ d ∷ message)).items

-- the first head of octets is there
abbrev pub HasFirstHead : Lies → List ℕ → Type 0
HasFirstHead lies octets = announced lies octets ≡ None → ⊥

-- What is refused of octets, as of any input, is such that their first length is believed, by which there are so many.
pub record AreListedAsCut (profile : Profile) (lies : Lies) (octets : List ℕ) (size : ℕ) : Type 0 where
  pub refusal : Refusal
  pub is : listable profile octets ≡ Some (record { lies = lies; fault = Some refusal; ntlm = None })
  pub believed : believed lies octets refusal ≡ Some size

-- So it is of a message that is accepted and cut anywhere after its first head: its length is that of all of it.
abbrev pub CutMessagesAreBelieved : Type 0
CutMessagesAreBelieved = (profile : Profile) (octets : List ℕ) (count : ℕ) → AreOctets octets → refusal_of profile octets ≡ None → count < length octets → HasFirstHead lies.Alone (take count octets)
    → AreListedAsCut profile lies.Alone (take count octets) (length octets)

abbrev pub CutTicketsAreBelieved : Type 0
CutTicketsAreBelieved = (profile : Profile) (octets : List ℕ) (count : ℕ) → AreOctets octets → ticket_refusal profile octets ≡ None → count < length octets → HasFirstHead lies.Ticket (take count octets)
    → AreListedAsCut profile lies.Ticket (take count octets) (length octets)

-- The first octet of a frame that is told from other octets is 00, and it has fewer than 2^31.
abbrev pub CutFramesAreBelieved : Type 0
CutFramesAreBelieved = (profile : Profile) (b c d : ℕ) (message : List ℕ) (count : ℕ) → refusal_of profile message ≡ None → number (0 ∷ b ∷ c ∷ d ∷ []) ≡ length message → length (0 ∷ b ∷ c ∷ d ∷ message) < 2 ^ 31
    → count < length (0 ∷ b ∷ c ∷ d ∷ message) → HasFirstHead lies.Framed (take count (0 ∷ b ∷ c ∷ d ∷ message)) → AreListedAsCut profile lies.Framed (take count (0 ∷ b ∷ c ∷ d ∷ message)) (length (0 ∷ b ∷ c ∷ d ∷ message))
