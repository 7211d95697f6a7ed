-- The law that octets of ciphers and checksums are in no record of an item.
use Rattle.std.specs.Prelude.{ℕ, ◌≡◌, ◌+◌, ◌<◌, ◌≤◌, ◌&&◌, ◌||◌, Bool, true, false, nat_eq, List, [], ◌∷◌, length, get_or, codes, None, is_some}
use Rattle.std.specs.List.{AllByRecursion, ends_with}
use Rattle.krb_der.specs.Octets.{AreOctets, number}
use Rattle.krb_der.specs.declared.profile.Profile.{Profile}
use Rattle.krb_judge.specs.Parses.{refusal_of, ticket_refusal}
use Rattle.krb_record.specs.Labels.{Label}
use Rattle.krb_items.specs.Heads.{size_of}
use Rattle.krb_items.specs.Items.{Item}
use Rattle.krb_items.specs.Reached.{reached}
use Rattle.krb_items.specs.Records.{is_hidden}
use Rattle.krb_items.specs.declared.reaching.Lies.{Lies}
use Rattle.krb_items.specs.declared.reaching.Lies.TheVariants as lies
use Rattle.krb_items_laws.specs.Covers.{whole_items}

-- the path of a cipher or of a checksum
abbrev pub is_masked_name : List ℕ → Bool
is_masked_name name = ends_with nat_eq name (codes ".cipher") || ends_with nat_eq name (codes ".checksum")

-- a cipher or a checksum, of which no octet is shown
abbrev pub is_masked : Item → Bool
is_masked item = is_hidden item.shown && is_masked_name item.name

-- the same octets are from a place on, up to another
abbrev pub AreSame : (octets others : List ℕ) → (first end : ℕ) → Type 0
AreSame octets others first end = (place : ℕ) → first ≤ place → place < end → get_or octets place 0 ≡ get_or others place 0

-- The heads of an item are the same, and the contents of a type that holds no items, but those of a cipher or of a checksum. Of what is opened all octets are the same.
pub record IsKept (octets others : List ℕ) (item : Item) : Type 0 where
  pub heads : AreSame octets others item.begun.at item.begun.next
  pub contents : is_some item.shown ≡ true → is_masked item ≡ false → AreSame octets others item.begun.next (item.begun.next + size_of item.begun.size)

-- Octets are as many as others, and differ from them only in ciphers and checksums.
pub record DifferWhereMasked (lies : Lies) (octets others : List ℕ) : Type 0 where
  pub as_many : length octets ≡ length others
  pub kept : AllByRecursion (IsKept octets others) (whole_items lies octets).items

-- What is listed of the items of a message that is accepted is what is listed of others that differ from it only so, if nothing is refused of these.
abbrev pub MaskedMessagesAreSame : Type 0
MaskedMessagesAreSame = (label : Label) (text : List ℕ) (profile : Profile) (octets others : List ℕ) → AreOctets octets → refusal_of profile octets ≡ None → DifferWhereMasked lies.Alone octets others
    → reached label text lies.Alone octets None ≡ reached label text lies.Alone others None

abbrev pub MaskedTicketsAreSame : Type 0
MaskedTicketsAreSame = (label : Label) (text : List ℕ) (profile : Profile) (octets others : List ℕ) → AreOctets octets → ticket_refusal profile octets ≡ None → DifferWhereMasked lies.Ticket octets others
    → reached label text lies.Ticket octets None ≡ reached label text lies.Ticket others None

abbrev pub MaskedFramesAreSame : Type 0
MaskedFramesAreSame = (label : Label) (text : List ℕ) (profile : Profile) (a b c d : ℕ) (message others : List ℕ) → AreOctets message → number (a ∷ b ∷ c ∷ d ∷ []) ≡ length message → refusal_of profile message ≡ None → DifferWhereMasked lies.Framed (a ∷ b ∷ c ∷ d ∷ message) others
    → reached label text lies.Framed (a ∷ b ∷ c ∷ d ∷ message) None ≡ reached label text lies.Framed others None
