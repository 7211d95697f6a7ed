-- What octets are that a message lies in, by the standards of its layers, and the laws that they are opened to it and nothing else is. Each law is the contract of a function of the module `tokens`.
-- A part is octets with the place of the first of them. Where a part lies in another follows from which octets come before it and after it, and so does its place.
use Rattle.std.specs.Prelude.{ℕ, ◌+◌, ◌^◌, ◌<◌, ◌≤◌, ◌≡◌, ◌⊎◌, ◌↔◌, true, List, [], ◌∷◌, ◌++◌, length, codes, Option, Some, None}
use Rattle.std.specs.List.{concat, flat_map, AllByRecursion}
use Rattle.krb_der.specs.Octets.{AreBits, AreOctets, item}
use Rattle.krb_token.specs.Gss.{kerberos, kerberos_of_windows, user_to_user, negotiation, message_tag}
use Rattle.krb_token.specs.Items.{simple_tag}
use Rattle.krb_token.specs.Laws.{IsFrame}
use Rattle.krb_token.specs.Opened.{Part, Message, Ticket, under}
use Rattle.krb_token.specs.Spnego.{Holds, Fields, One, Many, Token, OctetsOr, End, Field, neg_fields, neg_tag}
use Rattle.krb_token.specs.Tokens.{is_message_tag, opened, whole}
use Rattle.krb_token.specs.declared.simple.Simple.{Simple}
use Rattle.krb_token.specs.declared.simple.Simple.TheVariants as simple
use Rattle.krb_token.specs.declared.fields.NegToken.{NegToken}
use Rattle.krb_token.specs.declared.fields.NegToken.TheVariants as neg
use Rattle.krb_source.specs.declared.layer.Layer.{Layer}
use Rattle.krb_source.specs.declared.layer.Layer.TheVariants.{Frame, Gss, Spnego}

-- octets do not begin with others
abbrev pub DoNotBegin : (octets first : List ℕ) → Type 0
DoNotBegin octets first = (rest : List ℕ) → octets ≡ first ++ rest → ⊥

-- ---- items (X.690, 8.1)
-- a part lies at the end of another
abbrev pub Ends : (part all : Part) → Type 0
Ends part all = part.place + length part.octets ≡ all.place + length all.octets

-- a part is one item, of which these are the contents
pub record IsItem (tag : ℕ) (part contents : Part) : Type 0 where
  pub form : part.octets ≡ item tag contents.octets
  pub ends : Ends contents part

-- a part begins with an item, of which these are the contents, and which the rest follows
pub record BeginsWithItem (tag : ℕ) (part contents rest : Part) : Type 0 where
  pub form : part.octets ≡ item tag contents.octets ++ rest.octets
  pub followed : contents.place + length contents.octets ≡ rest.place
  pub ends : Ends rest part

-- ---- simple types
-- A number of an OBJECT IDENTIFIER: all its octets but the last have the high bit, and the first is not 80, with which it would have more than it needs (X.690, 8.19.2).
pub record IsNumber (octets : List ℕ) : Type 0 where
  pub high : List ℕ
  pub last : ℕ
  pub form : octets ≡ high ++ (last ∷ [])
  pub more : AllByRecursion (λ octet. 0x80 ≤ octet) high
  pub end : last < 0x80
  pub fewest : DoNotBegin octets (0x80 ∷ [])

-- an OBJECT IDENTIFIER: numbers, one after another, and not none (X.690, 8.19)
pub record IsIdentifier (octets : List ℕ) : Type 0 where
  pub numbers : List (List ℕ)
  pub form : octets ≡ concat numbers
  pub are_numbers : AllByRecursion IsNumber numbers
  pub some : 0 < length octets

-- The contents octets that a simple type may have. Flags are a BIT STRING (X.690, 8.6 and 11.2), and a state is an ENUMERATED from 0 to 3 (8.4; RFC 4178, 4.2.2); strings are any octets.
abbrev pub IsContents : Simple → List ℕ → Type 0
IsContents simple.Identifier octets = IsIdentifier octets
IsContents simple.Text octets = Unit {0}
IsContents simple.Flags octets = (unused : ℕ) × ((bits : List ℕ) × ((octets ≡ unused ∷ bits) × AreBits unused bits))
IsContents simple.State octets = (state : ℕ) × ((octets ≡ state ∷ []) × (state < 4))
IsContents simple.Octets octets = Unit {0}

-- octets are an item of a simple type
abbrev pub IsOne : Simple → List ℕ → Type 0
IsOne type octets = (contents : List ℕ) × (octets ≡ item (simple_tag type) contents) × IsContents type contents

-- Octets are a SEQUENCE OF items of a simple type, one after another (X.690, 8.10); its tag is 30, as that of a SEQUENCE.
abbrev pub AreMany : Simple → List ℕ → Type 0
AreMany type octets = (items : List (List ℕ)) × (octets ≡ item 0x30 (flat_map (item (simple_tag type)) items)) × AllByRecursion (IsContents type) items

-- ---- fields of a SEQUENCE (X.690, 8.9)
-- A part begins with the field of a tag. Its contents hold something, and so does the rest; between them is the token that is known after the contents, if there is one.
pub record HasField (tag : ℕ) (Held Left : Option Part → Part → Type 0) (part : Part) : Type 0 where
  pub contents : Part
  pub rest : Part
  pub between : Option Part
  pub begins : BeginsWithItem tag part contents rest
  pub held : Held between contents
  pub left : Left between rest

abbrev mutual
  -- A part is what a field holds. The token that is known after it is what the field holds, if that is the token, and else the one of before.
  pub IsHeld : Holds → (before after : Option Part) → Part → Type 0
  IsHeld (One type) before after part = IsOne type part.octets × (after ≡ before)
  IsHeld (Many type) before after part = AreMany type part.octets × (after ≡ before)
  IsHeld Token before after part = (token : Part) × IsItem (simple_tag simple.Octets) part token × (after ≡ Some token)
  IsHeld (OctetsOr fields) before after part = (IsOne simple.Octets part.octets × (after ≡ before)) ⊎ ((contents : Part) × IsItem 0x30 part contents × AreFields fields before after contents)

  -- A part is fields of a SEQUENCE, in their order. Each of them may be left out.
  pub AreFields : Fields → (before after : Option Part) → Part → Type 0
  AreFields End before after part = (part.octets ≡ []) × (after ≡ before)
  AreFields (Field tag path holds fields) before after part =
      AreFields fields before after part ⊎ HasField tag (λ between. IsHeld holds before between) (λ between. AreFields fields between after) part

-- ---- GSS-API
-- a part is a GSS-API token of a mechanism: its identifier, and what is of the mechanism (RFC 2743, 3.1)
pub record IsGssOf (mechanism : List ℕ) (part inner : Part) : Type 0 where
  pub form : part.octets ≡ item 0x60 (item (simple_tag simple.Identifier) mechanism ++ inner.octets)
  pub ends : Ends inner part

-- the identifiers of Kerberos
abbrev pub IsKerberos : List ℕ → Type 0
IsKerberos mechanism = (mechanism ≡ kerberos) ⊎ ((mechanism ≡ kerberos_of_windows) ⊎ (mechanism ≡ user_to_user))

-- A part is a GSS-API token of Kerberos, with a message: before it are two octets, 01 00 of an AP-REQ, 02 00 of an AP-REP and 03 00 of a KRB-ERROR, and it begins with the tag of these (RFC 4121, 4.1).
pub record IsGssToken (part message : Part) : Type 0 where
  pub mechanism : List ℕ
  pub inner : Part
  pub high : ℕ
  pub tag : ℕ
  pub rest : List ℕ
  pub gss : IsGssOf mechanism part inner
  pub is_kerberos : IsKerberos mechanism
  pub form : inner.octets ≡ high ∷ 0 ∷ message.octets
  pub ends : Ends message inner
  pub named : message_tag high ≡ Some tag
  pub begins : message.octets ≡ tag ∷ rest

-- ---- SPNEGO
-- a part is a token of SPNEGO, with the token of a mechanism in one of its fields (RFC 4178, 4.2)
pub record IsNegToken (neg : NegToken) (part token : Part) : Type 0 where
  pub choice : Part
  pub sequence : Part
  pub chosen : IsItem (neg_tag neg) part choice
  pub listed : IsItem 0x30 choice sequence
  pub fields : AreFields (neg_fields neg) None (Some token) sequence

-- a token is a message by itself, as DCE has it, which begins with the tag of an AP-REQ, an AP-REP or a KRB-ERROR
pub record IsBare (token message : Part) : Type 0 where
  pub tag : ℕ
  pub rest : List ℕ
  pub same : message ≡ token
  pub begins : token.octets ≡ tag ∷ rest
  pub allowed : is_message_tag tag ≡ true

-- A message lies in the token of a mechanism under layers.
abbrev pub IsTokenUnder : List Layer → (token message : Part) → Type 0
IsTokenUnder [] token message = IsBare token message
IsTokenUnder (Gss ∷ []) token message = IsGssToken token message
IsTokenUnder layers token message = ⊥

-- and in a token of SPNEGO, under those that its token has
pub record IsNegUnder (neg : NegToken) (layers : List Layer) (part message : Part) : Type 0 where
  pub token : Part
  pub is_neg : IsNegToken neg part token
  pub in_token : IsTokenUnder layers token message

-- ---- all
-- with which a frame, a GSS-API token, the two tokens of SPNEGO, a Ticket and a message of NTLM begin
abbrev pub beginnings : List (List ℕ)
beginnings = (0x00 ∷ []) ∷ (0x60 ∷ []) ∷ (0xA0 ∷ []) ∷ (0xA1 ∷ []) ∷ (0x61 ∷ []) ∷ (codes "NTLMSSP" ++ (0 ∷ [])) ∷ []

-- A message lies in octets under layers.
abbrev pub IsMessageUnder : List Layer → (all message : Part) → Type 0
IsMessageUnder [] all message = (message ≡ all) × AllByRecursion (DoNotBegin all.octets) beginnings
IsMessageUnder (Frame ∷ []) all message = IsFrame message.octets all.octets × (message.place ≡ 4)
IsMessageUnder (Gss ∷ []) all message = IsGssToken all message
IsMessageUnder (Gss ∷ Spnego ∷ layers) all message = (inner : Part) × IsGssOf negotiation all inner × IsNegUnder neg.Init layers inner message
IsMessageUnder (Spnego ∷ layers) all message = (neg : NegToken) × IsNegUnder neg layers all message
IsMessageUnder layers all message = ⊥

-- Octets are opened to a message under layers just if it lies in them under these.
abbrev pub LayersAreOpened : Type 0
LayersAreOpened = (octets : List ℕ) (layers : List Layer) (message : Part) → AreOctets octets → length octets < 2 ^ 31 → (opened octets ≡ under layers (Message message)) ↔ IsMessageUnder layers (whole octets) message

-- Octets are opened to a Ticket just if they begin with its tag, `[APPLICATION 1]` (RFC 4120, 5.3), and then under no layer.
abbrev pub TicketTagsAreOpened : Type 0
TicketTagsAreOpened = (octets : List ℕ) (layers : List Layer) → (opened octets ≡ under layers Ticket) ↔ ((layers ≡ []) × ((rest : List ℕ) × (octets ≡ 0x61 ∷ rest)))
