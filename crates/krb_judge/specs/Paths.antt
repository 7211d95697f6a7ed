-- The field at fault of a message that is refused or cut: its path, by the names of RFC 4120.
-- `TGS-REQ.req-body.additional-tickets[0].sname` is a message, fields of SEQUENCEs, and an item of a SEQUENCE OF.
-- The octets are those of the message up to and with the refused one, or all that are present of a message that is cut. A room is the number of octets that a container has left.
use Rattle.std.specs.Prelude.{ℕ, zero, suc, ◌+◌, ◌-◌, Bool, true, false, ◌&&◌, nat_lt, List, [], ◌∷◌, ◌++◌, length, take, drop, Option, None, codes}
use Rattle.std.specs.Fmt.{decimal}
use Rattle.std.specs.Option.{option_map}
use Rattle.krb_der.specs.Octets.{when, begins_with}
use Rattle.krb_der.specs.declared.profile.Profile.{Profile}
use Rattle.krb_msg.specs.Grammar.{ticket}
use Rattle.krb_msg.specs.Judgement.{Outcome, Open, Bad, Done, Head, Partial, Refused, Got, head, item_outcome}
use Rattle.krb_msg.specs.Profiles.{profile_term}
use Rattle.krb_msg.specs.Term.{Term, Fields, Sequence, SequenceOf, Tagged, Application, End, Required, Optional, tag_of}
use Rattle.krb_msg.specs.Views.{kind_with_tag, kind_name, kind_term_in}
use Rattle.krb_judge.specs.FieldNames.{field_at, names_of_kind}
use Rattle.krb_judge.specs.declared.locating.names.Names.{Names}
use Rattle.krb_judge.specs.declared.locating.names.Names.TheVariants as names

-- a field, after the path of its SEQUENCE
abbrev pub field_path : List ℕ → List ℕ → List ℕ
field_path path name = path ++ codes "." ++ name

-- an item, by its index, after the path of its SEQUENCE OF
abbrev pub element_path : List ℕ → ℕ → List ℕ
element_path path index = path ++ codes "[" ++ decimal index ++ codes "]"

-- if an item is done, goes on after it, and else into it
abbrev pub after_done : Outcome → (ℕ → List ℕ) → (Unit {0} → List ℕ) → List ℕ
after_done Open after into = into tt
after_done (Bad offset reason) after into = into tt
after_done (Done count) after into = after count

-- The path in an item that has a path. The last function finds the path in its contents octets, if its length octets are right.
abbrev pub within_head : Head → (path : List ℕ) → ℕ → Bool → List ℕ → (ℕ → List ℕ → List ℕ) → List ℕ
within_head Partial path room sole octets inside = path
within_head (Refused offset reason) path room sole octets inside = path
within_head (Got header contents) path room sole octets inside =
    when (sole && nat_lt (header + contents) room) (λ _. path) (λ _. inside contents (take contents (drop header octets)))

abbrev pub within : Term → (path : List ℕ) → ℕ → Bool → List ℕ → (ℕ → List ℕ → List ℕ) → List ℕ
within term path room sole octets inside =
    when (begins_with (tag_of term) octets) (λ _. within_head (head room octets) path room sole octets inside) (λ _. path)

-- the path in the first item of what is left of a container, or, if that item is done, in what is left after it
abbrev pub first_item : Term → (path : List ℕ) → ℕ → List ℕ → (inside after : ℕ → List ℕ → List ℕ) → List ℕ
first_item term path room octets inside after =
    after_done (item_outcome term room false octets) (λ count. after (room - count) (drop count octets)) (λ _. within term path room false octets inside)

-- the items of a SEQUENCE OF that are left; the first number is a bound on how many there are
abbrev pub elements_path : (List ℕ → ℕ → List ℕ → List ℕ) → Term → (path : List ℕ) → (bound index : ℕ) → ℕ → List ℕ → List ℕ
elements_path inside term path zero index room octets = path
elements_path inside term path (suc bound) index room octets =
    when (begins_with (tag_of term) octets)
    (λ _. first_item term (element_path path index) room octets (inside (element_path path index)) (elements_path inside term path bound (index + 1)))
    (λ _. path)

abbrev mutual
  -- the contents octets of an item that has a path, in their room
  pub contents_path : Term → Names → (path : List ℕ) → ℕ → List ℕ → List ℕ
  contents_path (Sequence fields) names path room octets = fields_path fields names path 0 room octets
  contents_path (SequenceOf empty term) names path room octets = elements_path (contents_path term names) term path (length octets) 0 room octets
  contents_path (Tagged index term) names path room octets = within term path room true octets (contents_path term names path)
  contents_path (Application number term) names path room octets = within term path room true octets (contents_path term names path)
  contents_path term names path room octets = path

  -- the fields of a SEQUENCE that are left, of which the first is the one at an index
  pub fields_path : Fields → Names → (path : List ℕ) → (index : ℕ) → ℕ → List ℕ → List ℕ
  fields_path End names path index room octets = path
  fields_path (Required term fields) names path index zero octets = field_path path (field_at names index).name
  fields_path (Required term fields) names path index (suc room) octets =
      when (begins_with (tag_of term) octets)
      (λ _. first_item term (field_path path (field_at names index).name) (suc room) octets (contents_path term (field_at names index).inside (field_path path (field_at names index).name)) (fields_path fields names path (index + 1)))
      (λ _. path)
  fields_path (Optional term fields) names path index room octets =
      when (begins_with (tag_of term) octets)
      (λ _. first_item term (field_path path (field_at names index).name) room octets (contents_path term (field_at names index).inside (field_path path (field_at names index).name)) (fields_path fields names path (index + 1)))
      (λ _. fields_path fields names path (index + 1) room octets)

-- the path in an item that has a path, and is the sole one in its room or not
abbrev pub item_path : Term → Names → (path : List ℕ) → ℕ → Bool → List ℕ → List ℕ
item_path term names path room sole octets = within term path room sole octets (contents_path term names path)

-- The path in a message of n octets, by a profile. There is none before the first octet, whose tag says which message it is.
abbrev pub message_path : Profile → ℕ → List ℕ → Option (List ℕ)
message_path profile n [] = None
message_path profile n (tag ∷ octets) =
    option_map (λ kind. item_path (kind_term_in profile kind) (names_of_kind kind) (kind_name kind) n true (tag ∷ octets)) (kind_with_tag tag)

-- The path in a Ticket of n octets, alone, by a profile.
abbrev pub ticket_path : Profile → ℕ → List ℕ → List ℕ
ticket_path profile n octets = item_path (profile_term profile false ticket) names.Ticket (codes "Ticket") n true octets
