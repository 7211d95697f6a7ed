-- The items of octets, in order of place, up to one in which the octets end or that is at fault: a recursion over types and whole lists, with a case for each of the judgement's.
-- The octets are those up to and with one that is refused, or all that are there. The first of them, up to a limit, are right. So what holds no items is one once its last octet is right, and a SEQUENCE once its last length octet is.
use Rattle.std.specs.Prelude.{ℕ, ℤ, zero, suc, ◌+◌, ◌-◌, Bool, true, false, not, ◌&&◌, ◌||◌, nat_lt, ◌==◌, nat_eq, bytes_eq, if◌then◌else◌, List, [], ◌∷◌, ◌++◌, length, take, drop, codes, Option, Some, None}
use Rattle.std.specs.List.{starts_with}
use Rattle.krb_der.specs.Octets.{when, begins_with, number}
use Rattle.krb_der.specs.declared.verdict.Refusal.{Refusal}
use Rattle.krb_der.specs.declared.why.Why.{Why}
use Rattle.krb_der.specs.declared.why.Why.TheVariants as why
use Rattle.krb_source.specs.declared.layer.Layer.{Layer}
use Rattle.krb_source.specs.declared.layer.Layer.TheVariants.{Frame, Gss, Spnego}
use Rattle.krb_msg.specs.Views.{kind_with_tag, kind_name}
use Rattle.krb_msg.specs.declared.message.Kind.{Kind}
use Rattle.krb_token.specs.Gss.{negotiation}
use Rattle.krb_items.specs.Heads.{Begun, Headed, begun_at, contents_in, count_in, headed, octet_of, size_of, with_head, with_octets, with_unknown}
use Rattle.krb_items.specs.Held.{held_name, leaf_after, number_after, opened}
use Rattle.krb_items.specs.Names.{element_path, field_path}
use Rattle.krb_items.specs.Shapes.{Field, ItemType, fields_of, held_type, identifier_type, item_of, message_of, neg_name, neg_type, ticket}
use Rattle.krb_items.specs.declared.shape.Held.{Held}
use Rattle.krb_items.specs.declared.shape.Leaf.{Leaf}
use Rattle.krb_items.specs.declared.shape.Leaf.TheVariants as leaves
use Rattle.krb_items.specs.declared.shape.NegToken.{NegToken}
use Rattle.krb_items.specs.declared.shape.NegToken.TheVariants as negs
use Rattle.krb_items.specs.declared.shape.Sequence.{Sequence}
use Rattle.krb_items.specs.declared.shape.Sequence.TheVariants as sequences
use Rattle.krb_items.specs.declared.shape.Shape.{Shape}
use Rattle.krb_items.specs.declared.shape.Shape.TheVariants as shapes
use Rattle.krb_items.specs.declared.tag.Tag.{Tag}
use Rattle.krb_items.specs.declared.tag.Tag.TheVariants as tags

-- An item that is whole: its path, and of a type that holds no items what its contents are shown as.
pub record Item : Type 0 where
  pub name : List ℕ
  pub begun : Begun
  pub shown : Option (Leaf × List ℕ)

-- An item in which the octets end, or that is at fault. It has no path before a message has told its kind. Of contents that are counted, none is shown.
pub record Part : Type 0 where
  pub name : Option (List ℕ)
  pub begun : Begun
  pub counted : Bool

-- items, and the part in which they end, if they are not whole
pub record Items : Type 0 where
  pub items : List Item
  pub cut : Option Part

abbrev pub whole : List Item → Items
whole items = record { items = items; cut = None }

abbrev pub cut_in : Option (List ℕ) → Begun → Bool → Items
cut_in name begun counted = record { items = []; cut = Some (record { name = name; begun = begun; counted = counted }) }

-- items, and if these are whole those after them
abbrev pub goes_on : List Item → Option Part → (Unit {0} → Items) → Items
goes_on items None next = record { items = items ++ (next tt).items; cut = (next tt).cut }
goes_on items (Some part) next = record { items = items; cut = Some part }

abbrev pub followed_by : Items → (Unit {0} → Items) → Items
followed_by first next = goes_on first.items first.cut next

abbrev pub after_item : Item → Items → Items
after_item item others = record { items = item ∷ others.items; cut = others.cut }

-- how many of the octets are right, and what is refused of them, if something is
pub record Limits : Type 0 where
  pub limit : ℕ
  pub fault : Option Refusal

-- ---- containers
-- what the items that are left of a container have in common: what they lie in, its path, where they begin, in how many items they are, and the last number before them in the container
pub record Here : Type 0 where
  pub layers : List Layer
  pub name : List ℕ
  pub place : ℕ
  pub depth : ℕ
  pub number : Option ℤ

abbrev pub here_at : List Layer → List ℕ → (place depth : ℕ) → Here
here_at layers name place depth = record { layers = layers; name = name; place = place; depth = depth; number = None }

-- what is in an item
abbrev pub here_in : List ℕ → Begun → Here
here_in name begun = here_at begun.layers name begun.next (begun.depth + 1)

abbrev pub begun_here : Here → Begun
begun_here here = begun_at here.layers here.place here.depth

-- an item at the same place, and what follows so many octets
abbrev pub named : Here → List ℕ → Here
named here name = record { layers = here.layers; name = name; place = here.place; depth = here.depth; number = here.number }

abbrev pub passed : Here → ℕ → Option ℤ → Here
passed here count number = record { layers = here.layers; name = here.name; place = here.place + count; depth = here.depth; number = number }

-- octets that begin none of the items that may be there
abbrev pub unknown : Option (List ℕ) → Here → List ℕ → Items
unknown name here octets = cut_in name (with_unknown (begun_here here) octets) false

-- the end of a container: if it has room for more, what is there is no item of it
abbrev pub ended : Here → (room : ℕ) → List ℕ → Items
ended here zero octets = whole []
ended here (suc room) octets = unknown (Some here.name) here octets

-- a field that is missing would begin after its container
abbrev pub missing : Here → List ℕ → Items
missing here name = cut_in (Some (field_path here.name name)) (begun_here here) false

-- a field with which the octets do not begin: it is missing, nothing is there, something else is, or it is left out
abbrev pub not_there : Field → Here → (room : ℕ) → List ℕ → (Unit {0} → Items) → Items
not_there field here zero octets next = if field.required then missing here field.name else next tt
not_there field here (suc room) [] next = ended here (suc room) []
not_there field here (suc room) (octet ∷ octets) next = if field.required then ended here (suc room) (octet ∷ octets) else next tt

-- ---- items
-- whether the octets of a type are counted and not shown
abbrev pub is_counted : Leaf → Bool
is_counted leaves.Hidden = true
is_counted _ = false

-- octets that are all of an item, and that item, one deeper
abbrev pub held_items : (Here → ItemType → List ℕ → Items) → List ℕ → Begun → List ℕ → Held → Items
held_items item name begun octets held =
    after_item (record { name = name; begun = begun; shown = Some (leaves.Opened, octets) }) (item (here_in (field_path name (held_name held)) begun) (held_type held) octets)

abbrev pub opened_items : (Here → ItemType → List ℕ → Items) → List ℕ → Begun → Leaf → List ℕ → Option Held → Items
opened_items item name begun leaf octets None = whole (record { name = name; begun = begun; shown = Some (leaf, octets) } ∷ [])
opened_items item name begun leaf octets (Some held) = held_items item name begun octets held

-- An item of a type that holds none. What its octets are is known by the number before them. The function has the items of one item.
abbrev pub leaf_items : (Here → ItemType → List ℕ → Items) → Limits → Here → Begun → Leaf → List ℕ → Items
leaf_items item limits here begun leaf octets =
    if nat_lt limits.limit (begun.next + size_of begun.size) then cut_in (Some here.name) begun (is_counted (leaf_after here.number leaf))
    else opened_items item here.name begun (leaf_after here.number leaf) octets (opened here.number leaf octets)

abbrev pub container : List ℕ → Begun → Item
container name begun = record { name = name; begun = begun; shown = None }

abbrev pub begins_as : List Tag → List ℕ → Bool
begins_as [] octets = false
begins_as (tag ∷ tags) octets = begins_with (octet_of tag) octets

-- an item whose heads are read, if they are right; the function has the items of its contents
abbrev pub of_contents : List ℕ → Begun → Option (List ℕ) → (Begun → List ℕ → Items) → Items
of_contents name begun None contents = cut_in (Some name) begun false
of_contents name begun (Some octets) contents = contents begun octets

abbrev pub of_headed : List ℕ → Headed → (Begun → List ℕ → Items) → Items
of_headed name headed contents = of_contents name headed.begun headed.contents contents

-- The fields that are left of a SEQUENCE, in the room that is left. The function has the items of one item.
abbrev pub field_items : (Here → ItemType → List ℕ → Items) → Here → List Field → (room : ℕ) → List ℕ → Items
field_items item here [] room octets = ended here room octets
field_items item here (field ∷ fields) room octets =
    when (begins_as field.of.tags octets)
    (λ _. followed_by (item (named here (field_path here.name field.name)) field.of octets)
    (λ _. field_items item (passed here (count_in octets) (number_after field.of octets here.number)) fields (room - count_in octets) (drop (count_in octets) octets)))
    (λ _. not_there field here room octets (λ _. field_items item here fields room octets))

-- The items that are left of a SEQUENCE OF, of which so many are before; the first number is a bound on how many there are.
abbrev pub element_items : (Here → ItemType → List ℕ → Items) → ItemType → (bound index : ℕ) → Here → (room : ℕ) → List ℕ → Items
element_items item of zero index here room octets = ended here room octets
element_items item of (suc bound) index here room octets =
    when (begins_as of.tags octets)
    (λ _. followed_by (item (named here (element_path here.name index)) of octets)
    (λ _. element_items item of bound (index + 1) (passed here (count_in octets) here.number) (room - count_in octets) (drop (count_in octets) octets)))
    (λ _. ended here room octets)

-- a message; the function has the items of one item
abbrev pub kind_items : (Here → ItemType → List ℕ → Items) → Option Kind → Here → List ℕ → Items
kind_items item None here octets = unknown None here octets
kind_items item (Some kind) here octets = item (here_at here.layers (kind_name kind) here.place here.depth) (message_of kind) octets

abbrev pub message_items : (Here → ItemType → List ℕ → Items) → Here → List ℕ → Items
message_items item here [] = unknown None here []
message_items item here (tag ∷ octets) = kind_items item (kind_with_tag tag) here (tag ∷ octets)

-- ---- GSS-API tokens of Kerberos and of SPNEGO (RFC 2743, 3.1; RFC 4121, 4.1; RFC 4178, 4)
-- a message in a token, of which the first octet may be one that is not allowed there
abbrev pub token_message : (Here → ItemType → List ℕ → Items) → Limits → Option (List ℕ) → Here → List ℕ → Items
token_message item limits name here octets = if nat_lt here.place limits.limit then message_items item here octets else unknown name here octets

-- where the room ends something is missing, and else the octets do
abbrev pub kerberos_message : (Here → ItemType → List ℕ → Items) → Limits → Here → (room : ℕ) → List ℕ → Items
kerberos_message item limits here zero octets = missing here (codes "message")
kerberos_message item limits here (suc room) [] = unknown (Some here.name) here []
kerberos_message item limits here (suc room) (octet ∷ octets) = token_message item limits None here (octet ∷ octets)

-- how many of octets are right
abbrev pub right_of : Limits → Here → List ℕ → ℕ
right_of limits here octets = length (take (limits.limit - here.place) octets)

-- two octets that say which message follows, and that message
abbrev pub identified_message : (Here → ItemType → List ℕ → Items) → Limits → Here → (room : ℕ) → List ℕ → Items
identified_message item limits here room octets =
    if nat_lt (right_of limits here octets) 2 then missing here (codes "token-id")
    else after_item (record { name = field_path here.name (codes "token-id"); begun = with_octets (begun_here here) tags.Octets 2; shown = Some (leaves.Octets, take 2 octets) })
    (kerberos_message item limits (passed here 2 None) (room - 2) (drop 2 octets))

abbrev pub kerberos_items : (Here → ItemType → List ℕ → Items) → Limits → Here → (room : ℕ) → List ℕ → Items
kerberos_items item limits here (suc room) [] = unknown (Some here.name) here []
kerberos_items item limits here room octets = identified_message item limits here room octets

-- All items of a token of SPNEGO are right. If something is refused, its token is left out.
abbrev pub left_out : Option Refusal → NegToken → Here → Items
left_out None neg here = whole []
left_out (Some refusal) neg here = missing here (neg_name neg)

abbrev pub spnego_items : (Here → ItemType → List ℕ → Items) → Limits → NegToken → Here → List ℕ → Items
spnego_items item limits neg here octets =
    followed_by (item here (neg_type neg) octets) (λ _. left_out limits.fault neg (here_at here.layers here.name (here.place + count_in octets) (here.depth + 1)))

-- a first token, in one of GSS-API
abbrev pub spnego_in_gss : (Here → ItemType → List ℕ → Items) → Limits → Here → (room : ℕ) → List ℕ → Items
spnego_in_gss item limits here zero octets = cut_in (Some (codes "SPNEGO")) (begun_here here) false
spnego_in_gss item limits here (suc room) [] = unknown (Some here.name) here []
spnego_in_gss item limits here (suc room) (octet ∷ octets) =
    let own : Here = here_at (Gss ∷ Spnego ∷ []) (codes "SPNEGO") here.place here.depth in
    if nat_lt here.place limits.limit then spnego_items item limits negs.Init own (octet ∷ octets) else unknown None own (octet ∷ octets)

abbrev pub mechanism_items : (Here → ItemType → List ℕ → Items) → Limits → Here → (identifier : List ℕ) → (room : ℕ) → List ℕ → Items
mechanism_items item limits here identifier room octets =
    when (bytes_eq identifier negotiation) (λ _. spnego_in_gss item limits here room octets) (λ _. kerberos_items item limits here room octets)

abbrev pub not_identified : Here → (room : ℕ) → List ℕ → Items
not_identified here zero octets = missing here (codes "oid")
not_identified here (suc room) octets = unknown (Some here.name) here octets

-- the identifier of a mechanism, and what follows it
abbrev pub identified_items : (Here → ItemType → List ℕ → Items) → Limits → Here → (room : ℕ) → List ℕ → Items
identified_items item limits here room octets =
    when (begins_with (octet_of tags.ObjectIdentifier) octets)
    (λ _. followed_by (item (named here (field_path here.name (codes "oid"))) identifier_type octets)
    (λ _. mechanism_items item limits (passed here (count_in octets) None) (contents_in (tags.ObjectIdentifier ∷ []) octets) (room - count_in octets) (drop (count_in octets) octets)))
    (λ _. not_identified here room octets)

abbrev pub gss_items : (Here → ItemType → List ℕ → Items) → Limits → Here → List ℕ → Items
gss_items item limits here octets =
    of_headed here.name (headed limits.limit (begun_here here) (tags.Application 0 ∷ []) octets)
    (λ begun contents. after_item (container here.name begun) (identified_items item limits (here_in here.name begun) (size_of begun.size) contents))

-- ---- the token in one of SPNEGO
abbrev pub gss_in : List Layer → List Layer
gss_in (Gss ∷ layers) = Gss ∷ Spnego ∷ Gss ∷ []
gss_in layers = Spnego ∷ Gss ∷ []

-- a token of GSS-API, or a message by itself
abbrev pub token_in : (Here → ItemType → List ℕ → Items) → Limits → Here → List ℕ → Items
token_in item limits here [] = unknown (Some here.name) here []
token_in item limits here (tag ∷ octets) =
    when (tag == 0x60) (λ _. gss_items item limits (here_at (gss_in here.layers) (codes "GSS") here.place here.depth) (tag ∷ octets))
    (λ _. token_message item limits (Some here.name) here (tag ∷ octets))

-- with which each message of NTLM begins (MS-NLMP, 2.2.1)
abbrev pub ntlm : List ℕ
ntlm = codes "NTLMSSP" ++ 0 ∷ []

-- whether octets of so many are of a message of NTLM, or may yet be
abbrev pub may_be_ntlm : (size : ℕ) → List ℕ → Bool
may_be_ntlm size octets = starts_with nat_eq octets ntlm || (nat_lt (length octets) size && starts_with nat_eq ntlm octets)

abbrev pub is_cut : Why → Bool
is_cut why.Truncated = true
is_cut reason = false

-- Octets that were cut are gone into unless they may be of NTLM. Where an octet is refused, they are if it is not after them.
abbrev pub is_reached : Refusal → (next size : ℕ) → List ℕ → Bool
is_reached refusal next size octets = if is_cut refusal.why then not (may_be_ntlm size octets) else nat_lt refusal.place (next + size)

-- whether a token of so many octets, from a place on, is gone into
abbrev pub is_gone_into : Option Refusal → (next size : ℕ) → List ℕ → Bool
is_gone_into None next size octets = true
is_gone_into (Some refusal) next size octets = is_reached refusal next size octets

-- It is an item once its last length octet is right, if it is gone into.
abbrev pub token_items : (Here → ItemType → List ℕ → Items) → Limits → Here → Begun → List ℕ → Items
token_items item limits here begun octets =
    when (is_gone_into limits.fault begun.next (size_of begun.size) octets)
    (λ _. after_item (record { name = here.name; begun = begun; shown = Some (leaves.Counted (size_of begun.size), []) }) (token_in item limits (here_in here.name begun) octets))
    (λ _. leaf_items item limits here begun leaves.Hidden octets)

-- ---- items
abbrev pub sequence_items : (Here → ItemType → List ℕ → Items) → Here → Sequence → Begun → List ℕ → Items
sequence_items item here sequence begun octets =
    after_item (container here.name begun) (field_items item (here_in here.name begun) (fields_of sequence) (size_of begun.size) octets)

-- NegHints, or else an OCTET STRING (MS-SPNG, 2.2.1)
abbrev pub hints_items : (Here → ItemType → List ℕ → Items) → Limits → Here → Begun → List ℕ → Items
hints_items item limits here begun octets =
    when (begins_with (octet_of tags.Sequence) octets)
    (λ _. of_headed here.name (headed limits.limit begun (tags.Sequence ∷ []) octets) (sequence_items item here sequences.NegHints))
    (λ _. of_headed here.name (headed limits.limit begun (tags.OctetString ∷ []) octets) (λ begun octets. leaf_items item limits here begun leaves.Hidden octets))

-- an item whose heads are right, and what is in it
abbrev pub contents_items : (Here → ItemType → List ℕ → Items) → Limits → Here → Shape → Begun → List ℕ → Items
contents_items item limits here (shapes.Leaf leaf) begun octets = leaf_items item limits here begun leaf octets
contents_items item limits here shapes.Token begun octets = token_items item limits here begun octets
contents_items item limits here shapes.Hints begun octets = hints_items item limits here begun octets
contents_items item limits here (shapes.Sequence sequence) begun octets = sequence_items item here sequence begun octets
contents_items item limits here (shapes.List list) begun octets =
    after_item (container here.name begun) (element_items item (item_of list) (length octets) 0 (here_in here.name begun) (size_of begun.size) octets)

-- An item of a type and what is in it. The number is a bound on how deep items nest.
abbrev pub item_items : (levels : ℕ) → Limits → Here → ItemType → List ℕ → Items
item_items zero limits here of octets = whole []
item_items (suc levels) limits here of octets =
    of_headed here.name (headed limits.limit (begun_here here) of.tags octets) (contents_items (item_items levels limits) limits here of.shape)

-- how deep the items of a message nest at most, and those of a token
abbrev pub most_levels : ℕ
most_levels = 16

abbrev pub all_items : Limits → Here → ItemType → List ℕ → Items
all_items limits = item_items most_levels limits

-- a Ticket alone
abbrev pub ticket_items : Limits → List ℕ → Items
ticket_items limits octets = all_items limits (here_at [] (codes "Ticket") 0 0) ticket octets

-- ---- frames (RFC 4120, 7.2.2)
abbrev pub frame_size : List ℕ → Option ℕ
frame_size (a ∷ b ∷ c ∷ d ∷ octets) = Some (number (a ∷ b ∷ c ∷ d ∷ []))
frame_size octets = None

abbrev pub frame_by : Limits → Begun → Option ℕ → List ℕ → Items
frame_by limits begun None octets = cut_in None begun false
frame_by limits begun (Some size) octets =
    if nat_lt limits.limit begun.next then cut_in None begun false
    else after_item (container (codes "frame") begun) (message_items (all_items limits) (here_at (Frame ∷ []) [] 4 1) (drop 4 octets))

-- four octets of length, which are one head, and a message
abbrev pub frame_items : Limits → List ℕ → Items
frame_items limits octets = frame_by limits (with_head (begun_at (Frame ∷ []) 0 0) tags.Frame (take 4 octets) (frame_size octets)) (frame_size octets) octets
