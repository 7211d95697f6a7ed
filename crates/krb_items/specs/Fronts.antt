-- What the octets that are there of a token decide, of which so many are announced: all of them are there, they end before that, or an octet is at fault. The rules are those of whole tokens in krb_token (RFC 2743, 3.1; RFC 4121, 4.1; RFC 4178, 4.2), and of messages in krb_msg.
use Rattle.std.specs.Prelude.{ℕ, zero, suc, pos, ◌+◌, ◌-◌, Bool, true, false, ◌&&◌, ◌==◌, nat_lt, if◌then◌else◌, List, [], ◌∷◌, length, take, drop, bytes_eq, Option, Some, None, Result, Ok, Err}
use Rattle.krb_der.specs.Octets.{when, begins_with}
use Rattle.krb_der.specs.declared.profile.Profile.{Profile}
use Rattle.krb_der.specs.declared.verdict.Verdict.{Verdict}
use Rattle.krb_der.specs.declared.verdict.Verdict.TheVariants as verdict
use Rattle.krb_der.specs.declared.why.Why.{Why}
use Rattle.krb_der.specs.declared.why.Why.TheVariants as why
use Rattle.krb_msg.specs.Judgement.{Outcome, Open, Bad, Done, Head, Partial, Refused, Got, head, has_size, integer_contents, bits_contents, any_contents, judgement}
use Rattle.krb_msg.specs.Term.{Integer, Bits}
use Rattle.krb_token.specs.Gss.{is_kerberos, message_tag, negotiation}
use Rattle.krb_token.specs.Tokens.{is_message_tag}
use Rattle.krb_items.specs.Heads.{count_in, octet_of}
use Rattle.krb_items.specs.Items.{begins_as, may_be_ntlm}
use Rattle.krb_items.specs.Shapes.{Field, fields_of, neg_type}
use Rattle.krb_items.specs.declared.fronts.Stop.{Stop}
use Rattle.krb_items.specs.declared.fronts.Stop.TheVariants as stop
use Rattle.krb_items.specs.declared.shape.Leaf.{Leaf}
use Rattle.krb_items.specs.declared.shape.Leaf.TheVariants as leaves
use Rattle.krb_items.specs.declared.shape.NegToken.{NegToken}
use Rattle.krb_items.specs.declared.shape.NegToken.TheVariants as negs
use Rattle.krb_items.specs.declared.shape.Sequence.{Sequence}
use Rattle.krb_items.specs.declared.shape.Sequence.TheVariants as sequences
use Rattle.krb_items.specs.declared.shape.Shape.{Shape}
use Rattle.krb_items.specs.declared.shape.Shape.TheVariants as shapes
use Rattle.krb_items.specs.declared.tag.Tag.{Tag}

-- octets of a room, as far as they are there, of which the first is at a place
pub record Front : Type 0 where
  pub place : ℕ
  pub room : ℕ
  pub octets : List ℕ

-- what follows so many octets
abbrev pub front_after : ℕ → Front → Front
front_after count front = record { place = front.place + count; room = front.room - count; octets = drop count front.octets }

-- the contents after a head
abbrev pub front_in : (header size : ℕ) → Front → Front
front_in header size front = record { place = front.place + header; room = size; octets = take size (drop header front.octets) }

abbrev pub fault_at : {A : Type 0} → ℕ → Why → Result A Stop
fault_at place why = Err (stop.Fault (record { place = place; why = why }))

abbrev pub ends_here : {A : Type 0} → Result A Stop
ends_here = Err stop.End

-- goes on with what was read
abbrev pub and_then : {A B : Type 0} → Result A Stop → (A → Result B Stop) → Result B Stop
and_then (Ok read) next = next read
and_then (Err stopped) next = Err stopped

-- ---- items
-- the first octet; where there is no room for it, it is missing at the last octet before
abbrev pub first_of : (place room : ℕ) → List ℕ → Result ℕ Stop
first_of place zero octets = fault_at (place - 1) why.Missing
first_of place (suc room) [] = ends_here
first_of place (suc room) (octet ∷ octets) = Ok octet

abbrev pub first_octet : Front → Result ℕ Stop
first_octet front = first_of front.place front.room front.octets

-- the contents of the item whose head this is; the sole item has to fill the room
abbrev pub headed_front : (sole : Bool) → Front → Head → Result Front Stop
headed_front sole front Partial = ends_here
headed_front sole front (Refused offset reason) = fault_at (front.place + offset) reason
headed_front sole front (Got header size) = if sole && nat_lt (header + size) front.room then fault_at (front.place + (header - 1)) why.Loose else Ok (front_in header size front)

-- the contents of an item that has a tag
abbrev pub entered : (sole : Bool) → (tag : ℕ) → Front → Result Front Stop
entered sole tag front =
    and_then (first_octet front)
    (λ octet. when (octet == tag)
    (λ _. if front.room == 1 then fault_at front.place why.Overrun else headed_front sole front (head front.room front.octets))
    (λ _. fault_at front.place why.Tag))

-- the contents in heads with these tags
abbrev pub all_entered : (sole : Bool) → List Tag → Front → Result Front Stop
all_entered sole [] front = Ok front
all_entered sole (tag ∷ tags) front = and_then (entered sole (octet_of tag) front) (λ inside. all_entered true tags inside)

-- ---- simple types
abbrev pub outcome_at : ℕ → Outcome → Result (Unit {0}) Stop
outcome_at place Open = ends_here
outcome_at place (Bad offset reason) = fault_at (place + offset) reason
outcome_at place (Done count) = Ok tt

-- An OBJECT IDENTIFIER is numbers of seven bits an octet, and 80 begins none (X.690, 8.19.2).
abbrev pub identifier_outcome : (begins : Bool) → (index room : ℕ) → List ℕ → Outcome
identifier_outcome begins index room [] = if nat_lt index room then Open else if begins then Done index else Bad (index - 1) why.Range
identifier_outcome begins index room (octet ∷ octets) = when (begins && (octet == 0x80)) (λ _. Bad index why.IntegerNotMinimal) (λ _. identifier_outcome (nat_lt octet 0x80) (index + 1) room octets)

-- whether a leaf of a token has values of so many octets; a number is an ENUMERATED from 0 to 3
abbrev pub leaf_has_size : Leaf → ℕ → Bool
leaf_has_size leaves.Identifier size = nat_lt 0 size
leaf_has_size leaves.Number size = has_size (Integer (pos 0) (pos 3)) size
leaf_has_size (leaves.Flags registry) size = has_size (Bits 0) size
leaf_has_size leaf size = true

abbrev pub leaf_outcome : Leaf → ℕ → List ℕ → Outcome
leaf_outcome leaves.Identifier size octets = identifier_outcome true 0 size octets
leaf_outcome leaves.Number size octets = integer_contents (pos 0) (pos 3) size octets
leaf_outcome (leaves.Flags registry) size octets = bits_contents 0 size octets
leaf_outcome leaf size octets = any_contents size octets

abbrev pub leaf_front : Leaf → Front → Result (Unit {0}) Stop
leaf_front leaf front = if leaf_has_size leaf front.room then outcome_at front.place (leaf_outcome leaf front.room front.octets) else fault_at (front.place - 1) why.Size

-- octets of any values
abbrev pub counted_front : Front → Result (Unit {0}) Stop
counted_front front = leaf_front leaves.Hidden front

-- an OBJECT IDENTIFIER
abbrev pub identifier_front : Front → Result Front Stop
identifier_front front = and_then (entered false 0x06 front) (λ inside. and_then (leaf_front leaves.Identifier inside) (λ _. Ok inside))

-- OBJECT IDENTIFIERs one after another; the number is a bound on how many
abbrev pub identifiers_front : ℕ → Front → Result (Unit {0}) Stop
identifiers_front zero front = if front.room == 0 then Ok tt else ends_here
identifiers_front (suc bound) front = if front.room == 0 then Ok tt else and_then (identifier_front front) (λ _. identifiers_front bound (front_after (count_in front.octets) front))

-- ---- tokens of SPNEGO, of which each field may be left out
-- the end of a SEQUENCE: nothing else may be in it
abbrev pub ended_front : Front → Result (Unit {0}) Stop
ended_front front = if front.room == 0 then Ok tt else and_then (first_octet front) (λ octet. fault_at front.place why.Tag)

-- the fields that are left; the function judges contents by their shape
abbrev pub fields_front : (Shape → Front → Result (Unit {0}) Stop) → List Field → Front → Result (Unit {0}) Stop
fields_front contents [] front = ended_front front
fields_front contents (field ∷ fields) front =
    when (begins_as field.of.tags front.octets)
    (λ _. and_then (all_entered false field.of.tags front)
    (λ inside. and_then (contents field.of.shape inside) (λ _. fields_front contents fields (front_after (count_in front.octets) front))))
    (λ _. fields_front contents fields front)

-- contents by their shape; the functions judge what is in a SEQUENCE and what a token is
abbrev pub shape_front : (Sequence → Front → Result (Unit {0}) Stop) → (Front → Result (Unit {0}) Stop) → Shape → Front → Result (Unit {0}) Stop
shape_front sequence token (shapes.Leaf leaf) front = leaf_front leaf front
shape_front sequence token shapes.Token front = token front
shape_front sequence token shapes.Hints front =
    when (begins_with 0x30 front.octets) (λ _. and_then (entered true 0x30 front) (sequence sequences.NegHints)) (λ _. and_then (entered true 0x04 front) counted_front)
shape_front sequence token (shapes.Sequence of) front = sequence of front
shape_front sequence token (shapes.List list) front = identifiers_front (length front.octets) front

-- what is in a SEQUENCE; the number is a bound on how deep they nest
abbrev pub sequence_front : (levels : ℕ) → (Front → Result (Unit {0}) Stop) → Sequence → Front → Result (Unit {0}) Stop
sequence_front zero token of front = Ok tt
sequence_front (suc levels) token of front = fields_front (shape_front (sequence_front levels token) token) (fields_of of) front

abbrev pub neg_front : (Front → Result (Unit {0}) Stop) → NegToken → Front → Result (Unit {0}) Stop
neg_front token neg front = and_then (all_entered true (neg_type neg).tags front) (shape_front (sequence_front 2 token) token (neg_type neg).shape)

-- ---- messages and tokens of Kerberos
abbrev pub message_by : ℕ → Verdict → Result (Unit {0}) Stop
message_by place verdict.Whole = Ok tt
message_by place verdict.Open = ends_here
message_by place (verdict.Refused refusal) = fault_at (place + refusal.place) refusal.why

abbrev pub message_front : Profile → Front → Result (Unit {0}) Stop
message_front profile front = message_by front.place (judgement profile front.room front.octets)

-- a message that begins with a tag
abbrev pub message_of_tag : Profile → ℕ → Front → Result (Unit {0}) Stop
message_of_tag profile tag front = and_then (first_octet front) (λ octet. when (octet == tag) (λ _. message_front profile front) (λ _. fault_at front.place why.Tag))

-- the second octet of two that say which message follows
abbrev pub kerberos_by : Profile → Option ℕ → Front → Result (Unit {0}) Stop
kerberos_by profile None front = fault_at front.place why.Range
kerberos_by profile (Some tag) front =
    and_then (first_octet (front_after 1 front)) (λ low. when (low == 0) (λ _. message_of_tag profile tag (front_after 2 front)) (λ _. fault_at (front.place + 1) why.Range))

abbrev pub kerberos_front : Profile → Front → Result (Unit {0}) Stop
kerberos_front profile front = and_then (first_octet front) (λ high. kerberos_by profile (message_tag high) front)

-- a token of GSS-API; the function judges what follows the identifier of a mechanism
abbrev pub gss_front : (List ℕ → Front → Result (Unit {0}) Stop) → Front → Result (Unit {0}) Stop
gss_front mechanism front =
    and_then (entered true 0x60 front)
    (λ inside. and_then (identifier_front inside) (λ identifier. mechanism identifier.octets (front_after (count_in inside.octets) inside)))

-- the mechanism is none of those that may be there: its last octet is at fault
abbrev pub another_mechanism : Front → Result (Unit {0}) Stop
another_mechanism front = fault_at (front.place - 1) why.Range

-- ---- the token in one of SPNEGO
abbrev pub inner_mechanism : Profile → List ℕ → Front → Result (Unit {0}) Stop
inner_mechanism profile identifier front = when (is_kerberos identifier) (λ _. kerberos_front profile front) (λ _. another_mechanism front)

abbrev pub token_by : Profile → ℕ → Front → Result (Unit {0}) Stop
token_by profile tag front =
    when (tag == 0x60) (λ _. gss_front (inner_mechanism profile) front)
    (λ _. when (is_message_tag tag) (λ _. message_front profile front)
    (λ _. fault_at front.place why.Tag))

-- what may be a message of NTLM is not judged
abbrev pub token_front : Profile → Front → Result (Unit {0}) Stop
token_front profile front =
    when (may_be_ntlm front.room front.octets) (λ _. counted_front front)
    (λ _. and_then (first_octet front) (λ tag. token_by profile tag front))

-- What is refused of a token of SPNEGO itself is so, wherever it is; else its token is judged with it, up to the first octet at fault.
abbrev pub unless_fault : Result (Unit {0}) Stop → (Unit {0} → Result (Unit {0}) Stop) → Result (Unit {0}) Stop
unless_fault (Err (stop.Fault refusal)) next = Err (stop.Fault refusal)
unless_fault other next = next tt

abbrev pub spnego_front : Profile → NegToken → Front → Result (Unit {0}) Stop
spnego_front profile neg front = unless_fault (neg_front counted_front neg front) (λ _. neg_front (token_front profile) neg front)

-- ---- all
-- a first token, in one of GSS-API
abbrev pub spnego_in_gss_front : Profile → Front → Result (Unit {0}) Stop
spnego_in_gss_front profile front = and_then (first_octet front) (λ tag. when (tag == 0xA0) (λ _. spnego_front profile negs.Init front) (λ _. fault_at front.place why.Tag))

abbrev pub outer_mechanism : Profile → List ℕ → Front → Result (Unit {0}) Stop
outer_mechanism profile identifier front =
    when (is_kerberos identifier) (λ _. kerberos_front profile front)
    (λ _. when (bytes_eq identifier negotiation) (λ _. spnego_in_gss_front profile front) (λ _. another_mechanism front))

abbrev pub front_of_size : ℕ → List ℕ → Front
front_of_size size octets = record { place = 0; room = size; octets = octets }

abbrev pub verdict_of : Result (Unit {0}) Stop → Verdict
verdict_of (Ok read) = verdict.Whole
verdict_of (Err stop.End) = verdict.Open
verdict_of (Err (stop.Fault refusal)) = verdict.Refused refusal

-- what octets present of a GSS-API token of so many decide, and of a token of SPNEGO
abbrev pub gss_verdict : Profile → (size : ℕ) → List ℕ → Verdict
gss_verdict profile size octets = verdict_of (gss_front (outer_mechanism profile) (front_of_size size octets))

abbrev pub spnego_verdict : Profile → NegToken → (size : ℕ) → List ℕ → Verdict
spnego_verdict profile neg size octets = verdict_of (spnego_front profile neg (front_of_size size octets))
