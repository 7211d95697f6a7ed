-- The items of tokens. All octets are there of what an item lies in: it is read, or an octet is at fault, as in a message (X.690, 8.1 and 10.1).
use Rattle.std.specs.Prelude.{ℕ, zero, suc, pos, ◌+◌, ◌-◌, Bool, true, false, ◌&&◌, ◌==◌, nat_lt, if◌then◌else◌, List, [], ◌∷◌, length, take, drop, Option, Some, None, Result, Ok, Err}
use Rattle.krb_der.specs.Octets.{when}
use Rattle.krb_der.specs.declared.verdict.Refusal.{Refusal}
use Rattle.krb_der.specs.declared.why.Why.TheVariants as why
use Rattle.krb_msg.specs.Judgement.{Outcome, Open, Bad, Done, Head, Partial, Refused, Got, head, has_size, integer_contents, bits_contents, any_contents}
use Rattle.krb_msg.specs.Term.{Integer, Bits}
use Rattle.krb_judge.specs.Paths.{element_path}
use Rattle.krb_token.specs.Opened.{Part, Fault, fault_in, and_then}
use Rattle.krb_token.specs.declared.simple.Simple.{Simple}
use Rattle.krb_token.specs.declared.simple.Simple.TheVariants as simple

-- an item that was read: its contents, and what follows it
pub record Item : Type 0 where
  pub contents : Part
  pub rest : Part

abbrev pub item_after : ℕ → ℕ → Part → Item
item_after header size part = record {
  contents = record { place = part.place + header; octets = take size (drop header part.octets) };
  rest = record { place = part.place + header + size; octets = drop (header + size) part.octets };
}

-- The item whose head this is. The sole item has to fill what it lies in. Of one octet alone a length is missing.
abbrev pub item_of_head : List ℕ → (sole : Bool) → Part → Head → Result Item Fault
item_of_head path sole part Partial = Err (fault_in path part.place why.Overrun)
item_of_head path sole part (Refused offset reason) = Err (fault_in path (part.place + offset) reason)
item_of_head path sole part (Got header size) =
    if sole && nat_lt (header + size) (length part.octets) then Err (fault_in path (part.place + (header - 1)) why.Loose)
    else Ok (item_after header size part)

-- The item of a tag with which octets begin, which has a path. Where there are no octets it is missing, at the last octet before it.
abbrev pub item_in : List ℕ → ℕ → (sole : Bool) → Part → List ℕ → Result Item Fault
item_in path tag sole part [] = Err (fault_in path (part.place - 1) why.Missing)
item_in path tag sole part (octet ∷ octets) =
    when (octet == tag) (λ _. item_of_head path sole part (head (length part.octets) part.octets)) (λ _. Err (fault_in path part.place why.Tag))

abbrev pub entered : List ℕ → ℕ → (sole : Bool) → Part → Result Item Fault
entered path tag sole part = item_in path tag sole part part.octets

-- Octets that begin with a tag, or are none; another tag is at fault in what has this path.
abbrev pub expected : List ℕ → ℕ → ℕ → List ℕ → Result (Unit {0}) Fault
expected path tag place [] = Ok tt
expected path tag place (octet ∷ octets) = when (octet == tag) (λ _. Ok tt) (λ _. Err (fault_in path place why.Tag))

-- ---- simple types
-- An OBJECT IDENTIFIER is numbers of seven bits an octet, whose octets but the last have the high bit. 80 begins none, which would have more octets than it needs (8.19.2).
abbrev pub identifier_contents : (begins : Bool) → ℕ → List ℕ → Outcome
identifier_contents begins place [] = if begins then Done place else Bad (place - 1) why.Range
identifier_contents begins place (octet ∷ octets) =
    when (begins && (octet == 0x80)) (λ _. Bad place why.IntegerNotMinimal) (λ _. identifier_contents (nat_lt octet 0x80) (place + 1) octets)

abbrev pub simple_tag : Simple → ℕ
simple_tag simple.Identifier = 0x06
simple_tag simple.Text = 0x1B
simple_tag simple.Flags = 0x03
simple_tag simple.State = 0x0A
simple_tag simple.Octets = 0x04

-- whether the type has values of this many contents octets; an ENUMERATED is as an INTEGER (8.4)
abbrev pub simple_has_size : Simple → ℕ → Bool
simple_has_size simple.Identifier size = nat_lt 0 size
simple_has_size simple.Text size = true
simple_has_size simple.Flags size = has_size (Bits 0) size
simple_has_size simple.State size = has_size (Integer (pos 0) (pos 3)) size
simple_has_size simple.Octets size = true

abbrev pub simple_contents : Simple → List ℕ → Outcome
simple_contents simple.Identifier octets = identifier_contents true 0 octets
simple_contents simple.Text octets = any_contents (length octets) octets
simple_contents simple.Flags octets = bits_contents 0 (length octets) octets
simple_contents simple.State octets = integer_contents (pos 0) (pos 3) (length octets) octets
simple_contents simple.Octets octets = any_contents (length octets) octets

-- the octet at fault in contents octets that are all there, if one is
abbrev pub refusal_in : Outcome → Option Refusal
refusal_in Open = None
refusal_in (Bad offset reason) = Some (record { place = offset; why = reason })
refusal_in (Done count) = None

abbrev pub judged : List ℕ → Item → Option Refusal → Result Item Fault
judged path item None = Ok item
judged path item (Some refusal) = Err (fault_in path (item.contents.place + refusal.place) refusal.why)

-- an item of a simple type, which has a path
abbrev pub simple_item : Simple → List ℕ → (sole : Bool) → Part → Result Item Fault
simple_item type path sole part =
    and_then (entered path (simple_tag type) sole part)
    (λ item. if simple_has_size type (length item.contents.octets) then judged path item (refusal_in (simple_contents type item.contents.octets)) else Err (fault_in path (item.contents.place - 1) why.Size))

-- the items of a simple type that are left of a SEQUENCE OF, which has a path; the first number is a bound on how many there are
abbrev pub simple_items : Simple → List ℕ → (bound index : ℕ) → Part → List ℕ → Result (Unit {0}) Fault
simple_items type path bound index part [] = Ok tt
simple_items type path zero index part octets = Ok tt
simple_items type path (suc bound) index part octets =
    and_then (expected path (simple_tag type) part.place octets)
    (λ _. and_then (simple_item type (element_path path index) false part) (λ item. simple_items type path bound (index + 1) item.rest item.rest.octets))
