-- The judgement of the octets present of an item, read from the first on: nothing is decided yet, the item is whole, or this is the first fault (X.690).
-- A room is the number of octets that the container has left for an item. No more octets are present than that.
use Rattle.std.specs.Prelude.{ℕ, zero, suc, ℤ, pos, negsuc, ◌+◌, ◌-◌, ◌*◌, ◌%◌, ◌^◌, Bool, true, false, ◌&&◌, ◌||◌, ◌==◌, nat_lt, nat_le, max, if◌then◌else◌, List, [], ◌∷◌, length, take, drop}
use Rattle.krb_der.specs.Octets.{when, number, integer_octets, integer_value, last_or_zero}
use Rattle.krb_der.specs.declared.profile.Profile.{Profile}
use Rattle.krb_der.specs.declared.why.Why.{Why}
use Rattle.krb_der.specs.declared.why.Why.TheVariants as why
use Rattle.krb_der.specs.declared.verdict.Verdict.{Verdict}
use Rattle.krb_der.specs.declared.verdict.Verdict.TheVariants as verdict
use Rattle.krb_msg.specs.Grammar.{messages}
use Rattle.krb_msg.specs.Term.{Term, Fields, Integer, Text, Octets, Time, Bits, Sequence, SequenceOf, Tagged, Application, End, Required, Optional, tag_of}

-- The outcome for an item, or for the contents octets of a container: more octets are needed, the octet at an offset is refused, or it is complete after a count of octets.
pub data Outcome : Type 0 where
  Open : Outcome
  Bad : (offset : ℕ) → (reason : Why) → Outcome
  Done : (count : ℕ) → Outcome

-- the outcome of a part that comes after a number of octets
abbrev pub after : ℕ → Outcome → Outcome
after before Open = Open
after before (Bad offset reason) = Bad (before + offset) reason
after before (Done count) = Done (before + count)

-- goes on after a part with its count of octets if it is done; the part comes after a number of octets
abbrev pub then_after : ℕ → Outcome → (ℕ → Outcome) → Outcome
then_after before Open next = Open
then_after before (Bad offset reason) next = Bad (before + offset) reason
then_after before (Done count) next = next count

-- The identifier octet and the length octets of an item: more are needed, one is refused, or this is their number and that of the contents octets (X.690, 8.1.2 and 8.1.3).
pub data Head : Type 0 where
  Partial : Head
  Refused : (offset : ℕ) → (reason : Why) → Head
  Got : (header contents : ℕ) → Head

abbrev pub fitting : ℕ → ℕ → ℕ → Head
fitting room header contents = if nat_lt room (header + contents) then Refused (header - 1) why.Overrun else Got header contents

-- the length octets of the long form after the first, of which there are k (X.690, 8.1.3.5 and 10.1)
abbrev pub long_head : ℕ → ℕ → List ℕ → Head
long_head room k [] = Partial
long_head room k (first ∷ octets) =
    if (first == 0) || ((k == 1) && nat_lt first 128) then Refused 2 why.LengthNotMinimal
    else if nat_lt (length (first ∷ octets)) k then Partial
    else fitting room (2 + k) (number (take k (first ∷ octets)))

-- the head of an item in a room, from its first length octet on
abbrev pub short_head : ℕ → ℕ → List ℕ → Head
short_head room octet octets =
    if nat_lt octet 0x80 then fitting room 2 octet
    else if octet == 0x80 then Refused 1 why.Indefinite
    else if nat_lt 0x84 octet then Refused 1 why.LengthWide
    else if nat_lt room (2 + (octet - 0x80)) then Refused 1 why.Overrun
    else long_head room (octet - 0x80) octets

-- and from its identifier octet on
abbrev pub head : ℕ → List ℕ → Head
head room [] = Partial
head room (tag ∷ []) = Partial
head room (tag ∷ octet ∷ octets) = short_head room octet octets

abbrev pub int_le : ℤ → ℤ → Bool
int_le (pos a) (pos b) = nat_le a b
int_le (pos a) (negsuc b) = false
int_le (negsuc a) (pos b) = true
int_le (negsuc a) (negsuc b) = nat_le b a

-- whether the term has values of this many contents octets
abbrev pub has_size : Term → ℕ → Bool
has_size (Integer low high) contents = nat_lt 0 contents && nat_le contents (max (length (integer_octets low)) (length (integer_octets high)))
has_size Time contents = contents == 15
has_size (Bits least) contents = nat_lt 0 contents && nat_le least (8 * (contents - 1))
has_size (SequenceOf empty term) contents = empty || nat_lt 0 contents
has_size term contents = true

-- the first nine bits are equal (X.690, 8.3.2)
abbrev pub is_padded : List ℕ → Bool
is_padded (first ∷ second ∷ octets) = ((first == 0) && nat_lt second 128) || ((first == 255) && nat_le 128 second)
is_padded octets = false

abbrev pub integer_contents : ℤ → ℤ → ℕ → List ℕ → Outcome
integer_contents low high contents octets =
    if is_padded octets then Bad 1 why.IntegerNotMinimal
    else if nat_lt (length octets) contents then Open
    else if int_le low (integer_value octets) && int_le (integer_value octets) high then Done contents
    else Bad (contents - 1) why.Range

-- octets from an index on, each of which is refused unless it passes a test at its index
abbrev pub each_contents : (ℕ → ℕ → Bool) → Why → ℕ → ℕ → List ℕ → Outcome
each_contents passes reason contents place [] = if nat_lt place contents then Open else Done contents
each_contents passes reason contents place (octet ∷ octets) =
    if passes place octet then each_contents passes reason contents (place + 1) octets else Bad place reason

-- whether an octet may be at an index of a string
abbrev pub text_octet : ℕ → ℕ → ℕ → Bool
text_octet greatest place octet = nat_le octet greatest

-- whether an octet may be at an index of a time: fourteen digits and `Z` (RFC 4120, 5.2.3)
abbrev pub time_octet : ℕ → ℕ → Bool
time_octet place octet = if nat_lt place 14 then nat_le 48 octet && nat_le octet 57 else octet == 90

-- a number of unused bits that leaves enough bits, and unused bits that are clear (X.690, 8.6.2 and 11.2)
abbrev pub bits_contents : ℕ → ℕ → List ℕ → Outcome
bits_contents least contents [] = Open
bits_contents least contents (unused ∷ octets) =
    if nat_lt 7 unused || nat_lt (8 * (contents - 1)) (least + unused) then Bad 0 why.Bits
    else if nat_lt (length (unused ∷ octets)) contents then Open
    else if last_or_zero octets % 2 ^ unused == 0 then Done contents
    else Bad (contents - 1) why.Bits

abbrev pub any_contents : ℕ → List ℕ → Outcome
any_contents contents octets = if nat_lt (length octets) contents then Open else Done contents

-- items one after another until the room is full; the first number is a bound on how many
abbrev pub items_contents : (ℕ → List ℕ → Outcome) → ℕ → ℕ → ℕ → List ℕ → Outcome
items_contents one bound before zero octets = Done before
items_contents one zero before (suc room) octets = Open
items_contents one (suc bound) before (suc room) octets =
    then_after before (one (suc room) octets) (λ count. items_contents one bound (before + count) (suc room - count) (drop count octets))

-- exactly one item, as an explicit tag has (X.690, 8.14)
abbrev pub only_contents : ℕ → ℕ → Outcome → Outcome
only_contents before zero inner = Bad (before - 1) why.Missing
only_contents before (suc room) inner = after before inner

abbrev pub of_head : Term → Head → ℕ → Bool → List ℕ → (ℕ → ℕ → List ℕ → Outcome) → Outcome
of_head term Partial room sole octets contents_of = Open
of_head term (Refused offset reason) room sole octets contents_of = Bad offset reason
of_head term (Got header contents) room sole octets contents_of =
    if sole && nat_lt (header + contents) room then Bad (header - 1) why.Loose
    else if has_size term contents then contents_of header contents (take contents (drop header octets))
    else Bad (header - 1) why.Size

-- An item of a term in a room of at least one octet, which it has to fill if it is the sole item there. The last function judges its contents octets.
abbrev pub item_with : (ℕ → ℕ → List ℕ → Outcome) → Term → ℕ → Bool → List ℕ → Outcome
item_with contents_of term room sole [] = Open
item_with contents_of term room sole (octet ∷ octets) =
    when (octet == tag_of term)
    (λ _. if room == 1 then Bad 0 why.Overrun else of_head term (head room (octet ∷ octets)) room sole (octet ∷ octets) contents_of)
    (λ _. Bad 0 why.Tag)

abbrev mutual
  -- the contents octets of an item, from those present, with their number; they come after a number of octets
  pub contents_outcome : Term → ℕ → ℕ → List ℕ → Outcome
  contents_outcome (Integer low high) before room octets = after before (integer_contents low high room octets)
  contents_outcome (Text greatest) before room octets = after before (each_contents (text_octet greatest) why.Charset room 0 octets)
  contents_outcome Octets before room octets = after before (any_contents room octets)
  contents_outcome Time before room octets = after before (each_contents time_octet why.Time room 0 octets)
  contents_outcome (Bits least) before room octets = after before (bits_contents least room octets)
  contents_outcome (Sequence fields) before room octets = fields_outcome fields before room octets
  contents_outcome (SequenceOf empty term) before room octets = items_contents (λ left. item_with (contents_outcome term) term left false) room before room octets
  contents_outcome (Tagged index term) before room octets = only_contents before room (item_with (contents_outcome term) term room true octets)
  contents_outcome (Application number term) before room octets = only_contents before room (item_with (contents_outcome term) term room true octets)

  -- the components of a SEQUENCE that are left, in the room that is left (X.690, 8.9)
  pub fields_outcome : Fields → ℕ → ℕ → List ℕ → Outcome
  fields_outcome End before zero octets = Done before
  fields_outcome End before (suc room) [] = Open
  fields_outcome End before (suc room) (octet ∷ octets) = Bad before why.Tag
  fields_outcome (Required term fields) before zero octets = Bad (before - 1) why.Missing
  fields_outcome (Required term fields) before (suc room) octets =
      then_after before (item_with (contents_outcome term) term (suc room) false octets) (λ count. fields_outcome fields (before + count) (suc room - count) (drop count octets))
  fields_outcome (Optional term fields) before zero octets = fields_outcome fields before zero octets
  fields_outcome (Optional term fields) before (suc room) [] = Open
  fields_outcome (Optional term fields) before (suc room) (octet ∷ octets) =
      when (octet == tag_of term)
      (λ _. then_after before (item_with (contents_outcome term) term (suc room) false (octet ∷ octets)) (λ count. fields_outcome fields (before + count) (suc room - count) (drop count (octet ∷ octets))))
      (λ _. fields_outcome fields before (suc room) (octet ∷ octets))

-- an item of the term, from its octets present
abbrev pub item_outcome : Term → ℕ → Bool → List ℕ → Outcome
item_outcome term = item_with (contents_outcome term) term

-- a message that is one of these terms, and has this many octets
abbrev pub message_outcome : List Term → ℕ → List ℕ → Outcome
message_outcome terms room [] = Open
message_outcome [] room (octet ∷ octets) = Bad 0 why.Tag
message_outcome (term ∷ terms) room (octet ∷ octets) =
    when (octet == tag_of term) (λ _. item_outcome term room true (octet ∷ octets)) (λ _. message_outcome terms room (octet ∷ octets))

-- the verdict of an outcome: an offset in a message is a place, and a message that is done is whole
abbrev pub verdict_of : Outcome → Verdict
verdict_of Open = verdict.Open
verdict_of (Bad offset reason) = verdict.Refused (record { place = offset; why = reason })
verdict_of (Done count) = verdict.Whole

-- The judgement of the octets present of a message of n octets, which is one of these terms.
abbrev pub judgement_by : List Term → ℕ → List ℕ → Verdict
judgement_by terms n octets = verdict_of (message_outcome terms n octets)

-- The judgement by the messages of a profile.
abbrev pub judgement : Profile → ℕ → List ℕ → Verdict
judgement profile = judgement_by (messages profile)

-- The judgement of the octets present of an item of a term, which alone has n octets.
abbrev pub term_judgement : Term → ℕ → List ℕ → Verdict
term_judgement term n octets = verdict_of (item_outcome term n true octets)
