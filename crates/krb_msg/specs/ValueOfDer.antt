-- The value of a term whose DER octets are. Of octets that are no value's DER this says nothing: whether they are is judged (`Judgement`).
use Rattle.std.specs.Prelude.{ℕ, zero, suc, List, [], ◌∷◌, length, map, take, drop, Some, None}
use Rattle.krb_der.specs.Octets.{when, begins_with, integer_value}
use Rattle.krb_msg.specs.Term.{Term, Fields, Integer, Text, Octets, Time, Bits, Sequence, SequenceOf, Tagged, Application, End, Required, Optional, tag_of, Value, Values}
use Rattle.krb_msg.specs.Judgement.{Head, Got, head}

-- octets split after their first item: its contents octets, and the octets after it
pub record SplitItem : Type 0 where
  pub contents : List ℕ
  pub rest : List ℕ

abbrev pub split_at_head : Head → List ℕ → SplitItem
split_at_head (Got header contents) octets = record { contents = take contents (drop header octets); rest = drop contents (drop header octets) }
split_at_head other octets = record { contents = []; rest = [] }

abbrev pub split_item : List ℕ → SplitItem
split_item octets = split_at_head (head (length octets) octets) octets

-- the contents octets of items one after another; the first number is a bound on how many
abbrev pub split_items : ℕ → List ℕ → List (List ℕ)
split_items bound [] = []
split_items zero (octet ∷ octets) = []
split_items (suc bound) (octet ∷ octets) = (split_item (octet ∷ octets)).contents ∷ split_items bound (split_item (octet ∷ octets)).rest

abbrev pub bits_of : List ℕ → ℕ × List ℕ
bits_of [] = (0, [])
bits_of (unused ∷ octets) = (unused, octets)

abbrev mutual
  -- the value of an item with these contents
  pub value_of : (term : Term) → List ℕ → Value term
  value_of (Integer low high) contents = integer_value contents
  value_of (Text greatest) contents = contents
  value_of Octets contents = contents
  value_of Time contents = contents
  value_of (Bits least) contents = bits_of contents
  value_of (Sequence fields) contents = values_of fields contents
  value_of (SequenceOf empty term) contents = map (value_of term) (split_items (length contents) contents)
  value_of (Tagged index term) contents = value_of term (split_item contents).contents
  value_of (Application number term) contents = value_of term (split_item contents).contents

  pub values_of : (fields : Fields) → List ℕ → Values fields
  values_of End octets = tt
  values_of (Required term fields) octets = (value_of term (split_item octets).contents, values_of fields (split_item octets).rest)
  values_of (Optional term fields) octets =
      when (begins_with (tag_of term) octets)
      (λ _. (Some (value_of term (split_item octets).contents), values_of fields (split_item octets).rest))
      (λ _. (None, values_of fields octets))

-- the value whose DER these octets are
abbrev pub value_of_der : (term : Term) → List ℕ → Value term
value_of_der term octets = value_of term (split_item octets).contents

abbrev pub first_or_zero : List ℕ → ℕ
first_or_zero [] = 0
first_or_zero (octet ∷ octets) = octet
