-- What each message and each Ticket begins with: the head of an item, that of the SEQUENCE in it, and the tag of its first field.
use Rattle.std.proofs.Common.{ℕ, ◌+◌, ◌^◌, ◌≡◌, ◌<◌, ◌≤◌, ◌&&◌, ◌⊎◌, inl, inr, nat_le, nat_lt, Bool, true, false, List, [], ◌∷◌, ◌++◌, length, refl, sym, subst, ap, ◌∙◌, arith}
use Rattle.std.proofs.lemmas.Bool.{and_parts, cases_lt, leb-true, ltb-true}
use Rattle.std.proofs.lemmas.Bool.Decides.{nat_tests}
use Rattle.std.specs.List.{list_all}
use Rattle.std.specs.Option.{is_some}
use Rattle.krb_der.specs.Octets.{AreOctets, item, length_octets, number}
use Rattle.krb_der.specs.inner.Items.{length-item, length_octets-long, length_octets-short}
use Rattle.krb_der.specs.inner.Numbers.{spelled as digits_of}
use Rattle.krb_der.specs.declared.profile.Profile.{Profile}
use Rattle.krb_der.specs.declared.profile.Profile.TheVariants.{Lenient, Strict}
use Rattle.krb_der.specs.declared.verdict.Verdict.TheVariants.{Whole}
use Rattle.krb_input.specs.Characters.{is_text}
use Rattle.krb_input.specs.Octets.{first_no_text, is_tag}
use Rattle.krb_msg.specs.Grammar.{messages, ticket}
use Rattle.krb_msg.specs.Judgement.{judgement, term_judgement}
use Rattle.krb_msg.specs.Profiles.{profile_term}
use Rattle.krb_msg.specs.Shape.{IsOneOf}
use Rattle.krb_msg.specs.Term.{Term, der_of_fields, Application, Required, Sequence, Tagged, Value, der}
use Rattle.krb_msg.proofs.Grammars.{whole_is_one_of, whole_is_value}
use Rattle.krb_msg.proofs.Lengths.{long_length}
use Rattle.krb_laws.proofs.Octets.{no_text_after, no_text_among}
use Rattle.krb_laws.specs.Spelled.{AreMessageOrTicket}

-- an item of APPLICATION with at least a number, which has a SEQUENCE of which the first field is [index]
pub record IsNested (least : ℕ) (octets : List ℕ) : Type 0 where
  pub number : ℕ
  pub index : ℕ
  pub contents : List ℕ
  pub rest : List ℕ
  pub is_tag : is_tag (0x60 + number) ≡ true
  pub enough : least ≤ number
  pub few : index < 31
  pub form : octets ≡ item (0x60 + number) (item 0x30 (item (0xA0 + index) contents ++ rest))

-- ---- terms
-- an APPLICATION of at least a number, which has a SEQUENCE of which the first field is there
abbrev nests : ℕ → Term → Bool
nests least (Application number (Sequence (Required (Tagged index term) fields))) = is_tag (0x60 + number) && nat_le least number && nat_lt index 31
nests least term = false

nested_der : (least : ℕ) (term : Term) → nests least term ≡ true → (value : Value term) → IsNested least (der term value)
nested_der least (Application number (Sequence (Required (Tagged index term) fields))) is value =
    let outer = and_parts (is_tag (0x60 + number) && nat_le least number) (nat_lt index 31) is in
    let inner = and_parts (is_tag (0x60 + number)) (nat_le least number) outer.0 in
    record { number = number; index = index; contents = der term value.0; rest = der_of_fields fields value.1; is_tag = inner.0; enough = leb-true least number inner.1; few = ltb-true index 31 outer.1; form = refl }
nested_der least term is value = absurd (cc)

all_nest : (profile : Profile) → list_all (nests 10) (messages profile) ≡ true
all_nest Lenient = refl
all_nest Strict = refl

ticket_nests : (profile : Profile) → nests 1 (profile_term profile false ticket) ≡ true
ticket_nests Lenient = refl
ticket_nests Strict = refl

one_nests : (term : Term) (terms : List Term) → list_all (nests 10) terms ≡ true → IsOneOf term terms → nests 10 term ≡ true
one_nests term [] all one = absurd one
one_nests term (first ∷ terms) all (inl same) = ap (nests 10) same ∙ (and_parts (nests 10 first) (list_all (nests 10) terms) all).0
one_nests term (first ∷ terms) all (inr one) = one_nests term terms (and_parts (nests 10 first) (list_all (nests 10) terms) all).1 one

pub message_nested : (profile : Profile) (octets : List ℕ) → AreOctets octets → judgement profile (length octets) octets ≡ Whole → IsNested 10 octets
message_nested profile octets are is =
    let one = whole_is_one_of (messages profile) (length octets) octets are (omega arith) is in
    subst (IsNested 10) (sym one.is_der.form) (nested_der 10 one.term (one_nests one.term (messages profile) (all_nest profile) one.one_of) one.is_der.value)

ticket_nested : (profile : Profile) (octets : List ℕ) → AreOctets octets → term_judgement (profile_term profile false ticket) (length octets) octets ≡ Whole → IsNested 1 octets
ticket_nested profile octets are is =
    let one = whole_is_value (profile_term profile false ticket) octets are is in
    subst (IsNested 1) (sym one.form) (nested_der 1 (profile_term profile false ticket) (ticket_nests profile) one.value)

pub whole_nested : (profile : Profile) (octets : List ℕ) → AreOctets octets → AreMessageOrTicket profile octets → IsNested 1 octets
whole_nested profile octets are (inl is) =
    let nested = message_nested profile octets are is in
    record { number = nested.number; index = nested.index; contents = nested.contents; rest = nested.rest; is_tag = nested.is_tag; enough = omega (arith, nested.enough); few = nested.few; form = nested.form }
whole_nested profile octets are (inr is) = ticket_nested profile octets are is

-- ---- heads
-- the second and the third octet: a length and the tag of a SEQUENCE, or a length of two octets or more
abbrev pub IsHead : (second third : ℕ) → Type 0
IsHead second third = (third ≡ 0x30) ⊎ ((128 < second) × (second ≤ 132) × (second ≡ 129 → 128 ≤ third))

-- octets that begin as such an item: with a tag, a length, and what follows that
pub record Headed (octets : List ℕ) : Type 0 where
  pub first : ℕ
  pub second : ℕ
  pub third : ℕ
  pub others : List ℕ
  pub form : octets ≡ first ∷ second ∷ third ∷ others
  pub is_tag : is_tag first ≡ true
  pub is_head : IsHead second third

by_digits : (first second size : ℕ) (digits rest text octets : List ℕ) → second ≡ 128 + length digits → 0 < length digits → length digits ≤ 4 → number digits ≡ size → 128 ≤ size → text ≡ digits ++ rest → octets ≡ first ∷ second ∷ text →
    is_tag first ≡ true → Headed octets
by_digits first second size [] rest text octets second_is some few number_is large text_is form is = absurd (omega arith)
by_digits first second size (third ∷ []) rest text octets second_is some few number_is large text_is form is = record {
  first = first;
  second = second;
  third = third;
  others = rest;
  form = form ∙ ap (λ t. first ∷ second ∷ t) text_is;
  is_tag = is;
  is_head = inr (omega arith, omega arith, λ _. omega arith);
}
by_digits first second size (third ∷ fourth ∷ digits) rest text octets second_is some few number_is large text_is form is = record {
  first = first;
  second = second;
  third = third;
  others = fourth ∷ (digits ++ rest);
  form = form ∙ ap (λ t. first ∷ second ∷ t) text_is;
  is_tag = is;
  is_head = inr (omega arith, omega arith, λ one. absurd (omega arith));
}

-- an item that holds a SEQUENCE
sequence_headed : (tag : ℕ) (fields octets : List ℕ) → is_tag tag ≡ true → octets ≡ item tag (item 0x30 fields) → length octets < 2 ^ 31 → Headed octets
sequence_headed tag fields octets is form small = by_length (cases_lt (length (item 0x30 fields)) 128)
  where
    by_length : (length (item 0x30 fields) < 128) ⊎ (128 ≤ length (item 0x30 fields)) → Headed octets
    by_length (inl less) = record {
      first = tag;
      second = length (item 0x30 fields);
      third = 0x30;
      others = length_octets (length fields) ++ fields;
      form = form ∙ ap (λ l. tag ∷ (l ++ item 0x30 fields)) (length_octets-short (length (item 0x30 fields)) less);
      is_tag = is;
      is_head = inl refl;
    }
    by_length (inr more) =
        let inner : List ℕ = item 0x30 fields in
        let digits : List ℕ = digits_of 256 (length inner) in
        let long_form : length_octets (length inner) ≡ (128 + length digits) ∷ digits = length_octets-long (length inner) more in
        let long = long_length (128 + length digits) (digits ++ inner) (length inner) inner (omega arith) (omega (arith, small, ap length form, length-item tag inner)) (ap (λ l. l ++ inner) (sym long_form)) in
        by_digits tag (128 + length digits) (length inner) long.digits inner (digits ++ inner) octets long.first_is long.some long.few long.value long.large long.parts (form ∙ ap (λ l. tag ∷ (l ++ inner)) long_form) is

pub headed : (octets : List ℕ) → IsNested 1 octets → length octets < 2 ^ 31 → Headed octets
headed octets nested small = sequence_headed (0x60 + nested.number) (item (0xA0 + nested.index) nested.contents ++ nested.rest) octets nested.is_tag nested.form small

-- ---- the tag of the first field
no_text_tag : (index : ℕ) → index < 31 → is_text (0xA0 + index) ≡ false
no_text_tag index few = grind (arith, nat_tests)

pub nested_no_text : (octets : List ℕ) → IsNested 1 octets → is_some (first_no_text octets) ≡ true
nested_no_text octets nested =
    let field : List ℕ = length_octets (length nested.contents) ++ nested.contents ++ nested.rest in
    let fields : List ℕ = item (0xA0 + nested.index) nested.contents ++ nested.rest in
    let inner : List ℕ = item 0x30 fields in
    let there : is_some (first_no_text fields) ≡ true = no_text_among [] (0xA0 + nested.index) field (no_text_tag nested.index nested.few) in
    ap (λ o. is_some (first_no_text o)) nested.form
    ∙ no_text_after ((0x60 + nested.number) ∷ length_octets (length inner)) inner (no_text_after (0x30 ∷ length_octets (length fields)) fields there)
