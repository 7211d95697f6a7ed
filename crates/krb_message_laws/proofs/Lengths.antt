-- The text of a message has at most 8 times as many octets as its DER, and 64 KiB.
use Rattle.std.proofs.Common.{◌≡◌, ℕ, ◌+◌, ◌*◌, ◌^◌, ◌<◌, ◌≤◌, ◌⊎◌, inl, inr, true, false, Bool, cond, List, [], ◌∷◌, ◌++◌, length, length-append, map, Option, Some, None, option_map, codes, decimal, refl, sym, ◌∙◌, ap, subst, arith}
use Rattle.std.specs.Prelude.{◌&&◌, nat_le, if◌then◌else◌}
use Rattle.std.proofs.lemmas.Bool.{and_parts, cases_eq, leb-true}
use Rattle.std.proofs.lemmas.Fmt.{length-decimal-le, length_signed_le}
use Rattle.std.specs.List.{AllByRecursion, flat_map}
use Rattle.hex.specs.Hex.{encode_lower, encode_with}
use Rattle.json.specs.Json.{Json, Members, no_members, member, object, string}
use Rattle.json.specs.Value.{items_of}
use Rattle.json.specs.Print.{print_from, token_text, escape, escape_byte, quoted, separator, begins, ends}
use Rattle.json.specs.Token.{Token}
use Rattle.json.specs.Token as token
use Rattle.json.specs.Tree.{json_tokens, items_tokens, members_tokens, room}
use Rattle.json.proofs.Printed.Strings.{escape_byte_plain}
use Rattle.json.proofs.Printed.Trees.{room-append}
use Rattle.krb_der.specs.Octets.{AreOctets, integer_octets, item, length_octets, octets_of_option}
use Rattle.krb_der.specs.inner.Items.{length_octets-long, length_octets-short}
use Rattle.krb_der.specs.inner.Numbers.{IsShortestInteger-integer_octets}
use Rattle.std.proofs.lemmas.Bool.{cases_lt}
use Rattle.krb_der.specs.declared.profile.Profile.{Profile}
use Rattle.krb_der.specs.declared.profile.Profile.TheVariants as profiles
use Rattle.krb_msg.specs.Term.{Term, Fields, Integer, Text, Octets, Time, Bits, Sequence, SequenceOf, Tagged, Application, End, Required, Optional, Value, Values, Fits, AllFit, IfPresent, der, der_of_fields}
use Rattle.krb_msg.specs.Views.{kind_name, kind_of, kind_term, kind_term_in, message_der, message_value, message_value_in, IsInProfile}
use Rattle.krb_msg.specs.declared.message.Kind.{Kind}
use Rattle.krb_msg.specs.declared.message.Kind.TheVariants as kind
use Rattle.krb_msg.specs.declared.message.Message.{Message}
use Rattle.krb_msg.proofs.Integers.{shortest_some}
use Rattle.krb_msg.proofs.Judged.{message_der_in}
use Rattle.krb_judge.specs.FieldNames.{field_at, names_of_kind}
use Rattle.krb_judge.specs.declared.locating.names.Names.{Names}
use Rattle.krb_json.specs.Laws.{is_named, are_named}
use Rattle.krb_json.specs.Lines.{message_text}
use Rattle.krb_json.specs.Objects.{bits_json, json, member_if, members_of, message_json}
use Rattle.krb_json.specs.Spelling.{bit_count, shown, shown_octet, is_shown_itself}
use Rattle.krb_json.proofs.Back.{First, first, IsShort, item-longer, magnitude}
use Rattle.krb_json.proofs.KindTexts.{named}
use Rattle.krb_json.proofs.Messages.{json-in, short-in}
use Rattle.krb_json.proofs.Printable.{IsPrintable, printable-hex, printable-shown, printable-time}

-- ---- what is printed of tokens
comma : (b : Bool) → length {A = ℕ} (cond b (44 ∷ []) []) ≤ 1
comma true = omega arith
comma false = omega arith

printed : (after : Bool) (ts : List Token) → length (print_from after ts) ≤ room ts
unfolding print_from
printed after [] = omega arith
printed after (t ∷ ts) =
    let all = length-append (separator after t) (token_text t ++ print_from (ends t) ts) in
    let both = length-append (token_text t) (print_from (ends t) ts) in
    omega (arith, all, both, comma (after && begins t), printed (ends t) ts)

-- ---- strings
escaped_quote : length (escape_byte 34) ≤ 2
unfolding escape_byte
escaped_quote = omega arith

escaped_backslash : length (escape_byte 92) ≤ 2
unfolding escape_byte
escaped_backslash = omega arith

escaped_one : (x : ℕ) → (32 ≤ x) × (x ≤ 126) → length (escape_byte x) ≤ 2
escaped_one x range = by (cases_eq x 34) (cases_eq x 92)
  where
    by : (x ≡ 34) ⊎ (x ≡ 34 → ⊥) → (x ≡ 92) ⊎ (x ≡ 92 → ⊥) → length (escape_byte x) ≤ 2
    by (inl e) other = subst (λ y. length (escape_byte y) ≤ 2) (sym e) escaped_quote
    by (inr quote) (inl e) = subst (λ y. length (escape_byte y) ≤ 2) (sym e) escaped_backslash
    by (inr quote) (inr backslash) = omega (arith, ap length (escape_byte_plain x quote backslash range.0))

escaped : (s : List ℕ) → IsPrintable s → length (escape s) ≤ 2 * length s
escaped [] p = omega arith
escaped (x ∷ s) p = omega (arith, length-append (escape_byte x) (escape s), escaped_one x p.0, escaped s p.1)

string-room : (s : List ℕ) → IsPrintable s → room (json_tokens (string s)) ≤ 2 * length s + 3
string-room s p = omega (arith, length-append (escape s) (34 ∷ []), escaped s p)

hex-length : (octets : List ℕ) → length (encode_lower octets) ≡ 2 * length octets
unfolding encode_with
hex-length [] = refl
hex-length (octet ∷ octets) = omega (arith, hex-length octets)

shown_one : (plain : Bool) (octet : ℕ) → length (if plain then octet ∷ [] else codes "\\x" ++ encode_lower (octet ∷ [])) ≤ 4
unfolding encode_with
shown_one true octet = omega arith
shown_one false octet = omega arith

shown-length : (octets : List ℕ) → length (shown octets) ≤ 4 * length octets
shown-length [] = omega arith
shown-length (octet ∷ octets) = omega (arith, length-append (shown_octet octet) (shown octets), shown_one (is_shown_itself octet) octet, shown-length octets)

-- ---- items
some_length : (n : ℕ) → 1 ≤ length (length_octets n)
some_length n =
    elim (cases_lt n 128) [
      | inl l ↦ rw (length_octets-short n l) (omega arith)
      | inr l ↦ rw (length_octets-long n l) (omega arith)
    ]

item_long : (tag : ℕ) (contents : List ℕ) → 2 + length contents ≤ length (item tag contents)
item_long tag contents = omega (arith, length-append (length_octets (length contents)) contents, some_length (length contents))

-- ---- terms: the text of a value has at most 8 octets for each of its DER, and so many more, but so many less
key_room : Names → (index : ℕ) → ℕ
key_room names index = length (token_text (token.key (field_at names index).name)) + 1

mutual
  more : Term → Names → ℕ
  more (Bits least) names = 23
  more (Sequence fields) names = more_fields fields names 0
  more (Tagged index term) names = more term names
  more (Application number term) names = more term names
  more other names = 0

  more_fields : Fields → Names → (index : ℕ) → ℕ
  more_fields End names index = 0
  more_fields (Required term fields) names index = key_room names index + more term (field_at names index).inside + more_fields fields names (index + 1)
  more_fields (Optional term fields) names index = more_fields fields names (index + 1)

mutual
  less : Term → ℕ
  less (Integer low high) = 3
  less (Bits least) = 0
  less (Sequence fields) = 12 + less_fields fields
  less (SequenceOf empty term) = 12
  less (Tagged index term) = 16 + less term
  less (Application number term) = 16 + less term
  less other = 13

  less_fields : Fields → ℕ
  less_fields End = 0
  less_fields (Required term fields) = less term + less_fields fields
  less_fields (Optional term fields) = less_fields fields

-- and what may be absent or come again has no more
mutual
  is_slim : Term → Names → Bool
  is_slim (Sequence fields) names = are_slim fields names 0
  is_slim (SequenceOf empty term) names = nat_le (more term names) (less term) && is_slim term names
  is_slim (Tagged index term) names = is_slim term names
  is_slim (Application number term) names = is_slim term names
  is_slim other names = true

  are_slim : Fields → Names → (index : ℕ) → Bool
  are_slim End names index = true
  are_slim (Required term fields) names index = is_slim term (field_at names index).inside && are_slim fields names (index + 1)
  are_slim (Optional term fields) names index =
      nat_le (key_room names index + more term (field_at names index).inside) (less term) && (is_slim term (field_at names index).inside && are_slim fields names (index + 1))

slim : (profile : Profile) (k : Kind) → is_slim (kind_term_in profile k) (names_of_kind k) ≡ true
unfolding is_slim are_slim more more_fields less less_fields key_room escape_byte
slim profiles.Lenient kind.AsReq = refl
slim profiles.Strict kind.AsReq = refl
slim other another = refl

few_more : (profile : Profile) (k : Kind) → nat_le (length (token_text (token.key (kind_name k))) + more (kind_term_in profile k) (names_of_kind k)) 65000 ≡ true
unfolding more more_fields key_room escape_byte
few_more profiles.Lenient kind.AsReq = refl
few_more profiles.Strict kind.AsReq = refl
few_more other another = refl

-- ---- values
bits-room : (bits : ℕ × List ℕ) → AreOctets bits.1 → length bits.1 < 2 ^ 31 → room (json_tokens (bits_json bits)) ≤ 4 * length bits.1 + 47
unfolding escape_byte
bits-room bits octets short =
    let digits : length (decimal (bit_count bits)) ≤ 20 = length-decimal-le 20 (bit_count bits) (omega arith) (omega (arith, short)) (omega (arith, short)) in
    let text : room (json_tokens (string (encode_lower bits.1))) ≤ 2 * length (encode_lower bits.1) + 3 = string-room (encode_lower bits.1) (printable-hex bits.1 octets) in
    omega (arith, digits, text, hex-length bits.1)

items-room : {A : Type 0} (to : A → Json) (from : A → List ℕ) (P : A → Type 0) → ((a : A) → P a → room (json_tokens (to a)) ≤ 8 * length (from a)) → (values : List A) → AllByRecursion P values → room (items_tokens (items_of (map to values))) ≤ 8 * length (flat_map from values) + 2
items-room to from P one [] each = omega arith
items-room to from P one (v ∷ vs) each =
    omega (arith, room-append (json_tokens (to v)) (items_tokens (items_of (map to vs))), one v each.0, items-room to from P one vs each.1, length-append (from v) (flat_map from vs))

fit-and-short : (term : Term) (values : List (Value term)) → AllByRecursion (Fits term) values → length (flat_map (der term) values) < 2 ^ 31 → AllByRecursion (λ v. Fits term v × IsShort term v) values
fit-and-short term [] fit short = tt
fit-and-short term (v ∷ vs) fit short =
    let both = length-append (der term v) (flat_map (der term) vs) in
    ((fit.0, omega (arith, both, short)), fit-and-short term vs fit.1 (omega (arith, both, short)))

member-room : (names : Names) (index : ℕ) (j : Json) (ms : Members) → room (members_tokens (member (field_at names index).name j ms)) ≡ key_room names index + room (json_tokens j) + room (members_tokens ms)
unfolding key_room
member-room names index j ms = omega (arith, room-append (json_tokens j) (members_tokens ms))

abbrev HasRoom : (term : Term) → Names → Value term → Type 0
HasRoom term names value = room (json_tokens (json term names value)) + less term ≤ 8 * length (der term value) + more term names

optional-room : (term : Term) (names : Names) (index : ℕ) (ms : Members) → key_room names index + more term (field_at names index).inside ≤ less term → ((value : Value term) → Fits term value → IsShort term value → HasRoom term (field_at names index).inside value) → (o : Option (Value term)) → IfPresent (Fits term) o → length (octets_of_option (der term) o) < 2 ^ 31 → room (members_tokens (member_if (field_at names index).name (option_map (json term (field_at names index).inside) o) ms)) ≤ 8 * length (octets_of_option (der term) o) + room (members_tokens ms)
optional-room term names index ms few one None fit short = omega arith
optional-room term names index ms few one (Some value) fit short =
    omega (arith, member-room names index (json term (field_at names index).inside value) ms, one value fit short, few)

mutual
  unfolding is_slim are_slim more more_fields less less_fields

  term-room : (term : Term) (names : Names) → is_named term names ≡ true → is_slim term names ≡ true → (value : Value term) → Fits term value → IsShort term value → HasRoom term names value
  term-room (Integer low high) names named light value fit short =
      let text = length_signed_le 19 value (omega (arith, magnitude low high value named fit.0 fit.1)) (magnitude low high value named fit.0 fit.1) in
      omega (arith, text, item_long 0x02 (integer_octets value), shortest_some (integer_octets value) (IsShortestInteger-integer_octets value))
  term-room (Text greatest) names named light octets fit short =
      omega (arith, string-room (shown octets) (printable-shown octets fit.0), shown-length octets, item_long 0x1B octets)
  term-room Octets names named light octets fit short =
      omega (arith, string-room (encode_lower octets) (printable-hex octets fit), hex-length octets, item_long 0x04 octets)
  term-room Time names named light octets fit short = omega (arith, string-room octets (printable-time 14 octets fit), item_long 0x18 octets)
  term-room (Bits least) names named light bits fit short =
      omega (arith, bits-room bits fit.1 (omega (arith, item-longer 0x03 (bits.0 ∷ bits.1), short)), item_long 0x03 (bits.0 ∷ bits.1))
  term-room (Sequence fields) names named light values fit short =
      let all = fields-room fields names 0 named light values fit (omega (arith, item-longer 0x30 (der_of_fields fields values), short)) in
      omega (arith, all, item_long 0x30 (der_of_fields fields values))
  term-room (SequenceOf empty term) names named light values fit short =
      let both = and_parts (nat_le (more term names) (less term)) (is_slim term names) light in
      let few : more term names ≤ less term = leb-true (more term names) (less term) both.0 in
      let all = items-room (json term names) (der term) (λ v. Fits term v × IsShort term v) (λ v p. omega (arith, few, term-room term names named both.1 v p.0 p.1)) values
      (fit-and-short term values fit.1 (omega (arith, item-longer 0x30 (flat_map (der term) values), short))) in
      omega (arith, all, item_long 0x30 (flat_map (der term) values))
  term-room (Tagged index term) names named light value fit short =
      omega (arith, term-room term names named light value fit (omega (arith, item-longer (0xA0 + index) (der term value), short)), item_long (0xA0 + index) (der term value))
  term-room (Application number term) names named light value fit short =
      omega (arith, term-room term names named light value fit (omega (arith, item-longer (0x60 + number) (der term value), short)), item_long (0x60 + number) (der term value))

  fields-room : (fields : Fields) (names : Names) (index : ℕ) → are_named fields names index ≡ true → are_slim fields names index ≡ true → (values : Values fields) → AllFit fields values → length (der_of_fields fields values) < 2 ^ 31 → room (members_tokens (members_of fields names index values)) + less_fields fields ≤ 8 * length (der_of_fields fields values) + more_fields fields names index + 2
  fields-room End names index named light values fit short = omega arith
  fields-room (Required term fields) names index named light values fit short =
      let f : First names index term fields = first term fields names index named in
      let both = and_parts (is_slim term (field_at names index).inside) (are_slim fields names (index + 1)) light in
      let size = length-append (der term values.0) (der_of_fields fields values.1) in
      let one = term-room term (field_at names index).inside f.inside both.0 values.0 fit.0 (omega (arith, size, short)) in
      let others = fields-room fields names (index + 1) f.others both.1 values.1 fit.1 (omega (arith, size, short)) in
      omega (arith, member-room names index (json term (field_at names index).inside values.0) (members_of fields names (index + 1) values.1), one, others, size)
  fields-room (Optional term fields) names index named light values fit short =
      let f : First names index term fields = first term fields names index named in
      let both = and_parts (nat_le (key_room names index + more term (field_at names index).inside) (less term)) _ light in
      let inner = and_parts (is_slim term (field_at names index).inside) (are_slim fields names (index + 1)) both.1 in
      let size = length-append (octets_of_option (der term) values.0) (der_of_fields fields values.1) in
      let others = fields-room fields names (index + 1) f.others inner.1 values.1 fit.1 (omega (arith, size, short)) in
      let few = leb-true (key_room names index + more term (field_at names index).inside) (less term) both.0 in
      let ms = members_of fields names (index + 1) values.1 in
      let extra : room (members_tokens (member_if (field_at names index).name (option_map (json term (field_at names index).inside) values.0) ms)) ≤ 8 * length (octets_of_option (der term) values.0) + room (members_tokens ms) =
      optional-room term names index ms few (λ value fits is. term-room term (field_at names index).inside f.inside inner.0 value fits is) values.0 fit.0 (omega (arith, size, short)) in
      omega (arith, extra, others, size)

-- ---- messages
pub texts_are_short : (profile : Profile) (m : Message) → IsInProfile profile m → length (message_text m) ≤ 8 * length (message_der m) + 65536
texts_are_short profile m i =
    let k : Kind = kind_of m in
    let one = term-room (kind_term_in profile k) (names_of_kind k) (named profile k) (slim profile k) (message_value_in profile m) i.fits (short-in profile m i) in
    let same : room (json_tokens (json (kind_term_in profile k) (names_of_kind k) (message_value_in profile m))) ≡ room (json_tokens (json (kind_term k) (names_of_kind k) (message_value m))) = ap (λ j. room (json_tokens j)) (json-in profile m) in
    let few : length (token_text (token.key (kind_name k))) + more (kind_term_in profile k) (names_of_kind k) ≤ 65000 = leb-true _ 65000 (few_more profile k) in
    let text : length (message_text m) ≤ room (json_tokens (message_json m)) = printed false (json_tokens (message_json m)) in
    let all = room-append (json_tokens (json (kind_term k) (names_of_kind k) (message_value m))) (members_tokens no_members) in
    omega (arith, text, all, few, same, one, ap length (message_der_in profile m))
