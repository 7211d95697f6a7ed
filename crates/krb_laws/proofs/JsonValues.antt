-- The text of a value is that of its JSON.
use Rattle.std.proofs.Common.{◌≡◌, ℕ, ℤ, ◌+◌, ◌-◌, ◌*◌, ◌^◌, ◌<◌, ◌≤◌, nat_le, Bool, true, false, List, [], ◌∷◌, ◌++◌, length, Option, Some, None, IfSome, codes, decimal, refl, subst, append_assoc, arith}
use Rattle.std.proofs.lemmas.Bool.{leb-true}
use Rattle.std.specs.Fmt.{signed_decimal}
use Rattle.std.specs.List.{AllByRecursion, flat_map}
use Rattle.std.specs.Net.Text.{ip_text}
use Rattle.json.specs.Json.{Json, Members, member, object, string}
use Rattle.json.specs.Strict.{keys}
use Rattle.krb_source.specs.declared.endpoint.Endpoint.{Endpoint}
use Rattle.krb_der.specs.Reasons.{reason_number, reason_name}
use Rattle.krb_der.specs.declared.verdict.Refusal.{Refusal}
use Rattle.krb_der.specs.declared.why.Why.{Why}
use Rattle.krb_der.specs.declared.why.Why.TheVariants as whys
use Rattle.krb_msg.specs.Term.{IfPresent}
use Rattle.krb_registry.specs.Rows.{name_of}
use Rattle.krb_registry.specs.declared.registry.Registry.{Registry}
use Rattle.krb_registry.specs.declared.registry.Registry.TheVariants as registries
use Rattle.krb_record.specs.Flows.{transport_name, endpoint_object, flow_object}
use Rattle.krb_record.specs.Forms.{address_object, digest_object, flags_object, four_octets, json_string, json_value, name_string, octets_string, offset_object, or_null, principal_object, refused_object, encrypted_object, set_names, shown_octet, true_or_false}
use Rattle.krb_record.specs.Text.{IsPrintable, hex, principal_text, list_text}
use Rattle.krb_record.specs.Values.{Value, Absent, NoTicket, Number, Named, Numbers, ErrorCode, Status, Reason, NoReason, String, Quoted, FileName, Word, Hex, Flags, TicketFlags, Encrypted, Principal, Address, Digest, YesNo, Offset, RefusedTicket, Flow, Layers, Span, Called, Host}
use Rattle.krb_record.specs.declared.flow.Transport.{Transport}
use Rattle.krb_record.specs.declared.flow.Transport.TheVariants as transports
use Rattle.krb_source.specs.Layers.{layer_name}
use Rattle.krb_source.specs.declared.layer.Layer.{Layer}
use Rattle.krb_source.specs.declared.layer.Layer.TheVariants as layers
use Rattle.krb_laws.specs.Json.{address_json, digest_json, endpoint_json, flags_json, if_known, json_of_value, list_of, name_json, number_of, octets_of, offset_json, principal_json, refused_json, encrypted_json}
use Rattle.krb_laws.specs.JsonLaws.{IsEndpoint, IsSmall, ValueFits, are_different, is_plain}
use Rattle.krb_laws.proofs.JsonNames.{distinct}
use Rattle.krb_laws.proofs.JsonPieces.{AreMembers, IsPlain, IsText, a_false, a_list, a_null, a_number, a_plain, a_signed, a_true, an_object, as_text, deeper, eleven, five, nine, no_more_members, one_more_member, seven}
use Rattle.krb_laws.proofs.JsonStrings.{IsAbove, a_string, above_name_of, above_principal, above_set_names, above_shown, all-so, is_plain-plain, plain-above, plain_address, plain_hex}

-- ---- members of a plain name
module _ {text rest : List ℕ} {levels : ℕ} {j : Json} {ms : Members} where
  next : (key : List ℕ) → is_plain key ≡ true → IsText text j levels → AreMembers rest ms levels → AreMembers (44 ∷ 34 ∷ (key ++ 34 ∷ 58 ∷ (text ++ rest))) (member key j ms) levels
  next key e h k = one_more_member key levels (is_plain-plain key e) h k

  -- the first of an object, whose names differ
  first : (key : List ℕ) → is_plain key ≡ true → IsText text j levels → AreMembers rest ms levels → are_different (key ∷ keys ms) ≡ true → IsText (123 ∷ 34 ∷ (key ++ 34 ∷ 58 ∷ (text ++ rest))) (object (member key j ms)) (1 + levels)
  first key e h k apart = an_object key levels (is_plain-plain key e) h k (distinct (key ∷ keys ms) apart)

-- a member whose value is a plain string
module _ {rest : List ℕ} {levels : ℕ} {ms : Members} where
  next_plain : (key value : List ℕ) → is_plain key ≡ true → IsPlain value → AreMembers rest ms levels → AreMembers (44 ∷ 34 ∷ (key ++ 34 ∷ 58 ∷ 34 ∷ (value ++ 34 ∷ rest))) (member key (string value) ms) levels
  next_plain key value e h k =
      subst (λ t. AreMembers (44 ∷ 34 ∷ (key ++ 34 ∷ 58 ∷ 34 ∷ t)) (member key (string value) ms) levels) (append_assoc value (34 ∷ []) rest) (next key e (a_plain value h) k)

  first_plain : (key value : List ℕ) → is_plain key ≡ true → IsPlain value → AreMembers rest ms levels → are_different (key ∷ keys ms) ≡ true → IsText (123 ∷ 34 ∷ (key ++ 34 ∷ 58 ∷ 34 ∷ (value ++ 34 ∷ rest))) (object (member key (string value) ms)) (1 + levels)
  first_plain key value e h k apart =
      subst (λ t. IsText (123 ∷ 34 ∷ (key ++ 34 ∷ 58 ∷ 34 ∷ t)) (object (member key (string value) ms)) (1 + levels)) (append_assoc value (34 ∷ []) rest) (first key e (a_plain value h) k apart)

pub every : {A : Type 0} (values : List A) → AllByRecursion (λ (a : A). Unit {0}) values
every [] = tt
every (a ∷ values) = (tt, every values)

-- ---- what may be null, names and octets
nullable : {A : Type 0} {levels : ℕ} (text : A → List ℕ) (json : A → Json) (P : A → Type 0) → ((a : A) → P a → IsText (text a) (json a) levels) → (value : Option A) → IfPresent P value → IsText (or_null text value) (if_known json value) levels
nullable text json P shown None h = a_null
nullable text json P shown (Some a) h = shown a h

optional_number : {levels : ℕ} (n : Option ℤ) → IfSome n IsSmall → IsText (or_null signed_decimal n) (if_known number_of n) levels
optional_number None h = a_null
optional_number (Some n) h = a_signed n h

pub a_name : {levels : ℕ} (registry : Registry) (n : ℤ) → IsText (name_string registry n) (name_json registry n) levels
a_name registry n = nullable json_string string IsAbove (λ name h. a_string name h) (name_of registry n) (above_name_of registry n)

some_octets : {levels : ℕ} (octets : List ℕ) → IsText (octets_string octets) (octets_of octets) levels
some_octets octets = a_string (flat_map shown_octet octets) (above_shown octets)

pub printable : {levels : ℕ} (text : List ℕ) → IsPrintable text → IsText (json_string text) (string text) levels
printable text h = a_string text (all-so (λ c. (32 ≤ c) × (c ≤ 126)) (λ c. 32 ≤ c) (λ c h. h.0) text h)

pub or_no_name : {levels : ℕ} (name : Option (List ℕ)) → IfSome name IsPrintable → IsText (or_null json_string name) (if_known string name) levels
or_no_name None h = a_null
or_no_name (Some name) h = printable name h

-- ---- objects
some_flags : (registry : Registry) (bits : ℕ × List ℕ) → 8 * length bits.1 < 10 ^ 64 → IsText (flags_object registry bits) (flags_json registry bits) 2
some_flags registry bits h =
    as_text
    (first {levels = 1} (codes "bits") refl (a_number (8 * length bits.1 - bits.0) (omega (arith, h)))
    (next_plain (codes "hex") (hex bits.1) refl (plain_hex bits.1)
    (next (codes "names") refl (a_list 0 json_string string IsAbove (λ name h. a_string name h) (set_names registry bits.1) (above_set_names registry bits.1)) no_more_members)) refl)
    (seven (codes "{\"bits\":") (decimal (8 * length bits.1 - bits.0)) (codes ",\"hex\":\"") (hex bits.1) (codes "\",\"names\":") (list_text json_string (set_names registry bits.1)) (codes "}"))

some_encrypted : (etype : ℤ) (kvno : Option ℤ) (size : ℕ) → IsSmall etype → IfSome kvno IsSmall → size < 10 ^ 64 → IsText (encrypted_object etype kvno size) (encrypted_json etype kvno size) 1
some_encrypted etype kvno size e k s =
    as_text
    (first {levels = 0} (codes "etype") refl (a_signed etype e)
    (next (codes "etype_name") refl (a_name registries.EncryptionTypes etype)
    (next (codes "kvno") refl (optional_number kvno k)
    (next (codes "size") refl (a_number size s) no_more_members))) refl)
    (nine (codes "{\"etype\":") (signed_decimal etype) (codes ",\"etype_name\":") (name_string registries.EncryptionTypes etype) (codes ",\"kvno\":") (or_null signed_decimal kvno) (codes ",\"size\":") (decimal size) (codes "}"))

some_principal : (name_type : ℤ) (components : List (List ℕ)) (realm : List ℕ) → IsSmall name_type → IsText (principal_object name_type components realm) (principal_json name_type components realm) 2
some_principal name_type components realm h =
    as_text
    (first {levels = 1} (codes "text") refl (a_string (principal_text components realm) (above_principal components realm))
    (next (codes "type") refl (a_signed name_type h)
    (next (codes "type_name") refl (a_name registries.NameTypes name_type)
    (next (codes "components") refl (a_list 0 octets_string octets_of (λ octets. Unit {0}) (λ octets h. some_octets octets) components (every components))
    (next (codes "realm") refl (some_octets realm) no_more_members)))) refl)
    (eleven (codes "{\"text\":") (json_string (principal_text components realm)) (codes ",\"type\":") (signed_decimal name_type) (codes ",\"type_name\":") (name_string registries.NameTypes name_type) (codes ",\"components\":") (list_text octets_string components) (codes ",\"realm\":") (octets_string realm) (codes "}"))

some_address : (addr_type : ℤ) (octets : List ℕ) → IsSmall addr_type → IsText (address_object addr_type octets) (address_json addr_type octets) 1
some_address addr_type octets h =
    as_text
    (first {levels = 0} (codes "type") refl (a_signed addr_type h)
    (next (codes "type_name") refl (a_name registries.AddressTypes addr_type)
    (next_plain (codes "hex") (hex octets) refl (plain_hex octets) no_more_members)) refl)
    (seven (codes "{\"type\":") (signed_decimal addr_type) (codes ",\"type_name\":") (name_string registries.AddressTypes addr_type) (codes ",\"hex\":\"") (hex octets) (codes "\"}"))

some_digest : (cksumtype : ℤ) (size : ℕ) → IsSmall cksumtype → size < 10 ^ 64 → IsText (digest_object cksumtype size) (digest_json cksumtype size) 1
some_digest cksumtype size h s =
    as_text
    (first {levels = 0} (codes "type") refl (a_signed cksumtype h)
    (next (codes "type_name") refl (a_name registries.ChecksumTypes cksumtype)
    (next (codes "size") refl (a_number size s) no_more_members)) refl)
    (seven (codes "{\"type\":") (signed_decimal cksumtype) (codes ",\"type_name\":") (name_string registries.ChecksumTypes cksumtype) (codes ",\"size\":") (decimal size) (codes "}"))

some_offset : (seconds microseconds : ℤ) → IsSmall seconds → IsSmall microseconds → IsText (offset_object seconds microseconds) (offset_json seconds microseconds) 1
some_offset seconds microseconds h k =
    as_text
    (first {levels = 0} (codes "seconds") refl (a_signed seconds h)
    (next (codes "microseconds") refl (a_signed microseconds k) no_more_members) refl)
    (five (codes "{\"seconds\":") (signed_decimal seconds) (codes ",\"microseconds\":") (signed_decimal microseconds) (codes "}"))

-- ---- refusals
record IsReason (why : Why) : Type 0 where
  number : nat_le (reason_number why) 255 ≡ true
  name : is_plain (reason_name why) ≡ true

reason : (why : Why) → IsReason why
reason whys.HighBit = record { number = refl; name = refl }
reason other = record { number = refl; name = refl }

-- the number of a reason is small, and its name is plain
pub small_reason : (why : Why) → reason_number why < 10 ^ 64
small_reason why = omega (arith, leb-true (reason_number why) 255 (reason why).number)

pub plain_reason : (why : Why) → IsPlain (reason_name why)
plain_reason why = is_plain-plain (reason_name why) (reason why).name

some_refused : (r : Refusal) → r.place < 10 ^ 64 → IsText (refused_object r) (refused_json r) 2
some_refused r h =
    as_text
    (first {levels = 1} (codes "refused") refl
    (first {levels = 0} (codes "place") refl (a_number r.place h)
    (next (codes "why") refl (a_number (reason_number r.why) (omega (arith, small_reason r.why)))
    (next (codes "why_name") refl (a_string (reason_name r.why) (plain-above (reason_name r.why) (plain_reason r.why))) no_more_members)) refl)
    no_more_members refl)
    (refused_parts (decimal r.place) (decimal (reason_number r.why)) (json_string (reason_name r.why)))
  where
    refused_parts : (place why name : List ℕ) → codes "{\"refused\":" ++ ((codes "{\"place\":" ++ (place ++ (codes ",\"why\":" ++ (why ++ (codes ",\"why_name\":" ++ (name ++ codes "}")))))) ++ codes "}") ≡ codes "{\"refused\":{\"place\":" ++ place ++ codes ",\"why\":" ++ why ++ codes ",\"why_name\":" ++ name ++ codes "}}"
    refused_parts place why name = go (codes ",\"why\":") (codes ",\"why_name\":") (codes "}") (codes "}")
      where
        go : (b c d e : List ℕ) → codes "{\"refused\":{\"place\":" ++ ((place ++ (b ++ (why ++ (c ++ (name ++ d))))) ++ e) ≡ codes "{\"refused\":{\"place\":" ++ place ++ b ++ why ++ c ++ name ++ (d ++ e)
        go b c d e = simp append_assoc refl

-- ---- flows
some_endpoint : (e : Endpoint) → IsEndpoint e → IsText (endpoint_object e) (endpoint_json e) 1
some_endpoint e h =
    as_text
    (first_plain {levels = 0} (codes "address") (ip_text e.address) refl (plain_address e.address h.0)
    (next (codes "port") refl (a_number e.port h.1) no_more_members) refl)
    (five (codes "{\"address\":\"") (ip_text e.address) (codes "\",\"port\":") (decimal e.port) (codes "}"))

plain_transport : (t : Transport) → IsPlain (transport_name t)
plain_transport transports.Udp = is_plain-plain (codes "udp") refl
plain_transport transports.Tcp = is_plain-plain (codes "tcp") refl

some_flow : (t : Transport) (source target : Endpoint) → IsEndpoint source → IsEndpoint target → IsText (flow_object t source target) (json_of_value (Flow t source target)) 2
unfolding json_of_value
some_flow t source target h k =
    as_text
    (first_plain {levels = 1} (codes "over") (transport_name t) refl (plain_transport t)
    (next (codes "source") refl (some_endpoint source h)
    (next (codes "target") refl (some_endpoint target k) no_more_members)) refl)
    (seven (codes "{\"over\":\"") (transport_name t) (codes "\",\"source\":") (endpoint_object source) (codes ",\"target\":") (endpoint_object target) (codes "}"))

plain_layer : (l : Layer) → IsPlain (layer_name l)
plain_layer layers.Frame = is_plain-plain (codes "frame") refl
plain_layer layers.Gss = is_plain-plain (codes "GSS") refl
plain_layer layers.Spnego = is_plain-plain (codes "SPNEGO") refl

some_layers : (ls : List Layer) → IsText (list_text (λ layer. json_string (layer_name layer)) ls) (list_of (λ layer. string (layer_name layer)) ls) 1
some_layers ls = a_list 0 (λ layer. json_string (layer_name layer)) (λ layer. string (layer_name layer)) (λ layer. Unit {0}) (λ l h. a_string (layer_name l) (plain-above (layer_name l) (plain_layer l))) ls (every ls)

-- ---- values
some_bool : (holds : Bool) → IsText (true_or_false holds) (json_of_value (YesNo holds)) 2
unfolding json_of_value
some_bool true = a_true
some_bool false = a_false

more : {text : List ℕ} {j : Json} → IsText text j 1 → IsText text j 2
more h = deeper 1 2 (omega arith) h

pub value_text : (value : Value) → ValueFits value → IsText (json_value value) (json_of_value value) 2
unfolding json_value json_of_value
value_text Absent h = a_null
value_text NoTicket h = a_null
value_text (Number n) h = a_signed n h
value_text (Named registry n) h = a_signed n h
value_text (Numbers registry ns) h = more (a_list 0 signed_decimal number_of IsSmall (λ n h. a_signed n h) ns h)
value_text (ErrorCode code) h = a_signed code h
value_text (Status n) h = a_plain (hex (four_octets n)) (plain_hex (four_octets n))
value_text (Reason n name) h = a_number n h.0
value_text NoReason h = a_null
value_text (String octets) h = some_octets octets
value_text (Quoted octets) h = some_octets octets
value_text (FileName octets) h = some_octets octets
value_text (Word text) h = printable text h
value_text (Hex octets) h = a_plain (hex octets) (plain_hex octets)
value_text (Flags registry bits) h = some_flags registry bits h
value_text (TicketFlags flags) h = some_flags registries.TicketFlags (0, four_octets flags) (omega arith)
value_text (Encrypted etype kvno size) h = more (some_encrypted etype kvno size h.0 h.1 h.2)
value_text (Principal name_type components realm) h = some_principal name_type components realm h
value_text (Address addr_type octets) h = more (some_address addr_type octets h)
value_text (Digest cksumtype size) h = more (some_digest cksumtype size h.0 h.1)
value_text (YesNo holds) h = some_bool holds
value_text (Offset seconds microseconds) h = more (some_offset seconds microseconds h.0 h.1)
value_text (RefusedTicket r) h = some_refused r h
value_text (Flow t source target) h = some_flow t source target h.0 h.1
value_text (Span microseconds) h = a_signed microseconds h
value_text (Called n name) h = a_number n h.0
value_text (Host address) h = a_plain (ip_text address) (plain_address address h)
value_text (Layers ls) h = more (some_layers ls)
