-- Members of objects are read back from their cells.
use Rattle.std.proofs.Common.{◌≡◌, ◌∙◌, ℕ, suc, ℤ, pos, negsuc, not, Bool, true, false, Option, Some, None, IfSome, List, [], ◌∷◌, map, sym, refl, ap, subst}
use Rattle.std.proofs.lemmas.Slice.Eq.{bytes_eq-Decides}
use Rattle.std.specs.Fmt.{decimal, signed_decimal}
use Rattle.std.specs.List.{AllByRecursion, flat_map, list_all}
use Rattle.std.specs.Net.Addr.{IsIpv4Addr, IsIpv6Addr, MatchIp}
use Rattle.std.specs.Net.Text.{ip_text}
use Rattle.std.specs.Prelude.{bytes_eq}
use Rattle.json.specs.Json.{Items, Json, array, boolean, null, number, string}
use Rattle.json.specs.Value.{items_of}
use Rattle.krb_der.specs.Octets.{AreOctets}
use Rattle.krb_der.specs.Reasons.{reason_name, reason_number}
use Rattle.krb_der.specs.declared.verdict.Refusal.{Refusal}
use Rattle.krb_registry.specs.Rows.{name_of}
use Rattle.krb_registry.specs.declared.registry.Registry.{Registry}
use Rattle.krb_registry.specs.declared.registry.Registry.TheVariants as registries
use Rattle.krb_source.specs.Layers.{layer_name}
use Rattle.krb_source.specs.declared.endpoint.Endpoint.{Endpoint}
use Rattle.krb_source.specs.declared.layer.Layer.{Layer}
use Rattle.krb_record.specs.Flows.{transport_name}
use Rattle.krb_record.specs.Forms.{four_octets, set_names, shown_octet}
use Rattle.krb_record.specs.Text.{AllAreOctets, hex, principal_text}
use Rattle.krb_record.specs.Values.{Absent, Address, Called, Digest, Encrypted, ErrorCode, Field, FileName, Flags, Flow, Hex, Host, Layers, Named, NoReason, NoTicket, Number, Numbers, Offset, Principal, Quoted, Reason, RefusedTicket, Span, Status, String, TicketFlags, Value, Word, YesNo}
use Rattle.krb_record.specs.declared.flow.Transport.{Transport}
use Rattle.krb_record.specs.declared.path.Path.{Path}
use Rattle.krb_record.specs.declared.path.Path.TheVariants as paths
use Rattle.krb_laws.specs.Json.{address_json, digest_json, encrypted_json, flags_json, if_known, json_of_value, list_of, name_json, number_of, octets_of, offset_json, principal_json, refused_json}
use Rattle.krb_choice_laws.specs.Cells.{IsWord, MembersAreApart, Speaks, line_part, member_at, object_with}
use Rattle.krb_choice_laws.proofs.CellsApart.{AreTold, IsOther, IsText, IsTold, IsToldItem, Shows, apart, escaped, is_escaped}
use Rattle.krb_choice_laws.proofs.CellsSay.{every, its-word, says-plainly}
use Rattle.krb_choice_laws.proofs.Decoded.{Outside, all-decoded, decoded, shown-shows}
use Rattle.krb_choice_laws.proofs.Lists.{is_of_number, number-is, number-item}
use Rattle.krb_choice_laws.proofs.MembersAt.{at-is, at_json, name_beside, names_beside}
use Rattle.krb_choice_laws.proofs.Texts.{Begins, IsSome, a-word, begins_marked, hex-begins, number-begins, one-of}
use Rattle.krb_choice_laws.proofs.Values.{four}
use Rattle.krb_choice_laws.proofs.Words.{Item, address-begins, flag-names, has_at, layer-item, principal-has, reason-word, transport-word}

-- ---- numbers
pub number-other : (n : ℤ) → IsOther (signed_decimal n)
number-other (pos n) e = let begins = number-begins n in let f : true ≡ false = ap begins_marked e ∙ begins.1 in cc
number-other (negsuc n) e = let none : [] ≡ decimal (suc n) = cc in absurd (subst IsSome (sym none) (number-begins (suc n)).0)

count-other : (n : ℕ) → IsOther (decimal n)
count-other n = number-other (pos n)

number-text : (n : ℤ) → IsText (signed_decimal n)
number-text n = record { item = number-item n; one = λ e. let f : false ≡ true = sym (ap (list_all is_of_number) e) ∙ number-is n in cc }

-- ---- strings
-- a string that has what none of the escaped ones has
unescaped : (test : List ℕ → Bool) → AllByRecursion (λ text. test text ≡ true) escaped → (text : List ℕ) → test text ≡ false → is_escaped text ≡ false
unescaped test h text e = by (is_escaped text) refl
  where
    by : (b : Bool) → is_escaped text ≡ b → b ≡ false
    by true m = sym (one-of (λ text. test text ≡ true) escaped h text m) ∙ e
    by false m = refl

begun-told : (text : List ℕ) → Begins text → is_escaped text ≡ false
begun-told text h = unescaped begins_marked (refl, (refl, (refl, (refl, (refl, tt))))) text h.1

-- what is shown again as it is decoded
abbrev is_other : List ℕ → Bool
is_other text = not (bytes_eq (flat_map shown_octet (decoded Outside text)) text)

strings-told : (octets : List ℕ) → AreOctets octets → is_escaped (flat_map shown_octet octets) ≡ false
strings-told octets h =
    let text = flat_map shown_octet octets in
    let same : flat_map shown_octet (decoded Outside text) ≡ text = ap (flat_map shown_octet) (all-decoded shown_octet shown-shows octets h) in
    unescaped is_other (refl, (refl, (refl, (refl, (refl, tt))))) text (ap not ((bytes_eq-Decides (flat_map shown_octet (decoded Outside text)) text).1 same))

word-told : (text : List ℕ) → IsWord text → is_escaped text ≡ false
word-told text e = let w = a-word text e in subst (λ t. is_escaped t ≡ false) w.shown (strings-told text w.octets)

hex-told : (octets : List ℕ) → AreOctets octets → is_escaped (hex octets) ≡ false
hex-told [] h = refl
hex-told (o ∷ octets) h = begun-told (hex (o ∷ octets)) (hex-begins o octets h.0)

principal-told : (components : List (List ℕ)) (realm : List ℕ) → is_escaped (principal_text components realm) ≡ false
principal-told components realm = unescaped (λ text. not (has_at text)) (refl, (refl, (refl, (refl, (refl, tt))))) (principal_text components realm) (principal-has components realm)

-- names
found-told : (found : Option (List ℕ)) → IfSome found IsWord → IsTold (if_known string found)
found-told None h = tt
found-told (Some name) h = word-told name h

name-told : (registry : Registry) (n : ℤ) → IsTold (name_json registry n)
name-told registry n = found-told (name_of registry n) (its-word registry n (name_of registry n) refl)

-- ---- lists
all-told : {A : Type 0} (json : A → Json) (P : A → Type 0) → ((a : A) → P a → IsToldItem (json a)) → (all : List A) → AllByRecursion P all → AreTold (items_of (map json all))
all-told json P is [] h = tt
all-told json P is (a ∷ all) h = (is a h.0, all-told json P is all h.1)

word-shows : (name : List ℕ) → IsWord name → Shows name
word-shows name e = let w = a-word name e in record { octets = name; are = w.octets; shown = sym w.shown }

found-shows : (found : Option (List ℕ)) → IfSome found IsWord → IsToldItem (if_known string found)
found-shows None h = tt
found-shows (Some name) h = word-shows name h

numbers-told : (ns : List ℤ) → AreTold (items_of (map number_of ns))
numbers-told ns = all-told number_of (λ n. Unit {0}) (λ n h. (number-other n, number-text n)) ns (every ns)

names-told : (registry : Registry) (ns : List ℤ) → AreTold (items_of (map (name_json registry) ns))
names-told registry ns = all-told (name_json registry) (λ n. Unit {0}) (λ n h. found-shows (name_of registry n) (its-word registry n (name_of registry n) refl)) ns (every ns)

components-told : (components : List (List ℕ)) → AllAreOctets components → AreTold (items_of (map octets_of components))
components-told components h = all-told octets_of AreOctets (λ octets k. record { octets = octets; are = k; shown = refl }) components h

flags-told : (registry : Registry) (octets : List ℕ) → AreTold (items_of (map string (set_names registry octets)))
flags-told registry octets = all-told string Item (λ name h. word-shows name h.word) (set_names registry octets) (flag-names registry octets)

layers-told : (layers : List Layer) → AreTold (items_of (map (λ layer. string (layer_name layer)) layers))
layers-told layers = all-told (λ layer. string (layer_name layer)) (λ layer. Unit {0}) (λ layer h. word-shows (layer_name layer) (layer-item layer).word) layers (every layers)

-- ---- values that are no objects
null-in : (path : Path) → IsTold (at_json path null null null)
null-in paths.Whole = tt
null-in path = tt

number-in : (path : Path) (digits : List ℕ) → IsOther digits → IsTold (at_json path (number digits) null null)
number-in paths.Whole digits h = h
number-in path digits h = tt

truth-in : (path : Path) (holds : Bool) → IsTold (at_json path (boolean holds) null null)
truth-in paths.Whole holds = tt
truth-in path holds = tt

string-in : (path : Path) (text : List ℕ) → is_escaped text ≡ false → IsTold (at_json path (string text) null null)
string-in paths.Whole text h = h
string-in path text h = tt

list-in : (path : Path) (its : Items) → AreTold its → IsTold (at_json path (array its) null null)
list-in paths.Whole its h = h
list-in path its h = tt

named-in : (path : Path) (digits : List ℕ) (its : Json) → IsOther digits → IsTold its → IsTold (at_json path (number digits) its null)
named-in paths.Whole digits its h k = h
named-in paths.Name digits its h k = k
named-in path digits its h k = tt

status-in : (path : Path) (text : List ℕ) (its : Json) → is_escaped text ≡ false → IsTold its → IsTold (at_json path (string text) its null)
status-in paths.Whole text its h k = h
status-in paths.Name text its h k = k
status-in path text its h k = tt

numbers-in : (path : Path) (registry : Registry) (ns : List ℤ) → IsTold (at_json path (list_of number_of ns) null (list_of (name_json registry) ns))
numbers-in paths.Whole registry ns = numbers-told ns
numbers-in paths.Names registry ns = names-told registry ns
numbers-in path registry ns = tt

-- ---- objects
flags-in : (path : Path) (registry : Registry) (bits : ℕ × List ℕ) → AreOctets bits.1 → IsTold (at_json path (flags_json registry bits) null null)
flags-in paths.Bits registry bits h = count-other _
flags-in paths.Hex registry bits h = hex-told bits.1 h
flags-in paths.Names registry bits h = flags-told registry bits.1
flags-in path registry bits h = tt

kvno-in : (kvno : Option ℤ) → IsTold (if_known number_of kvno)
kvno-in None = tt
kvno-in (Some n) = number-other n

encrypted-in : (path : Path) (etype : ℤ) (kvno : Option ℤ) (size : ℕ) → IsTold (at_json path (encrypted_json etype kvno size) null null)
encrypted-in paths.Etype etype kvno size = number-other etype
encrypted-in paths.EtypeName etype kvno size = name-told registries.EncryptionTypes etype
encrypted-in paths.Kvno etype kvno size = kvno-in kvno
encrypted-in paths.Size etype kvno size = count-other size
encrypted-in path etype kvno size = tt

principal-in : (path : Path) (name_type : ℤ) (components : List (List ℕ)) (realm : List ℕ) → AllAreOctets components → AreOctets realm → IsTold (at_json path (principal_json name_type components realm) null null)
principal-in paths.Text name_type components realm h k = principal-told components realm
principal-in paths.Type name_type components realm h k = number-other name_type
principal-in paths.TypeName name_type components realm h k = name-told registries.NameTypes name_type
principal-in paths.Components name_type components realm h k = components-told components h
principal-in paths.Realm name_type components realm h k = strings-told realm k
principal-in path name_type components realm h k = tt

address-in : (path : Path) (addr_type : ℤ) (octets : List ℕ) → AreOctets octets → IsTold (at_json path (address_json addr_type octets) null null)
address-in paths.Type addr_type octets h = number-other addr_type
address-in paths.TypeName addr_type octets h = name-told registries.AddressTypes addr_type
address-in paths.Hex addr_type octets h = hex-told octets h
address-in path addr_type octets h = tt

digest-in : (path : Path) (cksumtype : ℤ) (size : ℕ) → IsTold (at_json path (digest_json cksumtype size) null null)
digest-in paths.Type cksumtype size = number-other cksumtype
digest-in paths.TypeName cksumtype size = name-told registries.ChecksumTypes cksumtype
digest-in paths.Size cksumtype size = count-other size
digest-in path cksumtype size = tt

offset-in : (path : Path) (seconds microseconds : ℤ) → IsTold (at_json path (offset_json seconds microseconds) null null)
offset-in paths.Seconds seconds microseconds = number-other seconds
offset-in paths.Microseconds seconds microseconds = number-other microseconds
offset-in path seconds microseconds = tt

refused-in : (path : Path) (r : Refusal) → IsTold (at_json path (refused_json r) null null)
refused-in paths.Place r = count-other r.place
refused-in paths.Why r = count-other (reason_number r.why)
refused-in paths.WhyName r = word-told (reason_name r.why) (reason-word r.why)
refused-in path r = tt

flow-in : (path : Path) (transport : Transport) (source target : Endpoint) → MatchIp source.address IsIpv4Addr IsIpv6Addr → MatchIp target.address IsIpv4Addr IsIpv6Addr → IsTold (at_json path (json_of_value (Flow transport source target)) null null)
unfolding json_of_value
flow-in paths.Over transport source target h k = word-told (transport_name transport) (transport-word transport)
flow-in paths.SourceAddress transport source target h k = begun-told (ip_text source.address) (address-begins source.address h)
flow-in paths.SourcePort transport source target h k = count-other source.port
flow-in paths.TargetAddress transport source target h k = begun-told (ip_text target.address) (address-begins target.address k)
flow-in paths.TargetPort transport source target h k = count-other target.port
flow-in path transport source target h k = tt

-- ---- values
told-at : (path : Path) (value : Value) → Speaks value → IsTold (at_json path (json_of_value value) (name_beside value) (names_beside value))
unfolding json_of_value
told-at path Absent h = null-in path
told-at path NoTicket h = null-in path
told-at path NoReason h = null-in path
told-at path (Number n) h = number-in path (signed_decimal n) (number-other n)
told-at path (Named registry n) h = named-in path (signed_decimal n) (name_json registry n) (number-other n) (name-told registry n)
told-at path (Numbers registry ns) h = numbers-in path registry ns
told-at path (ErrorCode code) h = named-in path (signed_decimal code) (name_json registries.ErrorCodes code) (number-other code) (name-told registries.ErrorCodes code)
told-at path (Status n) h = status-in path (hex (four_octets n)) (name_json registries.Statuses (pos n)) (hex-told (four_octets n) (four n h)) (name-told registries.Statuses (pos n))
told-at path (Reason n name) h = named-in path (decimal n) (string name) (count-other n) (word-told name h)
told-at path (String octets) h = string-in path (flat_map shown_octet octets) (strings-told octets h)
told-at path (Quoted octets) h = string-in path (flat_map shown_octet octets) (strings-told octets h)
told-at path (FileName octets) h = string-in path (flat_map shown_octet octets) (strings-told octets h)
told-at path (Word text) h = string-in path text (word-told text h)
told-at path (Hex octets) h = string-in path (hex octets) (hex-told octets h)
told-at path (Flags registry bits) h = flags-in path registry bits h
told-at path (TicketFlags flags) h = flags-in path registries.TicketFlags (0, four_octets flags) (four flags h)
told-at path (Encrypted etype kvno size) h = encrypted-in path etype kvno size
told-at path (Principal name_type components realm) h = principal-in path name_type components realm h.0 h.1
told-at path (Address addr_type octets) h = address-in path addr_type octets h
told-at path (Digest cksumtype size) h = digest-in path cksumtype size
told-at path (YesNo holds) h = truth-in path holds
told-at path (Offset seconds microseconds) h = offset-in path seconds microseconds
told-at path (RefusedTicket r) h = refused-in path r
told-at path (Flow transport source target) h = flow-in path transport source target h.0 h.1
told-at path (Layers layers) h = list-in path _ (layers-told layers)
told-at path (Span microseconds) h = number-in path (signed_decimal microseconds) (number-other microseconds)
told-at path (Called n name) h = named-in path (decimal n) (if_known string name) (count-other n) (found-told name h)
told-at path (Host address) h = string-in path (ip_text address) (begun-told (ip_text address) (address-begins address h))

its-told : (path : Path) (field : Field) → Speaks field.value → IsTold (member_at path field.name (object_with field))
its-told path field h = subst IsTold (sym (at-is path field.name field.value)) (told-at path field.value h)

pub members-apart : MembersAreApart
members-apart type path one other h k u v e f same =
    apart type (line_part one.value path) (line_part other.value path) (member_at path one.name (object_with one)) (member_at path other.name (object_with other)) (its-told path one h) (its-told path other k) e f
    (sym (says-plainly path one h u) ∙ same ∙ says-plainly path other k v)
