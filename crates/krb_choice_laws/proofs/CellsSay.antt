-- The cell of a value is what the member at its path says.
use Rattle.std.proofs.Common.{◌==◌, nat_le, ◌&&◌, not, ◌≡◌, ◌∙◌, ℕ, ℤ, pos, Bool, true, false, cond, Option, Some, None, IfSome, List, [], ◌∷◌, ◌++◌, map, append-nil, sym, refl, ap, ap₂, codes}
use Rattle.std.proofs.lemmas.Slice.Eq.{bytes_eq-Decides}
use Rattle.std.specs.Fmt.{decimal, signed_decimal}
use Rattle.std.specs.List.{AllByRecursion, flat_map}
use Rattle.std.specs.Net.Addr.{IsIpv4Addr, IsIpv6Addr, MatchIp}
use Rattle.std.specs.Net.Text.{ip_text}
use Rattle.std.specs.Prelude.{bytes_eq}
use Rattle.json.specs.Json.{Items, Json, array, boolean, null, number, string}
use Rattle.json.specs.Value.{items_of}
use Rattle.krb_der.specs.Octets.{AreOctets}
use Rattle.krb_der.specs.Reasons.{reason_name}
use Rattle.krb_der.specs.declared.verdict.Refusal.{Refusal}
use Rattle.krb_registry.specs.Rows.{name_of}
use Rattle.krb_registry.specs.declared.registry.Registry.{Registry}
use Rattle.krb_registry.specs.declared.registry.Registry.TheVariants as registries
use Rattle.krb_source.specs.Layers.{layer_name}
use Rattle.krb_source.specs.declared.endpoint.Endpoint.{Endpoint}
use Rattle.krb_source.specs.declared.layer.Layer.{Layer}
use Rattle.krb_record.specs.Flows.{transport_name}
use Rattle.krb_record.specs.Forms.{address_cell, cell, digest_cell, encrypted_cell, flags_cell, flow_cell, four_octets, is_mistaken, item_cell, list_cell, name_cell, name_or_dash, named_cell, numbers_cell, offset_cell, or_empty, principal_cell, refused_cell, set_names, shown_octet, string_cell, string_of, true_or_false, value_text, whole_cell}
use Rattle.krb_record.specs.Text.{two_hex, AllAreOctets, hex, joined, or_dash, principal_text}
use Rattle.krb_record.specs.Values.{Absent, Address, Called, Digest, Encrypted, ErrorCode, Field, FileName, Flags, Flow, Hex, Host, Layers, Named, NoReason, NoTicket, Number, Numbers, Offset, Principal, Quoted, Reason, RefusedTicket, Span, Status, String, TicketFlags, Value, Word, YesNo}
use Rattle.krb_record.specs.declared.flow.Transport.{Transport}
use Rattle.krb_record.specs.declared.path.Path.{Path}
use Rattle.krb_record.specs.declared.path.Path.TheVariants as paths
use Rattle.krb_laws.specs.Json.{address_json, digest_json, encrypted_json, flags_json, if_known, json_of_value, list_of, name_json, number_of, octets_of, offset_json, principal_json, refused_json}
use Rattle.krb_choice_laws.specs.Cells.{IsUnmistaken, IsWord, Speaks, name_said, said_of, character, item_said, items_said, line_part, member_at, object_with, said}
use Rattle.krb_choice_laws.proofs.Decoded.{item-not-dash}
use Rattle.krb_choice_laws.proofs.Lists.{joined-map}
use Rattle.krb_choice_laws.proofs.MembersAt.{at-is, at_json, name_beside, names_beside}
use Rattle.krb_choice_laws.proofs.Texts.{a-word, file-names, hexes, item-strings, strings, word-cells, word-items, words}
use Rattle.krb_choice_laws.proofs.Values.{four}
use Rattle.krb_choice_laws.proofs.Words.{Item, addresses-as-they-are, flag-names, its-name, layer-item, principals, reason-word, transport-word}

-- ---- names of numbers
found-said : (line : List ℕ) (found : Option (List ℕ)) → IfSome found IsWord → or_dash (λ name. name) found ≡ said line (if_known string found)
found-said line None h = refl
found-said line (Some name) h = words name h

pub its-word : (registry : Registry) (n : ℤ) (found : Option (List ℕ)) → name_of registry n ≡ found → IfSome found IsWord
its-word registry n None e = tt
its-word registry n (Some name) e = (its-name registry n name e).word

name-said : (registry : Registry) (n : ℤ) (line : List ℕ) → name_or_dash registry n ≡ said line (name_json registry n)
name-said registry n line = found-said line (name_of registry n) (its-word registry n (name_of registry n) refl)

-- ---- lists
items-map : {A : Type 0} (json : A → Json) (text : A → List ℕ) (P : A → Type 0) → ((a : A) → P a → item_said (json a) ≡ text a) → (all : List A) → AllByRecursion P all → items_said (items_of (map json all)) ≡ map text all
items-map json text P is [] h = refl
items-map json text P is (a ∷ all) h = ap₂ (λ t ts. t ∷ ts) (is a h.0) (items-map json text P is all h.1)

pub every : {A : Type 0} (all : List A) → AllByRecursion (λ a. Unit {0}) all
every [] = tt
every (a ∷ all) = (tt, every all)

numbers-said : (ns : List ℤ) → items_said (items_of (map number_of ns)) ≡ map signed_decimal ns
numbers-said ns = items-map number_of signed_decimal (λ n. Unit {0}) (λ n h. refl) ns (every ns)

found-item : (found : Option (List ℕ)) → IfSome found Item → item_said (if_known string found) ≡ or_dash (λ name. name) found
found-item None h = refl
found-item (Some name) h = word-items name h.word h.comma

its-item : (registry : Registry) (n : ℤ) (found : Option (List ℕ)) → name_of registry n ≡ found → IfSome found Item
its-item registry n None e = tt
its-item registry n (Some name) e = its-name registry n name e

names-said : (registry : Registry) (ns : List ℤ) → items_said (items_of (map (name_json registry) ns)) ≡ map (name_or_dash registry) ns
names-said registry ns = items-map (name_json registry) (name_or_dash registry) (λ n. Unit {0}) (λ n h. found-item (name_of registry n) (its-item registry n (name_of registry n) refl)) ns (every ns)

-- a list none of whose items is `-`
abbrev pub IsOther : List ℕ → Type 0
IsOther text = codes "-" ≡ text → ⊥

dash-no : (text : List ℕ) → IsOther text → bytes_eq (codes "-") text ≡ false
dash-no text h = by (bytes_eq (codes "-") text) refl
  where
    by : (b : Bool) → bytes_eq (codes "-") text ≡ b → b ≡ false
    by true e = absurd (h ((bytes_eq-Decides (codes "-") text).0 e))
    by false e = refl

pub list-is : (texts : List (List ℕ)) → AllByRecursion IsOther texts → joined (codes "[]") (codes ",") (λ text. text) texts ≡ list_cell texts
list-is [] h = refl
list-is (text ∷ []) h = append-nil text ∙ sym (ap (λ b. cond b (codes "[-]") text) (dash-no text h.0))
list-is (first ∷ second ∷ others) h = refl

all-others : {A : Type 0} (text : A → List ℕ) (P : A → Type 0) → ((a : A) → P a → IsOther (text a)) → (all : List A) → AllByRecursion P all → AllByRecursion IsOther (map text all)
all-others text P is [] h = tt
all-others text P is (a ∷ all) h = (is a h.0, all-others text P is all h.1)

joined-said : {A : Type 0} (json : A → Json) (text : A → List ℕ) (P : A → Type 0) → ((a : A) → P a → item_said (json a) ≡ text a) → ((a : A) → P a → IsOther (text a)) → (all : List A) → AllByRecursion P all
    → joined (codes "[]") (codes ",") text all ≡ list_cell (items_said (items_of (map json all)))
joined-said json text P is other all h = joined-map text all ∙ list-is (map text all) (all-others text P other all h) ∙ ap list_cell (sym (items-map json text P is all h))

item-other : (octets : List ℕ) → AreOctets octets → IsOther (item_cell octets)
item-other octets h e = item-not-dash octets h (sym e)

components-said : (components : List (List ℕ)) → AllAreOctets components → joined (codes "[]") (codes ",") item_cell components ≡ list_cell (items_said (items_of (map octets_of components)))
components-said components h = joined-said octets_of item_cell AreOctets (λ octets k. item-strings octets k) item-other components h

pub word-other : (name : List ℕ) → Item name → IsOther name
word-other name h e = let w = a-word name h.word in let f : true ≡ false = ap is_mistaken e ∙ w.unmistaken in cc

flags-said : (registry : Registry) (octets : List ℕ) → joined (codes "[]") (codes ",") (λ name. name) (set_names registry octets) ≡ list_cell (items_said (items_of (map string (set_names registry octets))))
flags-said registry octets = joined-said string (λ name. name) Item (λ name h. word-items name h.word h.comma) word-other (set_names registry octets) (flag-names registry octets)

layers-said : (layers : List Layer) → joined (codes "[]") (codes ",") layer_name layers ≡ list_cell (items_said (items_of (map (λ layer. string (layer_name layer)) layers)))
layers-said layers =
    joined-said (λ layer. string (layer_name layer)) layer_name (λ layer. Unit {0}) (λ layer h. word-items (layer_name layer) (layer-item layer).word (layer-item layer).comma) (λ layer h. word-other (layer_name layer) (layer-item layer)) layers (every layers)

-- ---- values that are no objects
null-at : (path : Path) (line : List ℕ) → codes "-" ≡ said line (at_json path null null null)
null-at paths.Whole line = refl
null-at path line = refl

number-at : (path : Path) (line digits : List ℕ) → whole_cell path digits ≡ said line (at_json path (number digits) null null)
number-at paths.Whole line digits = refl
number-at path line digits = refl

truth-at : (path : Path) (line : List ℕ) (holds : Bool) → whole_cell path (true_or_false holds) ≡ said line (at_json path (boolean holds) null null)
truth-at paths.Whole line holds = refl
truth-at path line holds = refl

string-at : (path : Path) (line text its : List ℕ) → text ≡ string_of character its → whole_cell path text ≡ said line (at_json path (string its) null null)
string-at paths.Whole line text its e = e
string-at path line text its e = refl

list-at : (path : Path) (line text : List ℕ) (its : Items) → text ≡ list_cell (items_said its) → whole_cell path text ≡ said line (at_json path (array its) null null)
list-at paths.Whole line text its e = e
list-at path line text its e = refl

named-at : (path : Path) (line digits name : List ℕ) (its : Json) → name ≡ said line its → named_cell path digits name ≡ said line (at_json path (number digits) its null)
named-at paths.Whole line digits name its e = refl
named-at paths.Name line digits name its e = e
named-at path line digits name its e = refl

status-at : (path : Path) (line text digits name : List ℕ) (its : Json) → text ≡ string_of character digits → name ≡ said line its → named_cell path text name ≡ said line (at_json path (string digits) its null)
status-at paths.Whole line text digits name its e h = e
status-at paths.Name line text digits name its e h = h
status-at path line text digits name its e h = refl

numbers-at : (path : Path) (line : List ℕ) (registry : Registry) (ns : List ℤ) → numbers_cell path registry ns ≡ said line (at_json path (list_of number_of ns) null (list_of (name_json registry) ns))
numbers-at paths.Whole line registry ns = ap list_cell (sym (numbers-said ns))
numbers-at paths.Names line registry ns = ap list_cell (sym (names-said registry ns))
numbers-at path line registry ns = refl

-- ---- objects
flags-at : (path : Path) (line : List ℕ) (registry : Registry) (bits : ℕ × List ℕ) → AreOctets bits.1 → flags_cell path line registry bits ≡ said line (at_json path (flags_json registry bits) null null)
flags-at paths.Hex line registry bits h = hexes bits.1 h
flags-at paths.Names line registry bits h = flags-said registry bits.1
flags-at path line registry bits h = refl

kvno-at : (kvno : Option ℤ) (line : List ℕ) → or_dash signed_decimal kvno ≡ said line (if_known number_of kvno)
kvno-at None line = refl
kvno-at (Some n) line = refl

encrypted-at : (path : Path) (line : List ℕ) (etype : ℤ) (kvno : Option ℤ) (size : ℕ) → encrypted_cell path line etype kvno size ≡ said line (at_json path (encrypted_json etype kvno size) null null)
encrypted-at paths.EtypeName line etype kvno size = name-said registries.EncryptionTypes etype line
encrypted-at paths.Kvno line etype kvno size = kvno-at kvno line
encrypted-at path line etype kvno size = refl

principal-at : (path : Path) (line : List ℕ) (name_type : ℤ) (components : List (List ℕ)) (realm : List ℕ) → line ≡ principal_text components realm → AllAreOctets components → AreOctets realm
    → principal_cell path line name_type components realm ≡ said line (at_json path (principal_json name_type components realm) null null)
principal-at paths.Text line name_type components realm e h k = e ∙ principals components realm
principal-at paths.TypeName line name_type components realm e h k = name-said registries.NameTypes name_type line
principal-at paths.Components line name_type components realm e h k = components-said components h
principal-at paths.Realm line name_type components realm e h k = strings realm k
principal-at path line name_type components realm e h k = refl

address-at : (path : Path) (line : List ℕ) (addr_type : ℤ) (octets : List ℕ) → AreOctets octets → address_cell path line addr_type octets ≡ said line (at_json path (address_json addr_type octets) null null)
address-at paths.TypeName line addr_type octets h = name-said registries.AddressTypes addr_type line
address-at paths.Hex line addr_type octets h = hexes octets h
address-at path line addr_type octets h = refl

digest-at : (path : Path) (line : List ℕ) (cksumtype : ℤ) (size : ℕ) → digest_cell path line cksumtype size ≡ said line (at_json path (digest_json cksumtype size) null null)
digest-at paths.TypeName line cksumtype size = name-said registries.ChecksumTypes cksumtype line
digest-at path line cksumtype size = refl

offset-at : (path : Path) (line : List ℕ) (seconds microseconds : ℤ) → offset_cell path line seconds microseconds ≡ said line (at_json path (offset_json seconds microseconds) null null)
offset-at paths.Whole line seconds microseconds = refl
offset-at path line seconds microseconds = refl

refused-at : (path : Path) (line : List ℕ) (r : Refusal) → refused_cell path line r ≡ said line (at_json path (refused_json r) null null)
refused-at paths.WhyName line r = words (reason_name r.why) (reason-word r.why)
refused-at path line r = refl

flow-at : (path : Path) (transport : Transport) (source target : Endpoint) → MatchIp source.address IsIpv4Addr IsIpv6Addr → MatchIp target.address IsIpv4Addr IsIpv6Addr
    → flow_cell path transport source target ≡ said (line_part (Flow transport source target) path) (at_json path (json_of_value (Flow transport source target)) null null)
unfolding json_of_value value_text
flow-at paths.Over transport source target h k = words (transport_name transport) (transport-word transport)
flow-at paths.SourceAddress transport source target h k = addresses-as-they-are source.address h
flow-at paths.TargetAddress transport source target h k = addresses-as-they-are target.address k
flow-at path transport source target h k = refl

-- ---- values
pub said-at : (path : Path) (value : Value) → Speaks value → IsUnmistaken value → cell path value ≡ said (line_part value path) (at_json path (json_of_value value) (name_beside value) (names_beside value))
unfolding cell json_of_value value_text
said-at path Absent h k = null-at path _
said-at path NoTicket h k = null-at path _
said-at path NoReason h k = null-at path _
said-at path (Number n) h k = number-at path _ (signed_decimal n)
said-at path (Named registry n) h k = named-at path _ (signed_decimal n) (name_or_dash registry n) (name_json registry n) (name-said registry n _)
said-at path (Numbers registry ns) h k = numbers-at path _ registry ns
said-at path (ErrorCode code) h k = named-at path _ (signed_decimal code) (name_or_dash registries.ErrorCodes code) (name_json registries.ErrorCodes code) (name-said registries.ErrorCodes code _)
said-at path (Status n) h k = status-at path _ (hex (four_octets n)) (hex (four_octets n)) (name_or_dash registries.Statuses (pos n)) (name_json registries.Statuses (pos n)) (hexes (four_octets n) (four n h)) (name-said registries.Statuses (pos n) _)
said-at path (Reason n name) h k = named-at path _ (decimal n) (string_cell name) (string name) (word-cells name h)
said-at path (String octets) h k = string-at path _ (string_cell octets) (flat_map shown_octet octets) (strings octets h)
said-at path (Quoted octets) h k = string-at path _ (string_cell octets) (flat_map shown_octet octets) (strings octets h)
said-at path (FileName octets) h k = string-at path _ (name_cell octets) (flat_map shown_octet octets) (file-names octets h k)
said-at path (Word text) h k = string-at path _ (string_cell text) text (word-cells text h)
said-at path (Hex octets) h k = string-at path _ (or_empty (hex octets)) (hex octets) (hexes octets h)
said-at path (Flags registry bits) h k = flags-at path _ registry bits h
said-at path (TicketFlags flags) h k = flags-at path _ registries.TicketFlags (0, four_octets flags) (four flags h)
said-at path (Encrypted etype kvno size) h k = encrypted-at path _ etype kvno size
said-at path (Principal name_type components realm) h k = principal-at path _ name_type components realm refl h.0 h.1
said-at path (Address addr_type octets) h k = address-at path _ addr_type octets h
said-at path (Digest cksumtype size) h k = digest-at path _ cksumtype size
said-at path (YesNo holds) h k = truth-at path _ holds
said-at path (Offset seconds microseconds) h k = offset-at path _ seconds microseconds
said-at path (RefusedTicket r) h k = refused-at path _ r
said-at path (Flow transport source target) h k = flow-at path transport source target h.0 h.1
said-at path (Layers layers) h k = list-at path _ (joined (codes "[]") (codes ",") layer_name layers) _ (layers-said layers)
said-at path (Span microseconds) h k = number-at path _ (signed_decimal microseconds)
said-at path (Called n name) h k = named-at path _ (decimal n) (or_dash (λ name. name) name) (if_known string name) (found-said _ name h)
said-at path (Host address) h k = string-at path _ (ip_text address) (ip_text address) (addresses-as-they-are address h)

name-at : (path : Path) (octets : List ℕ) → whole_cell path (name_cell octets) ≡ name_said (at_json path (string (flat_map shown_octet octets)) null null)
name-at paths.Whole [] = refl
name-at paths.Whole (o ∷ octets) = by (nat_le 0x20 o && nat_le o 0x7E && not (o == 0x5C))
  where
    by : (plain : Bool) → cond plain (o ∷ []) (codes "\\x" ++ two_hex o) ++ flat_map shown_octet octets ≡ or_empty (cond plain (o ∷ []) (codes "\\x" ++ two_hex o) ++ flat_map shown_octet octets)
    by true = refl
    by false = refl
name-at path octets = refl

said-of : (path : Path) (value : Value) → Speaks value → cell path value ≡ said_of value path (at_json path (json_of_value value) (name_beside value) (names_beside value))
unfolding cell json_of_value
said-of path (FileName octets) h = name-at path octets
said-of path value h = said-at path value h tt

pub cells-say : (path : Path) (field : Field) → Speaks field.value → cell path field.value ≡ said_of field.value path (member_at path field.name (object_with field))
cells-say path field h = said-of path field.value h ∙ ap (said_of field.value path) (sym (at-is path field.name field.value))

pub says-plainly : (path : Path) (field : Field) → Speaks field.value → IsUnmistaken field.value → cell path field.value ≡ said (line_part field.value path) (member_at path field.name (object_with field))
says-plainly path field h k = said-at path field.value h k ∙ ap (said (line_part field.value path)) (sym (at-is path field.name field.value))
