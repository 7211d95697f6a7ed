-- Cells of values are printable, if the octets of these are octets and their words are printable.
use Rattle.std.proofs.Common.{◌≡◌, ℕ, ℤ, pos, unsigned_abs, ◌^◌, ◌<◌, ◌≤◌, ◌==◌, ◌&&◌, nat_le, not, Bool, true, false, cond, Option, Some, None, List, [], ◌∷◌, ◌++◌, map, refl, arith, codes}
use Rattle.std.proofs.lemmas.Bool.{and_parts}
use Rattle.std.proofs.lemmas.Bool.Decides.{nat_tests}
use Rattle.std.specs.Fmt.{decimal, signed_decimal}
use Rattle.std.specs.List.{AllByRecursion, filter, list_all}
use Rattle.std.specs.Net.Addr.{IsIpv4Addr, IsIpv6Addr, MatchIp}
use Rattle.std.specs.Net.Text.{ip_text}
use Rattle.std.specs.Prelude.{bytes_eq}
use Rattle.std.specs.declared.net.ip_addr.IpAddr.{IpAddr}
use Rattle.std.specs.declared.net.ip_addr.IpAddr.TheVariants as addresses
use Rattle.krb_der.specs.Octets.{AreOctets}
use Rattle.krb_der.specs.Reasons.{reason_number}
use Rattle.krb_der.specs.declared.verdict.Refusal.{Refusal}
use Rattle.krb_msg.specs.Term.{IfPresent}
use Rattle.krb_registry.specs.Rows.{name_of, rows}
use Rattle.krb_registry.specs.Laws.{is_plain as is_plain_in_rows}
use Rattle.krb_registry.specs.declared.registry.Registry.{Registry}
use Rattle.krb_registry.specs.declared.registry.Registry.TheVariants as registries
use Rattle.krb_registry.proofs.Names.{all_plain, name_is_plain}
use Rattle.krb_source.specs.Layers.{layer_name}
use Rattle.krb_source.specs.declared.endpoint.Endpoint.{Endpoint}
use Rattle.krb_source.specs.declared.layer.Layer.{Layer}
use Rattle.krb_source.specs.declared.layer.Layer.TheVariants as layers
use Rattle.krb_record.specs.Flows.{endpoint_text, host_text, transport_name}
use Rattle.krb_record.specs.Forms.{address_cell, cell, digest_cell, encrypted_cell, escaped_if, flags_cell, flow_cell, four_octets, is_mistaken, is_set, item_cell, item_octet, labelled, list_cell, name_cell, name_or_dash, named_cell, numbers_cell, offset_cell, or_empty, principal_cell, refused_cell, set_names, shown_octet, string_cell, string_of, true_or_false, value_text, whole_cell}
use Rattle.krb_record.specs.Text.{AllAreOctets, IsPrintable, two_hex}
use Rattle.krb_record.specs.Values.{Absent, Address, Called, Digest, Encrypted, ErrorCode, Field, FileName, Flags, Flow, Hex, Host, Layers, Named, NoReason, NoTicket, Number, Numbers, Offset, Principal, Quoted, Reason, RefusedTicket, Span, Status, String, TicketFlags, Value, Word, YesNo}
use Rattle.krb_record.specs.declared.flow.Transport.{Transport}
use Rattle.krb_record.specs.declared.flow.Transport.TheVariants as transports
use Rattle.krb_record.specs.declared.form.Base.TheVariants as bases
use Rattle.krb_record.specs.declared.path.Path.{Path}
use Rattle.krb_record.specs.declared.path.Path.TheVariants as paths
use Rattle.krb_record.specs.inner.Flags.{names_set}
use Rattle.krb_record.proofs.Printable.{Prints, is_printable, join, word}
use Rattle.krb_record.proofs.Reasons as reasons
use Rattle.krb_text_laws.proofs.EachForm.{AreShown, IsShown, labelled_field, names_are_plain, plain_name}
use Rattle.krb_text_laws.proofs.Flows as flow
use Rattle.krb_text_laws.proofs.Printable.{all_joined, always, either, every, flat, in_hex, number, optional, principal, signed}
use Rattle.krb_choice_laws.specs.Plain.{ArePlain, IsPlainField}

dash : Prints (codes "-")
dash = word (codes "-") refl

-- ---- strings
plain_octet : (o : ℕ) → (nat_le 0x20 o && nat_le o 0x7E && not (o == 0x5C)) ≡ true → (32 ≤ o) × (o ≤ 126)
plain_octet o e = (grind (arith, nat_tests), grind (arith, nat_tests))

hidden : (o : ℕ) → o < 256 → Prints (codes "\\x" ++ two_hex o)
hidden o h = join (word (codes "\\x") refl) (in_hex (o ∷ []) (h, tt))

octet : (o : ℕ) → o < 256 → Prints (shown_octet o)
octet o h = by (nat_le 0x20 o && nat_le o 0x7E && not (o == 0x5C)) refl
  where
    by : (plain : Bool) → (nat_le 0x20 o && nat_le o 0x7E && not (o == 0x5C)) ≡ plain → Prints (cond plain (o ∷ []) (codes "\\x" ++ two_hex o))
    by true e = record { all = (plain_octet o e, tt) }
    by false e = hidden o h

in_item : (o : ℕ) → o < 256 → Prints (item_octet o)
in_item o h = either (o == 0x2C) (word (codes "\\x2c") refl) (octet o h)

string_by : (show : ℕ → List ℕ) → ((o : ℕ) → o < 256 → Prints (show o)) → (octets : List ℕ) → AreOctets octets → Prints (string_of show octets)
string_by show s [] h = word (codes "\"\"") refl
string_by show s (o ∷ octets) h = join (by (is_mistaken (o ∷ octets))) (flat show (λ c. c < 256) s octets h.1)
  where
    by : (mistaken : Bool) → Prints (escaped_if mistaken show o)
    by true = hidden o h.0
    by false = s o h.0

string : (octets : List ℕ) → AreOctets octets → Prints (string_cell octets)
unfolding string_cell
string octets h = string_by shown_octet octet octets h

item : (octets : List ℕ) → AreOctets octets → Prints (item_cell octets)
unfolding item_cell
item octets h = string_by item_octet in_item octets h

file : (octets : List ℕ) → AreOctets octets → Prints (name_cell octets)
file [] h = word (codes "\"\"") refl
file (o ∷ octets) h = flat shown_octet (λ c. c < 256) octet (o ∷ octets) h

words_octets : (text : List ℕ) → IsPrintable text → AreOctets text
words_octets [] h = tt
words_octets (c ∷ others) h = (omega (arith, h.0.1), words_octets others h.1)

some : (text : List ℕ) → Prints text → Prints (or_empty text)
some [] h = word (codes "\"\"") refl
some (c ∷ others) h = h

-- ---- names, and lists
name_found : (registry : Registry) (n : ℤ) (found : Option (List ℕ)) → name_of registry n ≡ found → IfPresent IsPrintable found
name_found registry n None e = tt
name_found registry n (Some name) e = plain_name name (name_is_plain registry n name e)

name : (registry : Registry) (n : ℤ) → Prints (name_or_dash registry n)
name registry n = optional (λ name. name) IsPrintable (λ name h. record { all = h }) (name_of registry n) (name_found registry n (name_of registry n) refl)

in_list : (texts : List (List ℕ)) → AllByRecursion IsPrintable texts → Prints (list_cell texts)
in_list [] h = word (codes "[]") refl
in_list (text ∷ []) h = either (bytes_eq (codes "-") text) (word (codes "[-]") refl) (record { all = h.0 })
in_list (first ∷ second ∷ others) h = all_joined [] (codes ",") (λ text. text) IsPrintable (word [] refl) (word (codes ",") refl) (λ text p. record { all = p }) (first ∷ second ∷ others) h

each : {A : Type 0} (text : A → List ℕ) → ((a : A) → Prints (text a)) → (all : List A) → AllByRecursion IsPrintable (map text all)
each text p [] = tt
each text p (a ∷ all) = ((p a).all, each text p all)

kept : (keeps : Bool) (row : ℤ × List ℕ) (others : List (ℤ × List ℕ)) → IsPrintable row.1 → AllByRecursion IsPrintable (map (λ row. row.1) others) → AllByRecursion IsPrintable (map (λ row. row.1) (cond keeps (row ∷ others) others))
kept true row others this rest = (this, rest)
kept false row others this rest = rest

names_in : (octets : List ℕ) (listed : List (ℤ × List ℕ)) → list_all (λ row. list_all is_plain_in_rows row.1) listed ≡ true → AllByRecursion IsPrintable (names_set octets listed)
names_in octets [] e = tt
names_in octets (row ∷ others) e =
    let h = and_parts (list_all is_plain_in_rows row.1) (list_all (λ row. list_all is_plain_in_rows row.1) others) e in
    kept (is_set octets (unsigned_abs row.0)) row (filter (λ row. is_set octets (unsigned_abs row.0)) others) (plain_name row.1 h.0) (names_in octets others h.1)

flag_names : (registry : Registry) (octets : List ℕ) → AllByRecursion IsPrintable (set_names registry octets)
unfolding set_names
flag_names registry octets = names_in octets (rows registry) (all_plain registry)

-- ---- flows
transport : (t : Transport) → Prints (transport_name t)
transport transports.Udp = word _ refl
transport transports.Tcp = word _ refl

host : (a : IpAddr) → MatchIp a IsIpv4Addr IsIpv6Addr → Prints (host_text a)
host (addresses.V4 a) h = flow.address (addresses.V4 a) h
host (addresses.V6 a) h = join (join (word (codes "[") refl) (flow.address (addresses.V6 a) h)) (word (codes "]") refl)

endpoint : (e : Endpoint) → MatchIp e.address IsIpv4Addr IsIpv6Addr → Prints (endpoint_text e)
endpoint e h = join (join (host e.address h) (word (codes ":") refl)) (number e.port)

layer : (l : Layer) → Prints (layer_name l)
layer layers.Frame = word _ refl
layer layers.Gss = word _ refl
layer layers.Spnego = word _ refl

truth : (holds : Bool) → Prints (true_or_false holds)
truth true = word (codes "true") refl
truth false = word (codes "false") refl

pub four : (n : ℕ) → n < 2 ^ 32 → AreOctets (four_octets n)
four n h = (omega arith, (omega arith, (omega arith, (omega arith, tt))))

-- ---- by path
whole : (path : Path) (text : List ℕ) → Prints text → Prints (whole_cell path text)
whole paths.Whole text h = h
whole path text h = dash

named : (path : Path) (number name : List ℕ) → Prints number → Prints name → Prints (named_cell path number name)
named paths.Whole number name h k = h
named paths.Name number name h k = k
named path number name h k = dash

numbers : (path : Path) (registry : Registry) (all : List ℤ) → Prints (numbers_cell path registry all)
numbers paths.Whole registry all = in_list (map signed_decimal all) (each signed_decimal signed all)
numbers paths.Names registry all = in_list (map (name_or_dash registry) all) (each (name_or_dash registry) (name registry) all)
numbers path registry all = dash

flags : (path : Path) (text : List ℕ) (registry : Registry) (bits : ℕ × List ℕ) → Prints text → AreOctets bits.1 → Prints (flags_cell path text registry bits)
flags paths.Whole text registry bits h k = h
flags paths.Bits text registry bits h k = number _
flags paths.Hex text registry bits h k = some _ (in_hex bits.1 k)
flags paths.Names text registry bits h k = all_joined (codes "[]") (codes ",") (λ name. name) IsPrintable (word (codes "[]") refl) (word (codes ",") refl) (λ name p. record { all = p }) (set_names registry bits.1) (flag_names registry bits.1)
flags path text registry bits h k = dash

encrypted : (path : Path) (text : List ℕ) (etype : ℤ) (kvno : Option ℤ) (size : ℕ) → Prints text → Prints (encrypted_cell path text etype kvno size)
encrypted paths.Whole text etype kvno size h = h
encrypted paths.Etype text etype kvno size h = signed etype
encrypted paths.EtypeName text etype kvno size h = name registries.EncryptionTypes etype
encrypted paths.Kvno text etype kvno size h = always signed_decimal signed kvno
encrypted paths.Size text etype kvno size h = number size
encrypted path text etype kvno size h = dash

principal_by : (path : Path) (text : List ℕ) (name_type : ℤ) (components : List (List ℕ)) (realm : List ℕ) → Prints text → AllAreOctets components → AreOctets realm → Prints (principal_cell path text name_type components realm)
principal_by paths.Whole text name_type components realm h k r = h
principal_by paths.Text text name_type components realm h k r = h
principal_by paths.Type text name_type components realm h k r = signed name_type
principal_by paths.TypeName text name_type components realm h k r = name registries.NameTypes name_type
principal_by paths.Components text name_type components realm h k r = all_joined (codes "[]") (codes ",") item_cell AreOctets (word (codes "[]") refl) (word (codes ",") refl) item components k
principal_by paths.Realm text name_type components realm h k r = string realm r
principal_by path text name_type components realm h k r = dash

address : (path : Path) (text : List ℕ) (addr_type : ℤ) (octets : List ℕ) → Prints text → AreOctets octets → Prints (address_cell path text addr_type octets)
address paths.Whole text addr_type octets h k = h
address paths.Type text addr_type octets h k = signed addr_type
address paths.TypeName text addr_type octets h k = name registries.AddressTypes addr_type
address paths.Hex text addr_type octets h k = some _ (in_hex octets k)
address path text addr_type octets h k = dash

digest : (path : Path) (text : List ℕ) (cksumtype : ℤ) (size : ℕ) → Prints text → Prints (digest_cell path text cksumtype size)
digest paths.Whole text cksumtype size h = h
digest paths.Type text cksumtype size h = signed cksumtype
digest paths.TypeName text cksumtype size h = name registries.ChecksumTypes cksumtype
digest paths.Size text cksumtype size h = number size
digest path text cksumtype size h = dash

offset : (path : Path) (text : List ℕ) (seconds microseconds : ℤ) → Prints text → Prints (offset_cell path text seconds microseconds)
offset paths.Whole text seconds microseconds h = h
offset paths.Seconds text seconds microseconds h = signed seconds
offset paths.Microseconds text seconds microseconds h = signed microseconds
offset path text seconds microseconds h = dash

refused : (path : Path) (text : List ℕ) (r : Refusal) → Prints text → Prints (refused_cell path text r)
refused paths.Whole text r h = h
refused paths.Place text r h = number r.place
refused paths.Why text r h = number (reason_number r.why)
refused paths.WhyName text r h = reasons.name r.why
refused path text r h = dash

flows : (path : Path) (t : Transport) (source target : Endpoint) → MatchIp source.address IsIpv4Addr IsIpv6Addr → MatchIp target.address IsIpv4Addr IsIpv6Addr → Prints (flow_cell path t source target)
flows paths.Whole t source target h k = flow.in_line t source target (h, k)
flows paths.Over t source target h k = transport t
flows paths.Source t source target h k = endpoint source h
flows paths.SourceAddress t source target h k = flow.address source.address h
flows paths.SourcePort t source target h k = number source.port
flows paths.Target t source target h k = endpoint target k
flows paths.TargetAddress t source target h k = flow.address target.address k
flows paths.TargetPort t source target h k = number target.port
flows path t source target h k = dash

-- ---- values
in_text : (value : Value) → IsShown value → Prints (value_text true value)
unfolding labelled
in_text value h = labelled_field bases.NamedLines [] [] value (word [] refl) (word [] refl) h

in_cell : (path : Path) (value : Value) → IsShown value → Prints (cell path value)
unfolding cell value_text
in_cell path Absent h = dash
in_cell path NoTicket h = dash
in_cell path (Number n) h = whole path (signed_decimal n) (signed n)
in_cell path (Named registry n) h = named path (signed_decimal n) (name_or_dash registry n) (signed n) (name registry n)
in_cell path (Numbers registry ns) h = numbers path registry ns
in_cell path (ErrorCode code) h = named path (signed_decimal code) (name_or_dash registries.ErrorCodes code) (signed code) (name registries.ErrorCodes code)
in_cell path (Status n) h = named path _ (name_or_dash registries.Statuses (pos n)) (in_hex (four_octets n) (four n h)) (name registries.Statuses (pos n))
in_cell path (Reason n word) h = named path (decimal n) (string_cell word) (number n) (string word (words_octets word h))
in_cell path NoReason h = dash
in_cell path (String octets) h = whole path (string_cell octets) (string octets h)
in_cell path (Quoted octets) h = whole path (string_cell octets) (string octets h)
in_cell path (FileName octets) h = whole path (name_cell octets) (file octets h)
in_cell path (Word text) h = whole path (string_cell text) (string text (words_octets text h))
in_cell path (Hex octets) h = whole path _ (some _ (in_hex octets h))
in_cell path (Flags registry bits) h = flags path _ registry bits (in_text (Flags registry bits) h) h
in_cell path (TicketFlags bits) h = flags path _ registries.TicketFlags (0, four_octets bits) (in_text (TicketFlags bits) h) (four bits h)
in_cell path (Encrypted etype kvno size) h = encrypted path _ etype kvno size (in_text (Encrypted etype kvno size) h)
in_cell path (Principal name_type components realm) h = principal_by path _ name_type components realm (principal components realm h.0 h.1) h.0 h.1
in_cell path (Address addr_type octets) h = address path _ addr_type octets (in_text (Address addr_type octets) h) h
in_cell path (Digest cksumtype size) h = digest path _ cksumtype size (in_text (Digest cksumtype size) h)
in_cell path (YesNo holds) h = whole path (true_or_false holds) (truth holds)
in_cell path (Offset seconds microseconds) h = offset path _ seconds microseconds (in_text (Offset seconds microseconds) h)
in_cell path (RefusedTicket r) h = refused path _ r (in_text (RefusedTicket r) h)
in_cell path (Flow t source target) h = flows path t source target h.0 h.1
in_cell path (Layers ls) h = whole path _ (all_joined (codes "[]") (codes ",") layer_name (λ l. Unit {0}) (word (codes "[]") refl) (word (codes ",") refl) (λ l p. layer l) ls (every ls))
in_cell path (Span microseconds) h = whole path (signed_decimal microseconds) (signed microseconds)
in_cell path (Called n found) h = named path (decimal n) _ (number n) (optional (λ name. name) IsPrintable (λ name p. record { all = p }) found h)
in_cell path (Host a) h = whole path (ip_text a) (flow.address a h)

-- ---- fields
in_lines : (names : Bool) (value : Value) → IsShown value → Prints (value_text names value)
unfolding labelled
in_lines false value h = labelled_field bases.Lines [] [] value (word [] refl) (word [] refl) h
in_lines true value h = in_text value h

pub plain-field : (f : Field) → list_all is_printable f.name ≡ true → IsShown f.value → IsPlainField f
unfolding labelled
plain-field f e h = record {
  name = (word f.name e).all;
  line = λ names. (in_lines names f.value h).all;
  object = (labelled_field bases.Json [] (codes ",\"" ++ f.name) f.value (word [] refl) (join (word (codes ",\"") refl) (word f.name e)) h).all;
  cells = λ path. (in_cell path f.value h).all;
}

pub plain-fields : (fields : List Field) → names_are_plain fields ≡ true → AreShown fields → ArePlain fields
plain-fields [] e h = tt
plain-fields (f ∷ others) e h =
    let parts = and_parts (list_all is_printable f.name) (names_are_plain others) e in
    (plain-field f parts.0 h.0, plain-fields others parts.1 h.1)
