-- What a value shows is printable in each form, if its octets are octets and its words are printable; and so is a record of such values.
use Rattle.std.proofs.Common.{◌≡◌, ℕ, ℤ, pos, negsuc, unsigned_abs, ◌+◌, ◌-◌, ◌/◌, ◌^◌, ◌<◌, ◌≤◌, ◌==◌, ◌&&◌, nat_le, not, Bool, true, false, cond, Option, Some, None, List, [], ◌∷◌, ◌++◌, length, map, refl, arith, codes, if◌then◌else◌}
use Rattle.std.proofs.lemmas.Bool.{and_parts}
use Rattle.std.proofs.lemmas.Bool.Decides.{nat_tests}
use Rattle.std.proofs.lemmas.Nat.{and_le_r}
use Rattle.std.specs.List.{AllByRecursion, filter, flat_map, list_all}
use Rattle.std.specs.Fmt.{signed_decimal}
use Rattle.std.specs.Net.Addr.{IsIpv4Addr, IsIpv6Addr, MatchIp}
use Rattle.krb_der.specs.Octets.{AreOctets}
use Rattle.krb_der.specs.Reasons.{reason_number, reason_name}
use Rattle.krb_der.specs.declared.verdict.Refusal.{Refusal}
use Rattle.krb_msg.specs.Term.{IfPresent}
use Rattle.krb_registry.specs.Laws.{is_plain as is_plain_in_rows}
use Rattle.krb_registry.specs.Rows.{rows, name_of}
use Rattle.krb_registry.specs.declared.registry.Registry.{Registry}
use Rattle.krb_registry.specs.declared.registry.Registry.TheVariants as registries
use Rattle.krb_registry.proofs.Names.{all_plain, each_octet, name_is_plain, plain_octet}
use Rattle.krb_record.specs.declared.form.Base.{Base}
use Rattle.krb_record.specs.declared.form.Base.TheVariants as bases
use Rattle.krb_record.specs.Errors.{code_name, code_suffix, code_text}
use Rattle.krb_record.specs.FileNames.{is_plain_in_name, name_octet, name_text}
use Rattle.krb_record.specs.Forms.{four_octets, called_text, plus_text, unnamed, unnamed_from, named_in, is_set, set_names, named_flags_text, number_text, status_text, flags_text, refused_ticket_text, seconds_text, span_text, value_text, json_character, json_string, shown_octet, octets_string, or_null, name_string, flags_object, encrypted_object, principal_object, address_object, digest_object, offset_object, refused_object, true_or_false, json_value, names_member, members, labelled, field, opening, closing, fields_text, origin_text, opening_from, heading, part_text, inside_text, parts_text, unless_line, last_text, ending, form_of, aside_text, record_text}
use Rattle.krb_record.specs.Text.{AllAreOctets, IsPrintable, principal_text, two_hex, yes_or_no}
use Rattle.krb_record.specs.TicketFlags.{flag_name, set_flags, names_text, other_flags, eight_hex, others_text, ticket_flags_text}
use Rattle.krb_record.specs.Values.{Value, Absent, NoTicket, Number, Named, Numbers, ErrorCode, Status, Reason, NoReason, String, Quoted, FileName, Word, Hex, Flags, TicketFlags, Encrypted, Principal, Address, Digest, YesNo, Offset, RefusedTicket, Flow, Layers, Span, Called, Host, Field, LastLine, Part, Printed}
use Rattle.krb_record.specs.inner.Flags.{names_set}
use Rattle.krb_source.specs.Layers.{layer_name}
use Rattle.krb_source.specs.declared.layer.Layer.{Layer}
use Rattle.krb_source.specs.declared.layer.Layer.TheVariants as layers
use Rattle.krb_text_laws.proofs.Flows as flow
use Rattle.krb_record.proofs.Times.{all-digits}
use Rattle.krb_record.proofs.Printable.{Prints, is_printable, word, join}
use Rattle.krb_text_laws.proofs.Printable.{either, flat, number, signed, escaped, in_hex, optional, always, all_joined, every, listed, list, principal}
use Rattle.krb_record.proofs.Reasons as reasons

-- ---- octets that are not escaped, or are `\x` and two digits
octet : (plain : Bool) (o : ℕ) → o < 256 → (plain ≡ true → (32 ≤ o) × (o ≤ 126)) → Prints (if plain then o ∷ [] else codes "\\x" ++ two_hex o)
octet true o small range = record { all = (range refl, tt) }
octet false o small range = join (word (codes "\\x") refl) (in_hex (o ∷ []) (small, tt))

plain_in_name : (o : ℕ) → is_plain_in_name o ≡ true → (32 ≤ o) × (o ≤ 126)
plain_in_name o e = (grind (arith, nat_tests), grind (arith, nat_tests))

file_name : (name : List ℕ) → AreOctets name → Prints (name_text name)
file_name name h = flat name_octet (λ o. o < 256) (λ o small. octet (is_plain_in_name o) o small (plain_in_name o)) name h

abbrev is_plain_in_string : ℕ → Bool
is_plain_in_string o = nat_le 0x20 o && nat_le o 0x7E && not (o == 0x5C)

plain_in_string : (o : ℕ) → is_plain_in_string o ≡ true → (32 ≤ o) × (o ≤ 126)
plain_in_string o e = (grind (arith, nat_tests), grind (arith, nat_tests))

-- ---- strings of JSON
character : (c : ℕ) → (32 ≤ c) × (c ≤ 126) → Prints (json_character c)
character c h = either (c == 0x22) (word (codes "\\\"") refl) (either (c == 0x5C) (word (codes "\\\\") refl) (record { all = (h, tt) }))

string : (text : List ℕ) → IsPrintable text → Prints (json_string text)
string text h = join (join (word (codes "\"") refl) (flat json_character (λ c. (32 ≤ c) × (c ≤ 126)) character text h)) (word (codes "\"") refl)

octets_in_string : (octets : List ℕ) → AreOctets octets → Prints (octets_string octets)
octets_in_string octets h =
    string (flat_map shown_octet octets) (flat shown_octet (λ o. o < 256) (λ o small. octet (is_plain_in_string o) o small (plain_in_string o)) octets h).all

nullable : {A : Type 0} (text : A → List ℕ) (P : A → Type 0) → ((v : A) → P v → Prints (text v)) → (v : Option A) → IfPresent P v → Prints (or_null text v)
nullable text P shown None h = word (codes "null") refl
nullable text P shown (Some v) h = shown v h

or_no_number : (n : Option ℤ) → Prints (or_null signed_decimal n)
or_no_number None = word (codes "null") refl
or_no_number (Some n) = signed n

-- ---- the names of numbers
plain_prints : (octet : ℕ) → is_plain_in_rows octet ≡ true → (32 ≤ octet) × (octet ≤ 126)
plain_prints octet e = let h = plain_octet octet e in (omega (arith, h.least), h.greatest)

pub plain_name : (name : List ℕ) → list_all is_plain_in_rows name ≡ true → IsPrintable name
plain_name name e = each_octet (λ c. (32 ≤ c) × (c ≤ 126)) plain_prints name e

name_found : (registry : Registry) (n : ℤ) (found : Option (List ℕ)) → name_of registry n ≡ found → IfPresent IsPrintable found
name_found registry n None e = tt
name_found registry n (Some name) e = plain_name name (name_is_plain registry n name e)

its_name : (registry : Registry) (n : ℤ) → IfPresent IsPrintable (name_of registry n)
its_name registry n = name_found registry n (name_of registry n) refl

numbered : (names : Bool) (registry : Registry) (n : ℤ) → Prints (number_text names registry n)
numbered false registry n = signed n
numbered true registry n = join (join (signed n) (word (codes ":") refl)) (optional (λ name. name) IsPrintable (λ name h. record { all = h }) (name_of registry n) (its_name registry n))

called : (names : Bool) (n : ℕ) (name : Option (List ℕ)) → IfPresent IsPrintable name → Prints (called_text names n name)
called false n name h = number n
called true n name h = join (join (number n) (word (codes ":") refl)) (optional (λ name. name) IsPrintable (λ name h. record { all = h }) name h)

name_in_string : (registry : Registry) (n : ℤ) → Prints (name_string registry n)
name_in_string registry n = nullable json_string IsPrintable string (name_of registry n) (its_name registry n)

-- ---- flags by name
kept : (keeps : Bool) (row : ℤ × List ℕ) (others : List (ℤ × List ℕ)) → IsPrintable row.1 → AllByRecursion IsPrintable (map (λ row. row.1) others) → AllByRecursion IsPrintable (map (λ row. row.1) (cond keeps (row ∷ others) others))
kept true row others this rest = (this, rest)
kept false row others this rest = rest

names_of_rows : (octets : List ℕ) (listed : List (ℤ × List ℕ)) → list_all (λ row. list_all is_plain_in_rows row.1) listed ≡ true → AllByRecursion IsPrintable (names_set octets listed)
names_of_rows octets [] e = tt
names_of_rows octets (row ∷ others) e =
    let h = and_parts (list_all is_plain_in_rows row.1) (list_all (λ row. list_all is_plain_in_rows row.1) others) e in
    kept (is_set octets (unsigned_abs row.0)) row (filter (λ row. is_set octets (unsigned_abs row.0)) others) (plain_name row.1 h.0) (names_of_rows octets others h.1)

names_that_are_set : (registry : Registry) (octets : List ℕ) → AllByRecursion IsPrintable (set_names registry octets)
unfolding set_names
names_that_are_set registry octets = names_of_rows octets (rows registry) (all_plain registry)

unnamed_octets : (k : ℕ) (registry : Registry) (octets : List ℕ) → AreOctets (unnamed_from k registry octets)
unnamed_octets k registry [] = tt
unnamed_octets k registry (octet ∷ octets) = (omega (arith, and_le_r octet (255 - named_in k (rows registry))), unnamed_octets (k + 1) registry octets)

plus : (octets : List ℕ) → AreOctets octets → Prints (plus_text octets)
plus octets h = either (list_all (λ octet. octet == 0) octets) (word [] refl) (join (word (codes "+") refl) (in_hex octets h))

named_flags : (registry : Registry) (octets : List ℕ) → Prints (named_flags_text registry octets)
unfolding named_flags_text unnamed
named_flags registry octets =
    join
    (all_joined (codes "-") (codes ",") (λ name. name) IsPrintable (word (codes "-") refl) (word (codes ",") refl) (λ name h. record { all = h }) (set_names registry octets) (names_that_are_set registry octets))
    (plus (unnamed_from 0 registry octets) (unnamed_octets 0 registry octets))

flags : (names : Bool) (registry : Registry) (bits : ℕ × List ℕ) → AreOctets bits.1 → Prints (flags_text names registry bits)
flags false registry bits h = join (join (number _) (word (codes ":") refl)) (in_hex bits.1 h)
flags true registry bits h = join (join (join (join (number _) (word (codes ":") refl)) (in_hex bits.1 h)) (word (codes ":") refl)) (named_flags registry bits.1)

flags_in_object : (registry : Registry) (bits : ℕ × List ℕ) → AreOctets bits.1 → Prints (flags_object registry bits)
flags_in_object registry bits h =
    join (join (join (join (join (join (word (codes "{\"bits\":") refl) (number _))
    (word (codes ",\"hex\":\"") refl)) (in_hex bits.1 h))
    (word (codes "\",\"names\":") refl)) (listed json_string IsPrintable string (set_names registry bits.1) (names_that_are_set registry bits.1)))
    (word (codes "}") refl)

-- ---- the flags of a ticket
four : (n : ℕ) → n < 2 ^ 32 → AreOctets (four_octets n)
four n h = (omega arith, (omega arith, (omega arith, (omega arith, tt))))

one_flag : (flag : ℕ) → Prints (flag_name flag)
unfolding flag_name
one_flag flag =
    either (flag == 0x4000_0000) (word _ refl) (either (flag == 0x2000_0000) (word _ refl) (either (flag == 0x1000_0000) (word _ refl)
    (either (flag == 0x0800_0000) (word _ refl) (either (flag == 0x0400_0000) (word _ refl) (either (flag == 0x0200_0000) (word _ refl)
    (either (flag == 0x0100_0000) (word _ refl) (either (flag == 0x0080_0000) (word _ refl) (either (flag == 0x0040_0000) (word _ refl)
    (either (flag == 0x0020_0000) (word _ refl) (either (flag == 0x0010_0000) (word _ refl) (either (flag == 0x0008_0000) (word _ refl) (word _ refl))))))))))))

flag_names : (bits : ℕ) → Prints (names_text bits)
unfolding names_text
flag_names bits = all_joined (codes "-") (codes ",") flag_name (λ flag. Unit {0}) (word (codes "-") refl) (word (codes ",") refl) (λ flag h. one_flag flag) (set_flags bits) (every (set_flags bits))

eight : (n : ℕ) → n < 2 ^ 32 → Prints (eight_hex n)
unfolding eight_hex
eight n h = in_hex (four_octets n) (four n h)

other_bits : (n : ℕ) → n < 2 ^ 32 → Prints (others_text n)
other_bits n h = either (n == 0) (word [] refl) (join (word (codes "+") refl) (eight n h))

ticket_flags : (bits : ℕ) → Prints (ticket_flags_text bits)
unfolding ticket_flags_text
ticket_flags bits = join (flag_names bits) (other_bits (other_flags bits) (omega (arith, and_le_r bits 0x8003_FFFF)))

-- ---- statuses
status : (names : Bool) (n : ℕ) → n < 2 ^ 32 → Prints (status_text names n)
status false n h = in_hex (four_octets n) (four n h)
status true n h =
    join (join (in_hex (four_octets n) (four n h)) (word (codes ":") refl)) (optional (λ name. name) IsPrintable (λ name h. record { all = h }) (name_of registries.Statuses (pos n)) (its_name registries.Statuses (pos n)))

-- ---- the codes of errors
error_name : (n : ℕ) → Prints (code_name n)
unfolding code_name
error_name n =
    either (n == 6) (word _ refl) (either (n == 7) (word _ refl) (either (n == 14) (word _ refl) (either (n == 24) (word _ refl) (either (n == 25) (word _ refl)
    (either (n == 37) (word _ refl) (either (n == 52) (word _ refl) (either (n == 60) (word _ refl) (either (n == 61) (word _ refl) (word [] refl)))))))))

error_suffix : (n : ℤ) → Prints (code_suffix n)
unfolding code_suffix
error_suffix (pos n) = error_name n
error_suffix (negsuc n) = word [] refl

error_code : (n : ℤ) → Prints (code_text n)
unfolding code_text
error_code n = join (signed n) (error_suffix n)

-- ---- other values
refused_by_number : (r : Refusal) → Prints (refused_ticket_text false r)
refused_by_number r = join (join (join (word (codes "refused:") refl) (number r.place)) (word (codes ":") refl)) (number (reason_number r.why))

refused_ticket : (names : Bool) (r : Refusal) → Prints (refused_ticket_text names r)
refused_ticket false r = refused_by_number r
refused_ticket true r = join (join (refused_by_number r) (word (codes ":") refl)) (reasons.name r.why)

refused_in_object : (r : Refusal) → Prints (refused_object r)
refused_in_object r =
    join (join (join (join (join (join (word (codes "{\"refused\":{\"place\":") refl) (number r.place))
    (word (codes ",\"why\":") refl)) (number (reason_number r.why)))
    (word (codes ",\"why_name\":") refl)) (string (reason_name r.why) (reasons.name r.why).all))
    (word (codes "}}") refl)

encrypted_in_object : (etype : ℤ) (kvno : Option ℤ) (size : ℕ) → Prints (encrypted_object etype kvno size)
encrypted_in_object etype kvno size =
    join (join (join (join (join (join (join (join (word (codes "{\"etype\":") refl) (signed etype))
    (word (codes ",\"etype_name\":") refl)) (name_in_string registries.EncryptionTypes etype))
    (word (codes ",\"kvno\":") refl)) (or_no_number kvno))
    (word (codes ",\"size\":") refl)) (number size))
    (word (codes "}") refl)

principal_in_object : (name_type : ℤ) (components : List (List ℕ)) (realm : List ℕ) → AllAreOctets components → AreOctets realm → Prints (principal_object name_type components realm)
principal_in_object name_type components realm h k =
    join (join (join (join (join (join (join (join (join (join (word (codes "{\"text\":") refl) (string (principal_text components realm) (principal components realm h k).all))
    (word (codes ",\"type\":") refl)) (signed name_type))
    (word (codes ",\"type_name\":") refl)) (name_in_string registries.NameTypes name_type))
    (word (codes ",\"components\":") refl)) (listed octets_string AreOctets octets_in_string components h))
    (word (codes ",\"realm\":") refl)) (octets_in_string realm k))
    (word (codes "}") refl)

address_in_object : (addr_type : ℤ) (octets : List ℕ) → AreOctets octets → Prints (address_object addr_type octets)
address_in_object addr_type octets h =
    join (join (join (join (join (join (word (codes "{\"type\":") refl) (signed addr_type))
    (word (codes ",\"type_name\":") refl)) (name_in_string registries.AddressTypes addr_type))
    (word (codes ",\"hex\":\"") refl)) (in_hex octets h))
    (word (codes "\"}") refl)

digest_in_object : (cksumtype : ℤ) (size : ℕ) → Prints (digest_object cksumtype size)
digest_in_object cksumtype size =
    join (join (join (join (join (join (word (codes "{\"type\":") refl) (signed cksumtype))
    (word (codes ",\"type_name\":") refl)) (name_in_string registries.ChecksumTypes cksumtype))
    (word (codes ",\"size\":") refl)) (number size))
    (word (codes "}") refl)

offset_in_object : (seconds microseconds : ℤ) → Prints (offset_object seconds microseconds)
offset_in_object seconds microseconds =
    join (join (join (join (word (codes "{\"seconds\":") refl) (signed seconds)) (word (codes ",\"microseconds\":") refl)) (signed microseconds)) (word (codes "}") refl)

in_seconds : (microseconds : ℕ) → Prints (seconds_text microseconds)
in_seconds microseconds = join (join (number (microseconds / 1000000)) (word (codes ".") refl)) (record { all = all-digits 6 microseconds })

span : (microseconds : ℤ) → Prints (span_text microseconds)
unfolding span_text
span (pos microseconds) = in_seconds microseconds
span (negsuc less) = join (word (codes "-") refl) (in_seconds (less + 1))

yes_or : (holds : Bool) → Prints (yes_or_no holds)
yes_or true = word (codes "yes") refl
yes_or false = word (codes "no") refl

true_or : (holds : Bool) → Prints (true_or_false holds)
true_or true = word (codes "true") refl
true_or false = word (codes "false") refl

-- ---- values
-- octets are octets, words are printable, and flags are a number of 32 bits
layer : (l : Layer) → Prints (layer_name l)
layer layers.Frame = word _ refl
layer layers.Gss = word _ refl
layer layers.Spnego = word _ refl

layer_in_string : (l : Layer) → Prints (json_string (layer_name l))
layer_in_string l = string (layer_name l) (layer l).all

abbrev pub IsShown : Value → Type 0
IsShown (Status number) = number < 2 ^ 32
IsShown (Reason number name) = IsPrintable name
IsShown (String octets) = AreOctets octets
IsShown (Quoted octets) = AreOctets octets
IsShown (FileName octets) = AreOctets octets
IsShown (Word text) = IsPrintable text
IsShown (Hex octets) = AreOctets octets
IsShown (Flags registry bits) = AreOctets bits.1
IsShown (TicketFlags flags) = flags < 2 ^ 32
IsShown (Principal name_type components realm) = AllAreOctets components × AreOctets realm
IsShown (Address addr_type octets) = AreOctets octets
IsShown (Flow transport source target) = flow.IsFlowInRange source target
IsShown (Called number name) = IfPresent IsPrintable name
IsShown (Host address) = MatchIp address IsIpv4Addr IsIpv6Addr
IsShown value = Unit {0}

in_line : (names : Bool) (value : Value) → IsShown value → Prints (value_text names value)
unfolding value_text
in_line names Absent h = word (codes "-") refl
in_line names NoTicket h = word (codes "absent") refl
in_line names (Number n) h = signed n
in_line names (Named registry n) h = numbered names registry n
in_line names (Numbers registry ns) h = list (number_text names registry) (numbered names registry) ns
in_line false (ErrorCode code) h = error_code code
in_line true (ErrorCode code) h = numbered true registries.ErrorCodes code
in_line names (Status number) h = status names number h
in_line names (Reason n name) h = join (join (number n) (word (codes " ") refl)) (record { all = h })
in_line names NoReason h = word (codes "-") refl
in_line names (String octets) h = escaped octets h
in_line names (Quoted octets) h = join (join (word (codes "\"") refl) (escaped octets h)) (word (codes "\"") refl)
in_line names (FileName octets) h = file_name octets h
in_line names (Word text) h = record { all = h }
in_line names (Hex octets) h = in_hex octets h
in_line names (Flags registry bits) h = flags names registry bits h
in_line false (TicketFlags bits) h = ticket_flags bits
in_line true (TicketFlags bits) h = named_flags registries.TicketFlags (four_octets bits)
in_line names (Encrypted etype kvno size) h =
    join (join (join (join (numbered names registries.EncryptionTypes etype) (word (codes ":") refl)) (always signed_decimal signed kvno)) (word (codes ":") refl)) (number size)
in_line names (Principal name_type components realm) h = principal components realm h.0 h.1
in_line names (Address addr_type octets) h = join (join (numbered names registries.AddressTypes addr_type) (word (codes ":") refl)) (in_hex octets h)
in_line names (Digest cksumtype size) h = join (join (numbered names registries.ChecksumTypes cksumtype) (word (codes ":") refl)) (number size)
in_line names (YesNo holds) h = yes_or holds
in_line names (Offset seconds microseconds) h = join (join (signed seconds) (word (codes ":") refl)) (signed microseconds)
in_line names (RefusedTicket r) h = refused_ticket names r
in_line names (Flow transport source target) h = flow.in_line transport source target h
in_line names (Span microseconds) h = span microseconds
in_line names (Called n name) h = called names n name h
in_line names (Host address) h = flow.address address h
in_line names (Layers ls) h = all_joined [] (codes ",") layer_name (λ l. Unit {0}) (word [] refl) (word (codes ",") refl) (λ l h. layer l) ls (every ls)

in_object : (value : Value) → IsShown value → Prints (json_value value)
unfolding json_value
in_object Absent h = word (codes "null") refl
in_object NoTicket h = word (codes "null") refl
in_object (Number n) h = signed n
in_object (Named registry n) h = signed n
in_object (Numbers registry ns) h = list signed_decimal signed ns
in_object (ErrorCode code) h = signed code
in_object (Status number) h = join (join (word (codes "\"") refl) (in_hex (four_octets number) (four number h))) (word (codes "\"") refl)
in_object (Reason n name) h = number n
in_object NoReason h = word (codes "null") refl
in_object (String octets) h = octets_in_string octets h
in_object (Quoted octets) h = octets_in_string octets h
in_object (FileName octets) h = octets_in_string octets h
in_object (Word text) h = string text h
in_object (Hex octets) h = join (join (word (codes "\"") refl) (in_hex octets h)) (word (codes "\"") refl)
in_object (Flags registry bits) h = flags_in_object registry bits h
in_object (TicketFlags bits) h = flags_in_object registries.TicketFlags (0, four_octets bits) (four bits h)
in_object (Encrypted etype kvno size) h = encrypted_in_object etype kvno size
in_object (Principal name_type components realm) h = principal_in_object name_type components realm h.0 h.1
in_object (Address addr_type octets) h = address_in_object addr_type octets h
in_object (Digest cksumtype size) h = digest_in_object cksumtype size
in_object (YesNo holds) h = true_or holds
in_object (Offset seconds microseconds) h = offset_in_object seconds microseconds
in_object (RefusedTicket r) h = refused_in_object r
in_object (Flow transport source target) h = flow.in_object transport source target h
in_object (Span microseconds) h = signed microseconds
in_object (Called n name) h = number n
in_object (Host address) h = join (join (word (codes "\"") refl) (flow.address address h)) (word (codes "\"") refl)
in_object (Layers ls) h = list (λ l. json_string (layer_name l)) layer_in_string ls

after_value : (begin : List ℕ) (value : Value) → Prints begin → IsShown value → Prints (names_member begin value)
unfolding names_member
after_value begin (Named registry n) before h = join (join before (word (codes "_name\":") refl)) (name_in_string registry n)
after_value begin (ErrorCode code) before h = join (join before (word (codes "_name\":") refl)) (name_in_string registries.ErrorCodes code)
after_value begin (Status number) before h = join (join before (word (codes "_name\":") refl)) (name_in_string registries.Statuses (pos number))
after_value begin (Reason n name) before h = join (join before (word (codes "_name\":") refl)) (string name h)
after_value begin (Called n name) before h = join (join before (word (codes "_name\":") refl)) (nullable json_string IsPrintable string name h)
after_value begin NoReason before h = join before (word (codes "_name\":null") refl)
after_value begin (Numbers registry ns) before h = join (join before (word (codes "_names\":") refl)) (list (name_string registry) (name_in_string registry) ns)
after_value begin value before h = word [] refl

-- ---- fields and records
pub labelled_field : (base : Base) (label begin : List ℕ) (value : Value) → Prints label → Prints begin → IsShown value → Prints (labelled (form_of base) label begin value)
unfolding labelled members
labelled_field bases.Lines label begin value l b h = join l (in_line false value h)
labelled_field bases.NamedLines label begin value l b h = join l (in_line true value h)
labelled_field bases.Json label begin value l b h = join (join (join b (word (codes "\":") refl)) (in_object value h)) (after_value begin value b h)

pub one_field : (base : Base) (name : List ℕ) (value : Value) → list_all is_printable name ≡ true → IsShown value → Prints (field (form_of base) name value)
one_field base name value e h =
    labelled_field base (codes " " ++ name ++ codes "=") (codes ",\"" ++ name) value (join (join (word (codes " ") refl) (word name e)) (word (codes "=") refl)) (join (word (codes ",\"") refl) (word name e)) h

abbrev pub AreShown : List Field → Type 0
AreShown fields = AllByRecursion (λ (this : Field). IsShown this.value) fields

abbrev pub names_are_plain : List Field → Bool
names_are_plain fields = list_all (λ (this : Field). list_all is_printable this.name) fields

pub all_fields : (base : Base) (fields : List Field) → names_are_plain fields ≡ true → AreShown fields → Prints (fields_text (form_of base) fields)
all_fields base [] e h = word [] refl
all_fields base (first ∷ others) e h =
    let names = and_parts (list_all is_printable first.name) (names_are_plain others) e in
    join (one_field base first.name first.value names.0 h.0) (all_fields base others names.1 h.1)

pub begins : (base : Base) (kind : List ℕ) → list_all is_printable kind ≡ true → Prints (opening (form_of base) kind)
unfolding opening
begins bases.Lines kind e = word kind e
begins bases.NamedLines kind e = word kind e
begins bases.Json kind e = join (join (word (codes "{\"kind\":\"") refl) (word kind e)) (word (codes "\"") refl)

pub ends : (base : Base) → Prints (closing (form_of base))
unfolding closing
ends bases.Lines = word [] refl
ends bases.NamedLines = word [] refl
ends bases.Json = word (codes "}") refl

-- the fields of an origin, and what precedes the fields of a record
comes_from : (base : Base) (origin : List Field) → names_are_plain origin ≡ true → AreShown origin → Prints (origin_text (form_of base) origin)
comes_from base [] e h = word [] refl
comes_from base (first ∷ others) e h =
    let names = and_parts (list_all is_printable first.name) (names_are_plain others) e in
    join
    (labelled_field base (first.name ++ codes "=") (codes ",\"" ++ first.name) first.value (join (word first.name names.0) (word (codes "=") refl)) (join (word (codes ",\"") refl) (word first.name names.0)) h.0)
    (all_fields base others names.1 h.1)

begins_from : (base : Base) (origin : List Field) (kind : List ℕ) → names_are_plain origin ≡ true → AreShown origin → list_all is_printable kind ≡ true → Prints (opening_from (form_of base) origin kind)
unfolding opening_from
begins_from bases.Lines origin kind e h k = join (join (comes_from bases.Lines origin e h) (word (codes " ") refl)) (word kind k)
begins_from bases.NamedLines origin kind e h k = join (join (comes_from bases.NamedLines origin e h) (word (codes " ") refl)) (word kind k)
begins_from bases.Json origin kind e h k = join (begins bases.Json kind k) (comes_from bases.Json origin e h)

heads : (base : Base) (origin : List Field) (kind : List ℕ) → names_are_plain origin ≡ true → AreShown origin → list_all is_printable kind ≡ true → Prints (heading (form_of base) origin kind)
heads base [] kind e h k = begins base kind k
heads base (first ∷ others) kind e h k = begins_from base (first ∷ others) kind e h k

-- ---- what is inside
-- the kind and the names of a part are plain, and its values are shown
pub record IsPlainPart (p : Part) : Type 0 where
  pub kind : list_all is_printable p.kind ≡ true
  pub names : names_are_plain p.fields ≡ true
  pub fields : AreShown p.fields

abbrev pub ArePlainParts : List Part → Type 0
ArePlainParts parts = AllByRecursion IsPlainPart parts

a_part : (base : Base) (p : Part) → IsPlainPart p → Prints (part_text (form_of base) p)
unfolding part_text
a_part base p h = join (join (begins base p.kind h.kind) (all_fields base p.fields h.names h.fields)) (ends base)

parts_print : (base : Base) (parts : List Part) → ArePlainParts parts → Prints (inside_text (form_of base) parts)
unfolding inside_text
parts_print bases.Lines parts h = word [] refl
parts_print bases.NamedLines parts h =
    join (join (word (codes " inside=") refl) (number (length parts))) (flat (λ p. codes " " ++ part_text (form_of bases.NamedLines) p) IsPlainPart (λ p plain. join (word (codes " ") refl) (a_part bases.NamedLines p plain)) parts h)
parts_print bases.Json parts h = join (word (codes ",\"inside\":") refl) (listed (part_text (form_of bases.Json)) IsPlainPart (a_part bases.Json) parts h)

parts_if : (base : Base) (inside : Option (List Part)) → IfPresent ArePlainParts inside → Prints (parts_text (form_of base) inside)
parts_if base None h = word [] refl
parts_if base (Some parts) h = parts_print base parts h

-- ---- what is last
abbrev pub ArePlain : List Field → Type 0
ArePlain fields = (names_are_plain fields ≡ true) × AreShown fields

objects_alone : (base : Base) (fields : List Field) → ArePlain fields → Prints (unless_line (form_of base) fields)
objects_alone bases.Lines fields h = word [] refl
objects_alone bases.NamedLines fields h = word [] refl
objects_alone bases.Json fields h = all_fields bases.Json fields h.0 h.1

lasts : (base : Base) (last : List Field) → ArePlain last → Prints (last_text (form_of base) last)
lasts base [] h = word [] refl
lasts base (first ∷ others) h = objects_alone base (first ∷ others) h

ends_with : (base : Base) (inside : Option (List Part)) (last : List Field) → IfPresent ArePlainParts inside → ArePlain last → Prints (ending (form_of base) inside last)
ends_with base inside last h k = join (parts_if base inside h) (join (lasts base last k) (ends base))

-- of what is aside, which marked ones alone have, nothing
nothing_aside : (base : Base) (aside : Option LastLine) → Prints (aside_text (form_of base) aside)
nothing_aside base None = word [] refl
nothing_aside bases.Lines (Some line) = word [] refl
nothing_aside bases.NamedLines (Some line) = word [] refl
nothing_aside bases.Json (Some line) = word [] refl

pub record_prints : (base : Base) (r : Printed) → ArePlain r.origin → list_all is_printable r.kind ≡ true → ArePlain r.fields → IfPresent ArePlainParts r.inside → ArePlain r.last → Prints (record_text (form_of base) r)
unfolding record_text
record_prints base r origin kind fields inside last =
    join (join (join (heads base r.origin r.kind origin.0 origin.1 kind) (all_fields base r.fields fields.0 fields.1)) (nothing_aside base r.aside)) (ends_with base r.inside r.last inside last)
