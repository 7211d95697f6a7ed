-- Strings of JSON: which texts are as they are in one, and what the text of a string is.
use Rattle.std.proofs.Common.{◌≡◌, ℕ, ℤ, zero, suc, ◌/◌, ◌%◌, ◌^◌, ◌<◌, ◌≤◌, ◌==◌, ◌&&◌, ◌||◌, nat_le, not, ◌⊎◌, inl, inr, Bool, true, false, cond, List, [], ◌∷◌, ◌++◌, map, drop, get_or, Option, Some, None, codes, decimal, refl, sym, ◌∙◌, ap₂, subst, arith, if◌then◌else◌}
use Rattle.std.proofs.lemmas.Bool.{and_parts, cases_eq, ne_eqb}
use Rattle.std.proofs.lemmas.Bool.Decides.{nat_tests}
use Rattle.std.proofs.NetLemmas.Alphabet.{IsHexOrColon, All-hex_groups_text}
use Rattle.std.proofs.lemmas.List.Elements.{recursion_from_All}
use Rattle.std.specs.Fmt.{digit_glyph, digits, digits_onto}
use Rattle.std.specs.List.{AllByRecursion, filter, flat_map, list_all}
use Rattle.std.specs.Net.Addr.{IsIpv4Addr, IsIpv6Addr, MatchIp, ipv4_octets, ipv6_segments, octets_of}
use Rattle.std.specs.Net.Text.{ip_text, ipv4_text, ipv6_text, hex_groups_text}
use Rattle.std.specs.declared.net.ip_addr.IpAddr.{IpAddr}
use Rattle.std.specs.declared.net.ip_addr.IpAddr.TheVariants as addresses
use Rattle.json.specs.Json.{string}
use Rattle.json.specs.Print.{escape_byte}
use Rattle.json.proofs.Printed.Strings.{escape_byte_plain}
use Rattle.krb_msg.specs.Term.{IfPresent}
use Rattle.krb_registry.specs.Laws.{is_plain as is_plain_in_rows}
use Rattle.krb_registry.specs.Rows.{name_of, rows}
use Rattle.krb_registry.specs.declared.registry.Registry.{Registry}
use Rattle.krb_registry.proofs.Names.{all_plain, each_octet, name_is_plain, plain_octet}
use Rattle.krb_record.specs.Forms.{json_character, json_string, set_names, shown_octet}
use Rattle.krb_record.specs.Text.{escape, escape_octet, hex, is_plain as is_plain_in_lines, joined, principal_text, two_hex}
use Rattle.krb_laws.specs.JsonLaws.{is_plain}
use Rattle.krb_laws.proofs.JsonPieces.{IsText, IsPlain, a_quoted}

-- ---- characters that need no escape, and those that need at most a `\`
abbrev pub IsPlainOne : ℕ → Type 0
IsPlainOne c = (32 ≤ c) × (c ≡ 34 → ⊥) × (c ≡ 92 → ⊥)

abbrev pub IsAbove : List ℕ → Type 0
IsAbove text = AllByRecursion (λ c. 32 ≤ c) text

pub all-append : {A : Type 0} (P : A → Type 0) (xs ys : List A) → AllByRecursion P xs → AllByRecursion P ys → AllByRecursion P (xs ++ ys)
all-append P [] ys h k = k
all-append P (x ∷ xs) ys h k = (h.0, all-append P xs ys h.1 k)

pub all-flat : {A B : Type 0} (P : B → Type 0) (text : A → List B) → ((a : A) → AllByRecursion P (text a)) → (values : List A) → AllByRecursion P (flat_map text values)
all-flat P text each [] = tt
all-flat P text each (a ∷ values) = all-append P (text a) (flat_map text values) (each a) (all-flat P text each values)

pub all-so : {A : Type 0} (P Q : A → Type 0) → ((a : A) → P a → Q a) → (values : List A) → AllByRecursion P values → AllByRecursion Q values
all-so P Q so [] h = tt
all-so P Q so (a ∷ values) h = (so a h.0, all-so P Q so values h.1)

pub all-pass : {A : Type 0} (test : A → Bool) (P : A → Type 0) → ((a : A) → test a ≡ true → P a) → (values : List A) → list_all test values ≡ true → AllByRecursion P values
all-pass test P of [] e = tt
all-pass test P of (a ∷ values) e =
    let parts = and_parts (test a) (list_all test values) e in
    (of a parts.0, all-pass test P of values parts.1)

pub is_plain-plain : (text : List ℕ) → is_plain text ≡ true → IsPlain text
is_plain-plain text e = all-pass _ IsPlainOne one text e
  where
    one : (c : ℕ) → (nat_le 0x20 c && nat_le c 0x7E && not (c == 0x22 || c == 0x5C)) ≡ true → IsPlainOne c
    one c e = (grind (arith, nat_tests), λ is. grind (arith, nat_tests), λ is. grind (arith, nat_tests))

pub plain-above : (text : List ℕ) → IsPlain text → IsAbove text
plain-above text h = all-so IsPlainOne (λ c. 32 ≤ c) (λ c h. h.0) text h

-- ---- strings
quotation_mark : json_character 34 ≡ escape_byte 34
unfolding escape_byte
quotation_mark = refl

backslash : json_character 92 ≡ escape_byte 92
unfolding escape_byte
backslash = refl

other : (c : ℕ) → (c ≡ 34 → ⊥) → (c ≡ 92 → ⊥) → json_character c ≡ c ∷ []
other c quote backslash = rw (ne_eqb c 34 quote, ne_eqb c 92 backslash) refl

character : (c : ℕ) → 32 ≤ c → json_character c ≡ escape_byte c
character c h = by (cases_eq c 34) (cases_eq c 92)
  where
    by : (c ≡ 34) ⊎ (c ≡ 34 → ⊥) → (c ≡ 92) ⊎ (c ≡ 92 → ⊥) → json_character c ≡ escape_byte c
    by (inl e) either = subst (λ c. json_character c ≡ escape_byte c) (sym e) quotation_mark
    by (inr quote) (inl e) = subst (λ c. json_character c ≡ escape_byte c) (sym e) backslash
    by (inr quote) (inr none) = other c quote none ∙ sym (escape_byte_plain c quote none h)

characters : (text : List ℕ) → IsAbove text → flat_map json_character text ≡ flat_map escape_byte text
characters [] h = refl
characters (c ∷ text) h = ap₂ (λ x xs. x ++ xs) (character c h.0) (characters text h.1)

pub a_string : {levels : ℕ} (text : List ℕ) → IsAbove text → IsText (json_string text) (string text) levels
a_string {levels} text h = subst (λ t. IsText (34 ∷ (t ++ 34 ∷ [])) (string text) levels) (sym (characters text h)) (a_quoted text)

-- ---- digits
-- in a record, so that the texts are read off it
record Shows (text : List ℕ) : Type 0 where
  all : IsPlain text

either : (b : Bool) {xs ys : List ℕ} → Shows xs → Shows ys → Shows (if b then xs else ys)
either true h k = h
either false h k = k

glyph : (d : ℕ) → IsPlainOne (digit_glyph false d)
glyph d = (grind (arith, nat_tests), λ is. grind (arith, nat_tests), λ is. grind (arith, nat_tests))

two_digits : (octet : ℕ) → IsPlain (two_hex octet)
two_digits octet = (glyph (octet / 16), (glyph (octet % 16), tt))

pub plain_hex : (octets : List ℕ) → IsPlain (hex octets)
plain_hex octets = all-flat IsPlainOne two_hex two_digits octets

numeral : (k n : ℕ) (after : List ℕ) → IsPlain after → IsPlain (digits_onto k 10 false n after)
numeral zero n after h = h
numeral (suc k) n after h = (either (n / 10 == 0) (record { all = (glyph (n % 10), h) }) (record { all = numeral k (n / 10) (digit_glyph false (n % 10) ∷ after) (glyph (n % 10), h) })).all

pub plain_decimal : (n : ℕ) → IsPlain (decimal n)
unfolding digits
plain_decimal n = numeral 64 n [] tt

-- ---- octets
shown_one : (plain : Bool) (octet : ℕ) → (plain ≡ true → 32 ≤ octet) → IsAbove (if plain then octet ∷ [] else codes "\\x" ++ two_hex octet)
shown_one true octet h = (h refl, tt)
shown_one false octet h = (omega arith, (omega arith, plain-above (two_hex octet) (two_digits octet)))

shown_in_object : (octet : ℕ) → IsAbove (shown_octet octet)
shown_in_object octet = shown_one (nat_le 0x20 octet && nat_le octet 0x7E && not (octet == 0x5C)) octet (λ e. grind (arith, nat_tests))

pub above_shown : (octets : List ℕ) → IsAbove (flat_map shown_octet octets)
above_shown octets = all-flat (λ c. 32 ≤ c) shown_octet shown_in_object octets

shown_in_line : (octet : ℕ) → IsAbove (escape_octet octet)
shown_in_line octet = shown_one (is_plain_in_lines octet) octet (λ e. grind (arith, nat_tests))

above_escape : (octets : List ℕ) → IsAbove (escape octets)
above_escape octets = all-flat (λ c. 32 ≤ c) escape_octet shown_in_line octets

above_joined : (components : List (List ℕ)) → IsAbove (joined (codes "\\-") (codes "/") escape components)
above_joined [] = (omega arith, (omega arith, tt))
above_joined (first ∷ others) =
    all-append (λ c. 32 ≤ c) (escape first) (flat_map (λ other. codes "/" ++ escape other) others) (above_escape first)
    (all-flat (λ c. 32 ≤ c) (λ other. codes "/" ++ escape other) (λ other. (omega arith, above_escape other)) others)

pub above_principal : (components : List (List ℕ)) (realm : List ℕ) → IsAbove (principal_text components realm)
unfolding principal_text
above_principal components realm =
    all-append (λ c. 32 ≤ c) (joined (codes "\\-") (codes "/") escape components ++ codes "@") (escape realm)
    (all-append (λ c. 32 ≤ c) (joined (codes "\\-") (codes "/") escape components) (codes "@") (above_joined components) (omega arith, tt))
    (above_escape realm)

-- ---- the names of numbers
in_row : (octet : ℕ) → is_plain_in_rows octet ≡ true → 32 ≤ octet
in_row octet e = let h = plain_octet octet e in omega (arith, h.least)

above_name : (name : List ℕ) → list_all is_plain_in_rows name ≡ true → IsAbove name
above_name name e = each_octet (λ c. 32 ≤ c) in_row name e

name_found : (registry : Registry) (n : ℤ) (found : Option (List ℕ)) → name_of registry n ≡ found → IfPresent IsAbove found
name_found registry n None e = tt
name_found registry n (Some name) e = above_name name (name_is_plain registry n name e)

pub above_name_of : (registry : Registry) (n : ℤ) → IfPresent IsAbove (name_of registry n)
above_name_of registry n = name_found registry n (name_of registry n) refl

kept : (keeps : Bool) (row : ℤ × List ℕ) (others : List (ℤ × List ℕ)) → IsAbove row.1 → AllByRecursion IsAbove (map (λ row. row.1) others) → AllByRecursion IsAbove (map (λ row. row.1) (cond keeps (row ∷ others) others))
kept true row others this rest = (this, rest)
kept false row others this rest = rest

names_of_rows : (test : ℤ × List ℕ → Bool) (listed : List (ℤ × List ℕ)) → list_all (λ row. list_all is_plain_in_rows row.1) listed ≡ true → AllByRecursion IsAbove (map (λ row. row.1) (filter test listed))
names_of_rows test [] e = tt
names_of_rows test (row ∷ others) e =
    let h = and_parts (list_all is_plain_in_rows row.1) (list_all (λ row. list_all is_plain_in_rows row.1) others) e in
    kept (test row) row (filter test others) (above_name row.1 h.0) (names_of_rows test others h.1)

pub above_set_names : (registry : Registry) (octets : List ℕ) → AllByRecursion IsAbove (set_names registry octets)
unfolding set_names
above_set_names registry octets = names_of_rows _ (rows registry) (all_plain registry)

-- ---- addresses
dotted : (a b : List ℕ) → IsPlain a → IsPlain b → IsPlain (a ++ codes "." ++ b)
dotted a b h k = all-append IsPlainOne (a ++ codes ".") b (all-append IsPlainOne a (codes ".") h (is_plain-plain (codes ".") refl)) k

in_decimal : (octets : List ℕ) → IsPlain (ipv4_text octets)
in_decimal octets = dotted _ (decimal _) (dotted _ (decimal _) (dotted (decimal _) (decimal _) (plain_decimal _) (plain_decimal _)) (plain_decimal _)) (plain_decimal _)

hex_or_colon : (c : ℕ) → IsHexOrColon c → IsPlainOne c
hex_or_colon c (inl h) = (omega (arith, h.0), λ is. omega (arith, h.0), λ is. omega (arith, h.1))
hex_or_colon c (inr h) = (omega (arith, h.0), λ is. omega (arith, h.0), λ is. omega (arith, h.0))

in_groups : (segments : List ℕ) → ((k : ℕ) → get_or segments k 0 < 2 ^ 16) → IsPlain (hex_groups_text segments)
in_groups segments h = all-so IsHexOrColon IsPlainOne hex_or_colon _ (recursion_from_All IsHexOrColon _ (All-hex_groups_text segments h))

mapped : (octets : List ℕ) → Shows (codes "::ffff:" ++ ipv4_text octets)
mapped octets = record { all = all-append IsPlainOne (codes "::ffff:") (ipv4_text octets) (is_plain-plain (codes "::ffff:") refl) (in_decimal octets) }

groups : (segments : List ℕ) → ((k : ℕ) → get_or segments k 0 < 2 ^ 16) → Shows (hex_groups_text segments)
groups segments h = record { all = in_groups segments h }

address : (a : IpAddr) → MatchIp a IsIpv4Addr IsIpv6Addr → Shows (ip_text a)
unfolding ipv6_text
address (addresses.V4 a) h = record { all = in_decimal (ipv4_octets a) }
address (addresses.V6 a) h = either _ (mapped (octets_of (drop 6 (ipv6_segments a)))) (groups (ipv6_segments a) h.1)

pub plain_address : (a : IpAddr) → MatchIp a IsIpv4Addr IsIpv6Addr → IsPlain (ip_text a)
plain_address a h = (address a h).all
