-- Names, reasons, layers and addresses are words, so cells have them as they are.
use Rattle.std.proofs.Common.{◌≡◌, ◌∙◌, ℕ, ℤ, ◌+◌, ◌/◌, ◌%◌, ◌^◌, ◌<◌, ◌==◌, nat_le, nat_lt, ◌&&◌, ◌||◌, not, Bool, true, false, cond, inl, inr, Some, List, [], ◌∷◌, ◌++◌, length, get_or, take, drop, map, sym, refl, ap, subst, arith, codes, if◌then◌else◌}
use Rattle.std.proofs.NetLemmas.Alphabet.{All-hex_groups_text, IsHexOrColon}
use Rattle.std.proofs.lemmas.Bool.{and_parts}
use Rattle.std.proofs.lemmas.Bool.Decides.{nat_tests}
use Rattle.std.proofs.lemmas.List.Elements.{recursion_from_All}
use Rattle.std.proofs.lemmas.List.Folds.{list_any-append}
use Rattle.std.proofs.lemmas.Option.{none-some, same_Some}
use Rattle.std.specs.Char.{digit_char}
use Rattle.std.specs.List.{AllByRecursion, filter, find, list_all, list_any}
use Rattle.std.specs.Net.Addr.{IsIpv4Addr, IsIpv6Addr, MatchIp, ipv4_octets, ipv6_segments, octets_of}
use Rattle.std.specs.Net.Text.{groups_text, hex, hex_groups_text, ip_text, ipv4_text, ipv6_text, longest_zero_run}
use Rattle.std.specs.Option.{option_map}
use Rattle.std.specs.Ordering.{int_eq}
use Rattle.std.specs.Prelude.{bytes_eq, unsigned_abs}
use Rattle.std.specs.declared.net.ip_addr.IpAddr.{IpAddr}
use Rattle.std.specs.declared.net.ip_addr.IpAddr.TheVariants as addresses
use Rattle.krb_der.specs.Reasons.{reason_name}
use Rattle.krb_der.specs.declared.why.Why.{Why}
use Rattle.krb_der.specs.declared.why.Why.TheVariants as whys
use Rattle.krb_registry.specs.Rows.{name_in, name_of, rows}
use Rattle.krb_registry.specs.declared.registry.Registry.{Registry}
use Rattle.krb_registry.specs.declared.registry.Registry.TheVariants as registries
use Rattle.krb_source.specs.Layers.{layer_name}
use Rattle.krb_source.specs.declared.layer.Layer.{Layer}
use Rattle.krb_source.specs.declared.layer.Layer.TheVariants as layers
use Rattle.krb_record.specs.Flows.{transport_name}
use Rattle.krb_record.specs.Forms.{is_set, set_names, string_of}
use Rattle.krb_record.specs.Text.{components_text, escape, principal_text}
use Rattle.krb_record.specs.declared.flow.Transport.{Transport}
use Rattle.krb_record.specs.declared.flow.Transport.TheVariants as transports
use Rattle.krb_record.specs.inner.Flags.{names_set}
use Rattle.krb_choice_laws.specs.Cells.{IsWord, character, is_word}
use Rattle.krb_choice_laws.proofs.Lists.{has_no_comma}
use Rattle.krb_choice_laws.proofs.Texts.{Begins, IsSome, as-it-is, begins-so, begun, is_mark, no-mistake, number-begins}

-- ---- names of registries
abbrev pub is_item : List ℕ → Bool
is_item name = is_word name && has_no_comma name

-- a test that the name of each row passes is passed by the name that is found
found-passes : (p : List ℕ → Bool) (listed : List (ℤ × List ℕ)) (n : ℤ) (name : List ℕ) → list_all (λ row. p row.1) listed ≡ true → name_in listed n ≡ Some name → p name ≡ true
unfolding name_in
found-passes p [] n name all found = absurd (none-some name found)
found-passes p (row ∷ others) n name all found =
    let passes = and_parts (p row.1) (list_all (λ row. p row.1) others) all in
    elim (int_eq row.0 n) as (λ same. option_map (λ (row : ℤ × List ℕ). row.1) (cond same (Some row) (find (λ row. int_eq row.0 n) others)) ≡ Some name → p name ≡ true) [
      | true ↦ λ found. subst (λ name. p name ≡ true) (same_Some row.1 name found) passes.0
      | false ↦ λ found. found-passes p others n name passes.1 found
    ] found

all-items : (registry : Registry) → list_all (λ row. is_item row.1) (rows registry) ≡ true
unfolding rows
all-items registries.EncryptionTypes = refl
all-items registries.ChecksumTypes = refl
all-items registries.PreAuthenticationData = refl
all-items registries.ErrorCodes = refl
all-items registries.ErrorDataTypes = refl
all-items registries.Statuses = refl
all-items registries.KdcOptions = refl
all-items registries.ApOptions = refl
all-items registries.PacOptions = refl
all-items registries.ContextFlags = refl
all-items registries.TicketFlags = refl
all-items registries.NameTypes = refl
all-items registries.AddressTypes = refl
all-items registries.Notes = refl

pub record Item (name : List ℕ) : Type 0 where
  pub word : IsWord name
  pub comma : has_no_comma name ≡ true

an-item : (name : List ℕ) → is_item name ≡ true → Item name
an-item name e = let parts = and_parts (is_word name) (has_no_comma name) e in record { word = parts.0; comma = parts.1 }

pub its-name : (registry : Registry) (n : ℤ) (name : List ℕ) → name_of registry n ≡ Some name → Item name
unfolding name_of
its-name registry n name found = an-item name (found-passes is_item (rows registry) n name (all-items registry) found)

-- names of flags that are set
kept : (keeps : Bool) (row : ℤ × List ℕ) (others : List (ℤ × List ℕ)) → Item row.1 → AllByRecursion Item (map (λ row. row.1) others) → AllByRecursion Item (map (λ row. row.1) (cond keeps (row ∷ others) others))
kept true row others this rest = (this, rest)
kept false row others this rest = rest

names-in : (octets : List ℕ) (listed : List (ℤ × List ℕ)) → list_all (λ row. is_item row.1) listed ≡ true → AllByRecursion Item (names_set octets listed)
names-in octets [] e = tt
names-in octets (row ∷ others) e =
    let h = and_parts (is_item row.1) (list_all (λ row. is_item row.1) others) e in
    kept (is_set octets (unsigned_abs row.0)) row (filter (λ row. is_set octets (unsigned_abs row.0)) others) (an-item row.1 h.0) (names-in octets others h.1)

pub flag-names : (registry : Registry) (octets : List ℕ) → AllByRecursion Item (set_names registry octets)
unfolding set_names
flag-names registry octets = names-in octets (rows registry) (all-items registry)

-- ---- other words
pub layer-item : (layer : Layer) → Item (layer_name layer)
layer-item layers.Frame = record { word = refl; comma = refl }
layer-item layers.Gss = record { word = refl; comma = refl }
layer-item layers.Spnego = record { word = refl; comma = refl }

pub transport-word : (transport : Transport) → IsWord (transport_name transport)
transport-word transports.Udp = refl
transport-word transports.Tcp = refl

pub reason-word : (why : Why) → IsWord (reason_name why)
reason-word whys.HighBit = refl
reason-word other = refl

-- ---- principals: they have `@`, as none of the texts that are mistaken
abbrev pub has_at : List ℕ → Bool
has_at text = list_any (λ c. c == 64) text

or-true : (b : Bool) → (b || true) ≡ true
or-true true = refl
or-true false = refl

has-within : (before after : List ℕ) → has_at ((before ++ codes "@") ++ after) ≡ true
has-within before after =
    list_any-append (λ c. c == 64) (before ++ codes "@") after
    ∙ ap (λ b. b || has_at after) (list_any-append (λ c. c == 64) before (codes "@") ∙ or-true (has_at before))

some-before : (text rest : List ℕ) → IsSome text → IsSome (text ++ rest)
some-before [] rest h = absurd h
some-before (c ∷ others) rest h = tt

some-after : (before text : List ℕ) → IsSome text → IsSome (before ++ text)
some-after [] text h = h
some-after (c ∷ before) text h = tt

pub principal-has : (components : List (List ℕ)) (realm : List ℕ) → not (has_at (principal_text components realm)) ≡ false
unfolding principal_text
principal-has components realm = ap not (has-within (components_text components) (escape realm))

pub principals : (components : List (List ℕ)) (realm : List ℕ) → principal_text components realm ≡ string_of character (principal_text components realm)
unfolding principal_text
principals components realm =
    let text = (components_text components ++ codes "@") ++ escape realm in
    sym (as-it-is text (some-before (components_text components ++ codes "@") (escape realm) (some-after (components_text components) (codes "@") tt))
    (no-mistake (λ text. not (has_at text)) (refl, (refl, (refl, (refl, (refl, tt))))) text (principal-has components realm)))

-- ---- addresses
-- each octet is a digit or a colon, so none begins as a text that is mistaken
hex-mark : (c : ℕ) → IsHexOrColon c → is_mark c ≡ false
hex-mark c (inl h) = let low = h.0 in let high = h.1 in grind (arith, nat_tests)
hex-mark c (inr h) = let low = h.0 in let high = h.1 in grind (arith, nat_tests)

begins-hex : (text : List ℕ) → AllByRecursion IsHexOrColon text → IsSome text → Begins text
begins-hex [] h s = absurd s
begins-hex (c ∷ others) h s = (tt, hex-mark c h.0)

some-hex : (n : ℕ) → IsSome (hex n)
unfolding hex
some-hex n = by (nat_le 0x1000 n) (nat_le 0x100 n) (nat_le 0x10 n)
  where
    by : (a b c : Bool) → IsSome (drop (if a then 0 else (if b then 1 else (if c then 2 else 3))) (digit_char (n / 0x1000) ∷ digit_char (n / 0x100 % 16) ∷ digit_char (n / 0x10 % 16) ∷ digit_char (n % 16) ∷ []))
    by true b c = tt
    by false true c = tt
    by false false true = tt
    by false false false = tt

some-groups : (segments : List ℕ) → length segments ≡ 8 → IsSome (groups_text segments)
some-groups [] h = absurd (omega (arith, h))
some-groups (s ∷ rest) h = some-before (hex s) _ (some-hex s)

some-segments : (segments : List ℕ) → length segments ≡ 8 → IsSome (hex_groups_text segments)
unfolding hex_groups_text
some-segments segments h =
    let run = longest_zero_run segments in
    let front = groups_text (take run.0 segments) in
    let back = groups_text (drop (run.0 + run.1) segments) in
    elim (nat_lt 1 run.1) as (λ b. IsSome (if b then front ++ codes "::" ++ back else groups_text segments)) [
      | true ↦ some-before (front ++ codes "::") back (some-after front (codes "::") tt)
      | false ↦ some-groups segments h
    ]

decimal-begins : (octets : List ℕ) → Begins (ipv4_text octets)
decimal-begins octets =
    begins-so _ _ (begins-so _ _ (begins-so _ _ (begins-so _ _ (begins-so _ _ (begins-so _ _ (number-begins _))))))

groups-begin : (segments : List ℕ) → length segments ≡ 8 → ((k : ℕ) → get_or segments k 0 < 2 ^ 16) → Begins (hex_groups_text segments)
groups-begin segments h k = begins-hex (hex_groups_text segments) (recursion_from_All IsHexOrColon (hex_groups_text segments) (All-hex_groups_text segments k)) (some-segments segments h)

pub address-begins : (a : IpAddr) → MatchIp a IsIpv4Addr IsIpv6Addr → Begins (ip_text a)
unfolding ipv6_text
address-begins (addresses.V4 a) h = decimal-begins (ipv4_octets a)
address-begins (addresses.V6 a) h =
    let segments = ipv6_segments a in
    elim (bytes_eq (take 6 segments) (0 ∷ 0 ∷ 0 ∷ 0 ∷ 0 ∷ 0xffff ∷ [])) as (λ b. Begins (if b then codes "::ffff:" ++ ipv4_text (octets_of (drop 6 segments)) else hex_groups_text segments)) [
      | true ↦ (tt, refl)
      | false ↦ groups-begin segments h.0 h.1
    ]

pub addresses-as-they-are : (a : IpAddr) → MatchIp a IsIpv4Addr IsIpv6Addr → ip_text a ≡ string_of character (ip_text a)
addresses-as-they-are a h = begun (ip_text a) (address-begins a h)
