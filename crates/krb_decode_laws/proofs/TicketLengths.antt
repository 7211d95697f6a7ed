-- The text of a Ticket has at most 8 times as many octets as its DER, and 64 KiB.
use Rattle.std.proofs.Common.{◌≡◌, ℕ, ◌+◌, ◌*◌, ◌<◌, ◌≤◌, ◌⊎◌, inl, inr, true, false, Bool, cond, if◌then◌else◌, List, [], ◌∷◌, ◌++◌, length, length-append, map, Some, None, codes, refl, sym, ap, subst, arith}
use Rattle.std.specs.Prelude.{◌&&◌}
use Rattle.std.specs.List.{AllByRecursion, flat_map}
use Rattle.std.proofs.lemmas.Bool.{cases_eq}
use Rattle.std.proofs.lemmas.Fmt.{length_signed_le}
use Rattle.hex.specs.Hex.{encode_lower, encode_with}
use Rattle.json.specs.Json.{string}
use Rattle.json.specs.Print.{begins, ends, escape, escape_byte, print_from, separator, token_text}
use Rattle.json.specs.Token.{Token}
use Rattle.json.specs.Tree.{items_tokens, json_tokens, room}
use Rattle.json.specs.Value.{items_of}
use Rattle.json.proofs.Printed.Strings.{escape_byte_plain}
use Rattle.json.proofs.Printed.Trees.{room-append}
use Rattle.krb_der.specs.Octets.{item, octets_of_option}
use Rattle.krb_judge.specs.declared.locating.names.Names.TheVariants as names
use Rattle.krb_json.specs.Objects.{json}
use Rattle.krb_json.specs.Spelling.{is_shown_itself, shown, shown_octet}
use Rattle.krb_json.specs.Tickets.{ticket_json, ticket_text}
use Rattle.krb_json.proofs.Back.{item-longer, magnitude}
use Rattle.krb_json.proofs.Printable.{IsPrintable, printable-hex, printable-shown}
use Rattle.krb_msg.specs.Grammar.{encrypted_data, int32, kerberos_string, principal_name, ticket, version, wide32}
use Rattle.krb_msg.specs.Term.{Fits, Tagged, Value, der}

-- ---- tokens and strings
comma : (b : Bool) → length {A = ℕ} (cond b (44 ∷ []) []) ≤ 1
comma true = omega arith
comma false = omega arith

printed : (after : Bool) (ts : List Token) → length (print_from after ts) ≤ room ts
unfolding print_from
printed after [] = omega arith
printed after (t ∷ ts) =
    omega (arith, length-append (separator after t) (token_text t ++ print_from (ends t) ts), length-append (token_text t) (print_from (ends t) ts), comma (after && begins t), printed (ends t) ts)

escaped-quote : length (escape_byte 34) ≤ 2
unfolding escape_byte
escaped-quote = omega arith

escaped-backslash : length (escape_byte 92) ≤ 2
unfolding escape_byte
escaped-backslash = omega arith

escaped-one : (x : ℕ) → (32 ≤ x) × (x ≤ 126) → length (escape_byte x) ≤ 2
escaped-one x range = by (cases_eq x 34) (cases_eq x 92)
  where
    by : (x ≡ 34) ⊎ (x ≡ 34 → ⊥) → (x ≡ 92) ⊎ (x ≡ 92 → ⊥) → length (escape_byte x) ≤ 2
    by (inl e) other = subst (λ y. length (escape_byte y) ≤ 2) (sym e) escaped-quote
    by (inr first) (inl e) = subst (λ y. length (escape_byte y) ≤ 2) (sym e) escaped-backslash
    by (inr first) (inr second) = omega (arith, ap length (escape_byte_plain x first second range.0))

escaped : (s : List ℕ) → IsPrintable s → length (escape s) ≤ 2 * length s
escaped [] p = omega arith
escaped (x ∷ s) p = omega (arith, length-append (escape_byte x) (escape s), escaped-one x p.0, escaped s p.1)

string-room : (s : List ℕ) → IsPrintable s → room (json_tokens (string s)) ≤ 2 * length s + 3
string-room s p = omega (arith, length-append (escape s) (34 ∷ []), escaped s p)

hex-length : (octets : List ℕ) → length (encode_lower octets) ≡ 2 * length octets
unfolding encode_with
hex-length [] = refl
hex-length (octet ∷ octets) = omega (arith, hex-length octets)

shown-one : (plain : Bool) (octet : ℕ) → length (if plain then octet ∷ [] else codes "\\x" ++ encode_lower (octet ∷ [])) ≤ 4
unfolding encode_with
shown-one true octet = omega arith
shown-one false octet = omega arith

shown-length : (octets : List ℕ) → length (shown octets) ≤ 4 * length octets
shown-length [] = omega arith
shown-length (octet ∷ octets) = omega (arith, length-append (shown_octet octet) (shown octets), shown-one (is_shown_itself octet) octet, shown-length octets)

-- ---- the parts of a Ticket
text-room : (octets : List ℕ) → Fits kerberos_string octets → room (json_tokens (string (shown octets))) ≤ 8 * length octets + 3
text-room octets fit = omega (arith, string-room (shown octets) (printable-shown octets fit.0), shown-length octets)

strings-room : (all : List (List ℕ)) → AllByRecursion (Fits kerberos_string) all → room (items_tokens (items_of (map (json kerberos_string names.Basic) all))) ≤ 8 * length (flat_map (der kerberos_string) all) + 2
strings-room [] fit = omega arith
strings-room (s ∷ all) fit =
    omega (arith, text-room s fit.0, strings-room all fit.1, item-longer 0x1B s, length-append (der kerberos_string s) (flat_map (der kerberos_string) all))

principal-room : (value : Value principal_name) → Fits principal_name value → room (json_tokens (json principal_name names.PrincipalName value)) ≤ 8 * length (flat_map (der kerberos_string) value.1.0) + 200
unfolding escape_byte
principal-room value fit =
    let small = magnitude _ _ value.0 refl fit.0.0 fit.0.1 in
    let number = length_signed_le 19 value.0 (omega (arith, small)) small in
    omega (arith, number, strings-room value.1.0 fit.1.0.1, room-append (items_tokens (items_of (map (json kerberos_string names.Basic) value.1.0))) (Token.end_object ∷ []))

encrypted-room : (value : Value encrypted_data) → Fits encrypted_data value → room (json_tokens (json encrypted_data names.EncryptedData value)) ≤ 8 * length value.1.1.0 + 200
unfolding escape_byte
encrypted-room (etype, (None, (cipher, end))) fit =
    let small = magnitude _ _ etype refl fit.0.0 fit.0.1 in
    omega (arith, length_signed_le 19 etype (omega (arith, small)) small, string-room (encode_lower cipher) (printable-hex cipher fit.1.1.0), hex-length cipher)
encrypted-room (etype, (Some kvno, (cipher, end))) fit =
    let small = magnitude _ _ etype refl fit.0.0 fit.0.1 in
    let few = magnitude _ _ kvno refl fit.1.0.0 fit.1.0.1 in
    omega (arith, length_signed_le 19 etype (omega (arith, small)) small, length_signed_le 19 kvno (omega (arith, few)) few, string-room (encode_lower cipher) (printable-hex cipher fit.1.1.0), hex-length cipher)

-- ---- a Ticket
module _ (value : Value ticket) (fits : Fits ticket value) where
  abbrev sname : Value principal_name
  sname = value.1.1.0

  abbrev part : Value encrypted_data
  part = value.1.1.1.0

  room-all : room (json_tokens (ticket_json value)) ≤ 8 * (length value.1.0 + length (flat_map (der kerberos_string) sname.1.0) + length part.1.1.0) + 1000
  unfolding escape_byte
  room-all =
      let small = magnitude _ _ value.0 refl fits.0.0 fits.0.1 in
      let names_are : List Token = json_tokens (json principal_name names.PrincipalName sname) in
      let part_is : List Token = json_tokens (json encrypted_data names.EncryptedData part) in
      let whole : List Token = json_tokens (json ticket names.Ticket value) in
      omega (
        arith,
        length_signed_le 19 value.0 (omega (arith, small)) small,
        text-room value.1.0 fits.1.0,
        principal-room sname fits.1.1.0,
        encrypted-room part fits.1.1.1.0,
        room-append names_are (Token.key (codes "enc-part") ∷ (part_is ++ Token.end_object ∷ [])),
        room-append part_is (Token.end_object ∷ []),
        room-append whole (Token.end_object ∷ []),
      )

  -- its parts are in its octets
  names-in : length (flat_map (der kerberos_string) sname.1.0) < length (der (Tagged 2 principal_name) sname)
  names-in =
      let list : List ℕ = flat_map (der kerberos_string) sname.1.0 in
      let first : List ℕ = der (Tagged 0 int32) sname.0 in
      let all : List ℕ = first ++ (item 0xA1 (item 0x30 list) ++ []) in
      omega (arith, item-longer 0x30 list, item-longer 0xA1 (item 0x30 list), length-append first (item 0xA1 (item 0x30 list) ++ []), length-append (item 0xA1 (item 0x30 list)) [], item-longer 0x30 all, item-longer 0xA2 (item 0x30 all))

  part-in : length part.1.1.0 < length (der (Tagged 3 encrypted_data) part)
  part-in =
      let cipher : List ℕ = part.1.1.0 in
      let first : List ℕ = der (Tagged 0 int32) part.0 in
      let second : List ℕ = octets_of_option (der (Tagged 1 wide32)) part.1.0 in
      let all : List ℕ = first ++ (second ++ (item 0xA2 (item 0x04 cipher) ++ [])) in
      omega (arith, item-longer 0x04 cipher, item-longer 0xA2 (item 0x04 cipher), length-append first (second ++ (item 0xA2 (item 0x04 cipher) ++ [])), length-append second (item 0xA2 (item 0x04 cipher) ++ []), length-append (item 0xA2 (item 0x04 cipher)) [], item-longer 0x30 all, item-longer 0xA3 (item 0x30 all))

  parts-in : length value.1.0 + length (flat_map (der kerberos_string) sname.1.0) + length part.1.1.0 ≤ length (der ticket value)
  parts-in =
      let first : List ℕ = der (Tagged 0 version) value.0 in
      let realm : List ℕ = item 0xA1 (item 0x1B value.1.0) in
      let third : List ℕ = der (Tagged 2 principal_name) sname in
      let fourth : List ℕ = der (Tagged 3 encrypted_data) part in
      let all : List ℕ = first ++ (realm ++ (third ++ (fourth ++ []))) in
      let whole : length (item 0x30 all) < length (der ticket value) = item-longer 0x61 (item 0x30 all) in
      omega (arith, names-in, part-in, item-longer 0x1B value.1.0, item-longer 0xA1 (item 0x1B value.1.0), length-append first (realm ++ (third ++ (fourth ++ []))), length-append realm (third ++ (fourth ++ [])), length-append third (fourth ++ []), length-append fourth [], item-longer 0x30 all, whole)

  pub text-short : length (ticket_text value) ≤ 8 * length (der ticket value) + 65536
  text-short = omega (arith, printed false (json_tokens (ticket_json value)), room-all, parts-in)
