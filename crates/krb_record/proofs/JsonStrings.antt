-- Octets as strings of JSON, octet by octet.
use Rattle.std.proofs.Common.{◌≡◌, ℕ, ◌≤◌, true, List, [], ◌∷◌, ◌++◌, codes, slice_index_or, refl, ap, ap₂, ◌∙◌, arith}
use Rattle.std.proofs.lemmas.Bool.{and_parts}
use Rattle.std.proofs.lemmas.Bool.Decides.{nat_tests}
use Rattle.std.proofs.lemmas.Grind.{flat_map-append}
use Rattle.std.proofs.lemmas.List.Sums.{AllPass-from_list_all}
use Rattle.std.proofs.lemmas.Str.Ascii.{IsAscii-from_all}
use Rattle.std.specs.List.{flat_map, list_all}
use Rattle.std.specs.Str.{IsAscii}
use Rattle.krb_record.specs.declared.json.Escape.{Escape}
use Rattle.krb_record.specs.declared.json.Escape.TheVariants as escapes
use Rattle.krb_record.specs.Forms.{json_character, shown_octet}
use Rattle.krb_record.specs.Text.{components_text, escape, joined, principal_text}
use Rattle.krb_record.specs.inner.Strings.{escaped, is_bare, is_plain_in, quoted}

pub flat-flat : {A B C : Type 0} (f : B → List C) (g : A → List B) (values : List A) → flat_map f (flat_map g values) ≡ flat_map (λ value. flat_map f (g value)) values
flat-flat f g [] = refl
flat-flat f g (value ∷ values) = flat_map-append f (g value) (flat_map g values) ∙ ap (λ rest. flat_map f (g value) ++ rest) (flat-flat f g values)

pub quoted_object : (octets : List ℕ) → flat_map json_character (flat_map shown_octet octets) ≡ quoted escapes.Object octets
quoted_object octets = flat-flat json_character shown_octet octets

pub quoted_line : (octets : List ℕ) → flat_map json_character (escape octets) ≡ quoted escapes.Line octets
quoted_line octets = flat-flat json_character _ octets

-- a principal as it is in a string: what is between its parts needs no escape
others_part : (separator : List ℕ) (components : List (List ℕ)) → flat_map json_character (flat_map (λ c. separator ++ escape c) components) ≡ flat_map (λ c. flat_map json_character separator ++ quoted escapes.Line c) components
others_part separator [] = refl
others_part separator (c ∷ cs) =
    flat_map-append json_character (separator ++ escape c) (flat_map (λ c. separator ++ escape c) cs)
    ∙ ap₂ (λ this rest. this ++ rest) (flat_map-append json_character separator (escape c) ∙ ap (λ q. flat_map json_character separator ++ q) (quoted_line c)) (others_part separator cs)

components_part : (components : List (List ℕ)) → flat_map json_character (components_text components) ≡ joined (codes "\\\\-") (codes "/") (quoted escapes.Line) components
components_part [] = refl
components_part (c ∷ cs) = flat_map-append json_character (escape c) (flat_map (λ c. codes "/" ++ escape c) cs) ∙ ap₂ (λ this rest. this ++ rest) (quoted_line c) (others_part (codes "/") cs)

pub principal_part : (components : List (List ℕ)) (realm : List ℕ) → flat_map json_character (principal_text components realm) ≡ joined (codes "\\\\-") (codes "/") (quoted escapes.Line) components ++ codes "@" ++ quoted escapes.Line realm
unfolding principal_text
principal_part components realm =
    flat_map-append json_character (components_text components ++ codes "@") (escape realm)
    ∙ ap₂ (λ this rest. this ++ rest) (flat_map-append json_character (components_text components) (codes "@") ∙ ap (λ q. q ++ codes "@") (components_part components)) (quoted_line realm)

-- ---- octets that need no escape, in a line or by JSON
character_plain : (o : ℕ) → is_plain_in true o ≡ true → json_character o ≡ o ∷ []
character_plain o e = grind (arith, nat_tests)

octet_plain : (escape : Escape) (o : ℕ) → is_plain_in true o ≡ true → escaped escape o ≡ o ∷ []
octet_plain escapes.Line o e = grind (arith, nat_tests)
octet_plain escapes.Object o e = grind (arith, nat_tests)

pub characters_plain : (octets : List ℕ) → list_all (is_plain_in true) octets ≡ true → flat_map json_character octets ≡ octets
characters_plain [] e = refl
characters_plain (o ∷ octets) e =
    let h = and_parts (is_plain_in true o) (list_all (is_plain_in true) octets) e in
    rw (character_plain o h.0, characters_plain octets h.1) refl

pub quoted_plain : (escape : Escape) (octets : List ℕ) → list_all (is_plain_in true) octets ≡ true → quoted escape octets ≡ octets
quoted_plain escape [] e = refl
quoted_plain escape (o ∷ octets) e =
    let h = and_parts (is_plain_in true o) (list_all (is_plain_in true) octets) e in
    rw (octet_plain escape o h.0, quoted_plain escape octets h.1, character_plain o h.0) refl

-- ---- octets that need no escape by JSON
bare_octet : (o : ℕ) → is_bare o ≡ true → escaped escapes.Object o ≡ o ∷ []
bare_octet o e = grind (arith, nat_tests)

bare_character : (o : ℕ) → is_bare o ≡ true → json_character o ≡ o ∷ []
bare_character o e = grind (arith, nat_tests)

bare_range : (o : ℕ) → is_bare o ≡ true → o ≤ 126
bare_range o e = grind (arith, nat_tests)

pub quoted_bare : (octets : List ℕ) → list_all is_bare octets ≡ true → quoted escapes.Object octets ≡ octets
quoted_bare [] e = refl
quoted_bare (o ∷ octets) e =
    let h = and_parts (is_bare o) (list_all is_bare octets) e in
    rw (bare_octet o h.0, quoted_bare octets h.1, bare_character o h.0) refl

pub ascii_bare : (octets : List ℕ) → list_all is_bare octets ≡ true → IsAscii octets
ascii_bare octets e = IsAscii-from_all octets (λ k d within. omega (arith, bare_range (slice_index_or octets k d) (AllPass-from_list_all is_bare octets e k d within)))
