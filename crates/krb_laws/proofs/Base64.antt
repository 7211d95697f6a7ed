-- Base64 is read as the octets that it is written of.
use Rattle.std.proofs.Common.{ℕ, suc, ◌+◌, ◌-◌, ◌*◌, ◌/◌, ◌%◌, ◌==◌, ◌≡◌, ◌<◌, if◌then◌else◌, Bool, true, false, List, [], ◌∷◌, ◌++◌, length, replicate, Some, None, Ok, refl, sym, ap, ◌∙◌, arith}
use Rattle.std.specs.Option.{option_and_then, option_map}
use Rattle.base64.specs.Alphabet.{alphabet_symbols}
use Rattle.base64.specs.Alphabets.{standard}
use Rattle.base64.specs.Rfc4648.{encode_symbols, padding_len}
use Rattle.krb_der.specs.Octets.{AreOctets, when}
use Rattle.krb_input.specs.Base64.{base64, base64_from, bits_fault, character_value, due, first_octet, kept, made, octet_of_first, octet_of_two, or_else, padding_fault, then_character}
use Rattle.krb_input.specs.Characters.{is_blank, skip_blanks}
use Rattle.krb_input.specs.Readings.{prepend, unless}
use Rattle.krb_input.proofs.Prepends.{prepend_none}
use Rattle.krb_input.specs.Laws.{without_blanks}
use Rattle.krb_laws.specs.Written.{base64_text}
use Rattle.krb_laws.proofs.Blanks.{next, none}
use Rattle.krb_laws.proofs.Characters.{character_no_blank, symbol, symbol_character, symbol_value}

-- the state between groups of four characters
abbrev between : (bits : _) × ((text : List ℕ) → base64 text ≡ base64_from bits 0 text)
between = (_, λ text. refl)

-- a character is read
symbol_read : (bits : _) (last value : ℕ) (text : List ℕ) → value < 64 → base64_from bits last (symbol value ∷ text) ≡ prepend (made bits value) (base64_from (kept bits value) (suc (length text)) text)
symbol_read bits last value text small =
    let character = λ (value : ℕ). prepend (made bits value) (base64_from (kept bits value) (suc (length text)) text) in
    let padding = λ (_ : Unit {0}). unless (or_else (padding_fault (due bits) (symbol value ∷ text)) (bits_fault bits last)) in
    ap (λ b. when b (λ _. base64_from bits last text) (λ _. then_character (character_value (symbol value)) character padding)) (character_no_blank (symbol value) (symbol_character value small))
    ∙ ap (λ v. then_character v character padding) (symbol_value value small)

-- ---- blanks
skipped_by : (bits : _) (last octet : ℕ) (text : List ℕ) (blank : Bool) → is_blank octet ≡ blank → base64_from bits last text ≡ base64_from bits last (skip_blanks text) →
    base64_from bits last (octet ∷ text) ≡ base64_from bits last (skip_blanks (octet ∷ text))
skipped_by bits last octet text true is others = rw is others
skipped_by bits last octet text false is others = sym (ap (base64_from bits last) (ap (λ b. when b (λ _. skip_blanks text) (λ _. octet ∷ text)) is))

skipped_read : (bits : _) (last : ℕ) (text : List ℕ) → base64_from bits last text ≡ base64_from bits last (skip_blanks text)
skipped_read bits last [] = refl
skipped_read bits last (octet ∷ text) = skipped_by bits last octet text (is_blank octet) refl (skipped_read bits last text)

padding_by : (count octet : ℕ) (text : List ℕ) (blank : Bool) → is_blank octet ≡ blank → padding_fault count text ≡ padding_fault count (skip_blanks text) → padding_fault count (octet ∷ text) ≡ padding_fault count (skip_blanks (octet ∷ text))
padding_by count octet text true is others = rw is others
padding_by count octet text false is others = sym (ap (padding_fault count) (ap (λ b. when b (λ _. skip_blanks text) (λ _. octet ∷ text)) is))

padding_skipped : (count : ℕ) (text : List ℕ) → padding_fault count text ≡ padding_fault count (skip_blanks text)
padding_skipped count [] = refl
padding_skipped count (octet ∷ text) = padding_by count octet text (is_blank octet) refl (padding_skipped count text)

-- ---- characters, and blanks before them
-- the next character is read
next_read : (bits : _) (last value : ℕ) (text others : List ℕ) → value < 64 → without_blanks text ≡ symbol value ∷ others →
    (rest : List ℕ) × (without_blanks rest ≡ others) × (base64_from bits last text ≡ prepend (made bits value) (base64_from (kept bits value) (suc (length rest)) rest))
next_read bits last value text others small given =
    let found = next text (symbol value) others given in
    (found.rest, found.left, skipped_read bits last text ∙ ap (base64_from bits last) found.skipped ∙ symbol_read bits last value found.rest small)

-- two characters are an octet and four bits, a third is one more and two bits, and a fourth is one more
two_read : (last v w a : ℕ) (text others : List ℕ) → v < 64 → w < 64 → v * 4 + w / 16 ≡ a → without_blanks text ≡ symbol v ∷ symbol w ∷ others →
    (rest : List ℕ) × (without_blanks rest ≡ others) × (base64_from between.0 last text ≡ prepend (a ∷ []) (base64_from (kept (kept between.0 v) w) (suc (length rest)) rest))
two_read last v w a text others first second is given =
    let one = next_read between.0 last v text (symbol w ∷ others) first given in
    let two = next_read (kept between.0 v) (suc (length one.0)) w one.0 others second one.1 in (
      two.0,
      two.1,
      one.2
          ∙ prepend_none (base64_from (kept between.0 v) (suc (length one.0)) one.0)
          ∙ two.2
          ∙ ap (λ octet. prepend (octet ∷ []) (base64_from (kept (kept between.0 v) w) (suc (length two.0)) two.0)) is,
    )

third_read : (last v w x b : ℕ) (text others : List ℕ) → x < 64 → w % 16 * 16 + x / 4 ≡ b → without_blanks text ≡ symbol x ∷ others →
    (rest : List ℕ) × (without_blanks rest ≡ others) × (base64_from (kept (kept between.0 v) w) last text ≡ prepend (b ∷ []) (base64_from (kept (kept (kept between.0 v) w) x) (suc (length rest)) rest))
third_read last v w x b text others small is given =
    let one = next_read (kept (kept between.0 v) w) last x text others small given in
    (one.0, one.1, one.2 ∙ ap (λ octet. prepend (octet ∷ []) (base64_from (kept (kept (kept between.0 v) w) x) (suc (length one.0)) one.0)) is)

fourth_read : (last v w x y c : ℕ) (text others : List ℕ) → y < 64 → x % 4 * 64 + y ≡ c → without_blanks text ≡ symbol y ∷ others →
    (rest : List ℕ) × (without_blanks rest ≡ others) × (base64_from (kept (kept (kept between.0 v) w) x) last text ≡ prepend (c ∷ []) (base64_from between.0 (suc (length rest)) rest))
fourth_read last v w x y c text others small is given =
    let one = next_read (kept (kept (kept between.0 v) w) x) last y text others small given in
    (one.0, one.1, one.2 ∙ ap (λ octet. prepend (octet ∷ []) (base64_from between.0 (suc (length one.0)) one.0)) is)

-- ---- the end
none_due : (text : List ℕ) → without_blanks text ≡ [] → padding_fault 0 text ≡ None
none_due text given = padding_skipped 0 text ∙ ap (padding_fault 0) (none text given)

one_due : (text : List ℕ) → without_blanks text ≡ 0x3D ∷ [] → padding_fault 1 text ≡ None
one_due text given =
    let found = next text 0x3D [] given in
    padding_skipped 1 text ∙ ap (padding_fault 1) found.skipped ∙ none_due found.rest found.left

-- no bits are left
none_left : (bits last : ℕ) → bits ≡ 0 → unless (if bits == 0 then None else Some last) ≡ Ok []
none_left bits last is_none = ap (λ b. unless (if b == 0 then None else Some last)) is_none

one_ends : (last v w : ℕ) (text : List ℕ) → w % 16 ≡ 0 → without_blanks text ≡ 0x3D ∷ 0x3D ∷ [] → base64_from (kept (kept between.0 v) w) last text ≡ Ok []
one_ends last v w text is_none given =
    let found = next text 0x3D (0x3D ∷ []) given in
    skipped_read (kept (kept between.0 v) w) last text
    ∙ ap (base64_from (kept (kept between.0 v) w) last) found.skipped
    ∙ ap (λ fault. unless (or_else fault (if w % 16 == 0 then None else Some last))) (one_due found.rest found.left)
    ∙ none_left (w % 16) last is_none

two_end : (last v w x : ℕ) (text : List ℕ) → x % 4 ≡ 0 → without_blanks text ≡ 0x3D ∷ [] → base64_from (kept (kept (kept between.0 v) w) x) last text ≡ Ok []
two_end last v w x text is_none given =
    let found = next text 0x3D [] given in
    skipped_read (kept (kept (kept between.0 v) w) x) last text
    ∙ ap (base64_from (kept (kept (kept between.0 v) w) x) last) found.skipped
    ∙ ap (λ fault. unless (or_else fault (if x % 4 == 0 then None else Some last))) (none_due found.rest found.left)
    ∙ none_left (x % 4) last is_none

-- as much padding after three octets more
same_padding : (n : ℕ) → (3 - suc (suc (suc n)) % 3) % 3 ≡ (3 - n % 3) % 3
same_padding n = omega arith

-- one octet, two octets, and three before others
one_octet : (last v w a : ℕ) (text : List ℕ) → v < 64 → w < 64 → v * 4 + w / 16 ≡ a → w % 16 ≡ 0 → without_blanks text ≡ symbol v ∷ symbol w ∷ 0x3D ∷ 0x3D ∷ [] → base64_from between.0 last text ≡ Ok (a ∷ [])
one_octet last v w a text v_few w_few a_is is_none given =
    let two = two_read last v w a text (0x3D ∷ 0x3D ∷ []) v_few w_few a_is given in
    two.2 ∙ ap (prepend (a ∷ [])) (one_ends (suc (length two.0)) v w two.0 is_none two.1)

two_octets : (last v w x a b : ℕ) (text : List ℕ) → v < 64 → w < 64 → x < 64 → v * 4 + w / 16 ≡ a → w % 16 * 16 + x / 4 ≡ b → x % 4 ≡ 0 → without_blanks text ≡ symbol v ∷ symbol w ∷ symbol x ∷ 0x3D ∷ [] →
    base64_from between.0 last text ≡ Ok (a ∷ b ∷ [])
two_octets last v w x a b text v_few w_few x_few a_is b_is is_none given =
    let two = two_read last v w a text (symbol x ∷ 0x3D ∷ []) v_few w_few a_is given in
    let three = third_read (suc (length two.0)) v w x b two.0 (0x3D ∷ []) x_few b_is two.1 in
    two.2 ∙ ap (prepend (a ∷ [])) (three.2 ∙ ap (prepend (b ∷ [])) (two_end (suc (length three.0)) v w x three.0 is_none three.1))

three_octets : (last v w x y a b c : ℕ) (text others octets : List ℕ) → v < 64 → w < 64 → x < 64 → y < 64 → v * 4 + w / 16 ≡ a → w % 16 * 16 + x / 4 ≡ b → x % 4 * 64 + y ≡ c → without_blanks text ≡ symbol v ∷ symbol w ∷ symbol x ∷ symbol y ∷ others →
    ((last : ℕ) (rest : List ℕ) → without_blanks rest ≡ others → base64_from between.0 last rest ≡ Ok octets) → base64_from between.0 last text ≡ Ok (a ∷ b ∷ c ∷ octets)
three_octets last v w x y a b c text others octets v_few w_few x_few y_few a_is b_is c_is given go_on =
    let two = two_read last v w a text (symbol x ∷ symbol y ∷ others) v_few w_few a_is given in
    let three = third_read (suc (length two.0)) v w x b two.0 (symbol y ∷ others) x_few b_is two.1 in
    let four = fourth_read (suc (length three.0)) v w x y c three.0 others y_few c_is three.1 in
    two.2 ∙ ap (prepend (a ∷ [])) (three.2 ∙ ap (prepend (b ∷ [])) (four.2 ∙ ap (prepend (c ∷ [])) (go_on (suc (length four.0)) four.0 four.1)))

read_from : (last : ℕ) (text octets : List ℕ) → AreOctets octets → without_blanks text ≡ base64_text octets → base64_from between.0 last text ≡ Ok octets
unfolding encode_symbols
read_from last text [] are given = skipped_read between.0 last text ∙ ap (base64_from between.0 last) (none text given)
read_from last text (a ∷ []) are given =
    let first : a < 256 = are.0 in
    one_octet last (a / 4) (a % 4 * 16) a text (omega arith) (omega arith) (omega arith) (omega arith) given
read_from last text (a ∷ b ∷ []) are given =
    let first : a < 256 = are.0 in
    let second : b < 256 = are.1.0 in
    two_octets last (a / 4) (a % 4 * 16 + b / 16) (b % 16 * 4) a b text (omega arith) (omega arith) (omega arith) (omega arith) (omega arith) (omega arith) given
read_from last text (a ∷ b ∷ c ∷ octets) are given =
    let first : a < 256 = are.0 in
    let second : b < 256 = are.1.0 in
    let third : c < 256 = are.1.1.0 in
    let padded : ℕ → List ℕ = λ n. encode_symbols (alphabet_symbols standard) octets ++ replicate n 0x3D in
    three_octets last (a / 4) (a % 4 * 16 + b / 16) (b % 16 * 4 + c / 64) (c % 64) a b c text (padded ((3 - suc (suc (suc (length octets))) % 3) % 3)) octets
    (omega arith) (omega arith) (omega arith) (omega arith) (omega arith) (omega arith) (omega arith) given
    (λ last rest left. read_from last rest octets are.1.1.1 (left ∙ ap padded (same_padding (length octets))))

pub base64_read : (text octets : List ℕ) → AreOctets octets → without_blanks text ≡ base64_text octets → base64 text ≡ Ok octets
base64_read text octets are given = read_from 0 text octets are given

-- ---- the first characters
-- a text begins with the character of six bits, and with that of six others
pub record Begins (text : List ℕ) (first second : ℕ) : Type 0 where
  pub others : List ℕ
  pub form : text ≡ symbol first ∷ symbol second ∷ others

-- the bits of an octet that the second character has, if it is there
abbrev pub high_bits : List ℕ → ℕ
high_bits [] = 0
high_bits (octet ∷ octets) = octet / 16

pub text_begins : (first : ℕ) (octets : List ℕ) → Begins (base64_text (first ∷ octets)) (first / 4) (first % 4 * 16 + high_bits octets)
unfolding encode_symbols
text_begins first [] = let none : first % 4 * 16 ≡ first % 4 * 16 + 0 = omega arith in record { others = 0x3D ∷ 0x3D ∷ []; form = ap (λ n. symbol (first / 4) ∷ symbol n ∷ 0x3D ∷ 0x3D ∷ []) none }
text_begins first (second ∷ []) = record { others = symbol (second % 16 * 4) ∷ 0x3D ∷ []; form = refl }
text_begins first (second ∷ third ∷ octets) = record {
  others = symbol (second % 16 * 4 + third / 64) ∷ symbol (third % 64) ∷ (encode_symbols (alphabet_symbols standard) octets ++ replicate (padding_len (length (first ∷ second ∷ third ∷ octets))) 0x3D);
  form = refl;
}

high_bits_few : (first : ℕ) (octets : List ℕ) → AreOctets (first ∷ octets) → first % 4 * 16 + high_bits octets < 64
high_bits_few first [] are = omega arith
high_bits_few first (second ∷ octets) are = let small : second < 256 = are.1.0 in omega arith

high_bits_read : (first : ℕ) (octets : List ℕ) → AreOctets (first ∷ octets) → first / 4 * 4 + (first % 4 * 16 + high_bits octets) / 16 ≡ first
high_bits_read first [] are = omega arith
high_bits_read first (second ∷ octets) are = let small : second < 256 = are.1.0 in omega arith

-- so the first octet is read
pub first_octet_read : (text : List ℕ) (first : ℕ) (octets : List ℕ) → AreOctets (first ∷ octets) → without_blanks text ≡ base64_text (first ∷ octets) → first_octet text ≡ Some first
first_octet_read text first octets are given =
    let begins = text_begins first octets in
    let small : first < 256 = are.0 in
    let v : ℕ = first / 4 in
    let w : ℕ = first % 4 * 16 + high_bits octets in
    let one = next text (symbol v) (symbol w ∷ begins.others) (given ∙ begins.form) in
    let two = next one.rest (symbol w) begins.others one.left in
    ap octet_of_first one.skipped
    ∙ ap (octet_of_two (symbol v)) two.skipped
    ∙ ap (option_and_then (λ high. option_map (λ low. high * 4 + low / 16) (character_value (symbol w)))) (symbol_value v (omega arith))
    ∙ ap (option_map (λ low. v * 4 + low / 16)) (symbol_value w (high_bits_few first octets are))
    ∙ ap Some (high_bits_read first octets are)
