-- Blanks and escapes change nothing of what a line spells.
use Rattle.std.proofs.Common.{◌≡◌, ◌⊎◌, ℕ, Bool, true, false, cond, ◌==◌, ◌&&◌, ◌||◌, nat_lt, if◌then◌else◌, arith, List, [], ◌∷◌, ◌++◌, map, Option, Some, None, is_some, option_map, option_and_then, refl, sym, ap, ap₂, subst, ◌∙◌, append_assoc, inl, inr}
use Rattle.std.proofs.lemmas.Bool.{and_parts, ne_eqb, true≢false}
use Rattle.std.proofs.lemmas.Bool.Decides.{nat_tests}
use Rattle.std.specs.Char.{encode_utf8, is_digit}
use Rattle.std.specs.List.{flat_map}
use Rattle.std.specs.Str.{is_utf8}
use Rattle.json.specs.Json.{Json, document, if_last, max_depth, value}
use Rattle.json.specs.Lex.{Lexeme, Mode, between, fresh, in_string, lex, lex_byte, operator, operator_lexeme, other, punctuate, space, string_token, token}
use Rattle.json.specs.Print.{token_text}
use Rattle.json.specs.Text.{code_unit, content, is_high_surrogate, is_low_surrogate, plain, prepend, short_escape, surrogate_pair}
use Rattle.json.specs.Token.{Token, boolean, null, number, string, bad}
use Rattle.json.specs.Word.{ends_word, is_operator, is_space, word}
use Rattle.json.proofs.Printed.Numbers.{in_word-ended, lex-number}
use Rattle.krb_json.specs.Lines.{value_of_line, value_spells}
use Rattle.krb_message_laws.specs.Spellings.{AString, AMark, AWord, AreParts, Blank, BlanksAndEscapesChangeNothing, Character, Escaped, IsWord, Itself, Letter, Mark, Meant, Part, String, Surrogates, Word, character_text, end_a_word, meant, octets_of_character, octets_of_string, part_text, text_of}

-- ---- characters
-- an octet that is neither a quote nor a backslash is passed over in a string
stays : (is_operator is_space : Bool) (x : ℕ) (r : List ℕ) (k : Mode → List Lexeme) → lex_byte in_string (cond is_operator operator (cond is_space space other)) x r k ≡ k in_string
stays true s x r k = refl
stays false true x r k = refl
stays false false x r k = refl

passed : (x : ℕ) (r : List ℕ) → (x == 34) ≡ false → (x == 92) ≡ false → lex in_string (x ∷ r) ≡ lex in_string r
unfolding lex
passed x r no_quote no_backslash = rw (no_quote, no_backslash) (stays (is_operator x) (is_space x) x r (λ m. lex m r))

-- a digit is neither
no_digit : (x c : ℕ) → is_digit x 16 ≡ true → is_digit c 16 ≡ false → (x == c) ≡ false
no_digit x c is not_c = ne_eqb x c (λ e. true≢false (sym is ∙ ap (λ y. is_digit y 16) e ∙ not_c))

digit_passed : (x : ℕ) (r : List ℕ) → is_digit x 16 ≡ true → lex in_string (x ∷ r) ≡ lex in_string r
digit_passed x r is = passed x r (no_digit x 34 is refl) (no_digit x 92 is refl)

-- four digits
some_unit : (digits : Bool) (unit value : ℕ) → cond digits (Some unit) None ≡ Some value → digits ≡ true
some_unit true unit value e = refl
some_unit false unit value e = cc e

unit_passed : (a b c d unit : ℕ) (r : List ℕ) → code_unit a b c d ≡ Some unit → lex in_string (a ∷ b ∷ c ∷ d ∷ r) ≡ lex in_string r
unfolding code_unit
unit_passed a b c d unit r e =
    let all = some_unit (is_digit a 16 && is_digit b 16 && is_digit c 16 && is_digit d 16) _ unit e in
    let four = and_parts (is_digit a 16 && is_digit b 16 && is_digit c 16) (is_digit d 16) all in
    let three = and_parts (is_digit a 16 && is_digit b 16) (is_digit c 16) four.0 in
    let two = and_parts (is_digit a 16) (is_digit b 16) three.0 in
    digit_passed a (b ∷ c ∷ d ∷ r) two.0 ∙ digit_passed b (c ∷ d ∷ r) two.1 ∙ digit_passed c (d ∷ r) three.1 ∙ digit_passed d r four.1

-- what is read of a character before any text
record IsRead (text octets : List ℕ) : Type 0 where
  content_is : (r : List ℕ) → content plain (text ++ r) ≡ prepend octets (content plain r)
  passes : (r : List ℕ) → lex in_string (text ++ r) ≡ lex in_string r

abbrev or_none : Option (List ℕ) → List ℕ
or_none None = []
or_none (Some octets) = octets

read_as : (text found octets : List ℕ) → Some found ≡ Some octets → IsRead text found → IsRead text octets
read_as text found octets e is = subst (IsRead text) (ap or_none e) is

itself_read : (x : ℕ) (low is_quote is_backslash : Bool) (octets : List ℕ) → nat_lt x 32 ≡ low → (x == 34) ≡ is_quote → (x == 92) ≡ is_backslash
    → (if low || is_quote || is_backslash then None else Some (x ∷ [])) ≡ Some octets → IsRead (x ∷ []) octets
unfolding content
itself_read x true q b octets l e f is = cc is
itself_read x false true b octets l e f is = cc is
itself_read x false false true octets l e f is = cc is
itself_read x false false false octets l e f is =
    read_as (x ∷ []) (x ∷ []) octets is (record { content_is = λ r. rw (e, f, l) refl; passes = λ r. passed x r e f })

no_unit : (letter octet : ℕ) → short_escape letter ≡ Some octet → (letter == 117) ≡ false
unfolding short_escape
no_unit letter octet e = ne_eqb letter 117 (λ u. let no : None ≡ Some octet = sym (ap short_escape u) ∙ e in absurd cc)

letter_read : (letter : ℕ) (found : Option ℕ) (octets : List ℕ) → short_escape letter ≡ found → option_map (λ octet. octet ∷ []) found ≡ Some octets → IsRead (92 ∷ letter ∷ []) octets
unfolding content lex
letter_read letter None octets e is = cc is
letter_read letter (Some octet) octets e is =
    read_as (92 ∷ letter ∷ []) (octet ∷ []) octets is
    (record {
      content_is = λ r. rw (no_unit letter octet e, e) refl;
      passes = λ r. refl;
    })

-- by the units that digits spell
escaped_read : (a b c d : ℕ) (unit : Option ℕ) (octets : List ℕ) → code_unit a b c d ≡ unit
    → option_and_then (λ unit. if is_high_surrogate unit || is_low_surrogate unit then None else Some (encode_utf8 unit)) unit ≡ Some octets → IsRead (92 ∷ 117 ∷ a ∷ b ∷ c ∷ d ∷ []) octets
unfolding content lex
escaped_read a b c d None octets e is = cc is
escaped_read a b c d (Some unit) octets e is = by (is_high_surrogate unit) (is_low_surrogate unit) refl refl is
  where
    by : (high low : Bool) → is_high_surrogate unit ≡ high → is_low_surrogate unit ≡ low → (if high || low then None else Some (encode_utf8 unit)) ≡ Some octets → IsRead (92 ∷ 117 ∷ a ∷ b ∷ c ∷ d ∷ []) octets
    by true low h l is = cc is
    by false true h l is = cc is
    by false false h l is =
        read_as (92 ∷ 117 ∷ a ∷ b ∷ c ∷ d ∷ []) (encode_utf8 unit) octets is
        (record { content_is = λ r. rw (e, h, l) refl; passes = λ r. unit_passed a b c d unit r e })

surrogates_read : (a b c d e f g h : ℕ) (first second : Option ℕ) (octets : List ℕ) → code_unit a b c d ≡ first → code_unit e f g h ≡ second
    → option_and_then (λ high. if is_high_surrogate high then option_and_then (λ low. if is_low_surrogate low then Some (encode_utf8 (surrogate_pair high low)) else None) second else None) first ≡ Some octets
    → IsRead (92 ∷ 117 ∷ a ∷ b ∷ c ∷ d ∷ 92 ∷ 117 ∷ e ∷ f ∷ g ∷ h ∷ []) octets
unfolding content lex
surrogates_read a b c d e f g h None second octets is_first is_second is = cc is
surrogates_read a b c d e f g h (Some high) second octets is_first is_second is = by (is_high_surrogate high) second refl is_second is
  where
    text : List ℕ
    text = 92 ∷ 117 ∷ a ∷ b ∷ c ∷ d ∷ 92 ∷ 117 ∷ e ∷ f ∷ g ∷ h ∷ []

    pair : (low : ℕ) (is_low : Bool) → is_high_surrogate high ≡ true → code_unit e f g h ≡ Some low → is_low_surrogate low ≡ is_low → (if is_low then Some (encode_utf8 (surrogate_pair high low)) else None) ≡ Some octets → IsRead text octets
    pair low false h_is is_low l is = cc is
    pair low true h_is is_low l is =
        read_as text (encode_utf8 (surrogate_pair high low)) octets is
        (record {
          content_is = λ r. rw (is_first, h_is, is_low, l) refl;
          passes = λ r. unit_passed a b c d high (92 ∷ 117 ∷ e ∷ f ∷ g ∷ h ∷ r) is_first ∙ unit_passed e f g h low r is_low;
        })

    by : (is_high : Bool) (second : Option ℕ) → is_high_surrogate high ≡ is_high → code_unit e f g h ≡ second
        → (if is_high then option_and_then (λ low. if is_low_surrogate low then Some (encode_utf8 (surrogate_pair high low)) else None) second else None) ≡ Some octets → IsRead text octets
    by false second h_is is_second is = cc is
    by true None h_is is_second is = cc is
    by true (Some low) h_is is_second is = pair low (is_low_surrogate low) h_is is_second refl is

character_read : (c : Character) (octets : List ℕ) → octets_of_character c ≡ Some octets → IsRead (character_text c) octets
character_read (Itself octet) octets is = itself_read octet (nat_lt octet 32) (octet == 34) (octet == 92) octets refl refl refl is
character_read (Letter letter) octets is = letter_read letter (short_escape letter) octets refl is
character_read (Escaped a b c d) octets is = escaped_read a b c d (code_unit a b c d) octets refl is
character_read (Surrogates a b c d e f g h) octets is = surrogates_read a b c d e f g h (code_unit a b c d) (code_unit e f g h) octets refl refl is

-- ---- strings
-- a string up to its quote
record IsReadTo (text octets : List ℕ) : Type 0 where
  content_is : (r : List ℕ) → content plain (text ++ 34 ∷ r) ≡ Some octets
  passes : (r : List ℕ) → lex in_string (text ++ 34 ∷ r) ≡ lex between r

module _ (c : Character) (characters : List Character) where
  abbrev text : List ℕ
  text = flat_map character_text characters

  parts : (r : List ℕ) → (character_text c ++ text) ++ 34 ∷ r ≡ character_text c ++ (text ++ 34 ∷ r)
  parts r = append_assoc (character_text c) text (34 ∷ r)

  both : (first rest : List ℕ) → IsRead (character_text c) first → IsReadTo text rest → IsReadTo (character_text c ++ text) (first ++ rest)
  both first rest one others = record {
    content_is = λ r. ap (content plain) (parts r) ∙ one.content_is (text ++ 34 ∷ r) ∙ ap (prepend first) (others.content_is r);
    passes = λ r. ap (lex in_string) (parts r) ∙ one.passes (text ++ 34 ∷ r) ∙ others.passes r;
  }

  one_more : (octets : List ℕ) (first rest : Option (List ℕ)) → octets_of_character c ≡ first → ((octets : List ℕ) → rest ≡ Some octets → IsReadTo text octets)
      → option_and_then (λ octets. option_map (λ rest. octets ++ rest) rest) first ≡ Some octets → IsReadTo (character_text c ++ text) octets
  one_more octets None rest e others is = cc is
  one_more octets (Some first) None e others is = cc is
  one_more octets (Some first) (Some rest) e others is = subst (IsReadTo (character_text c ++ text)) (ap or_none is) (both first rest (character_read c first e) (others rest refl))

string_read : (characters : List Character) (octets : List ℕ) → octets_of_string characters ≡ Some octets → IsReadTo (flat_map character_text characters) octets
unfolding content lex
string_read [] octets is = subst (IsReadTo []) (ap or_none is) (record { content_is = λ r. refl; passes = λ r. refl })
string_read (c ∷ characters) octets is = one_more c characters octets (octets_of_character c) (octets_of_string characters) refl (string_read characters) is

-- ---- parts
abbrev string_of : Option (List ℕ) → Token
string_of None = bad
string_of (Some octets) = string octets

abbrev lexeme : Meant → Lexeme
lexeme (AMark octet) = operator_lexeme octet
lexeme (AWord word) = token word
lexeme (AString octets) = token (string_of octets)

blank_is : (x : ℕ) → is_space x ≡ true → (x ≡ 32) ⊎ ((x ≡ 9) ⊎ ((x ≡ 10) ⊎ (x ≡ 13)))
blank_is x is = grind (arith, nat_tests)

blank_lexed : (x : ℕ) (r : List ℕ) → is_space x ≡ true → lex between (x ∷ r) ≡ lex between r
unfolding lex
blank_lexed x r is = by (blank_is x is)
  where
    by : (x ≡ 32) ⊎ ((x ≡ 9) ⊎ ((x ≡ 10) ⊎ (x ≡ 13))) → lex between (x ∷ r) ≡ lex between r
    by (inl e) = ap (λ y. lex between (y ∷ r)) e
    by (inr (inl e)) = ap (λ y. lex between (y ∷ r)) e
    by (inr (inr (inl e))) = ap (λ y. lex between (y ∷ r)) e
    by (inr (inr (inr e))) = ap (λ y. lex between (y ∷ r)) e

mark_lexed : (x : ℕ) (r : List ℕ) → is_operator x ≡ true → lex between (x ∷ r) ≡ operator_lexeme x ∷ lex between r
unfolding lex
mark_lexed x r is =
    rw (
      ne_eqb x 34 (λ e. true≢false (sym is ∙ ap is_operator e)),
      ne_eqb x 92 (λ e. true≢false (sym is ∙ ap is_operator e)),
      is,
    ) refl

word_lexed : (t : Token) (r : List ℕ) → IsWord t → ends_word r ≡ true → lex between (token_text t ++ r) ≡ token t ∷ lex between r
unfolding lex word
word_lexed (number s) r is ended = lex-number s r is ended
word_lexed (boolean true) r is ended = ap₂ (λ b l. token (cond b (boolean true) bad) ∷ l) ended (in_word-ended r ended)
word_lexed (boolean false) r is ended = ap₂ (λ b l. token (cond b (boolean false) bad) ∷ l) ended (in_word-ended r ended)
word_lexed null r is ended = ap₂ (λ b l. token (cond b null bad) ∷ l) ended (in_word-ended r ended)
word_lexed another r is ended = absurd is

string_lexed : (characters : List Character) (found : Option (List ℕ)) (r : List ℕ) → octets_of_string characters ≡ found → is_some found ≡ true → lex between (part_text (String characters) ++ r) ≡ token (string_of found) ∷ lex between r
unfolding lex
string_lexed characters None r e is = cc is
string_lexed characters (Some octets) r e is =
    let read = string_read characters octets e in
    let parts = append_assoc (flat_map character_text characters) (34 ∷ []) r in
    ap (λ l. lex between (34 ∷ l)) parts ∙ ap₂ (λ o l. token (string_token o) ∷ l) (read.content_is r) (read.passes r)

either : (a b : Bool) → b ≡ true → (a || b) ≡ true
either true b e = refl
either false b e = e

-- a blank and a mark end a word
ended : (parts : List Part) → AreParts parts → end_a_word parts ≡ true → ends_word (text_of parts) ≡ true
ended [] are is = refl
ended (Blank octet ∷ parts) are is = either (is_operator octet) (is_space octet) are.0
ended (Mark octet ∷ parts) are is = ap (λ b. b || is_space octet) are.0
ended (Word word ∷ parts) are is = cc is
ended (String characters ∷ parts) are is = cc is

lexed : (parts : List Part) → AreParts parts → lex between (text_of parts) ≡ map lexeme (flat_map meant parts)
unfolding lex
lexed [] are = refl
lexed (Blank octet ∷ parts) are = blank_lexed octet (text_of parts) are.0 ∙ lexed parts are.1
lexed (Mark octet ∷ parts) are = mark_lexed octet (text_of parts) are.0 ∙ ap (λ l. operator_lexeme octet ∷ l) (lexed parts are.1)
lexed (Word its ∷ parts) are = word_lexed its (text_of parts) are.0 (ended parts are.2 are.1) ∙ ap (λ l. token its ∷ l) (lexed parts are.2)
lexed (String characters ∷ parts) are =
    string_lexed characters (octets_of_string characters) (text_of parts) refl are.0 ∙ ap (λ l. token (string_of (octets_of_string characters)) ∷ l) (lexed parts are.1)

-- ---- lines
abbrev of_lexemes : List Lexeme → Option Json
of_lexemes lexemes = option_and_then (λ p. if_last p.0 p.1) (value max_depth (punctuate fresh lexemes))

value_is : (parts : List Part) → AreParts parts → is_utf8 (text_of parts) ≡ true → value_of_line (text_of parts) ≡ of_lexemes (map lexeme (flat_map meant parts))
value_is parts are utf8 = ap (λ b. if b then document (text_of parts) else None) utf8 ∙ ap of_lexemes (lexed parts are)

pub blanks_and_escapes_change_nothing : BlanksAndEscapesChangeNothing
blanks_and_escapes_change_nothing profile limit parts others are also utf8 as_well same =
    ap (value_spells profile limit) (value_is parts are utf8 ∙ ap (λ m. of_lexemes (map lexeme m)) same ∙ sym (value_is others also as_well))
