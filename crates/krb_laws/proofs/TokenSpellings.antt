-- Tokens of GSS-API and of SPNEGO are spelled in each form, and frames spell themselves.
use Rattle.std.proofs.Common.{ℕ, ◌+◌, ◌-◌, ◌*◌, ◌/◌, ◌%◌, ◌==◌, ◌≡◌, ◌≢◌, ◌&&◌, ◌||◌, ◌⊎◌, inl, inr, if◌then◌else◌, nat_lt, Bool, true, false, List, [], ◌∷◌, length, take, drop, Result, Ok, Err, refl, sym, subst, ap, ◌∙◌}
use Rattle.std.specs.Prelude.{codes}
use Rattle.std.proofs.lemmas.Bool.{eqb-true}
use Rattle.std.specs.List.{list_any}
use Rattle.std.specs.Option.{is_some}
use Rattle.krb_der.specs.Octets.{when}
use Rattle.krb_input.specs.Characters.{is_text}
use Rattle.krb_der.specs.declared.why.Why.TheVariants as why
use Rattle.krb_input.specs.Inputs.{spelled}
use Rattle.krb_input.specs.Octets.{first_no_text}
use Rattle.krb_source.specs.declared.spelling.Spelling.TheVariants as form
use Rattle.krb_msg.specs.Judgement.{Head, Got, head}
use Rattle.krb_token.specs.Items.{Item, entered, expected, item_after, item_of_head}
use Rattle.krb_token.specs.Opened.{Fault, Opened, Part, and_then, fault_in, opened_by}
use Rattle.krb_token.specs.Tokens.{is_ntlm, mechanism_opened, opened, whole}
use Rattle.krb_source.specs.declared.layer.Layer.{Layer}
use Rattle.krb_source.specs.declared.layer.Layer.TheVariants.{Frame, Gss}
use Rattle.krb_laws.specs.Spelled.{AreToken, FramesAreSpelled, IsFound, TokensAreSpelled}
use Rattle.krb_laws.specs.Written.{base64_text}
use Rattle.krb_laws.proofs.Base64.{high_bits, text_begins}
use Rattle.krb_laws.proofs.Characters.{symbol}
use Rattle.krb_laws.proofs.InEachForm.{AreApart, in_each_form}
use Rattle.krb_laws.proofs.Octets.{no_text_among, no_text_in_part, octets_are_spelled}
use Rattle.krb_laws.proofs.Opened.{frame_layers, opened_as}
use Rattle.krb_laws.proofs.Unfit.{is_unfit}

-- ---- which octets begin a token
IsTokenTag : ℕ → Type 0
IsTokenTag first = (first ≡ 0x60) ⊎ ((first ≡ 0xA0) ⊎ (first ≡ 0xA1))

by_tests : (first : ℕ) (zero gss init response ticket ntlm : Bool) (initial later : Opened) (octets : List ℕ) (layer : Layer) (layers : List Layer) → (first == 0x60) ≡ gss → (first == 0xA0) ≡ init → (first == 0xA1) ≡ response →
    (opened_as zero gss init response ticket ntlm initial later octets).layers ≡ layer ∷ layers → layer ≢ Frame → IsTokenTag first
unfolding IsTokenTag
by_tests first true gss init response ticket ntlm initial later octets layer layers is_gss is_init is_response opens no_frame =
    let same : layer ∷ layers ≡ Frame ∷ [] = sym opens ∙ frame_layers octets in
    let layer_is : layer ≡ Frame = cc in
    absurd (no_frame layer_is)
by_tests first false true init response ticket ntlm initial later octets layer layers is_gss is_init is_response opens no_frame = inl (eqb-true first 0x60 is_gss)
by_tests first false false true response ticket ntlm initial later octets layer layers is_gss is_init is_response opens no_frame = inr (inl (eqb-true first 0xA0 is_init))
by_tests first false false false true ticket ntlm initial later octets layer layers is_gss is_init is_response opens no_frame = inr (inr (eqb-true first 0xA1 is_response))
by_tests first false false false false true ntlm initial later octets layer layers is_gss is_init is_response opens no_frame = absurd (cc)
by_tests first false false false false false true initial later octets layer layers is_gss is_init is_response opens no_frame = absurd (cc)
by_tests first false false false false false false initial later octets layer layers is_gss is_init is_response opens no_frame = absurd (cc)

token_tag : (first : ℕ) (octets : List ℕ) → AreToken (first ∷ octets) → IsTokenTag first
token_tag first octets token =
    by_tests first (first == 0x00) (first == 0x60) (first == 0xA0) (first == 0xA1) (first == 0x61) (is_ntlm (first ∷ octets)) _ _ (first ∷ octets) token.layer token.layers refl refl refl token.opens token.no_frame

-- ---- the identifier in a token of GSS-API, of which the tag is no text
-- what is read of the contents of a token, with what is made of its identifier
abbrev identifier_in : (Item → Result Item Fault) → Part → Result Item Fault
identifier_in made part = and_then (expected (codes "GSS") 0x06 part.place part.octets) (λ _. and_then (entered (codes "GSS.oid") 0x06 false part) made)

abbrev opened_to : Result Item Fault → Type 0
opened_to read = IsFound (opened_by (Gss ∷ []) read mechanism_opened).found

by_tag : (octet : ℕ) (octets : List ℕ) (fault : Fault) (next : Unit {0} → Result Item Fault) (is_identifier : Bool) → (octet == 0x06) ≡ is_identifier → opened_to (and_then (when is_identifier (λ _. Ok tt) (λ _. Err fault)) next) →
    is_some (first_no_text (octet ∷ octets)) ≡ true
by_tag octet octets fault next true is found = no_text_among [] octet octets (ap is_text (eqb-true octet 0x06 is))
by_tag octet octets fault next false is found = absurd found

by_contents : (made : Item → Result Item Fault) (place : ℕ) (contents : List ℕ) → opened_to (identifier_in made (record { place = place; octets = contents })) → is_some (first_no_text contents) ≡ true
by_contents made place [] found = absurd found
by_contents made place (octet ∷ octets) found =
    by_tag octet octets (fault_in (codes "GSS") place why.Tag) (λ _. and_then (entered (codes "GSS.oid") 0x06 false (record { place = place; octets = octet ∷ octets })) made) (octet == 0x06) refl found

by_fill : (made : Item → Result Item Fault) (octets : List ℕ) (header size : ℕ) (loose : Bool) (fault : Fault) → opened_to (and_then (if loose then Err fault else Ok (item_after header size (whole octets))) (λ token. identifier_in made token.contents)) → is_some (first_no_text octets) ≡ true
by_fill made octets header size true fault found = absurd found
by_fill made octets header size false fault found = no_text_in_part header size octets (by_contents made (0 + header) (take size (drop header octets)) found)

by_head : (made : Item → Result Item Fault) (octets : List ℕ) (found_head : Head) → opened_to (and_then (item_of_head (codes "GSS") true (whole octets) found_head) (λ token. identifier_in made token.contents)) → is_some (first_no_text octets) ≡ true
by_head made octets (Got header size) found = by_fill made octets header size (true && nat_lt (header + size) (length octets)) (fault_in (codes "GSS") (0 + (header - 1)) why.Loose) found
by_head made octets other found = absurd found

gss_no_text : (octets : List ℕ) → IsFound (opened (0x60 ∷ octets)).found → is_some (first_no_text (0x60 ∷ octets)) ≡ true
gss_no_text octets found = by_head _ (0x60 ∷ octets) (head (length (0x60 ∷ octets)) (0x60 ∷ octets)) found

-- ---- tokens
unfit_first : (first : ℕ) (octets : List ℕ) → is_unfit (symbol (first / 4)) ≡ true → list_any is_unfit (base64_text (first ∷ octets)) ≡ true
unfit_first first octets is =
    let begins = text_begins first octets in
    let others : List ℕ = symbol (first % 4 * 16 + high_bits octets) ∷ begins.others in
    ap (list_any is_unfit) begins.form ∙ ap (λ b. b || list_any is_unfit others) is

gss_apart : (octets : List ℕ) → IsFound (opened (0x60 ∷ octets)).found → AreApart 0x60 octets
gss_apart octets found = record {
  no_zero = refl;
  no_mark = refl;
  is_first = refl;
  begins = refl;
  no_text = gss_no_text octets found;
  unfit = unfit_first 0x60 octets refl;
}

init_apart : (octets : List ℕ) → AreApart 0xA0 octets
init_apart octets = record {
  no_zero = refl;
  no_mark = refl;
  is_first = refl;
  begins = refl;
  no_text = no_text_among [] 0xA0 octets refl;
  unfit = unfit_first 0xA0 octets refl;
}

response_apart : (octets : List ℕ) → AreApart 0xA1 octets
response_apart octets = record {
  no_zero = refl;
  no_mark = refl;
  is_first = refl;
  begins = refl;
  no_text = no_text_among [] 0xA1 octets refl;
  unfit = unfit_first 0xA1 octets refl;
}

token_apart : (first : ℕ) (octets : List ℕ) → IsFound (opened (first ∷ octets)).found → IsTokenTag first → AreApart first octets
unfolding IsTokenTag
token_apart first octets found (inl is) = subst (λ f. AreApart f octets) (sym is) (gss_apart octets (subst (λ f. IsFound (opened (f ∷ octets)).found) is found))
token_apart first octets found (inr (inl is)) = subst (λ f. AreApart f octets) (sym is) (init_apart octets)
token_apart first octets found (inr (inr is)) = subst (λ f. AreApart f octets) (sym is) (response_apart octets)

pub tokens_are_spelled : TokensAreSpelled
tokens_are_spelled [] are token = let same : [] ≡ token.layer ∷ token.layers = token.opens in absurd (cc)
tokens_are_spelled (first ∷ octets) are token = in_each_form first octets are (token_apart first octets token.found (token_tag first octets token))

-- ---- frames
pub frames_are_spelled : FramesAreSpelled
frames_are_spelled message octets frame =
    let others : List ℕ = frame.second ∷ frame.third ∷ frame.fourth ∷ message in
    subst (λ o. spelled o ≡ Ok (form.Octets, o)) (sym frame.form) (octets_are_spelled (0 ∷ others) refl refl (no_text_among [] 0 others refl))
