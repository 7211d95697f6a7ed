-- What octets are opened to: a message under layers, or a Ticket, and nothing else under these.
use Rattle.std.proofs.Common.{◌≡◌, ℕ, ◌+◌, ◌^◌, ◌<◌, ◌⊎◌, inl, inr, ◌==◌, Bool, true, false, ltb, List, [], ◌∷◌, ◌++◌, length, drop, Option, Some, None, Ok, refl, sym, ◌∙◌, ap, subst, arith, append-nil}
use Rattle.std.specs.Prelude.{codes, bytes_eq}
use Rattle.std.specs.List.{AllByRecursion}
use Rattle.std.proofs.lemmas.Bool.{both_ways, cond_both, eqb-true, eqb-false, false_from_ne_true}
use Rattle.std.proofs.lemmas.Bool.Decides.{Decides-eqb}
use Rattle.std.proofs.lemmas.Slice.Eq.{bytes_eq-Decides, starts_is}
use Rattle.krb_der.specs.Octets.{AreOctets, when, number}
use Rattle.krb_der.specs.inner.Numbers.{when-true, when-false}
use Rattle.krb_der.specs.inner.Items.{same_from_cons}
use Rattle.krb_der.specs.declared.why.Why.TheVariants as why
use Rattle.krb_token.proofs.Frames.{frames_are_opened}
use Rattle.krb_laws.proofs.TokenItems.{entered_item, entered_back, octets_of_contents, small_contents, begins_alone, alone_back}
use Rattle.krb_laws.proofs.TokenFields.{AreRising, of_token, fields_form, fields_back, then_back}
use Rattle.krb_laws.proofs.TokenGss.{layers_of, no_message, same_message, of_inner, identified_form, identified_back, gss_form, gss_back, opened_back}
use Rattle.krb_token.specs.Gss.{identified, is_kerberos, negotiation, kerberos_opened, unknown_mechanism}
use Rattle.krb_token.specs.Items.{Item, entered}
use Rattle.krb_token.specs.Opened.{Part, Message, Ticket, Ntlm, Opened, and_then, opened_by, under, message_under, refused_in, refused_bare}
use Rattle.krb_token.specs.Spnego.{neg_read, neg_fields, neg_tag, neg_path, spnego, fields_read}
use Rattle.krb_laws.specs.Opened.{IsItem, AreFields, IsGssOf, IsGssToken, IsNegToken, IsBare, IsTokenUnder, IsNegUnder, DoNotBegin, beginnings, IsMessageUnder, LayersAreOpened}
use Rattle.krb_token.specs.Tokens.{frame_of_length, frame_opened, is_ntlm, is_message_tag, gss_in_spnego, token_in, neg_opened, spnego_opened, spnego_in_gss, mechanism_opened, gss_opened, whole, opened}
use Rattle.krb_token.specs.declared.fields.NegToken.{NegToken}
use Rattle.krb_token.specs.declared.fields.NegToken.TheVariants as neg
use Rattle.krb_source.specs.declared.layer.Layer.{Layer}
use Rattle.krb_source.specs.declared.layer.Layer.TheVariants.{Frame, Gss, Spnego}

-- ---- a token of SPNEGO
rising : (neg : NegToken) → AreRising 0 (neg_fields neg)
rising neg.Init = (omega arith, tt, (omega arith, tt, (omega arith, tt, (omega arith, (omega arith, tt, (omega arith, tt, tt)), (omega arith, tt, tt)))))
rising neg.Response = (omega arith, tt, (omega arith, tt, (omega arith, tt, (omega arith, tt, tt))))

neg_form : (neg : NegToken) (part token : Part) → IsNegToken neg part token → length part.octets < 2 ^ 32 → neg_read neg part ≡ Ok (Some token)
neg_form neg part token is small =
    let chosen = begins_alone (neg_tag neg) part is.choice is.chosen in
    let listed = begins_alone 0x30 is.choice is.sequence is.listed in
    let in_choice : length is.choice.octets < 2 ^ 32 = (small_contents (neg_tag neg) part is.choice _ chosen small).0 in
    ap (λ read. and_then {B = Option Part} read (λ choice. and_then (entered spnego 0x30 true choice.contents) (λ sequence. fields_read (neg_fields neg) spnego None sequence.contents))) (entered_item spnego (neg_tag neg) true part is.choice _ chosen small (λ t. refl))
    ∙ ap (λ read. and_then {B = Option Part} read (λ sequence. fields_read (neg_fields neg) spnego None sequence.contents)) (entered_item spnego 0x30 true is.choice is.sequence _ listed in_choice (λ t. refl))
    ∙ fields_form (neg_fields neg) spnego 0 None (Some token) is.sequence is.fields (rising neg) (small_contents 0x30 is.choice is.sequence _ listed in_choice).0

record IsNegRead (neg : NegToken) (part : Part) (found : Option Part) : Type 0 where
  choice : Part
  sequence : Part
  chosen : IsItem (neg_tag neg) part choice
  listed : IsItem 0x30 choice sequence
  fields : AreFields (neg_fields neg) None found sequence
  octets : AreOctets sequence.octets

neg_back : (neg : NegToken) (part : Part) (found : Option Part) → AreOctets part.octets → neg_read neg part ≡ Ok found → IsNegRead neg part found
neg_back neg part found a e =
    let f = then_back (entered spnego (neg_tag neg) true part) (λ choice. and_then (entered spnego 0x30 true choice.contents) (λ sequence. fields_read (neg_fields neg) spnego None sequence.contents)) found e in
    let g = then_back (entered spnego 0x30 true f.first.contents) (λ sequence. fields_read (neg_fields neg) spnego None sequence.contents) found f.read_next in
    let chosen : IsItem (neg_tag neg) part f.first.contents = alone_back (neg_tag neg) part f.first (entered_back spnego (neg_tag neg) true part f.first a f.read_first) in
    let in_choice : AreOctets f.first.contents.octets = (octets_of_contents (neg_tag neg) part f.first.contents _ (begins_alone (neg_tag neg) part f.first.contents chosen) a).0 in
    let listed : IsItem 0x30 f.first.contents g.first.contents = alone_back 0x30 f.first.contents g.first (entered_back spnego 0x30 true f.first.contents g.first in_choice g.read_first) in
    let in_sequence : AreOctets g.first.contents.octets = (octets_of_contents 0x30 f.first.contents g.first.contents _ (begins_alone 0x30 f.first.contents g.first.contents listed) in_choice).0 in
    record { choice = f.first.contents; sequence = g.first.contents; chosen = chosen; listed = listed; fields = fields_back (neg_fields neg) spnego None found g.first.contents in_sequence g.read_next; octets = in_sequence }

-- ---- the token of a mechanism in it
-- a choice that came out so
pub when_cases : {A : Type 0} (test : Bool) (chosen other : Unit {0} → A) (result : A) → when test chosen other ≡ result → ((test ≡ true) × (chosen tt ≡ result)) ⊎ ((test ≡ false) × (other tt ≡ result))
when_cases true chosen other result e = inl (refl, e)
when_cases false chosen other result e = inr (refl, e)

gss_chosen : (layers : List Layer) (found : Item) → is_kerberos found.contents.octets ≡ true → when (is_kerberos found.contents.octets) (λ _. kerberos_opened layers found.rest.place found.rest.octets) (λ _. unknown_mechanism layers found) ≡ kerberos_opened layers found.rest.place found.rest.octets
gss_chosen layers found known = when-true (is_kerberos found.contents.octets) _ _ known

gss_in_form : (layers : List Layer) (part message : Part) → IsGssToken part message → length part.octets < 2 ^ 32 → gss_in_spnego layers part ≡ under layers (Message message)
gss_in_form layers part message is small = gss_form layers layers (λ found. when (is_kerberos found.contents.octets) (λ _. kerberos_opened layers found.rest.place found.rest.octets) (λ _. unknown_mechanism layers found)) part message is small (gss_chosen layers)

gss_in_back : (layers wanted : List Layer) (part message : Part) → AreOctets part.octets → gss_in_spnego layers part ≡ under wanted (Message message) → (layers ≡ wanted) × IsGssToken part message
gss_in_back layers wanted part message a e =
    let next : Item → Opened = λ found. when (is_kerberos found.contents.octets) (λ _. kerberos_opened layers found.rest.place found.rest.octets) (λ _. unknown_mechanism layers found) in
    let f = opened_back layers wanted (identified part) next message e in
    chosen f.first (identified_back part f.first a f.read_first) (when_cases (is_kerberos f.first.contents.octets) _ _ _ f.opened_next)
  where
    chosen : (found : Item) → IsGssOf found.contents.octets part found.rest → ((is_kerberos found.contents.octets ≡ true) × (kerberos_opened layers found.rest.place found.rest.octets ≡ under wanted (Message message))) ⊎ ((is_kerberos found.contents.octets ≡ false) × (unknown_mechanism layers found ≡ under wanted (Message message))) → (layers ≡ wanted) × IsGssToken part message
    chosen found is (inl k) = gss_back layers wanted part message found is k.0 k.1
    chosen found is (inr k) = absurd (no_message layers wanted _ message k.1)

token_begins : (prefix : List Layer) (path : List ℕ) (part token : Part) (tag : ℕ) (rest : List ℕ) → token.octets ≡ tag ∷ rest → token_in prefix path part token.octets ≡ token_in prefix path part (tag ∷ rest)
token_begins prefix path part token tag rest e = ap (token_in prefix path part) e

bare_form : (prefix : List Layer) (path : List ℕ) (token message : Part) → IsBare token message → token_in prefix path token token.octets ≡ under prefix (Message message)
bare_form prefix path token message is =
    token_begins prefix path token token is.tag is.rest is.begins
    ∙ when-false (is.tag == 0x60) _ _ (no_gss is.tag is.allowed)
    ∙ when-true (is_message_tag is.tag) _ _ is.allowed
    ∙ ap (λ it. under prefix (Message it)) (sym is.same)
  where
    no_gss : (tag : ℕ) → is_message_tag tag ≡ true → (tag == 0x60) ≡ false
    no_gss tag t = false_from_ne_true (tag == 0x60) (λ g. let f : is_message_tag 0x60 ≡ true = subst (λ n. is_message_tag n ≡ true) (eqb-true tag 0x60 g) t in absurd cc)

gss_begins : (part message : Part) → IsGssToken part message → (rest : List ℕ) × (part.octets ≡ 0x60 ∷ rest)
gss_begins part message is = (_, is.gss.form)

token_form : (prefix : List Layer) (path : List ℕ) (layers : List Layer) (token message : Part) → IsTokenUnder layers token message → length token.octets < 2 ^ 32 → token_in prefix path token token.octets ≡ under (prefix ++ layers) (Message message)
token_form prefix path [] token message is small = bare_form prefix path token message is ∙ ap (λ layers. under layers (Message message)) (sym (append-nil prefix))
token_form prefix path (Gss ∷ []) token message is small =
    token_begins prefix path token token 0x60 _ (gss_begins token message is).1
    ∙ gss_in_form (prefix ++ (Gss ∷ [])) token message is small
token_form prefix path (Frame ∷ layers) token message is small = absurd is
token_form prefix path (Spnego ∷ layers) token message is small = absurd is
token_form prefix path (Gss ∷ layer ∷ layers) token message is small = absurd is

-- the token of a mechanism is a message under some layers
record IsTokenBack (prefix wanted : List Layer) (token message : Part) : Type 0 where
  layers : List Layer
  under_layers : prefix ++ layers ≡ wanted
  is : IsTokenUnder layers token message

token_back : (prefix : List Layer) (path : List ℕ) (wanted : List Layer) (token message : Part) → AreOctets token.octets → token_in prefix path token token.octets ≡ under wanted (Message message) → IsTokenBack prefix wanted token message
token_back prefix path wanted token message a e = go token.octets refl e
  where
    go : (octets : List ℕ) → token.octets ≡ octets → token_in prefix path token octets ≡ under wanted (Message message) → IsTokenBack prefix wanted token message
    go [] same e = absurd (no_message prefix wanted _ message e)
    go (tag ∷ octets) same e = first (when_cases (tag == 0x60) _ _ _ e)
      where
        third : ((is_ntlm token.octets ≡ true) × (under prefix (Ntlm token.place) ≡ under wanted (Message message))) ⊎ ((is_ntlm token.octets ≡ false) × (refused_in prefix path token.place why.Tag ≡ under wanted (Message message))) → IsTokenBack prefix wanted token message
        third (inl k) = let f : Ntlm token.place ≡ Message message = (layers_of prefix wanted _ _ k.1).1 in absurd cc
        third (inr k) = absurd (no_message prefix wanted _ message k.1)

        second : ((is_message_tag tag ≡ true) × (message_under prefix token.place token.octets ≡ under wanted (Message message))) ⊎ ((is_message_tag tag ≡ false) × (when (is_ntlm token.octets) (λ _. under prefix (Ntlm token.place)) (λ _. refused_in prefix path token.place why.Tag) ≡ under wanted (Message message))) → IsTokenBack prefix wanted token message
        second (inl k) =
            let s = same_message prefix wanted token message k.1 in
            record { layers = []; under_layers = append-nil prefix ∙ s.0; is = record { tag = tag; rest = octets; same = s.1; begins = same; allowed = k.0 } }
        second (inr k) = third (when_cases (is_ntlm token.octets) _ _ _ k.1)

        first : (((tag == 0x60) ≡ true) × (gss_in_spnego (prefix ++ (Gss ∷ [])) token ≡ under wanted (Message message))) ⊎ (((tag == 0x60) ≡ false) × (when (is_message_tag tag) (λ _. message_under prefix token.place token.octets) (λ _. when (is_ntlm token.octets) (λ _. under prefix (Ntlm token.place)) (λ _. refused_in prefix path token.place why.Tag)) ≡ under wanted (Message message))) → IsTokenBack prefix wanted token message
        first (inl k) = let s = gss_in_back (prefix ++ (Gss ∷ [])) wanted token message a k.1 in record { layers = Gss ∷ []; under_layers = s.0; is = s.1 }
        first (inr k) = second (when_cases (is_message_tag tag) _ _ _ k.1)

spnego_form : (prefix : List Layer) (neg : NegToken) (layers : List Layer) (part message : Part) → IsNegUnder neg layers part message → length part.octets < 2 ^ 32 → spnego_opened prefix neg part ≡ under (prefix ++ layers) (Message message)
spnego_form prefix neg layers part message is small =
    let choice : length is.is_neg.choice.octets < 2 ^ 32 = (small_contents (neg_tag neg) part is.is_neg.choice _ (begins_alone (neg_tag neg) part is.is_neg.choice is.is_neg.chosen) small).0 in
    let sequence : length is.is_neg.sequence.octets < 2 ^ 32 = (small_contents 0x30 is.is_neg.choice is.is_neg.sequence _ (begins_alone 0x30 is.is_neg.choice is.is_neg.sequence is.is_neg.listed) choice).0 in
    ap (λ read. opened_by prefix read (neg_opened prefix (neg_path neg) (part.place + length part.octets))) (neg_form neg part is.token is.is_neg small)
    ∙ token_form prefix (neg_path neg) layers is.token message is.in_token (of_token (λ octets. length octets < 2 ^ 32) small_contents (neg_fields neg) None (Some is.token) is.is_neg.sequence is.is_neg.fields sequence tt)

-- a token of SPNEGO is a message under some layers
record IsSpnegoBack (prefix : List Layer) (neg : NegToken) (wanted : List Layer) (part message : Part) : Type 0 where
  layers : List Layer
  under_layers : prefix ++ layers ≡ wanted
  is : IsNegUnder neg layers part message

spnego_back : (prefix : List Layer) (neg : NegToken) (wanted : List Layer) (part message : Part) → AreOctets part.octets → spnego_opened prefix neg part ≡ under wanted (Message message) → IsSpnegoBack prefix neg wanted part message
spnego_back prefix neg wanted part message a e =
    let f = opened_back prefix wanted (neg_read neg part) (neg_opened prefix (neg_path neg) (part.place + length part.octets)) message e in
    found f.first (neg_back neg part f.first a f.read_first) f.opened_next
  where
    found : (token : Option Part) → IsNegRead neg part token → neg_opened prefix (neg_path neg) (part.place + length part.octets) token ≡ under wanted (Message message) → IsSpnegoBack prefix neg wanted part message
    found None is e = absurd (no_message prefix wanted _ message e)
    found (Some token) is e =
        let octets : AreOctets token.octets = of_token AreOctets octets_of_contents (neg_fields neg) None (Some token) is.sequence is.fields is.octets tt in
        let b = token_back prefix (neg_path neg) wanted token message octets e in
        record { layers = b.layers; under_layers = b.under_layers; is = record { token = token; is_neg = record { choice = is.choice; sequence = is.sequence; chosen = is.chosen; listed = is.listed; fields = is.fields }; in_token = b.is } }

-- ---- a GSS-API token
negotiation_form : (layers : List Layer) (part inner message : Part) → IsGssOf negotiation part inner → IsNegUnder neg.Init layers inner message → length part.octets < 2 ^ 32 → gss_opened part ≡ under (Gss ∷ Spnego ∷ layers) (Message message)
negotiation_form layers part inner message is in_inner small =
    let l : length inner.octets < 2 ^ 32 = of_inner (λ octets. length octets < 2 ^ 32) small_contents negotiation part inner is small in
    let begins : (rest : List ℕ) × (inner.octets ≡ 0xA0 ∷ rest) = (_, in_inner.is_neg.chosen.form) in
    ap (λ read. opened_by (Gss ∷ []) read mechanism_opened) (identified_form negotiation part inner is (record { has_size = refl; unrefused = refl }) small)
    ∙ ap (spnego_in_gss inner) begins.1
    ∙ spnego_form (Gss ∷ Spnego ∷ []) neg.Init layers inner message in_inner l

gss_token_form : (part message : Part) → IsGssToken part message → length part.octets < 2 ^ 32 → gss_opened part ≡ under (Gss ∷ []) (Message message)
gss_token_form part message is small = gss_form (Gss ∷ []) (Gss ∷ []) mechanism_opened part message is small (λ found known. when-true (is_kerberos found.contents.octets) _ _ known)

gss_message_back : (wanted : List Layer) (part message : Part) → AreOctets part.octets → gss_opened part ≡ under wanted (Message message) → IsMessageUnder wanted part message
gss_message_back wanted part message a e =
    let f = opened_back (Gss ∷ []) wanted (identified part) mechanism_opened message e in
    let is : IsGssOf f.first.contents.octets part f.first.rest = identified_back part f.first a f.read_first in
    chosen f.first is (of_inner AreOctets octets_of_contents f.first.contents.octets part f.first.rest is a) (when_cases (is_kerberos f.first.contents.octets) _ _ _ f.opened_next)
  where
    in_inner : (inner : Part) → IsGssOf negotiation part inner → AreOctets inner.octets → spnego_in_gss inner inner.octets ≡ under wanted (Message message) → IsMessageUnder wanted part message
    in_inner inner is octets e = go inner.octets e
      where
        tagged : (tag : ℕ) → (((tag == 0xA0) ≡ true) × (spnego_opened (Gss ∷ Spnego ∷ []) neg.Init inner ≡ under wanted (Message message))) ⊎ (((tag == 0xA0) ≡ false) × (refused_bare (Gss ∷ Spnego ∷ []) inner.place why.Tag ≡ under wanted (Message message))) → IsMessageUnder wanted part message
        tagged tag (inl k) =
            let b = spnego_back (Gss ∷ Spnego ∷ []) neg.Init wanted inner message octets k.1 in
            subst (λ layers. IsMessageUnder layers part message) b.under_layers (inner, is, b.is)
        tagged tag (inr k) = absurd (no_message (Gss ∷ Spnego ∷ []) wanted _ message k.1)

        go : (octets : List ℕ) → spnego_in_gss inner octets ≡ under wanted (Message message) → IsMessageUnder wanted part message
        go [] e = absurd (no_message (Gss ∷ []) wanted _ message e)
        go (tag ∷ octets) e = tagged tag (when_cases (tag == 0xA0) _ _ _ e)

    otherwise : (found : Item) → IsGssOf found.contents.octets part found.rest → AreOctets found.rest.octets → ((bytes_eq found.contents.octets negotiation ≡ true) × (spnego_in_gss found.rest found.rest.octets ≡ under wanted (Message message))) ⊎ ((bytes_eq found.contents.octets negotiation ≡ false) × (unknown_mechanism (Gss ∷ []) found ≡ under wanted (Message message))) → IsMessageUnder wanted part message
    otherwise found is octets (inl k) = in_inner found.rest (subst (λ mechanism. IsGssOf mechanism part found.rest) ((bytes_eq-Decides found.contents.octets negotiation).0 k.0) is) octets k.1
    otherwise found is octets (inr k) = absurd (no_message (Gss ∷ []) wanted _ message k.1)

    chosen : (found : Item) → IsGssOf found.contents.octets part found.rest → AreOctets found.rest.octets → ((is_kerberos found.contents.octets ≡ true) × (kerberos_opened (Gss ∷ []) found.rest.place found.rest.octets ≡ under wanted (Message message))) ⊎ ((is_kerberos found.contents.octets ≡ false) × (when (bytes_eq found.contents.octets negotiation) (λ _. spnego_in_gss found.rest found.rest.octets) (λ _. unknown_mechanism (Gss ∷ []) found) ≡ under wanted (Message message))) → IsMessageUnder wanted part message
    chosen found is octets (inl k) =
        let b = gss_back (Gss ∷ []) wanted part message found is k.0 k.1 in
        subst (λ layers. IsMessageUnder layers part message) b.0 b.1
    chosen found is octets (inr k) = otherwise found is octets (when_cases (bytes_eq found.contents.octets negotiation) _ _ _ k.1)

-- ---- frames
frame_layers : (octets : List ℕ) → (frame_opened octets).layers ≡ Frame ∷ []
frame_layers [] = refl
frame_layers (a ∷ []) = refl
frame_layers (a ∷ b ∷ []) = refl
frame_layers (a ∷ b ∷ c ∷ []) = refl
frame_layers (a ∷ b ∷ c ∷ d ∷ message) = of_length (number (a ∷ b ∷ c ∷ d ∷ []))
  where
    of_length : (announced : ℕ) → (frame_of_length announced message).layers ≡ Frame ∷ []
    of_length announced =
        cond_both {A = Opened} (announced == 0) _ _ (λ o. o.layers ≡ Frame ∷ []) (λ t. refl)
        (λ t. cond_both {A = Opened} (ltb (length message) announced) _ _ (λ o. o.layers ≡ Frame ∷ []) (λ t. refl)
        (λ t. cond_both {A = Opened} (ltb announced (length message)) _ _ (λ o. o.layers ≡ Frame ∷ []) (λ t. refl) (λ t. refl)))

-- ---- all
not_first : (first n : ℕ) (octets : List ℕ) → DoNotBegin (first ∷ octets) (n ∷ []) → (first == n) ≡ false
not_first first n octets none = false_from_ne_true (first == n) (λ t. none octets (ap (λ o. o ∷ octets) (eqb-true first n t)))

not_ntlm : (octets : List ℕ) → DoNotBegin octets (codes "NTLMSSP" ++ (0 ∷ [])) → is_ntlm octets ≡ false
not_ntlm octets none = false_from_ne_true (is_ntlm octets) (λ t. none (drop 8 octets) ((starts_is Decides-eqb octets (codes "NTLMSSP" ++ (0 ∷ [])) (is_ntlm octets) refl).0 t))

alone_form : (octets : List ℕ) → AllByRecursion (DoNotBegin octets) beginnings → opened octets ≡ message_under [] 0 octets
alone_form [] none = refl
alone_form (first ∷ octets) none =
    when-false (first == 0x00) _ _ (not_first first 0x00 octets none.0)
    ∙ when-false (first == 0x60) _ _ (not_first first 0x60 octets none.1.0)
    ∙ when-false (first == 0xA0) _ _ (not_first first 0xA0 octets none.1.1.0)
    ∙ when-false (first == 0xA1) _ _ (not_first first 0xA1 octets none.1.1.1.0)
    ∙ when-false (first == 0x61) _ _ (not_first first 0x61 octets none.1.1.1.1.0)
    ∙ when-false (is_ntlm (first ∷ octets)) _ _ (not_ntlm (first ∷ octets) none.1.1.1.1.1.0)

opens_gss : (octets rest : List ℕ) → octets ≡ 0x60 ∷ rest → opened octets ≡ gss_opened (whole octets)
opens_gss octets rest e = ap opened e ∙ ap (λ o. gss_opened (whole o)) (sym e)

opens_neg : (neg : NegToken) (octets rest : List ℕ) → octets ≡ neg_tag neg ∷ rest → opened octets ≡ spnego_opened (Spnego ∷ []) neg (whole octets)
opens_neg neg.Init octets rest e = ap opened e ∙ ap (λ o. spnego_opened (Spnego ∷ []) neg.Init (whole o)) (sym e)
opens_neg neg.Response octets rest e = ap opened e ∙ ap (λ o. spnego_opened (Spnego ∷ []) neg.Response (whole o)) (sym e)

message_form : (octets : List ℕ) (layers : List Layer) (message : Part) → length octets < 2 ^ 32 → IsMessageUnder layers (whole octets) message → opened octets ≡ under layers (Message message)
message_form octets [] message small is = alone_form octets is.1 ∙ ap (λ part. under [] (Message part)) (sym is.0)
message_form octets (Frame ∷ []) message small is = (frames_are_opened message.octets octets message.place).1 is
message_form octets (Frame ∷ layer ∷ layers) message small is = absurd is
message_form octets (Gss ∷ []) message small is = opens_gss octets _ is.gss.form ∙ gss_token_form (whole octets) message is small
message_form octets (Gss ∷ Frame ∷ layers) message small is = absurd is
message_form octets (Gss ∷ Gss ∷ layers) message small is = absurd is
message_form octets (Gss ∷ Spnego ∷ layers) message small is = opens_gss octets _ is.1.form ∙ negotiation_form layers (whole octets) is.0 message is.1 is.2 small
message_form octets (Spnego ∷ layers) message small is = opens_neg is.0 octets _ is.1.is_neg.chosen.form ∙ spnego_form (Spnego ∷ []) is.0 layers (whole octets) message is.1 small

frame_back : (octets : List ℕ) (wanted : List Layer) (message : Part) → opened octets ≡ under wanted (Message message) → frame_opened octets ≡ under wanted (Message message) → IsMessageUnder wanted (whole octets) message
frame_back octets wanted message e f =
    let w : Frame ∷ [] ≡ wanted = sym (frame_layers octets) ∙ ap (λ o. o.layers) f in
    subst (λ layers. IsMessageUnder layers (whole octets) message) w ((frames_are_opened message.octets octets message.place).0 (e ∙ ap (λ layers. under layers (Message message)) (sym w)))

lone_back : (neg : NegToken) (octets : List ℕ) (wanted : List Layer) (message : Part) → AreOctets octets → spnego_opened (Spnego ∷ []) neg (whole octets) ≡ under wanted (Message message) → IsMessageUnder wanted (whole octets) message
lone_back neg octets wanted message a e =
    let b = spnego_back (Spnego ∷ []) neg wanted (whole octets) message a e in
    subst (λ layers. IsMessageUnder layers (whole octets) message) b.under_layers (neg, b.is)

alone_message_back : (octets : List ℕ) (wanted : List Layer) (message : Part) → AllByRecursion (DoNotBegin octets) beginnings → message_under [] 0 octets ≡ under wanted (Message message) → IsMessageUnder wanted (whole octets) message
alone_message_back octets wanted message none e =
    let s = same_message [] wanted (whole octets) message e in
    subst (λ layers. IsMessageUnder layers (whole octets) message) s.0 (s.1, none)

other_first : (first n : ℕ) (octets : List ℕ) → (first == n) ≡ false → DoNotBegin (first ∷ octets) (n ∷ [])
other_first first n octets t = λ rest e. eqb-false first n t (same_from_cons first n octets rest e).0

other_text : (octets : List ℕ) → is_ntlm octets ≡ false → DoNotBegin octets (codes "NTLMSSP" ++ (0 ∷ []))
other_text octets t = λ rest e. both_ways (is_ntlm octets) t ((starts_is Decides-eqb octets (codes "NTLMSSP" ++ (0 ∷ [])) (is_ntlm octets) refl).1 rest e)

message_back : (octets : List ℕ) (wanted : List Layer) (message : Part) → AreOctets octets → opened octets ≡ under wanted (Message message) → IsMessageUnder wanted (whole octets) message
message_back [] wanted message a e = alone_message_back [] wanted message ((λ rest e. absurd cc), ((λ rest e. absurd cc), ((λ rest e. absurd cc), ((λ rest e. absurd cc), ((λ rest e. absurd cc), ((λ rest e. absurd cc), tt)))))) e
message_back (first ∷ octets) wanted message a e =
    elim (when_cases (first == 0x00) _ _ _ e) [
      | inl frame ↦ frame_back (first ∷ octets) wanted message e frame.1
      | inr no_frame ↦
          elim (when_cases (first == 0x60) _ _ _ no_frame.1) [
            | inl gss ↦ gss_message_back wanted (whole (first ∷ octets)) message a gss.1
            | inr no_gss ↦
                elim (when_cases (first == 0xA0) _ _ _ no_gss.1) [
                  | inl init ↦ lone_back neg.Init (first ∷ octets) wanted message a init.1
                  | inr no_init ↦
                      elim (when_cases (first == 0xA1) _ _ _ no_init.1) [
                        | inl response ↦ lone_back neg.Response (first ∷ octets) wanted message a response.1
                        | inr no_response ↦
                            elim (when_cases (first == 0x61) _ _ _ no_response.1) [
                              | inl ticket ↦ let f : Ticket ≡ Message message = (layers_of [] wanted _ _ ticket.1).1 in absurd cc
                              | inr no_ticket ↦
                                  elim (when_cases (is_ntlm (first ∷ octets)) _ _ _ no_ticket.1) [
                                    | inl ntlm ↦ let f : Ntlm 0 ≡ Message message = (layers_of [] wanted _ _ ntlm.1).1 in absurd cc
                                    | inr no_ntlm ↦
                                        alone_message_back (first ∷ octets) wanted message
                                        (other_first first 0x00 octets no_frame.0, (other_first first 0x60 octets no_gss.0, (other_first first 0xA0 octets no_init.0, (other_first first 0xA1 octets no_response.0, (other_first first 0x61 octets no_ticket.0, (other_text (first ∷ octets) no_ntlm.0, tt))))))
                                        no_ntlm.1
                                  ]
                            ]
                      ]
                ]
          ]
    ]

pub layers_are_opened : LayersAreOpened
layers_are_opened octets layers message a small = (message_back octets layers message a, message_form octets layers message (omega arith))
