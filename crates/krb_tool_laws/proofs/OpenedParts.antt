-- What octets are opened to lies inside of them, and so does what is at fault, of which the path is octets.
use Rattle.std.proofs.Common.{ℕ, ◌+◌, ◌-◌, ◌≤◌, ◌==◌, nat_lt, Bool, true, false, List, [], ◌∷◌, ◌++◌, length, codes, Option, Some, None, Result, Ok, Err, refl, arith}
use Rattle.std.proofs.lemmas.Bool.{cond_both}
use Rattle.std.specs.Prelude.{bytes_eq}
use Rattle.krb_der.specs.Octets.{AreOctets, number, when}
use Rattle.krb_der.specs.declared.why.Why.{Why}
use Rattle.krb_der.specs.declared.why.Why.TheVariants as why
use Rattle.krb_source.specs.declared.layer.Layer.{Layer}
use Rattle.krb_source.specs.declared.layer.Layer.TheVariants.{Frame, Gss, Spnego}
use Rattle.krb_token.specs.Gss.{identified, is_kerberos, kerberos_opened, message_in, message_tag, negotiation, token_of, unknown_mechanism}
use Rattle.krb_token.specs.Items.{Item, entered, expected, simple_tag}
use Rattle.krb_token.specs.Opened.{Fault, Found, Message, Ntlm, Opened, Part, Refused, Ticket, message_under, opened_by, refused_bare, refused_in, under}
use Rattle.krb_token.specs.Spnego.{neg_fields, neg_hints, neg_path, neg_read, neg_tag, spnego}
use Rattle.krb_token.specs.Tokens.{frame_of_length, frame_opened, gss_in_spnego, gss_opened, is_message_tag, is_ntlm, mechanism_opened, neg_opened, opened, opened_from, spnego_in_gss, spnego_opened, token_in, whole}
use Rattle.krb_token.specs.declared.fields.NegToken.{NegToken}
use Rattle.krb_token.specs.declared.fields.NegToken.TheVariants as neg
use Rattle.krb_token.specs.declared.simple.Simple.TheVariants as simple
use Rattle.krb_tool_laws.proofs.PathOctets.{octets_of}
use Rattle.krb_tool_laws.proofs.TokenParts.{HavePaths, IsFault, IsItem, IsPart, IsRead, IsToken, IsUnit, a_fault, entered_is, expected_is, fields_are, simple_is, then_read}

hint_paths : HavePaths neg_hints
hint_paths = (octets_of (codes "SPNEGO.mechListMIC.hintName") refl, tt, (octets_of (codes "SPNEGO.mechListMIC.hintAddress") refl, tt, tt))

neg_paths : (neg : NegToken) → HavePaths (neg_fields neg)
neg_paths neg.Init = (
  octets_of (codes "SPNEGO.mechTypes") refl,
  tt,
  (
    octets_of (codes "SPNEGO.reqFlags") refl,
    tt,
    (
      octets_of (codes "SPNEGO.mechToken") refl,
      tt,
      (
        octets_of (codes "SPNEGO.mechListMIC") refl,
        hint_paths,
        (
          octets_of (codes "SPNEGO.mechListMIC") refl,
          tt,
          tt,
        ),
      ),
    ),
  ),
)
neg_paths neg.Response = (
  octets_of (codes "SPNEGO.negState") refl,
  tt,
  (
    octets_of (codes "SPNEGO.supportedMech") refl,
    tt,
    (
      octets_of (codes "SPNEGO.responseToken") refl,
      tt,
      (
        octets_of (codes "SPNEGO.mechListMIC") refl,
        tt,
        tt,
      ),
    ),
  ),
)

neg_octets : (neg : NegToken) → AreOctets (neg_path neg)
neg_octets neg.Init = octets_of (codes "SPNEGO.mechToken") refl
neg_octets neg.Response = octets_of (codes "SPNEGO.responseToken") refl

module _ (n : ℕ) where
  abbrev pub IsFound : Found → Type 0
  IsFound (Message part) = IsPart n part
  IsFound Ticket = Unit {0}
  IsFound (Ntlm place) = place ≤ n
  IsFound (Refused fault) = IsFault n fault

  abbrev IsOpened : Opened → Type 0
  IsOpened it = IsFound it.found

  either : (test : Bool) (one other : Unit {0} → Opened) → IsOpened (one tt) → IsOpened (other tt) → IsOpened (when test one other)
  either true one other a b = a
  either false one other a b = b

  read_opened : {A : Type 0} (P : A → Type 0) (layers : List Layer) (read : Result A Fault) (next : A → Opened) → IsRead n P read → ((a : A) → P a → IsOpened (next a)) → IsOpened (opened_by layers read next)
  read_opened P layers (Ok a) next is each = each a is
  read_opened P layers (Err fault) next is each = is

  refused_named : (layers : List Layer) (path : List ℕ) (place : ℕ) (reason : Why) → AreOctets path → place ≤ n → IsOpened (refused_in layers path place reason)
  refused_named layers path place reason are inside = a_fault n path place reason are inside

  bare : (layers : List Layer) (place : ℕ) (reason : Why) → place ≤ n → IsOpened (refused_bare layers place reason)
  bare layers place reason inside = record { place = inside; path = tt }

  -- ---- tokens of Kerberos
  message_is : (layers : List Layer) (tag place : ℕ) (octets : List ℕ) → IsPart n (record { place = place; octets = octets }) → IsOpened (message_in layers tag place octets)
  message_is layers tag place [] is = refused_named layers (codes "GSS.message") (place - 1) why.Missing (octets_of (codes "GSS.message") refl) (omega (arith, is.inside))
  message_is layers tag place (octet ∷ octets) is = either (octet == tag) (λ _. message_under layers place (octet ∷ octets)) (λ _. refused_bare layers place why.Tag) is (bare layers place why.Tag (omega (arith, is.inside)))

  token_is : (layers : List Layer) (tag : Option ℕ) (place : ℕ) (octets : List ℕ) → IsPart n (record { place = place + 1; octets = octets }) → IsOpened (token_of layers tag place octets)
  token_is layers None place octets is = refused_named layers (codes "GSS.token-id") place why.Range (octets_of (codes "GSS.token-id") refl) (omega (arith, is.inside))
  token_is layers (Some tag) place [] is = refused_named layers (codes "GSS.token-id") place why.Missing (octets_of (codes "GSS.token-id") refl) (omega (arith, is.inside))
  token_is layers (Some tag) place (low ∷ octets) is =
      either (low == 0) (λ _. message_in layers tag (place + 2) octets) (λ _. refused_in layers (codes "GSS.token-id") (place + 1) why.Range)
      (message_is layers tag (place + 2) octets (record { octets = is.octets.1; inside = omega (arith, is.inside) }))
      (refused_named layers (codes "GSS.token-id") (place + 1) why.Range (octets_of (codes "GSS.token-id") refl) (omega (arith, is.inside)))

  kerberos_is : (layers : List Layer) (place : ℕ) (octets : List ℕ) → IsPart n (record { place = place; octets = octets }) → IsOpened (kerberos_opened layers place octets)
  kerberos_is layers place [] is = refused_named layers (codes "GSS.token-id") (place - 1) why.Missing (octets_of (codes "GSS.token-id") refl) (omega (arith, is.inside))
  kerberos_is layers place (high ∷ octets) is = token_is layers (message_tag high) place octets (record { octets = is.octets.1; inside = omega (arith, is.inside) })

  identified_is : (part : Part) → IsPart n part → IsRead n (IsItem n) (identified part)
  identified_is part is =
      then_read n (IsItem n) (IsItem n) (entered (codes "GSS") 0x60 true part) _ (entered_is n (codes "GSS") 0x60 true part (octets_of (codes "GSS") refl) is)
      (λ token its. then_read n (IsUnit n) (IsItem n) (expected (codes "GSS") (simple_tag simple.Identifier) token.contents.place token.contents.octets) _
      (expected_is n (codes "GSS") (simple_tag simple.Identifier) token.contents.place token.contents.octets (octets_of (codes "GSS") refl) (omega (arith, its.contents.inside)))
      (λ _ _. simple_is n simple.Identifier (codes "GSS.oid") false token.contents (octets_of (codes "GSS.oid") refl) its.contents))

  unknown : (layers : List Layer) (item : Item) → IsItem n item → IsOpened (unknown_mechanism layers item)
  unknown layers item is = refused_named layers (codes "GSS.oid") (item.rest.place - 1) why.Range (octets_of (codes "GSS.oid") refl) (omega (arith, is.rest.inside))

  of_kerberos : (layers : List Layer) (item : Item) → IsItem n item → IsOpened (kerberos_opened layers item.rest.place item.rest.octets)
  of_kerberos layers item is = kerberos_is layers item.rest.place item.rest.octets (record { octets = is.rest.octets; inside = is.rest.inside })

  -- ---- tokens of SPNEGO
  gss_in_is : (layers : List Layer) (part : Part) → IsPart n part → IsOpened (gss_in_spnego layers part)
  gss_in_is layers part is =
      read_opened (IsItem n) layers (identified part) _ (identified_is part is)
      (λ item its. either (is_kerberos item.contents.octets) (λ _. kerberos_opened layers item.rest.place item.rest.octets) (λ _. unknown_mechanism layers item) (of_kerberos layers item its) (unknown layers item its))

  token_in_is : (layers : List Layer) (path : List ℕ) (part : Part) (octets : List ℕ) → AreOctets path → IsPart n part → IsOpened (token_in layers path part octets)
  token_in_is layers path part [] are is = refused_named layers path (part.place - 1) why.Missing are (omega (arith, is.inside))
  token_in_is layers path part (tag ∷ octets) are is =
      either (tag == 0x60) (λ _. gss_in_spnego (layers ++ (Gss ∷ [])) part) _ (gss_in_is (layers ++ (Gss ∷ [])) part is)
      (either (is_message_tag tag) (λ _. message_under layers part.place part.octets) _ (record { octets = is.octets; inside = is.inside })
      (either (is_ntlm part.octets) (λ _. under layers (Ntlm part.place)) (λ _. refused_in layers path part.place why.Tag) (omega (arith, is.inside)) (refused_named layers path part.place why.Tag are (omega (arith, is.inside)))))

  neg_is : (layers : List Layer) (path : List ℕ) (end : ℕ) (token : Option Part) → AreOctets path → end ≤ n → IsToken n token → IsOpened (neg_opened layers path end token)
  neg_is layers path end None are inside is = refused_named layers path (end - 1) why.Missing are (omega (arith, inside))
  neg_is layers path end (Some part) are inside is = token_in_is layers path part part.octets are is

  neg_read_is : (neg : NegToken) (part : Part) → IsPart n part → IsRead n (IsToken n) (neg_read neg part)
  neg_read_is neg part is =
      then_read n (IsItem n) (IsToken n) (entered spnego (neg_tag neg) true part) _ (entered_is n spnego (neg_tag neg) true part (octets_of spnego refl) is)
      (λ choice its. then_read n (IsItem n) (IsToken n) (entered spnego 0x30 true choice.contents) _ (entered_is n spnego 0x30 true choice.contents (octets_of spnego refl) its.contents)
      (λ sequence read. fields_are n (neg_fields neg) spnego None sequence.contents (neg_paths neg) (octets_of spnego refl) tt read.contents))

  spnego_is : (layers : List Layer) (neg : NegToken) (part : Part) → IsPart n part → IsOpened (spnego_opened layers neg part)
  spnego_is layers neg part is =
      read_opened (IsToken n) layers (neg_read neg part) (neg_opened layers (neg_path neg) (part.place + length part.octets)) (neg_read_is neg part is)
      (λ token its. neg_is layers (neg_path neg) (part.place + length part.octets) token (neg_octets neg) is.inside its)

  spnego_in_is : (part : Part) (octets : List ℕ) → IsPart n part → IsOpened (spnego_in_gss part octets)
  spnego_in_is part [] is = refused_named (Gss ∷ []) spnego (part.place - 1) why.Missing (octets_of spnego refl) (omega (arith, is.inside))
  spnego_in_is part (tag ∷ octets) is =
      either (tag == 0xA0) (λ _. spnego_opened (Gss ∷ Spnego ∷ []) neg.Init part) (λ _. refused_bare (Gss ∷ Spnego ∷ []) part.place why.Tag)
      (spnego_is (Gss ∷ Spnego ∷ []) neg.Init part is) (bare (Gss ∷ Spnego ∷ []) part.place why.Tag (omega (arith, is.inside)))

  -- ---- GSS-API tokens
  mechanism_is : (item : Item) → IsItem n item → IsOpened (mechanism_opened item)
  mechanism_is item is =
      either (is_kerberos item.contents.octets) (λ _. kerberos_opened (Gss ∷ []) item.rest.place item.rest.octets) _ (of_kerberos (Gss ∷ []) item is)
      (either (bytes_eq item.contents.octets negotiation) (λ _. spnego_in_gss item.rest item.rest.octets) (λ _. unknown_mechanism (Gss ∷ []) item) (spnego_in_is item.rest item.rest.octets is.rest) (unknown (Gss ∷ []) item is))

  gss_is : (part : Part) → IsPart n part → IsOpened (gss_opened part)
  gss_is part is = read_opened (IsItem n) (Gss ∷ []) (identified part) mechanism_opened (identified_is part is) mechanism_is

  -- ---- frames
  frame_by_length : (announced : ℕ) (message : List ℕ) → 3 ≤ n → IsPart n (record { place = 4; octets = message }) → IsOpened (frame_of_length announced message)
  frame_by_length announced message some is =
      cond_both {A = Opened} (announced == 0) _ _ (λ it. IsOpened it) (λ t. bare (Frame ∷ []) 3 why.Empty some)
      (λ t. cond_both {A = Opened} (nat_lt (length message) announced) _ _ (λ it. IsOpened it) (λ t. bare (Frame ∷ []) 3 why.Overrun some)
      (λ t. cond_both {A = Opened} (nat_lt announced (length message)) _ _ (λ it. IsOpened it) (λ t. bare (Frame ∷ []) 3 why.Loose some) (λ t. is)))

  frame_is : (octets : List ℕ) → AreOctets octets → length octets ≤ n → IsOpened (frame_opened octets)
  frame_is [] are fits = bare (Frame ∷ []) 0 why.Truncated fits
  frame_is (a ∷ []) are fits = bare (Frame ∷ []) 1 why.Truncated fits
  frame_is (a ∷ b ∷ []) are fits = bare (Frame ∷ []) 2 why.Truncated fits
  frame_is (a ∷ b ∷ c ∷ []) are fits = bare (Frame ∷ []) 3 why.Truncated fits
  frame_is (a ∷ b ∷ c ∷ d ∷ message) are fits = frame_by_length (number (a ∷ b ∷ c ∷ d ∷ [])) message (omega (arith, fits)) (record { octets = are.1.1.1.1; inside = omega (arith, fits) })

  -- ---- all
  from_is : (first : ℕ) (octets : List ℕ) → AreOctets octets → length octets ≤ n → IsOpened (opened_from first octets)
  from_is first octets are fits =
      let all : IsPart n (whole octets) = record { octets = are; inside = omega (arith, fits) } in
      either (first == 0x00) (λ _. frame_opened octets) _ (frame_is octets are fits)
      (either (first == 0x60) (λ _. gss_opened (whole octets)) _ (gss_is (whole octets) all)
      (either (first == 0xA0) (λ _. spnego_opened (Spnego ∷ []) neg.Init (whole octets)) _ (spnego_is (Spnego ∷ []) neg.Init (whole octets) all)
      (either (first == 0xA1) (λ _. spnego_opened (Spnego ∷ []) neg.Response (whole octets)) _ (spnego_is (Spnego ∷ []) neg.Response (whole octets) all)
      (either (first == 0x61) (λ _. under [] Ticket) _ tt
      (either (is_ntlm octets) (λ _. under [] (Ntlm 0)) (λ _. message_under [] 0 octets) (omega arith) all)))))

  pub opened_is : (octets : List ℕ) → AreOctets octets → length octets ≤ n → IsFound (opened octets).found
  opened_is [] are fits = record { octets = tt; inside = omega arith }
  opened_is (first ∷ octets) are fits = from_is first (first ∷ octets) are fits
