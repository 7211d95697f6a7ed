-- What octets are: a frame, a GSS-API token, a token of SPNEGO, a Ticket, NTLM, or else a message by itself. Each layer is read up to the message in it.
use Rattle.std.specs.Prelude.{ℕ, ◌+◌, ◌-◌, Bool, ◌||◌, ◌==◌, nat_lt, if◌then◌else◌, List, [], ◌∷◌, ◌++◌, length, codes, bytes_eq, nat_eq, Option, Some, None}
use Rattle.std.specs.List.{starts_with}
use Rattle.krb_der.specs.Octets.{when, number}
use Rattle.krb_der.specs.declared.why.Why.TheVariants as why
use Rattle.krb_msg.specs.Views.{kind_tag}
use Rattle.krb_msg.specs.declared.message.Kind.TheVariants as kind
use Rattle.krb_token.specs.Gss.{identified, is_kerberos, negotiation, kerberos_opened, unknown_mechanism}
use Rattle.krb_token.specs.Items.{Item}
use Rattle.krb_token.specs.Opened.{Part, Opened, Ticket, Ntlm, under, message_under, refused_in, refused_bare, opened_by}
use Rattle.krb_token.specs.Spnego.{neg_read, neg_path, spnego}
use Rattle.krb_token.specs.declared.fields.NegToken.{NegToken}
use Rattle.krb_token.specs.declared.fields.NegToken.TheVariants as neg
use Rattle.krb_source.specs.declared.layer.Layer.{Layer}
use Rattle.krb_source.specs.declared.layer.Layer.TheVariants.{Frame, Gss, Spnego}

-- ---- frames (RFC 4120, 7.2.2)
-- a message of which the length is announced
abbrev pub frame_of_length : ℕ → List ℕ → Opened
frame_of_length announced message =
    if announced == 0 then refused_bare (Frame ∷ []) 3 why.Empty
    else if nat_lt (length message) announced then refused_bare (Frame ∷ []) 3 why.Overrun
    else if nat_lt announced (length message) then refused_bare (Frame ∷ []) 3 why.Loose
    else message_under (Frame ∷ []) 4 message

abbrev pub frame_opened : List ℕ → Opened
frame_opened (a ∷ b ∷ c ∷ d ∷ message) = frame_of_length (number (a ∷ b ∷ c ∷ d ∷ [])) message
frame_opened octets = refused_bare (Frame ∷ []) (length octets) why.Truncated

-- ---- the token in a token of SPNEGO
-- `NTLMSSP` and 00, with which each message of NTLM begins (MS-NLMP, 2.2.1)
abbrev pub is_ntlm : List ℕ → Bool
is_ntlm octets = starts_with nat_eq octets (codes "NTLMSSP" ++ (0 ∷ []))

-- a GSS-API token in one of SPNEGO is one of Kerberos
abbrev pub gss_in_spnego : List Layer → Part → Opened
gss_in_spnego layers part =
    opened_by layers (identified part)
    (λ identifier. when (is_kerberos identifier.contents.octets) (λ _. kerberos_opened layers identifier.rest.place identifier.rest.octets) (λ _. unknown_mechanism layers identifier))

-- a message by itself, as DCE has it
abbrev pub is_message_tag : ℕ → Bool
is_message_tag tag = (tag == kind_tag kind.ApReq) || (tag == kind_tag kind.ApRep) || (tag == kind_tag kind.KrbError)

abbrev pub token_in : List Layer → List ℕ → Part → List ℕ → Opened
token_in layers path part [] = refused_in layers path (part.place - 1) why.Missing
token_in layers path part (tag ∷ octets) =
    when (tag == 0x60) (λ _. gss_in_spnego (layers ++ (Gss ∷ [])) part)
    (λ _. when (is_message_tag tag) (λ _. message_under layers part.place part.octets)
    (λ _. when (is_ntlm part.octets) (λ _. under layers (Ntlm part.place))
    (λ _. refused_in layers path part.place why.Tag)))

-- the token, if it is not left out; the number is the place after all octets
abbrev pub neg_opened : List Layer → List ℕ → ℕ → Option Part → Opened
neg_opened layers path end None = refused_in layers path (end - 1) why.Missing
neg_opened layers path end (Some part) = token_in layers path part part.octets

abbrev pub spnego_opened : List Layer → NegToken → Part → Opened
spnego_opened layers neg part = opened_by layers (neg_read neg part) (neg_opened layers (neg_path neg) (part.place + length part.octets))

-- ---- GSS-API tokens
-- what follows the identifier of SPNEGO: a first token
abbrev pub spnego_in_gss : Part → List ℕ → Opened
spnego_in_gss part [] = refused_in (Gss ∷ []) spnego (part.place - 1) why.Missing
spnego_in_gss part (tag ∷ octets) =
    when (tag == 0xA0) (λ _. spnego_opened (Gss ∷ Spnego ∷ []) neg.Init part) (λ _. refused_bare (Gss ∷ Spnego ∷ []) part.place why.Tag)

abbrev pub mechanism_opened : Item → Opened
mechanism_opened identifier =
    when (is_kerberos identifier.contents.octets) (λ _. kerberos_opened (Gss ∷ []) identifier.rest.place identifier.rest.octets)
    (λ _. when (bytes_eq identifier.contents.octets negotiation) (λ _. spnego_in_gss identifier.rest identifier.rest.octets)
    (λ _. unknown_mechanism (Gss ∷ []) identifier))

abbrev pub gss_opened : Part → Opened
gss_opened part = opened_by (Gss ∷ []) (identified part) mechanism_opened

-- ---- all
abbrev pub whole : List ℕ → Part
whole octets = record { place = 0; octets = octets }

-- octets that begin with a tag
abbrev pub opened_from : ℕ → List ℕ → Opened
opened_from first octets =
    when (first == 0x00) (λ _. frame_opened octets)
    (λ _. when (first == 0x60) (λ _. gss_opened (whole octets))
    (λ _. when (first == 0xA0) (λ _. spnego_opened (Spnego ∷ []) neg.Init (whole octets))
    (λ _. when (first == 0xA1) (λ _. spnego_opened (Spnego ∷ []) neg.Response (whole octets))
    (λ _. when (first == 0x61) (λ _. under [] Ticket)
    (λ _. when (is_ntlm octets) (λ _. under [] (Ntlm 0))
    (λ _. message_under [] 0 octets))))))

abbrev pub opened : List ℕ → Opened
opened [] = message_under [] 0 []
opened (first ∷ octets) = opened_from first (first ∷ octets)
