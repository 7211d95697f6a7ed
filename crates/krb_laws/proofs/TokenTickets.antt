-- Octets that are opened to a Ticket: those that begin with its tag, and no others.
use Rattle.std.proofs.Common.{◌≡◌, ◌∙◌, inl, inr, ℕ, ◌+◌, ◌==◌, Bool, true, false, ltb, List, [], ◌∷◌, ◌++◌, length, Option, Some, None, Result, Ok, Err, ap, sym}
use Rattle.std.specs.Prelude.{bytes_eq}
use Rattle.std.proofs.lemmas.Bool.{cond_both, eqb-true}
use Rattle.krb_der.specs.Octets.{number, when}
use Rattle.krb_laws.proofs.TokenGss.{layers_of}
use Rattle.krb_laws.proofs.TokenOpened.{when_cases}
use Rattle.krb_token.specs.Gss.{identified, is_kerberos, negotiation, message_tag, message_in, token_of, kerberos_opened, unknown_mechanism}
use Rattle.krb_token.specs.Items.{Item}
use Rattle.krb_token.specs.Opened.{Part, Fault, Message, Ticket, Ntlm, Opened, opened_by, under, message_under}
use Rattle.krb_token.specs.Spnego.{neg_read, neg_path}
use Rattle.krb_laws.specs.Opened.{TicketTagsAreOpened}
use Rattle.krb_token.specs.Tokens.{frame_of_length, frame_opened, is_ntlm, is_message_tag, gss_in_spnego, token_in, neg_opened, spnego_opened, spnego_in_gss, mechanism_opened, gss_opened, whole, opened}
use Rattle.krb_token.specs.declared.fields.NegToken.{NegToken}
use Rattle.krb_token.specs.declared.fields.NegToken.TheVariants as neg
use Rattle.krb_source.specs.declared.layer.Layer.{Layer}
use Rattle.krb_source.specs.declared.layer.Layer.TheVariants.{Gss, Spnego}

abbrev NoTicket : Opened → Type 0
NoTicket it = it.found ≡ Ticket → ⊥

either : (test : Bool) (chosen other : Unit {0} → Opened) → NoTicket (chosen tt) → NoTicket (other tt) → NoTicket (when test chosen other)
either true chosen other h k = h
either false chosen other h k = k

-- ---- frames
no_frame : (octets : List ℕ) → NoTicket (frame_opened octets)
no_frame [] = λ e. absurd cc
no_frame (a ∷ []) = λ e. absurd cc
no_frame (a ∷ b ∷ []) = λ e. absurd cc
no_frame (a ∷ b ∷ c ∷ []) = λ e. absurd cc
no_frame (a ∷ b ∷ c ∷ d ∷ message) = of_length (number (a ∷ b ∷ c ∷ d ∷ []))
  where
    of_length : (announced : ℕ) → NoTicket (frame_of_length announced message)
    of_length announced =
        cond_both {A = Opened} (announced == 0) _ _ NoTicket (λ t. λ e. absurd cc)
        (λ t. cond_both {A = Opened} (ltb (length message) announced) _ _ NoTicket (λ t. λ e. absurd cc)
        (λ t. cond_both {A = Opened} (ltb announced (length message)) _ _ NoTicket (λ t. λ e. absurd cc) (λ t. λ e. absurd cc)))

-- ---- tokens, under any layers
read : {A : Type 0} (layers : List Layer) (found : Result A Fault) (next : A → Opened) → ((it : A) → NoTicket (next it)) → NoTicket (opened_by layers found next)
read layers (Ok it) next h = h it
read layers (Err fault) next h = λ e. absurd cc

no_message_in : (layers : List Layer) (tag place : ℕ) (octets : List ℕ) → NoTicket (message_in layers tag place octets)
no_message_in layers tag place [] = λ e. absurd cc
no_message_in layers tag place (octet ∷ octets) = either (octet == tag) _ _ (λ e. absurd cc) (λ e. absurd cc)

no_token_of : (layers : List Layer) (tag : Option ℕ) (place : ℕ) (octets : List ℕ) → NoTicket (token_of layers tag place octets)
no_token_of layers (Some tag) place (low ∷ octets) = either (low == 0) _ _ (no_message_in layers tag (place + 2) octets) (λ e. absurd cc)
no_token_of layers other place another = λ e. absurd cc

no_kerberos : (layers : List Layer) (place : ℕ) (octets : List ℕ) → NoTicket (kerberos_opened layers place octets)
no_kerberos layers place [] = λ e. absurd cc
no_kerberos layers place (high ∷ octets) = no_token_of layers (message_tag high) place octets

no_gss_in : (layers : List Layer) (part : Part) → NoTicket (gss_in_spnego layers part)
no_gss_in layers part =
    read layers (identified part) _
    (λ found. either (is_kerberos found.contents.octets) (λ _. kerberos_opened layers found.rest.place found.rest.octets) (λ _. unknown_mechanism layers found) (no_kerberos layers found.rest.place found.rest.octets) (λ e. absurd cc))

no_token_in : (layers : List Layer) (path : List ℕ) (part : Part) (octets : List ℕ) → NoTicket (token_in layers path part octets)
no_token_in layers path part [] = λ e. absurd cc
no_token_in layers path part (tag ∷ octets) =
    either (tag == 0x60) _ _ (no_gss_in (layers ++ (Gss ∷ [])) part)
    (either (is_message_tag tag) _ _ (λ e. absurd cc) (either (is_ntlm part.octets) _ _ (λ e. absurd cc) (λ e. absurd cc)))

no_neg : (layers : List Layer) (path : List ℕ) (end : ℕ) (token : Option Part) → NoTicket (neg_opened layers path end token)
no_neg layers path end None = λ e. absurd cc
no_neg layers path end (Some part) = no_token_in layers path part part.octets

no_spnego : (layers : List Layer) (neg : NegToken) (part : Part) → NoTicket (spnego_opened layers neg part)
no_spnego layers neg part = read layers (neg_read neg part) _ (no_neg layers (neg_path neg) (part.place + length part.octets))

no_spnego_in_gss : (part : Part) (octets : List ℕ) → NoTicket (spnego_in_gss part octets)
no_spnego_in_gss part [] = λ e. absurd cc
no_spnego_in_gss part (tag ∷ octets) = either (tag == 0xA0) _ _ (no_spnego (Gss ∷ Spnego ∷ []) neg.Init part) (λ e. absurd cc)

no_mechanism : (found : Item) → NoTicket (mechanism_opened found)
no_mechanism found =
    either (is_kerberos found.contents.octets) _ _ (no_kerberos (Gss ∷ []) found.rest.place found.rest.octets)
    (either (bytes_eq found.contents.octets negotiation) _ _ (no_spnego_in_gss found.rest found.rest.octets) (λ e. absurd cc))

no_gss : (part : Part) → NoTicket (gss_opened part)
no_gss part = read (Gss ∷ []) (identified part) mechanism_opened no_mechanism

-- ---- all
no_loose : (octets : List ℕ) → NoTicket (when (is_ntlm octets) (λ _. under [] (Ntlm 0)) (λ _. message_under [] 0 octets))
no_loose octets = either (is_ntlm octets) _ _ (λ e. absurd cc) (λ e. absurd cc)

ticket_form : (octets : List ℕ) (layers : List Layer) → (layers ≡ []) × ((rest : List ℕ) × (octets ≡ 0x61 ∷ rest)) → opened octets ≡ under layers Ticket
ticket_form octets layers is = ap opened is.1.1 ∙ ap (λ none. under none Ticket) (sym is.0)

ticket_back : (octets : List ℕ) (layers : List Layer) → opened octets ≡ under layers Ticket → (layers ≡ []) × ((rest : List ℕ) × (octets ≡ 0x61 ∷ rest))
ticket_back [] layers e = let f : Message (whole []) ≡ Ticket = (layers_of [] layers _ _ e).1 in absurd cc
ticket_back (first ∷ octets) layers e =
    elim (when_cases (first == 0x00) _ _ _ e) [
      | inl frame ↦ absurd (no_frame (first ∷ octets) (ap (λ it. it.found) frame.1))
      | inr other ↦
          elim (when_cases (first == 0x60) _ _ _ other.1) [
            | inl gss ↦ absurd (no_gss (whole (first ∷ octets)) (ap (λ it. it.found) gss.1))
            | inr other ↦
                elim (when_cases (first == 0xA0) _ _ _ other.1) [
                  | inl init ↦ absurd (no_spnego (Spnego ∷ []) neg.Init (whole (first ∷ octets)) (ap (λ it. it.found) init.1))
                  | inr other ↦
                      elim (when_cases (first == 0xA1) _ _ _ other.1) [
                        | inl response ↦ absurd (no_spnego (Spnego ∷ []) neg.Response (whole (first ∷ octets)) (ap (λ it. it.found) response.1))
                        | inr other ↦
                            elim (when_cases (first == 0x61) _ _ _ other.1) [
                              | inl ticket ↦ (sym (layers_of [] layers _ _ ticket.1).0, (octets, ap (λ o. o ∷ octets) (eqb-true first 0x61 ticket.0)))
                              | inr other ↦ absurd (no_loose (first ∷ octets) (ap (λ it. it.found) other.1))
                            ]
                      ]
                ]
          ]
    ]

pub ticket_tags_are_opened : TicketTagsAreOpened
ticket_tags_are_opened octets layers = (ticket_back octets layers, ticket_form octets layers)
