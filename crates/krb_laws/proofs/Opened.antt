-- What octets are opened to, by what their first octet is.
use Rattle.std.proofs.Common.{ℕ, ◌+◌, ◌≤◌, ◌==◌, ◌≡◌, ◌&&◌, if◌then◌else◌, nat_eq, nat_lt, Bool, true, false, List, [], ◌∷◌, ◌++◌, length, take, refl, sym, ap, ◌∙◌, arith}
use Rattle.std.specs.Prelude.{codes}
use Rattle.std.specs.Cmp.Lexicographic.{pointwise}
use Rattle.std.proofs.lemmas.Bool.Decides.{nat_tests}
use Rattle.krb_der.specs.Octets.{number, when}
use Rattle.krb_der.specs.declared.profile.Profile.{Profile}
use Rattle.krb_der.specs.declared.profile.Profile.TheVariants.{Lenient, Strict}
use Rattle.krb_der.specs.declared.why.Why.TheVariants as why
use Rattle.krb_input.specs.Octets.{is_tag}
use Rattle.krb_msg.specs.Grammar.{ticket}
use Rattle.krb_msg.specs.Profiles.{profile_term}
use Rattle.krb_msg.specs.Term.{Value, der}
use Rattle.krb_msg.proofs.Grammars.{whole_is_value}
use Rattle.krb_token.specs.Opened.{Opened, Ticket, Ntlm, message_under, refused_bare, under}
use Rattle.krb_token.specs.Tokens.{frame_of_length, frame_opened, gss_opened, is_ntlm, opened, whole}
use Rattle.krb_source.specs.declared.layer.Layer.TheVariants.{Frame}
use Rattle.krb_laws.specs.Spelled.{MessagesAreOpened, TicketsAreOpened}
use Rattle.krb_laws.proofs.Nested.{message_nested}

-- what octets are opened to, by what the tests say of the first, with what a first and a later token of SPNEGO are opened to
abbrev pub opened_as : (zero gss init response ticket ntlm : Bool) → (first later : Opened) → List ℕ → Opened
opened_as zero gss init response ticket ntlm first later octets =
    when zero (λ _. frame_opened octets)
    (λ _. when gss (λ _. gss_opened (whole octets))
    (λ _. when init (λ _. first)
    (λ _. when response (λ _. later)
    (λ _. when ticket (λ _. under [] Ticket)
    (λ _. when ntlm (λ _. under [] (Ntlm 0))
    (λ _. message_under [] 0 octets))))))

-- ---- messages
record IsMessageTag (tag : ℕ) : Type 0 where
  no_zero : (tag == 0x00) ≡ false
  no_gss : (tag == 0x60) ≡ false
  no_init : (tag == 0xA0) ≡ false
  no_response : (tag == 0xA1) ≡ false
  no_ticket : (tag == 0x61) ≡ false
  no_letter : nat_eq 0x4E tag ≡ false

message_tag : (number : ℕ) → is_tag (0x60 + number) ≡ true → 10 ≤ number → IsMessageTag (0x60 + number)
message_tag number is enough = record {
  no_zero = grind (arith, nat_tests);
  no_gss = grind (arith, nat_tests);
  no_init = grind (arith, nat_tests);
  no_response = grind (arith, nat_tests);
  no_ticket = grind (arith, nat_tests);
  no_letter = grind (arith, nat_tests);
}

message_by_tests : (tag : ℕ) (octets : List ℕ) (ntlm : Bool) (first later : Opened) → IsMessageTag tag → ntlm ≡ false →
    opened_as (tag == 0x00) (tag == 0x60) (tag == 0xA0) (tag == 0xA1) (tag == 0x61) ntlm first later octets ≡ message_under [] 0 octets
message_by_tests tag octets ntlm first later is no_ntlm =
    ap (λ b. opened_as b (tag == 0x60) (tag == 0xA0) (tag == 0xA1) (tag == 0x61) ntlm first later octets) is.no_zero
    ∙ ap (λ b. opened_as false b (tag == 0xA0) (tag == 0xA1) (tag == 0x61) ntlm first later octets) is.no_gss
    ∙ ap (λ b. opened_as false false b (tag == 0xA1) (tag == 0x61) ntlm first later octets) is.no_init
    ∙ ap (λ b. opened_as false false false b (tag == 0x61) ntlm first later octets) is.no_response
    ∙ ap (λ b. opened_as false false false false b ntlm first later octets) is.no_ticket
    ∙ ap (λ b. opened_as false false false false false b first later octets) no_ntlm

no_ntlm : (tag : ℕ) (octets : List ℕ) → nat_eq 0x4E tag ≡ false → is_ntlm (tag ∷ octets) ≡ false
no_ntlm tag octets is = ap (λ b. b && pointwise nat_eq (codes "TLMSSP" ++ (0 ∷ [])) (take 7 octets)) is

message_opened : (tag : ℕ) (octets : List ℕ) → IsMessageTag tag → opened (tag ∷ octets) ≡ message_under [] 0 (tag ∷ octets)
message_opened tag octets is = message_by_tests tag (tag ∷ octets) (is_ntlm (tag ∷ octets)) _ _ is (no_ntlm tag octets is.no_letter)

pub messages_are_opened : MessagesAreOpened
messages_are_opened profile octets are is =
    let nested = message_nested profile octets are is in
    ap opened nested.form
    ∙ message_opened (0x60 + nested.number) _ (message_tag nested.number nested.is_tag nested.enough)
    ∙ ap (message_under [] 0) (sym nested.form)

-- ---- Tickets
ticket_opened : (profile : Profile) (value : Value (profile_term profile false ticket)) → opened (der (profile_term profile false ticket) value) ≡ under [] Ticket
ticket_opened Lenient value = refl
ticket_opened Strict value = refl

pub tickets_are_opened : TicketsAreOpened
tickets_are_opened profile octets are is =
    let one = whole_is_value (profile_term profile false ticket) octets are is in
    ap opened one.form ∙ ticket_opened profile one.value

-- ---- frames
either_in_frame : (b : Bool) (chosen other : Opened) → chosen.layers ≡ Frame ∷ [] → other.layers ≡ Frame ∷ [] → (if b then chosen else other).layers ≡ Frame ∷ []
either_in_frame true chosen other one another = one
either_in_frame false chosen other one another = another

in_frame : (announced : ℕ) (message : List ℕ) → (frame_of_length announced message).layers ≡ Frame ∷ []
in_frame announced message =
    either_in_frame (announced == 0) (refused_bare (Frame ∷ []) 3 why.Empty) _ refl
    (either_in_frame (nat_lt (length message) announced) (refused_bare (Frame ∷ []) 3 why.Overrun) _ refl
    (either_in_frame (nat_lt announced (length message)) (refused_bare (Frame ∷ []) 3 why.Loose) (message_under (Frame ∷ []) 4 message) refl refl))

pub frame_layers : (octets : List ℕ) → (frame_opened octets).layers ≡ Frame ∷ []
frame_layers [] = refl
frame_layers (a ∷ []) = refl
frame_layers (a ∷ b ∷ []) = refl
frame_layers (a ∷ b ∷ c ∷ []) = refl
frame_layers (a ∷ b ∷ c ∷ d ∷ message) = in_frame (number (a ∷ b ∷ c ∷ d ∷ [])) message
