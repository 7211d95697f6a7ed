-- The contents of a ticket field, by judging it.
use Rattle.std.proofs.Common.{◌≡◌, ◌≢◌, ℕ, ◌^◌, ◌<◌, false, Option, Some, None, List, [], ◌∷◌, length, refl, sym, ◌∙◌, ap, arith}
use Rattle.krb_der.specs.declared.profile.Profile.TheVariants as profiles
use Rattle.krb_der.specs.Octets.{when}
use Rattle.krb_der.specs.declared.verdict.Refusal.{Refusal}
use Rattle.krb_msg.specs.Grammar.{ticket}
use Rattle.krb_msg.specs.ValueOfDer.{value_of_der}
use Rattle.krb_msg.specs.Types.{ticket_of, ticket_value}
use Rattle.krb_msg.specs.declared.ticket.Ticket.{Ticket}
use Rattle.krb_msg.proofs.ValueOfDer.{value_of_der_is_value}
use Rattle.krb_judge.specs.Parses.{ticket_refusal, AreOfTicket}
use Rattle.krb_judge.proofs.Values.{ticket_not_refused}
use Rattle.krb_ccache.specs.declared.value.Credential.{Credential}
use Rattle.krb_ccache.specs.declared.ticket.TicketState.TheVariants as states
use Rattle.krb_ccache.specs.Spelling.{is_config}
use Rattle.krb_ccache.specs.Tickets.{ticket_read, judged_state, field_state, state_of}

-- ---- a Ticket is read from its DER
small : (octets form : List ℕ) → form ≡ octets → length octets < 2 ^ 31 → length form < 2 ^ 32
small octets form e short = omega (arith, ap length e)

ticket_is_read : (octets : List ℕ) (t : Ticket) → AreOfTicket profiles.Lenient octets t → ticket_read octets ≡ t
ticket_is_read octets t are = ap (λ (o : List ℕ). ticket_of (value_of_der ticket o)) (sym are.form) ∙ ap ticket_of (value_of_der_is_value ticket (ticket_value t) refl (small octets _ are.form are.short))

-- ---- the state, if there is no configuration entry and the field is not empty
judged-some : (octets : List ℕ) → octets ≢ [] → field_state octets ≡ judged_state (ticket_refusal profiles.Lenient octets) octets
judged-some [] some = absurd (some refl)
judged-some (octet ∷ octets) some = refl

pub state-judged : (c : Credential) (found : Option Refusal) → is_config c ≡ false → c.ticket ≢ [] → ticket_refusal profiles.Lenient c.ticket ≡ found → state_of c ≡ judged_state found c.ticket
unfolding state_of
state-judged c found no_config some e =
    ap (λ is. when is (λ _. states.Config) (λ _. field_state c.ticket)) no_config
    ∙ judged-some c.ticket some
    ∙ ap (λ f. judged_state f c.ticket) e

pub state-ticket : (c : Credential) (t : Ticket) → is_config c ≡ false → c.ticket ≢ [] → AreOfTicket profiles.Lenient c.ticket t → states.Ticket t ≡ state_of c
state-ticket c t no_config some are =
    sym (state-judged c None no_config some (ticket_not_refused profiles.Lenient t are) ∙ ap (λ u. states.Ticket u) (ticket_is_read c.ticket t are))

pub state-refused : (c : Credential) (r : Refusal) → is_config c ≡ false → c.ticket ≢ [] → ticket_refusal profiles.Lenient c.ticket ≡ Some r → states.Refused r ≡ state_of c
state-refused c r no_config some e = sym (state-judged c (Some r) no_config some e)
