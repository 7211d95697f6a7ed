-- The contents of the ticket field of a credential.
use Rattle.std.specs.Prelude.{ℕ, List, [], ◌∷◌, Option, Some, None}
use Rattle.krb_der.specs.declared.profile.Profile.TheVariants as profiles
use Rattle.krb_der.specs.Octets.{when}
use Rattle.krb_der.specs.declared.verdict.Refusal.{Refusal}
use Rattle.krb_msg.specs.Grammar.{ticket}
use Rattle.krb_msg.specs.ValueOfDer.{value_of_der}
use Rattle.krb_msg.specs.Types.{IsValidTicket, ticket_of_view, ticket_of}
use Rattle.krb_msg.specs.declared.ticket.Ticket.{Ticket}
use Rattle.krb_judge.specs.Parses.{ticket_refusal}
use Rattle.krb_ccache.specs.declared.value.Credential.{Credential}
use Rattle.krb_ccache.specs.declared.ticket.TicketState.{TicketState}
use Rattle.krb_ccache.specs.declared.ticket.TicketState.TheVariants as states
use Rattle.krb_ccache.specs.declared.ticket.TicketStateView.{TicketStateView}
use Rattle.krb_ccache.specs.declared.ticket.TicketStateView.TheVariants as views
use Rattle.krb_ccache.specs.Spelling.{is_config}

-- the Ticket whose DER these octets are
abbrev pub ticket_read : List ℕ → Ticket
ticket_read octets = ticket_of (value_of_der ticket octets)

-- the Ticket of octets that are not refused
abbrev pub judged_state : Option Refusal → List ℕ → TicketState
judged_state None octets = states.Ticket (ticket_read octets)
judged_state (Some refusal) octets = states.Refused refusal

abbrev pub field_state : List ℕ → TicketState
field_state [] = states.Absent
field_state (octet ∷ octets) = judged_state (ticket_refusal profiles.Lenient (octet ∷ octets)) (octet ∷ octets)

-- the contents of the ticket field: a configuration entry's value, else nothing, else a Ticket or a refusal
unfoldable pub state_of : Credential → TicketState
state_of c = when (is_config c) (λ _. states.Config) (λ _. field_state c.ticket)

-- the contents that borrowed contents stand for
abbrev pub state_viewed : TicketStateView → TicketState
state_viewed views.Absent = states.Absent
state_viewed views.Config = states.Config
state_viewed (views.Ticket view) = states.Ticket (ticket_of_view view)
state_viewed (views.Refused refusal) = states.Refused refusal

-- what is known of borrowed contents
abbrev pub StateLists : TicketStateView → Type 0
StateLists views.Absent = Unit {0}
StateLists views.Config = Unit {0}
StateLists (views.Ticket view) = IsValidTicket view
StateLists (views.Refused refusal) = Unit {0}
