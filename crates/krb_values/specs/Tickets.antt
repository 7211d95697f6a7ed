-- What is said of the contents of the ticket field of a credential, as values.
use Rattle.std.specs.Prelude.{ℕ, List}
use Rattle.krb_der.specs.declared.profile.Profile.TheVariants as profiles
use Rattle.krb_judge.specs.Parses.{AreOfTicket}
use Rattle.krb_ccache.specs.declared.ticket.TicketState.{TicketState}
use Rattle.krb_ccache.specs.declared.ticket.TicketState.TheVariants as states

-- if the contents are a Ticket, the octets are its DER
abbrev pub IsOfDer : List ℕ → TicketState → Type 0
IsOfDer octets states.Absent = Unit {0}
IsOfDer octets states.Config = Unit {0}
IsOfDer octets (states.Ticket t) = AreOfTicket profiles.Lenient octets t
IsOfDer octets (states.Refused refusal) = Unit {0}

-- whether the contents are a Ticket, for which alone memory is allocated
abbrev pub IsTicket : TicketState → Type 0
IsTicket states.Absent = ⊥
IsTicket states.Config = ⊥
IsTicket (states.Ticket t) = Unit {0}
IsTicket (states.Refused refusal) = ⊥
