-- The contents of a ticket field, by parsing it.
use Rattle.std.proofs.Common.{◌≡◌, ◌≢◌, ◌↔◌, ℕ, false, Option, Some, None, Result, Err, List, [], refl, sym, subst}
use Rattle.std.specs.Prelude.{IsErrOf}
use Rattle.krb_der.specs.declared.profile.Profile.TheVariants as profiles
use Rattle.krb_der.specs.declared.verdict.Refusal.{Refusal}
use Rattle.krb_msg.specs.declared.ticket.Ticket.{Ticket}
use Rattle.krb_judge.specs.Parses.{ticket_refusal}
use Rattle.krb_ccache.specs.declared.value.Credential.{Credential}
use Rattle.krb_ccache.specs.Spelling.{is_config}
use Rattle.krb_ccache.specs.Tickets.{state_of}
use Rattle.krb_ccache.proofs.Tickets.{state-judged}
use Rattle.krb_values.specs.Tickets.{IsTicket}
use Rattle.krb_values.specs.declared.parsing.ParseFault.{ParseFault}
use Rattle.krb_values.specs.declared.parsing.ParseFault.TheVariants as faults

-- the clause `refused` of `parse_ticket`
abbrev Refuses : List ℕ → Result Ticket ParseFault → Type 0
Refuses octets parsed = (r : Refusal) → IsErrOf parsed (faults.Refused r) ↔ (ticket_refusal profiles.Lenient octets ≡ Some r)

pub refused-by : (octets : List ℕ) (r : Refusal) → Refuses octets (Err (faults.Refused r)) → ticket_refusal profiles.Lenient octets ≡ Some r
refused-by octets r refuses = (refuses r).0 refl

pub whole-by : (octets : List ℕ) → Refuses octets (Err faults.Memory) → ticket_refusal profiles.Lenient octets ≡ None
whole-by octets refuses = go (ticket_refusal profiles.Lenient octets) refl
  where
    go : (found : Option Refusal) → ticket_refusal profiles.Lenient octets ≡ found → ticket_refusal profiles.Lenient octets ≡ None
    go None e = e
    go (Some r) e = let no : ◌≡◌ {A = Result Ticket ParseFault} (Err faults.Memory) (Err (faults.Refused r)) = (refuses r).1 e in absurd cc

-- ---- a field that is not refused
pub state-whole : (c : Credential) → is_config c ≡ false → c.ticket ≢ [] → ticket_refusal profiles.Lenient c.ticket ≡ None → IsTicket (state_of c)
state-whole c no_config some e = subst IsTicket (sym (state-judged c None no_config some e)) tt
