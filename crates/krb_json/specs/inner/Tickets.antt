-- What is appended for the octets of a Ticket, and what reading a message or a Ticket returns.
use Rattle.std.specs.Prelude.{ℕ, ◌≡◌, List, ◌++◌, Result, Ok, Err}
use Rattle.std.specs.Global.{Vec}
use Rattle.json.specs.Token.{Token}
use Rattle.json.specs.Tree.{json_tokens}
use Rattle.krb_msg.specs.Grammar.{ticket}
use Rattle.krb_msg.specs.Term.{Fits, Value, der}
use Rattle.krb_json.specs.Lines as lines
use Rattle.krb_json.specs.Tickets.{IsFaultIn, ticket_json}
use Rattle.krb_json.specs.declared.line_fault.LineFault.{LineFault}

abbrev pub PutsTicket : (octets : List ℕ) → (old new : List Token) → Type 0
PutsTicket octets old new = (value : Value ticket) → Fits ticket value → der ticket value ≡ octets → new ≡ old ++ json_tokens (ticket_json value)

abbrev pub ReadsOctets : Result (List ℕ) lines.LineFault → Result (Vec ℕ) LineFault → Type 0
ReadsOctets spells (Ok octets) = spells ≡ Ok octets.items
ReadsOctets spells (Err fault) = IsFaultIn spells fault
