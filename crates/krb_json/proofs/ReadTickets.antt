-- What is read of a line, as the message or the Ticket that it spells, or its first fault.
use Rattle.std.proofs.Common.{◌≡◌, ℕ, ◌<◌, ◌≤◌, Bool, true, false, List, [], ◌++◌, length, Option, Some, None, Result, Ok, Err, refl, sym, ◌∙◌, ap, subst, arith}
use Rattle.std.specs.Prelude.{string_bytes, if◌then◌else◌, IfOk, IfErr, vec_len}
use Rattle.std.specs.Global.{Vec}
use Rattle.std.specs.Option.{option_and_then}
use Rattle.std.specs.Str.{bytes_eq}
use Rattle.std.proofs.lemmas.Bool.{le-ltb, lt-ltb}
use Rattle.json.specs.Find.{as_object}
use Rattle.json.specs.Json.{Json}
use Rattle.krb_der.specs.declared.profile.Profile.{Profile}
use Rattle.krb_msg.specs.Grammar.{ticket}
use Rattle.krb_msg.specs.Nodes.{term_at}
use Rattle.krb_msg.specs.Profiles.{profile_term}
use Rattle.krb_msg.specs.Term.{Value, der}
use Rattle.krb_msg.specs.Views.{message_der}
use Rattle.krb_msg.specs.declared.message.Message.{Message}
use Rattle.krb_judge.specs.declared.locating.names.Names.TheVariants as names
use Rattle.krb_json.specs.declared.wrong.Wrong.TheVariants.{Longer}
use Rattle.krb_json.specs.declared.line_fault.Fault as found
use Rattle.krb_json.specs.declared.line_fault.LineFault.{LineFault}
use Rattle.krb_json.specs.declared.line_fault.LineFault.TheVariants as read
use Rattle.krb_json.specs.declared.value_fault.ValueFault.TheVariants.{At}
use Rattle.krb_json.specs.Faults.{Fault, fault, ◌>>=◌}
use Rattle.krb_json.specs.Lines as lines
use Rattle.krb_json.specs.Lines.{in_line, sole_member, value_spells}
use Rattle.krb_json.specs.Spelled.{spelled, unless}
use Rattle.krb_json.specs.Tickets.{IsFaultIn, as_octets, member_octets, ticket_name, ticket_spelled, ticket_within, value_octets}
use Rattle.krb_json.specs.inner.Reading.{IsRead, Reads, ReadsLine}
use Rattle.krb_json.specs.inner.Tickets.{ReadsOctets}

module _ (profile : Profile) (limit : ℕ) (j : Json) where
  abbrev IsTicketRead : (octets : List ℕ) → Type 0
  IsTicketRead octets = IsRead (λ path. spelled (profile_term profile false ticket) names.Ticket path j) (der (profile_term profile false ticket)) [] octets

  abbrev checked : Value (profile_term profile false ticket) → Result (List ℕ) Fault
  checked value = ticket_within limit (der (profile_term profile false ticket) value)

  ticket-read : (octets : List ℕ) → IsTicketRead octets → length octets ≤ limit → in_line (ticket_spelled profile limit j) ≡ Ok octets
  ticket-read octets r short =
      let few : length (der (profile_term profile false ticket) r.value) ≤ limit = omega (arith, short, ap length r.octets) in
      ap (λ x. in_line (x >>= checked)) (r.spelled ticket_name)
      ∙ ap (λ b. in_line (unless b ticket_name (Longer limit) (Ok (der (profile_term profile false ticket) r.value)))) (le-ltb limit (length (der (profile_term profile false ticket) r.value)) few)
      ∙ ap Ok (sym r.octets)

  ticket-long : (octets : List ℕ) → IsTicketRead octets → limit < length octets → in_line (ticket_spelled profile limit j) ≡ in_line (fault {A = List ℕ} ticket_name (Longer limit))
  ticket-long octets r long =
      ap (λ x. in_line (x >>= checked)) (r.spelled ticket_name)
      ∙ ap (λ b. in_line (unless b ticket_name (Longer limit) (Ok (der (profile_term profile false ticket) r.value)))) (lt-ltb limit (length (der (profile_term profile false ticket) r.value)) (omega (arith, long, ap length r.octets)))

  -- by the node of a Ticket
  pub ticket-at : (node : ℕ) (none octets : List ℕ) → term_at node ≡ profile_term profile false ticket → none ≡ [] → IsRead (λ path. spelled (term_at node) names.Ticket path j) (der (term_at node)) none octets → IsTicketRead octets
  ticket-at node none octets termed is r =
      subst (λ t. IsRead (λ path. spelled t names.Ticket path j) (der t) [] octets) termed
      (subst (λ l. IsRead (λ path. spelled (term_at node) names.Ticket path j) (der (term_at node)) l octets) is r)

  pub ticket-returned : (octets : Vec ℕ) (r : Result (Vec ℕ) LineFault) → vec_len octets ≡ length octets.items → IsTicketRead octets.items → IfOk r (λ same. (same.items ≡ octets.items) × (vec_len octets ≤ limit)) → IfErr r (λ found. (limit < vec_len octets) × IsFaultIn (in_line (fault {A = List ℕ} ticket_name (Longer limit))) found)
      → ReadsOctets (in_line (ticket_spelled profile limit j)) r
  ticket-returned octets (Ok same) len r ok err = ticket-read octets.items r (omega (arith, ok.1, len)) ∙ ap Ok (sym ok.0)
  ticket-returned octets (Err found) len r ok err = subst (λ s. IsFaultIn s found) (sym (ticket-long octets.items r (omega (arith, err.0, len)))) err.1

  pub ticket-fault : (node : ℕ) (old new : List ℕ) (it : found.Fault) (read : LineFault) → term_at node ≡ profile_term profile false ticket → Reads (λ path. spelled (term_at node) names.Ticket path j) (der (term_at node)) old new (Err (At it)) → IsFaultIn (in_line (fault {A = List ℕ} (ticket_name ++ string_bytes it.path) it.wrong)) read
      → IsFaultIn (in_line (ticket_spelled profile limit j)) read
  ticket-fault node old new it read termed r at =
      let here = subst (λ t. Reads (λ path. spelled t names.Ticket path j) (der t) [] [] (Err (At it))) termed r in
      subst (λ s. IsFaultIn s read) (sym (ap (λ x. in_line (x >>= checked)) (here ticket_name))) at

  -- ---- the member of an object
  pub member-ticket : (sole : List ℕ × Json) (r : Result (Vec ℕ) LineFault) → Some sole ≡ option_and_then sole_member (as_object j) → bytes_eq sole.0 ticket_name ≡ true → ReadsOctets (in_line (ticket_spelled profile limit sole.1)) r → ReadsOctets (value_octets profile limit (Some j)) r
  member-ticket sole r is named reads =
      subst (λ (s : Result (List ℕ) lines.LineFault). ReadsOctets s r)
      (sym (ap (λ b. if b then in_line (ticket_spelled profile limit sole.1) else as_octets (value_spells profile limit (Some j))) named) ∙ ap (member_octets profile limit j) is)
      reads

  pub member-message : (sole : List ℕ × Json) (r : Result (Vec ℕ) LineFault) → Some sole ≡ option_and_then sole_member (as_object j) → bytes_eq sole.0 ticket_name ≡ false → ReadsLine (value_spells profile limit (Some j)) r → ReadsOctets (value_octets profile limit (Some j)) r
  member-message sole r is named reads =
      subst (λ (s : Result (List ℕ) lines.LineFault). ReadsOctets s r)
      (sym (ap (λ b. if b then in_line (ticket_spelled profile limit sole.1) else as_octets (value_spells profile limit (Some j))) named) ∙ ap (member_octets profile limit j) is)
      (as-octets r reads)
    where
      as-octets : (r : Result (Vec ℕ) LineFault) → ReadsLine (value_spells profile limit (Some j)) r → ReadsOctets (as_octets (value_spells profile limit (Some j))) r
      as-octets (Ok octets) reads = ap as_octets reads.spelled ∙ ap Ok (sym reads.form)
      as-octets (Err read.NotJson) reads = ap as_octets reads
      as-octets (Err read.NotAMessage) reads = ap as_octets reads
      as-octets (Err (read.At found)) reads = ap as_octets reads
      as-octets (Err read.Memory) reads = tt

-- ---- what a line spells
pub line-octets : (spells other : Result (List ℕ) lines.LineFault) (r : Result (Vec ℕ) LineFault) → spells ≡ other → ReadsOctets spells r → IfOk r (λ octets. other ≡ Ok octets.items)
line-octets spells other (Ok octets) e r = sym e ∙ r
line-octets spells other (Err fault) e r = tt

pub line-fault : (spells other : Result (List ℕ) lines.LineFault) (r : Result (Vec ℕ) LineFault) → spells ≡ other → ReadsOctets spells r → IfErr r (IsFaultIn other)
line-fault spells other (Ok octets) e r = tt
line-fault spells other (Err fault) e r = subst (λ s. IsFaultIn s fault) e r
