-- What octets are opened to: the layers that are opened, and what is found in the last of these.
use Rattle.std.specs.Prelude.{ℕ, List, Option, Some, None, Result, Ok, Err}
use Rattle.krb_der.specs.declared.why.Why.{Why}
use Rattle.krb_source.specs.declared.layer.Layer.{Layer}

-- octets, of which the first is at a place
pub record Part : Type 0 where
  pub place : ℕ
  pub octets : List ℕ

-- what is at fault: an octet, why, and the path of what it is in, if that has one
pub record Fault : Type 0 where
  pub place : ℕ
  pub why : Why
  pub path : Option (List ℕ)

-- a message, which is not judged yet; a Ticket that all octets are; a message of NTLM; or a layer is at fault
pub data Found : Type 0 where
  Message : Part → Found
  Ticket : Found
  Ntlm : (place : ℕ) → Found
  Refused : Fault → Found

pub record Opened : Type 0 where
  pub layers : List Layer
  pub found : Found

-- found under layers
abbrev pub under : List Layer → Found → Opened
under layers found = record { layers = layers; found = found }

abbrev pub message_under : List Layer → ℕ → List ℕ → Opened
message_under layers place octets = under layers (Message (record { place = place; octets = octets }))

-- an octet at fault in what has a path, and in what has none
abbrev pub fault_in : List ℕ → ℕ → Why → Fault
fault_in path place why = record { place = place; why = why; path = Some path }

abbrev pub refused_in : List Layer → List ℕ → ℕ → Why → Opened
refused_in layers path place why = under layers (Refused (fault_in path place why))

abbrev pub bare_fault : ℕ → Why → Fault
bare_fault place why = record { place = place; why = why; path = None }

abbrev pub refused_bare : List Layer → ℕ → Why → Opened
refused_bare layers place why = under layers (Refused (bare_fault place why))

-- goes on with what was read, if nothing in it is at fault
abbrev pub and_then : {A B : Type 0} → Result A Fault → (A → Result B Fault) → Result B Fault
and_then (Ok read) next = next read
and_then (Err fault) next = Err fault

abbrev pub opened_by : {A : Type 0} → List Layer → Result A Fault → (A → Opened) → Opened
opened_by layers (Ok read) next = next read
opened_by layers (Err fault) next = under layers (Refused fault)
