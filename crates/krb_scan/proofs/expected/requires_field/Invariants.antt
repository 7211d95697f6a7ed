use Rattle.std.proofs.Common.{◌≡◌, ◌-◌, length, drop}
use Rattle.krb_msg.specs.Nodes.{nodes, term_at}
use Rattle.krb_msg.specs.Table.{fields_from}
use Rattle.krb_scan.specs.Expectations.{fields_in, fields_after}
use Rattle.krb_scan.specs.inner.Machine.{requires_field}
use Rattle.krb_scan.proofs.expected.requires_field.Given as goal

-- the fields passed so far are optional
abbrev pub invariant-fields : goal.invariant-fields
invariant-fields l = requires_field (fields_after l.from (fields_in (term_at l.sequence))) ≡ requires_field (fields_from nodes (drop l.at l.fields))

abbrev pub decreases-fields : goal.decreases-fields
decreases-fields l = length l.fields - l.at
