use Rattle.std.proofs.Common.{rules}
use Rattle.krb_files.proofs.KeytabLayouts.{entry_octets}
use Rattle.krb_files.proofs.keytab.writing.entry_layout.Goals as goal

pub returns-clause-octets : goal.returns-clause-octets
returns-clause-octets c =
    search (rules, entry_octets c.args.entry.now c.as_slice-components.result.now c.octets.result.now c.as_slice.result.now c.as_slice-2.result.now c.as_slice-components.ensures c.octets.ensures c.as_slice.ensures c.as_slice-2.ensures)
