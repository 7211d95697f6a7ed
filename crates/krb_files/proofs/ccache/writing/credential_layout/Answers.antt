use Rattle.krb_files.proofs.CcacheLayouts.{credential_octets}
use Rattle.krb_files.proofs.ccache.writing.credential_layout.Goals as goal

pub returns-clause-octets : goal.returns-clause-octets
returns-clause-octets c = credential_octets c.args.credential.now c.as_slice-2.result.now c.as_slice.result.now c.as_slice-2.ensures c.as_slice.ensures
