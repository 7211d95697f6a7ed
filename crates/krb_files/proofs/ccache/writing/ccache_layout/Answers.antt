use Rattle.krb_files.proofs.CcacheLayouts.{ccache_octets}
use Rattle.krb_files.proofs.ccache.writing.ccache_layout.Goals as goal

pub returns-clause-octets : goal.returns-clause-octets
returns-clause-octets c = ccache_octets c.args.ccache.now c.as_slice.result.now c.as_slice.ensures
