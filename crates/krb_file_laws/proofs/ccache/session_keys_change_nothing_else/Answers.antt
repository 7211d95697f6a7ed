use Rattle.krb_file_laws.proofs.CcacheKeyOctets.{keys-alone}
use Rattle.krb_file_laws.proofs.ccache.session_keys_change_nothing_else.Goals as goal

pub returns : goal.returns
returns c = keys-alone
