use Rattle.krb_tool_laws.proofs.HoleOctets.{hole-listed}
use Rattle.krb_tool_laws.proofs.KeyOctets.{keytab-same, ccache-same}
use Rattle.krb_tool_laws.proofs.runs.keys_are_not_listed.Goals as goal

pub returns-clause-keytab : goal.returns-clause-keytab
returns-clause-keytab c = keytab-same c.keys_change_nothing_else.ensures c.keys_are_not_shown.ensures.record

pub returns-clause-hole : goal.returns-clause-hole
returns-clause-hole c = hole-listed

pub returns-clause-ccache : goal.returns-clause-ccache
returns-clause-ccache c = ccache-same c.session_keys_change_nothing_else.ensures c.session_keys_are_not_shown.ensures.credential
