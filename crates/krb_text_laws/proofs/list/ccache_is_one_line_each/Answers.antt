use Rattle.krb_text_laws.proofs.FileOneLine.{cache_shown, credential_shown, cache_end_shown}
use Rattle.krb_text_laws.proofs.list.ccache_is_one_line_each.Goals as goal

pub returns-clause-cache : goal.returns-clause-cache
returns-clause-cache c = cache_shown

pub returns-clause-credential : goal.returns-clause-credential
returns-clause-credential c = credential_shown

pub returns-clause-end : goal.returns-clause-end
returns-clause-end c = cache_end_shown
