use Rattle.krb_text_laws.proofs.ListMasks.{other_value, same_ticket, same_cache, same_cache3, same_credential}
use Rattle.krb_text_laws.proofs.list.session_keys_are_not_shown.Goals as goal

pub returns-clause-cache : goal.returns-clause-cache
returns-clause-cache c = same_cache

pub returns-clause-cache3 : goal.returns-clause-cache3
returns-clause-cache3 c = same_cache3

pub returns-clause-credential : goal.returns-clause-credential
returns-clause-credential c = same_credential

pub returns-clause-ticket : goal.returns-clause-ticket
returns-clause-ticket c = same_ticket

pub returns-clause-config : goal.returns-clause-config
returns-clause-config c = other_value
