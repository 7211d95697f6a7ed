use Rattle.krb_token.specs.declared.opening.Found.TheVariants as found
use Rattle.krb_items_run.proofs.Listables.{found-listed}
use Rattle.krb_items_run.proofs.listable.find_listable.Goals as goal

pub returns-in-Ntlm : goal.returns-in-Ntlm
returns-in-Ntlm c = found-listed c.args.profile c.args.octets.now c.open-opened.result (found.Ntlm c.in-Ntlm.place) _ c.open-opened.ensures.opened c.in-Ntlm.is c.layer_listable.ensures

pub returns-in-Refused : goal.returns-in-Refused
returns-in-Refused c =
    found-listed c.args.profile c.args.octets.now c.open-opened.result (found.Refused c.in-Refused.refusal c.in-Refused.path) _ c.open-opened.ensures.opened c.in-Refused.is c.layer_listable-in-Refused.ensures
