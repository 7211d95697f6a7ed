use Rattle.std.proofs.Common.{◌∙◌, sym, arith}
use Rattle.krb_token.proofs.Opens.{opens_init, opens_response}
use Rattle.krb_token.proofs.FoundInLayers.{short_in_layer, all_in_layer}
use Rattle.krb_token.proofs.opening.open.Goals as goal

pub returns-in-0-clause-short : goal.returns-in-0-clause-short
returns-in-0-clause-short c = short_in_layer c.open_frame.result.found c.open_frame.ensures.layer

pub returns-in-0-clause-ticket : goal.returns-in-0-clause-ticket
returns-in-0-clause-ticket c = all_in_layer c.args.octets.now c.open_frame.result.found c.open_frame.ensures.layer

pub returns-in-96-clause-short : goal.returns-in-96-clause-short
returns-in-96-clause-short c = short_in_layer c.open_gss.result.found c.open_gss.ensures.layer

pub returns-in-96-clause-ticket : goal.returns-in-96-clause-ticket
returns-in-96-clause-ticket c = all_in_layer c.args.octets.now c.open_gss.result.found c.open_gss.ensures.layer

pub returns-in-160-clause-short : goal.returns-in-160-clause-short
returns-in-160-clause-short c = short_in_layer c.open_lone_spnego.result.found c.open_lone_spnego.ensures.layer

pub returns-in-160-clause-ticket : goal.returns-in-160-clause-ticket
returns-in-160-clause-ticket c = all_in_layer c.args.octets.now c.open_lone_spnego.result.found c.open_lone_spnego.ensures.layer

pub returns-in-161-clause-short : goal.returns-in-161-clause-short
returns-in-161-clause-short c = short_in_layer c.open_lone_spnego-in-161.result.found c.open_lone_spnego-in-161.ensures.layer

pub returns-in-161-clause-ticket : goal.returns-in-161-clause-ticket
returns-in-161-clause-ticket c = all_in_layer c.args.octets.now c.open_lone_spnego-in-161.result.found c.open_lone_spnego-in-161.ensures.layer

pub returns-in-160-clause-opened : goal.returns-in-160-clause-opened
returns-in-160-clause-opened c = c.open_lone_spnego.ensures.opened ∙ sym (opens_init c.args.octets.now c.in-160.len_at_least (omega arith))

pub returns-in-161-clause-opened : goal.returns-in-161-clause-opened
returns-in-161-clause-opened c = c.open_lone_spnego-in-161.ensures.opened ∙ sym (opens_response c.args.octets.now c.in-161.len_at_least (omega arith))
