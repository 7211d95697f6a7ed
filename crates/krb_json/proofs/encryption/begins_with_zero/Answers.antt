use Rattle.std.proofs.Common.{◌++◌, false, ap, subst, ◌∙◌}
use Rattle.krb_der.specs.Octets.{item}
use Rattle.krb_msg.specs.Viewed.{HasNoItem}
use Rattle.krb_json.proofs.Searches.{zero-first, zero-none_first, optional-first}
use Rattle.krb_json.proofs.encryption.begins_with_zero.Goals as goal

pub returns-in-Optional : goal.returns-in-Optional
returns-in-Optional c = optional-first c.args.slots.now c.args.octets.now _ c.in-len1-up.len_at_least c.in-Optional.is

pub returns-in-Some : goal.returns-in-Some
returns-in-Some c =
    zero-first c.args.octets.now c.is_zero.result c.args.slots.now c.in-Required.node c.in-Some.contents.now c.in-Some._rest.now c.in-len1-up.len_at_least c.in-Required.is
    (c.in-Some.ensures ∙ ap (λ tag. item tag c.in-Some.contents.now ++ c.in-Some._rest.now) c.tag_of.ensures) c.is_zero.ensures

pub returns-in-None : goal.returns-in-None
returns-in-None c = zero-none_first c.args.octets.now false c.args.slots.now c.in-Required.node c.in-len1-up.len_at_least c.in-Required.is (subst (λ tag. HasNoItem tag c.args.octets.now) c.tag_of.ensures c.in-None.ensures)
