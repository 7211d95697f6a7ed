use Rattle.std.proofs.Common.{◌++◌, false, ap, subst, ◌∙◌}
use Rattle.krb_der.specs.Octets.{item}
use Rattle.krb_msg.specs.Nodes.{term_at}
use Rattle.krb_msg.specs.Viewed.{HasNoItem}
use Rattle.krb_judge.specs.declared.locating.names.Names.TheVariants.{Basic}
use Rattle.krb_json.proofs.Searches.{zero-integer, zero-tagged, zero-no_item}
use Rattle.krb_json.proofs.encryption.+is_zero.Goals as goal

pub returns-in-Integer : goal.returns-in-Integer
returns-in-Integer t c = zero-integer c.args.contents.now c.is_single_zero.result c.in-Integer.low c.in-Integer.high c.in-Integer.widest (term_at c.args.node) c.in-Integer.ensures c.is_single_zero.ensures

pub returns-in-Some : goal.returns-in-Some
returns-in-Some t c =
    zero-tagged c.args.contents.now c.is_zero.result Basic c.in-Item.node (term_at c.args.node) c.in-Some.inner.now c.in-Some._rest.now c.in-Item.ensures
    (c.in-Some.ensures ∙ ap (λ tag. item tag c.in-Some.inner.now ++ c.in-Some._rest.now) c.tag_of.ensures) c.is_zero.ensures

pub returns-in-None : goal.returns-in-None
returns-in-None t c = zero-no_item c.args.contents.now false c.in-Item.node (term_at c.args.node) c.in-Item.ensures (subst (λ tag. HasNoItem tag c.args.contents.now) c.tag_of.ensures c.in-None.ensures)
