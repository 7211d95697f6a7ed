use Rattle.std.proofs.Common.{refl}
use Rattle.krb_der.specs.Octets.{item}
use Rattle.krb_msg.proofs.FieldViews.{field_none, contents_none, not_made}
use Rattle.krb_msg.proofs.fields.view.view_field.Goals as goal

pub returns-in_default : goal.returns-in_default
returns-in_default g c = field_none g.row.INDEX c.tag.result g.T.View.term c.args.octets.now c.tag.ensures c.in_default.ensures

pub returns-else-view_into : goal.returns-else-view_into
returns-else-view_into g c =
    contents_none g.row.INDEX c.tag.result g.T.View.term c.args.octets.now (item c.tag.result c.in-Some.contents.now) c.in-Some.contents.now c.in-Some.rest.now c.tag.ensures c.in-Some.ensures refl (not_made _ _ _ c.if-view_into.false c.view_into.ensures)
