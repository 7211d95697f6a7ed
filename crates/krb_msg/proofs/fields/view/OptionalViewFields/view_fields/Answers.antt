use Rattle.std.proofs.Common.{rules}
use Rattle.std.specs.Option.{option_map}
use Rattle.std.proofs.lemmas.Bool.{and_parts}
use Rattle.krb_msg.proofs.FieldViews.{else_both, optional_spoiled, optional_rest_none}
use Rattle.krb_msg.proofs.fields.view.OptionalViewFields.view_fields.Goals as goal

pub returns-in-None : goal.returns-in-None
returns-in-None g c = optional_spoiled g.row.INDEX g.T.View.term g.F.ViewFields.fields c.args.octets.now (and_parts _ _ c.requires.unambiguous).0 c.in-None.ensures

pub returns-in-Some : goal.returns-in-Some
returns-in-Some g c =
    else_both _ _ _ _ _ _ _ (optional_rest_none g.row.INDEX g.T.View.term g.F.ViewFields.fields c.args.octets.now c.in-Some.rest.now (and_parts _ _ c.requires.unambiguous).0 (option_map g.T.View.value c.view_optional.new.seen) c.in-Some.ensures.0)
    (λ a. search rules)
    (λ known. (c.in-Some.ensures.1, known)) c.view_fields.ensures
