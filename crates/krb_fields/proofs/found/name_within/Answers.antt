use Rattle.std.proofs.Common.{◌≡◌, ◌∙◌, ap, sym, Some, None}
use Rattle.std.specs.Option.{option_map}
use Rattle.krb_fields.specs.Fields.{shape_of}
use Rattle.krb_fields.specs.Names.{shape_names}
use Rattle.krb_fields.specs.inner.Stripped.{after_kind}
use Rattle.krb_fields.proofs.Stripped.{kind_among, kind_none, within_text_is}
use Rattle.krb_fields.proofs.found.name_within.Goals as goal

pub returns-in-Some-clause-known : goal.returns-in-Some-clause-known
returns-in-Some-clause-known c =
    let found : after_kind c.args.shape.now.kind.now c.args.word.now ≡ Some c.in-Some.text.now = sym c.after_kind.ensures ∙ ap (option_map (λ rest. rest.now)) c.in-Some.is in
    c.name_in.ensures.known ∙ sym (kind_among c.args.shape.now.kind.now c.args.word.now c.in-Some.text.now (shape_names (shape_of c.args.shape.now)) found)

pub returns-in-Some-clause-text : goal.returns-in-Some-clause-text
returns-in-Some-clause-text c =
    let found : after_kind c.args.shape.now.kind.now c.args.word.now ≡ Some c.in-Some.text.now = sym c.after_kind.ensures ∙ ap (option_map (λ rest. rest.now)) c.in-Some.is in
    within_text_is c.name_in.result c.args.shape.now.kind.now c.args.word.now c.in-Some.text.now c.name_in.ensures.text found

pub returns-in-None-clause-known : goal.returns-in-None-clause-known
returns-in-None-clause-known c =
    let none : after_kind c.args.shape.now.kind.now c.args.word.now ≡ None = sym c.after_kind.ensures ∙ ap (option_map (λ rest. rest.now)) c.in-None.is in
    sym (kind_none c.args.shape.now.kind.now c.args.word.now (shape_names (shape_of c.args.shape.now)) none)
