use Rattle.std.proofs.Common.{◌≡◌, ◌∙◌, ap, sym, Some, None}
use Rattle.std.specs.Option.{option_map}
use Rattle.krb_fields.specs.Table.{endings}
use Rattle.krb_fields.specs.inner.Stripped.{after}
use Rattle.krb_fields.proofs.Stripped.{after_among, ending_text, after_none}
use Rattle.krb_fields.proofs.found.member_in.Goals as goal

pub returns-in-Some-clause-known : goal.returns-in-Some-clause-known
returns-in-Some-clause-known c =
    let found : after c.args.field.now.name.now c.args.word.now ≡ Some c.in-Some.text.now = ap (λ b. after b c.args.word.now) (sym c.as_bytes.ensures.value) ∙ sym c.after.ensures ∙ ap (option_map (λ rest. rest.now)) c.in-Some.is in
    c.ending_of.ensures.known ∙ sym (after_among c.args.field.now.name.now c.args.word.now c.in-Some.text.now (endings c.args.field.now.value) found)

pub returns-in-Some-clause-text : goal.returns-in-Some-clause-text
returns-in-Some-clause-text c =
    let found : after c.args.field.now.name.now c.args.word.now ≡ Some c.in-Some.text.now = ap (λ b. after b c.args.word.now) (sym c.as_bytes.ensures.value) ∙ sym c.after.ensures ∙ ap (option_map (λ rest. rest.now)) c.in-Some.is in
    ending_text c.ending_of.result c.args.field.now.name.now c.args.word.now c.in-Some.text.now c.ending_of.ensures.text found

pub returns-in-None-clause-known : goal.returns-in-None-clause-known
returns-in-None-clause-known c =
    let none : after c.args.field.now.name.now c.args.word.now ≡ None = ap (λ b. after b c.args.word.now) (sym c.as_bytes.ensures.value) ∙ sym c.after.ensures ∙ ap (option_map (λ rest. rest.now)) c.in-None.is in
    sym (after_none c.args.field.now.name.now c.args.word.now (endings c.args.field.now.value) none)
