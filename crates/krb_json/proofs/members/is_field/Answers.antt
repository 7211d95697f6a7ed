use Rattle.std.proofs.Common.{sym, ap, ◌∙◌}
use Rattle.std.specs.List.{list_any}
use Rattle.std.specs.Str.{bytes_eq}
use Rattle.krb_judge.specs.Named.{Named, named}
use Rattle.krb_msg.proofs.Noted.{any-map}
use Rattle.krb_json.proofs.members.is_field.Goals as goal

pub returns : goal.returns
returns c =
    c.is_one_of.ensures ∙ sym (any-map (λ (field : Named). bytes_eq field.name c.args.name.now) named c.fields.result.now)
    ∙ ap (list_any (λ (field : Named). bytes_eq field.name c.args.name.now)) c.fields.ensures
