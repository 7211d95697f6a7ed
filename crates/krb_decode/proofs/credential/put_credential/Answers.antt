use Rattle.std.proofs.Common.{sym, ◌∙◌}
use Rattle.krb_decode.specs.Caches.{decoded_field}
use Rattle.krb_decode.proofs.CacheRuns.{config-passed, field-of, opening-text}
use Rattle.krb_decode.proofs.Findings.{adds-as}
use Rattle.krb_decode.proofs.credential.put_credential.Goals as goal

pub returns-then-is_config : goal.returns-then-is_config
returns-then-is_config c = config-passed c.args.index c.args.credential.now c.args.parts.now (sym c.is_config.ensures ∙ c.if-is_config.true)

pub returns : goal.returns
returns c =
    let origin = c.as_str.ensures.value ∙ c.in_ok-origin.ensures.ok ∙ opening-text c.args.index in
    adds-as c.put_field.result _ _ _ _ ((λ i. decoded_field (origin i) (c.as_slice.ensures i)) ∙ field-of c.args.index c.args.credential.now (sym c.is_config.ensures ∙ c.if-is_config.false)) c.put_field.ensures
