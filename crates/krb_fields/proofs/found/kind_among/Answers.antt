use Rattle.std.proofs.Common.{◌∙◌, ap, sym}
use Rattle.std.specs.Str.{bytes_eq}
use Rattle.krb_fields.proofs.Anys.{kinds_any, known_at, known_none}
use Rattle.krb_fields.proofs.found.kind_among.Goals as goal

pub returns-then-eq-clause-known : goal.returns-then-eq-clause-known
returns-then-eq-clause-known c =
    known_at (λ s. bytes_eq c.args.word.now s.kind.now) c.args.shapes.now c.loop-shape.shape-index _ c.loop-shape-test.true
    (ap (λ octets. bytes_eq c.args.word.now octets) (sym c.as_bytes.ensures.value) ∙ sym c.eq.ensures ∙ c.if-eq.true)
    ∙ sym (kinds_any c.args.word.now c.args.shapes.now)

pub returns-clause-known : goal.returns-clause-known
returns-clause-known c =
    known_none (λ s. bytes_eq c.args.word.now s.kind.now) c.args.shapes.now c.loop-shape.shape-index c.loop-shape-test.false c.loop-shape.invariant
    ∙ sym (kinds_any c.args.word.now c.args.shapes.now)
