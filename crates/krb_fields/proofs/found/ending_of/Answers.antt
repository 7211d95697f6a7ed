use Rattle.std.proofs.Common.{◌∙◌, ap, sym}
use Rattle.std.specs.Str.{bytes_eq}
use Rattle.krb_fields.specs.Names.{is_among}
use Rattle.krb_fields.proofs.Anys.{any_map, known_at, known_none}
use Rattle.krb_fields.proofs.found.ending_of.Goals as goal

pub returns-then-eq-clause-known : goal.returns-then-eq-clause-known
returns-then-eq-clause-known c =
    known_at (λ ending. bytes_eq c.args.text.now ending.now) c.endings-ending-items.result.now c.loop-ending.ending-index _ c.loop-ending-test.true
    (ap (λ octets. bytes_eq c.args.text.now octets) (sym c.as_bytes.ensures.value) ∙ sym c.eq.ensures ∙ c.if-eq.true)
    ∙ sym (any_map (bytes_eq c.args.text.now) (λ ending. ending.now) c.endings-ending-items.result.now)
    ∙ ap (is_among c.args.text.now) c.endings-ending-items.ensures

pub returns-clause-known : goal.returns-clause-known
returns-clause-known c =
    known_none (λ ending. bytes_eq c.args.text.now ending.now) c.endings-ending-items.result.now c.loop-ending.ending-index c.loop-ending-test.false c.loop-ending.invariant
    ∙ sym (any_map (bytes_eq c.args.text.now) (λ ending. ending.now) c.endings-ending-items.result.now)
    ∙ ap (is_among c.args.text.now) c.endings-ending-items.ensures
