use Rattle.std.proofs.Common.{◌∙◌, ◌≤◌, List, ℕ, ap, arith, drop, length, length-drop, subst, take}
use Rattle.std.specs.Prelude.{not}
use Rattle.std.proofs.lemmas.List.{take_rest}
use Rattle.krb_decode.specs.inner.Sorter.{IsLine}
use Rattle.krb_decode.proofs.Sorted.{line-of, lines-end, lines-more}
use Rattle.krb_decode.proofs.sorting.lines_size.Goals as goal

pub lines-init : goal.lines-init
lines-init c =
    let first = c.line_size-size in
    let of = line-of first.result.1 (take first.result.0 c.args.text.now) first.ensures.line in
    record { within = first.ensures.within; of_messages = of.0; ended = λ e. of.1 ∙ ap not e }

pub lines-preserved : goal.lines-preserved
lines-preserved c =
    let text = c.args.text.now in let size = c.lines.size in let next = c.line_size-next in let i = c.lines.invariant in
    let was = i.ended c.lines-test.true in
    let line : IsLine next.result.1 (take next.result.0 (drop size text)) = subst (λ (t : List ℕ). IsLine next.result.1 (take next.result.0 t)) (take_rest text size) next.ensures.line in
    let few : next.result.0 ≤ length (drop size text) = subst (λ (t : List ℕ). next.result.0 ≤ length t) (take_rest text size) next.ensures.within in
    record {
      within = omega (arith, few, length-drop size text, i.within);
      of_messages = lines-more size next.result.0 text next.result.1 was line i.of_messages c.if-text-size-eq123.true;
      ended = lines-end size next.result.0 text next.result.1 was line;
    }
