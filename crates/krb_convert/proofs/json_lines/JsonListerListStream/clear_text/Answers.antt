use Rattle.std.proofs.Common.{◌++◌, refl, sym, ap, ◌∙◌, append-nil}
use Rattle.krb_run.specs.Conversions.{after_text}
use Rattle.krb_convert.specs.inner.JsonLines.{json_lines, rest_of}
use Rattle.krb_tool.proofs.ListedPieces.{clears}
use Rattle.krb_convert.proofs.json_lines.JsonListerListStream.clear_text.Goals as goal

pub returns : goal.returns
returns c =
    let old = c.args.self.now.lines in
    clears json_lines c.args.self.now.decoder old (record old { text = c.clear.new.self }) c.clear.ensures.items refl (λ profile limit. refl) (λ full. full) refl
    (λ profile frames written h. record {
      goes_on = λ contents end. h.goes_on contents end ∙ ap (λ t. after_text t (rest_of old contents end)) (sym (ap (λ l. (written ++ old.text.items) ++ l) c.clear.ensures.items ∙ append-nil (written ++ old.text.items)));
      counted = h.counted;
    })
