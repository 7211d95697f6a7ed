use Rattle.std.proofs.Common.{◌∙◌, ap}
use Rattle.krb_capture.specs.Decoded.{end_line}
use Rattle.krb_capture.specs.Captures.{end_text, happened_in, is_clean}
use Rattle.krb_capture.proofs.Following.{last-listed}
use Rattle.krb_capture.proofs.capture.Capture.put_end.Goals as goal

pub returns-clause-listed : goal.returns-clause-listed
unfolding end_text
returns-clause-listed c = λ settings progress h.
    last-listed (happened_in c.args.self.now.happened) c.end_directions.new.self settings progress c.args.text.now c.end_directions.new.text c.put_end.new.text c.totals-totals.result c.told_counts-told.result end_line (c.in_ok-end_directions.ensures settings progress h) c.totals-totals.ensures c.told_counts-told.ensures c.in_ok-put_end.ensures

pub returns-clause-clean : goal.returns-clause-clean
returns-clause-clean c = λ settings progress h.
    c.is_clean.ensures ∙ ap (λ x. is_clean x) (c.totals-totals.ensures ∙ (c.in_ok-end_directions.ensures settings progress h).counts)
