use Rattle.std.specs.Option.{option_copied}
use Rattle.krb_capture.specs.Decoded.{refusal_line}
use Rattle.krb_capture.specs.Captures.{happened_in, refusal_text}
use Rattle.krb_capture.proofs.Following.{last-listed}
use Rattle.krb_capture.proofs.capture.Capture.put_refusal.Goals as goal

pub returns : goal.returns
unfolding refusal_text
returns c = λ settings progress h.
    last-listed (happened_in c.args.self.now.happened) c.end_directions.new.self settings progress c.args.text.now c.end_directions.new.text c.put_file_refusal.new.text c.totals-totals.result c.told_counts-told.result (λ label counts told. refusal_line label counts told c.args.place c.args.why (option_copied c.args.path) c.args.extent) (c.in_ok-end_directions.ensures settings progress h) c.totals-totals.ensures c.told_counts-told.ensures c.in_ok-put_file_refusal.ensures
