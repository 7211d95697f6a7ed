use Rattle.std.proofs.Common.{ℕ, List, ap, refl}
use Rattle.std.proofs.lemmas.Result.{err_from_is_err_and}
use Rattle.krb_capture.specs.Captures.{Settings}
use Rattle.krb_capture.specs.Labels.{of_records}
use Rattle.krb_capture_run.specs.Captures.{IsCaptureRest, capture_listing}
use Rattle.krb_run.specs.Records.{after_line}
use Rattle.krb_run.proofs.Records.{none_written, some-none}
use Rattle.krb_capture_run.proofs.CaptureLines.{all_left, is_rest, less_said}
use Rattle.krb_capture_run.proofs.capture_run.run_capture.Goals as goal

pub returns-in_err-capture : goal.returns-in_err-capture
returns-in_err-capture g c = record {
  listed = λ file known.
      let p = err_from_is_err_and c.from_residual-in_err-capture.result c.from_residual-in_err-capture.ensures.1 in
      let settings : Settings = record { label = of_records c.args.label.now; profile = c.args.profile; limit = c.args.limit; port = c.args.port } in
      rw p.1 (none_written (capture_listing settings file) (IsCaptureRest settings file) (g.W.Write.contents c.args.writer.now) p.0 p.2);
  written = some-none (g.W.Write.contents c.args.writer.now);
}

pub returns : goal.returns
returns g c = record {
  listed = λ file known.
      let settings : Settings = record { label = of_records c.args.label.now; profile = c.args.profile; limit = c.args.limit; port = c.args.port } in
      let reads = c.new-packets.ensures.begins file (c.in_ok-reader.ensures.same file known) in
      let left = all_left settings file c.new-packets.result c.in_ok-capture.capture c.args.label.now refl reads c.in_ok-capture.ensures.followed c.in_ok-capture.ensures.happened in
      less_said _ (capture_listing settings file) (ap (λ (text : List ℕ). after_line text (capture_listing settings file)) c.new-text.ensures) (IsCaptureRest settings file) _ _ c.list_records.result
      (c.list_records.ensures.listed (record { settings = settings; file = file }) (capture_listing settings file) left)
      (λ rest was. is_rest settings file was.lines.packets was.lines.capture was.lines.rest was.lines.label.now rest was.is_left);
  written = c.list_records.ensures.written;
}
