use Rattle.std.proofs.Common.{ℕ, List, Option, None, false, ap, sym, subst}
use Rattle.krb_capture.specs.Captures.{HasFollowed, at_first}
use Rattle.krb_capture.specs.Labels.{of_decoding}
use Rattle.krb_record.specs.Labels.{Label}
use Rattle.krb_run.specs.Records.{after_line}
use Rattle.krb_capture_run.specs.Decoded.{decoded_capture}
use Rattle.krb_capture_run.specs.inner.DecodedRuns.{DecodedSource, IsDecodedLeft}
use Rattle.krb_capture_run.specs.declared.decode_run.Wanted.{Wanted}
use Rattle.krb_capture_run.proofs.CaptureLines.{less_said}
use Rattle.krb_capture_run.proofs.DecodedLines.{all_decoded}
use Rattle.krb_capture_run.proofs.decode_run.decode_with.Goals as goal

pub returns-clause-listed : goal.returns-clause-listed
returns-clause-listed g c = λ file known.
    let a = c.args in
    let capture = c.decoding-capture.result in
    let source : DecodedSource = record { profile = c.args.profile; limit = c.args.limit; port = c.args.port; packet = c.args.packet; file = file } in
    let listing = decoded_capture c.args.profile c.args.limit c.args.port c.args.packet file in
    let reads = c.new-packets.ensures.begins file (c.in_ok-reader.ensures.same file known) in
    let followed =
    subst (λ (l : Label). HasFollowed c.decoding-capture.result (record { label = of_decoding l (record { packet = c.args.packet }); profile = c.args.profile; limit = c.args.limit; port = c.args.port }) at_first) c.requires
    (subst (λ (p : Option ℕ). HasFollowed c.decoding-capture.result (record { label = of_decoding c.args.label.now (record { packet = p }); profile = c.args.profile; limit = c.args.limit; port = c.args.port }) at_first) c.decoding_of.ensures c.decoding-capture.ensures.followed) in
    let left = all_decoded a.profile a.limit a.port a.packet file c.new-packets.result capture a.label.now (ap (λ l. l.form) c.requires) reads followed c.decoding-capture.ensures.happened in
    let wanted_left = subst (λ (w : Option Wanted). IsDecodedLeft c.new-packets.result c.decoding-capture.result None c.args.label.now w false source listing) (sym c.wanted_of-wanted.ensures) left in
    less_said _ listing (ap (λ (text : List ℕ). after_line text listing) c.new-text.ensures) (λ l. Unit {0}) _ _ c.list_records.result (c.list_records.ensures.listed source listing wanted_left) (λ rest was. tt)
