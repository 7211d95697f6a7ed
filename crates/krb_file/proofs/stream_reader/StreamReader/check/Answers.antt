use Rattle.std.proofs.Common.{sym, ◌∙◌}
use Rattle.krb_file.proofs.Taken.{piece-overruns, piece-too_long}
use Rattle.krb_file.proofs.stream_reader.StreamReader.check.Goals as goal

pub returns-then-exceeds_end-clause-fault : goal.returns-then-exceeds_end-clause-fault
returns-then-exceeds_end-clause-fault g c =
    rw (c.refused.ensures, c.at-place.ensures) (piece-overruns c.args.most c.args.size c.args.self.now (sym c.exceeds_end.ensures ∙ c.if-exceeds_end.true))

pub returns-then-is_longer-clause-fault : goal.returns-then-is_longer-clause-fault
returns-then-is_longer-clause-fault g c =
    rw (c.refused-then-is_longer.ensures, c.at-place.ensures) (piece-too_long c.args.most c.args.size c.args.self.now (sym c.exceeds_end.ensures ∙ c.if-exceeds_end.false) (sym c.is_longer.ensures ∙ c.if-is_longer.true))
