use Rattle.std.proofs.Common.{false, subst}
use Rattle.krb_frame.specs.Deliveries.{DeliversPiece}
use Rattle.krb_convert.specs.declared.json_lines.JsonLines.{JsonLines}
use Rattle.krb_convert.specs.inner.JsonLines.{ReceivesEntry, json_lines}
use Rattle.krb_tool.specs.inner.Listers.{FrameLister}
use Rattle.krb_convert.proofs.DecodedFrames.{json_listed}
use Rattle.krb_tool.proofs.ListedPieces.{feeds-stopped, feeds-up-to}
use Rattle.krb_convert.proofs.json_lines.JsonListerListStream.feed.Goals as goal

pub returns-in-UpTo-clause-fed : goal.returns-in-UpTo-clause-fed
returns-in-UpTo-clause-fed c =
    let old : FrameLister JsonLines = record { decoder = c.args.self.now.decoder; lines = c.args.self.now.lines } in
    let new : FrameLister JsonLines = record { decoder = c.deliver.new.self; lines = c.deliver.new.receiver } in
    feeds-up-to json_lines json_listed old new c.args.piece.now c.in-UpTo.field-0.now c.is_full.result c.requires.waits c.requires.short
    (subst (DeliversPiece ReceivesEntry _ false old.decoder c.args.piece.now new.decoder old.lines new.lines) c.in-UpTo.is c.in_ok-delivered.ensures)
    c.is_full.ensures

pub returns-in-Stopped-clause-fed : goal.returns-in-Stopped-clause-fed
returns-in-Stopped-clause-fed c =
    let old : FrameLister JsonLines = record { decoder = c.args.self.now.decoder; lines = c.args.self.now.lines } in
    let new : FrameLister JsonLines = record { decoder = c.deliver.new.self; lines = c.deliver.new.receiver } in
    feeds-stopped json_lines json_listed old new c.args.piece.now c.in-Stopped.field-0 c.requires.waits c.requires.short
    (subst (DeliversPiece ReceivesEntry _ false old.decoder c.args.piece.now new.decoder old.lines new.lines) c.in-Stopped.is c.in_ok-delivered.ensures)
