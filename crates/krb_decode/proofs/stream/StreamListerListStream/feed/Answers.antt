use Rattle.std.proofs.Common.{false, true, subst}
use Rattle.krb_frame.specs.Deliveries.{DeliversPiece}
use Rattle.krb_decode.specs.declared.stream.StreamParts.{StreamParts}
use Rattle.krb_tool.specs.inner.Listers.{FrameLister}
use Rattle.krb_decode.specs.inner.StreamParts.{AddsEntry, stream_parts}
use Rattle.krb_tool.proofs.ListedPieces.{feeds-stopped, feeds-up-to}
use Rattle.krb_decode.proofs.StreamParts.{stream_listed}
use Rattle.krb_decode.proofs.stream.StreamListerListStream.feed.Goals as goal

pub returns-in-UpTo-clause-fed : goal.returns-in-UpTo-clause-fed
returns-in-UpTo-clause-fed c =
    let old : FrameLister StreamParts = record { decoder = c.args.self.now.decoder; lines = c.args.self.now.parts } in
    let new : FrameLister StreamParts = record { decoder = c.deliver.new.self; lines = c.deliver.new.receiver } in
    feeds-up-to stream_parts stream_listed old new c.args.piece.now c.in-UpTo.field-0.now false c.requires.waits c.requires.short
    (subst (DeliversPiece AddsEntry _ true old.decoder c.args.piece.now new.decoder old.lines new.lines) c.in-UpTo.is c.in_ok-delivered.ensures)
    (λ e. cc, λ full. absurd full)

pub returns-in-Stopped-clause-fed : goal.returns-in-Stopped-clause-fed
returns-in-Stopped-clause-fed c =
    let old : FrameLister StreamParts = record { decoder = c.args.self.now.decoder; lines = c.args.self.now.parts } in
    let new : FrameLister StreamParts = record { decoder = c.deliver.new.self; lines = c.deliver.new.receiver } in
    feeds-stopped stream_parts stream_listed old new c.args.piece.now c.in-Stopped.field-0 c.requires.waits c.requires.short
    (subst (DeliversPiece AddsEntry _ true old.decoder c.args.piece.now new.decoder old.lines new.lines) c.in-Stopped.is c.in_ok-delivered.ensures)
