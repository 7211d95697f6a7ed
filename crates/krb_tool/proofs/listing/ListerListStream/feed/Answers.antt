use Rattle.std.proofs.Common.{false, subst}
use Rattle.krb_frame.specs.Deliveries.{DeliversPiece}
use Rattle.krb_tool.specs.declared.listing.StreamLines.{StreamLines}
use Rattle.krb_tool.specs.inner.Listers.{FrameLister}
use Rattle.krb_tool.specs.inner.StreamLines.{ListsEntry, stream_lines}
use Rattle.krb_tool.proofs.ListedPieces.{feeds-stopped, feeds-up-to}
use Rattle.krb_tool.proofs.Listings.{stream_listed}
use Rattle.krb_tool.proofs.listing.ListerListStream.feed.Goals as goal

pub returns-in-UpTo-clause-fed : goal.returns-in-UpTo-clause-fed
returns-in-UpTo-clause-fed c =
    let old : FrameLister StreamLines = record { decoder = c.args.self.now.decoder; lines = c.args.self.now.lines } in
    let new : FrameLister StreamLines = record { decoder = c.deliver.new.self; lines = c.deliver.new.receiver } in
    feeds-up-to stream_lines stream_listed old new c.args.piece.now c.in-UpTo.field-0.now false c.requires.waits c.requires.short
    (subst (DeliversPiece ListsEntry _ old.lines.request.keep_going old.decoder c.args.piece.now new.decoder old.lines new.lines) c.in-UpTo.is c.in_ok-delivered.ensures)
    (λ e. cc, λ full. absurd full)

pub returns-in-Stopped-clause-fed : goal.returns-in-Stopped-clause-fed
returns-in-Stopped-clause-fed c =
    let old : FrameLister StreamLines = record { decoder = c.args.self.now.decoder; lines = c.args.self.now.lines } in
    let new : FrameLister StreamLines = record { decoder = c.deliver.new.self; lines = c.deliver.new.receiver } in
    feeds-stopped stream_lines stream_listed old new c.args.piece.now c.in-Stopped.field-0 c.requires.waits c.requires.short
    (subst (DeliversPiece ListsEntry _ old.lines.request.keep_going old.decoder c.args.piece.now new.decoder old.lines new.lines) c.in-Stopped.is c.in_ok-delivered.ensures)
