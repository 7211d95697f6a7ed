use Rattle.std.proofs.Common.{[], refl}
use Rattle.krb_tool.specs.inner.StreamLines.{stream_lines}
use Rattle.krb_tool.proofs.ListedPieces.{is_new}
use Rattle.krb_tool.proofs.Listings.{stream_listed}
use Rattle.krb_tool.proofs.listing.ListerListStream.new.Goals as goal

pub returns : goal.returns
returns c =
    is_new stream_lines stream_listed _ c.args.request c.args.request.profile c.args.request.limit c.start_stream-decoder.ensures refl c.new-text.ensures
    (record { listed = []; are = refl; same_profile = refl; text = c.new-text.ensures; messages = refl; refused = refl; at_once = refl; offset = refl })
    (λ full. full) refl
