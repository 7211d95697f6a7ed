use Rattle.std.proofs.Common.{[], refl}
use Rattle.krb_decode.specs.inner.StreamParts.{stream_parts}
use Rattle.krb_tool.proofs.ListedPieces.{is_new}
use Rattle.krb_decode.proofs.StreamParts.{stream_listed}
use Rattle.krb_decode.proofs.stream.StreamListerListStream.new.Goals as goal

pub returns : goal.returns
returns c =
    is_new stream_parts stream_listed _ c.args.request c.args.request.profile c.args.request.limit c.start_stream.ensures refl c.new.ensures
    (record { listed = []; are = refl; same_profile = refl; text = c.new.ensures; messages = refl; refused = refl; at_once = refl; offset = refl })
    (λ full. full) refl
