use Rattle.krb_frame.proofs.Ends.{decoder_matches_stream}
use Rattle.krb_frame.proofs.law.decoder_matches_stream.Goals as goal

pub returns : goal.returns
returns c = decoder_matches_stream
