use Rattle.krb_decode.proofs.Keys.{grown}
use Rattle.krbls.proofs.Chosen.{lists-to}
use Rattle.krbls.proofs.Written.{of_decoded_on}
use Rattle.krbls.proofs.decoding.stream_into.Goals as goal

pub returns-clause-given : goal.returns-clause-given
returns-clause-given g c =
    let decoding = c.args.decoding in
    let more = of_decoded_on (g.R.Read.remaining c.args.reader.now) (g.R.Read.remaining c.run_decode_stream.new.reader) _ _ decoding.profile decoding.limit c.run_decode_stream.result c.run_decode_stream.ensures.decoded c.run_decode_stream.ensures.fault in
    (more.0, (grown _ _ _ _ _ _ _ _ _ _ more.1).2, lists-to _ _ _ more.0 c.run_decode_stream.result more.1 (c.run_decode_stream.ensures.decoded, c.run_decode_stream.ensures.fault))

pub returns-clause-same_writer : goal.returns-clause-same_writer
returns-clause-same_writer g c =
    let decoding = c.args.decoding in
    let more = of_decoded_on (g.R.Read.remaining c.args.reader.now) (g.R.Read.remaining c.run_decode_stream.new.reader) _ _ decoding.profile decoding.limit c.run_decode_stream.result c.run_decode_stream.ensures.decoded c.run_decode_stream.ensures.fault in
    (grown _ _ _ _ _ _ _ _ _ _ more.1).0

pub returns-clause-same_before : goal.returns-clause-same_before
returns-clause-same_before g c =
    let decoding = c.args.decoding in
    let more = of_decoded_on (g.R.Read.remaining c.args.reader.now) (g.R.Read.remaining c.run_decode_stream.new.reader) _ _ decoding.profile decoding.limit c.run_decode_stream.result c.run_decode_stream.ensures.decoded c.run_decode_stream.ensures.fault in
    (grown _ _ _ _ _ _ _ _ _ _ more.1).1.0

pub returns-clause-same_teller : goal.returns-clause-same_teller
returns-clause-same_teller g c =
    let decoding = c.args.decoding in
    let more = of_decoded_on (g.R.Read.remaining c.args.reader.now) (g.R.Read.remaining c.run_decode_stream.new.reader) _ _ decoding.profile decoding.limit c.run_decode_stream.result c.run_decode_stream.ensures.decoded c.run_decode_stream.ensures.fault in
    (grown _ _ _ _ _ _ _ _ _ _ more.1).1.1
