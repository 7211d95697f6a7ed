use Rattle.krb_decode.proofs.Keys.{grown}
use Rattle.krbls.proofs.Chosen.{lists-to}
use Rattle.krbls.proofs.decoding.capture_into.Goals as goal

pub returns-clause-given : goal.returns-clause-given
returns-clause-given g c =
    let more = c.run_decode_capture.ensures.written in
    (more.0, (grown _ _ _ _ _ _ _ _ _ _ more.1).2, lists-to _ _ _ more.0 c.run_decode_capture.result more.1 c.run_decode_capture.ensures.listed)

pub returns-clause-same_writer : goal.returns-clause-same_writer
returns-clause-same_writer g c =
    let more = c.run_decode_capture.ensures.written in
    (grown _ _ _ _ _ _ _ _ _ _ more.1).0

pub returns-clause-same_before : goal.returns-clause-same_before
returns-clause-same_before g c =
    let more = c.run_decode_capture.ensures.written in
    (grown _ _ _ _ _ _ _ _ _ _ more.1).1.0

pub returns-clause-same_teller : goal.returns-clause-same_teller
returns-clause-same_teller g c =
    let more = c.run_decode_capture.ensures.written in
    (grown _ _ _ _ _ _ _ _ _ _ more.1).1.1
