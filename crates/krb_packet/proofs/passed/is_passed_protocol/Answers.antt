use Rattle.krb_packet.specs.Passed.{is_passed_protocol}
use Rattle.krb_packet.proofs.passed.is_passed_protocol.Goals as goal

pub returns : goal.returns
unfolding is_passed_protocol
returns c = c.contains.ensures.value
