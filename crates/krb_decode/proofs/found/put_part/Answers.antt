use Rattle.std.proofs.Common.{refl, ◌∙◌}
use Rattle.krb_judge.specs.Parses.{refusal_of}
use Rattle.krb_decode.proofs.Findings.{adds-refused, part-decoded}
use Rattle.krb_decode.proofs.found.put_part.Goals as goal

pub returns-in-Ok : goal.returns-in-Ok
returns-in-Ok c = part-decoded c.put_message.result c.args.profile c.args.layers.now c.args.octets.now _ _ c.args.parts.now c.put_message.new.parts c.in-Ok.ensures.whole c.in-Ok.ensures.message.read (c.as_str.ensures.value ∙ c.in_ok-origin.ensures) c.put_message.ensures

pub returns : goal.returns
returns c = adds-refused (refusal_of c.args.profile c.args.octets.now) c.in-Err._refusal _ c.args.parts.now ((c.in-Err.ensures.refused c.in-Err._refusal).0 refl)
