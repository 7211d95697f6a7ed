-- A header and fields are put.
use Rattle.std.proofs.Common.{refl}
use Rattle.krb_msg.specs.Term.{der_of_fields}
use Rattle.krb_codec.proofs.Puts.{HasSteps, item_steps}
use Rattle.krb_codec.proofs.fields.SequenceEncode.put.Given.{Over}
use Rattle.krb_codec.proofs.fields.SequenceEncode.put.Goals.{After-size}
use Rattle.krb_codec.proofs.fields.SequenceEncode.put.Goals as goal

in_item : (g : Over) (c : After-size g) → HasSteps 0x30 c.size.result (der_of_fields g.F.EncodeFields.fields (g.F.EncodeFields.values c.args.self.now.0)) (der_of_fields g.F.EncodeFields.fields (g.F.EncodeFields.values c.args.self.now.0)) c.args.out.now
in_item g c = item_steps _ _ _ _ _ refl c.size.ensures.octets (c.requires.short, c.requires.capacity)

pub overflow_cast-size : goal.overflow_cast-size
overflow_cast-size g c = (in_item g (goal.at.overflow_cast-size g c).After-size).short

pub put_header-requires : goal.put_header-requires
put_header-requires g c = (in_item g (goal.at.put_header-requires g c).After-size).header

pub put-requires-clause-short : goal.put-requires-clause-short
put-requires-clause-short g c = ((in_item g (goal.at.put-requires-clause-short g c).After-size).contents _ c.put_header.ensures).0

pub put-requires-clause-capacity : goal.put-requires-clause-capacity
put-requires-clause-capacity g c = ((in_item g (goal.at.put-requires-clause-capacity g c).After-size).contents _ c.put_header.ensures).1

pub returns : goal.returns
returns g c = (in_item g (goal.at.returns g c).After-size).item_put _ _ c.put_header.ensures c.put.ensures
