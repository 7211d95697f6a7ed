-- A header, a value and the fields after it are put.
use Rattle.std.proofs.Common.{refl, ℕ, ◌+◌, ◌∷◌, length}
use Rattle.std.specs.Global.{Vec}
use Rattle.krb_der.specs.Octets.{length_octets}
use Rattle.krb_der.specs.Puts.{Puts}
use Rattle.krb_msg.specs.Term.{der, der_of_fields}
use Rattle.krb_codec.proofs.Puts.{HasCapacity, HasSteps, puts_both, capacity_after, field_steps}
use Rattle.krb_codec.proofs.fields.RequiredRefEncodeFields.put.Given.{Over}
use Rattle.krb_codec.proofs.fields.RequiredRefEncodeFields.put.Goals.{After-size}
use Rattle.krb_codec.proofs.fields.RequiredRefEncodeFields.put.Goals as goal

in_item : (g : Over) (c : After-size g) → HasSteps (0xA0 + g.row.INDEX) c.size.result (der g.T.Item.term (g.T.Item.value c.args.self.now.0.now)) (der g.T.Item.term (g.T.Item.value c.args.self.now.0.now)) c.args.out.now
in_item g c = field_steps _ _ _ _ (der_of_fields g.F.EncodeFields.fields (g.F.EncodeFields.values c.args.self.now.1)) _ refl c.size.ensures.octets (c.requires.short, c.requires.capacity)

after_item : (g : Over) (c : After-size g) (new newer : Vec ℕ) → Puts ((0xA0 + g.row.INDEX) ∷ length_octets c.size.result) c.args.out.now new → Puts (der g.T.Item.term (g.T.Item.value c.args.self.now.0.now)) new newer → HasCapacity (length (der_of_fields g.F.EncodeFields.fields (g.F.EncodeFields.values c.args.self.now.1))) newer
after_item g c new newer header value = capacity_after _ (der_of_fields g.F.EncodeFields.fields (g.F.EncodeFields.values c.args.self.now.1)) ((in_item g c).item_put _ _ header value) (c.requires.short, c.requires.capacity)

pub overflow_cast-size : goal.overflow_cast-size
overflow_cast-size g c = (in_item g (goal.at.overflow_cast-size g c).After-size).short

pub put_header-requires : goal.put_header-requires
put_header-requires g c = (in_item g (goal.at.put_header-requires g c).After-size).header

pub put-requires-clause-short : goal.put-requires-clause-short
put-requires-clause-short g c = ((in_item g (goal.at.put-requires-clause-short g c).After-size).contents _ c.put_header.ensures).0

pub put-requires-clause-capacity : goal.put-requires-clause-capacity
put-requires-clause-capacity g c = ((in_item g (goal.at.put-requires-clause-capacity g c).After-size).contents _ c.put_header.ensures).1

pub put-requires-2-clause-short : goal.put-requires-2-clause-short
put-requires-2-clause-short g c = (after_item g (goal.at.put-requires-2-clause-short g c).After-size _ _ c.put_header.ensures c.put.ensures).0

pub put-requires-2-clause-capacity : goal.put-requires-2-clause-capacity
put-requires-2-clause-capacity g c = (after_item g (goal.at.put-requires-2-clause-capacity g c).After-size _ _ c.put_header.ensures c.put.ensures).1

pub returns : goal.returns
returns g c = puts_both _ _ ((in_item g (goal.at.returns g c).After-size).item_put _ _ c.put_header.ensures c.put.ensures) c.put-2.ensures
