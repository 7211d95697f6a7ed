use Rattle.krb_json.proofs.Unshown.{one-shown}
use Rattle.krb_json.proofs.scalars.unshown.Goals as goal

pub loop-rest-preserved : goal.loop-rest-preserved
loop-rest-preserved c =
    one-shown c.args.text.now c.loop-rest.octets.items c.push.new.self.items c.loop-rest.rest.now c.in-Some.others.now c.in-Some.octet c.in-len1-up.len_at_least c.loop-rest.invariant c.in-Some.ensures.shown c.in_ok-push.ensures.items
