use Rattle.krb_words.proofs.Shown.{one-named}
use Rattle.krb_words.proofs.names.named.Goals as goal

pub loop-rest-preserved : goal.loop-rest-preserved
loop-rest-preserved c =
    one-named c.args.text.now c.loop-rest.name.items c.push.new.self.items c.loop-rest.rest.now c.in-Some.others.now c.in-Some.octet c.in-len1-up.len_at_least c.loop-rest.invariant c.in-Some.ensures.shown c.in_ok-push.ensures.items
