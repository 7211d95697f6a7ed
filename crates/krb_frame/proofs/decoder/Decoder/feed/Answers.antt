use Rattle.krb_msg.specs.Grammar.{messages}
use Rattle.std.proofs.Common.{drop, subst}
use Rattle.krb_frame.specs.Feeds.{Feeds}
use Rattle.krb_frame.proofs.Feeding.{Feeds-both}
use Rattle.std.proofs.lemmas.List.{take_rest}
use Rattle.krb_frame.proofs.decoder.Decoder.feed.Goals as goal

pub returns : goal.returns
returns c =
    let feeds = rw (take_rest c.args.piece.now c.feed_length-used.result) at c.feed_contents-fed.ensures in
    let f : Feeds (messages c.args.self.now.profile) c.feed_length-used.new.self (drop c.feed_length-used.result c.args.piece.now) c.feed_contents-fed.new.self c.feed_contents-fed.result = subst (λ p. Feeds (messages p) c.feed_length-used.new.self (drop c.feed_length-used.result c.args.piece.now) c.feed_contents-fed.new.self c.feed_contents-fed.result) c.feed_length-used.ensures.same_profile feeds in
    Feeds-both (messages c.args.self.now.profile) c.args.self.now.profile c.args.self.now c.feed_length-used.new.self c.feed_contents-fed.new.self c.args.piece.now c.feed_length-used.result c.feed_contents-fed.result c.feed_length-used.ensures f
