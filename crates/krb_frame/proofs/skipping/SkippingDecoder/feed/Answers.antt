use Rattle.std.proofs.Common.{refl, ◌-◌}
use Rattle.std.proofs.lemmas.List.{take_rest}
use Rattle.krb_msg.specs.Grammar.{messages}
use Rattle.krb_frame.proofs.Skips.{feeds-after_count}
use Rattle.krb_frame.proofs.skipping.SkippingDecoder.feed.Goals as goal

pub returns : goal.returns
returns c =
    let d = c.self.inside in
    let feeds = rw (take_rest c.args.piece.now c.min-count.result) at c.feed-fed.ensures in
    rw (← c.self.view_is) (feeds-after_count (messages d.decoder.profile) (record { current = d.decoder; skipped = d.skipped }) (record { current = c.feed-fed.new.self; skipped = d.skipped - c.min-count.result }) c.args.piece.now c.feed-fed.result c.min-count.result c.min-count.ensures refl feeds)
