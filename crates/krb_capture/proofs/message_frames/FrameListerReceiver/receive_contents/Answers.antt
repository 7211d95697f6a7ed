use Rattle.std.proofs.Common.{refl, subst}
use Rattle.krb_capture.specs.Listed.{IsListed}
use Rattle.krb_capture.proofs.message_frames.FrameListerReceiver.receive_contents.Goals as goal

pub returns : goal.returns
returns c =
    let found = subst (IsListed c.args.profile c.args.contents.now c.args.self.now.origin.now c.args.self.now.listing.now c.put_message.new.self) c.if-not-branch.false c.in_ok-put_message.ensures in
    (found.0, record { same = refl; origin = refl; profile = refl; offset = c.and_more-self.ensures; listed = found.1 })
