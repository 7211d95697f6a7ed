use Rattle.std.proofs.Common.{refl, subst}
use Rattle.krb_msg.specs.Grammar.{messages}
use Rattle.krb_frame.specs.GoingOn.{GivesUp}
use Rattle.krb_frame.proofs.Skips.{skips-some}
use Rattle.krb_frame.proofs.skipping.SkippingDecoder.skip.Goals as goal

pub returns : goal.returns
returns c =
    let d = c.self.inside.decoder in
    let gives = subst (GivesUp (messages d.profile) d c.skip.new.self) c.in-Some.is c.skip.ensures in
    rw (← c.self.view_is) (skips-some (messages d.profile) (record { current = d; skipped = c.self.inside.skipped }) (record { current = c.skip.new.self; skipped = c.in-Some.rest }) c.in-Some.rest gives refl)
