use Rattle.std.proofs.Common.{refl}
use Rattle.krb_msg.specs.Grammar.{messages}
use Rattle.krb_frame.proofs.Skips.{clears-entry}
use Rattle.krb_frame.proofs.skipping.SkippingDecoder.next.Goals as goal

pub returns : goal.returns
returns c = rw (← c.self.view_is) (clears-entry (messages c.self.inside.decoder.profile) (record { current = c.self.inside.decoder; skipped = c.self.inside.skipped }) (record { current = c.next.new.self; skipped = c.self.inside.skipped }) c.next.result refl c.next.ensures)
