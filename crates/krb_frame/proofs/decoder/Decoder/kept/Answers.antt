use Rattle.krb_scan.specs.Machine.{profile_of}
use Rattle.krb_msg.specs.Grammar.{messages}
use Rattle.std.proofs.Common.{◌≡◌, length, sym, ◌∙◌, ap, arith}
use Rattle.krb_frame.proofs.DecoderFrames.{contents-at}
use Rattle.krb_frame.proofs.decoder.Decoder.kept.Goals as goal

pub returns-clause-value : goal.returns-clause-value
returns-clause-value c =
    let d = c.self.inside in
    let n : c.len.result ≡ length d.contents.items = omega arith in
    rw (← c.self.view_is) (n ∙ ap length (sym (contents-at (messages (profile_of d.machine)) (profile_of d.machine) d.limit d.length d.contents.items d.phase c.self.invariant.0)))
