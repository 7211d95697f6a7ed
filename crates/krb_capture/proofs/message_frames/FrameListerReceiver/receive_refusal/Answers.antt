use Rattle.std.proofs.Common.{◌∙◌, ap₂}
use Rattle.krb_capture.specs.Found.{and_more}
use Rattle.krb_capture.proofs.message_frames.FrameListerReceiver.receive_refusal.Goals as goal

pub returns : goal.returns
returns c = record {
  same = c.in_ok-put_refusal.ensures.same;
  origin = c.in_ok-put_refusal.ensures.others.1;
  profile = c.in_ok-put_refusal.ensures.others.2;
  offset = c.and_more-self.ensures ∙ ap₂ and_more c.in_ok-put_refusal.ensures.others.0 c.requires.size;
  listed = c.in_ok-put_refusal.ensures.listed;
}
