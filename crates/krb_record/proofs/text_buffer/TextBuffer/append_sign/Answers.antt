use Rattle.std.proofs.lemmas.Str.{IsUtf8-append}
use Rattle.krb_record.proofs.text_buffer.TextBuffer.append_sign.Goals as goal

pub invariant_of-self : goal.invariant_of-self
invariant_of-self c = rw c.in_err-put_sign_after.ensures.memory c.self.invariant

pub invariant_of-self-2 : goal.invariant_of-self-2
invariant_of-self-2 c = (
  c.in_ok-put_sign_after.ensures.fits,
  rw c.in_ok-put_sign_after.ensures.text (IsUtf8-append _ _ c.self.invariant.1 c.requires.text),
)
