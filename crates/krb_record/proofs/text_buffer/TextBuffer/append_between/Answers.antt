use Rattle.std.proofs.lemmas.Str.{IsUtf8-append}
use Rattle.krb_record.proofs.text_buffer.TextBuffer.append_between.Goals as goal

pub invariant_of-self-2 : goal.invariant_of-self-2
invariant_of-self-2 c = (
  c.in_ok-put_three_after.ensures.fits,
  rw c.in_ok-put_three_after.ensures.text (IsUtf8-append _ _ (IsUtf8-append _ _ (IsUtf8-append _ _ c.self.invariant.1 c.as_bytes-before.ensures.utf8) c.requires) c.as_bytes-after.ensures.utf8),
)
