use Rattle.std.proofs.Common.{append_assoc}
use Rattle.krb_input.proofs.hint.converted.Goals as goal

pub returns : goal.returns
returns c =
    rw (c.in_ok-push_str-4.ensures.bytes, c.in_ok-push_str-3.ensures.bytes, c.in_ok-push_str-2.ensures.bytes, c.in_ok-push_str.ensures.bytes, c.new-text.ensures.bytes) (simp append_assoc)
