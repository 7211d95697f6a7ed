use Rattle.std.proofs.lemmas.Str.{IsCharBoundary-from_take, IsUtf8-append, IsUtf8-drop}
use Rattle.krb_record.proofs.text_buffer.TextBuffer.insert.Goals as goal

pub invariant_of-self-2 : goal.invariant_of-self-2
invariant_of-self-2 c =
    let before = rw (← c.self.view_is) at c.requires.before in
    let place = rw (← c.self.view_is) at c.requires.place in
    let after = IsUtf8-drop _ c.args.place c.self.invariant.1 (IsCharBoundary-from_take _ c.args.place c.self.invariant.1 place before) in (
      rw c.as_bytes.ensures.value at c.in_ok-put_before.ensures.fits,
      rw (rw c.as_bytes.ensures.value at c.in_ok-put_before.ensures.text) (IsUtf8-append _ _ (IsUtf8-append _ _ before c.utf8.text) after),
    )
