use Rattle.std.proofs.Common.{get_or, take, drop, length, ◌-◌, sym, ◌∙◌}
use Rattle.std.proofs.lemmas.Bool.{true≢false}
use Rattle.krb_msg.proofs.ShapeViews.{one_first, bits_none}
use Rattle.krb_msg.proofs.view.scalars.FlagsViewImpl.view_into.Goals as goal

pub returns-else-are_bits : goal.returns-else-are_bits
returns-else-are_bits c =
    bits_none (get_or c.args.contents.now 0 0) (take (length c.args.contents.now - 1) (drop 1 c.args.contents.now)) c.args.contents.now (one_first c.args.contents.now c.in-len1-up.len_at_least)
    (λ b. true≢false (sym (c.are_bits.ensures.1 b) ∙ c.if-are_bits.false))
