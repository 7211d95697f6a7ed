use Rattle.std.proofs.Common.{◌∙◌, ap, arith, nat_lt}
use Rattle.std.proofs.lemmas.Simd.{bitmask_splat, first_set_mask_l, length-chunk}
use Rattle.krb_choice.specs.Lanes.{first_set}
use lib.Lanes.{chunk}
use mir.Syntax.{w8}
use Rattle.krb_choice.proofs.mark.count_text.Goals as goal

pub returns : goal.returns
returns c =
    let v = chunk c.args.place 16 c.args.text.now in
    let long = length-chunk c.args.place 16 c.args.text.now c.requires in
    c.first_set.ensures ∙ ap (λ mask. first_set mask 16) (bitmask_splat w8 nat_lt v 16 32 long (omega arith)) ∙ first_set_mask_l (λ x. nat_lt x 32) v 16 long (omega arith)
