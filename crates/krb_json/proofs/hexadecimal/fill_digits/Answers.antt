use Rattle.std.proofs.Common.{arith}
use Rattle.hex.specs.Hex.{lower_digits}
use Rattle.hex.proofs.Pairs.{encode_step, encode_done}
use Rattle.krb_json.proofs.hexadecimal.fill_digits.Goals as goal

pub loop-index-preserved : goal.loop-index-preserved
loop-index-preserved c =
    encode_step lower_digits c.args.octets.now c.loop-index.room c.loop-index.index _ _ (omega arith) (omega (arith, c.requires)) c.digit_of-high.ensures c.digit_of-low.ensures c.loop-index.invariant

pub returns : goal.returns
returns c = encode_done lower_digits c.args.octets.now c.loop-index.room c.loop-index.index (omega arith) (omega (arith, c.requires)) c.loop-index.invariant
