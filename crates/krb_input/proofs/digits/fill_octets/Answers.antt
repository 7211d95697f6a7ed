use Rattle.std.proofs.Common.{◌+◌, ◌*◌, slice_index_or, arith}
use Rattle.hex.proofs.Pairs.{decode_step, decode_done}
use Rattle.krb_input.proofs.Decoded.{pair_read}
use Rattle.krb_input.proofs.digits.fill_octets.Goals as goal

pub loop-index-preserved : goal.loop-index-preserved
loop-index-preserved c =
    decode_step c.args.digits.now c.loop-index.room c.loop-index.index (16 * c.value_of-high.result + c.value_of-low.result) (omega (arith, c.requires.count)) (omega arith)
    (pair_read (slice_index_or c.args.digits.now (2 * c.loop-index.index) 0) (slice_index_or c.args.digits.now (2 * c.loop-index.index + 1) 0) c.value_of-high.result c.value_of-low.result (2 * c.loop-index.index) c.value_of-high.ensures.value c.value_of-low.ensures.value)
    c.loop-index.invariant

pub returns : goal.returns
returns c = decode_done c.args.digits.now c.loop-index.room c.loop-index.index (omega arith) (omega (arith, c.requires.count)) c.loop-index.invariant
