use Rattle.std.proofs.Common.{◌+◌, ◌*◌, slice_index_or, arith}
use Rattle.hex.proofs.Pairs.{decode_step, decode_done}
use Rattle.krb_json.proofs.Digits.{pair-read}
use Rattle.krb_json.proofs.hexadecimal.fill_octets.Goals as goal

pub loop-index-preserved : goal.loop-index-preserved
loop-index-preserved c =
    decode_step c.args.digits.now c.loop-index.room c.loop-index.index (16 * c.digit_value-high.result + c.digit_value-low.result) (omega (arith, c.requires.count)) (omega arith)
    (pair-read (slice_index_or c.args.digits.now (2 * c.loop-index.index) 0) (slice_index_or c.args.digits.now (2 * c.loop-index.index + 1) 0) c.digit_value-high.result c.digit_value-low.result (2 * c.loop-index.index) c.digit_value-high.ensures.value c.digit_value-low.ensures.value)
    c.loop-index.invariant

pub returns : goal.returns
returns c = decode_done c.args.digits.now c.loop-index.room c.loop-index.index (omega arith) (omega (arith, c.requires.count)) c.loop-index.invariant
