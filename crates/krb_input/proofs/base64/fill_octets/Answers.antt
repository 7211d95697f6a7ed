use Rattle.std.proofs.Common.{◌+◌, ◌*◌, slice_index_or, arith}
use Rattle.krb_input.specs.Base64.{character_value}
use Rattle.krb_input.proofs.Fours.{fours_step, three_of}
use Rattle.krb_input.proofs.base64.fill_octets.Goals as goal

pub loop-index-preserved : goal.loop-index-preserved
loop-index-preserved c =
    fours_step c.args.text.now c.loop-index.room c.loop-index.index (slice_index_or c.in-Some.three 0 0) (slice_index_or c.in-Some.three 1 0) (slice_index_or c.in-Some.three 2 0)
    (omega (arith, c.requires.text, c.loop-index-test.true)) (omega (arith, c.requires.room, c.loop-index.auto.room, c.loop-index-test.true))
    (three_of (character_value (slice_index_or c.args.text.now (4 * c.loop-index.index) 0)) (character_value (slice_index_or c.args.text.now (4 * c.loop-index.index + 1) 0))
    (character_value (slice_index_or c.args.text.now (4 * c.loop-index.index + 2) 0)) (character_value (slice_index_or c.args.text.now (4 * c.loop-index.index + 3) 0)) c.in-Some.three c.in-Some.ensures)
    c.loop-index.invariant
