use Rattle.std.proofs.Common.{ℕ, List, ◌++◌, false, map, take, arith, ap, sym, ◌∙◌}
use Rattle.krb_packet.specs.Parts.{joined}
use Rattle.krb_packet.specs.inner.Pieces.{piece_in}
use Rattle.krb_packet.proofs.Pieces.{append_step, joined_more}
use Rattle.krb_packet.proofs.assembly.append.Goals as goal

pub loop-part-preserved : goal.loop-part-preserved
loop-part-preserved c =
    append_step c.args.all.now.items c.loop-part.all.items c.extend_from_slice.new.self.items (joined (map (piece_in c.args.octets.now) (take c.loop-part.part-index c.args.parts.now))) c.octets_of.result.now _ c.loop-part.invariant c.in_ok-extend_from_slice.ensures.items
    (joined_more c.args.octets.now c.args.parts.now c.loop-part.part-index (record { span = record { start = 0; end = 0; is_last = false }; begin = 0 }) (omega arith) ∙ ap (λ (xs : List ℕ). joined (map (piece_in c.args.octets.now) (take c.loop-part.part-index c.args.parts.now)) ++ xs) (sym c.octets_of.ensures))
