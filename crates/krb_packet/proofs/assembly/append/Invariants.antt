use Rattle.std.proofs.Common.{◌≡◌, ◌++◌, map, take}
use Rattle.krb_packet.specs.Parts.{joined}
use Rattle.krb_packet.specs.inner.Pieces.{piece_in}
use Rattle.krb_packet.proofs.assembly.append.Given as goal

abbrev pub invariant-loop-part : goal.invariant-loop-part
invariant-loop-part l = l.all.items ≡ l.initial.all.items ++ joined (map (piece_in l.octets) (take l.part-index l.parts))
