use Rattle.std.proofs.Common.{◌≡◌, map, sym, ap, rules}
use Rattle.krb_packet.specs.Parts.{Parts}
use Rattle.krb_packet.specs.inner.Pieces.{piece_in}
use Rattle.krb_packet.proofs.Pieces.{octets_of_all}
use Rattle.krb_packet.proofs.assembly.Assembly.octets_with.Goals as goal

pub returns : goal.returns
returns c =
    let octets = c.self.inside.octets.items in
    let pieces : c.args.self.now.pieces ≡ map (piece_in octets) c.self.inside.parts.items = ap (λ (p : Parts). p.pieces) (sym c.self.view_is) in
    octets_of_all octets c.self.inside.parts.items c.args.self.now c.args.fragment.now c.args.place c.split_at.result.0.now c.split_at.result.1.now c.append.new.all.items c.extend_from_slice.new.self.items c.append-2.new.all.items pieces c.requires (search rules) (search rules) (search rules) (search rules) (search rules)
