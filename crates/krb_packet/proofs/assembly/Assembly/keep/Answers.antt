use Rattle.std.proofs.Common.{◌≡◌, ◌+◌, ◌++◌, length, length-append, map, arith, rules, sym, refl, ap}
use Rattle.krb_packet.specs.Parts.{Parts}
use Rattle.krb_packet.specs.inner.Pieces.{piece_in}
use Rattle.krb_packet.specs.declared.assembly.Part.{Part}
use Rattle.krb_packet.specs.declared.assembly.Span.{Span}
use Rattle.krb_packet.proofs.Pieces.{after_keep, after_keep_pieces, same_parts}
use Rattle.krb_packet.proofs.assembly.Assembly.keep.Goals as goal

pub invariant_of-self-2 : goal.invariant_of-self-2
invariant_of-self-2 c =
    let part : Part = record { span = c.span_of-span.result; begin = c.len-begin.result } in
    let pieces : c.args.self.now.pieces ≡ map (piece_in c.self.inside.octets.items) c.self.inside.parts.items = ap (λ (p : Parts). p.pieces) (sym c.self.view_is) in
    let count : c.args.self.now.count ≡ length c.self.inside.octets.items = ap (λ (p : Parts). p.count) (sym c.self.view_is) in
    after_keep c.self.inside.octets.items c.extend_from_slice.new.self.items c.self.inside.parts.items c.insert.new.self.items c.args.self.now c.args.fragment.now c.args.place part c.self.invariant pieces count c.requires (search rules) (search rules) (search rules) (search rules)

pub returns-clause-keeps : goal.returns-clause-keeps
returns-clause-keeps c =
    let part : Part = record { span = c.span_of-span.result; begin = c.len-begin.result } in
    let pieces : c.args.self.now.pieces ≡ map (piece_in c.self.inside.octets.items) c.self.inside.parts.items = ap (λ (p : Parts). p.pieces) (sym c.self.view_is) in
    let count : c.args.self.now.count ≡ length c.self.inside.octets.items = ap (λ (p : Parts). p.count) (sym c.self.view_is) in
    let reach : c.args.self.now.reach ≡ c.self.inside.reach = ap (λ (p : Parts). p.reach) (sym c.self.view_is) in
    let ended : c.args.self.now.is_ended ≡ c.self.inside.is_ended = ap (λ (p : Parts). p.is_ended) (sym c.self.view_is) in
    let end : c.span_of-span.result.end ≡ c.args.fragment.now.offset + length c.args.fragment.now.payload.octets = ap (λ (s : Span). s.end) c.span_of-span.ensures in
    let last : c.span_of-span.result.is_last ≡ c.args.fragment.now.is_last = ap (λ (s : Span). s.is_last) c.span_of-span.ensures in
    let more : c.extend_from_slice.new.self.items ≡ c.self.inside.octets.items ++ c.args.fragment.now.payload.octets = search rules in
    same_parts _ _
    (after_keep_pieces c.self.inside.octets.items c.extend_from_slice.new.self.items c.self.inside.parts.items c.insert.new.self.items c.args.self.now c.args.fragment.now c.args.place part c.self.invariant pieces c.requires (search rules) (search rules) (search rules) (search rules))
    (omega (arith, reach, end, c.max-self-inside.ensures))
    (omega (arith, count, ap length more, length-append c.self.inside.octets.items c.args.fragment.now.payload.octets))
    (rw (ended, last) refl)
    (search rules)
