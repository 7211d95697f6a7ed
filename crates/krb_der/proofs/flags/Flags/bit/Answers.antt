use Rattle.std.proofs.Common.{◌≡◌, ℕ, ◌-◌, ◌*◌, ◌/◌, ◌<◌, ◌≤◌, List, length, get_or, sym, subst, arith}
use Rattle.std.proofs.lemmas.Grind.{common_steps}
use Rattle.krb_der.proofs.Shapes.{missing_bit-test}
use Rattle.krb_der.proofs.flags.Flags.bit.Goals as goal

pub returns-in-Some-clause-missing : goal.returns-in-Some-clause-missing
returns-in-Some-clause-missing c = λ h.
    let inside : c.args.index / 8 < length c.self.inside.octets.items = grind (arith, common_steps) in
    let octet : c.in-Some.octet.now ≡ get_or c.self.inside.octets.items (c.args.index / 8) 0 = grind (arith, common_steps) in
    let past : 8 * length c.self.inside.octets.items - c.self.inside.unused ≤ c.args.index = subst (λ (flags : ℕ × List ℕ). 8 * length flags.1 - flags.0 ≤ c.args.index) (sym c.self.view_is) h in
    missing_bit-test c.self.inside.unused c.self.inside.octets.items c.args.index c.in-Some.octet.now c.self.invariant past inside octet
