use Rattle.std.proofs.Common.{◌≡◌, ◌<◌, false, length, rules, get_or}
use Rattle.krb_packet.specs.declared.assembly.Part.{Part}
use Rattle.krb_packet.specs.Parts.{same_span}
use Rattle.krb_packet.proofs.Pieces.{none_same}
use Rattle.krb_packet.proofs.assembly.same_at.Goals as goal

pub returns-in_default-clause-none : goal.returns-in_default-clause-none
returns-in_default-clause-none c = λ octets are.
    let differs : (d : Part) → c.args.place < length c.args.parts.now → same_span c.args.span (get_or c.args.parts.now c.args.place d).span ≡ false = λ d within. search rules in
    none_same octets c.args.parts.now c.args.span c.args.place are c.requires differs

pub returns-in_default-2-clause-none : goal.returns-in_default-2-clause-none
returns-in_default-2-clause-none c = λ octets are.
    let differs : (d : Part) → c.args.place < length c.args.parts.now → same_span c.args.span (get_or c.args.parts.now c.args.place d).span ≡ false = λ d within. absurd (search rules) in
    none_same octets c.args.parts.now c.args.span c.args.place are c.requires differs
