use Rattle.std.proofs.Common.{◌≡◌, ◌-◌, ◌<◌, ◌≤◌, ◌&&◌, true, length, get_or, sym, ap, ◌∙◌, arith, rules}
use Rattle.std.proofs.lemmas.Bool.{false≢true}
use Rattle.krb_packet.specs.declared.assembly.Part.{Part}
use Rattle.krb_packet.specs.Parts.{are_apart}
use Rattle.krb_packet.proofs.Pieces.{apart_is, not_all_apart}
use Rattle.krb_packet.proofs.assembly.is_apart_from_all.Goals as goal
use Rattle.krb_packet.proofs.assembly.is_apart_from_all.Goals.{in-Some, in-None}

pub returns-then-before : goal.returns-then-before
returns-then-before c = λ octets are.
    let after : (d : Part) → c.args.place < length c.args.parts.now → c.is_apart_from.result ≡ are_apart c.args.span (get_or c.args.parts.now c.args.place d).span = λ d within. search rules in
    let last : length c.args.parts.now ≤ c.args.place → c.is_apart_from.result ≡ true = λ none. search rules in
    sym (ap (λ before. before && c.is_apart_from.result) c.if-before.true)
    ∙ elim c.match-checked_sub.branch [
      | in-Some w ↦
          let some : 0 < c.args.place = search rules in
          let before : (d : Part) → 0 < c.args.place → c.match-checked_sub.before ≡ are_apart c.args.span (get_or c.args.parts.now (c.args.place - 1) d).span = λ d within. search rules in
          apart_is octets c.args.parts.now c.args.span c.args.place c.match-checked_sub.before c.is_apart_from.result c.requires.some are c.requires.place before (λ none. absurd (omega (arith, some, none))) after last
      | in-None w ↦
          let none : c.args.place ≡ 0 = search rules in
          let first : c.match-checked_sub.before ≡ true = search rules in
          apart_is octets c.args.parts.now c.args.span c.args.place c.match-checked_sub.before c.is_apart_from.result c.requires.some are c.requires.place (λ d within. absurd (omega (arith, none, within))) (λ _. first) after last
    ]

pub returns-else-before : goal.returns-else-before
returns-else-before c = λ octets are.
    let part : Part = record { span = c.args.span; begin = 0 } in
    c.if-before.false
    ∙ elim c.match-checked_sub.branch [
      | in-Some w ↦
          let some : 0 < c.args.place = search rules in
          let before : c.match-checked_sub.before ≡ are_apart c.args.span (get_or c.args.parts.now (c.args.place - 1) part).span = search rules in
          sym (not_all_apart c.args.parts.now c.args.span (c.args.place - 1) part (omega (arith, some, c.requires.place.within)) (sym before ∙ c.if-before.false))
      | in-None w ↦
          let first : c.match-checked_sub.before ≡ true = search rules in
          absurd (false≢true (sym c.if-before.false ∙ first))
    ]
