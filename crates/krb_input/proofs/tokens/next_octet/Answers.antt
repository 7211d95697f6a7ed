use Rattle.std.proofs.Common.{◌≡◌, ◌==◌, ◌&&◌, true, false, refl, arith}
use Rattle.std.proofs.lemmas.Bool.Decides.{nat_tests}
use Rattle.krb_input.specs.Characters.{is_x, count_digits}
use Rattle.krb_input.specs.Comments.{text_left}
use Rattle.krb_input.proofs.Steps.{octet_read, lone_read, prefix_read}
use Rattle.krb_input.proofs.tokens.next_octet.Goals as goal
use Rattle.krb_input.proofs.tokens.next_octet.Goals.{then-begins, else-begins}

pub returns-then-not-is_prefixed-clause-next : goal.returns-then-not-is_prefixed-clause-next
returns-then-not-is_prefixed-clause-next c =
    let not_prefixed : (c.args.begins && is_x c.in_ok-second.second) ≡ false = elim c.if-begins.branch [
      | then-begins w ↦ rw w.if-begins.true (cc (w.is_x-is_prefixed.ensures, w.is_prefixed-is, c.if-not-is_prefixed.true))
      | else-begins w ↦ rw w.if-begins.false refl
    ] in
    octet_read c.args.begins (text_left c.args.others) (text_left c.in_ok-second.behind) c.args.first c.in_ok-second.second c.in_ok-octet.octet c.in_ok-second.ensures not_prefixed c.in_ok-octet.ensures

pub returns-then-is_lone-clause-next : goal.returns-then-is_lone-clause-next
returns-then-is_lone-clause-next c =
    let prefixed : (c.args.begins && is_x c.in_ok-second.second) ≡ true = elim c.if-begins.branch [
      | then-begins w ↦ rw w.if-begins.true (cc (w.is_x-is_prefixed.ensures, w.is_prefixed-is, c.if-not-is_prefixed.false))
      | else-begins w ↦ cc (w.is_prefixed-is, c.if-not-is_prefixed.false)
    ] in
    let lone : (count_digits (text_left c.in_ok-second.behind) == 1) ≡ true = cc (c.count_digits-is_lone.ensures) in
    lone_read c.args.begins (text_left c.args.others) (text_left c.in_ok-second.behind) (text_left c.in_ok-digit.after) c.args.first c.in_ok-second.second c.in_ok-digit.digit c.in_ok-octet-2.octet
    c.in_ok-second.ensures c.in_ok-digit.ensures prefixed lone c.in_ok-octet-2.ensures.value

pub returns-clause-next : goal.returns-clause-next
returns-clause-next c =
    let prefixed : (c.args.begins && is_x c.in_ok-second.second) ≡ true = elim c.if-begins.branch [
      | then-begins w ↦ rw w.if-begins.true (cc (w.is_x-is_prefixed.ensures, w.is_prefixed-is, c.if-not-is_prefixed.false))
      | else-begins w ↦ cc (w.is_prefixed-is, c.if-not-is_prefixed.false)
    ] in
    let several : (count_digits (text_left c.in_ok-second.behind) == 1) ≡ false = grind (arith, nat_tests, c.count_digits-is_lone.ensures, c.if-is_lone.false) in
    prefix_read c.args.begins (text_left c.args.others) (text_left c.in_ok-second.behind) (text_left c.in_ok-digit.after) c.args.first c.in_ok-second.second c.in_ok-digit.digit
    c.in_ok-second.ensures c.in_ok-digit.ensures prefixed several
