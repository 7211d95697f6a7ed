use Rattle.std.proofs.Common.{◌+◌, ◌-◌, ◌*◌, ◌∷◌, ◌∙◌, ap₂, sym, length, take, drop}
use Rattle.krb_words.specs.Names.{named}
use Rattle.krb_words.proofs.Shown.{two-digits-named}
use Rattle.krb_words.proofs.names.first_named.Goals as goal

pub returns-clause-shown : goal.returns-clause-shown
returns-clause-shown c =
    two-digits-named c.args.first c.args.others.now c.if-first-ne92.false c.in-len3-up.len_at_least
    ∙ ap₂ (λ high low. (16 * high + low) ∷ named (take (length c.args.others.now - 3) (drop 3 c.args.others.now))) (sym c.digit_value.ensures.value) (sym c.digit_value-2.ensures.value)
