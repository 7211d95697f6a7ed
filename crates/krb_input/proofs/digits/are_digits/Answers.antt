use Rattle.std.proofs.Common.{◌*◌, ap, ◌∙◌}
use Rattle.std.proofs.lemmas.List.{take_rest}
use Rattle.krb_input.specs.Digits.{are_digits}
use Rattle.krb_input.proofs.Passes.{digits_from}
use Rattle.krb_input.proofs.digits.are_digits.Goals as goal

pub returns : goal.returns
returns c = c.are_fit.ensures ∙ ap are_digits (take_rest c.args.text.now (2 * c.args.pairs)) ∙ digits_from (2 * c.args.pairs) c.args.text.now c.requires.digits
