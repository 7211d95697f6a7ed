use Rattle.krb_input.proofs.Steps.{escape_read}
use Rattle.krb_input.specs.Comments.{text_left}
use Rattle.krb_input.proofs.escapes.after_backslash.Goals as goal

pub returns-clause-escape : goal.returns-clause-escape
returns-clause-escape c =
    escape_read (text_left c.args.text) (text_left c.in_ok-first.others) (text_left c.in_ok-high.others) (text_left c.in_ok-low.others) c.in_ok-first.first c.in_ok-high.high c.in_ok-low.low c.in_ok-octet.octet
    c.in_ok-first.ensures c.in_ok-high.ensures c.in_ok-low.ensures c.if-first-ne120.false c.in_ok-octet.ensures
