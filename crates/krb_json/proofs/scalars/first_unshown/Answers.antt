use Rattle.std.proofs.Common.{sym}
use Rattle.krb_json.proofs.Unshown.{two-digits-shown}
use Rattle.krb_json.proofs.scalars.first_unshown.Goals as goal

pub returns-clause-shown : goal.returns-clause-shown
returns-clause-shown c = two-digits-shown c.args.first c.args.others.now c.in_ok-octet.octet c.if-first-ne92.false c.in-len3-up.len_at_least c.if-x-ne120.false (sym c.in_ok-octet.ensures)
