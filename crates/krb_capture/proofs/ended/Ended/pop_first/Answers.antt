use Rattle.std.proofs.Common.{◌∙◌, ap}
use Rattle.krb_capture.specs.Ended.{forward}
use Rattle.krb_capture.proofs.Newest.{forward-last}
use Rattle.krb_capture.proofs.ended.Ended.pop_first.Goals as goal

pub returns-clause-removal : goal.returns-clause-removal
returns-clause-removal c =
    let removed = ap (λ es. forward es) c.in_ok-number.ensures.removal ∙ forward-last (c.in_ok-number.number, c.in_ok-number.gone) c.pop_last.new.self.entries in
    cc (removed, ap (λ x. x.entries) c.self.view_is)
