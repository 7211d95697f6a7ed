use Rattle.krb_text.proofs.Parts.{told_none, told_some}
use Rattle.krb_text.proofs.part.put_whole.Goals as goal

pub returns-in-None : goal.returns-in-None
returns-in-None g c = λ part same. told_none part _ _ _ _ c.in-None.ensures

pub returns-in_ok-put_part-in-Some : goal.returns-in_ok-put_part-in-Some
returns-in_ok-put_part-in-Some g c =
    λ part same. told_some part _ _ _ _ _ c.in-Some.ensures.0 c.saturating_add.ensures (rw (same c.in-Some.seen) c.in_ok-put_part-in-Some.ensures)
