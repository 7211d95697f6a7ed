use Rattle.std.proofs.Common.{◌≡◌, false, subst, arith}
use Rattle.krb_scan.specs.Scan.{sole_in}
use Rattle.krb_scan.specs.inner.Outcomes.{HeadIs}
use Rattle.krb_scan.proofs.Containers.{limit_is}
use Rattle.krb_scan.proofs.Picking.{headed_whole}
use Rattle.krb_scan.proofs.path.Path.headed.Goals as goal
use Rattle.krb_scan.proofs.path.Path.headed.Goals.{else-is_sole-via-then-is_sole+else-self-size, else-is_sole-via-else-is_sole}

pub returns-else-is_sole-clause-step : goal.returns-else-is_sole-clause-step
returns-else-is_sole-clause-step c = λ stack marks got from octets containers is ends partial.
    headed_whole c.args.self.now c.enter.new.self c.enter.result c.in-Got.size _ stack marks got from octets (subst (λ head. HeadIs head got) c.in-Got.is is) ends
    (λ sole. elim c.else-is_sole.branch [
      | else-is_sole-via-then-is_sole+else-self-size w ↦ (let same = limit_is c.args.self.now.inner c.args.self.now.outer.items stack containers in let le = w.if-self-size in omega arith)
      | else-is_sole-via-else-is_sole w ↦ (let is : c.is_sole.result ≡ sole_in stack = c.is_sole.ensures stack containers in let no : c.is_sole.result ≡ false = w.if-is_sole.false in absurd (cc (is, no, sole)))
    ])
    (c.enter.ensures.step stack marks containers)
