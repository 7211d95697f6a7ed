use Rattle.std.proofs.Common.{refl}
use Rattle.krb_scan.proofs.Containers.{known_expected}
use Rattle.krb_scan.proofs.Picking.{none_begins, some_begins}
use Rattle.krb_scan.proofs.path.Path.begin.Goals as goal

pub pick-requires : goal.pick-requires
pick-requires c = known_expected c.args.self.now.inner c.args.self.now.outer.items c.requires.containers

pub returns-in-None-clause-step : goal.returns-in-None-clause-step
returns-in-None-clause-step c = λ stack marks containers.
    none_begins c.args.self.now _ c.args.octet _ stack marks containers c.in-None.ensures c.refused.ensures (record { tip = refl; inner = refl; outer = refl })

pub returns-in-Some-2-clause-step : goal.returns-in-Some-2-clause-step
returns-in-Some-2-clause-step c = λ stack marks containers. some_begins c.args.self.now _ c.args.octet c.in-Some.field-0 stack marks containers c.in-Some.ensures c.if-self.false refl refl refl
