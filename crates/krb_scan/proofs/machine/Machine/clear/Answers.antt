use Rattle.std.proofs.Common.{[], refl}
use Rattle.krb_der.specs.declared.verdict.Verdict.TheVariants as verdict
use Rattle.krb_msg.specs.Grammar.{messages}
use Rattle.krb_scan.proofs.Levels.{messages_shallow}
use Rattle.krb_scan.proofs.ScannerSteps.{some_at}
use Rattle.krb_scan.proofs.machine.Machine.clear.Goals as goal

pub invariant_of-self : goal.invariant_of-self
invariant_of-self c = record { reached = some_at c.clear.new.self verdict.Open c.args.n [] (c.clear.ensures (messages c.args.self.now.profile) (messages_shallow c.args.self.now.profile) refl) }

pub returns-clause-at : goal.returns-clause-at
returns-clause-at c = c.clear.ensures (messages c.args.self.now.profile) (messages_shallow c.args.self.now.profile) refl
