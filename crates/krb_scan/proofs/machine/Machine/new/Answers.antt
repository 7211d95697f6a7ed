use Rattle.std.proofs.Common.{[], refl}
use Rattle.krb_der.specs.declared.verdict.Verdict.TheVariants as verdict
use Rattle.krb_msg.specs.Grammar.{messages}
use Rattle.krb_scan.proofs.Levels.{messages_shallow}
use Rattle.krb_scan.proofs.ScannerSteps.{some_at}
use Rattle.krb_scan.proofs.machine.Machine.new.Goals as goal

pub invariant_of-result : goal.invariant_of-result
invariant_of-result c = record { reached = some_at c.new.result verdict.Open c.args.n [] (c.new.ensures (messages c.args.profile) (messages_shallow c.args.profile) refl) }

pub returns-clause-at : goal.returns-clause-at
returns-clause-at c = c.new.ensures (messages c.args.profile) (messages_shallow c.args.profile) refl
