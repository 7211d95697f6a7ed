use Rattle.std.proofs.Common.{min, length, ap, ◌∙◌, arith}
use Rattle.krb_msg.specs.Grammar.{messages}
use Rattle.krb_scan.specs.Runs.{string_left}
use Rattle.krb_scan.proofs.ScannerSteps.{is_path_of, some_path}
use Rattle.krb_scan.proofs.Running.{none_left, run_at, some_run}
use Rattle.krb_scan.proofs.machine.Machine.run.Goals as goal

pub run-count-requires : goal.run-count-requires
run-count-requires c = some_path c.args.self.now.path c.args.self.now.verdict c.args.self.now.reached c.in-Open.is

pub invariant_of-self : goal.invariant_of-self
invariant_of-self c = record { reached = some_run c.args.self.now.path c.run-count.new.self c.args.self.now.verdict c.run-count.result c.args.octets.now c.args.self.now.reached c.in-Open.is c.run-count.ensures.size c.run-count.ensures.goes }

pub returns-clause-at : goal.returns-clause-at
returns-clause-at c = λ profile n before at. run_at c.args.self.now.path c.run-count.new.self c.args.self.now.verdict n c.run-count.result before c.args.octets.now at c.in-Open.is c.run-count.ensures.size (c.run-count.ensures.goes (messages profile))

pub returns-clause-longest : goal.returns-clause-longest
returns-clause-longest c = λ profile n before at.
    c.run-count.ensures.longest (messages profile) before (is_path_of c.args.self.now.path c.args.self.now.verdict n before at c.in-Open.is) ∙ ap (λ k. min (length c.args.octets.now) (string_left (messages profile) k before)) at.size

pub returns-in_default-clause-longest : goal.returns-in_default-clause-longest
returns-in_default-clause-longest c = λ profile n before at. omega (arith, none_left c.args.self.now.path c.args.self.now.verdict n before at c.in_default.not-Open)
