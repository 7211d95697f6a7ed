use Rattle.std.proofs.Common.{◌≡◌, ℕ, List, ◌++◌, length}
use Rattle.krb_choosing.specs.inner.Chooser.{Takes}
use Rattle.krb_choosing.proofs.choosing.Chooser.take_all.Given as goal

-- the octets so far were taken
abbrev pub invariant-records : goal.invariant-records
invariant-records g l = record {
  done : List ℕ;
  parts : l.buffer ≡ done ++ l.rest;
  taken : Takes l.initial.self.choice.now l.initial.self.goes_on done (g.W.Write.contents l.initial.writer) (g.W.Write.contents l.writer) l.initial.self.out.items l.self.out.items l.initial.self.begun.items l.self.begun.items l.initial.self.told.items l.self.told.items;
  same_choice : l.self.choice.now ≡ l.initial.self.choice.now;
  same_goes_on : l.self.goes_on ≡ l.initial.self.goes_on;
}

abbrev pub decreases-records : goal.decreases-records
decreases-records g l = length l.rest
