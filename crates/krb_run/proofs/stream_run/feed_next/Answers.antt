use Rattle.std.proofs.Common.{◌≡◌, [], take, ap, arith, rules}
use Rattle.std.proofs.lemmas.Result.{IfOk-weaker}
use Rattle.krb_run.proofs.StreamRuns.{Reads-fed, Reads-end, FailsToRead-counted, FailsToRead-fed}
use Rattle.krb_run.proofs.stream_run.feed_next.Goals as goal

pub returns-in_err-count-clause-fault : goal.returns-in_err-count-clause-fault
returns-in_err-count-clause-fault g c = FailsToRead-counted _ g.L.ListStream.rules _ _ _ _ (search rules) c.in_err-count.ensures.kept c.requires.none

pub returns-then-count-eq0-clause-fed : goal.returns-then-count-eq0-clause-fed
returns-then-count-eq0-clause-fed g c =
    let none : take c.in_ok-count.count c.read.new.buffer ≡ [] = ap (λ n. take n c.read.new.buffer) c.if-count-eq0.true in
    Reads-end g.L.ListStream.rules _ _ _ _ _ _ _ c.in_ok-count.ensures.given c.in_ok-count.ensures.counted none (omega arith)

pub returns-clause-fed : goal.returns-clause-fed
returns-clause-fed g c = IfOk-weaker c.feed.result _ _ (λ goes_on fed. Reads-fed g.L.ListStream.rules _ _ _ _ _ _ _ c.in_ok-count.ensures.given c.in_ok-count.ensures.counted _ goes_on fed) c.feed.ensures.fed

pub returns-clause-fault : goal.returns-clause-fault
returns-clause-fault g c = FailsToRead-fed g.L.ListStream.rules _ _ _ _ _ _ _ c.in_ok-count.ensures.given c.in_ok-count.ensures.counted c.feed.result c.feed.ensures.fault
