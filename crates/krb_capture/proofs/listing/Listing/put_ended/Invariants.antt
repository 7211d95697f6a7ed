use Rattle.std.proofs.Common.{length}
use Rattle.krb_capture.specs.Flows.{moment_due}
use Rattle.krb_capture.specs.Told.{open_news}
use Rattle.krb_capture.proofs.Telling.{Ends}
use Rattle.krb_capture.proofs.listing.Listing.put_ended.Given as goal

abbrev pub invariant-loop-news : goal.invariant-loop-news
invariant-loop-news l = Ends (moment_due l.last) l.initial.self l.self

abbrev pub decreases-loop-news : goal.decreases-loop-news
decreases-loop-news l = length (open_news l.self.happened)
