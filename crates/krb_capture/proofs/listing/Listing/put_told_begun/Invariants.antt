use Rattle.std.proofs.Common.{◌≡◌, length}
use Rattle.krb_capture.specs.Found.{Begun, with_found}
use Rattle.krb_capture.specs.Told.{begun_news}
use Rattle.krb_capture.proofs.listing.Listing.put_told_begun.Given as goal

abbrev pub invariant-loop-news : goal.invariant-loop-news
invariant-loop-news l = with_found l.origin Begun l.self ≡ with_found l.origin Begun l.initial.self

abbrev pub decreases-loop-news : goal.decreases-loop-news
decreases-loop-news l = length (begun_news l.origin l.self.happened)
