use Rattle.std.proofs.Common.{◌∙◌}
use Rattle.krb_capture.proofs.Telling.{begun-none}
use Rattle.krb_capture.proofs.listing.Listing.put_told_begun.Goals as goal

pub returns : goal.returns
returns c = begun-none c.args.origin.now c.loop-news.self c.next_begun.new.self c.in_default.ensures ∙ c.loop-news.invariant
