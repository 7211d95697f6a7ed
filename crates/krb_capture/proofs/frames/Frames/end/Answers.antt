use Rattle.std.proofs.Common.{sym, ◌∙◌, ap}
use Rattle.std.proofs.lemmas.Result.{on_ok_weaker}
use Rattle.krb_capture.specs.Found.{with_all}
use Rattle.krb_capture.specs.Streams.{known_end}
use Rattle.krb_capture.specs.Taken.{kept_in, offset_in, service_of}
use Rattle.krb_capture.proofs.Ends.{end-known, end-over}
use Rattle.krb_capture.proofs.frames.Frames.end.Goals as goal

pub returns-then-is_over : goal.returns-then-is_over
returns-then-is_over c = end-over c.args.self.now c.args.origin.now c.args.end c.args.listing.now (sym c.is_over.ensures ∙ c.if-is_over.true)

pub returns-in-Lost : goal.returns-in-Lost
returns-in-Lost c =
    on_ok_weaker c.list_lost.result
    (λ l. end-known c.args.self.now c.args.origin.now c.args.end c.args.listing.now c.list_lost.new.listing (sym c.is_over.ensures ∙ c.if-is_over.false)
    (λ limit stream t. l ∙ ap (λ e. with_all c.args.origin.now (known_end (service_of c.args.self.now) e (offset_in c.args.self.now) (kept_in c.args.self.now)) c.args.listing.now) (sym c.in-Lost.is)))
    c.list_lost.ensures

pub returns-in-Complete : goal.returns-in-Complete
returns-in-Complete c =
    on_ok_weaker c.list_cut.result
    (λ l. end-known c.args.self.now c.args.origin.now c.args.end c.args.listing.now c.list_cut.new.listing (sym c.is_over.ensures ∙ c.if-is_over.false)
    (λ limit stream t. l limit stream t (sym c.is_over.ensures ∙ c.if-is_over.false) ∙ ap (λ e. with_all c.args.origin.now (known_end (service_of c.args.self.now) e (offset_in c.args.self.now) (kept_in c.args.self.now)) c.args.listing.now) (sym c.in-Complete.is)))
    c.list_cut.ensures
