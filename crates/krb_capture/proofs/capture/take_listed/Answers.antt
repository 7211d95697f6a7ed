use Rattle.std.proofs.lemmas.Result.{IfOk-weaker}
use Rattle.krb_record.specs.declared.flow.Transport.TheVariants as transports
use Rattle.krb_capture.specs.Captures.{Finding, header_of}
use Rattle.krb_capture.specs.Flows.{origin_of}
use Rattle.krb_capture.specs.Found.{Sent}
use Rattle.krb_capture.proofs.Follows.{follows-one}
use Rattle.krb_capture.proofs.capture.take_listed.Goals as goal

pub returns : goal.returns
returns c = IfOk-weaker c.take.result _ _
    (λ rest k limit table h.
    let segment = c.args.segment.now in
    let first : Finding = (origin_of c.args.last transports.Tcp segment.source segment.target, Sent (header_of segment)) in
    follows-one c.take.new.self limit c.args.last _ rest first _ c.args.listing.now c.put_told.new.listing c.take.new.listing c.in_ok-put_told.ensures (k limit table h))
    c.take.ensures
