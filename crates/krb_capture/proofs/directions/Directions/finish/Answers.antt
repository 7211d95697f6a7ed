use Rattle.std.proofs.Common.{◌≡◌, ℕ, subst}
use Rattle.krb_record.specs.declared.flow.Transport.TheVariants as transports
use Rattle.krb_capture.specs.Flows.{origin_of}
use Rattle.krb_capture.specs.Found.{with_all}
use Rattle.krb_capture.specs.Sending.{Sent, Represents, last_found}
use Rattle.krb_capture.specs.declared.sending.Sending.{Sending}
use Rattle.krb_capture.proofs.Tables.{EndsSome-next, EndsSome-start}
use Rattle.krb_capture.proofs.directions.Directions.finish.Goals as goal

pub loop-sending-init : goal.loop-sending-init
loop-sending-init c = EndsSome-start c.put_back.new.self c.args.due c.args.listing.now

pub loop-sending-preserved : goal.loop-sending-preserved
loop-sending-preserved c =
    EndsSome-next c.put_back.new.self c.loop-sending.self _ c.args.due c.args.listing.now c.loop-sending.listing c.finish.new.listing c.in-Some.field-0-0 c.in-Some.sending c.loop-sending.invariant c.in-Some.ensures.removal
    (subst (λ (x : Sending). (limit : ℕ) (sent : Sent) → Represents x limit sent → c.finish.new.listing ≡ with_all (origin_of c.args.due transports.Tcp x.flow.source x.flow.target) (last_found limit sent) c.loop-sending.listing) c.deref_mut.ensures.value c.in_ok-finish.ensures.found)
