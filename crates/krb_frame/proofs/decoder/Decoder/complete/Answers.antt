use Rattle.krb_msg.specs.Grammar.{messages}
use Rattle.krb_scan.specs.Machine.{ledger_of, profile_of}
use Rattle.std.specs.Prelude.{vec_capacity}
use Rattle.std.proofs.Common.{ℕ, ◌≡◌, ◌+◌, ◌-◌, ◌≤◌, ◌++◌, List, true, length, sym, ◌∙◌, ap, subst, arith, length-take}
use Rattle.krb_frame.specs.Decoding.{Decoding, decoding_of}
use Rattle.krb_frame.specs.Deliveries.{IsReceived}
use Rattle.krb_frame.specs.inner.Deliveries.{CompletesWith}
use Rattle.krb_frame.specs.inner.Phases.{HasPart, IsPhaseOf}
use Rattle.krb_frame.specs.declared.decoder.Phase.TheVariants as phase
use Rattle.krb_frame.proofs.Completing.{completes}
use Rattle.krb_frame.proofs.decoder.Decoder.complete.Goals as goal

pub returns : goal.returns
returns g c =
    let d = c.self.inside in
    let q = profile_of d.machine in
    let space : ℕ = vec_capacity d.contents in
    let items : List ℕ = d.contents.items in
    let h : HasPart (messages q) d.limit d.length items c.in-Contents.size = subst (IsPhaseOf (messages q) d.limit d.length items) c.in-Contents.is c.self.invariant.0 in
    let old : decoding_of q d.limit (ledger_of d.machine) space d.length items (phase.Contents c.in-Contents.size) ≡ c.args.self.now = ap (λ p. decoding_of q d.limit (ledger_of d.machine) space d.length items p) (sym c.in-Contents.is) ∙ c.self.view_is in
    let used : ℕ = c.in-Contents.size - c.len.result in
    let cut = c.in-Some.ensures.cases in
    let all : length items + used ≡ c.in-Contents.size = omega (arith, h.present) in
    let within : used ≤ length c.args.piece.now = omega (arith, cut.3, ap length cut.1, length-take used c.args.piece.now) in
    let delivered : IsReceived g.R.Receiver.Receives q (items ++ c.in-Some.octets.now) c.args.receiver.now c.deliver_contents.new.receiver true =
    subst (λ p. IsReceived g.R.Receiver.Receives p (items ++ c.in-Some.octets.now) c.args.receiver.now c.deliver_contents.new.receiver true) c.profile-profile.ensures
    (subst (IsReceived g.R.Receiver.Receives c.profile-profile.result (items ++ c.in-Some.octets.now) c.args.receiver.now c.deliver_contents.new.receiver) c.if-not-branch.false c.in_ok-deliver_contents.ensures.delivered) in
    let made : vec_capacity d.contents ≤ vec_capacity c.deliver_contents.new.contents = c.in_ok-deliver_contents.ensures.capacity in
    subst (λ o. CompletesWith g.R.Receiver.Receives (messages o.profile) o c.args.piece.now used c.forget.new.self c.args.receiver.now c.deliver_contents.new.receiver) old
    (completes g.R.Receiver.Receives q d.limit (ledger_of d.machine) space d.length items c.args.piece.now (items ++ c.in-Some.octets.now) c.in-Contents.size used c.forget.new.self h all within (ap (λ l. items ++ l) cut.1) delivered c.forget.ensures.left
    (λ n. omega (arith, (c.forget.ensures.ample (record { octets = omega (arith, n, made) })).octets, ap (λ (e : Decoding). e.limit) c.forget.ensures.left)))
