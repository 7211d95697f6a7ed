use Rattle.krb_msg.specs.Grammar.{messages}
use Rattle.krb_scan.specs.Machine.{ledger_of, profile_of}
use Rattle.std.specs.Prelude.{vec_capacity}
use Rattle.std.proofs.Common.{◌≡◌, ◌≤◌, ◌⊎◌, [], length, refl, sym, ◌∙◌, ap, subst}
use Rattle.krb_frame.specs.Decoding.{Decoding, decoding_of}
use Rattle.krb_frame.specs.inner.Phases.{IsPhaseOf}
use Rattle.krb_frame.specs.declared.decoder.Phase.TheVariants as phase
use Rattle.krb_frame.specs.declared.decoder.Status.TheVariants as status
use Rattle.krb_frame.proofs.DecoderFrames.{taken-at, scanned-at}
use Rattle.krb_frame.proofs.Feeding.{Feeds-idle, Feeds-contents, none-fed}
use Rattle.krb_frame.proofs.decoder.Decoder.feed_contents.Goals as goal

pub returns-in-Length : goal.returns-in-Length
returns-in-Length c =
    let d = c.self.inside in
    let h = subst (IsPhaseOf (messages (profile_of d.machine)) d.limit d.length d.contents.items) c.in-Length.is c.self.invariant.0 in
    let four = subst (λ (q : Decoding). (c.args.piece.now ≡ []) ⊎ (4 ≤ length q.octets)) (sym c.self.view_is ∙ ap (λ p. decoding_of (profile_of d.machine) d.limit (ledger_of d.machine) (vec_capacity d.contents) d.length d.contents.items p) c.in-Length.is) c.requires in
    rw (c.answer.ensures, ← c.self.view_is) (Feeds-idle (messages (profile_of d.machine)) (profile_of d.machine) d.limit (ledger_of d.machine) (vec_capacity d.contents) d.length d.contents.items c.args.piece.now d.phase status.More c.self.invariant.0 (rw c.in-Length.is refl) (λ e. none-fed d.length d.contents.items c.args.piece.now c.in-Length.field-0 h four) (λ e. cc))

pub returns-in-Ready : goal.returns-in-Ready
returns-in-Ready c =
    let d = c.self.inside in
    rw (c.answer-in-Ready.ensures, ← c.self.view_is) (Feeds-idle (messages (profile_of d.machine)) (profile_of d.machine) d.limit (ledger_of d.machine) (vec_capacity d.contents) d.length d.contents.items c.args.piece.now d.phase status.Ready c.self.invariant.0 (rw c.in-Ready.is refl) (λ e. absurd cc) (λ e. cc))

pub returns-in-Refused : goal.returns-in-Refused
returns-in-Refused c =
    let d = c.self.inside in
    rw (c.answer-in-Refused.ensures, ← c.self.view_is) (Feeds-idle (messages (profile_of d.machine)) (profile_of d.machine) d.limit (ledger_of d.machine) (vec_capacity d.contents) d.length d.contents.items c.args.piece.now d.phase (status.Refused c.in-Refused.refusal) c.self.invariant.0 (rw c.in-Refused.is refl) (λ e. absurd cc) (λ e. cc))

pub invariant_of-self : goal.invariant_of-self
invariant_of-self c =
    let d = c.self.inside in
    let h = subst (IsPhaseOf (messages (profile_of d.machine)) d.limit d.length d.contents.items) c.in-Contents.is c.self.invariant.0 in
    let t = c.take_contents-fed.ensures in
    rw (c.phase_after-self-inside.ensures, t.profile) (
      taken-at (messages (profile_of d.machine)) (profile_of d.machine) d.limit d.length d.contents.items c.args.piece.now c.take_contents-fed.new.contents.items c.in-Contents.size c.take_contents-fed.result.used c.take_contents-fed.result.status h t.taken,
      scanned-at (messages (profile_of d.machine)) (profile_of d.machine) d.limit d.length d.contents.items c.args.piece.now c.take_contents-fed.new.contents.items c.in-Contents.size c.take_contents-fed.result.used c.take_contents-fed.result.status c.take_contents-fed.new.machine h t.taken t.scanned,
    )

pub returns : goal.returns
returns c =
    let d = c.self.inside in
    let h = subst (IsPhaseOf (messages (profile_of d.machine)) d.limit d.length d.contents.items) c.in-Contents.is c.self.invariant.0 in
    let t = c.take_contents-fed.ensures in
    let made = vec_capacity c.take_contents-fed.new.contents in
    let f = Feeds-contents (messages (profile_of d.machine)) (profile_of d.machine) d.limit (ledger_of d.machine) (ledger_of c.take_contents-fed.new.machine) (vec_capacity d.contents) made d.length d.contents.items c.args.piece.now c.take_contents-fed.new.contents.items c.in-Contents.size c.phase_after-self-inside.result c.take_contents-fed.result h t.taken t.looks t.capacity t.enough c.phase_after-self-inside.ensures in
    let old : decoding_of (profile_of d.machine) d.limit (ledger_of d.machine) (vec_capacity d.contents) d.length d.contents.items (phase.Contents c.in-Contents.size) ≡ c.args.self.now = ap (λ p. decoding_of (profile_of d.machine) d.limit (ledger_of d.machine) (vec_capacity d.contents) d.length d.contents.items p) (sym c.in-Contents.is) ∙ c.self.view_is in
    rw (t.profile, ← old) f
