use Rattle.krb_msg.specs.Grammar.{messages}
use Rattle.krb_scan.specs.Machine.{ledger_of, profile_of}
use Rattle.std.specs.Prelude.{vec_capacity}
use Rattle.std.proofs.Common.{◌≡◌, ◌+◌, [], refl, sym, ◌∙◌, ap, subst, arith}
use Rattle.krb_frame.specs.inner.Phases.{HasPartOfLength, IsPhaseOf}
use Rattle.krb_frame.specs.Decoding.{decoding_of, length_present}
use Rattle.krb_frame.specs.declared.decoder.Phase.TheVariants as phase
use Rattle.krb_frame.proofs.Feeding.{FeedsLength-none, FeedsLength-made}
use Rattle.krb_frame.proofs.decoder.Decoder.feed_length.Goals.{then-present-used-lt-LENGTH_OCTETS, else-present-used-lt-LENGTH_OCTETS}
use Rattle.krb_frame.proofs.decoder.Decoder.feed_length.Goals as goal

pub returns-in_default : goal.returns-in_default
returns-in_default c =
    let d = c.self.inside in
    rw (← c.self.view_is) (FeedsLength-none (messages (profile_of d.machine)) (profile_of d.machine) d.limit (ledger_of d.machine) (vec_capacity d.contents) d.length d.contents.items c.args.piece.now d.phase c.self.invariant.0 c.in_default.not-Length)

pub returns : goal.returns
returns c =
    let d = c.self.inside in
    let h = subst (IsPhaseOf (messages (profile_of d.machine)) d.limit d.length d.contents.items) c.in-Length.is c.self.invariant.0 in
    let old : decoding_of (profile_of d.machine) d.limit (ledger_of d.machine) (vec_capacity d.contents) d.length d.contents.items (phase.Length c.in-Length.present) ≡ c.args.self.now = ap (λ p. decoding_of (profile_of d.machine) d.limit (ledger_of d.machine) (vec_capacity d.contents) d.length d.contents.items p) (sym c.in-Length.is) ∙ c.self.view_is in
    let put = c.put_octets-used.ensures in
    let after = c.put_octets-used.new.length in
    let joined = c.if-present-used-lt-LENGTH_OCTETS in
    elim c.if-present-used-lt-LENGTH_OCTETS.branch [
      | then-present-used-lt-LENGTH_OCTETS w ↦
          let part : HasPartOfLength after d.contents.items (c.in-Length.present + c.put_octets-used.result) = record { four = c.put_octets-used.array_long; part = w.if-present-used-lt-LENGTH_OCTETS.true; none = h.none } in
          let at = subst (IsPhaseOf (messages (profile_of d.machine)) d.limit after d.contents.items) (sym w.self-is) part in
          rw (w.self-inside-is, ← old) (FeedsLength-made (messages (profile_of d.machine)) (profile_of d.machine) d.limit (ledger_of d.machine) (ledger_of d.machine) (vec_capacity d.contents) (vec_capacity d.contents) d.length d.contents.items c.args.piece.now after c.in-Length.present c.put_octets-used.result joined.self h put c.put_octets-used.array_long (ap length_present w.self-is) refl (omega arith) at)
      | else-present-used-lt-LENGTH_OCTETS w ↦
          let e = w.judge_length-self-inside.ensures in
          let at = subst (λ l. IsPhaseOf (messages (profile_of d.machine)) d.limit after l joined.self) (sym h.none) (subst (IsPhaseOf (messages (profile_of d.machine)) d.limit after []) (sym w.self-is) e.judged.at) in
          let all : 4 ≡ c.in-Length.present + c.put_octets-used.result = omega (arith, put.many, h.part, w.if-present-used-lt-LENGTH_OCTETS.false) in
          rw (w.self-inside-is, e.profile, ← old) (FeedsLength-made (messages (profile_of d.machine)) (profile_of d.machine) d.limit (ledger_of d.machine) (ledger_of w.judge_length-self-inside.new.machine) (vec_capacity d.contents) (vec_capacity d.contents) d.length d.contents.items c.args.piece.now after c.in-Length.present c.put_octets-used.result joined.self h put c.put_octets-used.array_long (ap length_present w.self-is ∙ e.judged.all ∙ all) e.looks (omega arith) at)
    ]
