use Rattle.std.proofs.Common.{◌≡◌, ℕ, List, inl, refl, subst, ap, ◌∙◌}
use Rattle.krb_input.specs.Hints.{hint_for}
use Rattle.krb_input.specs.declared.source_kind.SourceKind.TheVariants as kind
use Rattle.krb_run.specs.Begun.{begun_remaining, first_of}
use Rattle.krb_run.specs.declared.run.RunEnd.TheVariants as run
use Rattle.std.specs.Prelude.{Ok}
use Rattle.krbls.specs.Commands.{TellsSaid}
use Rattle.krbls.specs.Program.{IsHinted}
use Rattle.krbls.proofs.Hinted.{hinted-after}
use Rattle.krbls.proofs.lister.Lister.decode_input.Goals as goal
use Rattle.krbls.proofs.lister.Lister.decode_input.Goals.{then-eq+in_ok-tell_hint, else-eq}

pub returns : goal.returns
returns g c =
    let around = g.H.Host.around c.args.self.now.host.now in
    let told : c.in_ok-end.end.end ≡ run.RefusedAtOnce → IsHinted around c.args.source.now c.args.self.now.command.now c.hint_of-hint.result = elim c.if-eq.branch [ then-eq+in_ok-tell_hint w ↦ λ _. w.in_ok-tell_hint.ensures | else-eq w ↦ λ e. absurd (let same = rw e at c.eq.ensures in let other = w.if-eq.false in cc) ] in
    record {
      left = begun_remaining g.R.Read.remaining c.run_decode_input.new.reader;
      result = Ok c.in_ok-end.end;
      decoded = c.in_ok-end.ensures.decoded;
      failed = tt;
      told = subst (λ (said : List ℕ). TellsSaid (around.IsEndTold c.args.source.now) said) c.as_slice.ensures.value c.tell_said.ensures;
      ends = inl refl;
      hinted = hinted-after around c.args.source.now c.args.self.now.command.now c.hint_of-hint.result (hint_for kind.Message (first_of c.args.reader.now)) c.in_ok-end.end.end (c.hint_of-hint.ensures ∙ ap (hint_for kind.Message) c.first.ensures) told;
    }
