use Rattle.std.proofs.Common.{List, ℕ, ◌++◌, refl, sym, subst}
use Rattle.krb_flow.specs.Directions.{deliver}
use Rattle.krb_flow.specs.Window.{Keeps}
use Rattle.krb_flow.specs.declared.direction.Direction.{Direction}
use Rattle.krb_flow.specs.declared.direction.State.TheVariants as states
use Rattle.krb_flow.proofs.Keeping.{goes, keeps_ended, keeps_more}
use Rattle.krb_flow.proofs.direction.Direction.go_on.Goals as goal

pub returns-then-is_over-clause-keeps : goal.returns-then-is_over-clause-keeps
returns-then-is_over-clause-keeps c = λ stream k.
    let open_one : Direction = record { state = states.Open c.take_and_keep.new.stream; window = c.take_and_keep.new.window } in
    let ended_one : Direction = record { state = states.Ended c.had-then-is_over.result; window = c.end.new.self } in
    let more : List ℕ = (deliver c.in-Open.stream c.args.segment.now).0 in
    subst (λ (l : List ℕ). Keeps ended_one (stream ++ l)) (sym (goes c.args.self.now.state c.in-Open.stream c.args.segment.now c.in-Open.is))
    (keeps_ended open_one ended_one c.had-then-is_over.result (stream ++ more) refl c.end.ensures.most c.end.ensures.octets
    (keeps_more c.args.self.now open_one c.in-Open.stream c.take_and_keep.new.stream stream more c.in-Open.is refl c.in-Ok.ensures.most c.in-Ok.ensures.kept k))

pub returns-else-is_over-clause-keeps : goal.returns-else-is_over-clause-keeps
returns-else-is_over-clause-keeps c = λ stream k.
    let open_one : Direction = record { state = states.Open c.take_and_keep.new.stream; window = c.take_and_keep.new.window } in
    let more : List ℕ = (deliver c.in-Open.stream c.args.segment.now).0 in
    subst (λ (l : List ℕ). Keeps open_one (stream ++ l)) (sym (goes c.args.self.now.state c.in-Open.stream c.args.segment.now c.in-Open.is))
    (keeps_more c.args.self.now open_one c.in-Open.stream c.take_and_keep.new.stream stream more c.in-Open.is refl c.in-Ok.ensures.most c.in-Ok.ensures.kept k)
