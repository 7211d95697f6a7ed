use Rattle.std.proofs.Common.{◌≡◌, ℕ, List, [], ◌∷◌, ◌++◌, ◌∙◌, ap, append_assoc, sym}
use Rattle.krb_choosing.specs.Listings.{chosen_of, told_of}
use Rattle.krb_choosing.specs.inner.Chooser.{Begins, Moves}
use Rattle.krb_choosing.proofs.Taken.{as-chosen, line-failed, rest-failed, takes-line, takes-rest}
use Rattle.krb_choosing.proofs.Writes.{begin-none, map-err, map-ok₂, on-err}
use Rattle.krb_choosing.proofs.choosing.Chooser.take_all.Goals as goal

pub returns-in_err-take_next-clause-first : goal.returns-in_err-take_next-clause-first
returns-in_err-take_next-clause-first g c =
    let self = c.args.self.now in let now = c.records.self in let i = c.records.invariant in
    let w₀ = g.W.Write.contents c.args.writer.now in let w₁ = g.W.Write.contents c.records.writer in let w₂ = g.W.Write.contents c.take_next.new.writer in
    let end = c.in-Some.end.now in let others = c.in-Some.others.now in
    on-err c.from_residual.result
    (line-failed self.choice.now self.goes_on w₀ w₁ w₂ self.out.items now.out.items [] self.begun.items now.begun.items [] self.told.items now.told.items [] i.done i.taken end others c.args.buffer.now c.in-Some.ensures.line
    (as-chosen self.choice.now now.choice.now self.goes_on now.goes_on (λ k b. Begins w₁ w₂ (now.out.items ++ chosen_of k b (now.begun.items ++ end))) i.same_choice i.same_goes_on c.in_err-take_next.ensures.first)
    (i.parts ∙ ap (λ (r : List ℕ). i.done ++ r) (sym c.in-Some.ensures.parts ∙ sym (append_assoc end (10 ∷ []) others)) ∙ sym (append_assoc i.done (end ++ 10 ∷ []) others)))

pub records-preserved : goal.records-preserved
records-preserved g c =
    let self = c.args.self.now in let now = c.records.self in let new = c.take_next.new.self in let i = c.records.invariant in
    let w₀ = g.W.Write.contents c.args.writer.now in let w₁ = g.W.Write.contents c.records.writer in let w₂ = g.W.Write.contents c.take_next.new.writer in
    let end = c.in-Some.end.now in let others = c.in-Some.others.now in
    record {
      done = i.done ++ (end ++ 10 ∷ []);
      parts = i.parts ∙ ap (λ (r : List ℕ). i.done ++ r) (sym c.in-Some.ensures.parts ∙ sym (append_assoc end (10 ∷ []) others)) ∙ sym (append_assoc i.done (end ++ 10 ∷ []) others);
      taken = takes-line self.choice.now self.goes_on w₀ w₁ w₂ self.out.items now.out.items new.out.items self.begun.items now.begun.items new.begun.items self.told.items now.told.items new.told.items i.done i.taken end c.in-Some.ensures.line
          (as-chosen self.choice.now now.choice.now self.goes_on now.goes_on (λ k b. Moves w₁ w₂ now.out.items new.out.items (chosen_of k b (now.begun.items ++ end))) i.same_choice i.same_goes_on c.in_ok-take_next.ensures.moved)
          c.in_ok-take_next.ensures.begun
          (as-chosen self.choice.now now.choice.now self.goes_on now.goes_on (λ k b. new.told.items ≡ told_of k b (now.begun.items ++ end)) i.same_choice i.same_goes_on c.in_ok-take_next.ensures.told);
      same_choice = c.take_next.ensures.same_choice ∙ i.same_choice;
      same_goes_on = c.take_next.ensures.same_goes_on ∙ i.same_goes_on;
    }

pub returns-in_err-extend_from_slice-clause-first : goal.returns-in_err-extend_from_slice-clause-first
returns-in_err-extend_from_slice-clause-first g c =
    let self = c.args.self.now in let now = c.records.self in let i = c.records.invariant in
    let w₀ = g.W.Write.contents c.args.writer.now in let w₁ = g.W.Write.contents c.records.writer in
    on-err c.from_residual-in_err-extend_from_slice.result
    (rest-failed self.choice.now self.goes_on w₀ w₁ w₁ self.out.items now.out.items [] self.begun.items now.begun.items [] self.told.items now.told.items [] i.done i.taken c.records.rest.now c.args.buffer.now i.parts (begin-none w₁ now.out.items))

pub returns-clause-taken : goal.returns-clause-taken
returns-clause-taken g c =
    let self = c.args.self.now in let now = c.records.self in let i = c.records.invariant in
    let w₀ = g.W.Write.contents c.args.writer.now in let w₁ = g.W.Write.contents c.records.writer in let w₂ = g.W.Write.contents c.write_out.new.writer in
    map-ok₂ c.write_out.result
    (takes-rest self.choice.now self.goes_on w₀ w₁ w₂ self.out.items now.out.items c.write_out.new.out.items self.begun.items now.begun.items c.extend_from_slice.new.self.items self.told.items now.told.items [] i.done i.taken c.records.rest.now c.args.buffer.now c.in_default.ensures.none i.parts c.in_ok-extend_from_slice.ensures.items)
    c.write_out.ensures.all c.write_out.ensures.none

pub returns-clause-first : goal.returns-clause-first
returns-clause-first g c =
    let self = c.args.self.now in let now = c.records.self in let i = c.records.invariant in
    let w₀ = g.W.Write.contents c.args.writer.now in let w₁ = g.W.Write.contents c.records.writer in let w₂ = g.W.Write.contents c.write_out.new.writer in
    map-err c.write_out.result
    (rest-failed self.choice.now self.goes_on w₀ w₁ w₂ self.out.items now.out.items [] self.begun.items now.begun.items [] self.told.items now.told.items [] i.done i.taken c.records.rest.now c.args.buffer.now i.parts)
    c.write_out.ensures.first
