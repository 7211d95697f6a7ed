use Rattle.std.proofs.Common.{rules, ◌≡◌, ◌∙◌, ◌++◌, ℕ, List, true, drop, subst, sym, take, take-append-drop}
use Rattle.krb_decode.specs.inner.Sorter.{IsLine, Sorts}
use Rattle.krb_decode.proofs.Sorters.{sorts-begun, sorts-same, sorts-told}
use Rattle.krb_decode.proofs.sorting.Sorter.take_told.Goals as goal

pub returns-then-is_err-clause-sorts : goal.returns-then-is_err-clause-sorts
returns-then-is_err-clause-sorts g c = λ before now given s.
    let self = c.args.self.now in
    let same : c.extend_from_slice.new.self.items ≡ self.begun.items = search rules in
    sorts-same (g.T.Tell.IsTold c.args.teller.now) before now given self.is_within self.begun.items c.extend_from_slice.new.self.items self.has_told same s

pub returns-then-has_ended-clause-sorts : goal.returns-then-has_ended-clause-sorts
returns-then-has_ended-clause-sorts g c = λ before now given s.
    let self = c.args.self.now in let text = c.args.text.now in let size = c.line_size-size.result.0 in let IsTold = g.T.Tell.IsTold c.args.teller.now in
    let grown : c.extend_from_slice.new.self.items ≡ self.begun.items ++ take size text = search rules in
    let line = subst (λ b. IsLine b (take size text)) c.if-has_ended.true c.line_size-size.ensures.line in
    let sorted = sorts-told IsTold before now given self.is_within self.begun.items self.has_told s text (take size text) (drop size text) (sym (take-append-drop size text)) c.requires line (subst IsTold (c.as_slice.ensures.value ∙ grown) c.tell.ensures) in
    subst (λ (begun : List ℕ). Sorts IsTold before now (given ++ take size text) self.is_within begun true) (sym c.clear.ensures.items) sorted

pub returns-else-has_ended-clause-sorts : goal.returns-else-has_ended-clause-sorts
returns-else-has_ended-clause-sorts g c = λ before now given s.
    let self = c.args.self.now in let text = c.args.text.now in let size = c.line_size-size.result.0 in let IsTold = g.T.Tell.IsTold c.args.teller.now in
    let grown : c.extend_from_slice.new.self.items ≡ self.begun.items ++ take size text = search rules in
    let line = subst (λ b. IsLine b (take size text)) c.if-has_ended.false c.line_size-size.ensures.line in
    let sorted = sorts-begun IsTold before now given self.is_within self.begun.items self.has_told s text (take size text) (drop size text) (sym (take-append-drop size text)) c.requires line in
    subst (λ (begun : List ℕ). Sorts IsTold before now (given ++ take size text) self.is_within begun self.has_told) (sym grown) sorted
