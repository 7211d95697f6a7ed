use Rattle.std.proofs.Common.{List, ℕ, ◌++◌, ◌∙◌, ap, sym, subst}
use Rattle.std.specs.Prelude.{OnErr, OnOk}
use Rattle.krb_choosing.specs.inner.Chooser.{Begins, Moves}
use Rattle.krb_choosing.proofs.Chosen.{by-rows, by-whole, is-chosen, kept-as, not-chosen, rows-of}
use Rattle.krb_choosing.proofs.Writes.{move-none, move-put}
use Rattle.krb_choosing.proofs.choosing.Chooser.put_chosen.Goals as goal

pub returns-then-not-is_kept-clause-moved : goal.returns-then-not-is_kept-clause-moved
returns-then-not-is_kept-clause-moved g c =
    let self = c.args.self.now in let text = c.args.text.now in
    let kept = kept-as self.choice.now self.goes_on text c.args.«record».now c.is_last.result c.is_kept-is_kept.result c.requires (c.is_last.ensures text c.requires) c.is_kept-is_kept.ensures in
    let b = g.W.Write.contents c.args.writer.now in
    subst (λ (t : List ℕ). Moves b b self.out.items self.out.items t) (sym (not-chosen self.choice.now self.goes_on text (sym kept ∙ c.if-not-is_kept.true))) (move-none b self.out.items)

pub returns-then-has_rows-clause-moved : goal.returns-then-has_rows-clause-moved
returns-then-has_rows-clause-moved g c =
    let self = c.args.self.now in let text = c.args.text.now in
    let kept = kept-as self.choice.now self.goes_on text c.args.«record».now c.is_last.result c.is_kept-is_kept.result c.requires (c.is_last.ensures text c.requires) c.is_kept-is_kept.ensures in
    let e = rows-of self.choice.now text c.args.«record».now c.requires ∙ sym (by-rows self.choice.now.print text (sym c.has_rows.ensures ∙ c.if-has_rows.true)) ∙ sym (is-chosen self.choice.now self.goes_on text (sym kept ∙ c.if-not-is_kept.false)) in
    subst (λ (t : List ℕ). OnOk c.put_rows.result (Moves (g.W.Write.contents c.args.writer.now) (g.W.Write.contents c.put_rows.new.writer) self.out.items c.put_rows.new.out.items t)) e c.put_rows.ensures.moved

pub returns-then-has_rows-clause-first : goal.returns-then-has_rows-clause-first
returns-then-has_rows-clause-first g c =
    let self = c.args.self.now in let text = c.args.text.now in
    let kept = kept-as self.choice.now self.goes_on text c.args.«record».now c.is_last.result c.is_kept-is_kept.result c.requires (c.is_last.ensures text c.requires) c.is_kept-is_kept.ensures in
    let e = rows-of self.choice.now text c.args.«record».now c.requires ∙ sym (by-rows self.choice.now.print text (sym c.has_rows.ensures ∙ c.if-has_rows.true)) ∙ sym (is-chosen self.choice.now self.goes_on text (sym kept ∙ c.if-not-is_kept.false)) in
    subst (λ (t : List ℕ). OnErr c.put_rows.result (Begins (g.W.Write.contents c.args.writer.now) (g.W.Write.contents c.put_rows.new.writer) (self.out.items ++ t))) e c.put_rows.ensures.first

pub returns-in_ok-put_whole-clause-moved : goal.returns-in_ok-put_whole-clause-moved
returns-in_ok-put_whole-clause-moved g c =
    let self = c.args.self.now in let text = c.args.text.now in
    let kept = kept-as self.choice.now self.goes_on text c.args.«record».now c.is_last.result c.is_kept-is_kept.result c.requires (c.is_last.ensures text c.requires) c.is_kept-is_kept.ensures in
    let e = sym (by-whole self.choice.now.print text (sym c.has_rows.ensures ∙ c.if-has_rows.false)) ∙ sym (is-chosen self.choice.now self.goes_on text (sym kept ∙ c.if-not-is_kept.false)) in
    move-put (g.W.Write.contents c.args.writer.now) self.out.items c.put_whole.new.out.items _ (c.in_ok-put_whole.ensures ∙ ap (λ t. self.out.items ++ t) e)
