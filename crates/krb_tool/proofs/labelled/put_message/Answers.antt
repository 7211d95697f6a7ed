use Rattle.std.proofs.Common.{◌≡◌, refl, ◌++◌, List, ℕ, length, take, ap, sym, subst, ◌∙◌, arith, length-append}
use Rattle.std.proofs.lemmas.List.{take_at}
use Rattle.std.specs.Str.{IsUtf8}
use Rattle.krb_msg.specs.Views.{message_of_der}
use Rattle.krb_record.proofs.Labels.{ends-after}
use Rattle.krb_record.specs.Labels.{begin_text}
use Rattle.krb_text.specs.Messages.{PutsMessage, message_line as unlabelled_line, shown_record}
use Rattle.krb_tool.specs.Listing.{message_line}
use Rattle.krb_tool.proofs.labelled.put_message.Goals as goal

-- the text is that before, and what its line has before a record
begun : (before begin after now : List ℕ) → now ≡ before ++ begin → after ≡ now → take (length before) after ≡ before
begun before begin after now b e = ap (take (length before)) (e ∙ b) ∙ take_at before begin (length before) refl

pub truncate-requires-clause-within : goal.truncate-requires-clause-within
truncate-requires-clause-within c =
    let put = subst (PutsMessage c.args.profile c.args.octets.now (unlabelled_line c.form.result) c.begin.new.text c.put_message_in.new.text) c.if-not-branch.true c.in_ok-put_message_in.ensures in
    omega (arith, c.size-size.ensures.many, ap length (put.1 ∙ c.in_ok-begin.ensures), length-append c.args.text.now (begin_text c.args.label.now))

pub truncate-requires-clause-before : goal.truncate-requires-clause-before
truncate-requires-clause-before c =
    let put = subst (PutsMessage c.args.profile c.args.octets.now (unlabelled_line c.form.result) c.begin.new.text c.put_message_in.new.text) c.if-not-branch.true c.in_ok-put_message_in.ensures in
    subst (λ n. IsUtf8 (take n c.put_message_in.new.text)) (sym c.size-size.ensures.many) (subst IsUtf8 (sym (begun c.args.text.now (begin_text c.args.label.now) c.put_message_in.new.text c.begin.new.text c.in_ok-begin.ensures put.1)) c.size-size.ensures.text)

pub returns-then-not-branch : goal.returns-then-not-branch
returns-then-not-branch c =
    let put = subst (PutsMessage c.args.profile c.args.octets.now (unlabelled_line c.form.result) c.begin.new.text c.put_message_in.new.text) c.if-not-branch.true c.in_ok-put_message_in.ensures in
    (put.0, c.truncate.ensures ∙ ap (λ n. take n c.put_message_in.new.text) c.size-size.ensures.many ∙ begun c.args.text.now (begin_text c.args.label.now) c.put_message_in.new.text c.begin.new.text c.in_ok-begin.ensures put.1)

pub returns : goal.returns
unfolding message_line unlabelled_line
returns c =
    let found = subst (PutsMessage c.args.profile c.args.octets.now (unlabelled_line c.form.result) c.begin.new.text c.put_message_in.new.text) c.if-not-branch.false c.in_ok-put_message_in.ensures in
    let put = rw c.form.ensures at found in
    (put.0, ends-after c.args.label.now c.args.text.now c.begin.new.text c.put_message_in.new.text c.end.new.text (shown_record c.args.label.now.form (message_of_der c.args.octets.now)) c.in_ok-end.ensures c.in_ok-begin.ensures put.1)
