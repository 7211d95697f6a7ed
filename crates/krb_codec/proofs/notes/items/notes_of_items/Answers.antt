use Rattle.std.proofs.Common.{sym, ◌∙◌, ap, arith}
use Rattle.std.specs.List.{list_any}
use Rattle.std.proofs.lemmas.List.{take_all}
use Rattle.krb_msg.specs.Notes.{has}
use Rattle.krb_msg.proofs.Noted.{same_notes, any-map}
use Rattle.krb_codec.proofs.notes.items.notes_of_items.Goals as goal

pub returns : goal.returns
returns g c =
    let all = take_all c.loop-value.value-index c.as_slice-value-items.result.now (omega (arith, c.loop-value-test.false)) ∙ c.as_slice-value-items.ensures in
    c.loop-value.invariant
    ∙ same_notes (λ note. ap (list_any (λ value. has note g.T.Item.term (g.T.Item.value value))) all ∙ sym (any-map (has note g.T.Item.term) g.T.Item.value c.args.values.now))
