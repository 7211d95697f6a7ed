use Rattle.std.proofs.Common.{◌≡◌, IfNone, map, rules, subst}
use Rattle.krb_record.specs.declared.form.Form.TheVariants as forms
use Rattle.krb_words.specs.Chosen.{HaveNone, error_text, objects_text}
use Rattle.krb_words.specs.inner.Options.{options_of}
use Rattle.krb_words.proofs.Said.{objects_said, said_by}
use Rattle.krb_words.proofs.choice.chosen_by_names.Goals as goal

pub returns-then-eq-clause-fault : goal.returns-then-eq-clause-fault
returns-then-eq-clause-fault c =
    let json : c.args.options.now.form ≡ forms.Json = search rules in
    said_by c.fault_of.result (λ error. error ≡ error_text objects_text) _
    (λ error is. (
      objects_text,
      objects_said (λ kinds. map (λ kind. kind.now) kinds.items) (options_of c.args.options.now) c.args.kinds c.args.words.now c.in_ok-names.names.items c.in_ok-names.ensures.names
          (subst (λ names. IfNone c.args.kinds (HaveNone c.args.options.now.listings.now names → ⊥)) c.as_slice.ensures.value c.in_ok-choice.ensures.some) json,
      is,
    ))
    c.fault_of.ensures
