use Rattle.std.proofs.Common.{◌∷◌, [], refl}
use Rattle.std.proofs.lemmas.Result.{IfOk-weaker}
use Rattle.krb_text.proofs.Parts.{tells_both, tells_one}
use Rattle.krb_text.proofs.error_data.put_typed.Goals as goal

pub returns : goal.returns
returns c =
    IfOk-weaker c.put_typed_items.result _ _ (λ told items. tells_both (_ ∷ []) _ (tells_one c.args.form _ 0 c.args.text.now refl c.in_ok-put_types_part.ensures) items) c.put_typed_items.ensures
