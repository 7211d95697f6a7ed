use Rattle.std.proofs.Common.{◌∷◌, [], refl, w64, FitsSigned, rules}
use Rattle.std.proofs.lemmas.Int.{to_z-of_z}
use Rattle.std.proofs.lemmas.Result.{IfOk-weaker}
use Rattle.krb_text.proofs.Parts.{tells_both, tells_one}
use Rattle.krb_text.proofs.error_data.put_error_data.Goals as goal

pub returns : goal.returns
returns c =
    let fits : FitsSigned w64 c.args.seen.now.data_type = search rules in
    IfOk-weaker c.put_optional_ext_error.result _ _
    (λ told ext_error. tells_both (_ ∷ []) _ (tells_one c.args.form _ 0 c.args.text.now refl c.in_ok-put_error_data_part.ensures) (rw (to_z-of_z w64 c.args.seen.now.data_type fits) at (rw c.ext_error_in-error.ensures at ext_error)))
    c.put_optional_ext_error.ensures
