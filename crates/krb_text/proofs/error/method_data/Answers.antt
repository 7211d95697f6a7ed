use Rattle.krb_text.proofs.Judged.{match_as}
use Rattle.krb_text.proofs.error.method_data.Goals as goal

pub returns : goal.returns
returns c = match_as c.view_judged.result (λ none. none) (λ items seen. (seen.1, seen.0)) c.view_judged.ensures
