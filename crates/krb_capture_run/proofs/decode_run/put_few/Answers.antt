use Rattle.std.proofs.Common.{List, ℕ, ◌++◌, ◌∙◌, ap, append_assoc, codes, decimal}
use Rattle.std.proofs.lemmas.Result.{on_ok_weaker}
use Rattle.krb_capture_run.proofs.decode_run.put_few.Goals as goal

pub returns : goal.returns
returns c =
    let first : List ℕ = codes "packet " ++ decimal c.args.number ++ codes ": the capture has " in
    let last : List ℕ = decimal c.args.packets ++ codes "\n" in
    on_ok_weaker c.write-2.result (λ e. e ∙ ap (λ t. t ++ last) c.in_ok-write.ensures ∙ append_assoc c.args.text.now first last) c.write-2.ensures
