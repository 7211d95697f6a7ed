use Rattle.std.proofs.lemmas.Result.{IfOk-weaker}
use Rattle.krb_capture.proofs.Parts.{parts_listed}
use Rattle.krb_capture.proofs.password.list_parts.Goals as goal

pub returns : goal.returns
returns c =
    IfOk-weaker c.list_part-2.result _ _ (λ _ e. parts_listed c.args.profile c.args.extent c.args.origin.now c.args.before c.args.octets.now _ _ _ c.args.header _ _ c.args.listing.now _ _ c.list_part-2.new.listing c.from.ensures c.from-2.ensures c.split_at.ensures.back c.split_at-2.ensures.front c.split_at-2.ensures.back c.in_ok-put_password.ensures c.in_ok-list_part.ensures e) c.list_part-2.ensures
