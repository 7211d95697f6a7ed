use Rattle.std.proofs.Common.{sym, ◌∙◌, ap, ap₂, take}
use Rattle.std.proofs.lemmas.Result.{IfOk-weaker}
use Rattle.krb_der.specs.Octets.{number}
use Rattle.krb_judge.specs.Paths.{message_path}
use Rattle.krb_record.specs.Refusals.{known_path}
use Rattle.krb_tool.specs.Paths.{frame_path}
use Rattle.krb_tool.proofs.fault_path.frame_path.Goals as goal

pub returns-in-None : goal.returns-in-None
unfolding frame_path
returns-in-None c = ap (known_path c.args.form) (sym (ap (message_path c.args.profile (number (take 4 c.args.decoder.now.octets))) c.in-None.ensures))

pub returns-in-Some : goal.returns-in-Some
unfolding frame_path
returns-in-Some c =
    IfOk-weaker c.shown_path.result _ _ (λ path e. e ∙ ap (known_path c.args.form) (ap₂ (message_path c.args.profile) c.in-Some.ensures.announced c.in-Some.ensures.kept)) c.shown_path.ensures
