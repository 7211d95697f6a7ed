use Rattle.std.proofs.lemmas.Result.{on_ok_weaker}
use Rattle.krb_capture.proofs.Ends.{cut-listed, no_cut-listed}
use Rattle.krb_capture.proofs.frames.Frames.list_cut.Goals as goal

pub returns-in_default-finish : goal.returns-in_default-finish
returns-in_default-finish c = no_cut-listed c.args.self.now c.in-Passwords.frames c.finish-in-Passwords.result c.args.origin.now c.args.listing.now c.in-Passwords.is c.in_default-finish.not-Some c.finish-in-Passwords.ensures

pub returns-in-Some-finish : goal.returns-in-Some-finish
returns-in-Some-finish c =
    on_ok_weaker c.put_refusal-in-Passwords.result
    (cut-listed c.args.self.now c.in-Passwords.frames c.finish-in-Passwords.result c.in-Some-finish.refusal _ _ c.args.origin.now c.args.listing.now c.put_refusal-in-Passwords.new.self c.in-Passwords.is c.in-Some-finish.is c.path-in-Passwords.ensures c.extent-in-Passwords.ensures c.finish-in-Passwords.ensures)
    c.put_refusal-in-Passwords.ensures
