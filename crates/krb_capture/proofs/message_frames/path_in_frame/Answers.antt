use Rattle.std.proofs.Common.{sym, ap}
use Rattle.krb_record.specs.Refusals.{path_in}
use Rattle.krb_capture.proofs.Found.{no_path}
use Rattle.krb_capture.proofs.message_frames.path_in_frame.Goals as goal

pub returns-in-None : goal.returns-in-None
returns-in-None c = ap (path_in c.args.form) (sym (no_path c.args.profile c.args.decoder.now.octets c.in-None.ensures))
