use Rattle.krb_record.proofs.JsonStrings.{quoted_object}
use Rattle.krb_record.proofs.json.put_shown.Goals as goal

pub returns : goal.returns
returns c = rw (quoted_object c.args.octets.now) c.put_each_octet.ensures
