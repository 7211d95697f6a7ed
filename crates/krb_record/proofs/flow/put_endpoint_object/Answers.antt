use Rattle.std.proofs.Common.{append_assoc}
use Rattle.krb_record.proofs.flow.put_endpoint_object.Goals as goal

pub returns : goal.returns
returns c = simp append_assoc (simp append_assoc at (rw (c.in_ok-put_address.ensures, c.in_ok-push_str.ensures) at c.put_port_end.ensures))
