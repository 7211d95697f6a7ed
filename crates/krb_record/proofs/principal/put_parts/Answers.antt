use Rattle.std.proofs.Common.{append_assoc}
use Rattle.krb_record.proofs.principal.put_parts.Goals as goal

pub returns : goal.returns
returns g c = simp append_assoc (simp append_assoc at (rw (c.in_ok-put_octets_string.ensures, c.in_ok-push_str-2.ensures, c.in_ok-put_components.ensures, c.in_ok-push_str.ensures) at c.push_str-3.ensures))
