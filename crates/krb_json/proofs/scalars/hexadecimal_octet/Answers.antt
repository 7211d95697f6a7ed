use Rattle.krb_json.proofs.Unshown.{two-digits}
use Rattle.krb_json.proofs.scalars.hexadecimal_octet.Goals as goal

pub returns-in-Ok : goal.returns-in-Ok
returns-in-Ok c = let h = two-digits c.args.high c.args.low c.decode_to_slice.result c.decode_to_slice.new.out c.decode_to_slice.ensures.value in rw c.in-Ok.is at h

pub returns-in-Err : goal.returns-in-Err
returns-in-Err c = let h = two-digits c.args.high c.args.low c.decode_to_slice.result c.decode_to_slice.new.out c.decode_to_slice.ensures.value in rw c.in-Err.is at h
