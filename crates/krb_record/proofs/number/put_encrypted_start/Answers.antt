use Rattle.std.proofs.Common.{◌≡◌, to_z, of_z, w64, rules}
use Rattle.krb_record.proofs.number.put_encrypted_start.Goals as goal

pub returns : goal.returns
returns c =
    let etype : to_z w64 (of_z w64 c.args.encrypted.now.etype) ≡ c.args.encrypted.now.etype = search rules in
    rw etype at (rw c.in_ok-put_number_and_name.ensures at c.put_kvno_member.ensures)
