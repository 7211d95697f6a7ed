use Rattle.std.proofs.Common.{nat_lt, length, ◌-◌, arith}
use Rattle.krb_der.proofs.Lanes.{ends_any, last_of}
use Rattle.krb_msg.proofs.notes.scalars.is_end_high.Goals as goal

pub returns : goal.returns
returns g c =
    rw (c.is_one_high.ensures, c.is_one_high-2.ensures, last_of g.row.N c.args.octets.now c.requires.many)
    (ends_any (λ octet. nat_lt 0x7F octet) g.row.N (length c.args.octets.now - g.row.N) c.args.octets.now (omega (arith, c.requires.few)))
