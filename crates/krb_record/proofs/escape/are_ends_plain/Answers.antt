use Rattle.std.proofs.Common.{length, ◌-◌, arith}
use Rattle.std.proofs.lemmas.Simd.{length-chunk}
use Rattle.krb_record.specs.inner.Strings.{is_plain_in}
use Rattle.krb_der.proofs.Lanes.{last_of}
use Rattle.krb_record.proofs.Lanes.{ends_all}
use Rattle.krb_record.proofs.escape.are_ends_plain.Goals as goal

pub are_all_plain-requires-2 : goal.are_all_plain-requires-2
are_all_plain-requires-2 c = (omega arith, (omega arith, length-chunk (length c.args.octets.now - 16) 16 c.args.octets.now (omega (arith, c.requires.many))))

pub returns : goal.returns
returns c =
    rw (c.are_all_plain.ensures, c.are_all_plain-2.ensures, last_of 16 c.args.octets.now c.requires.many)
    (ends_all (is_plain_in c.args.in_json) 16 (length c.args.octets.now - 16) c.args.octets.now (omega (arith, c.requires.few)))
