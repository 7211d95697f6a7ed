use Rattle.krb_record.proofs.Lanes.{all_plain_in}
use Rattle.krb_record.proofs.escape.are_all_plain.Goals as goal

pub returns : goal.returns
returns g c = rw (c.any_is_less.ensures, c.any_is_greater.ensures, c.any_is.ensures, c.any_is-2.ensures, c.any_is-3.ensures, c.any_is-4.ensures) (all_plain_in c.args.in_json c.args.octets)
