-- asn1/generate wrote this from asn1/krb5.asn1
use Rattle.std.proofs.Common.{refl}
use lib.Dec.{lit<, lit≤}
use Rattle.krb_msg.specs.Nodes.{nodes, term_in}
use Rattle.krb_msg.proofs.Table.{twenty}
use Rattle.krb_msg.proofs.grammar.rows.Goals as goal

-- what each fact of a row is proved by: it computes
ruleset rows = (tt, refl, lit<, lit≤)

pub returns : goal.returns
unfolding nodes term_in
returns c =
    twenty (search rows) (twenty (search rows) (twenty (search rows) (twenty (search rows) (twenty (search rows) (twenty (search rows) (twenty (search rows) (twenty (search rows) (twenty (search rows) (twenty (search rows) (twenty (search rows) (search rows)))))))))))
