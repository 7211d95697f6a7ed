use Rattle.krb_json.proofs.ScalarLemmas.{same-octets, time-is}
use Rattle.krb_json.proofs.scalars.time_of.Goals as goal

pub returns : goal.returns
returns c =
    time-is c.args.text.now c.in_ok-ok.field-0 c.new.result (same-octets c.try_from.result c.args.text.now c.in_ok-ok.field-0 _ _ c.in_ok-ok.ensures.value c.try_from.ensures.1) c.new.ensures.shape c.new.ensures.value
