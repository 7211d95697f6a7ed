use Rattle.std.proofs.Common.{◌||◌}
use Rattle.krb_record.specs.declared.told.Request.TheVariants as requests
use Rattle.krb_exchange.specs.Happened.{fits}
use Rattle.krb_exchange.specs.inner.Numbers.{has_if}
use Rattle.krb_exchange.proofs.open.Open.latest_for.Goals as goal

pub returns : goal.returns
returns c =
    let has_it = has_if c.args.self.now c.args.flow (fits c.args.reply) in
    c.later-2.ensures (has_it requests.AsReq) (λ n. has_it requests.TgsReq n || has_it requests.Kpasswd n) c.latest_if-of_as.ensures (c.later.ensures (has_it requests.TgsReq) (has_it requests.Kpasswd) c.latest_if-of_tgs.ensures c.latest_if-of_kpasswd.ensures)
