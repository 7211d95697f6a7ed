use Rattle.std.proofs.Common.{Some, cond, refl, ◌∙◌, ap}
use Rattle.std.specs.BTreeMap.{is_at}
use Rattle.std.specs.Map.{lookup}
use Rattle.krb_exchange.specs.inner.Indexes.{is_of}
use Rattle.krb_exchange.specs.inner.Numbers.{flow_key, flow_key_cmp}
use Rattle.krb_exchange.proofs.Keys.{on-err}
use Rattle.krb_exchange.proofs.index.Index.add_syn.Goals as goal

pub returns-in_err-insert-clause-same : goal.returns-in_err-insert-clause-same
returns-in_err-insert-clause-same c = on-err c.from_residual.result (λ gone xs h n. record {
  requests = h.requests;
  syns = λ q. ap (λ es. lookup (is_of q) es) c.in_err-insert.ensures.err ∙ h.syns q;
  open_syns = h.open_syns;
  requests_open = h.requests_open;
})

pub returns-clause-added : goal.returns-clause-added
returns-clause-added c = record {
  requests = refl;
  syns = λ q. c.in_ok-insert.ensures.updates.0 (flow_key q) ∙ ap (λ k. cond (is_at (flow_key_cmp k) (flow_key q)) (Some c.args.number) (lookup (is_of q) c.args.self.now.syns.entries)) c.of.ensures;
  open_syns = c.in-Some.ensures.1;
  requests_open = λ f k n. refl;
}
