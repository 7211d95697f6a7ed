use Rattle.std.proofs.Common.{not, ◌&&◌, ◌∙◌, ap}
use Rattle.std.specs.BTreeMap.{is_at}
use Rattle.std.specs.Map.{lookup}
use Rattle.krb_exchange.specs.inner.Indexes.{fingerprint_cmp}
use Rattle.krb_exchange.specs.inner.Numbers.{same_key}
use Rattle.krb_exchange.proofs.Indexing.{undone}
use Rattle.krb_exchange.proofs.index.Index.add_request.Goals as goal

pub returns-in-Err-clause-same : goal.returns-in-Err-clause-same
returns-in-Err-clause-same c = λ gone xs h n. record {
  requests = λ q. ap (λ es. lookup (is_at (fingerprint_cmp q)) es) c.in-Err.ensures.err ∙ h.requests q;
  syns = h.syns;
  open_syns = h.open_syns;
  requests_open = λ f k m.
      c.remove.ensures f k m
      ∙ ap (λ b. not (same_key c.args.flow c.args.request c.args.number f k m) && b) (c.in_ok-insert.ensures.added f k m)
      ∙ undone c.args.self.now gone xs h c.args.flow c.args.request c.args.number n f k m
      ∙ h.requests_open f k m;
}
