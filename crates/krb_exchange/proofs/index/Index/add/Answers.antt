use Rattle.std.proofs.Common.{◌∙◌, ap}
use Rattle.std.specs.BTreeMap.{is_at}
use Rattle.std.specs.Map.{lookup}
use Rattle.krb_exchange.specs.inner.Indexes.{fingerprint_cmp, is_of}
use Rattle.krb_exchange.proofs.Indexing.{request-octets, request-open, request-syns, syn-octets, syn-open, syn-syns}
use Rattle.krb_exchange.proofs.Keys.{on-ok}
use Rattle.krb_exchange.proofs.Syns.{request-added, syn-added}
use Rattle.krb_exchange.proofs.index.Index.add.Goals as goal

pub returns-in-Request-clause-added : goal.returns-in-Request-clause-added
returns-in-Request-clause-added c = on-ok c.add_request.result (λ adds gone xs h n is.
    let old = c.args.self.now in
    let new = c.add_request.new.self in
    let x = c.args.sending.now in
    record {
      requests = λ q. adds.requests q ∙ request-octets old new gone xs x h c.in-Request.request c.in-Request.octets c.args.number c.in-Request.is is n q;
      syns = λ q. ap (λ es. lookup (is_of q) es) adds.syns ∙ request-syns old new gone xs x h c.in-Request.request c.in-Request.octets c.args.number c.in-Request.is is n q;
      open_syns = request-added xs x c.in-Request.request c.in-Request.octets old.open_syns new.open_syns c.in-Request.is h.open_syns adds.open_syns;
      requests_open = request-open old new gone xs x h c.in-Request.request c.in-Request.octets c.args.number c.in-Request.is is n adds.requests_open;
    }) c.add_request.ensures.added

pub returns-in-Syn-clause-added : goal.returns-in-Syn-clause-added
returns-in-Syn-clause-added c = on-ok c.add_syn.result (λ adds gone xs h n is.
    let old = c.args.self.now in
    let new = c.add_syn.new.self in
    let x = c.args.sending.now in
    record {
      requests = λ q. ap (λ es. lookup (is_at (fingerprint_cmp q)) es) adds.requests ∙ syn-octets old new gone xs x h c.in-Syn.field-0 c.args.number c.in-Syn.is n q;
      syns = λ q. adds.syns q ∙ syn-syns old new gone xs x h c.in-Syn.field-0 c.args.number c.in-Syn.is n q;
      open_syns = syn-added xs x c.in-Syn.field-0 old.open_syns new.open_syns c.in-Syn.is is h.open_syns adds.open_syns;
      requests_open = syn-open old new gone xs x h c.in-Syn.field-0 c.args.number c.in-Syn.is n adds.requests_open;
    }) c.add_syn.ensures.added
