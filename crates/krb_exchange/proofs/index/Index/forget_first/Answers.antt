use Rattle.std.proofs.Common.{◌+◌, ◌-◌, ◌&&◌, ◌∙◌, ap, if◌then◌else◌, None, refl, subst, sym}
use Rattle.std.specs.Map.{lookup}
use Rattle.krb_exchange.specs.declared.index.Index.{Index}
use Rattle.krb_exchange.specs.Happened.{is_open}
use Rattle.krb_exchange.specs.inner.Indexes.{Indexes, is_kept, is_of, one_if}
use Rattle.krb_exchange.specs.inner.Numbers.{flow_key}
use Rattle.krb_exchange.proofs.Indexing.{left-octets, left-octets_same, left-open, left-open_same, left-syns, left-syns_same}
use Rattle.krb_exchange.proofs.Syns.{request-left, syn-left}
use Rattle.krb_exchange.proofs.index.Index.forget_first.Goals as goal

pub returns-in-Request : goal.returns-in-Request
returns-in-Request c = λ others h.
    let old = c.args.self.now in
    let new : Index = record old { «open» = c.close_request.new.self.«open»; requests = c.forget.new.numbers } in
    subst (λ index. Indexes index (c.args.number + 1) others) (sym c.close_request.ensures.same) (record {
      requests = λ q. c.forget.ensures q ∙ left-octets old new c.args.number c.args.first.now others h c.in-Request.octets c.in-Request.request c.in-Request.is q;
      syns = left-syns_same old new c.args.number c.args.first.now others h c.in-Request.request c.in-Request.octets c.in-Request.is;
      open_syns = request-left c.args.first.now others c.in-Request.request c.in-Request.octets old.open_syns c.in-Request.is h.open_syns;
      requests_open = left-open old new c.args.number c.args.first.now others h c.in-Request.request c.in-Request.octets c.in-Request.is c.close_request.ensures.closed;
    })

pub returns-in-Syn : goal.returns-in-Syn
returns-in-Syn c = λ others h.
    let old = c.args.self.now in
    let new : Index = record old { syns = c.forget-in-Syn.new.numbers; open_syns = old.open_syns - one_if (is_open c.args.first.now.state) } in
    subst (λ index. Indexes index (c.args.number + 1) others) (sym c.close_syn.ensures) (record {
      requests = left-octets_same old new c.args.number c.args.first.now others h c.in-Syn.field-0 c.in-Syn.is;
      syns = λ q. c.forget-in-Syn.ensures (flow_key q) ∙ ap (λ k. if is_of q k && is_kept c.args.number (lookup (is_of q) old.syns.entries) then None else lookup (is_of q) old.syns.entries) c.of.ensures ∙ left-syns old new c.args.number c.args.first.now others h c.in-Syn.field-0 c.in-Syn.is q;
      open_syns = syn-left c.args.first.now others c.in-Syn.field-0 old.open_syns new.open_syns c.in-Syn.is h.open_syns refl;
      requests_open = left-open_same old new c.args.number c.args.first.now others h c.in-Syn.field-0 c.in-Syn.is (λ f k m. refl);
    })
