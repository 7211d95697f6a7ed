use Rattle.std.proofs.Common.{◌-◌, refl, set, subst, sym}
use Rattle.krb_exchange.specs.declared.index.Index.{Index}
use Rattle.krb_exchange.specs.Happened.{in_state, is_open, is_syn_of}
use Rattle.krb_exchange.specs.inner.Indexes.{Indexes, one_if, with_octets}
use Rattle.krb_exchange.proofs.Indexing.{closed-latest, closed-request, closed-syn}
use Rattle.krb_exchange.proofs.Syns.{request-closed, syn-closed}
use Rattle.krb_exchange.proofs.index.Index.close.Goals as goal

pub returns-in-Request : goal.returns-in-Request
returns-in-Request c = λ gone xs place state h at few n closed.
    let old = c.args.self.now in
    let new : Index = record old { «open» = c.close_request.new.self.«open» } in
    subst (λ index. Indexes index gone (set xs place (in_state state c.args.sending.now))) (sym c.close_request.ensures.same) (record {
      requests = λ q. closed-latest old new gone xs c.args.sending.now place c.args.number state h at few n closed (with_octets q) _ refl (h.requests q);
      syns = λ q. closed-latest old new gone xs c.args.sending.now place c.args.number state h at few n closed (is_syn_of q) _ refl (h.syns q);
      open_syns = request-closed xs place c.args.sending.now state c.in-Request.request c.in-Request.field-1 old.open_syns c.in-Request.is at closed h.open_syns;
      requests_open = closed-request old new gone xs c.args.sending.now place c.args.number state h at few n closed c.in-Request.request c.in-Request.field-1 c.in-Request.is c.close_request.ensures.closed;
    })

pub returns-in-Syn : goal.returns-in-Syn
returns-in-Syn c = λ gone xs place state h at few n closed.
    let old = c.args.self.now in
    let new : Index = record old { open_syns = old.open_syns - one_if (is_open c.args.sending.now.state) } in
    subst (λ index. Indexes index gone (set xs place (in_state state c.args.sending.now))) (sym c.close_syn.ensures) (record {
      requests = λ q. closed-latest old new gone xs c.args.sending.now place c.args.number state h at few n closed (with_octets q) _ refl (h.requests q);
      syns = λ q. closed-latest old new gone xs c.args.sending.now place c.args.number state h at few n closed (is_syn_of q) _ refl (h.syns q);
      open_syns = syn-closed xs place c.args.sending.now state c.in-Syn.field-0 old.open_syns new.open_syns c.in-Syn.is at closed h.open_syns refl;
      requests_open = closed-syn old new gone xs c.args.sending.now place c.args.number state h at few n closed c.in-Syn.field-0 c.in-Syn.is (λ f k m. refl);
    })
