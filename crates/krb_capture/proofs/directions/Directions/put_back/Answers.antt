use Rattle.std.proofs.Common.{refl, sym, ◌∙◌}
use Rattle.krb_capture.proofs.Tables.{is-among, maps-back}
use Rattle.krb_capture.proofs.directions.Directions.put_back.Goals as goal

pub returns-in_ok-insert-clause-maps : goal.returns-in_ok-insert-clause-maps
returns-in_ok-insert-clause-maps c = λ limit table h.
    maps-back c.args.self.now _ limit table c.in-Some.last (is-among c.args.self.now limit table c.in-Some.last (sym c.take.ensures.value ∙ c.in-Some.is) h) refl refl c.in_ok-insert.ensures.entries refl refl
