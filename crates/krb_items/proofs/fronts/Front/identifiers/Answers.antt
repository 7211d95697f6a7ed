use Rattle.std.proofs.Common.{◌+◌, ◌-◌, length, Ok, Err, ap, ◌∙◌, sym, arith}
use Rattle.std.proofs.lemmas.Result.{err_from_is_err_and}
use Rattle.krb_items.specs.Fronts.{Front, front_after, identifiers_front}
use Rattle.krb_items.specs.Seen.{front_of}
use Rattle.krb_items.proofs.Judging.{identifiers-by}
use Rattle.krb_items.proofs.fronts.Front.identifiers.Goals as goal

pub returns-in_err-_identifier : goal.returns-in_err-_identifier
returns-in_err-_identifier c =
    let size = length c.args.self.octets.now in
    let p = err_from_is_err_and c.from_residual.result c.from_residual.ensures.1 in
    rw p.1 (rw p.2 (sym (c.loop.invariant.1
    ∙ identifiers-by (size - c.loop.counter) (size - (c.loop.counter + 1)) (front_of c.loop.rest) (Err c.in_err-_identifier.field-0.0) (omega arith) (omega arith) c.in_err-_identifier.ensures.contents)))

pub loop-preserved : goal.loop-preserved
loop-preserved c =
    let size = length c.args.self.octets.now in
    let left = size - (c.loop.counter + 1) in (
      c.after-rest.ensures.room,
      c.loop.invariant.1
          ∙ identifiers-by (size - c.loop.counter) left (front_of c.loop.rest) (Ok (front_of c.in_ok-_identifier._identifier)) (omega arith) (omega arith) c.in_ok-_identifier.ensures.contents
          ∙ ap (λ (front : Front). identifiers_front left front) (ap (λ count. front_after count (front_of c.loop.rest)) (sym c.count_of.ensures.count) ∙ sym c.after-rest.ensures.after),
    )
