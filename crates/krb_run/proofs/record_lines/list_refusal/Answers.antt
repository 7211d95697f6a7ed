use Rattle.std.proofs.Common.{◌≡◌, [], inr, refl, subst}
use Rattle.std.specs.Io.KnownBytes.{Appends}
use Rattle.std.proofs.lemmas.Result.{err_from_is_err_and}
use Rattle.krb_run.specs.Records.{AppendsPrefix}
use Rattle.krb_run.proofs.Records.{Listed-start, Listed-before, refusal_is, fault_stays, some-before, some-prefix, write-fault}
use Rattle.krb_run.proofs.record_lines.list_refusal.Goals as goal

pub returns-in-Ok-clause-listed : goal.returns-in-Ok-clause-listed
returns-in-Ok-clause-listed g c = λ listing refused.
    let is = refusal_is c.args.label.now c.args.fault listing c.put_fault.new.text c.in-Ok.ended refused (rw c.new-text.ensures at c.in-Ok.ensures.refused) in
    (subst (Appends (g.W.Write.contents c.args.writer.now) (g.W.Write.contents c.write_all.new.writer)) is.0 (rw c.octets.ensures at c.in_ok-write_all-in-Ok.ensures.all), is.1)

pub returns-in_err-write_all-in-Ok-clause-listed : goal.returns-in_err-write_all-in-Ok-clause-listed
returns-in_err-write_all-in-Ok-clause-listed g c = λ listing refused.
    let p = err_from_is_err_and c.from_residual.result c.from_residual.ensures.1 in
    let is = refusal_is c.args.label.now c.args.fault listing c.put_fault.new.text c.in-Ok.ended refused (rw c.new-text.ensures at c.in-Ok.ensures.refused) in
    let prefix = rw c.octets.ensures at c.in_err-write_all-in-Ok.ensures.prefix in
    rw (p.1, p.2) (write-fault listing (λ left. left ≡ listing) (g.W.Write.contents c.args.writer.now) (g.W.Write.contents c.write_all.new.writer) _ c.in_err-write_all-in-Ok.ensures.fault
    (subst (AppendsPrefix (g.W.Write.contents c.args.writer.now) (g.W.Write.contents c.write_all.new.writer)) is.0 prefix))

pub returns-in_err-write_all-in-Ok-clause-fault : goal.returns-in_err-write_all-in-Ok-clause-fault
returns-in_err-write_all-in-Ok-clause-fault g c =
    let p = err_from_is_err_and c.from_residual.result c.from_residual.ensures.1 in
    rw (p.1, p.2) (inr c.in_err-write_all-in-Ok.ensures.fault)

pub returns-clause-listed : goal.returns-clause-listed
returns-clause-listed g c = λ listing refused.
    let none = Listed-start (λ left. left ≡ listing) listing (g.W.Write.contents c.args.writer.now) [] refl in
    Listed-before _ _ _ _ _ none (λ left. left ≡ listing) c.in-Err.fault (g.W.Write.contents c.write_before.new.writer) c.put_fault.new.text c.write_before.result (λ is. none.is_left) (rw c.new-text.ensures at c.in-Err.ensures.kept) c.write_before.ensures

pub returns-clause-fault : goal.returns-clause-fault
returns-clause-fault g c = fault_stays c.args.fault c.in-Err.fault (g.W.Write.contents c.args.writer.now) (g.W.Write.contents c.write_before.new.writer) c.put_fault.new.text c.write_before.result c.in-Err.ensures.fault c.write_before.ensures

pub returns-in_err-write_all-in-Ok-clause-written : goal.returns-in_err-write_all-in-Ok-clause-written
returns-in_err-write_all-in-Ok-clause-written g c = some-prefix _ _ _ c.in_err-write_all-in-Ok.ensures.prefix

pub returns-clause-written : goal.returns-clause-written
returns-clause-written g c = some-before c.in-Err.fault _ _ _ _ c.write_before.ensures

pub returns-in-Ok-clause-written : goal.returns-in-Ok-clause-written
returns-in-Ok-clause-written g c = (_, c.in_ok-write_all-in-Ok.ensures.all)
