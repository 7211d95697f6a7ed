use Rattle.std.proofs.Common.{◌≡◌, ◌+◌, ◌^◌, ℕ, suc, inl, inr, refl, subst, arith}
use Rattle.std.proofs.lemmas.Result.{err_from_is_err_and}
use Rattle.krb_run.specs.Records.{WasLeft, after_line}
use Rattle.krb_run.specs.declared.run.RunFault.TheVariants as fault
use Rattle.krb_run.proofs.Records.{Listed, Listed-start, Listed-moved, Listed-more, Listed-ended, Listed-before, last-fails, some-before, some-moved, some-none, some-prefix, some-then, write-fails, write-fault}
use Rattle.krb_run.proofs.record_lines.list_records.Goals as goal

pub records-init : goal.records-init
records-init g c = (λ source left is_left. Listed-start (g.L.RecordLines.IsLeft c.args.lines.now 0 source) left (g.W.Write.contents c.args.writer.now) c.args.text.now is_left, some-none (g.W.Write.contents c.args.writer.now))

pub returns-in_err-write_early : goal.returns-in_err-write_early
returns-in_err-write_early g c = record {
  listed = λ source left is_left.
      let p = err_from_is_err_and c.from_residual.result c.from_residual.ensures.1 in
      let listed = c.records.invariant.0 source left is_left in
      let all = after_line c.args.text.now left in
      rw (p.1, p.2) (write-fault all _ _ _ _ c.in_err-write_early.ensures.fault (write-fails _ _ _ _ _ listed _ c.in_err-write_early.ensures.prefix));
  written = some-then _ _ _ c.records.invariant.1 (some-prefix _ _ _ c.in_err-write_early.ensures.prefix);
}

pub returns-in_err-write_all-in-Ok-Some : goal.returns-in_err-write_all-in-Ok-Some
returns-in_err-write_all-in-Ok-Some g c = record {
  listed = λ source left is_left.
      let p = err_from_is_err_and c.from_residual-in_err-write_all-in-Ok-Some.result c.from_residual-in_err-write_all-in-Ok-Some.ensures.1 in
      let listed = Listed-moved _ _ _ _ _ (c.records.invariant.0 source left is_left) _ _ c.in_ok-write_early.ensures.moved in
      let after = g.L.RecordLines.IsLeft c.put_next.new.self (suc c.records.count) source in
      let adds = rw c.in-Ok-Some.field-0-is at (c.in-Ok-Some.ensures.line source listed.left listed.is_left) in
      let all = after_line c.args.text.now left in
      rw (p.1, p.2) (write-fault all _ _ _ _ c.in_err-write_all-in-Ok-Some.ensures.fault (last-fails _ _ _ _ _ listed after _ _ _ adds (rw c.octets-in-Ok-Some.ensures at c.in_err-write_all-in-Ok-Some.ensures.prefix)));
  written = some-then _ _ _ c.records.invariant.1 (some-then _ _ _ (some-moved _ _ _ _ c.in_ok-write_early.ensures.moved) (some-prefix _ _ _ c.in_err-write_all-in-Ok-Some.ensures.prefix));
}

pub returns-in-Ok-Some : goal.returns-in-Ok-Some
returns-in-Ok-Some g c = record {
  listed = λ source left is_left.
      let listed = Listed-moved _ _ _ _ _ (c.records.invariant.0 source left is_left) _ _ c.in_ok-write_early.ensures.moved in
      let after = g.L.RecordLines.IsLeft c.put_next.new.self (suc c.records.count) source in
      let adds = rw c.in-Ok-Some.field-0-is at (c.in-Ok-Some.ensures.line source listed.left listed.is_left) in
      Listed-ended _ _ _ _ _ listed after (WasLeft g.L.RecordLines.IsLeft g.L.RecordLines.Fails source c.put_next.new.self) _ _ _ adds (rw c.octets-in-Ok-Some.ensures at c.in_ok-write_all-in-Ok-Some.ensures.all);
  written = some-then _ _ _ c.records.invariant.1 (some-then _ _ _ (some-moved _ _ _ _ c.in_ok-write_early.ensures.moved) (_, c.in_ok-write_all-in-Ok-Some.ensures.all));
}

pub returns-in-Err : goal.returns-in-Err
returns-in-Err g c = record {
  listed = λ source left is_left.
      let listed = Listed-moved _ _ _ _ _ (c.records.invariant.0 source left is_left) _ _ c.in_ok-write_early.ensures.moved in
      Listed-before _ _ _ _ _ listed (WasLeft g.L.RecordLines.IsLeft g.L.RecordLines.Fails source c.put_next.new.self) c.in-Err.fault _ _ _
      (λ is. record { lines = c.records.lines; count = c.records.count; is_left = listed.is_left; failed = inl (c.in-Err.ensures.failed is) })
      c.in-Err.ensures.kept c.write_before.ensures;
  written = some-then _ _ _ c.records.invariant.1 (some-then _ _ _ (some-moved _ _ _ _ c.in_ok-write_early.ensures.moved) (some-before c.in-Err.fault _ _ _ _ c.write_before.ensures));
}

pub records-preserved : goal.records-preserved
records-preserved g c = (
  λ source left is_left.
      let listed = Listed-moved _ _ _ _ _ (c.records.invariant.0 source left is_left) _ _ c.in_ok-write_early.ensures.moved in
      let adds = rw c.in-Ok-None.field-0-is at (c.in-Ok-None.ensures.line source listed.left listed.is_left) in
      let after = g.L.RecordLines.IsLeft c.put_next.new.self (suc c.records.count) source in
      let next : suc c.records.count ≡ c.records.count + 1 = omega arith in
      subst (λ (n : ℕ). Listed (g.L.RecordLines.IsLeft c.put_next.new.self n source) (after_line c.args.text.now left) (g.W.Write.contents c.args.writer.now) (g.W.Write.contents c.write_early.new.writer) c.put_next.new.text) next (Listed-more _ _ _ _ _ listed after _ adds),
  some-then _ _ _ c.records.invariant.1 (some-moved _ _ _ _ c.in_ok-write_early.ensures.moved),
)

pub returns : goal.returns
returns g c = record {
  listed = λ source left is_left.
      let listed = c.records.invariant.0 source left is_left in
      let all_asked : c.records.count ≡ 2 ^ 40 = omega arith in
      Listed-before _ _ _ _ _ listed (WasLeft g.L.RecordLines.IsLeft g.L.RecordLines.Fails source c.records.lines) (fault.Read c.too_many_reads.result) _ c.records.text _
      (λ is. record { lines = c.records.lines; count = c.records.count; is_left = listed.is_left; failed = inr (refl, all_asked) })
      (λ is. refl) c.write_before-2.ensures;
  written = some-then _ _ _ c.records.invariant.1 (some-before (fault.Read c.too_many_reads.result) _ _ _ _ c.write_before-2.ensures);
}
