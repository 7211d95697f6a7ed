use Rattle.std.proofs.Common.{◌≡◌, ◌+◌, ℕ, suc, sym, ◌∙◌, ap, subst, arith, append-nil}
use Rattle.std.proofs.lemmas.Result.{err_from_is_err_and}
use Rattle.krb_ccache.specs.Streaming.{Reads, credentials}
use Rattle.krb_run.specs.declared.run.RunFault.TheVariants as RunFault
use Rattle.krb_decode.specs.Caches.{field_limit}
use Rattle.krb_decode.specs.Decoded.{end_of}
use Rattle.krb_decode.proofs.CacheRuns.{decoded-all, decoded-some, next-decoded, next-unwritten, none-decoded, refused-after}
use Rattle.krb_decode.proofs.cache.decode_credentials.Goals as goal

pub entries-init : goal.entries-init
entries-init g c = λ file reads. (reads, none-decoded (credentials field_limit file) (g.W.Write.contents c.args.writer.now) c.args.parts.now c.requires.lines c.requires.said)

pub entries-preserved : goal.entries-preserved
entries-preserved g c = λ file reads.
    let was = c.entries.invariant file reads in
    let next = (rw c.in-Ok-Some.field-0-is at c.in-Ok-Some.ensures.next) file 16777216 c.entries.index was.0 in
    let same = c.give_back.ensures in
    let count : suc c.entries.index ≡ c.entries.index + 1 = omega arith in
    let now = c.next_credential.new.self in (
      rw (same.same_reader, same.same_start, same.same_state) (subst (λ (n : ℕ). Reads field_limit now.reader now.start now.state file n) count next.1),
      next-decoded (credentials field_limit file) c.entries.index _ _ c.entries.parts was.1 c.in-Ok-Some.credential next.0 c.put_credential-put.new.parts c.in_ok-put-in-Ok-Some.ensures _ c.write_lines.new.self c.in_ok-write_lines-in-Ok-Some.ensures.all c.in_ok-write_lines-in-Ok-Some.ensures.none_kept c.write_lines.ensures.same_said,
    )

pub returns-in_err-put-in-Ok-Some : goal.returns-in_err-put-in-Ok-Some
returns-in_err-put-in-Ok-Some g c = record {
  decoded = λ file reads.
      let was = c.entries.invariant file reads in
      let p = err_from_is_err_and c.from_residual.result c.from_residual.ensures.1 in
      rw p.1 (decoded-some (credentials field_limit file) c.entries.index _ _ c.entries.parts was.1 p.0 c.put_credential-put.new.parts.said);
}

pub returns-in_err-write_lines-in-Ok-Some : goal.returns-in_err-write_lines-in-Ok-Some
returns-in_err-write_lines-in-Ok-Some g c = record {
  decoded = λ file reads.
      let was = c.entries.invariant file reads in
      let next = (rw c.in-Ok-Some.field-0-is at c.in-Ok-Some.ensures.next) file 16777216 c.entries.index was.0 in
      let result = c.from_residual-in_err-write_lines-in-Ok-Some in
      let p = err_from_is_err_and result.result result.ensures.1 in
      rw p.1
      (next-unwritten (credentials field_limit file) c.entries.index _ _ c.entries.parts was.1 c.in-Ok-Some.credential next.0 c.put_credential-put.new.parts c.in_ok-put-in-Ok-Some.ensures _ p.0 c.write_lines.new.self.said c.in_err-write_lines-in-Ok-Some.ensures.prefix);
}

pub returns-in-Ok-None : goal.returns-in-Ok-None
returns-in-Ok-None g c = record {
  decoded = λ file reads.
      let was = c.entries.invariant file reads in
      let ends = (rw c.in-Ok-None.field-0-is at c.in-Ok-None.ensures.next) file 16777216 c.entries.index was.0 in
      decoded-all (credentials field_limit file) c.entries.index _ _ c.entries.parts was.1 _ ends c.entries.parts.said (sym (append-nil c.entries.parts.said)) c.end_of.result (c.end_of.ensures ∙ ap end_of c.octets.ensures);
}

pub returns-in_err-put_fault-in-Err : goal.returns-in_err-put_fault-in-Err
returns-in_err-put_fault-in-Err g c = record {
  decoded = λ file reads.
      let was = c.entries.invariant file reads in
      let result = c.from_residual-in_err-put_fault-in-Err in
      let p = err_from_is_err_and result.result result.ensures.1 in
      rw p.1 (decoded-some (credentials field_limit file) c.entries.index _ _ c.entries.parts was.1 p.0 c.put_fault.new.text);
}

pub returns-in-Err : goal.returns-in-Err
returns-in-Err g c = record {
  decoded = λ file reads.
      let was = c.entries.invariant file reads in
      refused-after (credentials field_limit file) c.entries.index _ _ c.entries.parts was.1 c.none-label.result c.none-label.ensures c.in-Err.fault (c.in-Err.ensures.next file 16777216 c.entries.index was.0) c.put_fault.new.text c.in_ok-put_fault-in-Err.field-0 c.in_ok-put_fault-in-Err.ensures.refused
      c.end_of-in-Err.result (c.end_of-in-Err.ensures ∙ ap end_of c.octets-in-Err.ensures);
}

pub returns : goal.returns
returns g c = record {
  decoded = λ file reads. decoded-some (credentials field_limit file) c.entries.index _ _ c.entries.parts (c.entries.invariant file reads).1 (RunFault.Read c.error.result) c.entries.parts.said;
}
