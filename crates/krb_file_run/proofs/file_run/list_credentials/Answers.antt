use Rattle.std.proofs.Common.{◌≡◌, ◌++◌, ℕ, List, Option, ◌∙◌, inr, refl, ap, ap₂}
use Rattle.std.proofs.lemmas.Result.{err_from_is_err_and}
use Rattle.krb_ccache.specs.Streaming.{credentials}
use Rattle.krb_file.specs.FieldReaders.{Cursor}
use Rattle.krb_file.specs.declared.field_path.FileItem.TheVariants as items
use Rattle.krb_file.specs.declared.progress.Progress.{Progress}
use Rattle.krb_ccache.specs.declared.reading.Start.{Start}
use Rattle.krb_record.specs.Labels.{Label}
use Rattle.krb_file_run.specs.Lines.{cache_line, credential_line}
use Rattle.krb_run.specs.Records.{RecordListing, after_line}
use Rattle.krb_file_run.specs.Files.{IsCcacheRest, field_limit, ccache_last, credentials_listing, ccache_listing, items_left}
use Rattle.krb_file_run.specs.inner.RecordRuns.{AreCredentialsLeft, CacheSource}
use Rattle.krb_run.proofs.Records.{none_written, some-none}
use Rattle.krb_file_run.proofs.Records.{less_said}
use Rattle.krb_file_run.proofs.CredentialLines.{first_line}
use Rattle.krb_file_run.proofs.file_run.list_credentials.Goals as goal

-- what is left after credentials
is_rest : (source : CacheSource) (label : Label) (now : Option ℕ) (cursor : Cursor) (start : Start) (state : Progress (Unit {0}) (Unit {0})) (count : ℕ) (left : RecordListing) → AreCredentialsLeft label cursor start state now count source left → IsCcacheRest source.label source.now source.file left
is_rest source label now cursor start state count left l = inr (count, l.is ∙ ap₂ (λ (x : Label) (time : Option ℕ). items_left (λ c. credential_line x time c) (ccache_last x) items.Credential (credentials field_limit source.file) count) l.same.0 l.same.1)

pub returns : goal.returns
returns g c = record {
  listed = λ file reads.
      let lines = c.args.lines.now in
      let cache = lines.credentials in
      let listing = credentials_listing lines.label.now lines.now (credentials field_limit file) in
      let text : c.put_cache.new.text ≡ cache_line lines.label.now cache.start.header cache.start.principal =
      c.in_ok-put_cache.ensures
      ∙ ap₂ (λ (text line : List ℕ). text ++ line) c.new-text.ensures (ap₂ (cache_line lines.label.now) c.header.ensures c.principal.ensures) in
      let whole = ap (λ (t : List ℕ). after_line t listing) text ∙ first_line lines.label.now lines.now file cache.reader cache.start cache.state reads in
      let source : CacheSource = record { label = lines.label.now; now = lines.now; file = file } in
      less_said _ (ccache_listing lines.label.now lines.now file) whole (IsCcacheRest lines.label.now lines.now file) _ _ c.list_records.result
      (c.list_records.ensures.listed source listing (record { same = (refl, refl); reads = reads; is = refl }))
      (λ rest was. is_rest source was.lines.label.now was.lines.now was.lines.credentials.reader was.lines.credentials.start was.lines.credentials.state was.count rest was.is_left);
  written = c.list_records.ensures.written;
}

pub returns-in_err-put_cache : goal.returns-in_err-put_cache
returns-in_err-put_cache g c = record {
  listed = λ file reads.
      let lines = c.args.lines.now in
      let p = err_from_is_err_and c.from_residual.result c.from_residual.ensures.1 in
      rw p.1 (none_written (ccache_listing lines.label.now lines.now file) (IsCcacheRest lines.label.now lines.now file) (g.W.Write.contents c.args.writer.now) p.0 p.2);
  written = some-none (g.W.Write.contents c.args.writer.now);
}
