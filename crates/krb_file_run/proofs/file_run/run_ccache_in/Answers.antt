use Rattle.std.proofs.Common.{inl}
use Rattle.krb_run.proofs.Records.{ListsRecords-weaker}
use Rattle.krb_file_run.specs.Files.{IsCcacheRest, ccache_listing}
use Rattle.krb_file_run.proofs.CredentialLines.{start_refused}
use Rattle.krb_file_run.proofs.file_run.run_ccache_in.Goals as goal

pub returns-in-Ok : goal.returns-in-Ok
returns-in-Ok g c = record {
  listed = λ file known. c.list_credentials.ensures.listed file (c.in-Ok.ensures.begins file (c.in_ok-reader.ensures.same file known));
  written = c.list_credentials.ensures.written;
}

pub returns-in-Err : goal.returns-in-Err
returns-in-Err g c = record {
  listed = λ file known.
      ListsRecords-weaker (ccache_listing c.args.label.now c.args.now file) _ (IsCcacheRest c.args.label.now c.args.now file) _ _ c.list_refusal.result (λ left all. inl all)
      (c.list_refusal.ensures.listed (ccache_listing c.args.label.now c.args.now file) (start_refused c.args.label.now c.args.now file c.in-Err.fault (c.in-Err.ensures.fault file (c.in_ok-reader.ensures.same file known))));
  written = c.list_refusal.ensures.written;
}
