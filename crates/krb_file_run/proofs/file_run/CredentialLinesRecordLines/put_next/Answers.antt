use Rattle.std.proofs.Common.{◌≡◌, Ok, refl}
use Rattle.krb_file.specs.declared.field_path.FileItem.TheVariants as items
use Rattle.krb_ccache.specs.Streaming.{Reads, credentials}
use Rattle.krb_file_run.specs.Files.{field_limit, ccache_last}
use Rattle.krb_file_run.specs.Lines.{credential_line}
use Rattle.krb_file_run.proofs.Records.{item_added, end_added, refusal_added}
use Rattle.krb_file_run.proofs.file_run.CredentialLinesRecordLines.put_next.Goals as goal

pub returns-in_ok-put-in-Ok-Some-clause-line : goal.returns-in_ok-put-in-Ok-Some-clause-line
returns-in_ok-put-in-Ok-Some-clause-line g c = λ source left is_left.
    let lines = c.args.self.now in
    let old = lines.credentials in
    let new = c.next_credential.new.self in
    let same = c.give_back.ensures in
    rw (same.same_reader, same.same_start, same.same_state)
    (item_added ((lines.label.now ≡ source.label) × (lines.now ≡ source.now)) (λ x. credential_line lines.label.now lines.now x) (ccache_last lines.label.now) items.Credential (credentials field_limit) (λ file count. Reads field_limit old.reader old.start old.state file count) c.args.count source.file left is_left c.args.text.now c.put_credential-put.new.text
    (λ file count. Reads field_limit new.reader new.start new.state file count) c.in-Ok-Some.credential (λ file reads. (rw c.in-Ok-Some.field-0-is at c.in-Ok-Some.ensures.next) file 16777216 c.args.count reads) (rw c.in-Ok-Some.field-0-is at c.in_ok-put-in-Ok-Some.ensures))

pub returns-in_ok-put_cache_end-in-Ok-None-clause-line : goal.returns-in_ok-put_cache_end-in-Ok-None-clause-line
returns-in_ok-put_cache_end-in-Ok-None-clause-line g c = λ source left is_left.
    let lines = c.args.self.now in
    let old = lines.credentials in
    let new = c.next_credential.new.self in
    end_added ((lines.label.now ≡ source.label) × (lines.now ≡ source.now)) (λ x. credential_line lines.label.now lines.now x) (ccache_last lines.label.now) items.Credential (credentials field_limit) (λ file count. Reads field_limit old.reader old.start old.state file count) c.args.count source.file left is_left c.args.text.now c.put_cache_end.new.text
    (Ok new.reader.place) (λ file reads. (rw c.in-Ok-None.field-0-is at c.in-Ok-None.ensures.next) file 16777216 c.args.count reads) c.in_ok-put_cache_end-in-Ok-None.ensures

pub returns-in_ok-ended-in-Err-clause-line : goal.returns-in_ok-ended-in-Err-clause-line
returns-in_ok-ended-in-Err-clause-line g c = λ source left is_left.
    let lines = c.args.self.now in
    let old = lines.credentials in
    refusal_added ((lines.label.now ≡ source.label) × (lines.now ≡ source.now)) (λ x. credential_line lines.label.now lines.now x) (ccache_last lines.label.now) items.Credential (credentials field_limit) (λ file count. Reads field_limit old.reader old.start old.state file count) c.args.count source.file left is_left c.args.text.now c.put_fault.new.text
    lines.label.now (λ f. refl) c.in-Err.fault (λ file reads. c.in-Err.ensures.next file 16777216 c.args.count reads) c.in_ok-ended-in-Err.ended c.in_ok-ended-in-Err.ensures.refused
