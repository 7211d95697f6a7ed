use Rattle.std.proofs.Common.{◌+◌, ◌<◌, length, arith, subst}
use Rattle.std.specs.Option.{is_some}
use Rattle.krb_ccache.specs.Reading.{next_at, one_enctype}
use Rattle.krb_c.specs.FileSpans.{ccache_spans}
use Rattle.krb_c.specs.inner.Items.{AddsItem}
use Rattle.krb_c.proofs.Items.{at-places, last-added, next-added, over-added}
use Rattle.krb_c.proofs.Files.{first-credentials, refused-ccache}
use Rattle.krb_c.proofs.file_spans.put_ccache.Goals as goal

pub returns-in-Err : goal.returns-in-Err
returns-in-Err c = refused-ccache c.args.file.now c.new-reader.result c.new-reader.ensures c.in-Err.fault (Unit {0}) c.in-Err.ensures.read c.put_fault.result c.args.spans.now c.put_fault.new.spans c.put_fault.ensures

pub credentials-init : goal.credentials-init
credentials-init c =
    first-credentials c.args.file.now c.new-reader.result c.new-reader.ensures c.read_start.new.reader c.in-Ok.start c.in-Ok.ensures.read c.args.spans.now c.put.new.self
    (at-places _ _ _ c.read_start.new.reader.place _ _ c.principal_place.ensures c.place.ensures.value c.in_ok-put.ensures)

pub returns-then-not-branch : goal.returns-then-not-branch
returns-then-not-branch c =
    let file = c.args.file.now in let reader = next_at one_enctype c.in-Ok.start.version in
    let more : c.credentials._index < length file + 1 = omega (arith, c.credentials-test.true) in
    last-added reader is_some 0 (length file) (ccache_spans file) c.credentials._index c.credentials.reader c.put_credential.new.reader c.args.spans.now c.credentials.spans c.put_credential.new.spans more c.credentials.invariant
    (subst (AddsItem reader is_some 0 (length file) c.credentials.reader c.put_credential.new.reader c.credentials.spans c.put_credential.new.spans) c.if-not-branch.true c.in_ok-put_credential.ensures)

pub credentials-preserved : goal.credentials-preserved
credentials-preserved c =
    let file = c.args.file.now in let reader = next_at one_enctype c.in-Ok.start.version in
    let more : c.credentials._index < length file + 1 = omega (arith, c.credentials-test.true) in
    next-added reader is_some 0 (length file) (ccache_spans file) c.credentials._index c.credentials.reader c.put_credential.new.reader c.args.spans.now c.credentials.spans c.put_credential.new.spans more c.credentials.invariant
    (subst (AddsItem reader is_some 0 (length file) c.credentials.reader c.put_credential.new.reader c.credentials.spans c.put_credential.new.spans) c.if-not-branch.false c.in_ok-put_credential.ensures)

pub returns : goal.returns
returns c =
    let file = c.args.file.now in let reader = next_at one_enctype c.in-Ok.start.version in
    over-added reader is_some 0 (length file) (ccache_spans file) c.credentials._index c.credentials.reader c.args.spans.now c.credentials.spans (λ more. absurd (omega (arith, more, c.credentials-test.false))) c.credentials.invariant
