use Rattle.std.proofs.Common.{Some, None, Ok, Err, ap, refl, subst}
use Rattle.std.proofs.lemmas.Result.{err_from_is_err_and}
use Rattle.krb_file.specs.Fields.{ended}
use Rattle.krb_file.specs.FieldReaders.{HasRead, of_slice, source_at}
use Rattle.krb_file.proofs.FieldReaders.{known}
use Rattle.krb_file.proofs.Items.{gave_none, item_read, end_read, loop_fails}
use Rattle.krb_ccache.specs.Reading.{credential_at, next_at, items_after, all_items}
use Rattle.krb_ccache.proofs.Stepwise.{Shortens-credential, after_read, after-step}
use Rattle.krb_files.proofs.CcacheWhole.{next-shorter}
use Rattle.krb_files.proofs.ccache.reading.credentials.Given.{Over}
use Rattle.krb_files.proofs.ccache.reading.credentials.Goals as goal

-- the next credential
next : (g : Over) (c : goal.In_ok-push g) → HasRead (next_at g.K.Kept.kept c.args.version) (Some c.in-Some.item) (of_slice c.credentials.reader) (of_slice c.read_credential.new.reader)
next g c = subst (λ (x : _). HasRead (next_at g.K.Kept.kept c.args.version) x (of_slice c.credentials.reader) (of_slice c.read_credential.new.reader)) c.in-Some.is c.in_ok-item.ensures.read

pub credentials-init : goal.credentials-init
credentials-init g c = rw c.new-credentials.ensures.items (gave_none (items_after (credential_at g.K.Kept.kept c.args.version) None) None c.args.reader.now.octets (of_slice c.args.reader.now) (ap ended c.requires) (λ octets there. there))

pub credentials-smaller : goal.credentials-smaller
credentials-smaller g c =
    let s = c.credentials.reader in
    let t = c.read_credential.new.reader in
    next-shorter (credential_at g.K.Kept.kept c.args.version) (Shortens-credential g.K.Kept.kept c.args.version) (ended s.end) s.place s.octets c.in-Some.item (source_at t.place t.octets) (known (next_at g.K.Kept.kept c.args.version) (Some c.in-Some.item) s t (next g c))

pub credentials-preserved : goal.credentials-preserved
credentials-preserved g c =
    let one = credential_at g.K.Kept.kept c.args.version in
    rw c.in_ok-push.ensures.items
    (item_read (next_at g.K.Kept.kept c.args.version) None (items_after one None) (after_read one None) (after-step one (Shortens-credential g.K.Kept.kept c.args.version) None) _ (of_slice c.credentials.reader) c.credentials.credentials.items c.credentials.invariant
    (Some c.in-Some.item) c.in-Some.item (of_slice c.read_credential.new.reader) (items_after one None) (next g c) (λ t. refl))

pub returns : goal.returns
returns g c =
    let one = credential_at g.K.Kept.kept c.args.version in
    let s = of_slice c.credentials.reader in
    let t = of_slice c.read_credential.new.reader in
    rw c.new.ensures
    (ap all_items (end_read (next_at g.K.Kept.kept c.args.version) None (items_after one None) (after_read one None) (after-step one (Shortens-credential g.K.Kept.kept c.args.version) None) _ s c.credentials.credentials.items c.credentials.invariant
    None (λ place. Ok place) t (subst (λ (x : _). HasRead (next_at g.K.Kept.kept c.args.version) x s t) c.in_default.is c.in_ok-item.ensures.read) (λ t. refl)))

pub returns-in_err-item : goal.returns-in_err-item
returns-in_err-item g c =
    let one = credential_at g.K.Kept.kept c.args.version in
    let p = err_from_is_err_and c.from_residual.result c.from_residual.ensures.1 in
    rw (p.1, p.2)
    (loop_fails (next_at g.K.Kept.kept c.args.version) None (items_after one None) (after_read one None) (after-step one (Shortens-credential g.K.Kept.kept c.args.version) None) _ (of_slice c.credentials.reader) c.credentials.credentials.items c.credentials.invariant
    (λ f. Err f) all_items c.in_err-item.field-0.0 c.in_err-item.ensures.read (λ f. refl) (λ f. refl))
