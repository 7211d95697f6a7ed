use Rattle.std.proofs.Common.{◌+◌, ap, arith}
use Rattle.std.specs.Option.{is_some}
use Rattle.krb_ccache.specs.Reading.{next_at, one_enctype}
use Rattle.krb_c.proofs.Items.{at-places, end-added, item-added}
use Rattle.krb_c.proofs.file_spans.put_credential.Goals as goal

pub returns-in_ok-put-in-Ok-Some : goal.returns-in_ok-put-in-Ok-Some
returns-in_ok-put-in-Ok-Some c =
    let old = c.args.reader.now in let new = c.read_credential.new.reader in
    item-added (next_at one_enctype c.args.version) is_some 0 c.args.all old new c.args.spans.now c.put.new.self c.in-Ok-Some.field-0 c.in-Ok-Some.ensures.read (ap is_some c.in-Ok-Some.field-0-is)
    (at-places _ (old.place + 0) _ new.place _ _ (omega (arith, c.place-begin.ensures.value)) c.place.ensures.value c.in_ok-put-in-Ok-Some.ensures)

pub returns-in_ok-put-in-Ok-None : goal.returns-in_ok-put-in-Ok-None
returns-in_ok-put-in-Ok-None c =
    let old = c.args.reader.now in let new = c.read_credential.new.reader in
    end-added (next_at one_enctype c.args.version) is_some 0 c.args.all old new c.args.spans.now c.put-in-Ok-None.new.self c.in-Ok-None.field-0 c.in-Ok-None.ensures.read (ap is_some c.in-Ok-None.field-0-is)
    (at-places _ new.place _ new.place _ _ c.place-end.ensures.value c.place-end.ensures.value c.in_ok-put-in-Ok-None.ensures)
