use Rattle.std.proofs.Common.{◌≡◌, ◌+◌, ◌<◌, ◌≤◌, ℕ, Option, Some, length, ◌∙◌, ap, arith}
use Rattle.std.proofs.lemmas.Result.{err_from_is_err_and}
use Rattle.krb_file.specs.FieldReaders.{bounded}
use Rattle.krb_file.proofs.FieldReaders.{Stays-then}
use Rattle.krb_ccache.proofs.Followed.{header_end, inside, prefix-none, prefix-more, prefix-less, prefix-fails, prefix-done}
use Rattle.krb_ccache.proofs.Reaching.{Stays-bounded, ends_inside}
use Rattle.krb_ccache.proofs.reading.header_fields.Goals as goal

pub fields-init : goal.fields-init
fields-init g c =
    let h = g.F.FieldReader.cursor c.args.reader.now in
    let end : c.place.result + c.from.result ≡ header_end c.args.size h = omega (arith, c.place.ensures.value, c.from.ensures) in
    let now : g.F.FieldReader.cursor c.set_end.new.self ≡ inside c.args.size h = c.set_end.ensures ∙ ap (λ (n : ℕ). bounded (Some n) h) end in
    record { prefix = rw (now, c.new-fields.ensures.items) (prefix-none c.args.size h); stays = rw now (Stays-bounded c.args.size h) }

pub fields-smaller : goal.fields-smaller
fields-smaller g c =
    let h = g.F.FieldReader.cursor c.args.reader.now in
    let index : c.len.result ≡ length c.fields.fields.items = omega arith in
    let before : (g.F.FieldReader.cursor c.fields.reader).place < header_end c.args.size h = omega (arith, c.place.ensures.value, c.from.ensures, c.place-in-fields.ensures.value, c.fields-test.true) in
    prefix-less c.args.size h c.fields.fields.items (g.F.FieldReader.cursor c.fields.reader) (g.F.FieldReader.cursor c.header_field.new.reader) c.in_ok-field.field before c.fields.invariant.prefix (rw index at c.in_ok-field.ensures.read)

pub fields-preserved : goal.fields-preserved
fields-preserved g c =
    let h = g.F.FieldReader.cursor c.args.reader.now in
    let index : c.len.result ≡ length c.fields.fields.items = omega arith in
    let before : (g.F.FieldReader.cursor c.fields.reader).place < header_end c.args.size h = omega (arith, c.place.ensures.value, c.from.ensures, c.place-in-fields.ensures.value, c.fields-test.true) in
    record {
      prefix = rw c.in_ok-push.ensures.items (prefix-more c.args.size h c.fields.fields.items (g.F.FieldReader.cursor c.fields.reader) (g.F.FieldReader.cursor c.header_field.new.reader) c.in_ok-field.field before c.fields.invariant.prefix (rw index at c.in_ok-field.ensures.read));
      stays = Stays-then c.fields.invariant.stays c.in_ok-field.ensures.keeps.stays;
    }

pub returns-in_err-field-clause-read : goal.returns-in_err-field-clause-read
returns-in_err-field-clause-read g c =
    let h = g.F.FieldReader.cursor c.args.reader.now in
    let index : c.len.result ≡ length c.fields.fields.items = omega arith in
    let p = err_from_is_err_and c.from_residual.result c.from_residual.ensures.1 in
    let before : (g.F.FieldReader.cursor c.fields.reader).place < header_end c.args.size h = omega (arith, c.place.ensures.value, c.from.ensures, c.place-in-fields.ensures.value, c.fields-test.true) in
    rw (p.1, p.2) (prefix-fails c.args.size h c.in_err-field.field-0.0 g.F.FieldReader.MayFail c.fields.fields.items (g.F.FieldReader.cursor c.fields.reader) before c.fields.invariant.prefix (rw index at c.in_err-field.ensures.read))

pub returns-clause-read : goal.returns-clause-read
returns-clause-read g c =
    let h = g.F.FieldReader.cursor c.args.reader.now in
    let t = g.F.FieldReader.cursor c.fields.reader in
    let after : header_end c.args.size h ≤ t.place = omega (arith, c.place.ensures.value, c.from.ensures, c.place-in-fields.ensures.value, c.fields-test.false) in
    let now : g.F.FieldReader.cursor c.set_end-2.new.self ≡ bounded h.bounds.end t = c.set_end-2.ensures ∙ ap (λ (e : Option ℕ). bounded e t) c.end-outer.ensures in
    rw (c.new.ensures, now) (prefix-done c.args.size h c.fields.fields.items t after c.fields.invariant.prefix)

pub returns-clause-stays : goal.returns-clause-stays
returns-clause-stays g c = rw c.set_end-2.ensures (ends_inside c.end-outer.result (g.F.FieldReader.cursor c.args.reader.now) (g.F.FieldReader.cursor c.fields.reader) c.fields.invariant.stays)
