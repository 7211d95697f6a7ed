use Rattle.std.proofs.lemmas.Result.{err_from_is_err_and}
use Rattle.std.specs.Int.{w32}
use Rattle.krb_file.specs.Fields.{succeed, called, counted_at}
use Rattle.krb_file.specs.declared.field_name.FieldName.TheVariants as field
use Rattle.krb_file.proofs.Chains.{read_none, read_from, read_then, read_after}
use Rattle.krb_file.proofs.FieldReaders.{Stays-same, Stays-then}
use Rattle.krb_file.proofs.Reaching.{goes, ◌then◌, looked}
use Rattle.krb_ccache.specs.Reading.{validity_at, contents_at}
use Rattle.krb_ccache.proofs.Followed.{then-fails}
use Rattle.krb_ccache.proofs.Grouped.{read_same, fails_same, fails_first, fails_from, after_validity, after_key, grouped, Same-grouped}
use Rattle.krb_ccache.proofs.Reaching.{AtLeast-validity, AtLeast-contents}
use Rattle.krb_ccache.proofs.reading.credential_from.Goals as goal

pub returns-clause-stays : goal.returns-clause-stays
returns-clause-stays g c =
    let after_key = goes 21 validity_at AtLeast-validity c.in_ok-validity.ensures.read c.in_ok-validity.ensures.stays
    then goes 16 contents_at AtLeast-contents c.in_ok-contents.ensures.read c.in_ok-contents.ensures.stays in
    Stays-then (Stays-same c.spare_octets-key.ensures.same) (Stays-then c.in_ok-counted_field32.ensures.keeps.stays
    (looked 37 (g.F.FieldReader.cursor c.counted_field32.new.self) (g.F.FieldReader.cursor c.look_ahead.new.self) (g.F.FieldReader.cursor c.contents_fields.new.reader) c.look_ahead.ensures.looks after_key.stays after_key.on))

pub returns-clause-read : goal.returns-clause-read
returns-clause-read g c =
    rw c.new.ensures
    (read_same (Same-grouped c.args.client c.args.server c.args.enctype)
    (read_from c.spare_octets-key.ensures.same (read_then (called field.Key (counted_at w32)) _ c.in_ok-counted_field32.ensures.read
    (read_after c.in_ok-look_ahead.ensures.read
    (read_then validity_at _ c.in_ok-validity.ensures.read (read_then contents_at _ c.in_ok-contents.ensures.read read_none))))))

pub returns-in_err-validity-clause-read : goal.returns-in_err-validity-clause-read
returns-in_err-validity-clause-read g c =
    let p = err_from_is_err_and c.from_residual-in_err-validity.result c.from_residual-in_err-validity.ensures.1 in
    let e = c.in_err-validity.field-0.0 in
    let MayFail = g.F.FieldReader.MayFail in
    let begin = g.F.FieldReader.cursor c.spare_octets-key.new.self in
    let keyed = g.F.FieldReader.cursor c.counted_field32.new.self in
    let looked = g.F.FieldReader.cursor c.look_ahead.new.self in
    let key = c.counted_field32.new.octets.items in
    let whole = grouped c.args.client c.args.server c.args.enctype in
    let rest = after_key c.args.client c.args.server c.args.enctype in
    let last = after_validity c.args.client c.args.server c.args.enctype key in
    rw (p.1, p.2)
    (fails_same e MayFail (g.F.FieldReader.cursor c.args.reader.now) (Same-grouped c.args.client c.args.server c.args.enctype)
    (fails_from whole e MayFail c.spare_octets-key.ensures.same
    (then-fails (called field.Key (counted_at w32)) rest key begin keyed e MayFail c.in_ok-counted_field32.ensures.read
    (then-fails (succeed (tt {0})) (λ _. rest key) (tt {0}) keyed looked e MayFail c.in_ok-look_ahead.ensures.read
    (fails_first validity_at last e MayFail looked c.in_err-validity.ensures.read)))))

pub returns-in_err-contents-clause-read : goal.returns-in_err-contents-clause-read
returns-in_err-contents-clause-read g c =
    let p = err_from_is_err_and c.from_residual-in_err-contents.result c.from_residual-in_err-contents.ensures.1 in
    let e = c.in_err-contents.field-0.0 in
    let MayFail = g.F.FieldReader.MayFail in
    let begin = g.F.FieldReader.cursor c.spare_octets-key.new.self in
    let keyed = g.F.FieldReader.cursor c.counted_field32.new.self in
    let looked = g.F.FieldReader.cursor c.look_ahead.new.self in
    let valid = g.F.FieldReader.cursor c.validity_fields.new.reader in
    let key = c.counted_field32.new.octets.items in
    let whole = grouped c.args.client c.args.server c.args.enctype in
    let rest = after_key c.args.client c.args.server c.args.enctype in
    let last = after_validity c.args.client c.args.server c.args.enctype key in
    rw (p.1, p.2)
    (fails_same e MayFail (g.F.FieldReader.cursor c.args.reader.now) (Same-grouped c.args.client c.args.server c.args.enctype)
    (fails_from whole e MayFail c.spare_octets-key.ensures.same
    (then-fails (called field.Key (counted_at w32)) rest key begin keyed e MayFail c.in_ok-counted_field32.ensures.read
    (then-fails (succeed (tt {0})) (λ _. rest key) (tt {0}) keyed looked e MayFail c.in_ok-look_ahead.ensures.read
    (then-fails validity_at last c.in_ok-validity.validity looked valid e MayFail c.in_ok-validity.ensures.read
    (fails_first contents_at _ e MayFail valid c.in_err-contents.ensures.read))))))
