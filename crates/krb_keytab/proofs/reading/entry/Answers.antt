use Rattle.std.proofs.Common.{rules}
use Rattle.std.proofs.lemmas.Int.{to_z-of_z}
use Rattle.std.specs.Int.{w8, w16, w32}
use Rattle.std.specs.Int.RustNames.{FitsSigned}
use Rattle.krb_file.specs.Fields.{called, number_at, signed_at, counted_at, names_at, rest_at}
use Rattle.krb_file.specs.declared.field_name.FieldName.TheVariants as fields
use Rattle.krb_file.proofs.Chains.{read_none, read_from, read_then}
use Rattle.krb_file.proofs.FieldReaders.{Keeps-same, Keeps-then}
use Rattle.krb_keytab.proofs.reading.entry.Goals as goal

pub returns-in_err-names16-clause-keeps : goal.returns-in_err-names16-clause-keeps
returns-in_err-names16-clause-keeps g c =
    Keeps-then (Keeps-same c.spare_octets-realm.ensures.same) (Keeps-then (Keeps-same c.spare_list-components.ensures.same) c.names16.ensures.keeps)

pub returns-in_err-name_type-clause-keeps : goal.returns-in_err-name_type-clause-keeps
returns-in_err-name_type-clause-keeps g c =
    Keeps-then (Keeps-same c.spare_octets-realm.ensures.same) (Keeps-then (Keeps-same c.spare_list-components.ensures.same) (Keeps-then c.names16.ensures.keeps c.signed_field32.ensures.keeps))

pub returns-in_err-time-clause-keeps : goal.returns-in_err-time-clause-keeps
returns-in_err-time-clause-keeps g c =
    Keeps-then (Keeps-same c.spare_octets-realm.ensures.same) (Keeps-then (Keeps-same c.spare_list-components.ensures.same) (Keeps-then c.names16.ensures.keeps (Keeps-then c.signed_field32.ensures.keeps c.field32.ensures.keeps)))

pub returns-in_err-vno8-clause-keeps : goal.returns-in_err-vno8-clause-keeps
returns-in_err-vno8-clause-keeps g c =
    Keeps-then (Keeps-same c.spare_octets-realm.ensures.same) (Keeps-then (Keeps-same c.spare_list-components.ensures.same) (Keeps-then c.names16.ensures.keeps (Keeps-then c.signed_field32.ensures.keeps (Keeps-then c.field32.ensures.keeps c.field8.ensures.keeps))))

pub returns-in_err-enctype-clause-keeps : goal.returns-in_err-enctype-clause-keeps
returns-in_err-enctype-clause-keeps g c =
    Keeps-then (Keeps-same c.spare_octets-realm.ensures.same) (Keeps-then (Keeps-same c.spare_list-components.ensures.same) (Keeps-then c.names16.ensures.keeps (Keeps-then c.signed_field32.ensures.keeps (Keeps-then c.field32.ensures.keeps (Keeps-then c.field8.ensures.keeps c.field16.ensures.keeps)))))

pub returns-in_err-rest_field-clause-keeps : goal.returns-in_err-rest_field-clause-keeps
returns-in_err-rest_field-clause-keeps g c =
    Keeps-then (Keeps-same c.spare_octets-realm.ensures.same) (Keeps-then (Keeps-same c.spare_list-components.ensures.same) (Keeps-then c.names16.ensures.keeps
    (Keeps-then c.signed_field32.ensures.keeps (Keeps-then c.field32.ensures.keeps (Keeps-then c.field8.ensures.keeps (Keeps-then c.field16.ensures.keeps
    (Keeps-then (Keeps-same c.spare_octets-key.ensures.same) (Keeps-then c.counted_field16.ensures.keeps (Keeps-then (Keeps-same c.spare_octets-rest.ensures.same) c.rest_field.ensures.keeps)))))))))

pub returns-clause-keeps : goal.returns-clause-keeps
returns-clause-keeps g c =
    Keeps-then (Keeps-same c.spare_octets-realm.ensures.same) (Keeps-then (Keeps-same c.spare_list-components.ensures.same) (Keeps-then c.names16.ensures.keeps
    (Keeps-then c.signed_field32.ensures.keeps (Keeps-then c.field32.ensures.keeps (Keeps-then c.field8.ensures.keeps (Keeps-then c.field16.ensures.keeps
    (Keeps-then (Keeps-same c.spare_octets-key.ensures.same) (Keeps-then c.counted_field16.ensures.keeps (Keeps-then (Keeps-same c.spare_octets-rest.ensures.same) c.rest_field.ensures.keeps)))))))))

pub returns-in_err-counted_field16-clause-keeps : goal.returns-in_err-counted_field16-clause-keeps
returns-in_err-counted_field16-clause-keeps g c =
    Keeps-then (Keeps-same c.spare_octets-realm.ensures.same) (Keeps-then (Keeps-same c.spare_list-components.ensures.same) (Keeps-then c.names16.ensures.keeps
    (Keeps-then c.signed_field32.ensures.keeps (Keeps-then c.field32.ensures.keeps (Keeps-then c.field8.ensures.keeps (Keeps-then c.field16.ensures.keeps
    (Keeps-then (Keeps-same c.spare_octets-key.ensures.same) c.counted_field16.ensures.keeps)))))))

pub returns-clause-read : goal.returns-clause-read
returns-clause-read g c =
    let fits : FitsSigned w32 c.in_ok-name_type.name_type = search rules in
    rw (c.new.ensures, c.new-2.ensures, c.new-3.ensures, c.new-4.ensures, to_z-of_z w32 c.in_ok-name_type.name_type fits)
    (read_from c.spare_octets-realm.ensures.same (read_from c.spare_list-components.ensures.same (read_then (names_at w16) _ c.in_ok-names16.ensures.read
    (read_then (called fields.NameType (signed_at w32)) _ c.in_ok-name_type.ensures.read (read_then (called fields.Timestamp (number_at w32)) _ c.in_ok-time.ensures.read
    (read_then (called fields.KeyVersion (number_at w8)) _ c.in_ok-vno8.ensures.read (read_then (called fields.Enctype (number_at w16)) _ c.in_ok-enctype.ensures.read
    (read_from c.spare_octets-key.ensures.same (read_then (called fields.Key (counted_at w16)) _ c.in_ok-counted_field16.ensures.read
    (read_from c.spare_octets-rest.ensures.same (read_then (called fields.Rest rest_at) _ c.in_ok-rest_field.ensures.read read_none)))))))))))
