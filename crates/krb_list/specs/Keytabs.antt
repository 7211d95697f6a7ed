-- What is printed of a keytab.
use Rattle.std.specs.Prelude.{ℕ, pos, true, false, List, [], ◌∷◌, ◌++◌, length, codes}
use Rattle.std.specs.List.{flat_map}
use Rattle.krb_keytab.specs.declared.value.Keytab.{Keytab}
use Rattle.krb_keytab.specs.declared.value.Record.{Record}
use Rattle.krb_keytab.specs.declared.value.Record.TheVariants as records
use Rattle.krb_keytab.specs.declared.value.Stop.{Stop}
use Rattle.krb_keytab.specs.declared.value.Stop.TheVariants as stops
use Rattle.krb_keytab.specs.declared.value.Entry.{Entry}
use Rattle.krb_keytab.specs.Holes.{HoleModel}
use Rattle.krb_keytab.specs.Spelling.{kvno}
use Rattle.krb_registry.specs.declared.registry.Registry.TheVariants as registries
use Rattle.krb_record.specs.declared.form.Form.{Form}
use Rattle.krb_record.specs.Forms.{record_line}
use Rattle.krb_record.specs.Time.{file_time}
use Rattle.krb_record.specs.Values.{Value, Number, Named, Principal, YesNo, Field, Printed, the, printed, count}

-- the principal and how its name is meant, the version of its key; of the key and of what follows it, the number of octets alone
abbrev pub entry_fields : Entry → List Field
entry_fields e =
    the (codes "principal") (Principal e.name_type e.components e.realm)
    ∷ the (codes "type") (Named registries.NameTypes e.name_type)
    ∷ the (codes "time") (file_time e.time)
    ∷ the (codes "kvno") (Number (pos (kvno e)))
    ∷ the (codes "enctype") (Named registries.EncryptionTypes (pos e.enctype))
    ∷ the (codes "key") (count e.key)
    ∷ the (codes "rest") (count e.rest)
    ∷ []

abbrev pub hole_fields : HoleModel → List Field
hole_fields hole = the (codes "size") (Number (pos hole.size)) ∷ the (codes "clean") (YesNo hole.clean) ∷ []

unfoldable pub printed_record : Record → Printed
printed_record (records.Entry e) = printed (codes "entry") (entry_fields e)
printed_record (records.Hole hole) = printed (codes "hole") (hole_fields hole)

-- whether a record of length 0 ends the keytab
abbrev pub is_zero : Stop → Value
is_zero stops.File = YesNo false
is_zero stops.Zero = YesNo true

unfoldable pub keytab_end : ℕ → Stop → Printed
keytab_end count stop = printed (codes "end") (the (codes "records") (Number (pos count)) ∷ the (codes "zero") (is_zero stop) ∷ [])

-- a line for each record, and the line of the end
abbrev pub keytab_lines : Form → Keytab → List ℕ
keytab_lines form v = flat_map (λ r. record_line form (printed_record r)) v.records ++ record_line form (keytab_end (length v.records) v.stop)
