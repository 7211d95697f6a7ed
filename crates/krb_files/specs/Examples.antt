-- Worked examples, computed by the definitions: what is written of keytabs and caches.
use Rattle.std.specs.Prelude.{◌≡◌, false, Some, None, [], ◌∷◌, take, refl}
use Rattle.krb_keytab.specs.declared.value.Record.TheVariants as records
use Rattle.krb_keytab.specs.declared.value.Stop.TheVariants as stops
use Rattle.krb_keytab.specs.Examples.{keytab_octets, entry, keytab}
use Rattle.krb_ccache.specs.Examples.{cache}
use Rattle.krb_files.specs.declared.keytab.writing.KeytabFault.TheVariants as faults
use Rattle.krb_files.specs.KeytabWriting.{written, write_fault}
use Rattle.krb_files.specs.CcacheWriting.{is_too_long}

keytab_written : written keytab ≡ take 49 keytab_octets
keytab_written = refl

keytab_can_be_written : write_fault keytab ≡ None
keytab_can_be_written = refl

-- a keytab with a hole that is not clean cannot be written
hole_dirty : write_fault (record { records = records.Entry entry ∷ records.Hole (record { size = 2; clean = false }) ∷ []; stop = stops.File }) ≡ Some faults.Dirty
hole_dirty = refl

cache_can_be_written : is_too_long cache ≡ false
cache_can_be_written = refl
