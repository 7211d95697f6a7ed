-- The law of what is printed of keytabs and of caches in the form Json, which is the contract of a function of the module `objects`.
use Rattle.std.specs.Prelude.{ℕ, ◌<◌, ◌^◌, Option}
use Rattle.krb_ccache.specs.Spelling.{CredentialFits, HeaderFits, PrincipalFits}
use Rattle.krb_ccache.specs.declared.value.Credential.{Credential}
use Rattle.krb_ccache.specs.declared.value.FilePrincipal.{FilePrincipal}
use Rattle.krb_ccache.specs.declared.value.Header.{Header}
use Rattle.krb_keytab.specs.Holes.{IsHoleSize}
use Rattle.krb_keytab.specs.Spelling.{EntryFits}
use Rattle.krb_keytab.specs.declared.value.Record.{Record}
use Rattle.krb_keytab.specs.declared.value.Record.TheVariants as records
use Rattle.krb_keytab.specs.declared.value.Stop.{Stop}
use Rattle.krb_list.specs.Ccaches.{cache_end, cache_record, credential_record}
use Rattle.krb_list.specs.Keytabs.{keytab_end, printed_record}
use Rattle.krb_record.specs.declared.form.Form.TheVariants as forms
use Rattle.krb_laws.specs.JsonLaws.{PrintsJson}

-- an entry that octets spell, and a hole of a size that holes have
abbrev pub IsRecord : Record → Type 0
IsRecord (records.Entry e) = EntryFits e
IsRecord (records.Hole hole) = IsHoleSize hole.size

-- of a record of a keytab and of its end, of a cache, of a credential, whatever its ticket field has, and of a cache's end
pub record FilesAreJson : Type 0 where
  pub of_record : (r : Record) → IsRecord r → PrintsJson (printed_record r)
  pub end_of_keytab : (count : ℕ) (stop : Stop) → count < 10 ^ 64 → PrintsJson (keytab_end count stop)
  pub cache : (header : Header) (principal : FilePrincipal) → HeaderFits header → PrincipalFits principal → PrintsJson (cache_record header principal)
  pub credential : (now : Option ℕ) (c : Credential) → CredentialFits c → PrintsJson (credential_record forms.Json now c)
  pub end_of_cache : (count : ℕ) → count < 10 ^ 64 → PrintsJson (cache_end count)
