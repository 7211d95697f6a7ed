-- What a listing of a keytab or of a credential cache prints, with a label.
use Rattle.std.specs.Prelude.{ℕ, Option, List}
use Rattle.krb_ccache.specs.declared.value.Credential.{Credential}
use Rattle.krb_ccache.specs.declared.value.FilePrincipal.{FilePrincipal}
use Rattle.krb_ccache.specs.declared.value.Header.{Header}
use Rattle.krb_keytab.specs.declared.value.Record.{Record}
use Rattle.krb_keytab.specs.declared.value.Stop.{Stop}
use Rattle.krb_record.specs.Labels.{Label, line_of}
use Rattle.krb_list.specs.Ccaches.{cache_end, cache_record, credential_record}
use Rattle.krb_list.specs.Keytabs.{keytab_end, printed_record}

abbrev pub record_line : Label → Record → List ℕ
record_line label r = line_of label (printed_record r)

abbrev pub keytab_end_line : Label → ℕ → Stop → List ℕ
keytab_end_line label n stop = line_of label (keytab_end n stop)

abbrev pub cache_line : Label → Header → FilePrincipal → List ℕ
cache_line label header principal = line_of label (cache_record header principal)

abbrev pub credential_line : Label → Option ℕ → Credential → List ℕ
credential_line label now c = line_of label (credential_record label.form now c)

abbrev pub cache_end_line : Label → ℕ → List ℕ
cache_end_line label n = line_of label (cache_end n)
