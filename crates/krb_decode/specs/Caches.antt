-- What is decoded of a credential cache: the tickets of its credentials.
use Rattle.std.specs.Prelude.{ℕ, ◌+◌, List, [], ◌∷◌, ◌++◌, length, codes, Option, Some, None, Result, Ok, Err}
use Rattle.krb_der.specs.Octets.{when}
use Rattle.krb_der.specs.declared.profile.Profile.TheVariants as profile
use Rattle.krb_der.specs.declared.verdict.Refusal.{Refusal}
use Rattle.krb_file.specs.Fields.{Source, Fault}
use Rattle.krb_file.specs.declared.field_path.FileItem.TheVariants as item
use Rattle.krb_ccache.specs.Reading.{CacheItems}
use Rattle.krb_ccache.specs.Spelling.{is_config}
use Rattle.krb_ccache.specs.Streaming.{credentials, file_start}
use Rattle.krb_ccache.specs.declared.reading.Start.{Start}
use Rattle.krb_ccache.specs.declared.value.Credential.{Credential}
use Rattle.krb_judge.specs.Parses.{ticket_refusal}
use Rattle.krb_judge.specs.Paths.{element_path}
use Rattle.krb_record.specs.Labels.{no_label}
use Rattle.krb_record.specs.Refusals.{untold_message_refused_line}
use Rattle.krb_record.specs.declared.form.Form.TheVariants as form
use Rattle.krb_run.specs.Extents.{fault_line}
use Rattle.krb_run.specs.Paths.{field_path, file_path}
use Rattle.krb_tool.specs.Messages.{ticket_of_der}
use Rattle.krb_tool.specs.Paths.{ticket_refused_path}
use Rattle.krb_decode.specs.Decoded.{Added, Decoded, accepted, both, decoded_ticket, nothing, refused, said}

-- how many octets a field of a cache may have
abbrev pub field_limit : Option ℕ
field_limit = Some 16777216

-- ---- the ticket field of a credential
abbrev pub refused_field : (origin octets : List ℕ) → Refusal → List ℕ
refused_field origin octets refusal = origin ++ untold_message_refused_line form.NamedLines refusal (ticket_refused_path profile.Lenient octets refusal)

abbrev pub judged_field : (origin octets : List ℕ) → Option Refusal → Added
judged_field origin octets None = decoded_ticket origin (codes "Ticket.enc-part") (ticket_of_der octets)
judged_field origin octets (Some refusal) = said (refused_field origin octets refusal)

abbrev pub absent_field : (origin : List ℕ) → List ℕ
absent_field origin = origin ++ codes "absent\n"

abbrev pub decoded_field : (origin octets : List ℕ) → Added
decoded_field origin [] = said (absent_field origin)
decoded_field origin (octet ∷ octets) = judged_field origin (octet ∷ octets) (ticket_refusal profile.Lenient (octet ∷ octets))

-- ---- credentials, of which the first has an index
abbrev pub credential_opening : (index : ℕ) → List ℕ
credential_opening index = element_path (codes "credential") index ++ codes ".ticket: "

-- a configuration entry has no ticket
unfoldable pub decoded_credential : (index : ℕ) → Credential → Added
decoded_credential index c = when (is_config c) (λ _. nothing) (λ _. decoded_field (credential_opening index) c.ticket)

abbrev pub decoded_credentials : (index : ℕ) → List Credential → Added
decoded_credentials index [] = nothing
decoded_credentials index (c ∷ credentials) = both (decoded_credential index c) (decoded_credentials (index + 1) credentials)

-- ---- a cache
-- what is said of the end after so many credentials: a refusal, as it is listed
abbrev pub said_last : (count : ℕ) → Result ℕ Fault → List ℕ
said_last count (Ok size) = []
said_last count (Err fault) = fault_line (no_label form.NamedLines) fault (file_path (item.Credential count) fault.field)

abbrev pub credentials_decoded : CacheItems Credential → Decoded
credentials_decoded found = accepted (both (decoded_credentials 0 found.items) (said (said_last (length found.items) found.end)))

-- what is before the credentials may be refused
abbrev pub cache_decoded : Result (Start × Source) Fault → CacheItems Credential → Decoded
cache_decoded (Err fault) found = refused (fault_line (no_label form.NamedLines) fault (field_path fault.field))
cache_decoded (Ok start) found = credentials_decoded found

unfoldable pub decoded_cache : (file : List ℕ) → Decoded
decoded_cache file = cache_decoded (file_start field_limit file) (credentials field_limit file)
