-- The laws of what is decoded of a credential cache. Each is the contract of a function of the module `caches`.
use Rattle.std.specs.Prelude.{ℕ, ◌≡◌, ◌≤◌, ◌⊎◌, if◌then◌else◌, not, Bool, false, List, [], ◌∷◌, length, map, Option, None, Some, Result, Ok, Err}
use Rattle.std.specs.List.{AllByRecursion, filter, flat_map}
use Rattle.krb_ccache.specs.Spelling.{is_config}
use Rattle.krb_ccache.specs.Streaming.{credentials, file_start}
use Rattle.krb_ccache.specs.declared.reading.Start.{Start}
use Rattle.krb_ccache.specs.declared.value.Credential.{Credential}
use Rattle.krb_convert.specs.Encoding.{All, encoded}
use Rattle.krb_der.specs.Octets.{AreOctets}
use Rattle.krb_der.specs.declared.profile.Profile.TheVariants.{Lenient}
use Rattle.krb_der.specs.declared.verdict.Refusal.{Refusal}
use Rattle.krb_file.specs.Fields.{Fault, Source}
use Rattle.krb_judge.specs.Parses.{ticket_refusal}
use Rattle.krb_tool.specs.Messages.{ticket_of_der}
use Rattle.krb_decode.specs.Caches.{decoded_cache, field_limit}
use Rattle.krb_decode.specs.Decoded.{is_sealed, ticket_line}
use Rattle.krb_decode_laws.specs.Inputs.{AreTicketsAlike, EndsAsSaid, PrintsLines}
use Rattle.krb_decode_laws.specs.Messages.{value_in}

-- ---- the tickets of a cache
-- the ticket fields of the credentials that are no configuration entries, in order
abbrev pub fields_of : List Credential → List (List ℕ)
fields_of all = map (λ c. c.ticket) (filter (λ c. not (is_config c)) all)

abbrev pub fields_in : (file : List ℕ) → List (List ℕ)
fields_in file = fields_of (credentials field_limit file).items

-- a field is a Ticket whose EncryptedData is encrypted
abbrev pub is_sealed_by : (refusal : Option Refusal) → List ℕ → Bool
is_sealed_by None octets = is_sealed (ticket_of_der octets).enc_part.etype
is_sealed_by (Some refusal) octets = false

abbrev pub is_sealed_ticket : List ℕ → Bool
is_sealed_ticket octets = is_sealed_by (ticket_refusal Lenient octets) octets

abbrev pub field_line : List ℕ → List ℕ
field_line octets = ticket_line (value_in octets)

-- The lines of a cache are those of its sealed Tickets. It ends clean if nothing is said, and only then; and then each credential that is no configuration entry has its line.
pub record DecodesTickets (file : List ℕ) : Type 0 where
  pub lines : (decoded_cache file).lines ≡ flat_map field_line (filter is_sealed_ticket (fields_in file))
  pub end : EndsAsSaid (decoded_cache file)
  pub all : (decoded_cache file).said ≡ [] → filter is_sealed_ticket (fields_in file) ≡ fields_in file

abbrev pub CachesAreDecoded : Type 0
CachesAreDecoded = (file : List ℕ) → DecodesTickets file

-- ---- nothing else of it is decoded
-- of a configuration entry nothing, and of each other credential its ticket field
abbrev pub ticket_in : Credential → Option (List ℕ)
ticket_in c = if is_config c then None else Some c.ticket

-- why a cache is refused before its credentials
abbrev pub start_fault : Result (Start × Source) Fault → Option Fault
start_fault (Ok start) = None
start_fault (Err fault) = Some fault

-- the same, or Tickets that differ in nothing but what is not encrypted
abbrev pub IsFieldAlike : Option (List ℕ) → Option (List ℕ) → Type 0
IsFieldAlike None None = Unit {0}
IsFieldAlike (Some one) (Some other) = (one ≡ other) ⊎ AreTicketsAlike Lenient one other
IsFieldAlike one other = ⊥

abbrev pub AreFieldsAlike : List (Option (List ℕ)) → List (Option (List ℕ)) → Type 0
AreFieldsAlike [] [] = Unit {0}
AreFieldsAlike (one ∷ fields) (other ∷ others) = IsFieldAlike one other × AreFieldsAlike fields others
AreFieldsAlike fields others = ⊥

-- Caches that have alike of this, up to the same end or fault, are decoded alike.
abbrev pub TicketsAloneAreDecoded : Type 0
TicketsAloneAreDecoded =
    (file other : List ℕ) → start_fault (file_start field_limit file) ≡ start_fault (file_start field_limit other)
    → AreFieldsAlike (map ticket_in (credentials field_limit file).items) (map ticket_in (credentials field_limit other).items)
    → (credentials field_limit file).end ≡ (credentials field_limit other).end → decoded_cache file ≡ decoded_cache other

-- ---- lines
abbrev pub CachesAreLines : Type 0
CachesAreLines = (file : List ℕ) → AreOctets file → PrintsLines (decoded_cache file)

-- ---- back again
-- Each line of a cache is encoded to the octets of its Ticket, by itself.
abbrev pub ComesBack : List ℕ → Type 0
ComesBack octets = (limit : ℕ) → length octets ≤ limit → encoded false Lenient limit (field_line octets) ≡ record { text = octets; end = All }

abbrev pub CachesComeBack : Type 0
CachesComeBack = (file : List ℕ) → AreOctets file → AllByRecursion ComesBack (filter is_sealed_ticket (fields_in file))
