-- In rows of keytabs and caches a cell is what the object says.
use Rattle.std.proofs.Common.{ℕ, ◌^◌, ◌<◌, ◌==◌, nat_lt, Bool, true, false, Option, Some, None, List, [], ◌∷◌, refl, codes, if◌then◌else◌}
use Rattle.krb_der.specs.Octets.{AreOctets, when}
use Rattle.krb_der.specs.declared.profile.Profile.TheVariants as profiles
use Rattle.krb_der.specs.declared.verdict.Refusal.{Refusal}
use Rattle.krb_keytab.specs.declared.value.Record.{Record}
use Rattle.krb_keytab.specs.declared.value.Record.TheVariants as records
use Rattle.krb_keytab.specs.declared.value.Stop.{Stop}
use Rattle.krb_keytab.specs.declared.value.Stop.TheVariants as stops
use Rattle.krb_judge.specs.Parses.{ticket_refusal}
use Rattle.krb_ccache.specs.Spelling.{is_config, offset}
use Rattle.krb_ccache.specs.Tickets.{field_state, judged_state, state_of, ticket_read}
use Rattle.krb_ccache.specs.declared.ticket.TicketState.TheVariants as states
use Rattle.krb_ccache.specs.declared.value.Credential.{Credential}
use Rattle.krb_ccache.specs.declared.value.FilePrincipal.{FilePrincipal}
use Rattle.krb_ccache.specs.declared.value.Header.{Header}
use Rattle.krb_record.specs.Time.{file_time, moment_text}
use Rattle.krb_record.specs.Values.{Absent, NoTicket, Quoted, RefusedTicket, Value, Word, if_there}
use Rattle.krb_record.specs.declared.form.Form.TheVariants.{Json}
use Rattle.krb_text.specs.MessageValues.{encrypted}
use Rattle.krb_list.specs.Ccaches.{cache_end, cache_record, config_record, credential_record, offset_value, state, state_record, ticket_server, ticketed_record}
use Rattle.krb_list.specs.Configs.{config_value, is_shown}
use Rattle.krb_list.specs.Keytabs.{keytab_end, printed_record}
use Rattle.krb_list.specs.Laws.{CredentialIsOfOctets, PrincipalIsOfOctets, RecordIsOfOctets}
use Rattle.krb_text_laws.proofs.Tuples.{◌&◌}
use Rattle.krb_choice_laws.specs.Cells.{Speaks}
use Rattle.krb_choice_laws.specs.Messages.{SaysAll}
use Rattle.krb_choice_laws.specs.Says.{FilesSayObjects}
use Rattle.krb_choice_laws.proofs.FilesPlain.{realm, server}
use Rattle.krb_choice_laws.proofs.RecordsSay.{says}
use Rattle.krb_choice_laws.proofs.TimeWords.{moment}

-- ---- times
time-by : (seconds : ℕ) (is_zero : Bool) → seconds < 2 ^ 32 → Speaks (if is_zero then Absent else Word (moment_text seconds))
time-by seconds true h = tt
time-by seconds false h = moment seconds h

time : (seconds : ℕ) → seconds < 2 ^ 32 → Speaks (file_time seconds)
time seconds h = time-by seconds (seconds == 0) h

-- ---- keytabs
record-says : (r : Record) → RecordIsOfOctets r → SaysAll (printed_record r)
unfolding printed_record
record-says (records.Entry e) h = says (printed_record (records.Entry e)) refl ((h.0, h.1), (tt, (time e.time h.2, (tt, (tt, (tt, (tt, tt)))))))
record-says (records.Hole hole) h = says (printed_record (records.Hole hole)) refl (tt, (tt, tt))

keytab-says : (count : ℕ) (stop : Stop) → SaysAll (keytab_end count stop)
unfolding keytab_end
keytab-says count stops.File = says (keytab_end count stops.File) refl (tt, (tt, tt))
keytab-says count stops.Zero = says (keytab_end count stops.Zero) refl (tt, (tt, tt))

-- ---- caches
offset-speaks : (header : Header) → Speaks (if_there offset_value (offset header))
offset-speaks header = by (offset header)
  where
    by : (found : Option _) → Speaks (if_there offset_value found)
    by None = tt
    by (Some numbers) = tt

cache-says : (header : Header) (p : FilePrincipal) → PrincipalIsOfOctets p → SaysAll (cache_record header p)
unfolding cache_record
cache-says header p h = says (cache_record header p) refl (h, (tt, (offset-speaks header, (tt, tt))))

cache-ends : (count : ℕ) → SaysAll (cache_end count)
unfolding cache_end
cache-ends count = says (cache_end count) refl (tt, tt)

-- ---- credentials
live-by : (is_live : Bool) → Speaks (if is_live then Word (codes "live") else Word (codes "expired"))
live-by true = refl
live-by false = refl

its-state : (now : Option ℕ) (endtime : ℕ) → Speaks (state now endtime)
its-state None endtime = tt
its-state (Some now) endtime = live-by (nat_lt now endtime)

ticketed : (now : Option ℕ) (c : Credential) (ticket server : Value) → CredentialIsOfOctets c → Speaks ticket → Speaks server → SaysAll (ticketed_record now c ticket server)
unfolding ticketed_record
ticketed now c ticket server h its_ticket its_server =
    says (ticketed_record now c ticket server) refl (h.client & h.server & tt & tt & time c.authtime h.authtime & time c.starttime h.starttime & time c.endtime h.endtime
    & time c.renew_till h.renew_till & tt & h.flags & its-state now c.endtime & tt & tt & its_ticket & its_server & tt & tt)

value : (shown : Bool) (c : Credential) → CredentialIsOfOctets c → Speaks (if shown then Quoted c.ticket else Absent)
value true c h = h.ticket
value false c h = tt

config : (c : Credential) → CredentialIsOfOctets c → SaysAll (config_record Json c)
unfolding config_record config_value
config c h = says (config_record Json c) refl (h.client, (h.server, (tt, (value (is_shown c.server.components) c h, tt))))

-- by what the ticket field holds
judged : (now : Option ℕ) (c : Credential) (found : Option Refusal) (octets : List ℕ) → CredentialIsOfOctets c → AreOctets octets → SaysAll (state_record Json now c (judged_state found octets))
judged now c None octets h a = ticketed now c (encrypted (ticket_read octets).enc_part) (ticket_server (ticket_read octets)) h tt (server octets a, realm octets a)
judged now c (Some r) octets h a = ticketed now c (RefusedTicket r) Absent h tt tt

by-field : (now : Option ℕ) (c : Credential) (octets : List ℕ) → CredentialIsOfOctets c → AreOctets octets → SaysAll (state_record Json now c (field_state octets))
by-field now c [] h a = ticketed now c NoTicket Absent h tt tt
by-field now c (o ∷ octets) h a = judged now c (ticket_refusal profiles.Lenient (o ∷ octets)) (o ∷ octets) h a

by-kind : (now : Option ℕ) (c : Credential) (is : Bool) → CredentialIsOfOctets c → SaysAll (state_record Json now c (when is (λ _. states.Config) (λ _. field_state c.ticket)))
by-kind now c true h = config c h
by-kind now c false h = by-field now c c.ticket h h.ticket

credential-says : (now : Option ℕ) (c : Credential) → CredentialIsOfOctets c → SaysAll (credential_record Json now c)
unfolding credential_record state_of
credential-says now c h = by-kind now c (is_config c) h

pub files-say : FilesSayObjects
files-say = record { record_is = record-says; keytab = keytab-says; cache = cache-says; credential = credential-says; credentials = cache-ends }
