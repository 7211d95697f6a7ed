-- What is printed of keytabs and of caches is one line each.
use Rattle.std.proofs.Common.{ℕ, zero, suc, ◌^◌, ◌<◌, ◌==◌, nat_lt, Bool, true, false, Option, Some, None, List, [], ◌∷◌, length, map, refl, codes, if◌then◌else◌}
use Rattle.krb_der.specs.declared.profile.Profile.TheVariants as profiles
use Rattle.krb_der.specs.Octets.{AreOctets, when}
use Rattle.krb_der.specs.inner.Numbers.{AreOctets-take, AreOctets-drop}
use Rattle.krb_der.specs.declared.verdict.Refusal.{Refusal}
use Rattle.krb_msg.specs.Grammar.{kerberos_string}
use Rattle.krb_msg.specs.Judgement.{Head, Got, head}
use Rattle.krb_msg.specs.ValueOfDer.{split_at_head, split_item, split_items, value_of}
use Rattle.krb_judge.specs.Parses.{ticket_refusal}
use Rattle.krb_keytab.specs.declared.value.Record.{Record}
use Rattle.krb_keytab.specs.declared.value.Record.TheVariants as records
use Rattle.krb_keytab.specs.declared.value.Stop.{Stop}
use Rattle.krb_keytab.specs.declared.value.Stop.TheVariants as stops
use Rattle.krb_ccache.specs.declared.value.Credential.{Credential}
use Rattle.krb_ccache.specs.declared.value.FilePrincipal.{FilePrincipal}
use Rattle.krb_ccache.specs.declared.value.Header.{Header}
use Rattle.krb_ccache.specs.declared.ticket.TicketState.TheVariants as states
use Rattle.krb_ccache.specs.Spelling.{offset, is_config}
use Rattle.krb_ccache.specs.Tickets.{ticket_read, judged_state, field_state, state_of}
use Rattle.krb_record.specs.declared.form.Base.{Base}
use Rattle.krb_record.specs.declared.form.Base.TheVariants as bases
use Rattle.krb_record.specs.Forms.{form_of, record_line}
use Rattle.krb_record.specs.Laws.{IsOneLine}
use Rattle.krb_list.specs.Laws.{RecordIsOfOctets, PrincipalIsOfOctets, CredentialIsOfOctets}
use Rattle.krb_record.specs.Text.{AllAreOctets}
use Rattle.krb_record.specs.Time.{file_time, moment_text}
use Rattle.krb_text.specs.MessageValues.{encrypted}
use Rattle.krb_record.specs.Values.{Value, Absent, NoTicket, Quoted, Word, RefusedTicket}
use Rattle.krb_list.specs.Keytabs.{printed_record, keytab_end}
use Rattle.krb_list.specs.Configs.{config_value, is_shown}
use Rattle.krb_list.specs.Ccaches.{offset_value, cache_record, state, ticket_server, ticketed_record, config_record, state_record, credential_record, cache_end}
use Rattle.krb_text_laws.proofs.EachForm.{IsShown}
use Rattle.krb_text_laws.proofs.EndOneLine.{one_line}
use Rattle.krb_text_laws.proofs.FieldsOneLine.{always}
use Rattle.krb_record.proofs.Printable.{word}
use Rattle.krb_record.proofs.Times.{moment}
use Rattle.krb_text_laws.proofs.Tuples.{◌&◌}

-- ---- times
time_by : (seconds : ℕ) (is_zero : Bool) → seconds < 2 ^ 32 → IsShown (if is_zero then Absent else Word (moment_text seconds))
time_by seconds true h = tt
time_by seconds false h = (moment seconds h).all

time : (seconds : ℕ) → seconds < 2 ^ 32 → IsShown (file_time seconds)
time seconds h = time_by seconds (seconds == 0) h

-- ---- keytabs
pub record_shown : (base : Base) (r : Record) → RecordIsOfOctets r → IsOneLine (record_line (form_of base) (printed_record r))
unfolding printed_record
record_shown base (records.Entry e) h = one_line base (printed_record (records.Entry e)) refl refl ((h.0, h.1), (tt, (time e.time h.2, (tt, (tt, (tt, (tt, tt)))))))
record_shown base (records.Hole hole) h = one_line base (printed_record (records.Hole hole)) refl refl (tt, (tt, tt))

pub keytab_end_shown : (base : Base) (count : ℕ) (stop : Stop) → IsOneLine (record_line (form_of base) (keytab_end count stop))
unfolding keytab_end
keytab_end_shown base count stops.File = one_line base (keytab_end count stops.File) refl refl (tt, (tt, tt))
keytab_end_shown base count stops.Zero = one_line base (keytab_end count stops.Zero) refl refl (tt, (tt, tt))

-- ---- what is read of octets is octets
contents_at : (h : Head) (octets : List ℕ) → AreOctets octets → AreOctets (split_at_head h octets).contents
contents_at (Got header contents) octets a = AreOctets-take contents _ (AreOctets-drop header octets a)
contents_at other octets a = tt

after_at : (h : Head) (octets : List ℕ) → AreOctets octets → AreOctets (split_at_head h octets).rest
after_at (Got header contents) octets a = AreOctets-drop contents _ (AreOctets-drop header octets a)
after_at other octets a = tt

contents : (octets : List ℕ) → AreOctets octets → AreOctets (split_item octets).contents
contents octets a = contents_at (head (length octets) octets) octets a

after : (octets : List ℕ) → AreOctets octets → AreOctets (split_item octets).rest
after octets a = after_at (head (length octets) octets) octets a

strings : (bound : ℕ) (octets : List ℕ) → AreOctets octets → AllAreOctets (map (value_of kerberos_string) (split_items bound octets))
strings bound [] a = tt
strings zero (o ∷ octets) a = tt
strings (suc bound) (o ∷ octets) a = (contents (o ∷ octets) a, strings bound _ (after (o ∷ octets) a))

-- the fields of a Ticket, from its realm on
ticket_fields : (octets : List ℕ) → AreOctets octets → AreOctets (split_item (split_item (split_item octets).contents).contents).rest
ticket_fields octets a = after _ (contents _ (contents octets a))

realm : (octets : List ℕ) → AreOctets octets → AreOctets (ticket_read octets).realm
realm octets a = contents _ (contents _ (ticket_fields octets a))

server : (octets : List ℕ) → AreOctets octets → AllAreOctets (ticket_read octets).sname.name
server octets a =
    let name = contents _ (contents _ (after _ (ticket_fields octets a))) in
    strings _ _ (contents _ (contents _ (after _ name)))

-- ---- caches
pub cache_shown : (base : Base) (header : Header) (p : FilePrincipal) → PrincipalIsOfOctets p → IsOneLine (record_line (form_of base) (cache_record header p))
unfolding cache_record
cache_shown base header p h = one_line base (cache_record header p) refl refl (h, (tt, (always offset_value (λ numbers. tt) (offset header), (tt, tt))))

pub cache_end_shown : (base : Base) (count : ℕ) → IsOneLine (record_line (form_of base) (cache_end count))
unfolding cache_end
cache_end_shown base count = one_line base (cache_end count) refl refl (tt, tt)

live_by : (is_live : Bool) → IsShown (if is_live then Word (codes "live") else Word (codes "expired"))
live_by true = (word (codes "live") refl).all
live_by false = (word (codes "expired") refl).all

its_state : (now : Option ℕ) (endtime : ℕ) → IsShown (state now endtime)
its_state None endtime = tt
its_state (Some now) endtime = live_by (nat_lt now endtime)

ticketed : (base : Base) (now : Option ℕ) (c : Credential) (ticket server : Value) → CredentialIsOfOctets c → IsShown ticket → IsShown server → IsOneLine (record_line (form_of base) (ticketed_record now c ticket server))
unfolding ticketed_record
ticketed base now c ticket server h its_ticket its_server =
    one_line base (ticketed_record now c ticket server) refl refl (h.client & h.server & tt & tt & time c.authtime h.authtime & time c.starttime h.starttime & time c.endtime h.endtime
    & time c.renew_till h.renew_till & tt & h.flags & its_state now c.endtime & tt & tt & its_ticket & its_server & tt & tt)

value : (shown : Bool) (c : Credential) → CredentialIsOfOctets c → IsShown (if shown then Quoted c.ticket else Absent)
value true c h = h.ticket
value false c h = tt

config : (base : Base) (c : Credential) → CredentialIsOfOctets c → IsOneLine (record_line (form_of base) (config_record (form_of base) c))
unfolding config_record config_value
config bases.Lines c h = one_line bases.Lines (config_record (form_of bases.Lines) c) refl refl (h.client, (h.server, (tt, tt)))
config bases.NamedLines c h = one_line bases.NamedLines (config_record (form_of bases.NamedLines) c) refl refl (h.client, (h.server, (tt, (value (is_shown c.server.components) c h, tt))))
config bases.Json c h = one_line bases.Json (config_record (form_of bases.Json) c) refl refl (h.client, (h.server, (tt, (value (is_shown c.server.components) c h, tt))))

-- by what the ticket field holds
judged : (base : Base) (now : Option ℕ) (c : Credential) (found : Option Refusal) (octets : List ℕ) → CredentialIsOfOctets c → AreOctets octets → IsOneLine (record_line (form_of base) (state_record (form_of base) now c (judged_state found octets)))
judged base now c None octets h a =
    ticketed base now c (encrypted (ticket_read octets).enc_part) (ticket_server (ticket_read octets)) h tt (server octets a, realm octets a)
judged base now c (Some r) octets h a = ticketed base now c (RefusedTicket r) Absent h tt tt

ticket_field : (base : Base) (now : Option ℕ) (c : Credential) (octets : List ℕ) → CredentialIsOfOctets c → AreOctets octets → IsOneLine (record_line (form_of base) (state_record (form_of base) now c (field_state octets)))
ticket_field base now c [] h a = ticketed base now c NoTicket Absent h tt tt
ticket_field base now c (o ∷ octets) h a = judged base now c (ticket_refusal profiles.Lenient (o ∷ octets)) (o ∷ octets) h a

by_kind : (base : Base) (now : Option ℕ) (c : Credential) (is : Bool) → CredentialIsOfOctets c → IsOneLine (record_line (form_of base) (state_record (form_of base) now c (when is (λ _. states.Config) (λ _. field_state c.ticket))))
by_kind base now c true h = config base c h
by_kind base now c false h = ticket_field base now c c.ticket h h.ticket

pub credential_shown : (base : Base) (now : Option ℕ) (c : Credential) → CredentialIsOfOctets c → IsOneLine (record_line (form_of base) (credential_record (form_of base) now c))
unfolding credential_record state_of
credential_shown base now c h = by_kind base now c (is_config c) h
