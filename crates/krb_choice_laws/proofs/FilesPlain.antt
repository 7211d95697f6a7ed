-- Records of keytabs and of caches, and of Tickets, are of printable texts.
use Rattle.std.proofs.Common.{ℕ, zero, suc, ◌^◌, ◌<◌, ◌==◌, nat_lt, Bool, true, false, Option, Some, None, List, [], ◌∷◌, length, map, refl, codes, if◌then◌else◌}
use Rattle.krb_der.specs.Octets.{AreOctets, when}
use Rattle.krb_der.specs.declared.profile.Profile.TheVariants as profiles
use Rattle.krb_der.specs.declared.verdict.Refusal.{Refusal}
use Rattle.krb_der.specs.inner.Numbers.{AreOctets-drop, AreOctets-take}
use Rattle.krb_source.specs.declared.layer.Layer.{Layer}
use Rattle.krb_keytab.specs.declared.value.Record.{Record}
use Rattle.krb_keytab.specs.declared.value.Record.TheVariants as records
use Rattle.krb_keytab.specs.declared.value.Stop.{Stop}
use Rattle.krb_keytab.specs.declared.value.Stop.TheVariants as stops
use Rattle.krb_msg.specs.Grammar.{kerberos_string, ticket as ticket_type}
use Rattle.krb_msg.specs.Judgement.{Got, Head, head}
use Rattle.krb_msg.specs.Term.{Fits}
use Rattle.krb_msg.specs.Types.{ticket_value}
use Rattle.krb_msg.specs.ValueOfDer.{split_at_head, split_item, split_items, value_of}
use Rattle.krb_msg.specs.declared.ticket.Ticket.{Ticket}
use Rattle.krb_judge.specs.Parses.{ticket_refusal}
use Rattle.krb_ccache.specs.Spelling.{is_config, offset}
use Rattle.krb_ccache.specs.Tickets.{field_state, judged_state, state_of, ticket_read}
use Rattle.krb_ccache.specs.declared.ticket.TicketState.TheVariants as states
use Rattle.krb_ccache.specs.declared.value.Credential.{Credential}
use Rattle.krb_ccache.specs.declared.value.FilePrincipal.{FilePrincipal}
use Rattle.krb_ccache.specs.declared.value.Header.{Header}
use Rattle.krb_record.specs.Origins.{message_origin}
use Rattle.krb_record.specs.Refusals.{told}
use Rattle.krb_record.specs.Text.{AllAreOctets}
use Rattle.krb_record.specs.Time.{file_time, moment_text}
use Rattle.krb_record.specs.Values.{Absent, Field, NoTicket, Quoted, RefusedTicket, Value, Word, count, the, with_origin}
use Rattle.krb_record.specs.declared.form.Form.{Form}
use Rattle.krb_record.proofs.Printable.{word}
use Rattle.krb_record.proofs.Times.{moment}
use Rattle.krb_text.specs.MessageValues.{encrypted}
use Rattle.krb_text.specs.Messages.{ticket_record}
use Rattle.krb_list.specs.Ccaches.{cache_end, cache_record, config_record, credential_record, offset_value, state, state_record, ticket_server, ticketed_record, who_fields}
use Rattle.krb_list.specs.Configs.{config_value, is_shown}
use Rattle.krb_list.specs.Keytabs.{entry_fields, hole_fields, keytab_end, printed_record}
use Rattle.krb_list.specs.Laws.{CredentialIsOfOctets, PrincipalIsOfOctets, RecordIsOfOctets}
use Rattle.krb_text_laws.proofs.EachForm.{IsShown}
use Rattle.krb_text_laws.proofs.FieldsOneLine.{always, of_ticket}
use Rattle.krb_text_laws.proofs.Tuples.{◌&◌}
use Rattle.krb_choice_laws.specs.Plain.{IsPlain}
use Rattle.krb_choice_laws.proofs.RecordsPlain.{end-kind, from-message, of-fields, told-plain}
use Rattle.krb_choice_laws.proofs.RowLines.{all-plain}
use Rattle.krb_choice_laws.proofs.Values.{plain-field, plain-fields}

-- ---- times
time-by : (seconds : ℕ) (is_zero : Bool) → seconds < 2 ^ 32 → IsShown (if is_zero then Absent else Word (moment_text seconds))
time-by seconds true h = tt
time-by seconds false h = (moment seconds h).all

time : (seconds : ℕ) → seconds < 2 ^ 32 → IsShown (file_time seconds)
time seconds h = time-by seconds (seconds == 0) h

-- ---- keytabs
pub record-plain : (r : Record) → RecordIsOfOctets r → IsPlain (printed_record r)
unfolding printed_record
record-plain (records.Entry e) h = of-fields [] (codes "entry") _ tt (word (codes "entry") refl).all (plain-fields (entry_fields e) refl ((h.0, h.1), (tt, (time e.time h.2, (tt, (tt, (tt, (tt, tt))))))))
record-plain (records.Hole hole) h = of-fields [] (codes "hole") _ tt (word (codes "hole") refl).all (plain-fields (hole_fields hole) refl (tt, (tt, tt)))

pub keytab-end : (count : ℕ) (stop : Stop) → IsPlain (keytab_end count stop)
unfolding keytab_end
keytab-end count stops.File = of-fields [] (codes "end") _ tt end-kind (plain-fields (keytab_end count stops.File).fields refl (tt, (tt, tt)))
keytab-end count stops.Zero = of-fields [] (codes "end") _ tt end-kind (plain-fields (keytab_end count stops.Zero).fields refl (tt, (tt, tt)))

-- ---- Tickets
pub ticket-plain : (line : Option ℕ) (layers : List Layer) (t : Ticket) → Fits ticket_type (ticket_value t) → IsPlain (with_origin (message_origin line layers) (ticket_record t))
unfolding ticket_record
ticket-plain line layers t h = of-fields (message_origin line layers) (codes "Ticket") _ (from-message line layers) (word (codes "Ticket") refl).all (plain-fields (ticket_record t).fields refl (of_ticket t h, (tt, (tt, tt))))

-- ---- what is read of octets as a Ticket is octets
contents-at : (h : Head) (octets : List ℕ) → AreOctets octets → AreOctets (split_at_head h octets).contents
contents-at (Got header contents) octets a = AreOctets-take contents _ (AreOctets-drop header octets a)
contents-at other octets a = tt

after-at : (h : Head) (octets : List ℕ) → AreOctets octets → AreOctets (split_at_head h octets).rest
after-at (Got header contents) octets a = AreOctets-drop contents _ (AreOctets-drop header octets a)
after-at other octets a = tt

contents : (octets : List ℕ) → AreOctets octets → AreOctets (split_item octets).contents
contents octets a = contents-at (head (length octets) octets) octets a

after : (octets : List ℕ) → AreOctets octets → AreOctets (split_item octets).rest
after octets a = after-at (head (length octets) octets) octets a

strings : (bound : ℕ) (octets : List ℕ) → AreOctets octets → AllAreOctets (map (value_of kerberos_string) (split_items bound octets))
strings bound [] a = tt
strings zero (o ∷ octets) a = tt
strings (suc bound) (o ∷ octets) a = (contents (o ∷ octets) a, strings bound _ (after (o ∷ octets) a))

-- the fields of a Ticket, from its realm on
from-realm : (octets : List ℕ) → AreOctets octets → AreOctets (split_item (split_item (split_item octets).contents).contents).rest
from-realm octets a = after _ (contents _ (contents octets a))

pub realm : (octets : List ℕ) → AreOctets octets → AreOctets (ticket_read octets).realm
realm octets a = contents _ (contents _ (from-realm octets a))

pub server : (octets : List ℕ) → AreOctets octets → AllAreOctets (ticket_read octets).sname.name
server octets a =
    let name = contents _ (contents _ (after _ (from-realm octets a))) in
    strings _ _ (contents _ (contents _ (after _ name)))

-- ---- caches
pub cache-plain : (header : Header) (p : FilePrincipal) → PrincipalIsOfOctets p → IsPlain (cache_record header p)
unfolding cache_record
cache-plain header p h = of-fields [] (codes "cache") _ tt (word (codes "cache") refl).all (plain-fields (cache_record header p).fields refl (h, (tt, (always offset_value (λ numbers. tt) (offset header), (tt, tt)))))

pub cache-end : (count : ℕ) → IsPlain (cache_end count)
unfolding cache_end
cache-end count = of-fields [] (codes "end") _ tt end-kind (plain-fields (cache_end count).fields refl (tt, tt))

-- ---- credentials
live-by : (is_live : Bool) → IsShown (if is_live then Word (codes "live") else Word (codes "expired"))
live-by true = (word (codes "live") refl).all
live-by false = (word (codes "expired") refl).all

its-state : (now : Option ℕ) (endtime : ℕ) → IsShown (state now endtime)
its-state None endtime = tt
its-state (Some now) endtime = live-by (nat_lt now endtime)

ticketed : (now : Option ℕ) (c : Credential) (ticket server : Value) → CredentialIsOfOctets c → IsShown ticket → IsShown server → IsPlain (ticketed_record now c ticket server)
unfolding ticketed_record
ticketed now c ticket server h its_ticket its_server =
    of-fields [] (codes "cred") _ tt (word (codes "cred") refl).all
    (plain-fields (ticketed_record now c ticket server).fields refl (h.client & h.server & tt & tt & time c.authtime h.authtime & time c.starttime h.starttime & time c.endtime h.endtime
    & time c.renew_till h.renew_till & tt & h.flags & its-state now c.endtime & tt & tt & its_ticket & its_server & tt & tt))

value : (shown : Bool) (c : Credential) → CredentialIsOfOctets c → IsShown (if shown then Quoted c.ticket else Absent)
value true c h = h.ticket
value false c h = tt

abbrev sized : Form → Credential → List Field
sized form c = the (codes "size") (count c.ticket) ∷ told form (the (codes "value") (config_value c) ∷ [])

config : (form : Form) (c : Credential) → CredentialIsOfOctets c → IsPlain (config_record form c)
unfolding config_record config_value
config form c h =
    let size = plain-field (the (codes "size") (count c.ticket)) refl tt in
    of-fields [] (codes "config") _ tt (word (codes "config") refl).all
    (all-plain (who_fields c) (sized form c) (plain-fields (who_fields c) refl (h.client, (h.server, tt))) (size, told-plain form _ (plain-field (the (codes "value") (config_value c)) refl (value (is_shown c.server.components) c h), tt)))

-- by what the ticket field holds
judged : (form : Form) (now : Option ℕ) (c : Credential) (found : Option Refusal) (octets : List ℕ) → CredentialIsOfOctets c → AreOctets octets → IsPlain (state_record form now c (judged_state found octets))
judged form now c None octets h a = ticketed now c (encrypted (ticket_read octets).enc_part) (ticket_server (ticket_read octets)) h tt (server octets a, realm octets a)
judged form now c (Some r) octets h a = ticketed now c (RefusedTicket r) Absent h tt tt

by-field : (form : Form) (now : Option ℕ) (c : Credential) (octets : List ℕ) → CredentialIsOfOctets c → AreOctets octets → IsPlain (state_record form now c (field_state octets))
by-field form now c [] h a = ticketed now c NoTicket Absent h tt tt
by-field form now c (o ∷ octets) h a = judged form now c (ticket_refusal profiles.Lenient (o ∷ octets)) (o ∷ octets) h a

by-kind : (form : Form) (now : Option ℕ) (c : Credential) (is : Bool) → CredentialIsOfOctets c → IsPlain (state_record form now c (when is (λ _. states.Config) (λ _. field_state c.ticket)))
by-kind form now c true h = config form c h
by-kind form now c false h = by-field form now c c.ticket h h.ticket

pub credential-plain : (form : Form) (now : Option ℕ) (c : Credential) → CredentialIsOfOctets c → IsPlain (credential_record form now c)
unfolding credential_record state_of
credential-plain form now c h = by-kind form now c (is_config c) h
