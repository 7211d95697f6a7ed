-- No octet of a key has a part in what is printed of keytabs and of caches.
use Rattle.std.proofs.Common.{◌≡◌, ℕ, true, false, Option, List, [], ◌∷◌, length, map, refl, sym, ap, ap₂, ◌∙◌}
use Rattle.std.proofs.lemmas.List.{length-map}
use Rattle.std.specs.List.{flat_map}
use Rattle.krb_file.proofs.Zeros.{length-zeros}
use Rattle.krb_der.specs.declared.profile.Profile.TheVariants as profiles
use Rattle.krb_msg.specs.Grammar.{ticket}
use Rattle.krb_msg.specs.Term.{der}
use Rattle.krb_msg.specs.Types.{ticket_value}
use Rattle.krb_msg.specs.declared.ticket.Ticket.{Ticket}
use Rattle.krb_judge.specs.Parses.{AreOfTicket}
use Rattle.krb_keytab.specs.declared.value.Keytab.{Keytab}
use Rattle.krb_keytab.specs.declared.value.Record.{Record}
use Rattle.krb_keytab.specs.declared.value.Record.TheVariants as records
use Rattle.krb_keytab.specs.Spelling.{masked, masked_record}
use Rattle.krb_ccache.specs.declared.value.Cache3.{Cache3}
use Rattle.krb_ccache.specs.declared.value.Ccache.{Ccache}
use Rattle.krb_ccache.specs.declared.value.Credential.{Credential}
use Rattle.krb_ccache.specs.declared.value.Credential3.{Credential3}
use Rattle.krb_ccache.specs.declared.ticket.TicketState.{TicketState}
use Rattle.krb_ccache.specs.declared.ticket.TicketState.TheVariants as states
use Rattle.krb_ccache.proofs.Tickets.{state-ticket}
use Rattle.krb_ccache.specs.Spelling.{is_config, masked as masked_cache, masked_credential, masked3, masked_credential3, upgraded, no_header}
use Rattle.krb_ccache.specs.Tickets.{state_of}
use Rattle.krb_record.specs.declared.form.Form.{Form}
use Rattle.krb_record.specs.Forms.{record_line}
use Rattle.krb_text.specs.Masks.{masked_ticket}
use Rattle.krb_text.specs.MessageValues.{encrypted}
use Rattle.krb_record.specs.Values.{Printed, Value}
use Rattle.krb_text_laws.proofs.TextMasks.{encrypted-same}
use Rattle.krb_list.specs.Keytabs.{printed_record, keytab_lines}
use Rattle.krb_list.specs.Configs.{config_value, is_shown}
use Rattle.krb_list.specs.Ccaches.{ticketed_record, config_record, ticket_server, state_record, credential_record, ccache_lines}
use Rattle.krb_list.specs.Laws.{ConfigValueIsNotShown, TicketCipherIsNotShown}

-- values of the same records have the same lines
same_lines : {A : Type 0} (mask : A → A) (record_of : A → Printed) → ((a : A) → record_of (mask a) ≡ record_of a) → (form : Form) (values : List A) → flat_map (λ a. record_line form (record_of a)) (map mask values) ≡ flat_map (λ a. record_line form (record_of a)) values
same_lines mask record_of same form [] = refl
same_lines mask record_of same form (a ∷ others) = rw (same a, same_lines mask record_of same form others) refl

-- ---- keytabs
pub same_record : (r : Record) → printed_record (masked_record r) ≡ printed_record r
unfolding printed_record
same_record (records.Entry e) = rw (length-zeros (length e.key)) refl
same_record (records.Hole hole) = refl

pub same_keytab : (form : Form) (v : Keytab) → keytab_lines form (masked v) ≡ keytab_lines form v
same_keytab form v = rw (same_lines masked_record printed_record same_record form v.records, length-map v.records masked_record) refl

-- ---- caches
same_ticketed : (now : Option ℕ) (c : Credential) (ticket server : Value) → ticketed_record now (masked_credential c) ticket server ≡ ticketed_record now c ticket server
unfolding ticketed_record
same_ticketed now c its_ticket its_server = rw (length-zeros (length c.key)) refl

same_in_state : (form : Form) (now : Option ℕ) (c : Credential) (state : TicketState) → state_record form now (masked_credential c) state ≡ state_record form now c state
unfolding config_record config_value
same_in_state form now c states.Config = refl
same_in_state form now c states.Absent = same_ticketed now c _ _
same_in_state form now c (states.Ticket t) = same_ticketed now c _ _
same_in_state form now c (states.Refused r) = same_ticketed now c _ _

pub same_credential : (form : Form) (now : Option ℕ) (c : Credential) → credential_record form now (masked_credential c) ≡ credential_record form now c
unfolding credential_record state_of
same_credential form now c = same_in_state form now c (state_of c)

pub same_cache : (form : Form) (now : Option ℕ) (v : Ccache) → ccache_lines form now (masked_cache v) ≡ ccache_lines form now v
unfolding ccache_lines
same_cache form now v = rw (same_lines masked_credential (credential_record form now) (same_credential form now) form v.credentials, length-map v.credentials masked_credential) refl

-- masked and then upgraded, or upgraded and then masked
masked_upgraded : (cs : List Credential3) → map (λ c. c.credential) (map masked_credential3 cs) ≡ map masked_credential (map (λ c. c.credential) cs)
masked_upgraded [] = refl
masked_upgraded (c ∷ cs) = ap (λ (others : List Credential). masked_credential c.credential ∷ others) (masked_upgraded cs)

pub same_cache3 : (form : Form) (now : Option ℕ) (v : Cache3) → ccache_lines form now (upgraded (masked3 v)) ≡ ccache_lines form now (upgraded v)
same_cache3 form now v =
    ap (λ (cs : List Credential). let cache : Ccache = record { header = no_header; principal = v.principal; credentials = cs } in ccache_lines form now cache) (masked_upgraded v.credentials)
    ∙ same_cache form now (upgraded v)

-- ---- the cipher of a ticket
some_ticket : (octets : List ℕ) (t : Ticket) → AreOfTicket profiles.Lenient octets t → octets ≡ [] → ⊥
some_ticket octets t are none = let no : der ticket (ticket_value t) ≡ [] = are.form ∙ none in cc

encrypted_of_masked : (t u : Ticket) → masked_ticket u ≡ masked_ticket t → encrypted u.enc_part ≡ encrypted t.enc_part
encrypted_of_masked t u same = sym (encrypted-same u.enc_part) ∙ ap (λ (x : Ticket). encrypted x.enc_part) same ∙ encrypted-same t.enc_part

server_of_masked : (t u : Ticket) → masked_ticket u ≡ masked_ticket t → ticket_server u ≡ ticket_server t
server_of_masked t u same = ap (λ (x : Ticket). ticket_server x) same

-- all but the ticket is shown alike
other_ticketed : (now : Option ℕ) (c : Credential) (other : List ℕ) (its_ticket its_server : Value) → ticketed_record now (record c { ticket = other }) its_ticket its_server ≡ ticketed_record now c its_ticket its_server
unfolding ticketed_record
other_ticketed now c other its_ticket its_server = refl

other_config : (form : Form) (c : Credential) (other : List ℕ) → is_shown c.server.components ≡ false → length other ≡ length c.ticket → config_record form (record c { ticket = other }) ≡ config_record form c
unfolding config_record config_value
other_config form c other hidden len = rw (hidden, len) refl

config_state : (c : Credential) → is_config c ≡ true → state_of c ≡ states.Config
unfolding state_of
config_state c e = rw e refl

pub same_ticket : TicketCipherIsNotShown
unfolding credential_record
same_ticket form now c other t u e are are_other same =
    ap (state_record form now (record c { ticket = other })) (sym (state-ticket (record c { ticket = other }) u e (some_ticket other u are_other) are_other))
    ∙ other_ticketed now c other (encrypted u.enc_part) (ticket_server u)
    ∙ ap₂ (ticketed_record now c) (encrypted_of_masked t u same) (server_of_masked t u same)
    ∙ ap (state_record form now c) (state-ticket c t e (some_ticket c.ticket t are) are)

-- ---- the value of a configuration entry
pub other_value : ConfigValueIsNotShown
unfolding credential_record
other_value form now c other e hidden len =
    ap (state_record form now (record c { ticket = other })) (config_state (record c { ticket = other }) e)
    ∙ other_config form c other hidden len
    ∙ sym (ap (state_record form now c) (config_state c e))
