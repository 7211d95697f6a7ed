-- What is printed of a credential cache.
use Rattle.std.specs.Prelude.{ℕ, ℤ, pos, nat_lt, Option, Some, None, List, [], ◌∷◌, ◌++◌, length, codes, if◌then◌else◌}
use Rattle.std.specs.List.{flat_map}
use Rattle.krb_msg.specs.declared.ticket.Ticket.{Ticket}
use Rattle.krb_ccache.specs.declared.value.Ccache.{Ccache}
use Rattle.krb_ccache.specs.declared.value.Credential.{Credential}
use Rattle.krb_ccache.specs.declared.value.FilePrincipal.{FilePrincipal}
use Rattle.krb_ccache.specs.declared.value.Header.{Header}
use Rattle.krb_ccache.specs.declared.ticket.TicketState.{TicketState}
use Rattle.krb_ccache.specs.declared.ticket.TicketState.TheVariants as states
use Rattle.krb_ccache.specs.Spelling.{offset}
use Rattle.krb_ccache.specs.Tickets.{state_of}
use Rattle.krb_list.specs.Configs.{config_value}
use Rattle.krb_registry.specs.declared.registry.Registry.TheVariants as registries
use Rattle.krb_record.specs.declared.form.Form.{Form}
use Rattle.krb_record.specs.Forms.{record_line}
use Rattle.krb_record.specs.Refusals.{told}
use Rattle.krb_record.specs.Time.{file_time}
use Rattle.krb_text.specs.MessageValues.{encrypted}
use Rattle.krb_record.specs.Values.{Value, Absent, NoTicket, Number, Named, Word, TicketFlags, Principal, Offset, RefusedTicket, Field, Printed, the, printed, if_there, count}

abbrev pub file_principal : FilePrincipal → Value
file_principal p = Principal p.name_type p.components p.realm

-- ---- the cache
-- seconds and microseconds
abbrev pub offset_value : ℤ × ℤ → Value
offset_value numbers = Offset numbers.0 numbers.1

unfoldable pub cache_record : Header → FilePrincipal → Printed
cache_record header principal =
    printed (codes "cache") (the (codes "principal") (file_principal principal)
    ∷ the (codes "type") (Named registries.NameTypes principal.name_type)
    ∷ the (codes "offset") (if_there offset_value (offset header))
    ∷ the (codes "fields") (count header.fields)
    ∷ [])

-- ---- credentials
abbrev pub who_fields : Credential → List Field
who_fields c = the (codes "client") (file_principal c.client) ∷ the (codes "server") (file_principal c.server) ∷ []

-- whether a credential that ends then has ended now, if a now is given
abbrev pub state : Option ℕ → ℕ → Value
state None endtime = Absent
state (Some now) endtime = if nat_lt now endtime then Word (codes "live") else Word (codes "expired")

-- of the key, the number of octets alone
abbrev pub key_fields : Credential → List Field
key_fields c = the (codes "enctype") (Named registries.EncryptionTypes (pos c.enctype)) ∷ the (codes "key") (count c.key) ∷ []

abbrev pub times_fields : Credential → List Field
times_fields c =
    the (codes "auth") (file_time c.authtime)
    ∷ the (codes "start") (file_time c.starttime)
    ∷ the (codes "end") (file_time c.endtime)
    ∷ the (codes "renew") (file_time c.renew_till)
    ∷ []

abbrev pub flags_fields : Option ℕ → Credential → List Field
flags_fields now c =
    the (codes "skey") (Number (pos c.is_skey))
    ∷ the (codes "flags") (TicketFlags c.flags)
    ∷ the (codes "state") (state now c.endtime)
    ∷ []

abbrev pub counts_fields : Credential → List Field
counts_fields c = the (codes "addresses") (count c.addresses) ∷ the (codes "authdata") (count c.authdata) ∷ []

-- the ticket, its server, and the size of the second ticket
abbrev pub tickets_fields : Credential → Value → Value → List Field
tickets_fields c ticket server =
    the (codes "ticket") ticket
    ∷ the (codes "tserver") server
    ∷ the (codes "second") (count c.second_ticket)
    ∷ []

unfoldable pub ticketed_record : Option ℕ → Credential → Value → Value → Printed
ticketed_record now c ticket server =
    printed (codes "cred") (who_fields c ++ key_fields c ++ times_fields c ++ flags_fields now c ++ counts_fields c ++ tickets_fields c ticket server)

-- of a configuration entry's value the number of octets, and, told, the value if it is one that is shown
unfoldable pub config_record : Form → Credential → Printed
config_record form c = printed (codes "config") (who_fields c ++ the (codes "size") (count c.ticket) ∷ told form (the (codes "value") (config_value c) ∷ []))

abbrev pub ticket_server : Ticket → Value
ticket_server t = Principal t.sname.name_type t.sname.name t.realm

-- by what the ticket field holds
abbrev pub state_record : Form → Option ℕ → Credential → TicketState → Printed
state_record form now c states.Config = config_record form c
state_record form now c states.Absent = ticketed_record now c NoTicket Absent
state_record form now c (states.Ticket t) = ticketed_record now c (encrypted t.enc_part) (ticket_server t)
state_record form now c (states.Refused r) = ticketed_record now c (RefusedTicket r) Absent

unfoldable pub credential_record : Form → Option ℕ → Credential → Printed
credential_record form now c = state_record form now c (state_of c)

-- ---- all in order
unfoldable pub cache_end : ℕ → Printed
cache_end count = printed (codes "end") (the (codes "credentials") (Number (pos count)) ∷ [])

abbrev pub credential_lines : Form → Option ℕ → List Credential → List ℕ
credential_lines form now cs = flat_map (λ c. record_line form (credential_record form now c)) cs

unfoldable pub ccache_lines : Form → Option ℕ → Ccache → List ℕ
ccache_lines form now v =
    record_line form (cache_record v.header v.principal)
    ++ credential_lines form now v.credentials
    ++ record_line form (cache_end (length v.credentials))
