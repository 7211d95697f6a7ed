-- What is printed of keytabs and caches, computed.
use Rattle.std.specs.Prelude.{pos, true, Some, ◌≡◌, [], ◌∷◌, refl, codes}
use Rattle.std.specs.Fmt.{digits}
use Rattle.krb_keytab.specs.declared.value.Entry.{Entry}
use Rattle.krb_keytab.specs.declared.value.Keytab.{Keytab}
use Rattle.krb_keytab.specs.declared.value.Record.TheVariants as records
use Rattle.krb_keytab.specs.declared.value.Stop.TheVariants as stops
use Rattle.krb_ccache.specs.declared.value.Credential.{Credential}
use Rattle.krb_ccache.specs.declared.value.FilePrincipal.{FilePrincipal}
use Rattle.krb_ccache.specs.Tickets.{state_of}
use Rattle.krb_registry.specs.Rows.{rows, name_in, name_of}
use Rattle.krb_record.specs.declared.form.Form.TheVariants.{Lines, NamedLines, Json}
use Rattle.krb_list.specs.Configs.{config_value}
use Rattle.krb_list.specs.Ccaches.{cache_end, cache_record, config_record, credential_record, state, ticketed_record}
use Rattle.krb_record.specs.Forms.{closing, json_value, labelled, members, named_flags_text, names_member, opening, record_text, set_names, unnamed, value_text}
use Rattle.krb_list.specs.Keytabs.{keytab_end, keytab_lines, printed_record}
use Rattle.krb_record.specs.TicketFlags.{ticket_flags_text, names_text, flag_name, eight_hex}
use Rattle.krb_record.specs.Text.{principal_text}
use Rattle.krb_record.specs.Time.{civil_date, date_from, date_in_year, two_digits, date_text, clock_text}
use Rattle.krb_record.specs.Values.{Word}

-- a key of h@A, version 258
abbrev pub entry : Entry
entry = record { realm = codes "A"; components = codes "h" ∷ []; name_type = pos 1; time = 946684800; vno8 = 2; enctype = 18; key = 0xAB ∷ 0xCD ∷ []; rest = 0 ∷ 0 ∷ 1 ∷ 2 ∷ [] }

abbrev a_keytab : Keytab
a_keytab = record { records = records.Entry entry ∷ records.Hole (record { size = 8; clean = true }) ∷ []; stop = stops.Zero }

keytab : keytab_lines Lines a_keytab ≡ codes "entry principal=h@A type=1 time=2000-01-01T00:00:00Z kvno=258 enctype=18 key=2 rest=4\nhole size=8 clean=yes\nend records=2 zero=yes\n"
unfolding digits principal_text civil_date date_from date_in_year two_digits date_text clock_text printed_record keytab_end opening closing labelled record_text value_text
keytab = refl

named_keytab : keytab_lines NamedLines a_keytab ≡ codes "entry principal=h@A type=1:NT-PRINCIPAL time=2000-01-01T00:00:00Z kvno=258 enctype=18:aes256-cts-hmac-sha1-96 key=2 rest=4\nhole size=8 clean=yes\nend records=2 zero=yes\n"
unfolding digits principal_text civil_date date_from date_in_year two_digits date_text clock_text printed_record keytab_end opening closing labelled record_text value_text rows name_in name_of
named_keytab = refl

keytab_objects : keytab_lines Json a_keytab ≡ codes "{\"kind\":\"entry\",\"principal\":{\"text\":\"h@A\",\"type\":1,\"type_name\":\"NT-PRINCIPAL\",\"components\":[\"h\"],\"realm\":\"A\"},\"type\":1,\"type_name\":\"NT-PRINCIPAL\",\"time\":\"2000-01-01T00:00:00Z\",\"kvno\":258,\"enctype\":18,\"enctype_name\":\"aes256-cts-hmac-sha1-96\",\"key\":2,\"rest\":4}\n{\"kind\":\"hole\",\"size\":8,\"clean\":true}\n{\"kind\":\"end\",\"records\":2,\"zero\":true}\n"
unfolding digits principal_text civil_date date_from date_in_year two_digits date_text clock_text printed_record keytab_end opening closing labelled record_text members json_value names_member rows name_in name_of
keytab_objects = refl

no_record : keytab_lines Lines (record { records = []; stop = stops.File }) ≡ codes "end records=0 zero=no\n"
unfolding digits principal_text civil_date date_from date_in_year two_digits date_text clock_text printed_record keytab_end opening closing labelled record_text value_text
no_record = refl

-- ---- a cache of u@A: a configuration entry, and a credential for h@A whose ticket is refused
abbrev user : FilePrincipal
user = record { name_type = pos 1; realm = codes "A"; components = codes "u" ∷ [] }

abbrev no_ticket : Credential
no_ticket = record { client = user; server = record { name_type = pos 2; realm = codes "A"; components = codes "h" ∷ [] }; enctype = 18; key = 0xAB ∷ 0xCD ∷ []; authtime = 946684800; starttime = 946684800; endtime = 946688400; renew_till = 0; is_skey = 0; flags = 0x40E1_0000; addresses = []; authdata = []; ticket = 0x61 ∷ 0x80 ∷ []; second_ticket = [] }

abbrev config : Credential
config = record no_ticket { server = record { name_type = pos 0; realm = codes "X-CACHECONF:"; components = codes "krb5_ccache_conf_data" ∷ codes "pa_type" ∷ [] }; ticket = codes "2" }

cache_line : record_text Lines (cache_record (record { fields = record { tag = 1; value = 0 ∷ 0 ∷ 0 ∷ 0 ∷ 0 ∷ 0 ∷ 0 ∷ 0 ∷ [] } ∷ [] }) user) ≡ codes "cache principal=u@A type=1 offset=0:0 fields=1"
unfolding digits principal_text civil_date date_from date_in_year two_digits date_text clock_text cache_record cache_end credential_record config_record ticketed_record state_of ticket_flags_text names_text flag_name eight_hex named_flags_text set_names unnamed opening closing labelled record_text value_text
cache_line = refl

cache_object : record_text Json (cache_record (record { fields = record { tag = 1; value = 0 ∷ 0 ∷ 0 ∷ 0 ∷ 0 ∷ 0 ∷ 0 ∷ 0 ∷ [] } ∷ [] }) user) ≡ codes "{\"kind\":\"cache\",\"principal\":{\"text\":\"u@A\",\"type\":1,\"type_name\":\"NT-PRINCIPAL\",\"components\":[\"u\"],\"realm\":\"A\"},\"type\":1,\"type_name\":\"NT-PRINCIPAL\",\"offset\":{\"seconds\":0,\"microseconds\":0},\"fields\":1}"
unfolding digits principal_text civil_date date_from date_in_year two_digits date_text clock_text cache_record cache_end credential_record config_record ticketed_record state_of ticket_flags_text names_text flag_name eight_hex named_flags_text set_names unnamed opening closing labelled record_text members json_value names_member rows name_in name_of
cache_object = refl

no_offset : record_text Lines (cache_record (record { fields = [] }) user) ≡ codes "cache principal=u@A type=1 offset=- fields=0"
unfolding digits principal_text civil_date date_from date_in_year two_digits date_text clock_text cache_record cache_end credential_record config_record ticketed_record state_of ticket_flags_text names_text flag_name eight_hex named_flags_text set_names unnamed opening closing labelled record_text value_text
no_offset = refl

config_line : record_text Lines (config_record Lines config) ≡ codes "config client=u@A server=krb5_ccache_conf_data/pa_type@X-CACHECONF: size=1"
unfolding digits principal_text civil_date date_from date_in_year two_digits date_text clock_text cache_record cache_end credential_record config_record ticketed_record state_of ticket_flags_text names_text flag_name eight_hex named_flags_text set_names unnamed opening closing labelled record_text value_text
config_line = refl

named_config_line : record_text NamedLines (config_record NamedLines config) ≡ codes "config client=u@A server=krb5_ccache_conf_data/pa_type@X-CACHECONF: size=1 value=\"2\""
unfolding digits principal_text config_record config_value opening closing labelled record_text value_text
named_config_line = refl

refused_line : record_text Lines (credential_record Lines (Some 946688399) no_ticket) ≡ codes "cred client=u@A server=h@A enctype=18 key=2 auth=2000-01-01T00:00:00Z start=2000-01-01T00:00:00Z end=2000-01-01T01:00:00Z renew=- skey=0 flags=forwardable,renewable,initial,pre-authent+00010000 state=live addresses=0 authdata=0 ticket=refused:1:6 tserver=- second=0"
unfolding digits principal_text civil_date date_from date_in_year two_digits date_text clock_text cache_record cache_end credential_record config_record ticketed_record state_of ticket_flags_text names_text flag_name eight_hex named_flags_text set_names unnamed opening closing labelled record_text value_text
refused_line = refl

named_refused_line : record_text NamedLines (credential_record NamedLines (Some 946688399) no_ticket) ≡ codes "cred client=u@A server=h@A enctype=18:aes256-cts-hmac-sha1-96 key=2 auth=2000-01-01T00:00:00Z start=2000-01-01T00:00:00Z end=2000-01-01T01:00:00Z renew=- skey=0 flags=forwardable,renewable,initial,pre-authent,enc-pa-rep state=live addresses=0 authdata=0 ticket=refused:1:6:Indefinite tserver=- second=0"
unfolding digits principal_text civil_date date_from date_in_year two_digits date_text clock_text cache_record cache_end credential_record config_record ticketed_record state_of ticket_flags_text names_text flag_name eight_hex named_flags_text set_names unnamed opening closing labelled record_text value_text rows name_in name_of
named_refused_line = refl

refused_credential : record_text Json (credential_record Json (Some 946688399) no_ticket) ≡ codes "{\"kind\":\"cred\",\"client\":{\"text\":\"u@A\",\"type\":1,\"type_name\":\"NT-PRINCIPAL\",\"components\":[\"u\"],\"realm\":\"A\"},\"server\":{\"text\":\"h@A\",\"type\":2,\"type_name\":\"NT-SRV-INST\",\"components\":[\"h\"],\"realm\":\"A\"},\"enctype\":18,\"enctype_name\":\"aes256-cts-hmac-sha1-96\",\"key\":2,\"auth\":\"2000-01-01T00:00:00Z\",\"start\":\"2000-01-01T00:00:00Z\",\"end\":\"2000-01-01T01:00:00Z\",\"renew\":null,\"skey\":0,\"flags\":{\"bits\":32,\"hex\":\"40e10000\",\"names\":[\"forwardable\",\"renewable\",\"initial\",\"pre-authent\",\"enc-pa-rep\"]},\"state\":\"live\",\"addresses\":0,\"authdata\":0,\"ticket\":{\"refused\":{\"place\":1,\"why\":6,\"why_name\":\"Indefinite\"}},\"tserver\":null,\"second\":0}"
unfolding digits principal_text civil_date date_from date_in_year two_digits date_text clock_text cache_record cache_end credential_record config_record ticketed_record state_of ticket_flags_text names_text flag_name eight_hex named_flags_text set_names unnamed opening closing labelled record_text members json_value names_member rows name_in name_of
refused_credential = refl

still_live : state (Some 946688399) 946688400 ≡ Word (codes "live")
still_live = refl

expired : state (Some 946688400) 946688400 ≡ Word (codes "expired")
expired = refl

its_end : record_text Lines (cache_end 2) ≡ codes "end credentials=2"
unfolding digits principal_text civil_date date_from date_in_year two_digits date_text clock_text cache_record cache_end credential_record config_record ticketed_record state_of ticket_flags_text names_text flag_name eight_hex named_flags_text set_names unnamed opening closing labelled record_text value_text
its_end = refl
