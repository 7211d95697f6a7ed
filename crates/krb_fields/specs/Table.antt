-- Which kinds of records are listed, and which fields these have. tools/fields wrote this from docs/LISTING.md
use Rattle.std.specs.Prelude.{ℕ, List, [], ◌∷◌, codes}
use Rattle.krb_fields.specs.Fields.{Field, Shape, shape, the}
use Rattle.krb_fields.specs.declared.shape.Listing.{Listing}
use Rattle.krb_fields.specs.declared.shape.Listing.TheVariants as listing
use Rattle.krb_fields.specs.declared.shape.Value.{Value}
use Rattle.krb_fields.specs.declared.shape.Value.TheVariants.{One, Named, Numbers, Flags, Encrypted, Ticket, Principal, Address, Checksum, Offset, Flow, Inside}

-- ---- lists of fields
abbrev pub of_file : List Field
of_file =
    the "file" One ∷ []

abbrev pub of_line_via_file : List Field
of_line_via_file =
    the "line" One ∷ the "via" One ∷ the "file" One ∷ []

abbrev pub of_packet_t_flow_t_us_file : List Field
of_packet_t_flow_t_us_file =
    the "packet" One ∷ the "t" One ∷ the "flow" Flow ∷ the "t_us" One ∷ the "file" One ∷ []

abbrev pub told_of_as_req : List Field
told_of_as_req =
    the "again" One ∷ []

abbrev pub told_of_as_rep : List Field
told_of_as_rep =
    the "of" One ∷ the "after" One ∷ the "waited" One ∷ []

abbrev pub told_of_kpasswd : List Field
told_of_kpasswd =
    the "again" One ∷ the "of" One ∷ the "after" One ∷ the "waited" One ∷ []

abbrev pub as_req : List Field
as_req =
    the "realm" One ∷ the "client" Principal ∷ the "server" Principal ∷ the "options" Flags ∷ the "from" One ∷ the "till" One ∷
    the "rtime" One ∷ the "nonce" One ∷ the "etypes" Numbers ∷ the "padata" Numbers ∷ the "addresses" One ∷
    the "authdata" Encrypted ∷ the "tickets" One ∷ the "notes" Numbers ∷ the "inside" Inside ∷ []

abbrev pub as_rep : List Field
as_rep =
    the "client" Principal ∷ the "server" Principal ∷ the "padata" Numbers ∷ the "ticket" Encrypted ∷ the "enc" Encrypted ∷
    the "notes" Numbers ∷ the "inside" Inside ∷ []

abbrev pub ap_req : List Field
ap_req =
    the "server" Principal ∷ the "options" Flags ∷ the "ticket" Encrypted ∷ the "auth" Encrypted ∷ the "notes" Numbers ∷ []

abbrev pub ap_rep : List Field
ap_rep =
    the "enc" Encrypted ∷ the "notes" Numbers ∷ []

abbrev pub krb_safe : List Field
krb_safe =
    the "size" One ∷ the "time" One ∷ the "usec" One ∷ the "seq" One ∷ the "sender" Address ∷ the "receiver" Address ∷
    the "cksum" Checksum ∷ the "notes" Numbers ∷ []

abbrev pub krb_cred : List Field
krb_cred =
    the "tickets" One ∷ the "enc" Encrypted ∷ the "notes" Numbers ∷ the "inside" Inside ∷ []

abbrev pub krb_error : List Field
krb_error =
    the "code" Named ∷ the "client" Principal ∷ the "server" Principal ∷ the "ctime" One ∷ the "cusec" One ∷ the "stime" One ∷
    the "susec" One ∷ the "text" One ∷ the "data" One ∷ the "methods" Numbers ∷ the "notes" Numbers ∷ the "inside" Inside ∷ []

abbrev pub end : List Field
end =
    the "messages" One ∷ []

abbrev pub refused : List Field
refused =
    the "messages" One ∷ the "place" One ∷ the "why" Named ∷ the "in" One ∷ the "at" One ∷ the "length" One ∷ []

abbrev pub end_of_stream : List Field
end_of_stream =
    the "messages" One ∷ the "refused" One ∷ []

abbrev pub file : List Field
file =
    the "name" One ∷ []

abbrev pub ticket : List Field
ticket =
    the "server" Principal ∷ the "ticket" Encrypted ∷ the "notes" Numbers ∷ []

abbrev pub refused_of_message : List Field
refused_of_message =
    the "place" One ∷ the "why" Named ∷ the "in" One ∷ the "at" One ∷ the "length" One ∷ the "form" One ∷ []

abbrev pub refused_of_message_2 : List Field
refused_of_message_2 =
    the "input" One ∷ the "place" One ∷ the "why" Named ∷ the "in" One ∷ the "at" One ∷ the "length" One ∷ the "form" One ∷ []

abbrev pub entry : List Field
entry =
    the "principal" Principal ∷ the "type" Named ∷ the "time" One ∷ the "kvno" One ∷ the "enctype" Named ∷ the "key" One ∷
    the "rest" One ∷ []

abbrev pub hole : List Field
hole =
    the "size" One ∷ the "clean" One ∷ []

abbrev pub end_of_keytab : List Field
end_of_keytab =
    the "records" One ∷ the "zero" One ∷ []

abbrev pub refused_of_keytab : List Field
refused_of_keytab =
    the "place" One ∷ the "why" Named ∷ the "in" One ∷ the "at" One ∷ the "length" One ∷ []

abbrev pub cache : List Field
cache =
    the "principal" Principal ∷ the "type" Named ∷ the "offset" Offset ∷ the "fields" One ∷ []

abbrev pub cred : List Field
cred =
    the "client" Principal ∷ the "server" Principal ∷ the "enctype" Named ∷ the "key" One ∷ the "auth" One ∷ the "start" One ∷
    the "end" One ∷ the "renew" One ∷ the "skey" One ∷ the "flags" Flags ∷ the "state" One ∷ the "addresses" One ∷
    the "authdata" One ∷ the "ticket" Ticket ∷ the "tserver" Principal ∷ the "second" One ∷ []

abbrev pub config : List Field
config =
    the "client" Principal ∷ the "server" Principal ∷ the "size" One ∷ the "value" One ∷ []

abbrev pub end_of_ccache : List Field
end_of_ccache =
    the "credentials" One ∷ []

abbrev pub kpasswd : List Field
kpasswd =
    the "version" One ∷ the "ap" One ∷ the "rest" One ∷ []

abbrev pub lost : List Field
lost =
    the "place" One ∷ the "octets" One ∷ the "in" One ∷ []

abbrev pub unread : List Field
unread =
    the "place" One ∷ the "octets" One ∷ the "why" Named ∷ []

abbrev pub unanswered : List Field
unanswered =
    the "request" One ∷ the "of" One ∷ the "after" One ∷ the "waited" One ∷ []

abbrev pub unreachable : List Field
unreachable =
    the "how" One ∷ the "by" One ∷ the "type" Named ∷ the "code" Named ∷ the "of" One ∷ the "after" One ∷ the "waited" One ∷ []

abbrev pub end_of_capture : List Field
end_of_capture =
    the "packets" One ∷ the "messages" One ∷ the "refused" One ∷ the "lost" One ∷ the "unread" One ∷ the "answered" One ∷
    the "unanswered" One ∷ the "again" One ∷ the "unreachable" One ∷ []

abbrev pub refused_of_capture : List Field
refused_of_capture =
    the "packets" One ∷ the "messages" One ∷ the "refused" One ∷ the "lost" One ∷ the "unread" One ∷ the "place" One ∷
    the "why" Named ∷ the "in" One ∷ the "at" One ∷ the "length" One ∷ the "answered" One ∷ the "unanswered" One ∷
    the "again" One ∷ the "unreachable" One ∷ []

abbrev pub pa_tgs_req : List Field
pa_tgs_req =
    the "server" Principal ∷ the "options" Flags ∷ the "ticket" Encrypted ∷ the "auth" Encrypted ∷ []

abbrev pub pa_enc_timestamp : List Field
pa_enc_timestamp =
    the "enc" Encrypted ∷ []

abbrev pub pa_pw_salt : List Field
pa_pw_salt =
    the "salt" One ∷ []

abbrev pub pa_etype_info : List Field
pa_etype_info =
    the "etype" Named ∷ the "salt" One ∷ []

abbrev pub pa_etype_info2 : List Field
pa_etype_info2 =
    the "etype" Named ∷ the "salt" One ∷ the "params" One ∷ []

abbrev pub pa_pac_request : List Field
pa_pac_request =
    the "pac" One ∷ []

abbrev pub pa_for_user : List Field
pa_for_user =
    the "user" Principal ∷ the "cksum" Checksum ∷ the "package" One ∷ []

abbrev pub pa_fx_fast : List Field
pa_fx_fast =
    the "armor" One ∷ the "server" Principal ∷ the "ticket" Encrypted ∷ the "enc" Encrypted ∷ []

abbrev pub pa_pac_options : List Field
pa_pac_options =
    the "options" Flags ∷ []

abbrev pub ticket_of_inside : List Field
ticket_of_inside =
    the "server" Principal ∷ the "ticket" Encrypted ∷ []

abbrev pub method_data : List Field
method_data =
    the "methods" Numbers ∷ []

abbrev pub typed_data : List Field
typed_data =
    the "types" Numbers ∷ []

abbrev pub kerb_error_data : List Field
kerb_error_data =
    the "type" Named ∷ []

abbrev pub kerb_ext_error : List Field
kerb_ext_error =
    the "status" Named ∷ the "reserved" One ∷ the "flags" One ∷ []

-- ---- kinds: each with its fields, and what its origin tells
abbrev pub stream_records : List Shape
stream_records =
    shape "AS-REQ" as_req [] ∷ shape "AS-REP" as_rep [] ∷ shape "TGS-REQ" as_req [] ∷ shape "TGS-REP" as_rep [] ∷
    shape "AP-REQ" ap_req [] ∷ shape "AP-REP" ap_rep [] ∷ shape "KRB-SAFE" krb_safe [] ∷ shape "KRB-PRIV" ap_rep [] ∷
    shape "KRB-CRED" krb_cred [] ∷ shape "KRB-ERROR" krb_error [] ∷ shape "end" end [] ∷ shape "refused" refused [] ∷
    shape "end" end_of_stream [] ∷ shape "file" file [] ∷ []

abbrev pub message_records : List Shape
message_records =
    shape "AS-REQ" as_req [] ∷ shape "AS-REP" as_rep [] ∷ shape "TGS-REQ" as_req [] ∷ shape "TGS-REP" as_rep [] ∷
    shape "AP-REQ" ap_req [] ∷ shape "AP-REP" ap_rep [] ∷ shape "KRB-SAFE" krb_safe [] ∷ shape "KRB-PRIV" ap_rep [] ∷
    shape "KRB-CRED" krb_cred [] ∷ shape "KRB-ERROR" krb_error [] ∷ shape "Ticket" ticket [] ∷
    shape "refused" refused_of_message [] ∷ shape "refused" refused_of_message_2 [] ∷ shape "end" end_of_stream [] ∷
    shape "file" file [] ∷ []

abbrev pub keytab_records : List Shape
keytab_records =
    shape "entry" entry [] ∷ shape "hole" hole [] ∷ shape "end" end_of_keytab [] ∷ shape "refused" refused_of_keytab [] ∷
    shape "file" file [] ∷ []

abbrev pub ccache_records : List Shape
ccache_records =
    shape "cache" cache [] ∷ shape "cred" cred [] ∷ shape "config" config [] ∷ shape "end" end_of_ccache [] ∷
    shape "refused" refused_of_keytab [] ∷ shape "file" file [] ∷ []

abbrev pub capture_records : List Shape
capture_records =
    shape "AS-REQ" as_req told_of_as_req ∷ shape "AS-REP" as_rep told_of_as_rep ∷ shape "TGS-REQ" as_req told_of_as_req ∷
    shape "TGS-REP" as_rep told_of_as_rep ∷ shape "AP-REQ" ap_req [] ∷ shape "AP-REP" ap_rep [] ∷ shape "KRB-SAFE" krb_safe [] ∷
    shape "KRB-PRIV" ap_rep [] ∷ shape "KRB-CRED" krb_cred [] ∷ shape "KRB-ERROR" krb_error told_of_as_rep ∷
    shape "refused" refused_of_keytab told_of_as_rep ∷ shape "KPASSWD" kpasswd told_of_kpasswd ∷ shape "joined" [] [] ∷
    shape "lost" lost told_of_as_rep ∷ shape "unread" unread [] ∷ shape "unanswered" unanswered [] ∷
    shape "unreachable" unreachable [] ∷ shape "end" end_of_capture [] ∷ shape "refused" refused_of_capture [] ∷
    shape "file" file [] ∷ []

unfoldable pub inside : List Shape
inside =
    shape "PA-TGS-REQ" pa_tgs_req [] ∷ shape "PA-ENC-TIMESTAMP" pa_enc_timestamp [] ∷
    shape "PA-ENCRYPTED-CHALLENGE" pa_enc_timestamp [] ∷ shape "PA-PW-SALT" pa_pw_salt [] ∷
    shape "PA-ETYPE-INFO" pa_etype_info [] ∷ shape "PA-ETYPE-INFO2" pa_etype_info2 [] ∷ shape "PA-PAC-REQUEST" pa_pac_request [] ∷
    shape "PA-FOR-USER" pa_for_user [] ∷ shape "PA-FX-FAST" pa_fx_fast [] ∷ shape "PA-PAC-OPTIONS" pa_pac_options [] ∷
    shape "Ticket" ticket_of_inside [] ∷ shape "METHOD-DATA" method_data [] ∷ shape "TYPED-DATA" typed_data [] ∷
    shape "KERB-ERROR-DATA" kerb_error_data [] ∷ shape "KERB-EXT-ERROR" kerb_ext_error [] ∷ []

-- what follows the name of a field in the names of its members
abbrev pub endings : Value → List (List ℕ)
endings One = codes "" ∷ []
endings Named = codes "" ∷ codes "_name" ∷ []
endings Numbers = codes "" ∷ codes "_names" ∷ []
endings Flags = codes "" ∷ codes ".bits" ∷ codes ".hex" ∷ codes ".names" ∷ []
endings Encrypted = codes "" ∷ codes ".etype" ∷ codes ".etype_name" ∷ codes ".kvno" ∷ codes ".size" ∷ []
endings Ticket = codes "" ∷ codes ".etype" ∷ codes ".etype_name" ∷ codes ".kvno" ∷ codes ".size" ∷ codes ".refused.place" ∷ codes ".refused.why" ∷ codes ".refused.why_name" ∷ []
endings Principal = codes "" ∷ codes ".text" ∷ codes ".type" ∷ codes ".type_name" ∷ codes ".components" ∷ codes ".realm" ∷ []
endings Address = codes "" ∷ codes ".type" ∷ codes ".type_name" ∷ codes ".hex" ∷ []
endings Checksum = codes "" ∷ codes ".type" ∷ codes ".type_name" ∷ codes ".size" ∷ []
endings Offset = codes "" ∷ codes ".seconds" ∷ codes ".microseconds" ∷ []
endings Flow = codes "" ∷ codes ".over" ∷ codes ".source" ∷ codes ".source.address" ∷ codes ".source.port" ∷ codes ".target" ∷ codes ".target.address" ∷ codes ".target.port" ∷ []
endings Inside = codes "" ∷ []

-- the records of a listing
unfoldable pub records : Listing → List Shape
records listing.Stream = stream_records
records listing.Message = message_records
records listing.Keytab = keytab_records
records listing.Ccache = ccache_records
records listing.Capture = capture_records

-- the fields that say where a record of a listing is from
unfoldable pub origin : Listing → List Field
origin listing.Stream = of_file
origin listing.Message = of_line_via_file
origin listing.Keytab = of_file
origin listing.Ccache = of_file
origin listing.Capture = of_packet_t_flow_t_us_file
