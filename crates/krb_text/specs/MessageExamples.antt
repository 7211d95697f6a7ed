-- What is printed of messages, computed: octets in hexadecimal, and what is listed of them. The notes are computed of the same values.
use Rattle.std.specs.Prelude.{ℕ, ◌≡◌, List, [], ◌∷◌, ◌++◌, Some, refl, codes, replicate}
use Rattle.std.specs.Fmt.{digits}
use Rattle.std.specs.declared.net.ip_addr.IpAddr.{IpAddr}
use Rattle.std.specs.declared.net.ip_addr.IpAddr.TheVariants as ip
use Rattle.krb_der.specs.Hex.{hex}
use Rattle.krb_der.specs.Octets.{item}
use Rattle.krb_msg.specs.declared.message.Message.{Message}
use Rattle.krb_msg.specs.Views.{message_of_der}
use Rattle.krb_registry.specs.Rows.{rows, name_in, name_of}
use Rattle.krb_record.specs.declared.capture_origin.CaptureOrigin.{CaptureOrigin}
use Rattle.krb_record.specs.declared.flow.Transport.TheVariants as transports
use Rattle.krb_record.specs.declared.told.Told.TheVariants as told
use Rattle.krb_record.specs.declared.form.Form.{Form}
use Rattle.krb_record.specs.declared.form.Form.TheVariants.{Lines, NamedLines, Json}
use Rattle.krb_record.specs.Captures.{told_fields, told_in}
use Rattle.krb_record.specs.Errors.{code_name, code_suffix, code_text}
use Rattle.krb_record.specs.Forms.{closing, inside_text, json_value, labelled, members, named_flags_text, names_member, opening, opening_from, part_text, record_text, set_names, shows_kind, unnamed, value_text}
use Rattle.krb_text.specs.Inside.{type_of_number}
use Rattle.krb_text.specs.Judged.{judged}
use Rattle.krb_text.specs.Messages.{captured_message_line, message_record, message_text}
use Rattle.krb_record.specs.Text.{principal_text}
use Rattle.krb_record.specs.Time.{civil_date, clock_text, date_from, date_in_year, date_text, timestamp_text, two_digits}

-- what is printed of the message that octets are
abbrev text_of : Form → List ℕ → List ℕ
text_of form octets = message_text form (message_of_der octets)

abbrev line_of : List ℕ → List ℕ
line_of octets = text_of Lines octets

abbrev ticket : List ℕ
ticket = hex (codes "612B3029 A003020105 A1031B0141 A20E300CA003020102A10530031B0168 A30D300BA003020112A2040402BEEF")

abbrev encrypted : List ℕ
encrypted = hex (codes "300BA003020112A2040402BEEF")

ap_rep : line_of (hex (codes "6F1D301B A003020105 A10302010F A20F300D A003020112 A2060404DEADBEEF")) ≡ codes "AP-REP enc=18:-:4 notes=[]"
unfolding digits principal_text closing labelled opening inside_text record_text value_text message_record shows_kind
ap_rep = refl

negative_kvno : line_of (hex (codes "6F223020 A003020105 A10302010F A2143012 A003020112 A1030201FF A2060404DEADBEEF")) ≡ codes "AP-REP enc=18:-1:4 notes=[3]"
unfolding digits principal_text closing labelled opening inside_text record_text value_text message_record shows_kind
negative_kvno = refl

ap_req : line_of (hex (codes "6E533051 A003020105 A10302010E A20703050000000000 A32D") ++ ticket ++ hex (codes "A40D") ++ encrypted) ≡ codes "AP-REQ server=h@A options=32:00000000 ticket=18:-:2 auth=18:-:2 notes=[]"
unfolding digits principal_text closing labelled opening inside_text record_text value_text message_record shows_kind
ap_req = refl

as_rep : line_of (hex (codes "6B5F305D A003020105 A10302010B A3031B0141 A40E300CA003020101A10530031B0175 A52D") ++ ticket ++ hex (codes "A60D") ++ encrypted) ≡ codes "AS-REP client=u@A server=h@A padata=- ticket=18:-:2 enc=18:-:2 notes=[]"
unfolding digits principal_text closing labelled opening inside_text record_text value_text message_record shows_kind
as_rep = refl

tgs_rep : line_of (hex (codes "6D5F305D A003020105 A10302010D A3031B0141 A40E300CA003020101A10530031B0175 A52D") ++ ticket ++ hex (codes "A60D") ++ encrypted) ≡ codes "TGS-REP client=u@A server=h@A padata=- ticket=18:-:2 enc=18:-:2 notes=[]"
unfolding digits principal_text closing labelled opening inside_text record_text value_text message_record shows_kind
tgs_rep = refl

empty_padata : line_of (hex (codes "6B633061 A003020105 A10302010B A2023000 A3031B0141 A40E300CA003020101A10530031B0175 A52D") ++ ticket ++ hex (codes "A60D") ++ encrypted) ≡ codes "AS-REP client=u@A server=h@A padata=[] ticket=18:-:2 enc=18:-:2 notes=[4]"
unfolding digits principal_text closing labelled opening inside_text record_text value_text message_record shows_kind
empty_padata = refl

high_octet : line_of (hex (codes "6B5F305D A003020105 A10302010B A3031B01E9 A40E300CA003020101A10530031B0175 A52D") ++ ticket ++ hex (codes "A60D") ++ encrypted) ≡ codes "AS-REP client=u@\\xe9 server=h@A padata=- ticket=18:-:2 enc=18:-:2 notes=[1]"
unfolding digits principal_text closing labelled opening inside_text record_text value_text message_record shows_kind
high_octet = refl

as_req : line_of (hex (codes "6A3A3038 A103020105 A20302010A A42C302A A00403020140 A2031B0141 A511180F31393730303130313030303030305A A7030201FF A8053003020112")) ≡ codes "AS-REQ realm=A client=- server=- options=7:40 from=- till=19700101000000Z rtime=- nonce=-1 etypes=[18] padata=- addresses=- authdata=- tickets=- notes=[2,3]"
unfolding digits principal_text closing labelled opening inside_text record_text value_text message_record shows_kind
as_req = refl

tgs_req : line_of (hex (codes "6C6B3069 A103020105 A20302010C A45D305B A00703050000000000 A2031B0141 A511180F31393730303130313030303030305A A703020101 A8023000 AB2F302D") ++ ticket) ≡ codes "TGS-REQ realm=A client=- server=- options=32:00000000 from=- till=19700101000000Z rtime=- nonce=1 etypes=[] padata=- addresses=- authdata=- tickets=1 notes=[]"
unfolding digits principal_text closing labelled opening inside_text record_text value_text message_record shows_kind
tgs_req = refl

-- a KRB-SAFE with this octet as its seq-number
abbrev safe_with : List ℕ → List ℕ
safe_with number = line_of (hex (codes "743B3039 A003020105 A103020114 A21E301C A0040402CAFE A3030201") ++ number ++ hex (codes "A40F300DA003020102A10604040A000001 A30D300BA003020110A1040402BEEF"))

krb_safe : safe_with (hex (codes "01")) ≡ codes "KRB-SAFE size=2 time=- usec=- seq=1 sender=2:0a000001 receiver=- cksum=16:2 notes=[]"
unfolding digits principal_text closing labelled opening inside_text record_text value_text message_record shows_kind
krb_safe = refl

negative_seq_number : safe_with (hex (codes "FF")) ≡ codes "KRB-SAFE size=2 time=- usec=- seq=-1 sender=2:0a000001 receiver=- cksum=16:2 notes=[3]"
unfolding digits principal_text closing labelled opening inside_text record_text value_text message_record shows_kind
negative_seq_number = refl

krb_priv : line_of (hex (codes "751B3019 A003020105 A103020115 A30D") ++ encrypted) ≡ codes "KRB-PRIV enc=18:-:2 notes=[]"
unfolding digits principal_text closing labelled opening inside_text record_text value_text message_record shows_kind
krb_priv = refl

krb_cred : line_of (hex (codes "764C304A A003020105 A103020116 A22F302D") ++ ticket ++ hex (codes "A30D") ++ encrypted) ≡ codes "KRB-CRED tickets=1 enc=18:-:2 notes=[]"
unfolding digits principal_text closing labelled opening inside_text record_text value_text message_record shows_kind
krb_cred = refl

-- a KRB-ERROR with this data
abbrev error_with : List ℕ → List ℕ
error_with data_octets = line_of (hex (codes "7E4F304D A003020105 A10302011E A411180F32303030303130313030303030305A A503020100 A603020119 A9031B0141 AA0E300CA003020102A10530031B0168 AC0F040D") ++ data_octets)

krb_error : error_with (hex (codes "300B3009A103020102A2020400")) ≡ codes "KRB-ERROR code=25:KDC_ERR_PREAUTH_REQUIRED client=- server=h@A ctime=- cusec=- stime=20000101000000Z susec=0 text=- data=13 methods=[2] notes=[]"
unfolding digits principal_text closing labelled opening inside_text judged record_text value_text message_record shows_kind code_name code_suffix code_text
krb_error = refl

no_method_data : error_with (hex (codes "310B3009A103020102A2020400")) ≡ codes "KRB-ERROR code=25:KDC_ERR_PREAUTH_REQUIRED client=- server=h@A ctime=- cusec=- stime=20000101000000Z susec=0 text=- data=13 methods=- notes=[]"
unfolding digits principal_text closing labelled opening inside_text judged record_text value_text message_record shows_kind code_name code_suffix code_text
no_method_data = refl

-- ---- with the names of numbers, and as objects
abbrev an_ap_rep : List ℕ
an_ap_rep = hex (codes "6F1D301B A003020105 A10302010F A20F300D A003020112 A2060404DEADBEEF")

named_ap_rep : text_of NamedLines an_ap_rep ≡ codes "AP-REP enc=18:aes256-cts-hmac-sha1-96:-:4 notes=[]"
unfolding digits closing labelled opening inside_text part_text judged record_text value_text message_record shows_kind rows name_in name_of
named_ap_rep = refl

ap_rep_object : text_of Json an_ap_rep ≡ codes "{\"kind\":\"AP-REP\",\"enc\":{\"etype\":18,\"etype_name\":\"aes256-cts-hmac-sha1-96\",\"kvno\":null,\"size\":4},\"notes\":[],\"notes_names\":[]}"
unfolding digits closing labelled opening inside_text part_text judged record_text members json_value names_member message_record shows_kind rows name_in name_of
ap_rep_object = refl

-- an AS-REQ of seven flags and a negative nonce
abbrev an_as_req : List ℕ
an_as_req = hex (codes "6A3A3038 A103020105 A20302010A A42C302A A00403020140 A2031B0141 A511180F31393730303130313030303030305A A7030201FF A8053003020112")

named_as_req : text_of NamedLines an_as_req ≡ codes "AS-REQ realm=A client=- server=- options=7:40:forwardable from=- till=19700101000000Z rtime=- nonce=-1 etypes=[18:aes256-cts-hmac-sha1-96] padata=- addresses=- authdata=- tickets=- notes=[2:short-flags,3:negative] inside=0"
unfolding digits closing labelled opening inside_text part_text judged record_text value_text named_flags_text set_names unnamed message_record shows_kind rows name_in name_of
named_as_req = refl

as_req_object : text_of Json an_as_req ≡ codes "{\"kind\":\"AS-REQ\",\"realm\":\"A\",\"client\":null,\"server\":null,\"options\":{\"bits\":7,\"hex\":\"40\",\"names\":[\"forwardable\"]},\"from\":null,\"till\":\"19700101000000Z\",\"rtime\":null,\"nonce\":-1,\"etypes\":[18],\"etypes_names\":[\"aes256-cts-hmac-sha1-96\"],\"padata\":null,\"addresses\":null,\"authdata\":null,\"tickets\":null,\"notes\":[2,3],\"notes_names\":[\"short-flags\",\"negative\"],\"inside\":[]}"
unfolding digits closing labelled opening inside_text part_text judged record_text members json_value names_member set_names message_record shows_kind rows name_in name_of
as_req_object = refl

-- an AS-REP of a realm whose one octet is above 7F
high_octet_object : text_of Json (hex (codes "6B5F305D A003020105 A10302010B A3031B01E9 A40E300CA003020101A10530031B0175 A52D") ++ ticket ++ hex (codes "A60D") ++ encrypted) ≡ codes "{\"kind\":\"AS-REP\",\"client\":{\"text\":\"u@\\\\xe9\",\"type\":1,\"type_name\":\"NT-PRINCIPAL\",\"components\":[\"u\"],\"realm\":\"\\\\xe9\"},\"server\":{\"text\":\"h@A\",\"type\":2,\"type_name\":\"NT-SRV-INST\",\"components\":[\"h\"],\"realm\":\"A\"},\"padata\":null,\"ticket\":{\"etype\":18,\"etype_name\":\"aes256-cts-hmac-sha1-96\",\"kvno\":null,\"size\":2},\"enc\":{\"etype\":18,\"etype_name\":\"aes256-cts-hmac-sha1-96\",\"kvno\":null,\"size\":2},\"notes\":[1],\"notes_names\":[\"high-octet\"],\"inside\":[]}"
unfolding digits principal_text closing labelled opening inside_text part_text judged record_text members json_value names_member message_record shows_kind rows name_in name_of
high_octet_object = refl

-- a KRB-SAFE
abbrev a_safe : List ℕ
a_safe = hex (codes "743B3039 A003020105 A103020114 A21E301C A0040402CAFE A303020101 A40F300DA003020102A10604040A000001 A30D300BA003020110A1040402BEEF")

named_safe : text_of NamedLines a_safe ≡ codes "KRB-SAFE size=2 time=- usec=- seq=1 sender=2:IPv4:0a000001 receiver=- cksum=16:hmac-sha1-96-aes256:2 notes=[]"
unfolding digits closing labelled opening inside_text part_text judged record_text value_text message_record shows_kind rows name_in name_of
named_safe = refl

safe_object : text_of Json a_safe ≡ codes "{\"kind\":\"KRB-SAFE\",\"size\":2,\"time\":null,\"usec\":null,\"seq\":1,\"sender\":{\"type\":2,\"type_name\":\"IPv4\",\"hex\":\"0a000001\"},\"receiver\":null,\"cksum\":{\"type\":16,\"type_name\":\"hmac-sha1-96-aes256\",\"size\":2},\"notes\":[],\"notes_names\":[]}"
unfolding digits closing labelled opening inside_text part_text judged record_text members json_value names_member message_record shows_kind rows name_in name_of
safe_object = refl

-- a KRB-ERROR with METHOD-DATA
abbrev an_error : List ℕ
an_error = hex (codes "7E4F304D A003020105 A10302011E A411180F32303030303130313030303030305A A503020100 A603020119 A9031B0141 AA0E300CA003020102A10530031B0168 AC0F040D 300B3009A103020102A2020400")

named_error : text_of NamedLines an_error ≡ codes "KRB-ERROR code=25:KDC_ERR_PREAUTH_REQUIRED client=- server=h@A ctime=- cusec=- stime=20000101000000Z susec=0 text=- data=13 methods=[2:PA-ENC-TIMESTAMP] notes=[] inside=0"
unfolding digits principal_text closing labelled opening inside_text part_text judged type_of_number record_text value_text message_record shows_kind rows name_in name_of
named_error = refl

error_object : text_of Json an_error ≡ codes "{\"kind\":\"KRB-ERROR\",\"code\":25,\"code_name\":\"KDC_ERR_PREAUTH_REQUIRED\",\"client\":null,\"server\":{\"text\":\"h@A\",\"type\":2,\"type_name\":\"NT-SRV-INST\",\"components\":[\"h\"],\"realm\":\"A\"},\"ctime\":null,\"cusec\":null,\"stime\":\"20000101000000Z\",\"susec\":0,\"text\":null,\"data\":13,\"methods\":[2],\"methods_names\":[\"PA-ENC-TIMESTAMP\"],\"notes\":[],\"notes_names\":[],\"inside\":[]}"
unfolding digits principal_text closing labelled opening inside_text part_text judged type_of_number record_text members json_value names_member message_record shows_kind rows name_in name_of
error_object = refl

-- ---- what is inside
-- a KRB-CRED of one Ticket
named_cred : text_of NamedLines (hex (codes "764C304A A003020105 A103020116 A22F302D") ++ ticket ++ hex (codes "A30D") ++ encrypted) ≡ codes "KRB-CRED tickets=1 enc=18:aes256-cts-hmac-sha1-96:-:2 notes=[] inside=1 Ticket server=h@A ticket=18:aes256-cts-hmac-sha1-96:-:2"
unfolding digits principal_text closing labelled opening inside_text part_text judged record_text value_text message_record shows_kind rows name_in name_of
named_cred = refl

-- an AS-REQ of a PA-PAC-REQUEST, and of one that is none
abbrev with_pac : List ℕ → List ℕ
with_pac value = hex (codes "6A51304F A103020105 A20302010A A315301330 11A10402020080A2090407") ++ value ++ hex (codes "A42C302A A00403020140 A2031B0141 A511180F31393730303130313030303030305A A7030201FF A8053003020112")

named_request : text_of NamedLines (with_pac (hex (codes "3005A0030101FF"))) ≡ codes "AS-REQ realm=A client=- server=- options=7:40:forwardable from=- till=19700101000000Z rtime=- nonce=-1 etypes=[18:aes256-cts-hmac-sha1-96] padata=[128:PA-PAC-REQUEST] addresses=- authdata=- tickets=- notes=[2:short-flags,3:negative] inside=1 PA-PAC-REQUEST pac=yes"
unfolding digits closing labelled opening inside_text part_text judged type_of_number record_text value_text named_flags_text set_names unnamed message_record shows_kind rows name_in name_of
named_request = refl

named_other : text_of NamedLines (with_pac (hex (codes "3005A003010101"))) ≡ codes "AS-REQ realm=A client=- server=- options=7:40:forwardable from=- till=19700101000000Z rtime=- nonce=-1 etypes=[18:aes256-cts-hmac-sha1-96] padata=[128:PA-PAC-REQUEST] addresses=- authdata=- tickets=- notes=[2:short-flags,3:negative] inside=0"
unfolding digits closing labelled opening inside_text part_text judged type_of_number record_text value_text named_flags_text set_names unnamed message_record shows_kind rows name_in name_of
named_other = refl

-- ---- what is inside of errors
-- with this code and this data
abbrev error_of : List ℕ → List ℕ → List ℕ
error_of code octets = item 0x7E (item 0x30 (hex (codes "A003020105 A10302011E A411180F32303236313133303037303030305A A503020100") ++ item 0xA6 (item 0x02 code) ++ hex (codes "A9031B0141 AA0E300CA003020102A10530031B0168") ++ item 0xAC (item 0x04 octets)))

-- the account of a client is disabled, as a KDC of Windows says it
of_windows : text_of NamedLines (error_of (18 ∷ []) (hex (codes "3015 A103020103 A20E040C720000C00000000001000000"))) ≡ codes "KRB-ERROR code=18:KDC_ERR_CLIENT_REVOKED client=- server=h@A ctime=- cusec=- stime=20261130070000Z susec=0 text=- data=23 methods=- notes=[] inside=2 KERB-ERROR-DATA type=3:KERB_ERR_TYPE_EXTENDED KERB-EXT-ERROR status=c0000072:STATUS_ACCOUNT_DISABLED reserved=0 flags=1"
unfolding digits principal_text closing labelled opening inside_text part_text judged type_of_number record_text value_text message_record shows_kind rows name_in name_of
of_windows = refl

-- and as Samba's does, as if it were a salt in METHOD-DATA
of_samba : text_of NamedLines (error_of (18 ∷ []) (hex (codes "3017 3015 A103020103 A20E040C720000C00000000001000000"))) ≡ codes "KRB-ERROR code=18:KDC_ERR_CLIENT_REVOKED client=- server=h@A ctime=- cusec=- stime=20261130070000Z susec=0 text=- data=25 methods=- notes=[] inside=2 METHOD-DATA methods=[3:PA-PW-SALT] KERB-EXT-ERROR status=c0000072:STATUS_ACCOUNT_DISABLED reserved=0 flags=1"
unfolding digits principal_text closing labelled opening inside_text part_text judged type_of_number record_text value_text message_record shows_kind rows name_in name_of
of_samba = refl

-- parameters of Diffie and Hellman, in TYPED-DATA
of_types : text_of NamedLines (error_of (65 ∷ []) (hex (codes "300B 3009 A00302016D A1020400"))) ≡ codes "KRB-ERROR code=65:KDC_ERR_DH_KEY_PARAMETERS_NOT_ACCEPTED client=- server=h@A ctime=- cusec=- stime=20261130070000Z susec=0 text=- data=13 methods=- notes=[] inside=1 TYPED-DATA types=[109:TD-DH-PARAMETERS]"
unfolding digits principal_text closing labelled opening inside_text part_text judged type_of_number record_text value_text message_record shows_kind rows name_in name_of
of_types = refl

-- ---- from a capture: in a server's answer to a request to change a password
abbrev local : IpAddr
local = ip.V4 (record { octets = 127 ∷ 0 ∷ 0 ∷ 1 ∷ [] })

abbrev answer : CaptureOrigin
answer = record { packet = 10; time = Some (record { seconds = 1795604170; nanoseconds = 71545000 }); flow = record { transport = transports.Tcp; source = record { address = local; port = 464 }; target = record { address = local; port = 60806 } }; told = told.Nothing }

-- with other octets in place of those of the cipher
abbrev answered : Message
answered = message_of_der (hex (codes "6F8189 308186 A003020105 A10302010F A27A3078 A003020112 A271046F") ++ replicate 111 0)

captured_message : captured_message_line NamedLines answer answered ≡ codes "packet=10 t=2026-11-25T10:56:10.071545000Z flow=tcp/127.0.0.1:464>127.0.0.1:60806 AP-REP enc=18:aes256-cts-hmac-sha1-96:-:111 notes=[]\n"
unfolding digits civil_date date_from date_in_year two_digits date_text clock_text timestamp_text record_text opening_from opening closing labelled value_text message_record shows_kind rows name_in name_of told_in told_fields
captured_message = refl

captured_message_object : captured_message_line Json answer answered ≡ codes "{\"kind\":\"AP-REP\",\"packet\":10,\"t\":\"2026-11-25T10:56:10.071545000Z\",\"flow\":{\"over\":\"tcp\",\"source\":{\"address\":\"127.0.0.1\",\"port\":464},\"target\":{\"address\":\"127.0.0.1\",\"port\":60806}},\"enc\":{\"etype\":18,\"etype_name\":\"aes256-cts-hmac-sha1-96\",\"kvno\":null,\"size\":111},\"notes\":[],\"notes_names\":[],\"t_us\":1795604170071545}\n"
unfolding digits civil_date date_from date_in_year two_digits date_text clock_text timestamp_text record_text opening_from opening closing labelled members json_value names_member message_record shows_kind rows name_in name_of told_in told_fields
captured_message_object = refl
