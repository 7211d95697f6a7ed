-- What is printed of refusals, and parts of records, computed.
use Rattle.std.specs.Prelude.{Some, None, ◌≡◌, [], ◌∷◌, refl, codes}
use Rattle.std.specs.Fmt.{digits}
use Rattle.std.specs.Net.Text.{hex, hex_groups_text, ipv6_text}
use Rattle.std.specs.declared.net.ip_addr.IpAddr.TheVariants as ip
use Rattle.krb_der.specs.declared.why.Why.TheVariants as whys
use Rattle.krb_der.specs.declared.why.Why.TheVariants.{Range, HighBit, Overrun}
use Rattle.krb_source.specs.declared.file_why.FileWhy.TheVariants as why
use Rattle.krb_source.specs.declared.spelling.Spelling.TheVariants.{Octets, Hex, Dump}
use Rattle.krb_record.specs.declared.extent.Extent.{Extent}
use Rattle.krb_record.specs.declared.form.Form.TheVariants.{Lines, NamedLines, Json}
use Rattle.krb_record.specs.declared.input.InputFault.TheVariants.{Length, Misspelled, Ntlm}
use Rattle.krb_record.specs.Flows.{endpoint_text}
use Rattle.krb_record.specs.Forms.{closing, json_value, labelled, members, names_member, opening, opening_from, record_text, value_text}
use Rattle.krb_record.specs.Inputs.{input_refused_line}
use Rattle.krb_record.specs.Origins.{message_origin}
use Rattle.krb_record.specs.Refusals.{file_refused_line, message_refused_line, untold_message_refused_line}
use Rattle.krb_record.specs.Streams.{refused_line as frame_refused_line, untold_refused_line}
use Rattle.krb_source.specs.declared.layer.Layer.TheVariants.{Frame, Gss, Spnego}
use Rattle.krb_record.specs.TicketFlags.{ticket_flags_text, names_text, flag_name, eight_hex}
use Rattle.krb_record.specs.Text.{principal_text}
use Rattle.krb_record.specs.Time.{civil_date, date_from, date_in_year, the_date, time_text, two_digits, date_text, clock_text}

no_components : principal_text [] (codes "A") ≡ codes "\\-@A"
unfolding principal_text
no_components = refl

one_empty_component : principal_text ([] ∷ []) (codes "A") ≡ codes "@A"
unfolding principal_text
one_empty_component = refl

escapes : principal_text (codes "a/b" ∷ codes " " ∷ []) (codes "R@") ≡ codes "a\\x2fb/\\x20@R\\x40"
unfolding principal_text
escapes = refl

first_day : civil_date 0 ≡ the_date 1970 1 1
unfolding civil_date date_from date_in_year
first_day = refl

last_of_january : civil_date 30 ≡ the_date 1970 1 31
unfolding civil_date date_from date_in_year
last_of_january = refl

last_of_1970 : civil_date 364 ≡ the_date 1970 12 31
unfolding civil_date date_from date_in_year
last_of_1970 = refl

first_of_1971 : civil_date 365 ≡ the_date 1971 1 1
unfolding civil_date date_from date_in_year
first_of_1971 = refl

leap_1972 : civil_date 789 ≡ the_date 1972 2 29
unfolding civil_date date_from date_in_year
leap_1972 = refl

march_1972 : civil_date 790 ≡ the_date 1972 3 1
unfolding civil_date date_from date_in_year
march_1972 = refl

first_of_2000 : civil_date 10957 ≡ the_date 2000 1 1
unfolding civil_date date_from date_in_year
first_of_2000 = refl

leap_2000 : civil_date 11016 ≡ the_date 2000 2 29
unfolding civil_date date_from date_in_year
leap_2000 = refl

last_of_2000 : civil_date 11322 ≡ the_date 2000 12 31
unfolding civil_date date_from date_in_year
last_of_2000 = refl

february_2100 : civil_date 47540 ≡ the_date 2100 2 28
unfolding civil_date date_from date_in_year
february_2100 = refl

march_2100 : civil_date 47541 ≡ the_date 2100 3 1
unfolding civil_date date_from date_in_year
march_2100 = refl

last_day : civil_date 49710 ≡ the_date 2106 2 7
unfolding civil_date date_from date_in_year
last_day = refl

no_time : time_text 0 ≡ codes "-"
no_time = refl

first_of_2000_text : time_text 946684800 ≡ codes "2000-01-01T00:00:00Z"
unfolding civil_date date_from date_in_year two_digits date_text clock_text
first_of_2000_text = refl

last_time : time_text 4294967295 ≡ codes "2106-02-07T06:28:15Z"
unfolding civil_date date_from date_in_year two_digits date_text clock_text
last_time = refl

abbrev keytab_part : Extent
keytab_part = record { at = 2; length = None }

refused : file_refused_line Lines 37 why.Truncated None keytab_part ≡ codes "refused place=37 why=3 Truncated\n"
unfolding digits opening closing labelled record_text value_text
refused = refl

named_refused : file_refused_line NamedLines 29 why.Truncated (Some (codes "record[0].component[1]")) keytab_part ≡ codes "refused place=29 why=3 Truncated in=record[0].component[1] at=2 length=-\n"
unfolding digits opening closing labelled record_text value_text
named_refused = refl

refused_object : file_refused_line Json 37 why.Truncated None keytab_part ≡ codes "{\"kind\":\"refused\",\"place\":37,\"why\":3,\"why_name\":\"Truncated\",\"in\":null,\"at\":2,\"length\":null}\n"
unfolding digits opening closing labelled record_text members json_value names_member
refused_object = refl

-- ---- frames
abbrev frame : Extent
frame = record { at = 35; length = Some 31 }

-- the path of the field at fault
frame_refused : frame_refused_line Lines 0 12 Range (Some (codes "AP-REP.pvno")) frame ≡ codes "refused messages=0 place=12 why=12 Range\n"
unfolding digits opening closing labelled record_text value_text
frame_refused = refl

named_frame_refused : frame_refused_line NamedLines 0 12 Range (Some (codes "AP-REP.pvno")) frame ≡ codes "refused messages=0 place=12 why=12 Range in=AP-REP.pvno at=35 length=31\n"
unfolding digits opening closing labelled record_text value_text
named_frame_refused = refl

refused_without_a_path : frame_refused_line NamedLines 0 3 HighBit None (record { at = 0; length = Some 2147483653 }) ≡ codes "refused messages=0 place=3 why=1 HighBit in=- at=0 length=2147483653\n"
unfolding digits opening closing labelled record_text value_text
refused_without_a_path = refl

frame_refused_object : frame_refused_line Json 0 12 Range (Some (codes "AP-REP.pvno")) frame ≡ codes "{\"kind\":\"refused\",\"messages\":0,\"place\":12,\"why\":12,\"why_name\":\"Range\",\"in\":\"AP-REP.pvno\",\"at\":35,\"length\":31}\n"
unfolding digits opening closing labelled record_text members json_value names_member
frame_refused_object = refl

frame_refused_untold : untold_refused_line NamedLines 0 12 Range (Some (codes "AP-REP.pvno")) ≡ codes "refused messages=0 place=12 why=12 Range in=AP-REP.pvno\n"
unfolding digits opening closing labelled record_text value_text
frame_refused_untold = refl

-- ---- octets that are no message, alone and in layers
abbrev one : Extent
one = record { at = 0; length = Some 600 }

token_refused : message_refused_line NamedLines (message_origin None (Gss ∷ [])) (record { place = 3; why = Overrun }) (Some (codes "GSS")) one Octets ≡ codes "via=GSS refused place=3 why=5 Overrun in=GSS at=0 length=600 form=octets\n"
unfolding digits opening opening_from closing labelled record_text value_text
token_refused = refl

token_refused_object : message_refused_line Json (message_origin (Some 2) (Frame ∷ [])) (record { place = 3; why = whys.Truncated }) None (record { at = 11; length = Some 3 }) Hex ≡ codes "{\"kind\":\"refused\",\"line\":2,\"via\":[\"frame\"],\"place\":3,\"why\":16,\"why_name\":\"Truncated\",\"in\":null,\"at\":11,\"length\":3,\"form\":\"hex\"}\n"
unfolding digits opening opening_from closing labelled record_text members json_value names_member
token_refused_object = refl

message_refused : message_refused_line Lines (message_origin (Some 2) []) (record { place = 1; why = Overrun }) (Some (codes "AP-REP")) one Hex ≡ codes "line=2 refused place=1 why=5 Overrun\n"
unfolding digits opening opening_from closing labelled record_text value_text
message_refused = refl

message_refused_untold : untold_message_refused_line NamedLines (record { place = 1; why = Overrun }) (Some (codes "AP-REP")) ≡ codes "refused place=1 why=5 Overrun in=AP-REP\n"
unfolding digits opening closing labelled record_text value_text
message_refused_untold = refl

-- ---- input that is not looked at as a message
abbrev input : Extent
input = record { at = 0; length = None }

dump_refused : input_refused_line NamedLines [] (Misspelled Dump) (Some 136) input None ≡ codes "refused dump place=136 why=- in=- at=0 length=- form=-\n"
unfolding digits opening closing labelled record_text value_text
dump_refused = refl

dump_refused_object : input_refused_line Json [] (Misspelled Dump) (Some 136) input None ≡ codes "{\"kind\":\"refused\",\"input\":\"dump\",\"place\":136,\"why\":null,\"why_name\":null,\"in\":null,\"at\":0,\"length\":null,\"form\":null}\n"
unfolding digits opening closing labelled record_text members json_value names_member
dump_refused_object = refl

length_refused : input_refused_line NamedLines [] Length None input None ≡ codes "refused length place=- why=- in=- at=0 length=- form=-\n"
unfolding digits opening closing labelled record_text value_text
length_refused = refl

line_refused : input_refused_line Lines (message_origin (Some 4) []) (Misspelled Hex) (Some 7) input None ≡ codes "line=4 refused hex\n"
unfolding digits opening opening_from closing labelled record_text value_text
line_refused = refl

ntlm_refused : input_refused_line NamedLines (message_origin None (Spnego ∷ [])) Ntlm (Some 27) (record { at = 0; length = Some 59 }) (Some Hex) ≡ codes "via=SPNEGO refused ntlm place=27 why=- in=- at=0 length=59 form=hex\n"
unfolding digits opening opening_from closing labelled record_text value_text
ntlm_refused = refl

-- ---- ticket flags
flags : ticket_flags_text 0x40E1_0000 ≡ codes "forwardable,renewable,initial,pre-authent+00010000"
unfolding ticket_flags_text names_text flag_name eight_hex
flags = refl

no_flags : ticket_flags_text 0 ≡ codes "-"
unfolding ticket_flags_text names_text flag_name eight_hex
no_flags = refl

flags_without_names : ticket_flags_text 0x8000_0001 ≡ codes "-+80000001"
unfolding ticket_flags_text names_text flag_name eight_hex
flags_without_names = refl

-- ---- addresses of IPv6
loopback : endpoint_text (record { address = ip.V6 (record { segments = 0 ∷ 0 ∷ 0 ∷ 0 ∷ 0 ∷ 0 ∷ 0 ∷ 1 ∷ [] }); port = 88 }) ≡ codes "[::1]:88"
unfolding digits ipv6_text hex_groups_text hex
loopback = refl

mapped : endpoint_text (record { address = ip.V6 (record { segments = 0 ∷ 0 ∷ 0 ∷ 0 ∷ 0 ∷ 0xFFFF ∷ 0x7F00 ∷ 1 ∷ [] }); port = 88 }) ≡ codes "[::ffff:127.0.0.1]:88"
unfolding digits ipv6_text hex_groups_text hex
mapped = refl
