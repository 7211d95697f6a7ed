-- Worked examples, computed: the octets of a message in hexadecimal, and its text; lines, and what they spell or what is wrong with them.
use Rattle.std.specs.Prelude.{ℕ, ◌≡◌, List, ◌++◌, Some, None, Result, Ok, Err, codes, refl}
use Rattle.std.specs.Fmt.{digits}
use Rattle.hex.specs.Hex.{encode_with, decode_pairs}
use Rattle.json.specs.Json.{Json, null, number, string, array, object, no_items, item, no_members, member}
use Rattle.json.specs.Print.{print_from, escape_byte}
use Rattle.krb_der.specs.Hex.{hex}
use Rattle.krb_der.specs.declared.profile.Profile.{Profile}
use Rattle.krb_der.specs.declared.profile.Profile.TheVariants.{Lenient, Strict}
use Rattle.krb_msg.specs.Term.{Text, Bits}
use Rattle.krb_msg.specs.Views.{message_of_der}
use Rattle.krb_msg.specs.Views.{message_der, message_value}
use Rattle.krb_msg.specs.declared.message.Kind.TheVariants.{ApRep, AsReq, KrbError}
use Rattle.krb_msg.specs.declared.message.Message.{Message}
use Rattle.krb_judge.specs.FieldNames.{names_of_kind}
use Rattle.krb_json.specs.Lines.{LineFault, message_text, value_spells, line_fault_text}
use Rattle.krb_json.specs.Masked.{masked_in}
use Rattle.krb_json.specs.Unencrypted.{unencrypted_in}
use Rattle.krb_json.specs.OtherCase.{InOtherCase, MessageInOtherCase}

abbrev text : List ℕ → List ℕ
text octets = message_text (message_of_der (hex octets))

abbrev ticket : List ℕ
ticket = codes "612B3029 A003020105 A1031B0141 A20E300C A003020102 A10530031B0168 A30D300B A003020112 A2040402BEEF"

abbrev encrypted : List ℕ
encrypted = codes "300B A003020112 A2040402BEEF"

a_as_req : text (codes "6A3A3038 A103020105 A20302010A A42C302A A00403020140 A2031B0141 A511180F31393730303130313030303030305A A7030201FF A8053003020112") ≡ codes "{\"AS-REQ\":{\"pvno\":5,\"msg-type\":10,\"req-body\":{\"kdc-options\":{\"value\":\"40\",\"length\":7},\"realm\":\"A\",\"till\":\"19700101000000Z\",\"nonce\":-1,\"etype\":[18]}}}"
unfolding digits encode_with print_from escape_byte
a_as_req = refl

a_as_rep : text (codes "6B5F305D A003020105 A10302010B A3031B0141 A40E300C A003020101 A10530031B0175 A52D " ++ ticket ++ codes " A60D " ++ encrypted) ≡ codes "{\"AS-REP\":{\"pvno\":5,\"msg-type\":11,\"crealm\":\"A\",\"cname\":{\"name-type\":1,\"name-string\":[\"u\"]},\"ticket\":{\"tkt-vno\":5,\"realm\":\"A\",\"sname\":{\"name-type\":2,\"name-string\":[\"h\"]},\"enc-part\":{\"etype\":18,\"cipher\":\"beef\"}},\"enc-part\":{\"etype\":18,\"cipher\":\"beef\"}}}"
unfolding digits encode_with print_from escape_byte
a_as_rep = refl

a_tgs_req : text (codes "6C6B3069 A103020105 A20302010C A45D305B A00703050000000000 A2031B0141 A511180F31393730303130313030303030305A A703020101 A8023000 AB2F302D " ++ ticket) ≡ codes "{\"TGS-REQ\":{\"pvno\":5,\"msg-type\":12,\"req-body\":{\"kdc-options\":{\"value\":\"00000000\",\"length\":32},\"realm\":\"A\",\"till\":\"19700101000000Z\",\"nonce\":1,\"etype\":[],\"additional-tickets\":[{\"tkt-vno\":5,\"realm\":\"A\",\"sname\":{\"name-type\":2,\"name-string\":[\"h\"]},\"enc-part\":{\"etype\":18,\"cipher\":\"beef\"}}]}}}"
unfolding digits encode_with print_from escape_byte
a_tgs_req = refl

a_tgs_rep : text (codes "6D5F305D A003020105 A10302010D A3031B0141 A40E300C A003020101 A10530031B0175 A52D " ++ ticket ++ codes " A60D " ++ encrypted) ≡ codes "{\"TGS-REP\":{\"pvno\":5,\"msg-type\":13,\"crealm\":\"A\",\"cname\":{\"name-type\":1,\"name-string\":[\"u\"]},\"ticket\":{\"tkt-vno\":5,\"realm\":\"A\",\"sname\":{\"name-type\":2,\"name-string\":[\"h\"]},\"enc-part\":{\"etype\":18,\"cipher\":\"beef\"}},\"enc-part\":{\"etype\":18,\"cipher\":\"beef\"}}}"
unfolding digits encode_with print_from escape_byte
a_tgs_rep = refl

a_ap_req : text (codes "6E533051 A003020105 A10302010E A20703050000000000 A32D " ++ ticket ++ codes " A40D " ++ encrypted) ≡ codes "{\"AP-REQ\":{\"pvno\":5,\"msg-type\":14,\"ap-options\":{\"value\":\"00000000\",\"length\":32},\"ticket\":{\"tkt-vno\":5,\"realm\":\"A\",\"sname\":{\"name-type\":2,\"name-string\":[\"h\"]},\"enc-part\":{\"etype\":18,\"cipher\":\"beef\"}},\"authenticator\":{\"etype\":18,\"cipher\":\"beef\"}}}"
unfolding digits encode_with print_from escape_byte
a_ap_req = refl

a_ap_rep : text (codes "6F1D301B A003020105 A10302010F A20F300D A003020112 A2060404DEADBEEF") ≡ codes "{\"AP-REP\":{\"pvno\":5,\"msg-type\":15,\"enc-part\":{\"etype\":18,\"cipher\":\"deadbeef\"}}}"
unfolding digits encode_with print_from escape_byte
a_ap_rep = refl

a_krb_safe : text (codes "743B3039 A003020105 A103020114 A21E301C A0040402CAFE A303020101 A40F300D A003020102 A10604040A000001 A30D300B A003020110 A1040402BEEF") ≡ codes "{\"KRB-SAFE\":{\"pvno\":5,\"msg-type\":20,\"safe-body\":{\"user-data\":\"cafe\",\"seq-number\":1,\"s-address\":{\"addr-type\":2,\"address\":\"0a000001\"}},\"cksum\":{\"cksumtype\":16,\"checksum\":\"beef\"}}}"
unfolding digits encode_with print_from escape_byte
a_krb_safe = refl

a_krb_priv : text (codes "751B3019 A003020105 A103020115 A30D " ++ encrypted) ≡ codes "{\"KRB-PRIV\":{\"pvno\":5,\"msg-type\":21,\"enc-part\":{\"etype\":18,\"cipher\":\"beef\"}}}"
unfolding digits encode_with print_from escape_byte
a_krb_priv = refl

a_krb_cred : text (codes "764C304A A003020105 A103020116 A22F302D " ++ ticket ++ codes " A30D " ++ encrypted) ≡ codes "{\"KRB-CRED\":{\"pvno\":5,\"msg-type\":22,\"tickets\":[{\"tkt-vno\":5,\"realm\":\"A\",\"sname\":{\"name-type\":2,\"name-string\":[\"h\"]},\"enc-part\":{\"etype\":18,\"cipher\":\"beef\"}}],\"enc-part\":{\"etype\":18,\"cipher\":\"beef\"}}}"
unfolding digits encode_with print_from escape_byte
a_krb_cred = refl

a_krb_error : text (codes "7E4F304D A003020105 A10302011E A411180F32303030303130313030303030305A A503020100 A603020119 A9031B0141 AA0E300C A003020102 A10530031B0168 AC0F040D 300B3009A103020102A2020400") ≡ codes "{\"KRB-ERROR\":{\"pvno\":5,\"msg-type\":30,\"stime\":\"20000101000000Z\",\"susec\":0,\"error-code\":25,\"realm\":\"A\",\"sname\":{\"name-type\":2,\"name-string\":[\"h\"]},\"e-data\":\"300b3009a103020102a2020400\"}}"
unfolding digits encode_with print_from escape_byte
a_krb_error = refl

-- ---- back: the octets of the message that a JSON value spells, or the text of its fault
abbrev outcome : Result Message LineFault → Result (List ℕ) (List ℕ)
outcome (Ok m) = Ok (message_der m)
outcome (Err fault) = Err (line_fault_text fault)

abbrev spells : Profile → (limit : ℕ) → Json → Result (List ℕ) (List ℕ)
spells profile limit j = outcome (value_spells profile limit (Some j))

-- an AP-REP with an enc-part
abbrev ap_rep : Json → Json
ap_rep encrypted = object (member (codes "AP-REP") (object (member (codes "pvno") (number (codes "5")) (member (codes "msg-type") (number (codes "15")) (member (codes "enc-part") encrypted no_members)))) no_members)

-- an AS-REQ with flags
abbrev as_req : Json → Json
as_req flags = object (member (codes "AS-REQ") (object (member (codes "pvno") (number (codes "5")) (member (codes "msg-type") (number (codes "10")) (member (codes "req-body") (object (member (codes "kdc-options") flags (member (codes "realm") (string (codes "A")) (member (codes "till") (string (codes "19700101000000Z")) (member (codes "nonce") (number (codes "-1")) (member (codes "etype") (array (item (number (codes "18")) no_items)) no_members)))))) no_members)))) no_members)

-- a KRB-ERROR with a realm and an stime
abbrev krb_error : Json → Json → Json
krb_error realm time = object (member (codes "KRB-ERROR") (object (member (codes "pvno") (number (codes "5")) (member (codes "msg-type") (number (codes "30")) (member (codes "stime") time (member (codes "susec") (number (codes "0")) (member (codes "error-code") (number (codes "25")) (member (codes "realm") realm (member (codes "sname") (object (member (codes "name-type") (number (codes "2")) (member (codes "name-string") (array (item (string (codes "h")) no_items)) no_members))) (member (codes "e-data") (string (codes "300b3009a103020102a2020400")) no_members))))))))) no_members)

members_in_any_order : spells Lenient 16777216 (ap_rep (object (member (codes "cipher") (string (codes "DEADBEEF")) (member (codes "etype") (number (codes "18")) no_members)))) ≡ Ok (hex (codes "6F1D301B A003020105 A10302010F A20F300D A003020112 A2060404DEADBEEF"))
unfolding digits encode_with decode_pairs
members_in_any_order = refl

minus_zero : spells Lenient 16777216 (ap_rep (object (member (codes "cipher") (string (codes "")) (member (codes "etype") (number (codes "-0")) no_members)))) ≡ Ok (hex (codes "6F193017 A003020105 A10302010F A20B3009 A003020100 A2020400"))
unfolding digits encode_with decode_pairs
minus_zero = refl

no_message : spells Lenient 16777216 (object (member (codes "kind") (string (codes "end")) (member (codes "messages") (number (codes "1")) no_members))) ≡ Err (codes "not an object whose one member is a message")
unfolding digits encode_with decode_pairs
no_message = refl

two_members : spells Lenient 16777216 (object (member (codes "AP-REP") (object no_members) (member (codes "AP-REP") (object no_members) no_members))) ≡ Err (codes "not an object whose one member is a message")
unfolding digits encode_with decode_pairs
two_members = refl

no_cipher : spells Lenient 16777216 (ap_rep (object (member (codes "etype") (number (codes "18")) no_members))) ≡ Err (codes "AP-REP.enc-part.cipher: missing")
unfolding digits encode_with decode_pairs
no_cipher = refl

blank_in_digits : spells Lenient 16777216 (ap_rep (object (member (codes "etype") (number (codes "18")) (member (codes "cipher") (string (codes "dead beef")) no_members)))) ≡ Err (codes "AP-REP.enc-part.cipher: not hexadecimal")
unfolding digits encode_with decode_pairs
blank_in_digits = refl

a_fraction : spells Lenient 16777216 (ap_rep (object (member (codes "etype") (number (codes "18.0")) (member (codes "cipher") (string (codes "")) (member (codes "kvno") null no_members))))) ≡ Err (codes "AP-REP.enc-part.etype: not an integer")
unfolding digits encode_with decode_pairs
a_fraction = refl

null_is_not_absence : spells Lenient 16777216 (ap_rep (object (member (codes "etype") (number (codes "18")) (member (codes "cipher") (string (codes "")) (member (codes "kvno") null no_members))))) ≡ Err (codes "AP-REP.enc-part.kvno: not a number")
unfolding digits encode_with decode_pairs
null_is_not_absence = refl

other_letters : spells Lenient 16777216 (ap_rep (object (member (codes "etype") (string (codes "18")) (member (codes "cipher") (number (codes "1")) (member (codes "Cipher") (number (codes "2")) no_members))))) ≡ Err (codes "AP-REP.enc-part.Cipher: no such field")
unfolding digits encode_with decode_pairs
other_letters = refl

twice : spells Lenient 16777216 (ap_rep (object (member (codes "etype") (number (codes "18")) (member (codes "cipher") (string (codes "")) (member (codes "etype") (number (codes "18")) no_members))))) ≡ Err (codes "AP-REP.enc-part.etype: twice")
unfolding digits encode_with decode_pairs
twice = refl

wrong_version : spells Lenient 16777216 (object (member (codes "AP-REP") (object (member (codes "pvno") (number (codes "4")) no_members)) no_members)) ≡ Err (codes "AP-REP.pvno: not 5")
unfolding digits encode_with decode_pairs
wrong_version = refl

outside : spells Lenient 16777216 (ap_rep (object (member (codes "etype") (number (codes "2147483648")) (member (codes "cipher") (string (codes "")) no_members)))) ≡ Err (codes "AP-REP.enc-part.etype: not -2147483648 to 2147483647")
unfolding digits encode_with decode_pairs
outside = refl

eight_bits : spells Lenient 16777216 (as_req (object (member (codes "value") (string (codes "40")) (member (codes "length") (number (codes "8")) no_members)))) ≡ Ok (hex (codes "6A3A3038 A103020105 A20302010A A42C302A A00403020040 A2031B0141 A511180F31393730303130313030303030305A A7030201FF A8053003020112"))
unfolding digits encode_with decode_pairs
eight_bits = refl

nine_bits : spells Lenient 16777216 (as_req (object (member (codes "value") (string (codes "40")) (member (codes "length") (number (codes "9")) no_members)))) ≡ Err (codes "AS-REQ.req-body.kdc-options.length: not 1 to 8")
unfolding digits encode_with decode_pairs
nine_bits = refl

set_past_length : spells Lenient 16777216 (as_req (object (member (codes "value") (string (codes "41")) (member (codes "length") (number (codes "7")) no_members)))) ≡ Err (codes "AS-REQ.req-body.kdc-options.value: a bit past the length is set")
unfolding digits encode_with decode_pairs
set_past_length = refl

few_flags : spells Strict 16777216 (as_req (object (member (codes "value") (string (codes "40")) (member (codes "length") (number (codes "7")) no_members)))) ≡ Err (codes "AS-REQ.req-body.kdc-options: fewer than 32 bits")
unfolding digits encode_with decode_pairs
few_flags = refl

escaped_octet : spells Lenient 16777216 (krb_error (string (codes "\\x41")) (string (codes "20000101000000Z"))) ≡ Ok (hex (codes "7E4F304D A003020105 A10302011E A411180F32303030303130313030303030305A A503020100 A603020119 A9031B0141 AA0E300C A003020102 A10530031B0168 AC0F040D 300B3009A103020102A2020400"))
unfolding digits encode_with decode_pairs
escaped_octet = refl

lone_backslash : spells Lenient 16777216 (krb_error (string (codes "\\")) (string (codes "20000101000000Z"))) ≡ Err (codes "KRB-ERROR.realm: \\ without x and two hexadecimal digits")
unfolding digits encode_with decode_pairs
lone_backslash = refl

no_time : spells Lenient 16777216 (krb_error (string (codes "A")) (string (codes "2000-01-01T00:00:00Z"))) ≡ Err (codes "KRB-ERROR.stime: not a time")
unfolding digits encode_with decode_pairs
no_time = refl

high_octet : spells Strict 16777216 (krb_error (string (codes "\\xe9")) (string (codes "20000101000000Z"))) ≡ Err (codes "KRB-ERROR.realm: an octet above 7f")
unfolding digits encode_with decode_pairs
high_octet = refl

no_object : spells Lenient 16777216 (object (member (codes "KRB-SAFE") (array no_items) no_members)) ≡ Err (codes "KRB-SAFE: not an object")
unfolding digits encode_with decode_pairs
no_object = refl

limit : spells Lenient 30 (ap_rep (object (member (codes "etype") (number (codes "18")) (member (codes "cipher") (string (codes "deadbeef")) no_members)))) ≡ Err (codes "AP-REP: longer than 30 octets")
unfolding digits encode_with decode_pairs
limit = refl

-- ---- what is not encrypted
an_encrypted_message : unencrypted_in (message_of_der (hex (codes "6F1D301B A003020105 A10302010F A20F300D A003020112 A2060404DEADBEEF"))) ≡ None
an_encrypted_message = refl

an_unencrypted_message : unencrypted_in (message_of_der (hex (codes "6F193017 A003020105 A10302010F A20B3009 A003020100 A2020400"))) ≡ Some (codes "AP-REP.enc-part")
an_unencrypted_message = refl

-- with a cipher, and with zeros in its place
masked_cipher : masked_in (message_of_der (hex (codes "6F1D301B A003020105 A10302010F A20F300D A003020100 A2060404DEADBEEF"))) ≡ masked_in (message_of_der (hex (codes "6F1D301B A003020105 A10302010F A20F300D A003020100 A206040400000000")))
masked_cipher = refl

-- an encrypted one stays
kept_cipher : masked_in (message_of_der (hex (codes "6F1D301B A003020105 A10302010F A20F300D A003020112 A2060404DEADBEEF"))) ≡ (ApRep, message_value (message_of_der (hex (codes "6F1D301B A003020105 A10302010F A20F300D A003020112 A2060404DEADBEEF"))))
kept_cipher = refl

-- ---- digits of either case
capital_digits : MessageInOtherCase Lenient (ap_rep (object (member (codes "cipher") (string (codes "DEADBEEF")) (member (codes "etype") (number (codes "18")) no_members)))) (ap_rep (object (member (codes "cipher") (string (codes "DeadBeef")) (member (codes "etype") (number (codes "18")) no_members))))
capital_digits = (ApRep, _, _, refl, refl, (refl, (refl, (refl, ((refl, (refl, (tt, (refl, tt)))), tt)))))

a_capital_in_flags : InOtherCase (Bits 0) (names_of_kind AsReq) (object (member (codes "value") (string (codes "4A")) (member (codes "length") (number (codes "7")) no_members))) (object (member (codes "value") (string (codes "4a")) (member (codes "length") (number (codes "7")) no_members)))
a_capital_in_flags = (refl, (refl, refl))

a_capital_in_a_text : InOtherCase (Text 255) (names_of_kind KrbError) (string (codes "\\xE9")) (string (codes "\\xe9"))
a_capital_in_a_text = refl
