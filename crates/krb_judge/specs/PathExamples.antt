-- Worked examples of paths, computed: octets in hexadecimal, up to and with the refused one, and what is at fault.
use Rattle.std.specs.Prelude.{ℕ, ◌≡◌, List, [], ◌++◌, Option, Some, None, codes, refl}
use Rattle.std.specs.Fmt.{digits}
use Rattle.krb_der.specs.Hex.{hex}
use Rattle.krb_der.specs.declared.profile.Profile.TheVariants.{Lenient, Strict}
use Rattle.krb_judge.specs.Paths.{message_path}

abbrev path : ℕ → List ℕ → Option (List ℕ)
path n octets = message_path Lenient n octets

-- ---- the kind of the message, by its tag
nothing_there : path 31 [] ≡ None
nothing_there = refl

no_message : path 31 (hex (codes "30")) ≡ None
no_message = refl

tag_alone : path 31 (hex (codes "6F")) ≡ Some (codes "AP-REP")
tag_alone = refl

indefinite_length : path 31 (hex (codes "6F80")) ≡ Some (codes "AP-REP")
indefinite_length = refl

no_room_for_a_length : path 1 (hex (codes "6F")) ≡ Some (codes "AP-REP")
no_room_for_a_length = refl

one_octet_too_few : path 31 (hex (codes "6F1C")) ≡ Some (codes "AP-REP")
one_octet_too_few = refl

length_not_minimal : path 32 (hex (codes "6F811D")) ≡ Some (codes "AP-REP")
length_not_minimal = refl

nothing_inside : path 2 (hex (codes "6F00")) ≡ Some (codes "AP-REP")
nothing_inside = refl

loose_sequence : path 31 (hex (codes "6F1D301A")) ≡ Some (codes "AP-REP")
loose_sequence = refl

-- ---- fields
tag_of_no_field : path 31 (hex (codes "6F1D301B A1")) ≡ Some (codes "AP-REP")
tag_of_no_field = refl

tag_of_a_field : path 31 (hex (codes "6F1D301B A0")) ≡ Some (codes "AP-REP.pvno")
tag_of_a_field = refl

wrong_tag_in_a_field : path 31 (hex (codes "6F1D301B A00304")) ≡ Some (codes "AP-REP.pvno")
wrong_tag_in_a_field = refl

version_of_two_octets : path 31 (hex (codes "6F1D301B A0040202")) ≡ Some (codes "AP-REP.pvno")
version_of_two_octets = refl

wrong_version : path 31 (hex (codes "6F1D301B A003020104")) ≡ Some (codes "AP-REP.pvno")
wrong_version = refl

field_done : path 31 (hex (codes "6F1D301B A003020105 A10302010F")) ≡ Some (codes "AP-REP")
field_done = refl

padded_integer : path 32 (hex (codes "6F1E301C A003020105 A10302010F A210300E A00402020012")) ≡ Some (codes "AP-REP.enc-part.etype")
padded_integer = refl

cut_in_a_string : path 31 (hex (codes "6F1D301B A003020105 A10302010F A20F300D A003020112 A2060404DEAD")) ≡ Some (codes "AP-REP.enc-part.cipher")
cut_in_a_string = refl

-- ---- what is missing
no_enc_part : path 14 (hex (codes "6F0C300A A003020105 A10302010F")) ≡ Some (codes "AP-REP.enc-part")
no_enc_part = refl

no_field : path 4 (hex (codes "6F023000")) ≡ Some (codes "AP-REP.pvno")
no_field = refl

nothing_in_a_tag : path 6 (hex (codes "6F043002 A000")) ≡ Some (codes "AP-REP.pvno")
nothing_in_a_tag = refl

-- ---- lists, in the body of a TGS-REQ
abbrev additional_tickets : List ℕ
additional_tickets = hex (codes "6C6B3069 A103020105 A20302010C A45D305B A00703050000000000 A2031B0141 A511180F31393730303130313030303030305A A703020101 A8023000 AB2F302D")

list_cut : path 109 additional_tickets ≡ Some (codes "TGS-REQ.req-body.additional-tickets")
list_cut = refl

tag_of_no_item : path 109 (additional_tickets ++ hex (codes "60")) ≡ Some (codes "TGS-REQ.req-body.additional-tickets")
tag_of_no_item = refl

first_item : path 109 (additional_tickets ++ hex (codes "612B3029 A003020105 A1031B0141 A20E300C A003020102 A10530031B0268")) ≡ Some (codes "TGS-REQ.req-body.additional-tickets[0].sname.name-string[0]")
unfolding digits
first_item = refl

second_item : path 63 (hex (codes "6A3D303B A103020105 A20302010A A42F302D A00403020140 A2031B0141 A511180F31393730303130313030303030305A A703020101 A8083006020112020211")) ≡ Some (codes "AS-REQ.req-body.etype[1]")
unfolding digits
second_item = refl

-- ---- other messages
number_of_a_reply : path 97 (hex (codes "6D5F305D A003020105 A10302010B")) ≡ Some (codes "TGS-REP.msg-type")
number_of_a_reply = refl

not_a_digit : path 81 (hex (codes "7E4F304D A003020105 A10302011E A411180F41")) ≡ Some (codes "KRB-ERROR.stime")
not_a_digit = refl

too_many_unused : path 60 (hex (codes "6A3A3038 A103020105 A20302010A A42C302A A004030208")) ≡ Some (codes "AS-REQ.req-body.kdc-options")
too_many_unused = refl

-- the two types that are alike but for their names
address_of_a_sender : path 61 (hex (codes "743B3039 A003020105 A103020114 A21E301C A0040402CAFE A303020101 A40F300D A0030202")) ≡ Some (codes "KRB-SAFE.safe-body.s-address.addr-type")
address_of_a_sender = refl

checksum_type : path 61 (hex (codes "743B3039 A003020105 A103020114 A21E301C A0040402CAFE A303020101 A40F300DA003020102A10604040A000001 A30D300B A0030202")) ≡ Some (codes "KRB-SAFE.cksum.cksumtype")
checksum_type = refl

-- ---- profiles
abbrev negative_nonce : List ℕ
negative_nonce = hex (codes "6A3A3038 A103020105 A20302010A A42C302A A00703050000000000 A2031B0141 A511180F31393730303130313030303030305A A7030201FF")

nonce_of_any_sign : path 60 negative_nonce ≡ Some (codes "AS-REQ.req-body")
nonce_of_any_sign = refl

nonce_without_sign : message_path Strict 60 negative_nonce ≡ Some (codes "AS-REQ.req-body.nonce")
nonce_without_sign = refl
