-- Worked examples, computed by the definitions: octets in hexadecimal, and what they are.
use Rattle.std.specs.Prelude.{ℕ, pos, negsuc, ◌≡◌, true, false, List, [], ◌∷◌, ◌++◌, take, Some, None, codes, refl}
use Rattle.krb_der.specs.Hex.{hex}
use Rattle.krb_der.specs.declared.profile.Profile.TheVariants.{Lenient}
use Rattle.krb_der.specs.declared.why.Why.TheVariants as why
use Rattle.krb_der.specs.declared.verdict.Verdict.TheVariants as verdict
use Rattle.krb_msg.specs.declared.message.Message.{Message}
use Rattle.krb_msg.specs.declared.message.Message.TheVariants as message
use Rattle.krb_msg.specs.Term.{Text, Bits, SequenceOf}
use Rattle.krb_msg.specs.Grammar.{messages, int32, kerberos_string, sequence_of, ticket, ap_req, as_rep, tgs_rep, as_req, tgs_req, krb_safe, krb_priv, krb_cred, krb_error, method_data}
use Rattle.krb_msg.specs.Judgement.{Bad, Done, item_outcome, judgement}
use Rattle.krb_msg.specs.Stream.{Frames, Boundary, Within, Refused, ends, frames}
use Rattle.krb_msg.specs.Views.{message_der}

-- ---- an AP-REP
abbrev ap_rep_octets : List ℕ
ap_rep_octets = hex (codes "6F1D301B A003020105 A10302010F A20F300D A003020112 A2060404DEADBEEF")

abbrev ap_rep_frame : List ℕ
ap_rep_frame = 0 ∷ 0 ∷ 0 ∷ 31 ∷ ap_rep_octets

abbrev ap_rep_message : Message
ap_rep_message = message.ApRep (record { enc_part = record { etype = pos 18; kvno = None; cipher = hex (codes "DEADBEEF") } })

ap_rep_der : message_der ap_rep_message ≡ ap_rep_octets
ap_rep_der = refl

ap_rep_whole : judgement Lenient 31 ap_rep_octets ≡ verdict.Whole
ap_rep_whole = refl

ap_rep_open : judgement Lenient 31 (take 30 ap_rep_octets) ≡ verdict.Open
ap_rep_open = refl

-- with a key version of -1
negative_key_version : message_der (message.ApRep (record { enc_part = record { etype = pos 18; kvno = Some (negsuc 0); cipher = hex (codes "DEADBEEF") } })) ≡ hex (codes "6F223020 A003020105 A10302010F A2143012 A003020112 A1030201FF A2060404DEADBEEF")
negative_key_version = refl

-- ---- refusals of contents
wrong_version : judgement Lenient 31 (hex (codes "6F1D301B A003020104")) ≡ verdict.Refused (record { place = 8; why = why.Range })
wrong_version = refl

indefinite_length : judgement Lenient 31 (hex (codes "6F80")) ≡ verdict.Refused (record { place = 1; why = why.Indefinite })
indefinite_length = refl

length_of_five_octets : judgement Lenient 31 (hex (codes "6F85")) ≡ verdict.Refused (record { place = 1; why = why.LengthWide })
length_of_five_octets = refl

no_room_for_a_length : judgement Lenient 1 (hex (codes "6F")) ≡ verdict.Refused (record { place = 0; why = why.Overrun })
no_room_for_a_length = refl

no_room_for_a_long_length : judgement Lenient 2 (hex (codes "6F81")) ≡ verdict.Refused (record { place = 1; why = why.Overrun })
no_room_for_a_long_length = refl

one_octet_too_many : judgement Lenient 31 (hex (codes "6F1E")) ≡ verdict.Refused (record { place = 1; why = why.Overrun })
one_octet_too_many = refl

one_octet_too_few : judgement Lenient 31 (hex (codes "6F1C")) ≡ verdict.Refused (record { place = 1; why = why.Loose })
one_octet_too_few = refl

length_not_minimal : judgement Lenient 32 (hex (codes "6F811D")) ≡ verdict.Refused (record { place = 2; why = why.LengthNotMinimal })
length_not_minimal = refl

no_message : judgement Lenient 31 (hex (codes "30")) ≡ verdict.Refused (record { place = 0; why = why.Tag })
no_message = refl

no_enc_part : judgement Lenient 14 (hex (codes "6F0C300A A003020105 A10302010F")) ≡ verdict.Refused (record { place = 13; why = why.Missing })
no_enc_part = refl

-- the leaf is judged before the containers that it fills
no_enc_part_and_wrong_type : judgement Lenient 14 (hex (codes "6F0C300A A003020105 A10302010E")) ≡ verdict.Refused (record { place = 13; why = why.Range })
no_enc_part_and_wrong_type = refl

nothing_inside : judgement Lenient 2 (hex (codes "6F00")) ≡ verdict.Refused (record { place = 1; why = why.Missing })
nothing_inside = refl

padded_integer : judgement Lenient 32 (hex (codes "6F1E301C A003020105 A10302010F A210300E A00402020012")) ≡ verdict.Refused (record { place = 23; why = why.IntegerNotMinimal })
padded_integer = refl

loose_sequence : judgement Lenient 31 (hex (codes "6F1D301A")) ≡ verdict.Refused (record { place = 3; why = why.Loose })
loose_sequence = refl

version_of_two_octets : judgement Lenient 31 (hex (codes "6F1D301B A0040202")) ≡ verdict.Refused (record { place = 7; why = why.Size })
version_of_two_octets = refl

-- ---- streams
abbrev refused : ℕ → why.the_data → Frames
refused place reason = ends (Refused place reason)

no_octet : frames (messages Lenient) 16777216 [] ≡ ends Boundary
unfolding frames
no_octet = refl

two_and_a_part : frames (messages Lenient) 16777216 (ap_rep_frame ++ ap_rep_frame ++ 0 ∷ []) ≡ record { contents = ap_rep_octets ∷ ap_rep_octets ∷ []; end = Within 1 }
unfolding frames
two_and_a_part = refl

two_and_nothing : frames (messages Lenient) 31 (ap_rep_frame ++ ap_rep_frame) ≡ record { contents = ap_rep_octets ∷ ap_rep_octets ∷ []; end = Boundary }
unfolding frames
two_and_nothing = refl

longer_than_the_limit : frames (messages Lenient) 30 ap_rep_frame ≡ refused 3 why.TooLong
unfolding frames
longer_than_the_limit = refl

a_length_with_its_high_bit : frames (messages Lenient) 16777216 (hex (codes "80000005")) ≡ refused 3 why.HighBit
unfolding frames
a_length_with_its_high_bit = refl

a_length_of_nothing : frames (messages Lenient) 16777216 (ap_rep_frame ++ hex (codes "00000000")) ≡ record { contents = ap_rep_octets ∷ []; end = Refused 3 why.Empty }
unfolding frames
a_length_of_nothing = refl

a_wrong_version : frames (messages Lenient) 16777216 (hex (codes "0000001F 6F1D301B A003020104")) ≡ refused 12 why.Range
unfolding frames
a_wrong_version = refl

-- ---- the other messages of the grammar, and their parts
abbrev ticket_octets : List ℕ
ticket_octets = hex (codes "612B3029 A003020105 A1031B0141 A20E300CA003020102A10530031B0168 A30D300BA003020112A2040402BEEF")

abbrev encrypted_octets : List ℕ
encrypted_octets = hex (codes "300BA003020112A2040402BEEF")

ticket_whole : item_outcome ticket 45 true ticket_octets ≡ Done 45
ticket_whole = refl

ap_req_whole : item_outcome ap_req 85 true (hex (codes "6E533051 A003020105 A10302010E A20703050000000000 A32D") ++ ticket_octets ++ hex (codes "A40D") ++ encrypted_octets) ≡ Done 85
ap_req_whole = refl

as_rep_whole : item_outcome as_rep 97 true (hex (codes "6B5F305D A003020105 A10302010B A3031B0141 A40E300CA003020101A10530031B0175 A52D") ++ ticket_octets ++ hex (codes "A60D") ++ encrypted_octets) ≡ Done 97
as_rep_whole = refl

tgs_rep_whole : item_outcome tgs_rep 97 true (hex (codes "6D5F305D A003020105 A10302010D A3031B0141 A40E300CA003020101A10530031B0175 A52D") ++ ticket_octets ++ hex (codes "A60D") ++ encrypted_octets) ≡ Done 97
tgs_rep_whole = refl

-- an AS-REP under the tag of a TGS-REP
wrong_type : item_outcome tgs_rep 97 true (hex (codes "6D5F305D A003020105 A10302010B")) ≡ Bad 13 why.Range
wrong_type = refl

as_req_whole : item_outcome as_req 60 true (hex (codes "6A3A3038 A103020105 A20302010A A42C302A A00403020140 A2031B0141 A511180F31393730303130313030303030305A A7030201FF A8053003020112")) ≡ Done 60
as_req_whole = refl

-- an unused count of 8, and an unused bit that is set
too_many_unused : item_outcome as_req 60 true (hex (codes "6A3A3038 A103020105 A20302010A A42C302A A004030208")) ≡ Bad 22 why.Bits
too_many_unused = refl

set_unused : item_outcome as_req 60 true (hex (codes "6A3A3038 A103020105 A20302010A A42C302A A00403020141")) ≡ Bad 23 why.Bits
set_unused = refl

tgs_req_whole : item_outcome tgs_req 109 true (hex (codes "6C6B3069 A103020105 A20302010C A45D305B A00703050000000000 A2031B0141 A511180F31393730303130313030303030305A A703020101 A8023000 AB2F302D") ++ ticket_octets) ≡ Done 109
tgs_req_whole = refl

krb_safe_whole : item_outcome krb_safe 61 true (hex (codes "743B3039 A003020105 A103020114 A21E301C A0040402CAFE A303020101 A40F300DA003020102A10604040A000001 A30D300BA003020110A1040402BEEF")) ≡ Done 61
krb_safe_whole = refl

-- without its address
no_address : item_outcome krb_safe 61 true (hex (codes "743B3039 A003020105 A103020114 A21E301C A0040402CAFE A303020101 A5")) ≡ Bad 29 why.Tag
no_address = refl

krb_priv_whole : item_outcome krb_priv 29 true (hex (codes "751B3019 A003020105 A103020115 A30D") ++ encrypted_octets) ≡ Done 29
krb_priv_whole = refl

-- a KRB-PRIV has no [2]
no_two : item_outcome krb_priv 29 true (hex (codes "751B3019 A003020105 A103020115 A2")) ≡ Bad 14 why.Tag
no_two = refl

krb_cred_whole : item_outcome krb_cred 78 true (hex (codes "764C304A A003020105 A103020116 A22F302D") ++ ticket_octets ++ hex (codes "A30D") ++ encrypted_octets) ≡ Done 78
krb_cred_whole = refl

krb_error_whole : item_outcome krb_error 81 true (hex (codes "7E4F304D A003020105 A10302011E A411180F32303030303130313030303030305A A503020100 A603020119 A9031B0141 AA0E300CA003020102A10530031B0168 AC0F040D300B3009A103020102A2020400")) ≡ Done 81
krb_error_whole = refl

not_a_digit : item_outcome krb_error 81 true (hex (codes "7E4F304D A003020105 A10302011E A411180F41")) ≡ Bad 18 why.Time
not_a_digit = refl

method_data_whole : item_outcome method_data 13 true (hex (codes "300B3009A103020102A2020400")) ≡ Done 13
method_data_whole = refl

-- ---- what a profile narrows: a string's greatest octet, the least number of flags, and lists that may not be empty
string_of_ascii : item_outcome (Text 0x7F) 3 true (hex (codes "1B017F")) ≡ Done 3
string_of_ascii = refl

string_with_a_high_octet : item_outcome (Text 0x7F) 4 true (hex (codes "1B024180")) ≡ Bad 3 why.Charset
string_with_a_high_octet = refl

string_of_any_octets : item_outcome kerberos_string 4 true (hex (codes "1B024180")) ≡ Done 4
string_of_any_octets = refl

thirty_two_flags : item_outcome (Bits 32) 7 true (hex (codes "03050000000000")) ≡ Done 7
thirty_two_flags = refl

-- four octets and the unused count are too short, whatever the count is
too_few_octets_of_flags : item_outcome (Bits 32) 6 true (hex (codes "0304")) ≡ Bad 1 why.Size
too_few_octets_of_flags = refl

thirty_one_flags : item_outcome (Bits 32) 7 true (hex (codes "030501")) ≡ Bad 2 why.Bits
thirty_one_flags = refl

thirty_three_flags : item_outcome (Bits 32) 8 true (hex (codes "0306070000000000")) ≡ Done 8
thirty_three_flags = refl

empty_list : item_outcome (SequenceOf false int32) 2 true (hex (codes "3000")) ≡ Bad 1 why.Size
empty_list = refl

list_that_may_be_empty : item_outcome (sequence_of int32) 2 true (hex (codes "3000")) ≡ Done 2
list_that_may_be_empty = refl

list_of_one : item_outcome (SequenceOf false int32) 5 true (hex (codes "3003020101")) ≡ Done 5
list_of_one = refl
