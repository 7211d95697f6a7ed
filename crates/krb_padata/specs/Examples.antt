-- Worked examples, computed by the definitions: octets in hexadecimal, and what they are.
use Rattle.std.specs.Prelude.{ℕ, pos, ◌≡◌, List, [], ◌∷◌, map, Some, None, codes, refl}
use Rattle.krb_der.specs.Hex.{hex}
use Rattle.krb_der.specs.declared.why.Why.TheVariants as why
use Rattle.krb_der.specs.declared.verdict.Verdict.TheVariants as verdict
use Rattle.krb_msg.specs.Term.{der}
use Rattle.krb_msg.specs.Judgement.{term_judgement}
use Rattle.krb_msg.specs.ValueOfDer.{value_of_der}
use Rattle.krb_msg.specs.declared.checksum.Checksum.{Checksum}
use Rattle.krb_msg.specs.declared.encrypted_data.EncryptedData.{EncryptedData}
use Rattle.krb_padata.specs.Grammar.{etype_info, etype_info2, kerb_error_data, pa_fx_fast_request, pa_fx_fast_reply, pa_for_user, pa_pac_options, typed_data}
use Rattle.krb_padata.specs.Types.{etype_info_entry_value, etype_info2_entry_value, kerb_error_data_value, krb_fast_armored_req_of, krb_fast_armored_rep_of, pa_for_user_value, pa_pac_options_of, typed_data_item_value}

entries : der etype_info (map etype_info_entry_value (record { etype = pos 18; salt = Some (codes "R") } ∷ [])) ≡ hex (codes "300C 300A A003020112 A103040152")
entries = refl

entries2 : der etype_info2 (map etype_info2_entry_value (record { etype = pos 18; salt = Some (codes "R"); s2kparams = None } ∷ [])) ≡ hex (codes "300C 300A A003020112 A1031B0152")
entries2 = refl

-- the salt of an ETYPE-INFO is no GeneralString
entries_differ : term_judgement etype_info 14 (hex (codes "300C 300A A003020112 A1031B0152")) ≡ verdict.Refused (record { place = 11; why = why.Tag })
entries_differ = refl

-- ---- of a user
for_user : der pa_for_user (pa_for_user_value (record { user_name = record { name_type = pos 1; name = codes "u" ∷ [] }; user_realm = codes "R"; cksum = record { cksumtype = pos 16; checksum = 0xAB ∷ [] }; auth_package = codes "Kerberos" })) ≡ hex (codes "302F A00E300CA003020101A10530031B0175 A1031B0152 A20C300AA003020110A1030401AB A30A1B084B65726265726F73")
for_user = refl

-- ---- armored
abbrev encrypted : EncryptedData
encrypted = record { etype = pos 18; kvno = None; cipher = hex (codes "DEADBEEF") }

abbrev checked : Checksum
checked = record { cksumtype = pos 16; checksum = 0xAB ∷ [] }

abbrev request : List ℕ
request = hex (codes "A02F302D A00C300AA003020101A10304016E A10C300AA003020110A1030401AB A20F300DA003020112A2060404DEADBEEF")

request_whole : term_judgement pa_fx_fast_request 49 request ≡ verdict.Whole
request_whole = refl

request_armor : krb_fast_armored_req_of (value_of_der pa_fx_fast_request request) ≡ record { armor = Some (record { armor_type = pos 1; armor_value = 0x6E ∷ [] }); req_checksum = checked; enc_fast_req = encrypted }
request_armor = refl

abbrev reply : List ℕ
reply = hex (codes "A0133011 A00F300DA003020112A2060404DEADBEEF")

reply_whole : term_judgement pa_fx_fast_reply 21 reply ≡ verdict.Whole
reply_whole = refl

reply_encrypted : krb_fast_armored_rep_of (value_of_der pa_fx_fast_reply reply) ≡ record { enc_fast_rep = encrypted }
reply_encrypted = refl

-- ---- options
options : pa_pac_options_of (value_of_der pa_pac_options (hex (codes "3009A00703050010000000"))) ≡ record { flags = (0, hex (codes "10000000")) }
options = refl

-- ---- the data of errors
typed : der typed_data (map typed_data_item_value (record { data_type = pos 109; data_value = Some (codes "x") } ∷ record { data_type = pos 3; data_value = None } ∷ [])) ≡ hex (codes "3013 300A A00302016D A103040178 3005 A003020103")
typed = refl

-- METHOD-DATA is none: its fields are [1] and [2]
typed_differ : term_judgement typed_data 13 (hex (codes "300B 3009 A103020113 A2020400")) ≡ verdict.Refused (record { place = 4; why = why.Tag })
typed_differ = refl

error_data : der kerb_error_data (kerb_error_data_value (record { data_type = pos 3; data_value = Some (hex (codes "720000C0 00000000 01000000")) })) ≡ hex (codes "3015 A103020103 A20E040C720000C00000000001000000")
error_data = refl
