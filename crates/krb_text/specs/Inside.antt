-- What is in the clear inside of messages: the parts of a message's record, in the order in which the octets have them.
-- RFC 4120, 5.2.7 and 5.9.1; RFC 6113, 5.4; MS-SFU, 2.2.1; MS-KILE, 2.2.1 to 2.2.3 and 2.2.10.
use Rattle.std.specs.Prelude.{ℕ, ℤ, pos, negsuc, ◌==◌, Bool, true, false, List, [], ◌∷◌, ◌++◌, map, Option, Some, None, codes, if◌then◌else◌}
use Rattle.std.specs.List.{flat_map}
use Rattle.krb_msg.specs.Grammar.{ap_req, encrypted_data, method_data}
use Rattle.krb_msg.specs.Term.{Value}
use Rattle.krb_msg.specs.Types.{ap_req_of, encrypted_data_of, pa_data_of}
use Rattle.krb_msg.specs.declared.ap_req.ApReq.{ApReq}
use Rattle.krb_msg.specs.declared.encrypted_data.EncryptedData.{EncryptedData}
use Rattle.krb_msg.specs.declared.kdc_req.KdcReq.{KdcReq}
use Rattle.krb_msg.specs.declared.krb_error.KrbError.{KrbError}
use Rattle.krb_msg.specs.declared.message.Message.{Message}
use Rattle.krb_msg.specs.declared.message.Message.TheVariants as message
use Rattle.krb_msg.specs.declared.pa_data.PaData.{PaData}
use Rattle.krb_msg.specs.declared.ticket.Ticket.{Ticket}
use Rattle.krb_padata.specs.ExtendedError.{kerb_ext_error_in}
use Rattle.krb_padata.specs.Grammar.{etype_info, etype_info2, kerb_error_data, pa_for_user, pa_fx_fast_reply, pa_fx_fast_request, pa_pac_options, typed_data}
use Rattle.krb_padata.specs.PacRequest.{pac_request_in}
use Rattle.krb_padata.specs.Types.{etype_info2_entry_of, etype_info_entry_of, kerb_error_data_of, krb_fast_armored_rep_of, krb_fast_armored_req_of, pa_for_user_of, pa_pac_options_of, typed_data_item_of}
use Rattle.krb_padata.specs.declared.etype_info2_entry.EtypeInfo2Entry.{EtypeInfo2Entry}
use Rattle.krb_padata.specs.declared.etype_info_entry.EtypeInfoEntry.{EtypeInfoEntry}
use Rattle.krb_padata.specs.declared.kerb_error_data.KerbErrorData.{KerbErrorData}
use Rattle.krb_padata.specs.declared.kerb_ext_error.KerbExtError.{KerbExtError}
use Rattle.krb_padata.specs.declared.krb_fast_armor.KrbFastArmor.{KrbFastArmor}
use Rattle.krb_padata.specs.declared.krb_fast_armored_rep.KrbFastArmoredRep.{KrbFastArmoredRep}
use Rattle.krb_padata.specs.declared.krb_fast_armored_req.KrbFastArmoredReq.{KrbFastArmoredReq}
use Rattle.krb_padata.specs.declared.pa_for_user.PaForUser.{PaForUser}
use Rattle.krb_padata.specs.declared.pa_pac_options.PaPacOptions.{PaPacOptions}
use Rattle.krb_padata.specs.declared.typed_data_item.TypedDataItem.{TypedDataItem}
use Rattle.krb_registry.specs.declared.registry.Registry.TheVariants as registries
use Rattle.krb_text.specs.Judged.{asks_for_preauth, judged}
use Rattle.krb_text.specs.MessageFields.{ap_req_fields, padata}
use Rattle.krb_text.specs.MessageValues.{checksum, principal, encrypted}
use Rattle.krb_record.specs.Values.{Absent, Flags, Hex, Named, Number, Numbers, Quoted, Status, YesNo, Part, the, part, if_there}
use Rattle.krb_text.specs.declared.clear_type.Carrier.{Carrier}
use Rattle.krb_text.specs.declared.clear_type.Carrier.TheVariants as carriers
use Rattle.krb_text.specs.declared.clear_type.ClearType.{ClearType}
use Rattle.krb_text.specs.declared.clear_type.ClearType.TheVariants as types

-- ---- the parts of what is there
abbrev pub one_if : {A : Type 0} → (A → Part) → Option A → List Part
one_if told None = []
one_if told (Some a) = told a ∷ []

abbrev pub each_if : {A : Type 0} → (A → Part) → Option (List A) → List Part
each_if told None = []
each_if told (Some items) = map told items

-- ---- extended errors
-- KERB-EXT-ERROR (MS-KILE, 2.2.1)
abbrev pub ext_error_part : KerbExtError → Part
ext_error_part e =
    part (codes "KERB-EXT-ERROR") (the (codes "status") (Status e.status)
    ∷ the (codes "reserved") (Number (pos e.reserved))
    ∷ the (codes "flags") (Number (pos e.flags))
    ∷ [])

-- the type of a value in the data of an error that is an extended error (MS-KILE, 2.2.2)
abbrev pub is_extended : ℤ → Bool
is_extended (pos number) = number == 3
is_extended (negsuc number) = false

-- the extended error in a value of a type, if it is one
abbrev pub ext_error_if : Bool → List ℕ → Option KerbExtError
ext_error_if false octets = None
ext_error_if true octets = kerb_ext_error_in octets

abbrev pub ext_error_in : ℤ → Option (List ℕ) → Option KerbExtError
ext_error_in type None = None
ext_error_in type (Some octets) = ext_error_if (is_extended type) octets

-- ---- pre-authentication data
-- PA-TGS-REQ (RFC 4120, 5.2.7.1)
abbrev pub tgs_req_part : ApReq → Part
tgs_req_part m = part (codes "PA-TGS-REQ") (ap_req_fields m)

-- PA-ENC-TIMESTAMP (RFC 4120, 5.2.7.2) and PA-ENCRYPTED-CHALLENGE (RFC 6113, 5.4.6)
abbrev pub encrypted_part : List ℕ → EncryptedData → Part
encrypted_part kind e = part kind (the (codes "enc") (encrypted e) ∷ [])

-- PA-PW-SALT (RFC 4120, 5.2.7.3)
abbrev pub salt_part : List ℕ → Part
salt_part octets = part (codes "PA-PW-SALT") (the (codes "salt") (Quoted octets) ∷ [])

-- the same in METHOD-DATA, where Samba's KDC has an extended error, of which what is reserved is 0
abbrev pub salt_or_error_part : List ℕ → Option KerbExtError → Part
salt_or_error_part octets None = salt_part octets
salt_or_error_part octets (Some e) = if e.reserved == 0 then ext_error_part e else salt_part octets

-- an entry of PA-ETYPE-INFO (RFC 4120, 5.2.7.4)
abbrev pub etype_info_part : EtypeInfoEntry → Part
etype_info_part e =
    part (codes "PA-ETYPE-INFO") (the (codes "etype") (Named registries.EncryptionTypes e.etype)
    ∷ the (codes "salt") (if_there Quoted e.salt)
    ∷ [])

-- an entry of PA-ETYPE-INFO2 (RFC 4120, 5.2.7.5)
abbrev pub etype_info2_part : EtypeInfo2Entry → Part
etype_info2_part e =
    part (codes "PA-ETYPE-INFO2") (the (codes "etype") (Named registries.EncryptionTypes e.etype)
    ∷ the (codes "salt") (if_there Quoted e.salt)
    ∷ the (codes "params") (if_there Hex e.s2kparams)
    ∷ [])

-- PA-PAC-REQUEST (MS-KILE, 2.2.3)
abbrev pub pac_request_part : Bool → Part
pac_request_part include = part (codes "PA-PAC-REQUEST") (the (codes "pac") (YesNo include) ∷ [])

-- PA-FOR-USER (MS-SFU, 2.2.1)
abbrev pub for_user_part : PaForUser → Part
for_user_part p =
    part (codes "PA-FOR-USER") (the (codes "user") (principal p.user_realm p.user_name)
    ∷ the (codes "cksum") (checksum p.cksum)
    ∷ the (codes "package") (Quoted p.auth_package)
    ∷ [])

-- the AP-REQ that an armor is, if it is one: of type 1 (RFC 6113, 5.4.1.1)
abbrev pub is_ap_req_armor : ℤ → Bool
is_ap_req_armor (pos number) = number == 1
is_ap_req_armor (negsuc number) = false

abbrev pub ap_req_if : Bool → List ℕ → Option (Value ap_req)
ap_req_if false octets = None
ap_req_if true octets = judged ap_req octets

abbrev pub ap_req_in : Option KrbFastArmor → Option (Value ap_req)
ap_req_in None = None
ap_req_in (Some armor) = ap_req_if (is_ap_req_armor armor.armor_type) armor.armor_value

-- PA-FX-FAST of a request (RFC 6113, 5.4.2): its armor, which is that of the PA-TGS-REQ if it is left out, and what is encrypted
abbrev pub fast_request_part : KrbFastArmoredReq → Part
fast_request_part m =
    part (codes "PA-FX-FAST") (the (codes "armor") (if_there (λ armor. Number armor.armor_type) m.armor)
    ∷ the (codes "server") (if_there (λ v. principal (ap_req_of v).ticket.realm (ap_req_of v).ticket.sname) (ap_req_in m.armor))
    ∷ the (codes "ticket") (if_there (λ v. encrypted (ap_req_of v).ticket.enc_part) (ap_req_in m.armor))
    ∷ the (codes "enc") (encrypted m.enc_fast_req)
    ∷ [])

-- PA-FX-FAST of a reply or an error (RFC 6113, 5.4.3), which has no armor
abbrev pub fast_reply_part : KrbFastArmoredRep → Part
fast_reply_part m =
    part (codes "PA-FX-FAST") (the (codes "armor") Absent
    ∷ the (codes "server") Absent
    ∷ the (codes "ticket") Absent
    ∷ the (codes "enc") (encrypted m.enc_fast_rep)
    ∷ [])

-- PA-PAC-OPTIONS (MS-KILE, 2.2.10)
abbrev pub pac_options_part : PaPacOptions → Part
pac_options_part p = part (codes "PA-PAC-OPTIONS") (the (codes "options") (Flags registries.PacOptions p.flags) ∷ [])

-- ---- by type (RFC 4120, 7.5.2; RFC 6113, 5.4)
-- what is a salt, and what PA-FX-FAST is, by what carries it
abbrev pub salt_in : Carrier → ClearType
salt_in carriers.Error = types.SaltOrError
salt_in other = types.PwSalt

abbrev pub fast_in : Carrier → ClearType
fast_in carriers.Request = types.FastRequest
fast_in other = types.FastReply

unfoldable pub type_of_number : Carrier → ℕ → ClearType
type_of_number carrier number =
    if number == 1 then types.TgsReq
    else if number == 2 then types.EncTimestamp
    else if number == 3 then salt_in carrier
    else if number == 11 then types.EtypeInfo
    else if number == 19 then types.EtypeInfo2
    else if number == 128 then types.PacRequest
    else if number == 129 then types.ForUser
    else if number == 136 then fast_in carrier
    else if number == 138 then types.EncryptedChallenge
    else if number == 167 then types.PacOptions
    else types.Other

abbrev pub clear_type : Carrier → ℤ → ClearType
clear_type carrier (pos number) = type_of_number carrier number
clear_type carrier (negsuc number) = types.Other

-- the parts of a value; one that is not judged to be of its type, or of another type, has none
abbrev pub clear_parts : ClearType → List ℕ → List Part
clear_parts types.TgsReq octets = one_if (λ v. tgs_req_part (ap_req_of v)) (judged ap_req octets)
clear_parts types.EncTimestamp octets = one_if (λ v. encrypted_part (codes "PA-ENC-TIMESTAMP") (encrypted_data_of v)) (judged encrypted_data octets)
clear_parts types.PwSalt octets = salt_part octets ∷ []
clear_parts types.SaltOrError octets = salt_or_error_part octets (kerb_ext_error_in octets) ∷ []
clear_parts types.EtypeInfo octets = each_if (λ v. etype_info_part (etype_info_entry_of v)) (judged etype_info octets)
clear_parts types.EtypeInfo2 octets = each_if (λ v. etype_info2_part (etype_info2_entry_of v)) (judged etype_info2 octets)
clear_parts types.PacRequest octets = one_if pac_request_part (pac_request_in octets)
clear_parts types.ForUser octets = one_if (λ v. for_user_part (pa_for_user_of v)) (judged pa_for_user octets)
clear_parts types.FastRequest octets = one_if (λ v. fast_request_part (krb_fast_armored_req_of v)) (judged pa_fx_fast_request octets)
clear_parts types.FastReply octets = one_if (λ v. fast_reply_part (krb_fast_armored_rep_of v)) (judged pa_fx_fast_reply octets)
clear_parts types.EncryptedChallenge octets = one_if (λ v. encrypted_part (codes "PA-ENCRYPTED-CHALLENGE") (encrypted_data_of v)) (judged encrypted_data octets)
clear_parts types.PacOptions octets = one_if (λ v. pac_options_part (pa_pac_options_of v)) (judged pa_pac_options octets)
clear_parts types.Other octets = []

abbrev pub item_parts : Carrier → PaData → List Part
item_parts carrier item = clear_parts (clear_type carrier item.padata_type) item.padata_value

abbrev pub padata_parts : Carrier → Option (List PaData) → List Part
padata_parts carrier None = []
padata_parts carrier (Some items) = flat_map (item_parts carrier) items

-- ---- messages
-- a Ticket (RFC 4120, 5.3)
abbrev pub ticket_part : Ticket → Part
ticket_part t = part (codes "Ticket") (the (codes "server") (principal t.realm t.sname) ∷ the (codes "ticket") (encrypted t.enc_part) ∷ [])

-- AS-REQ and TGS-REQ
abbrev pub kdc_req_parts : KdcReq → List Part
kdc_req_parts m = padata_parts carriers.Request m.padata ++ each_if ticket_part m.body.additional_tickets

-- ---- the data of errors (RFC 4120, 5.9.1; MS-KILE, 2.2.2)
-- METHOD-DATA: first its types, unless the error asks for pre-authentication, whose record has them as a field
abbrev pub methods_part : List PaData → Part
methods_part items = part (codes "METHOD-DATA") (the (codes "methods") (padata items) ∷ [])

abbrev pub types_unless : Bool → List PaData → List Part
types_unless true items = []
types_unless false items = methods_part items ∷ []

abbrev pub method_parts : Bool → List PaData → List Part
method_parts asks items = types_unless asks items ++ flat_map (item_parts carriers.Error) items

-- TYPED-DATA: its types, and the extended errors in it
abbrev pub types_part : List TypedDataItem → Part
types_part items = part (codes "TYPED-DATA") (the (codes "types") (Numbers registries.PreAuthenticationData (map (λ item. item.data_type) items)) ∷ [])

abbrev pub typed_item_parts : TypedDataItem → List Part
typed_item_parts item = one_if ext_error_part (ext_error_in item.data_type item.data_value)

abbrev pub typed_parts : List TypedDataItem → List Part
typed_parts items = types_part items ∷ flat_map typed_item_parts items

-- KERB-ERROR-DATA: its type, and the extended error that it may be
abbrev pub error_data_part : KerbErrorData → Part
error_data_part e = part (codes "KERB-ERROR-DATA") (the (codes "type") (Named registries.ErrorDataTypes e.data_type) ∷ [])

abbrev pub error_data_parts : KerbErrorData → List Part
error_data_parts e = error_data_part e ∷ one_if ext_error_part (ext_error_in e.data_type e.data_value)

-- the first of these that all of the octets are one item of decides
abbrev pub first_parts : Bool → Option (Value method_data) → Option (Value typed_data) → Option (Value kerb_error_data) → List Part
first_parts asks (Some items) typed other = method_parts asks (map pa_data_of items)
first_parts asks None (Some items) other = typed_parts (map typed_data_item_of items)
first_parts asks None None (Some v) = error_data_parts (kerb_error_data_of v)
first_parts asks None None None = []

abbrev pub data_parts : Bool → List ℕ → List Part
data_parts asks octets = first_parts asks (judged method_data octets) (judged typed_data octets) (judged kerb_error_data octets)

abbrev pub data_parts_if : Bool → Option (List ℕ) → List Part
data_parts_if asks None = []
data_parts_if asks (Some octets) = data_parts asks octets

abbrev pub krb_error_parts : KrbError → List Part
krb_error_parts m = data_parts_if (asks_for_preauth m.error_code) m.e_data

-- ---- all messages
-- the parts of a message; those that have no pre-authentication data and no list of Tickets have no list of parts
abbrev pub inside_of : Message → Option (List Part)
inside_of (message.AsReq m) = Some (kdc_req_parts m)
inside_of (message.AsRep m) = Some (padata_parts carriers.Reply m.padata)
inside_of (message.TgsReq m) = Some (kdc_req_parts m)
inside_of (message.TgsRep m) = Some (padata_parts carriers.Reply m.padata)
inside_of (message.ApReq m) = None
inside_of (message.ApRep m) = None
inside_of (message.KrbSafe m) = None
inside_of (message.KrbPriv m) = None
inside_of (message.KrbCred m) = Some (map ticket_part m.tickets)
inside_of (message.KrbError m) = Some (krb_error_parts m)
