-- What OCTET STRINGs in the clear hold, by the number before them in their SEQUENCE (RFC 4120, 5.2.7, 5.9.1 and 7.5.2; RFC 6113, 5.4; MS-SFU, 2.2.1; MS-KILE, 2.2.3 and 2.2.10).
use Rattle.std.specs.Prelude.{ℕ, ℤ, pos, negsuc, ◌==◌, ◌||◌, Bool, true, false, nat_lt, if◌then◌else◌, List, length, codes, Option, Some, None, is_none, is_some}
use Rattle.krb_der.specs.Octets.{integer_value}
use Rattle.krb_judge.specs.Parses.{refusal_by}
use Rattle.krb_msg.specs.Grammar.{ap_req, encrypted_data, method_data}
use Rattle.krb_msg.specs.Judgement.{term_judgement}
use Rattle.krb_msg.specs.Term.{Term}
use Rattle.krb_padata.specs.Grammar.{etype_info, etype_info2, pa_for_user, pa_fx_fast_reply, pa_fx_fast_request, pa_pac_options}
use Rattle.krb_padata.specs.PacRequest.{pac_request_in}
use Rattle.krb_items.specs.Heads.{contents_in}
use Rattle.krb_items.specs.Shapes.{ItemType}
use Rattle.krb_items.specs.declared.shape.Held.{Held}
use Rattle.krb_items.specs.declared.shape.Held.TheVariants as helds
use Rattle.krb_items.specs.declared.shape.Holder.{Holder}
use Rattle.krb_items.specs.declared.shape.Holder.TheVariants as holders
use Rattle.krb_items.specs.declared.shape.Leaf.{Leaf}
use Rattle.krb_items.specs.declared.shape.Leaf.TheVariants as leaves
use Rattle.krb_items.specs.declared.shape.Shape.{Shape}
use Rattle.krb_items.specs.declared.shape.Shape.TheVariants as shapes

-- ---- the number before
abbrev pub is_number : Leaf → Bool
is_number leaves.Number = true
is_number (leaves.Numbered registry) = true
is_number leaves.ErrorCode = true
is_number leaf = false

-- the number that contents are, if they are an INTEGER's, of five octets at most, or else the one before
abbrev pub number_by : Shape → List ℕ → Option ℤ → Option ℤ
number_by (shapes.Leaf leaf) octets before = if is_number leaf then (if nat_lt 5 (length octets) then before else Some (integer_value octets)) else before
number_by shape octets before = before

-- the last number of a SEQUENCE after an item of it
abbrev pub number_after : ItemType → List ℕ → Option ℤ → Option ℤ
number_after of octets before = number_by of.shape (contents_in of.tags octets) before

-- ---- what is held
-- what a padata-value is by its padata-type, where PA-FX-FAST is that
unfoldable pub padata_held : Held → ℕ → Option Held
padata_held fast number =
    if number == 1 then Some helds.TgsReq
    else if number == 2 then Some helds.EncTimestamp
    else if number == 3 then Some helds.Salt
    else if number == 11 then Some helds.EtypeInfo
    else if number == 19 then Some helds.EtypeInfo2
    else if number == 128 then Some helds.PacRequest
    else if number == 129 then Some helds.ForUser
    else if number == 136 then Some fast
    else if number == 138 then Some helds.EncryptedChallenge
    else if number == 167 then Some helds.PacOptions
    else None

-- METHOD-DATA, where the error-code is that of PREAUTH_FAILED or PREAUTH_REQUIRED; the AP-REQ that an armor of type 1 is
abbrev pub held_by : Holder → ℕ → Option Held
held_by holders.RequestPadata number = padata_held helds.FastRequest number
held_by holders.Padata number = padata_held helds.FastReply number
held_by holders.ErrorData number = if (number == 24) || (number == 25) then Some helds.MethodData else None
held_by holders.Armor number = if number == 1 then Some helds.ApReq else None

abbrev pub held_after : Holder → Option ℤ → Option Held
held_after holder None = None
held_after holder (Some (pos number)) = held_by holder number
held_after holder (Some (negsuc number)) = None

-- octets of which the number before them says that they are a salt are shown, others are counted
abbrev pub leaf_held : Option Held → Leaf
leaf_held (Some helds.Salt) = leaves.Text
leaf_held held = leaves.Hidden

abbrev pub leaf_after : Option ℤ → Leaf → Leaf
leaf_after number (leaves.Holder holder) = leaf_held (held_after holder number)
leaf_after number leaf = leaf

-- ---- what is opened
-- whether octets are all of one item of a term, by the lenient profile
abbrev pub is_all_of : Term → List ℕ → Bool
is_all_of term octets = is_none (refusal_by (term_judgement term) octets)

-- whether octets are all of what they are to hold; a salt is no item
unfoldable pub is_held : Held → List ℕ → Bool
is_held helds.TgsReq octets = is_all_of ap_req octets
is_held helds.EncTimestamp octets = is_all_of encrypted_data octets
is_held helds.Salt octets = false
is_held helds.EtypeInfo octets = is_all_of etype_info octets
is_held helds.EtypeInfo2 octets = is_all_of etype_info2 octets
is_held helds.PacRequest octets = is_some (pac_request_in octets)
is_held helds.ForUser octets = is_all_of pa_for_user octets
is_held helds.FastRequest octets = is_all_of pa_fx_fast_request octets
is_held helds.FastReply octets = is_all_of pa_fx_fast_reply octets
is_held helds.EncryptedChallenge octets = is_all_of encrypted_data octets
is_held helds.PacOptions octets = is_all_of pa_pac_options octets
is_held helds.MethodData octets = is_all_of method_data octets
is_held helds.ApReq octets = is_all_of ap_req octets

abbrev pub opened_if : Option Held → List ℕ → Option Held
opened_if None octets = None
opened_if (Some held) octets = if is_held held octets then Some held else None

-- what octets of a leaf hold, if they are all of that
abbrev pub opened : Option ℤ → Leaf → List ℕ → Option Held
opened number (leaves.Holder holder) octets = opened_if (held_after holder number) octets
opened number leaf octets = None

-- what it is called: a padata-value by its type
unfoldable pub held_name : Held → List ℕ
held_name helds.TgsReq = codes "PA-TGS-REQ"
held_name helds.EncTimestamp = codes "PA-ENC-TIMESTAMP"
held_name helds.Salt = codes "PA-PW-SALT"
held_name helds.EtypeInfo = codes "PA-ETYPE-INFO"
held_name helds.EtypeInfo2 = codes "PA-ETYPE-INFO2"
held_name helds.PacRequest = codes "PA-PAC-REQUEST"
held_name helds.ForUser = codes "PA-FOR-USER"
held_name helds.FastRequest = codes "PA-FX-FAST"
held_name helds.FastReply = codes "PA-FX-FAST"
held_name helds.EncryptedChallenge = codes "PA-ENCRYPTED-CHALLENGE"
held_name helds.PacOptions = codes "PA-PAC-OPTIONS"
held_name helds.MethodData = codes "METHOD-DATA"
held_name helds.ApReq = codes "AP-REQ"
