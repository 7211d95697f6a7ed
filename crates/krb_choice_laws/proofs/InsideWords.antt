-- What is inside of messages is of kinds that are words, and that no message has.
use Rattle.std.proofs.Common.{◌≡◌, ℕ, ◌==◌, Bool, true, false, cond, Option, Some, None, List, [], ◌∷◌, ◌++◌, map, refl}
use Rattle.std.specs.List.{AllByRecursion, flat_map}
use Rattle.std.specs.Prelude.{IfSome}
use Rattle.krb_msg.specs.Grammar.{method_data}
use Rattle.krb_msg.specs.Term.{Value}
use Rattle.krb_msg.specs.Types.{pa_data_of}
use Rattle.krb_msg.specs.declared.kdc_req.KdcReq.{KdcReq}
use Rattle.krb_msg.specs.declared.message.Message.{Message}
use Rattle.krb_msg.specs.declared.message.Message.TheVariants as message
use Rattle.krb_msg.specs.declared.pa_data.PaData.{PaData}
use Rattle.krb_padata.specs.ExtendedError.{kerb_ext_error_in}
use Rattle.krb_padata.specs.Grammar.{kerb_error_data, typed_data}
use Rattle.krb_padata.specs.Types.{etype_info2_entry_of, etype_info_entry_of, kerb_error_data_of, krb_fast_armored_req_of, typed_data_item_of}
use Rattle.krb_padata.specs.declared.kerb_ext_error.KerbExtError.{KerbExtError}
use Rattle.krb_padata.specs.declared.typed_data_item.TypedDataItem.{TypedDataItem}
use Rattle.krb_record.specs.Values.{Hex, Part, Quoted}
use Rattle.krb_text.specs.Inside.{ap_req_in, clear_parts, clear_type, data_parts_if, each_if, ext_error_in, ext_error_part, first_parts, inside_of, item_parts, kdc_req_parts, one_if, padata_parts, salt_or_error_part, salt_part, ticket_part, typed_item_parts, types_unless}
use Rattle.krb_text.specs.Judged.{asks_for_preauth, judged}
use Rattle.krb_text.specs.declared.clear_type.Carrier.{Carrier}
use Rattle.krb_text.specs.declared.clear_type.Carrier.TheVariants as carriers
use Rattle.krb_text.specs.declared.clear_type.ClearType.{ClearType}
use Rattle.krb_text.specs.declared.clear_type.ClearType.TheVariants as types
use Rattle.krb_choice.specs.Choices.{kind_alone}
use Rattle.krb_choice.specs.Wanted.{may_be_inside}
use Rattle.krb_choice_laws.specs.Cells.{PartNamesDiffer}
use Rattle.krb_choice_laws.proofs.Worded.{AreWorded, optional}

pub record IsWord (p : Part) : Type 0 where
  pub word : kind_alone p.kind ≡ p.kind
  pub is_inside : may_be_inside p.kind ≡ true
  pub differ : PartNamesDiffer p
  pub worded : AreWorded p.fields

abbrev pub AreWords : List Part → Type 0
AreWords parts = AllByRecursion IsWord parts

both : (ps qs : List Part) → AreWords ps → AreWords qs → AreWords (ps ++ qs)
both [] qs h k = k
both (p ∷ ps) qs h k = (h.0, both ps qs h.1 k)

each : {A : Type 0} (told : A → Part) → ((a : A) → IsWord (told a)) → (all : List A) → AreWords (map told all)
each told w [] = tt
each told w (a ∷ all) = (w a, each told w all)

one : {A : Type 0} (told : A → Part) → ((a : A) → IsWord (told a)) → (found : Option A) → AreWords (one_if told found)
one told w None = tt
one told w (Some a) = (w a, tt)

some : {A : Type 0} (told : A → Part) → ((a : A) → IsWord (told a)) → (found : Option (List A)) → AreWords (each_if told found)
some told w None = tt
some told w (Some all) = each told w all

joined : {A : Type 0} (told : A → List Part) → ((a : A) → AreWords (told a)) → (all : List A) → AreWords (flat_map told all)
joined told w [] = tt
joined told w (a ∷ all) = both (told a) (flat_map told all) (w a) (joined told w all)

-- ---- each type
salt_or_error : (octets : List ℕ) (found : Option KerbExtError) → IsWord (salt_or_error_part octets found)
salt_or_error octets None = record { word = refl; is_inside = refl; differ = refl; worded = (tt, tt) }
salt_or_error octets (Some e) = by (e.reserved == 0)
  where
    by : (zero : Bool) → IsWord (cond zero (ext_error_part e) (salt_part octets))
    by true = record { word = refl; is_inside = refl; differ = refl; worded = (tt, (tt, (tt, tt))) }
    by false = record { word = refl; is_inside = refl; differ = refl; worded = (tt, tt) }

of_type : (type : ClearType) (octets : List ℕ) → AreWords (clear_parts type octets)
of_type types.TgsReq octets = one _ (λ v. record { word = refl; is_inside = refl; differ = refl; worded = (tt, (tt, (tt, (tt, tt)))) }) _
of_type types.EncTimestamp octets = one _ (λ v. record { word = refl; is_inside = refl; differ = refl; worded = (tt, tt) }) _
of_type types.PwSalt octets = (record { word = refl; is_inside = refl; differ = refl; worded = (tt, tt) }, tt)
of_type types.SaltOrError octets = (salt_or_error octets (kerb_ext_error_in octets), tt)
of_type types.EtypeInfo octets = some _ (λ v. record { word = refl; is_inside = refl; differ = refl; worded = (tt, (optional Quoted (λ salt. tt) (etype_info_entry_of v).salt, tt)) }) _
of_type types.EtypeInfo2 octets = some _ (λ v. record { word = refl; is_inside = refl; differ = refl; worded = (tt, (optional Quoted (λ salt. tt) (etype_info2_entry_of v).salt, (optional Hex (λ params. tt) (etype_info2_entry_of v).s2kparams, tt))) }) _
of_type types.PacRequest octets = one _ (λ v. record { word = refl; is_inside = refl; differ = refl; worded = (tt, tt) }) _
of_type types.ForUser octets = one _ (λ v. record { word = refl; is_inside = refl; differ = refl; worded = (tt, (tt, (tt, tt))) }) _
of_type types.FastRequest octets = one _ (λ v. record { word = refl; is_inside = refl; differ = refl; worded = (optional _ (λ armor. tt) (krb_fast_armored_req_of v).armor, (optional _ (λ v. tt) (ap_req_in (krb_fast_armored_req_of v).armor), (optional _ (λ v. tt) (ap_req_in (krb_fast_armored_req_of v).armor), (tt, tt)))) }) _
of_type types.FastReply octets = one _ (λ v. record { word = refl; is_inside = refl; differ = refl; worded = (tt, (tt, (tt, (tt, tt)))) }) _
of_type types.EncryptedChallenge octets = one _ (λ v. record { word = refl; is_inside = refl; differ = refl; worded = (tt, tt) }) _
of_type types.PacOptions octets = one _ (λ v. record { word = refl; is_inside = refl; differ = refl; worded = (tt, tt) }) _
of_type types.Other octets = tt

items : (carrier : Carrier) (all : List PaData) → AreWords (flat_map (item_parts carrier) all)
items carrier all = joined (item_parts carrier) (λ item. of_type (clear_type carrier item.padata_type) item.padata_value) all

padata : (carrier : Carrier) (all : Option (List PaData)) → AreWords (padata_parts carrier all)
padata carrier None = tt
padata carrier (Some all) = items carrier all

-- ---- messages
kdc_req : (m : KdcReq) → AreWords (kdc_req_parts m)
kdc_req m = both (padata_parts carriers.Request m.padata) (each_if ticket_part m.body.additional_tickets) (padata carriers.Request m.padata) (some ticket_part (λ t. record { word = refl; is_inside = refl; differ = refl; worded = (tt, (tt, tt)) }) m.body.additional_tickets)

types_words : (asks : Bool) (all : List PaData) → AreWords (types_unless asks all)
types_words true all = tt
types_words false all = (record { word = refl; is_inside = refl; differ = refl; worded = (tt, tt) }, tt)

extended : (found : Option KerbExtError) → AreWords (one_if ext_error_part found)
extended found = one ext_error_part (λ e. record { word = refl; is_inside = refl; differ = refl; worded = (tt, (tt, (tt, tt))) }) found

typed : (all : List TypedDataItem) → AreWords (flat_map typed_item_parts all)
typed all = joined typed_item_parts (λ item. extended (ext_error_in item.data_type item.data_value)) all

first : (asks : Bool) (methods : Option (Value method_data)) (of_types : Option (Value typed_data)) (other : Option (Value kerb_error_data)) → AreWords (first_parts asks methods of_types other)
first asks (Some vs) of_types other = both (types_unless asks (map pa_data_of vs)) (flat_map (item_parts carriers.Error) (map pa_data_of vs)) (types_words asks (map pa_data_of vs)) (items carriers.Error (map pa_data_of vs))
first asks None (Some vs) other = (record { word = refl; is_inside = refl; differ = refl; worded = (tt, tt) }, typed (map typed_data_item_of vs))
first asks None None (Some v) = (record { word = refl; is_inside = refl; differ = refl; worded = (tt, tt) }, extended (ext_error_in (kerb_error_data_of v).data_type (kerb_error_data_of v).data_value))
first asks None None None = tt

data_words : (asks : Bool) (octets : Option (List ℕ)) → AreWords (data_parts_if asks octets)
data_words asks None = tt
data_words asks (Some octets) = first asks (judged method_data octets) _ _

pub inside_words : (m : Message) → IfSome (inside_of m) AreWords
inside_words (message.AsReq m) = kdc_req m
inside_words (message.AsRep m) = padata carriers.Reply m.padata
inside_words (message.TgsReq m) = kdc_req m
inside_words (message.TgsRep m) = padata carriers.Reply m.padata
inside_words (message.KrbCred m) = each ticket_part (λ t. record { word = refl; is_inside = refl; differ = refl; worded = (tt, (tt, tt)) }) m.tickets
inside_words (message.KrbError m) = data_words (asks_for_preauth m.error_code) m.e_data
inside_words other = tt
