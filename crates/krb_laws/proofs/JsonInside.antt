-- What is inside of messages fits JSON.
use Rattle.std.proofs.Common.{◌≡◌, ℕ, ◌==◌, Bool, true, false, Option, Some, None, IfSome, List, [], ◌∷◌, map, codes, if◌then◌else◌, refl, arith}
use Rattle.std.specs.List.{AllByRecursion, flat_map}
use Rattle.std.specs.Option.{option_map}
use Rattle.krb_der.specs.Octets.{AreOctets}
use Rattle.krb_msg.specs.Grammar.{ap_req, encrypted_data, kdc_req_body, method_data, pa_data, sequence_of, ticket}
use Rattle.krb_msg.specs.Shape.{is_unambiguous}
use Rattle.krb_msg.specs.Term.{Term, Value, Fits, IfPresent}
use Rattle.krb_msg.specs.Types.{ap_req_of, encrypted_data_of, kdc_req_body_value, pa_data_of, pa_data_value, ticket_value}
use Rattle.krb_msg.specs.declared.kdc_req.KdcReq.{KdcReq}
use Rattle.krb_msg.specs.declared.krb_error.KrbError.{KrbError}
use Rattle.krb_msg.specs.declared.pa_data.PaData.{PaData}
use Rattle.krb_msg.specs.declared.ticket.Ticket.{Ticket}
use Rattle.krb_padata.specs.ExtendedError.{kerb_ext_error_in}
use Rattle.krb_padata.specs.Grammar.{etype_info2_entry, etype_info_entry, kerb_error_data, krb_fast_armor, pa_for_user, pa_fx_fast_reply, pa_fx_fast_request, pa_pac_options, typed_data, typed_data_item}
use Rattle.krb_padata.specs.PacRequest.{pac_request_in}
use Rattle.krb_padata.specs.Types.{etype_info2_entry_of, etype_info_entry_of, krb_fast_armor_of, krb_fast_armored_rep_of, krb_fast_armored_req_of, pa_for_user_of, pa_pac_options_of, typed_data_item_of}
use Rattle.krb_padata.specs.declared.kerb_ext_error.KerbExtError.{KerbExtError}
use Rattle.krb_padata.specs.declared.krb_fast_armor.KrbFastArmor.{KrbFastArmor}
use Rattle.krb_text.specs.Inside.{ap_req_if, ap_req_in, clear_parts, clear_type, data_parts, data_parts_if, each_if, etype_info2_part, etype_info_part, ext_error_in, ext_error_part, fast_reply_part, fast_request_part, first_parts, for_user_part, is_ap_req_armor, item_parts, kdc_req_parts, krb_error_parts, one_if, pac_options_part, pac_request_part, padata_parts, salt_or_error_part, salt_part, encrypted_part, tgs_req_part, ticket_part, typed_item_parts, types_unless}
use Rattle.krb_text.specs.Judged.{asks_for_preauth, judged}
use Rattle.krb_text.specs.MessageValues.{principal, encrypted}
use Rattle.krb_record.specs.Values.{Hex, Number, Part, Quoted, if_there}
use Rattle.krb_text.specs.declared.clear_type.Carrier.{Carrier}
use Rattle.krb_text.specs.declared.clear_type.Carrier.TheVariants as carriers
use Rattle.krb_text.specs.declared.clear_type.ClearType.{ClearType}
use Rattle.krb_text.specs.declared.clear_type.ClearType.TheVariants as types
use Rattle.krb_text.proofs.Judged.{is_judged}
use Rattle.krb_text_laws.proofs.ErrorNumbers.{IsOf32Bits, of_32_bits}
use Rattle.krb_text_laws.proofs.InsideOneLine.{error_in, fit_octets, values_octets}
use Rattle.krb_laws.specs.JsonLaws.{IsSmall, PartFits, ValueFits}
use Rattle.krb_laws.proofs.JsonNumbers.{its_checksum, its_encrypted, judged_is_brief, of_ap_req, types_of}
use Rattle.krb_laws.proofs.JsonSizes.{IsBrief, is_narrow}
use Rattle.krb_laws.proofs.JsonStrings.{all-append}

abbrev PartsFit : List Part → Type 0
PartsFit parts = AllByRecursion PartFits parts

-- ---- what is judged is small
module _ (term : Term) (told : Value term → Part) (plain : (v : Value term) → IsBrief term v → PartFits (told v)) where
  one : is_unambiguous term ≡ true → is_narrow term ≡ true → (octets : List ℕ) → PartsFit (one_if told (judged term octets))
  one u narrow octets = by (judged term octets) refl
    where
      by : (found : Option (Value term)) → judged term octets ≡ found → PartsFit (one_if told found)
      by None e = tt
      by (Some v) e = (plain v (judged_is_brief term octets v u narrow e), tt)

  all-told : (vs : List (Value term)) → AllByRecursion (IsBrief term) vs → PartsFit (map told vs)
  all-told [] h = tt
  all-told (v ∷ vs) h = (plain v h.0, all-told vs h.1)

  entries : is_unambiguous (sequence_of term) ≡ true → is_narrow term ≡ true → (octets : List ℕ) → PartsFit (each_if told (judged (sequence_of term) octets))
  entries u narrow octets = by (judged (sequence_of term) octets) refl
    where
      by : (found : Option (List (Value term))) → judged (sequence_of term) octets ≡ found → PartsFit (each_if told found)
      by None e = tt
      by (Some vs) e = all-told vs (judged_is_brief (sequence_of term) octets vs u narrow e).1

-- ---- each type
tgs_req : (v : Value ap_req) → IsBrief ap_req v → PartFits (tgs_req_part (ap_req_of v))
tgs_req v h = record { kind = refl; names = refl; apart = refl; values = of_ap_req (ap_req_of v) h.1.1.0 h.1.1.1.0.1.1.0 h.1.1.1.0.1.1.1.0 h.1.1.1.1.0 }

encrypted_by : (v : Value encrypted_data) → IsBrief encrypted_data v → ValueFits (encrypted (encrypted_data_of v))
encrypted_by v h = its_encrypted (encrypted_data_of v) h

some_text : (o : Option (List ℕ)) → ValueFits (if_there Quoted o)
some_text None = tt
some_text (Some octets) = tt

some_octets : (o : Option (List ℕ)) → ValueFits (if_there Hex o)
some_octets None = tt
some_octets (Some octets) = tt

etype_info_told : (v : Value etype_info_entry) → IsBrief etype_info_entry v → PartFits (etype_info_part (etype_info_entry_of v))
etype_info_told v h = record { kind = refl; names = refl; apart = refl; values = (h.0, (some_text v.1.0, tt)) }

etype_info2_told : (v : Value etype_info2_entry) → IsBrief etype_info2_entry v → PartFits (etype_info2_part (etype_info2_entry_of v))
etype_info2_told v h = record { kind = refl; names = refl; apart = refl; values = (h.0, (some_text v.1.0, (some_octets v.1.1.0, tt))) }

for_user : (v : Value pa_for_user) → IsBrief pa_for_user v → PartFits (for_user_part (pa_for_user_of v))
for_user v h = record { kind = refl; names = refl; apart = refl; values = (h.0.0, (its_checksum (pa_for_user_of v).cksum h.1.1.0, (tt, tt))) }

armor_type : (armor : Option (Value krb_fast_armor)) → IfPresent (IsBrief krb_fast_armor) armor → ValueFits (if_there (λ armor. Number armor.armor_type) (option_map krb_fast_armor_of armor))
armor_type None h = tt
armor_type (Some v) h = h.0

-- what is told of the AP-REQ that an armor is
record IsApReqTold (found : Option (Value ap_req)) : Type 0 where
  server : ValueFits (if_there (λ v. principal (ap_req_of v).ticket.realm (ap_req_of v).ticket.sname) found)
  ticket : ValueFits (if_there (λ v. encrypted (ap_req_of v).ticket.enc_part) found)

ap_req_told : (armor : Option KrbFastArmor) → IsApReqTold (ap_req_in armor)
ap_req_told None = record { server = tt; ticket = tt }
ap_req_told (Some armor) = by (is_ap_req_armor armor.armor_type)
  where
    seen : (found : Option (Value ap_req)) → judged ap_req armor.armor_value ≡ found → IsApReqTold found
    seen None e = record { server = tt; ticket = tt }
    seen (Some v) e =
        let h : IsBrief ap_req v = judged_is_brief ap_req armor.armor_value v refl refl e in
        record { server = h.1.1.1.0.1.1.0.0; ticket = its_encrypted (ap_req_of v).ticket.enc_part h.1.1.1.0.1.1.1.0 }

    by : (is : Bool) → IsApReqTold (ap_req_if is armor.armor_value)
    by false = record { server = tt; ticket = tt }
    by true = seen (judged ap_req armor.armor_value) refl

fast_request : (v : Value pa_fx_fast_request) → IsBrief pa_fx_fast_request v → PartFits (fast_request_part (krb_fast_armored_req_of v))
fast_request v h =
    let told = ap_req_told (krb_fast_armored_req_of v).armor in
    record { kind = refl; names = refl; apart = refl; values = (armor_type v.0 h.0, (told.server, (told.ticket, (its_encrypted (krb_fast_armored_req_of v).enc_fast_req h.1.1.0, tt)))) }

fast_reply : (v : Value pa_fx_fast_reply) → IsBrief pa_fx_fast_reply v → PartFits (fast_reply_part (krb_fast_armored_rep_of v))
fast_reply v h = record { kind = refl; names = refl; apart = refl; values = (tt, (tt, (tt, (its_encrypted (krb_fast_armored_rep_of v).enc_fast_rep h.0, tt)))) }

pac_options : (v : Value pa_pac_options) → IsBrief pa_pac_options v → PartFits (pac_options_part (pa_pac_options_of v))
pac_options v h = record { kind = refl; names = refl; apart = refl; values = (omega (arith, h.0), tt) }

pac : (found : Option Bool) → PartsFit (one_if pac_request_part found)
pac None = tt
pac (Some include) = (record { kind = refl; names = refl; apart = refl; values = (tt, tt) }, tt)

timestamp : (v : Value encrypted_data) → IsBrief encrypted_data v → PartFits (encrypted_part (codes "PA-ENC-TIMESTAMP") (encrypted_data_of v))
timestamp v h = record { kind = refl; names = refl; apart = refl; values = (encrypted_by v h, tt) }

challenge : (v : Value encrypted_data) → IsBrief encrypted_data v → PartFits (encrypted_part (codes "PA-ENCRYPTED-CHALLENGE") (encrypted_data_of v))
challenge v h = record { kind = refl; names = refl; apart = refl; values = (encrypted_by v h, tt) }

salted : (octets : List ℕ) → PartsFit (salt_part octets ∷ [])
salted octets = (record { kind = refl; names = refl; apart = refl; values = (tt, tt) }, tt)

ext_error : (e : KerbExtError) → IsOf32Bits e → PartFits (ext_error_part e)
ext_error e h = record { kind = refl; names = refl; apart = refl; values = (tt, (omega (arith, h.reserved), (omega (arith, h.flags), tt))) }

salt_or_error : (octets : List ℕ) (found : Option KerbExtError) → IfSome found IsOf32Bits → PartFits (salt_or_error_part octets found)
salt_or_error octets None h = record { kind = refl; names = refl; apart = refl; values = (tt, tt) }
salt_or_error octets (Some e) h = by (e.reserved == 0)
  where
    by : (zero : Bool) → PartFits (if zero then ext_error_part e else salt_part octets)
    by true = ext_error e h
    by false = record { kind = refl; names = refl; apart = refl; values = (tt, tt) }

of_type : (type : ClearType) (octets : List ℕ) → AreOctets octets → PartsFit (clear_parts type octets)
of_type types.SaltOrError octets a = (salt_or_error octets (kerb_ext_error_in octets) (of_32_bits octets a), tt)
of_type types.TgsReq octets a = one ap_req _ tgs_req refl refl octets
of_type types.EncTimestamp octets a = one encrypted_data _ timestamp refl refl octets
of_type types.PwSalt octets a = salted octets
of_type types.EtypeInfo octets a = entries etype_info_entry _ etype_info_told refl refl octets
of_type types.EtypeInfo2 octets a = entries etype_info2_entry _ etype_info2_told refl refl octets
of_type types.PacRequest octets a = pac (pac_request_in octets)
of_type types.ForUser octets a = one pa_for_user _ for_user refl refl octets
of_type types.FastRequest octets a = one pa_fx_fast_request _ fast_request refl refl octets
of_type types.FastReply octets a = one pa_fx_fast_reply _ fast_reply refl refl octets
of_type types.EncryptedChallenge octets a = one encrypted_data _ challenge refl refl octets
of_type types.PacOptions octets a = one pa_pac_options _ pac_options refl refl octets
of_type types.Other octets a = tt

-- ---- each message
items_inside : (carrier : Carrier) (items : List PaData) → AllByRecursion (λ p. AreOctets p.padata_value) items → PartsFit (flat_map (item_parts carrier) items)
items_inside carrier [] h = tt
items_inside carrier (p ∷ items) h = all-append PartFits (item_parts carrier p) (flat_map (item_parts carrier) items) (of_type (clear_type carrier p.padata_type) p.padata_value h.0) (items_inside carrier items h.1)

pub padata_inside : (carrier : Carrier) (items : Option (List PaData)) → IfPresent (Fits (sequence_of pa_data)) (option_map (map pa_data_value) items) → PartsFit (padata_parts carrier items)
padata_inside carrier None h = tt
padata_inside carrier (Some items) h = items_inside carrier items (fit_octets items h.1)

pub tickets_inside : (tickets : List Ticket) → AllByRecursion (IsBrief ticket) (map ticket_value tickets) → PartsFit (map ticket_part tickets)
tickets_inside [] h = tt
tickets_inside (t ∷ tickets) h =
    (record { kind = refl; names = refl; apart = refl; values = (h.0.1.1.0.0, (its_encrypted t.enc_part h.0.1.1.1.0, tt)) }, tickets_inside tickets h.1)

some_tickets : (tickets : Option (List Ticket)) → IfPresent (IsBrief (sequence_of ticket)) (option_map (map ticket_value) tickets) → PartsFit (each_if ticket_part tickets)
some_tickets None h = tt
some_tickets (Some tickets) h = tickets_inside tickets h.1

pub kdc_req_inside : (m : KdcReq) → IfPresent (Fits (sequence_of pa_data)) (option_map (map pa_data_value) m.padata) → IsBrief kdc_req_body (kdc_req_body_value m.body) → PartsFit (kdc_req_parts m)
kdc_req_inside m h (options, (cname, (realm, (sname, (from, (till, (rtime, (nonce, (etype, (addresses, (authdata, (tickets, rest)))))))))))) =
    all-append PartFits (padata_parts carriers.Request m.padata) (each_if ticket_part m.body.additional_tickets) (padata_inside carriers.Request m.padata h) (some_tickets m.body.additional_tickets tickets)

-- ---- the data of errors
types_inside : (asks : Bool) (items : Value method_data) → IsBrief method_data items → PartsFit (types_unless asks (map pa_data_of items))
types_inside true items h = tt
types_inside false items h = (record { kind = refl; names = refl; apart = refl; values = (types_of items h.1, tt) }, tt)

optional_error : (found : Option KerbExtError) → IfSome found IsOf32Bits → PartsFit (one_if ext_error_part found)
optional_error None h = tt
optional_error (Some e) h = (ext_error e h, tt)

typed_types : (vs : List (Value typed_data_item)) → AllByRecursion (IsBrief typed_data_item) vs → AllByRecursion IsSmall (map (λ item. item.data_type) (map typed_data_item_of vs))
typed_types [] h = tt
typed_types (v ∷ vs) h = (h.0.0, typed_types vs h.1)

typed_inside : (vs : List (Value typed_data_item)) → AllByRecursion (Fits typed_data_item) vs → PartsFit (flat_map typed_item_parts (map typed_data_item_of vs))
typed_inside [] h = tt
typed_inside (v ∷ vs) h =
    all-append PartFits (typed_item_parts (typed_data_item_of v)) (flat_map typed_item_parts (map typed_data_item_of vs)) (optional_error (ext_error_in v.0 v.1.0) (error_in v.0 v.1.0 h.0.1.0)) (typed_inside vs h.1)

data_inside : (asks : Bool) (octets : List ℕ) → PartsFit (data_parts asks octets)
data_inside asks octets = by (judged method_data octets) (judged typed_data octets) (judged kerb_error_data octets) refl refl refl
  where
    by : (methods : Option (Value method_data)) (typed : Option (Value typed_data)) (other : Option (Value kerb_error_data)) → judged method_data octets ≡ methods → judged typed_data octets ≡ typed → judged kerb_error_data octets ≡ other → PartsFit (first_parts asks methods typed other)
    by (Some vs) typed other e f g =
        all-append PartFits (types_unless asks (map pa_data_of vs)) (flat_map (item_parts carriers.Error) (map pa_data_of vs)) (types_inside asks vs (judged_is_brief method_data octets vs refl refl e))
        (items_inside carriers.Error (map pa_data_of vs) (values_octets vs (is_judged method_data octets vs refl e).fits.1))
    by None (Some vs) other e f g = (
      record { kind = refl; names = refl; apart = refl; values = (typed_types vs (judged_is_brief typed_data octets vs refl refl f).1, tt) },
      typed_inside vs (is_judged typed_data octets vs refl f).fits.1,
    )
    by None None (Some v) e f g = (
      record { kind = refl; names = refl; apart = refl; values = ((judged_is_brief kerb_error_data octets v refl refl g).0, tt) },
      optional_error (ext_error_in v.0 v.1.0) (error_in v.0 v.1.0 (is_judged kerb_error_data octets v refl g).fits.1.0),
    )
    by None None None e f g = tt

pub error_inside : (m : KrbError) → PartsFit (krb_error_parts m)
error_inside m = by m.e_data
  where
    by : (octets : Option (List ℕ)) → PartsFit (data_parts_if (asks_for_preauth m.error_code) octets)
    by None = tt
    by (Some octets) = data_inside (asks_for_preauth m.error_code) octets
