-- What is inside of a message is printable.
use Rattle.std.proofs.Common.{◌≡◌, ℕ, ℤ, ◌==◌, ◌≤◌, Bool, true, false, Option, Some, None, IfSome, List, [], ◌∷◌, ◌++◌, map, if◌then◌else◌, refl}
use Rattle.std.specs.List.{AllByRecursion, flat_map}
use Rattle.std.specs.Option.{option_map}
use Rattle.krb_der.specs.Octets.{AreOctets}
use Rattle.krb_msg.specs.Grammar.{ap_req, encrypted_data, kdc_req_body, method_data, pa_data, sequence_of, ticket}
use Rattle.krb_msg.specs.Shape.{is_unambiguous}
use Rattle.krb_msg.specs.Term.{Term, Value, Fits, IfPresent}
use Rattle.krb_msg.specs.Types.{ap_req_of, kdc_req_body_value, pa_data_of, pa_data_value, ticket_value}
use Rattle.krb_msg.specs.declared.kdc_req.KdcReq.{KdcReq}
use Rattle.krb_msg.specs.declared.krb_error.KrbError.{KrbError}
use Rattle.krb_msg.specs.declared.pa_data.PaData.{PaData}
use Rattle.krb_msg.specs.declared.ticket.Ticket.{Ticket}
use Rattle.krb_padata.specs.ExtendedError.{kerb_ext_error_in}
use Rattle.krb_padata.specs.Grammar.{etype_info2_entry, etype_info_entry, kerb_error_data, pa_for_user, pa_fx_fast_reply, pa_fx_fast_request, pa_pac_options, typed_data, typed_data_item}
use Rattle.krb_padata.specs.PacRequest.{pac_request_in}
use Rattle.krb_padata.specs.Types.{etype_info2_entry_of, etype_info_entry_of, krb_fast_armored_req_of, pa_for_user_of, typed_data_item_of}
use Rattle.krb_padata.specs.declared.kerb_ext_error.KerbExtError.{KerbExtError}
use Rattle.krb_padata.specs.declared.krb_fast_armor.KrbFastArmor.{KrbFastArmor}
use Rattle.krb_text.specs.Inside.{ap_req_if, ap_req_in, clear_parts, clear_type, data_parts, data_parts_if, each_if, etype_info2_part, etype_info_part, ext_error_if, ext_error_in, ext_error_part, fast_request_part, first_parts, for_user_part, is_ap_req_armor, is_extended, item_parts, kdc_req_parts, krb_error_parts, one_if, pac_request_part, padata_parts, salt_or_error_part, salt_part, tgs_req_part, ticket_part, typed_item_parts, types_unless}
use Rattle.krb_text.specs.Judged.{asks_for_preauth, judged}
use Rattle.krb_text.specs.MessageValues.{principal, encrypted}
use Rattle.krb_record.specs.Values.{Hex, Number, Part, Quoted, if_there}
use Rattle.krb_text.specs.declared.clear_type.Carrier.{Carrier}
use Rattle.krb_text.specs.declared.clear_type.Carrier.TheVariants as carriers
use Rattle.krb_text.specs.declared.clear_type.ClearType.{ClearType}
use Rattle.krb_text.specs.declared.clear_type.ClearType.TheVariants as types
use Rattle.krb_text_laws.proofs.EachForm.{ArePlainParts, IsPlainPart, IsShown}
use Rattle.krb_text_laws.proofs.ErrorNumbers.{IsOf32Bits, of_32_bits}
use Rattle.krb_text_laws.proofs.FieldsOneLine.{always, named, of_ticket, optional}
use Rattle.krb_text.proofs.Judged.{is_judged}
use Rattle.krb_text_laws.proofs.Tuples.{◌&◌}

-- ---- lists
both : (ps qs : List Part) → ArePlainParts ps → ArePlainParts qs → ArePlainParts (ps ++ qs)
both [] qs h k = k
both (p ∷ ps) qs h k = (h.0, both ps qs h.1 k)

each : {A : Type 0} (told : A → Part) (P : A → Type 0) → ((a : A) → P a → IsPlainPart (told a)) → (all : List A) → AllByRecursion P all → ArePlainParts (map told all)
each told P plain [] h = tt
each told P plain (a ∷ all) h = (plain a h.0, each told P plain all h.1)

-- ---- what is judged fits
one : (term : Term) (told : Value term → Part) → is_unambiguous term ≡ true → ((v : Value term) → Fits term v → IsPlainPart (told v)) → (octets : List ℕ) → ArePlainParts (one_if told (judged term octets))
one term told u plain octets = by (judged term octets) refl
  where
    by : (found : Option (Value term)) → judged term octets ≡ found → ArePlainParts (one_if told found)
    by None e = tt
    by (Some v) e = (plain v (is_judged term octets v u e).fits, tt)

entries : (term : Term) (told : Value term → Part) → is_unambiguous (sequence_of term) ≡ true → ((v : Value term) → Fits term v → IsPlainPart (told v)) → (octets : List ℕ) → ArePlainParts (each_if told (judged (sequence_of term) octets))
entries term told u plain octets = by (judged (sequence_of term) octets) refl
  where
    by : (found : Option (List (Value term))) → judged (sequence_of term) octets ≡ found → ArePlainParts (each_if told found)
    by None e = tt
    by (Some vs) e = each told (Fits term) plain vs (is_judged (sequence_of term) octets vs u e).fits.1

-- ---- each type
tgs_req : (v : Value ap_req) → Fits ap_req v → IsPlainPart (tgs_req_part (ap_req_of v))
tgs_req v (version, (type, (options, (its_ticket, rest)))) = record { kind = refl; names = refl; fields = (named _ (ap_req_of v).ticket.sname its_ticket.1.0.0 its_ticket.1.1.0, (options.1, (tt, (tt, tt)))) }

etype_info_shown : (v : Value etype_info_entry) → Fits etype_info_entry v → IsPlainPart (etype_info_part (etype_info_entry_of v))
etype_info_shown v (etype, (salt, rest)) = record { kind = refl; names = refl; fields = (tt, (optional Quoted AreOctets (λ octets h. h) v.1.0 salt, tt)) }

strings : (o : Option (List ℕ)) → IfPresent (λ octets. AreOctets octets × AllByRecursion (λ octet. octet ≤ 255) octets) o → IsShown (if_there Quoted o)
strings None h = tt
strings (Some octets) h = h.0

etype_info2_shown : (v : Value etype_info2_entry) → Fits etype_info2_entry v → IsPlainPart (etype_info2_part (etype_info2_entry_of v))
etype_info2_shown v (etype, (salt, (params, rest))) = record { kind = refl; names = refl; fields = (tt, (strings v.1.0 salt, (optional Hex AreOctets (λ octets h. h) v.1.1.0 params, tt))) }

for_user : (v : Value pa_for_user) → Fits pa_for_user v → IsPlainPart (for_user_part (pa_for_user_of v))
for_user v (name, (realm, (cksum, (word, rest)))) = record { kind = refl; names = refl; fields = (named _ (pa_for_user_of v).user_name realm.0 name, (tt, (word.0, tt))) }

server_of : (armor : Option KrbFastArmor) → IsShown (if_there (λ v. principal (ap_req_of v).ticket.realm (ap_req_of v).ticket.sname) (ap_req_in armor))
server_of None = tt
server_of (Some armor) = by (is_ap_req_armor armor.armor_type)
  where
    seen : (found : Option (Value ap_req)) → judged ap_req armor.armor_value ≡ found → IsShown (if_there (λ v. principal (ap_req_of v).ticket.realm (ap_req_of v).ticket.sname) found)
    seen None e = tt
    seen (Some v) e =
        let its_ticket : Fits ticket v.1.1.1.0 = (is_judged ap_req armor.armor_value v refl e).fits.1.1.1.0 in
        named _ (ap_req_of v).ticket.sname its_ticket.1.0.0 its_ticket.1.1.0

    by : (is : Bool) → IsShown (if_there (λ v. principal (ap_req_of v).ticket.realm (ap_req_of v).ticket.sname) (ap_req_if is armor.armor_value))
    by false = tt
    by true = seen (judged ap_req armor.armor_value) refl

fast_request : (v : Value pa_fx_fast_request) → Fits pa_fx_fast_request v → IsPlainPart (fast_request_part (krb_fast_armored_req_of v))
fast_request v h = record {
  kind = refl;
  names = refl;
  fields =
      always (λ armor. Number armor.armor_type) (λ armor. tt) (krb_fast_armored_req_of v).armor
      & server_of (krb_fast_armored_req_of v).armor
      & always (λ v. encrypted (ap_req_of v).ticket.enc_part) (λ v. tt) (ap_req_in (krb_fast_armored_req_of v).armor) & tt & tt;
}

pac : (found : Option Bool) → ArePlainParts (one_if pac_request_part found)
pac None = tt
pac (Some include) = (record { kind = refl; names = refl; fields = (tt, tt) }, tt)

ext_error : (e : KerbExtError) → IsOf32Bits e → IsPlainPart (ext_error_part e)
ext_error e h = record { kind = refl; names = refl; fields = (h.status, (tt, (tt, tt))) }

salt_or_error : (octets : List ℕ) → AreOctets octets → (found : Option KerbExtError) → IfSome found IsOf32Bits → IsPlainPart (salt_or_error_part octets found)
salt_or_error octets a None h = record { kind = refl; names = refl; fields = (a, tt) }
salt_or_error octets a (Some e) h = by (e.reserved == 0)
  where
    by : (zero : Bool) → IsPlainPart (if zero then ext_error_part e else salt_part octets)
    by true = ext_error e h
    by false = record { kind = refl; names = refl; fields = (a, tt) }

of_type : (type : ClearType) (octets : List ℕ) → AreOctets octets → ArePlainParts (clear_parts type octets)
of_type types.TgsReq octets a = one ap_req _ refl tgs_req octets
of_type types.PwSalt octets a = (record { kind = refl; names = refl; fields = (a, tt) }, tt)
of_type types.SaltOrError octets a = (salt_or_error octets a (kerb_ext_error_in octets) (of_32_bits octets a), tt)
of_type types.EtypeInfo octets a = entries etype_info_entry _ refl etype_info_shown octets
of_type types.EtypeInfo2 octets a = entries etype_info2_entry _ refl etype_info2_shown octets
of_type types.PacRequest octets a = pac (pac_request_in octets)
of_type types.ForUser octets a = one pa_for_user _ refl for_user octets
of_type types.FastRequest octets a = one pa_fx_fast_request _ refl fast_request octets
of_type types.FastReply octets a = one pa_fx_fast_reply _ refl (λ v fits. record { kind = refl; names = refl; fields = (tt, (tt, (tt, (tt, tt)))) }) octets
of_type types.PacOptions octets a = one pa_pac_options _ refl (λ v fits. record { kind = refl; names = refl; fields = (fits.0.1, tt) }) octets
of_type types.Other octets a = tt
of_type other octets a = one encrypted_data _ refl (λ v fits. record { kind = refl; names = refl; fields = (tt, tt) }) octets

-- ---- each message
items_inside : (carrier : Carrier) (items : List PaData) → AllByRecursion (λ p. AreOctets p.padata_value) items → ArePlainParts (flat_map (item_parts carrier) items)
items_inside carrier [] h = tt
items_inside carrier (p ∷ items) h = both (item_parts carrier p) (flat_map (item_parts carrier) items) (of_type (clear_type carrier p.padata_type) p.padata_value h.0) (items_inside carrier items h.1)

pub fit_octets : (items : List PaData) → AllByRecursion (Fits pa_data) (map pa_data_value items) → AllByRecursion (λ p. AreOctets p.padata_value) items
fit_octets [] h = tt
fit_octets (p ∷ items) h = (h.0.1.0, fit_octets items h.1)

pub values_octets : (vs : List (Value pa_data)) → AllByRecursion (Fits pa_data) vs → AllByRecursion (λ p. AreOctets p.padata_value) (map pa_data_of vs)
values_octets [] h = tt
values_octets (v ∷ vs) h = (h.0.1.0, values_octets vs h.1)

pub padata_inside : (carrier : Carrier) (items : Option (List PaData)) → IfPresent (Fits (sequence_of pa_data)) (option_map (map pa_data_value) items) → ArePlainParts (padata_parts carrier items)
padata_inside carrier None h = tt
padata_inside carrier (Some items) h = items_inside carrier items (fit_octets items h.1)

pub tickets_inside : (tickets : List Ticket) → AllByRecursion (Fits ticket) (map ticket_value tickets) → ArePlainParts (map ticket_part tickets)
tickets_inside [] h = tt
tickets_inside (t ∷ tickets) h = (record { kind = refl; names = refl; fields = (of_ticket t h.0, (tt, tt)) }, tickets_inside tickets h.1)

some_tickets_inside : (tickets : Option (List Ticket)) → IfPresent (Fits (sequence_of ticket)) (option_map (map ticket_value) tickets) → ArePlainParts (each_if ticket_part tickets)
some_tickets_inside None h = tt
some_tickets_inside (Some tickets) h = tickets_inside tickets h.1

pub kdc_req_inside : (m : KdcReq) → IfPresent (Fits (sequence_of pa_data)) (option_map (map pa_data_value) m.padata) → Fits kdc_req_body (kdc_req_body_value m.body) → ArePlainParts (kdc_req_parts m)
kdc_req_inside m h (options, (cname, (realm, (sname, (from, (till, (rtime, (nonce, (etype, (addresses, (authdata, (tickets, rest)))))))))))) =
    both (padata_parts carriers.Request m.padata) (each_if ticket_part m.body.additional_tickets) (padata_inside carriers.Request m.padata h) (some_tickets_inside m.body.additional_tickets tickets)

-- ---- the data of errors
types_inside : (asks : Bool) (items : List PaData) → ArePlainParts (types_unless asks items)
types_inside true items = tt
types_inside false items = (record { kind = refl; names = refl; fields = (tt, tt) }, tt)

optional_error : (found : Option KerbExtError) → IfSome found IsOf32Bits → ArePlainParts (one_if ext_error_part found)
optional_error None h = tt
optional_error (Some e) h = (ext_error e h, tt)

-- the extended error in a value of a type
pub error_if : (is : Bool) (octets : List ℕ) → AreOctets octets → IfSome (ext_error_if is octets) IsOf32Bits
error_if false octets a = tt
error_if true octets a = of_32_bits octets a

pub error_in : (type : ℤ) (octets : Option (List ℕ)) → IfPresent AreOctets octets → IfSome (ext_error_in type octets) IsOf32Bits
error_in type None a = tt
error_in type (Some octets) a = error_if (is_extended type) octets a

typed_inside : (vs : List (Value typed_data_item)) → AllByRecursion (Fits typed_data_item) vs → ArePlainParts (flat_map typed_item_parts (map typed_data_item_of vs))
typed_inside [] h = tt
typed_inside (v ∷ vs) h =
    both (typed_item_parts (typed_data_item_of v)) (flat_map typed_item_parts (map typed_data_item_of vs)) (optional_error (ext_error_in v.0 v.1.0) (error_in v.0 v.1.0 h.0.1.0)) (typed_inside vs h.1)

data_inside : (asks : Bool) (octets : List ℕ) → ArePlainParts (data_parts asks octets)
data_inside asks octets = by (judged method_data octets) (judged typed_data octets) (judged kerb_error_data octets) refl refl refl
  where
    by : (methods : Option (Value method_data)) (typed : Option (Value typed_data)) (other : Option (Value kerb_error_data)) → judged method_data octets ≡ methods → judged typed_data octets ≡ typed → judged kerb_error_data octets ≡ other → ArePlainParts (first_parts asks methods typed other)
    by (Some vs) typed other e f g =
        both (types_unless asks (map pa_data_of vs)) (flat_map (item_parts carriers.Error) (map pa_data_of vs)) (types_inside asks (map pa_data_of vs))
        (items_inside carriers.Error (map pa_data_of vs) (values_octets vs (is_judged method_data octets vs refl e).fits.1))
    by None (Some vs) other e f g = (record { kind = refl; names = refl; fields = (tt, tt) }, typed_inside vs (is_judged typed_data octets vs refl f).fits.1)
    by None None (Some v) e f g = (
      record { kind = refl; names = refl; fields = (tt, tt) },
      optional_error (ext_error_in v.0 v.1.0) (error_in v.0 v.1.0 (is_judged kerb_error_data octets v refl g).fits.1.0),
    )
    by None None None e f g = tt

pub error_inside : (m : KrbError) → ArePlainParts (krb_error_parts m)
error_inside m = by m.e_data
  where
    by : (octets : Option (List ℕ)) → ArePlainParts (data_parts_if (asks_for_preauth m.error_code) octets)
    by None = tt
    by (Some octets) = data_inside (asks_for_preauth m.error_code) octets
