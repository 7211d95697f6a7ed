-- What is masked inside of pre-authentication data has no part in what is told of it.
use Rattle.std.proofs.Common.{◌≡◌, ℕ, zero, suc, ◌<◌, ◌^◌, Bool, true, false, Option, Some, None, List, [], ◌∷◌, ◌++◌, length, map, refl, sym, ◌∙◌, ap, ap₂, arith}
use Rattle.std.specs.List.{flat_map}
use Rattle.std.specs.Option.{option_map}
use Rattle.krb_file.specs.Fields.{zeros}
use Rattle.krb_file.proofs.Zeros.{AreOctets-zeros, length-zeros}
use Rattle.krb_msg.specs.Der.{IsDer}
use Rattle.krb_msg.specs.Grammar.{ap_req, checksum, encrypted_data, principal_name, ticket}
use Rattle.krb_msg.specs.Shape.{has_octet_tags, is_unambiguous}
use Rattle.krb_msg.specs.Term.{Term, Value, der, tag_of}
use Rattle.krb_msg.specs.Types.{ap_req_of, encrypted_data_of}
use Rattle.krb_msg.specs.ValueOfDer.{first_or_zero}
use Rattle.krb_msg.specs.declared.pa_data.PaData.{PaData}
use Rattle.krb_msg.specs.inner.Values.{der_is}
use Rattle.krb_msg.proofs.Encoded.{AreOctets-der}
use Rattle.krb_msg.proofs.Grammars.{whole_is_value}
use Rattle.krb_padata.specs.Grammar.{etype_info, etype_info2, krb_fast_armor, pa_for_user, pa_fx_fast_reply, pa_fx_fast_request, pa_pac_options}
use Rattle.krb_padata.specs.PacRequest.{pac_request_in}
use Rattle.krb_padata.specs.Types.{krb_fast_armor_of, krb_fast_armored_rep_of, krb_fast_armored_req_of, pa_for_user_of}
use Rattle.krb_text.specs.Inside.{ap_req_if, ap_req_in, clear_parts, clear_type, each_if, fast_reply_part, fast_request_part, for_user_part, is_ap_req_armor, item_parts, one_if, encrypted_part, tgs_req_part}
use Rattle.krb_text.specs.Judged.{judged}
use Rattle.krb_text.specs.Masks.{masked_ap_req_value, masked_armor, masked_armor_if, masked_as, masked_checksum_value, masked_clear, masked_fast_reply, masked_fast_request, masked_for_user, masked_item, masked_encrypted_value, masked_ticket_value, octets_or_zeros}
use Rattle.krb_text.specs.MessageValues.{principal, encrypted}
use Rattle.krb_record.specs.Values.{Number, Part, if_there}
use Rattle.krb_text.specs.declared.clear_type.Carrier.{Carrier}
use Rattle.krb_text.specs.declared.clear_type.ClearType.{ClearType}
use Rattle.krb_text.specs.declared.clear_type.ClearType.TheVariants as types
use Rattle.krb_text_laws.proofs.Alike.{Alike, Replace, SomeAlike, as_many, fits_as, replace_same, replace_zeros, same, some_same}
use Rattle.krb_text.proofs.Judged.{is_judged, judged_der, not_judged}

-- ---- octets 00 are no item
by_form : (term : Term) → (tag_of term ≡ 0 → ⊥) → (n : ℕ) (v : Value term) → zeros n ≡ der term v → ⊥
by_form term tag zero v e =
    let none : [] ≡ tag_of term ∷ _ = e ∙ der_is term v in
    absurd cc
by_form term tag (suc n) v e = tag (sym (ap first_or_zero (e ∙ der_is term v)))

pub zeros_not_judged : (term : Term) → (tag_of term ≡ 0 → ⊥) → (n : ℕ) → judged term (zeros n) ≡ None
zeros_not_judged term tag n = not_judged term (zeros n) (λ whole. of_der (whole_is_value term (zeros n) (AreOctets-zeros n) whole))
  where
    of_der : IsDer term (zeros n) → ⊥
    of_der is = by_form term tag n is.value is.form

-- ---- a mask that keeps the number of octets
-- of any octets: they are judged as the masked value, if they are judged, and are as many
pub record IsMasked (term : Term) (mask : Value term → Value term) (octets : List ℕ) : Type 0 where
  pub judged_as : judged term (masked_as term mask octets) ≡ option_map mask (judged term octets)
  pub replace : Replace (masked_as term mask octets) octets

module _ (term : Term) (mask : Value term → Value term) (u : is_unambiguous term ≡ true) (tags : has_octet_tags term ≡ true) (tag : tag_of term ≡ 0 → ⊥) (alike : (v : Value term) → Alike term (mask v) v) where
  pub is_masked : (octets : List ℕ) → IsMasked term mask octets
  is_masked octets = by (judged term octets) refl
    where
      by : (found : Option (Value term)) → judged term octets ≡ found → IsMasked term mask octets
      by None e = record {
        judged_as = rw e (zeros_not_judged term tag (length octets));
        replace = rw e (replace_zeros octets);
      }
      by (Some v) e =
          let j = is_judged term octets v u e in
          let many : length (der term (mask v)) ≡ length octets = as_many term (mask v) v (alike v) ∙ ap length j.form in
          let short : length (der term (mask v)) < 2 ^ 31 = omega (arith, many, j.short) in
          let fits = fits_as term (mask v) v (alike v) j.fits in
          record {
            judged_as = rw e (judged_der term (mask v) u tags fits short);
            replace = rw e (record { many = many; octets = λ a. AreOctets-der term tags (mask v) fits (omega (arith, short)) });
          }

-- ---- the masks
encrypted_alike : (v : Value encrypted_data) → Alike encrypted_data (masked_encrypted_value v) v
encrypted_alike v = (refl, (some_same _ (λ n. refl) v.1.0, (replace_zeros v.1.1.0, tt)))

checksum_alike : (v : Value checksum) → Alike checksum (masked_checksum_value v) v
checksum_alike v = (refl, (replace_zeros v.1.0, tt))

ticket_alike : (v : Value ticket) → Alike ticket (masked_ticket_value v) v
ticket_alike v = (refl, (refl, (same principal_name v.1.1.0, (encrypted_alike v.1.1.1.0, tt))))

ap_req_alike : (v : Value ap_req) → Alike ap_req (masked_ap_req_value v) v
ap_req_alike v = (refl, (refl, (refl, (ticket_alike v.1.1.1.0, (encrypted_alike v.1.1.1.1.0, tt)))))

for_user_alike : (v : Value pa_for_user) → Alike pa_for_user (masked_for_user v) v
for_user_alike v = (same principal_name v.0, (refl, (checksum_alike v.1.1.0, (refl, tt))))

pub ap_req_masked : (octets : List ℕ) → IsMasked ap_req masked_ap_req_value octets
ap_req_masked = is_masked ap_req masked_ap_req_value refl refl (λ e. absurd cc) ap_req_alike

armor_if_alike : (is : Bool) (octets : List ℕ) → Replace (masked_armor_if is octets) octets
armor_if_alike false octets = replace_zeros octets
armor_if_alike true octets = (ap_req_masked octets).replace

armor_alike : (v : Option (Value krb_fast_armor)) → SomeAlike (Alike krb_fast_armor) (option_map masked_armor v) v
armor_alike None = tt
armor_alike (Some v) = (refl, (armor_if_alike (is_ap_req_armor v.0) v.1.0, tt))

fast_request_alike : (v : Value pa_fx_fast_request) → Alike pa_fx_fast_request (masked_fast_request v) v
fast_request_alike v = (armor_alike v.0, (checksum_alike v.1.0, (encrypted_alike v.1.1.0, tt)))

fast_reply_alike : (v : Value pa_fx_fast_reply) → Alike pa_fx_fast_reply (masked_fast_reply v) v
fast_reply_alike v = (encrypted_alike v.0, tt)

pub encrypted_masked : (octets : List ℕ) → IsMasked encrypted_data masked_encrypted_value octets
encrypted_masked = is_masked encrypted_data masked_encrypted_value refl refl (λ e. absurd cc) encrypted_alike

for_user_masked : (octets : List ℕ) → IsMasked pa_for_user masked_for_user octets
for_user_masked = is_masked pa_for_user masked_for_user refl refl (λ e. absurd cc) for_user_alike

fast_request_masked : (octets : List ℕ) → IsMasked pa_fx_fast_request masked_fast_request octets
fast_request_masked = is_masked pa_fx_fast_request masked_fast_request refl refl (λ e. absurd cc) fast_request_alike

fast_reply_masked : (octets : List ℕ) → IsMasked pa_fx_fast_reply masked_fast_reply octets
fast_reply_masked = is_masked pa_fx_fast_reply masked_fast_reply refl refl (λ e. absurd cc) fast_reply_alike

-- ---- what is told of a masked value
encrypted_same : (kind : List ℕ) (v : Value encrypted_data) → encrypted_part kind (encrypted_data_of (masked_encrypted_value v)) ≡ encrypted_part kind (encrypted_data_of v)
encrypted_same kind v = rw (length-zeros (length v.1.1.0)) refl

tgs_req_same : (v : Value ap_req) → tgs_req_part (ap_req_of (masked_ap_req_value v)) ≡ tgs_req_part (ap_req_of v)
tgs_req_same v = rw (length-zeros (length (ap_req_of v).ticket.enc_part.cipher), length-zeros (length (ap_req_of v).authenticator.cipher)) refl

for_user_same : (v : Value pa_for_user) → for_user_part (pa_for_user_of (masked_for_user v)) ≡ for_user_part (pa_for_user_of v)
for_user_same v = rw (length-zeros (length (pa_for_user_of v).cksum.checksum)) refl

fast_reply_same : (v : Value pa_fx_fast_reply) → fast_reply_part (krb_fast_armored_rep_of (masked_fast_reply v)) ≡ fast_reply_part (krb_fast_armored_rep_of v)
fast_reply_same v = rw (length-zeros (length (krb_fast_armored_rep_of v).enc_fast_rep.cipher)) refl

-- the AP-REQ of a masked armor
armor_if_same : (is : Bool) (octets : List ℕ) → ap_req_if is (masked_armor_if is octets) ≡ option_map masked_ap_req_value (ap_req_if is octets)
armor_if_same false octets = refl
armor_if_same true octets = (ap_req_masked octets).judged_as

armor_same : (v : Option (Value krb_fast_armor)) → ap_req_in (option_map krb_fast_armor_of (option_map masked_armor v)) ≡ option_map masked_ap_req_value (ap_req_in (option_map krb_fast_armor_of v))
armor_same None = refl
armor_same (Some v) = armor_if_same (is_ap_req_armor v.0) v.1.0

type_same : (v : Option (Value krb_fast_armor)) → if_there (λ armor. Number armor.armor_type) (option_map krb_fast_armor_of (option_map masked_armor v)) ≡ if_there (λ armor. Number armor.armor_type) (option_map krb_fast_armor_of v)
type_same None = refl
type_same (Some v) = refl

server_same : (found : Option (Value ap_req)) → if_there (λ v. principal (ap_req_of v).ticket.realm (ap_req_of v).ticket.sname) (option_map masked_ap_req_value found) ≡ if_there (λ v. principal (ap_req_of v).ticket.realm (ap_req_of v).ticket.sname) found
server_same None = refl
server_same (Some v) = refl

ticket_same : (found : Option (Value ap_req)) → if_there (λ v. encrypted (ap_req_of v).ticket.enc_part) (option_map masked_ap_req_value found) ≡ if_there (λ v. encrypted (ap_req_of v).ticket.enc_part) found
ticket_same None = refl
ticket_same (Some v) = rw (length-zeros (length (ap_req_of v).ticket.enc_part.cipher)) refl

fast_request_same : (v : Value pa_fx_fast_request) → fast_request_part (krb_fast_armored_req_of (masked_fast_request v)) ≡ fast_request_part (krb_fast_armored_req_of v)
fast_request_same v =
    rw (type_same v.0, armor_same v.0, server_same (ap_req_in (option_map krb_fast_armor_of v.0)), ticket_same (ap_req_in (option_map krb_fast_armor_of v.0)), length-zeros (length (krb_fast_armored_req_of v).enc_fast_req.cipher)) refl

-- ---- the parts by type
one_same : {A : Type 0} (told : A → Part) (mask : A → A) → ((a : A) → told (mask a) ≡ told a) → (found : Option A) → one_if told (option_map mask found) ≡ one_if told found
one_same told mask each None = refl
one_same told mask each (Some a) = ap (λ p. p ∷ []) (each a)

masked_same : (term : Term) (mask : Value term → Value term) (told : Value term → Part) → ((v : Value term) → told (mask v) ≡ told v) → (octets : List ℕ) → IsMasked term mask octets → one_if told (judged term (masked_as term mask octets)) ≡ one_if told (judged term octets)
masked_same term mask told each octets is = ap (one_if told) is.judged_as ∙ one_same told mask each (judged term octets)

-- octets that are themselves, or 00
kept_judged : (term : Term) → (tag_of term ≡ 0 → ⊥) → (octets : List ℕ) → judged term (octets_or_zeros octets (judged term octets)) ≡ judged term octets
kept_judged term tag octets = by (judged term octets) refl
  where
    by : (found : Option (Value term)) → judged term octets ≡ found → judged term (octets_or_zeros octets found) ≡ judged term octets
    by None e = zeros_not_judged term tag (length octets) ∙ sym e
    by (Some v) e = refl

pub kept : {A : Type 0} (octets : List ℕ) (found : Option A) → Replace (octets_or_zeros octets found) octets
kept octets None = replace_zeros octets
kept octets (Some a) = replace_same octets

zeros_no_request : (n : ℕ) → pac_request_in (zeros n) ≡ None
zeros_no_request zero = refl
zeros_no_request (suc n) = refl

kept_request : (octets : List ℕ) (found : Option Bool) → pac_request_in octets ≡ found → pac_request_in (octets_or_zeros octets found) ≡ pac_request_in octets
kept_request octets None e = zeros_no_request (length octets) ∙ sym e
kept_request octets (Some include) e = refl

pub clear_same : (type : ClearType) (octets : List ℕ) → clear_parts type (masked_clear type octets) ≡ clear_parts type octets
clear_same types.TgsReq octets = masked_same ap_req masked_ap_req_value _ tgs_req_same octets (ap_req_masked octets)
clear_same types.PwSalt octets = refl
clear_same types.SaltOrError octets = refl
clear_same types.EtypeInfo octets = ap (each_if _) (kept_judged etype_info (λ e. absurd cc) octets)
clear_same types.EtypeInfo2 octets = ap (each_if _) (kept_judged etype_info2 (λ e. absurd cc) octets)
clear_same types.PacRequest octets = ap (one_if _) (kept_request octets (pac_request_in octets) refl)
clear_same types.ForUser octets = masked_same pa_for_user masked_for_user _ for_user_same octets (for_user_masked octets)
clear_same types.FastRequest octets = masked_same pa_fx_fast_request masked_fast_request _ fast_request_same octets (fast_request_masked octets)
clear_same types.FastReply octets = masked_same pa_fx_fast_reply masked_fast_reply _ fast_reply_same octets (fast_reply_masked octets)
clear_same types.PacOptions octets = ap (one_if _) (kept_judged pa_pac_options (λ e. absurd cc) octets)
clear_same types.Other octets = refl
clear_same other octets = masked_same encrypted_data masked_encrypted_value _ (encrypted_same _) octets (encrypted_masked octets)

pub clear_replaced : (type : ClearType) (octets : List ℕ) → Replace (masked_clear type octets) octets
clear_replaced types.TgsReq octets = (ap_req_masked octets).replace
clear_replaced types.PwSalt octets = replace_same octets
clear_replaced types.SaltOrError octets = replace_same octets
clear_replaced types.EtypeInfo octets = kept octets (judged etype_info octets)
clear_replaced types.EtypeInfo2 octets = kept octets (judged etype_info2 octets)
clear_replaced types.PacRequest octets = kept octets (pac_request_in octets)
clear_replaced types.ForUser octets = (for_user_masked octets).replace
clear_replaced types.FastRequest octets = (fast_request_masked octets).replace
clear_replaced types.FastReply octets = (fast_reply_masked octets).replace
clear_replaced types.PacOptions octets = kept octets (judged pa_pac_options octets)
clear_replaced types.Other octets = replace_zeros octets
clear_replaced other octets = (encrypted_masked octets).replace

pub items_same : (carrier : Carrier) (items : List PaData) → flat_map (item_parts carrier) (map (masked_item carrier) items) ≡ flat_map (item_parts carrier) items
items_same carrier [] = refl
items_same carrier (p ∷ items) = ap₂ (λ (a b : List Part). a ++ b) (clear_same (clear_type carrier p.padata_type) p.padata_value) (items_same carrier items)
