-- The laws of the judgement and of DER, at the messages of the crate.
use Rattle.std.proofs.Common.{◌≡◌, false, ℕ, suc, ◌^◌, ◌<◌, ◌≤◌, List, length, get_or, take, refl, sym, ◌∙◌, ap, subst, arith}
use Rattle.krb_der.specs.Octets.{AreOctets}
use Rattle.krb_der.specs.declared.profile.Profile.{Profile}
use Rattle.krb_der.specs.declared.profile.Profile.TheVariants as profiles
use Rattle.krb_der.specs.declared.why.Why.{Why}
use Rattle.krb_der.specs.declared.verdict.Verdict.TheVariants as verdict
use Rattle.krb_msg.specs.declared.message.Message.{Message}
use Rattle.krb_msg.specs.declared.message.Kind.{Kind}
use Rattle.krb_msg.specs.Term.{Term, Value, der, Fits}
use Rattle.krb_msg.specs.Grammar.{messages}
use Rattle.krb_msg.specs.Profiles.{narrowed, narrowed_value}
use Rattle.krb_msg.specs.Shape.{IsOneOf, IsGrammar, greatest_depth}
use Rattle.krb_msg.specs.Judgement.{judgement}
use Rattle.krb_msg.specs.Views.{kind_of, kind_term, kind_term_in, message_value_in, kind_of_tag, message_value, message_der, IsInProfile}
use Rattle.krb_msg.specs.Laws.{AreOneOf, AreMessage}
use Rattle.krb_msg.specs.inner.Values.{der_is}
use Rattle.krb_msg.proofs.Profiles.{der_narrowed, fits_narrowed, widened_value, narrowed_widened}
use Rattle.krb_msg.proofs.KindSteps.{IsValueOfMessage}
use Rattle.krb_msg.proofs.KindLaws.{kind_is_one_of, kind_of_one_of, kind_has_message}
use Rattle.krb_msg.proofs.Grammars.{whole_is_one_of, one_of_is_whole, refusal_is_none_of}
pub use Rattle.krb_msg.specs.inner.Kinds.{kind_of_tag-tag, message_round_trips}
pub use Rattle.krb_msg.specs.inner.MessagePrefixFree.{der_is_prefix_free}
pub use Rattle.krb_msg.proofs.Grammars.{whole_outcome, refused_outcome, open_outcome, whole_is_value, value_is_whole, value_is_decided}

-- ---- the grammar
pub messages_are_grammar : (profile : Profile) → IsGrammar (messages profile)
messages_are_grammar profiles.Lenient = record { own_tags = refl; unambiguous = refl; octet_tags = refl }
messages_are_grammar profiles.Strict = record { own_tags = refl; unambiguous = refl; octet_tags = refl }

pub messages_nest : (profile : Profile) → greatest_depth (messages profile) ≡ 13
messages_nest profiles.Lenient = refl
messages_nest profiles.Strict = refl

-- a message of a profile whose value is one of the profile's term
record IsValueOfMessageIn (profile : Profile) (term : Term) (value : Value term) : Type 0 where
  pub message : Message
  pub fits : Fits (kind_term_in profile (kind_of message)) (message_value_in profile message)
  pub form : message_der message ≡ der term value

kind_has_message_in : (profile : Profile) (k : Kind) (value : Value (kind_term_in profile k)) → Fits (kind_term_in profile k) value → IsValueOfMessageIn profile (kind_term_in profile k) value
kind_has_message_in profiles.Lenient k value f = let s : IsValueOfMessage (kind_term k) value = kind_has_message k value f in record { message = s.message; fits = s.fits_in profiles.Lenient f; form = s.form }
kind_has_message_in profiles.Strict k value f = by (kind_has_message k wide (fits_narrowed false (kind_term k) wide fits).0)
  where
    wide : Value (kind_term k)
    wide = widened_value false (kind_term k) value

    same : narrowed_value false (kind_term k) wide ≡ value
    same = narrowed_widened false (kind_term k) value

    fits : Fits (narrowed false (kind_term k)) (narrowed_value false (kind_term k) wide)
    fits = subst (Fits (narrowed false (kind_term k))) (sym same) f

    by : IsValueOfMessage (kind_term k) wide → IsValueOfMessageIn profiles.Strict (kind_term_in profiles.Strict k) value
    by s = record {
      message = s.message;
      fits = s.fits_in profiles.Strict fits;
      form = s.form ∙ sym (der_narrowed false (kind_term k) wide) ∙ ap (der (narrowed false (kind_term k))) same;
    }

value_has_message_in : (profile : Profile) (term : Term) → IsOneOf term (messages profile) → (value : Value term) → Fits term value → IsValueOfMessageIn profile term value
value_has_message_in profile term c = let k : (k : Kind) × (term ≡ kind_term_in profile k) = kind_of_one_of profile term c in subst (λ t. (value : Value t) → Fits t value → IsValueOfMessageIn profile t value) (sym k.1) (kind_has_message_in profile k.0)

-- the DER of a message as that of its value in a profile
pub message_der_in : (profile : Profile) (m : Message) → der (kind_term_in profile (kind_of m)) (message_value_in profile m) ≡ message_der m
message_der_in profiles.Lenient m = refl
message_der_in profiles.Strict m = der_narrowed false (kind_term (kind_of m)) (message_value m)

-- ---- the laws
pub whole_is_message : (profile : Profile) (n : ℕ) (octets : List ℕ) → n < 2 ^ 31 → AreOctets octets → length octets ≤ n → judgement profile n octets ≡ verdict.Whole → AreMessage profile n octets
whole_is_message profile n octets small a l e = by (whole_is_one_of (messages profile) n octets a l e)
  where
    by : AreOneOf (messages profile) n octets → AreMessage profile n octets
    by w =
        let s : IsValueOfMessageIn profile w.term w.is_der.value = value_has_message_in profile w.term w.one_of w.is_der.value w.is_der.fits in
        let form : message_der s.message ≡ octets = s.form ∙ sym w.is_der.form in
        record { message = s.message; in_profile = record { fits = s.fits; short = omega (arith, ap length form) }; form = form; all = w.all }

pub message_is_whole : (profile : Profile) (m : Message) → IsInProfile profile m → judgement profile (length (message_der m)) (message_der m) ≡ verdict.Whole
message_is_whole profile m p =
    subst (λ octets. judgement profile (length octets) octets ≡ verdict.Whole) (message_der_in profile m)
    (one_of_is_whole (messages profile) (messages_are_grammar profile) (kind_term_in profile (kind_of m)) (kind_is_one_of profile (kind_of m)) (message_value_in profile m) p.fits (omega (arith, p.short, ap length (message_der_in profile m))))

pub refusal_is_right : (profile : Profile) (n : ℕ) (octets : List ℕ) (place : ℕ) (reason : Why) → length octets ≤ n → judgement profile n octets ≡ verdict.Refused (record { place = place; why = reason }) → (m : Message) → IsInProfile profile m → length (message_der m) ≡ n → take (suc place) (message_der m) ≡ take (suc place) octets → ⊥
refusal_is_right profile n octets place reason l e m p same begins =
    let form : der (kind_term_in profile (kind_of m)) (message_value_in profile m) ≡ message_der m = message_der_in profile m in
    refusal_is_none_of (messages profile) (messages_are_grammar profile) n octets place reason l e (kind_term_in profile (kind_of m)) (kind_is_one_of profile (kind_of m)) (message_value_in profile m) p.fits
    (omega (arith, p.short, ap length form)) (ap length form ∙ same) (ap (take (suc place)) form ∙ begins)

-- a message of a profile is one of the lenient profile
pub lenient_message : (profile : Profile) (m : Message) → IsInProfile profile m → IsInProfile profiles.Lenient m
lenient_message profiles.Lenient m p = p
lenient_message profiles.Strict m p = record { fits = (fits_narrowed false (kind_term (kind_of m)) (message_value m) p.fits).0; short = p.short }

pub lenient_whole : (profile : Profile) (n : ℕ) (octets : List ℕ) → n < 2 ^ 31 → AreOctets octets → length octets ≤ n → judgement profile n octets ≡ verdict.Whole → judgement profiles.Lenient n octets ≡ verdict.Whole
lenient_whole profile n octets small a l e = by (whole_is_message profile n octets small a l e)
  where
    by : AreMessage profile n octets → judgement profiles.Lenient n octets ≡ verdict.Whole
    by w =
        subst (λ k. judgement profiles.Lenient k octets ≡ verdict.Whole) w.all
        (subst (λ those. judgement profiles.Lenient (length those) those ≡ verdict.Whole) w.form (message_is_whole profiles.Lenient w.message (lenient_message profile w.message w.in_profile)))

-- ---- the kind of a message
pub kind_of_octets : {octets : List ℕ} (m : Message) → message_der m ≡ octets → kind_of m ≡ kind_of_tag (get_or octets 0 0)
kind_of_octets m e =
    sym (kind_of_tag-tag (kind_of m))
    ∙ ap (λ (l : List ℕ). kind_of_tag (get_or l 0 0)) (sym (der_is (kind_term (kind_of m)) (message_value m)) ∙ e)
