-- Messages that fill a slice.
use Rattle.std.proofs.Common.{◌≡◌, ◌≢◌, ℕ, ◌^◌, ◌<◌, Bool, true, false, List, [], ◌∷◌, ◌++◌, length, Option, Some, None, refl, sym, ap, ◌∙◌, subst, arith}
use Rattle.std.specs.Prelude.{nat_lt, ◌==◌, if◌then◌else◌, IsSome, MatchOption}
use Rattle.std.proofs.lemmas.Bool.Decides.{nat_tests}
use Rattle.krb_der.specs.Octets.{AreOctets}
use Rattle.krb_der.specs.declared.profile.Profile.{Profile}
use Rattle.krb_der.specs.declared.profile.Profile.TheVariants as profiles
use Rattle.krb_der.specs.declared.verdict.Refusal.{Refusal}
use Rattle.krb_der.specs.declared.verdict.Verdict.{Verdict}
use Rattle.krb_der.specs.declared.verdict.Verdict.TheVariants as verdict
use Rattle.krb_msg.specs.declared.message.Message.{Message}
use Rattle.krb_msg.specs.Term.{Term, Value, Fits, der}
use Rattle.krb_msg.specs.Shape.{is_unambiguous}
use Rattle.krb_msg.specs.Judgement.{judgement, term_judgement}
use Rattle.krb_msg.specs.Laws.{AreMessage}
use Rattle.krb_msg.proofs.Judged.{whole_is_message, message_is_whole, whole_is_value, value_is_whole, value_is_decided, lenient_whole}
use Rattle.krb_msg.proofs.Grammars.{all_is_decided}
use Rattle.krb_msg.specs.Grammar.{messages}
use Rattle.krb_msg.specs.inner.Values.{der_begins, same_from_der}
use Rattle.krb_msg.specs.Profiles.{profile_term}
use Rattle.krb_msg.specs.Der.{IsDer}
use Rattle.krb_msg.specs.declared.message_view.MessageView.{MessageView}
use Rattle.krb_msg.specs.ViewValues.{IsMessageView, IsNoMessage}
use Rattle.krb_msg.specs.Viewed.{IsNotWhole}
use Rattle.krb_msg.proofs.ProfileValues.{lenient_der}
use Rattle.krb_judge.specs.Parses.{refused, refusal_by, refusal_of, AreOf, AreOfValue}

-- ---- no refusal
chosen_none : (long empty : Bool) (first second : Refusal) (v : Verdict) → (if long then Some first else if empty then Some second else refused v) ≡ None → (long ≡ false) × (empty ≡ false) × (refused v ≡ None)
chosen_none false false first second v e = (refl, refl, e)
chosen_none other another first second v e = absurd cc

none_chosen : (long empty : Bool) (first second : Refusal) (v : Verdict) → long ≡ false → empty ≡ false → v ≡ verdict.Whole → (if long then Some first else if empty then Some second else refused v) ≡ None
none_chosen long empty first second v p q e = rw (p, q, e) refl

not_refused : (v : Verdict) → refused v ≡ None → (v ≡ verdict.Open → ⊥) → v ≡ verdict.Whole
not_refused verdict.Open e o = absurd (o refl)
not_refused verdict.Whole e o = refl
not_refused (verdict.Refused refusal) e o = absurd cc

-- a judgement that decides something of all the octets
abbrev Decides : (ℕ → List ℕ → Verdict) → List ℕ → Type 0
Decides judge octets = 0 < length octets → judge (length octets) octets ≡ verdict.Open → ⊥

-- a slice that is not refused
pub record IsWholeSlice (judge : ℕ → List ℕ → Verdict) (octets : List ℕ) : Type 0 where
  pub short : length octets < 2 ^ 31
  pub whole : judge (length octets) octets ≡ verdict.Whole

whole_slice : (judge : ℕ → List ℕ → Verdict) (octets : List ℕ) → Decides judge octets → refusal_by judge octets ≡ None → IsWholeSlice judge octets
whole_slice judge octets decided e =
    let p = chosen_none (nat_lt 2147483647 (length octets)) (length octets == 0) _ _ (judge (length octets) octets) e in
    record {
      short = grind (arith, nat_tests, p.0);
      whole = not_refused (judge (length octets) octets) p.2 (decided (grind (arith, nat_tests, p.1)));
    }

none_refused : (judge : ℕ → List ℕ → Verdict) (octets : List ℕ) → judge (length octets) octets ≡ verdict.Whole → 0 < length octets → length octets < 2 ^ 31 → refusal_by judge octets ≡ None
none_refused judge octets whole some short = none_chosen (nat_lt 2147483647 (length octets)) (length octets == 0) _ _ (judge (length octets) octets) (grind (arith, nat_tests, short)) (grind (arith, nat_tests, some)) whole

-- ---- views
pub viewed_some : {A Q : Type 0} (P : Type 0) (Seen : A → Type 0) (seen : Option A) → ((a : A) → Seen a → Q) → MatchOption seen P Seen → IsSome seen → Q
viewed_some P Seen None g m some = absurd cc
viewed_some P Seen (Some a) g m some = g a m

pub is_viewed : {A P : Type 0} (Seen : A → Type 0) (seen : Option A) → MatchOption seen (P → ⊥) Seen → P → IsSome seen
is_viewed Seen None m p = absurd (m p)
is_viewed Seen (Some a) m p = refl

-- ---- messages
pub whole_message : (profile : Profile) (octets : List ℕ) → refusal_of profile octets ≡ None → IsWholeSlice (judgement profile) octets
whole_message profile octets = whole_slice (judgement profile) octets (λ some. all_is_decided (messages profile) (length octets) octets some refl)

pub message_in : (profile : Profile) (octets : List ℕ) → AreOctets octets → refusal_of profile octets ≡ None → AreMessage profile (length octets) octets
message_in profile octets a e = let w = whole_message profile octets e in whole_is_message profile (length octets) octets w.short a (omega arith) w.whole

some_from_whole : (profile : Profile) (octets : List ℕ) → judgement profile (length octets) octets ≡ verdict.Whole → 0 < length octets
some_from_whole profile [] e = absurd cc
some_from_whole profile (octet ∷ octets) e = omega arith

pub whole_not_refused : (profile : Profile) (octets : List ℕ) → length octets < 2 ^ 31 → judgement profile (length octets) octets ≡ verdict.Whole → refusal_of profile octets ≡ None
whole_not_refused profile octets short whole = none_refused (judgement profile) octets whole (some_from_whole profile octets whole) short

pub message_not_refused : {octets : List ℕ} (profile : Profile) (m : Message) → AreOf profile octets m → refusal_of profile octets ≡ None
message_not_refused {octets = octets} profile m a =
    whole_not_refused profile octets (omega (arith, ap length a.form, a.in_profile.short)) (subst (λ l. judgement profile (length l) l ≡ verdict.Whole) a.form (message_is_whole profile m a.in_profile))

pub view_not_refused : (octets : List ℕ) (seen : MessageView) → IsMessageView octets seen → refusal_of profiles.Lenient octets ≡ None
view_not_refused octets seen v = whole_not_refused profiles.Lenient octets (omega (arith, ap length v.form, v.in_profile.short)) v.whole

-- what some profile does not refuse, the lenient one does not
pub lenient_message : (profile : Profile) (octets : List ℕ) → AreOctets octets → refusal_of profile octets ≡ None → refusal_of profiles.Lenient octets ≡ None
lenient_message profile octets a e = let w = whole_message profile octets e in whole_not_refused profiles.Lenient octets w.short (lenient_whole profile (length octets) octets w.short a (omega arith) w.whole)

pub no_message_refused : (octets : List ℕ) → IsNoMessage octets → refusal_of profiles.Lenient octets ≢ None
no_message_refused octets none e = let w = whole_message profiles.Lenient octets e in none w.short w.whole

-- ---- values of a term
pub whole_value : (term : Term) (octets : List ℕ) → AreOctets octets → refusal_by (term_judgement term) octets ≡ None → IsDer term octets × (length octets < 2 ^ 31)
whole_value term octets a e =
    let w = whole_slice (term_judgement term) octets (value_is_decided term octets) e in
    (whole_is_value term octets a w.whole, w.short)

pub der_not_refused : (term : Term) (octets : List ℕ) → is_unambiguous term ≡ true → IsDer term octets → length octets < 2 ^ 31 → refusal_by (term_judgement term) octets ≡ None
der_not_refused term octets unambiguous f short =
    let whole : term_judgement term (length octets) octets ≡ verdict.Whole = subst (λ l. term_judgement term (length l) l ≡ verdict.Whole) (sym f.form) (value_is_whole term f.value unambiguous f.fits (omega (arith, ap length f.form, short))) in
    none_refused (term_judgement term) octets whole (omega (arith, ap length f.form, der_begins term f.value)) short

-- an item that some profile does not refuse, the lenient one does not
pub lenient_item : (profile : Profile) (term : Term) (octets : List ℕ) → is_unambiguous term ≡ true → AreOctets octets → refusal_by (term_judgement (profile_term profile false term)) octets ≡ None → refusal_by (term_judgement term) octets ≡ None
lenient_item profile term octets unambiguous a e = let w = whole_value (profile_term profile false term) octets a e in der_not_refused term octets unambiguous (lenient_der profile false term w.0) w.1

pub no_item_refused : (term : Term) (octets : List ℕ) → IsNotWhole term octets → refusal_by (term_judgement term) octets ≢ None
no_item_refused term octets none e = none (whole_slice (term_judgement term) octets (value_is_decided term octets) e).whole

-- of a type whose values are those of a term that fit
module _ {A : Type 0} (term : Term) (unambiguous : is_unambiguous term ≡ true) (value_of : A → Value term) (of_value : Value term → A) (back : (a : A) → of_value (value_of a) ≡ a) (onto : (value : Value term) → Fits term value → value_of (of_value value) ≡ value) where
  pub are_of_value : {octets : List ℕ} (a : A) → IsDer term octets → length octets < 2 ^ 31 → der term (value_of a) ≡ octets → AreOfValue term value_of octets a
  are_of_value {octets = octets} a f short e =
      let same : f.value ≡ value_of a = (same_from_der term unambiguous f.value (value_of a) [] [] (ap (λ l. l ++ []) (sym f.form ∙ sym e))).0 in
      record { fits = subst (Fits term) same f.fits; short = short; form = e }

  pub value_not_refused : {octets : List ℕ} (a : A) → AreOfValue term value_of octets a → refusal_by (term_judgement term) octets ≡ None
  value_not_refused {octets = octets} a f = der_not_refused term octets unambiguous (record { value = value_of a; fits = f.fits; form = sym f.form }) f.short
