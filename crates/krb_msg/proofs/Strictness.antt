-- A message keeps the strict rules exactly if it is one of the strict profile.
use Rattle.std.proofs.Common.{◌≡◌, ℕ, zero, suc, ◌≤◌, ◌↔◌, Bool, true, false, ◌||◌, refl, arith}
use Rattle.std.proofs.lemmas.Bool.{not-true, or_parts}
use Rattle.krb_der.specs.declared.profile.Profile.TheVariants as profile
use Rattle.krb_msg.specs.Notes.{Note, HighOctet, FewFlags, Negative, EmptyList, are_none, is_strict, message_has, notes_by, notes_of, notes_have}
use Rattle.krb_msg.specs.Views.{kind_of, kind_term, message_value, IsInProfile}
use Rattle.krb_msg.specs.declared.message.Message.{Message}
use Rattle.krb_msg.proofs.Profiles.{fits_narrowed, narrowed_fits}

-- ---- each note
none_holds : (test : Note → Bool) → are_none (notes_by test) ≡ true → (note : Note) → test note ≡ false
none_holds test e =
    let a : (((test HighOctet || test FewFlags) || test Negative) ≡ false) × (test EmptyList ≡ false) = or_parts _ _ (not-true _ e) in
    let b : ((test HighOctet || test FewFlags) ≡ false) × (test Negative ≡ false) = or_parts _ _ a.0 in
    let c : (test HighOctet ≡ false) × (test FewFlags ≡ false) = or_parts _ _ b.0 in
    by c.0 c.1 b.1 a.1
  where
    by : test HighOctet ≡ false → test FewFlags ≡ false → test Negative ≡ false → test EmptyList ≡ false → (note : Note) → test note ≡ false
    by h f n e HighOctet = h
    by h f n e FewFlags = f
    by h f n e Negative = n
    by h f n e EmptyList = e

none_hold : (test : Note → Bool) → ((note : Note) → test note ≡ false) → are_none (notes_by test) ≡ true
none_hold test q = rw (q HighOctet, q FewFlags, q Negative, q EmptyList) refl

-- ---- by their numbers
numbered : (m : Message) → ((note : Note) → message_has note m ≡ false) → (number : ℕ) → 1 ≤ number → number ≤ 4 → notes_have (notes_of m) number ≡ false
numbered m q zero a b = absurd (omega (arith, a))
numbered m q (suc zero) a b = q HighOctet
numbered m q (suc (suc zero)) a b = q FewFlags
numbered m q (suc (suc (suc zero))) a b = q Negative
numbered m q (suc (suc (suc (suc zero)))) a b = q EmptyList
numbered m q (suc (suc (suc (suc (suc number))))) a b = absurd (omega (arith, b))

named : (m : Message) → ((number : ℕ) → 1 ≤ number → number ≤ 4 → notes_have (notes_of m) number ≡ false) → (note : Note) → message_has note m ≡ false
named m q HighOctet = q 1 (omega arith) (omega arith)
named m q FewFlags = q 2 (omega arith) (omega arith)
named m q Negative = q 3 (omega arith) (omega arith)
named m q EmptyList = q 4 (omega arith) (omega arith)

-- ---- messages
pub strict_has_no_notes : (m : Message) → (is_strict m ≡ true) ↔ ((number : ℕ) → 1 ≤ number → number ≤ 4 → notes_have (notes_of m) number ≡ false)
strict_has_no_notes m = (λ k. numbered m (none_holds (λ note. message_has note m) k), λ q. none_hold (λ note. message_has note m) (named m q))

pub strict_is_narrower : (m : Message) → IsInProfile profile.Strict m ↔ (IsInProfile profile.Lenient m × (is_strict m ≡ true))
strict_is_narrower m = (narrower, wider)
  where
    narrower : IsInProfile profile.Strict m → IsInProfile profile.Lenient m × (is_strict m ≡ true)
    narrower p =
        let f = fits_narrowed false (kind_term (kind_of m)) (message_value m) p.fits in
        (record { fits = f.0; short = p.short }, none_hold (λ note. message_has note m) f.1.0)

    wider : IsInProfile profile.Lenient m × (is_strict m ≡ true) → IsInProfile profile.Strict m
    wider p = record { fits = narrowed_fits false (kind_term (kind_of m)) (message_value m) p.0.fits (none_holds (λ note. message_has note m) p.1, λ e. absurd cc); short = p.0.short }
