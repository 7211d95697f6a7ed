-- Frames whose lengths are known.
use Rattle.std.proofs.Common.{◌≡◌, ℕ, ◌+◌, ◌^◌, ◌<◌, ◌≤◌, Bool, true, false, List, [], ◌∷◌, ◌++◌, length, take, drop, refl, sym, ◌∙◌, ap, subst, arith, append-nil, append_assoc}
use Rattle.std.specs.Prelude.{nat_lt, ◌==◌, if◌then◌else◌}
use Rattle.std.specs.List.{AllByRecursion}
use Rattle.std.proofs.lemmas.Bool.{lt-leb}
use Rattle.krb_der.specs.Octets.{number}
use Rattle.krb_der.specs.declared.why.Why.TheVariants.{HighBit, TooLong, Empty}
use Rattle.krb_der.specs.declared.verdict.Refusal.{Refusal}
use Rattle.krb_msg.specs.Grammar.{messages}
use Rattle.krb_msg.specs.Judgement.{Outcome, Open, Bad, Done, message_outcome}
use Rattle.krb_msg.specs.Stream.{Frames, Within, Refused, ends, frame_and, frame_of, frames}
use Rattle.krb_msg.specs.Term.{Term}
use Rattle.krb_msg.proofs.FramePrefixes.{frames-length}
use Rattle.krb_frame.specs.Decoding.{Decoding, found, status_of}
use Rattle.krb_frame.specs.Deliveries.{IsFollowed}
use Rattle.krb_frame.specs.GoingOn.{Entry, Contents, Fault}
use Rattle.krb_frame.specs.declared.decoder.Status.TheVariants as status
use Rattle.krb_frame.proofs.Announced.{refused-four}
use Rattle.krb_frame.proofs.Ends.{refused_end}
use Rattle.krb_tool.specs.GoingOn.{EndsUnknown}
use Rattle.krb_tool.specs.inner.Listers.{IsDecoded}

same_last : {A : Type 0} (xs ys : List A) (x y : A) → xs ++ x ∷ [] ≡ ys ++ y ∷ [] → x ≡ y
same_last [] [] x y e = cc
same_last [] (b ∷ []) x y e = absurd cc
same_last [] (b ∷ c ∷ ys) x y e = absurd cc
same_last (a ∷ []) [] x y e = absurd cc
same_last (a ∷ c ∷ xs) [] x y e = absurd cc
same_last (a ∷ xs) (b ∷ ys) x y e = same_last xs ys x y cc

pub none_unknown : EndsUnknown [] → ⊥
none_unknown u = no u.before u.length_octets u.parts
  where
    no : (before : List Entry) (prefix : List ℕ) → [] ≡ before ++ Fault 3 HighBit prefix ∷ [] → ⊥
    no [] prefix e = cc
    no (first ∷ others) prefix e = cc

-- a list whose last frame has a known length
pub known_last : (before : List Entry) (x : Entry) → ((prefix : List ℕ) → x ≡ Fault 3 HighBit prefix → ⊥) → EndsUnknown (before ++ x ∷ []) → ⊥
known_last before x differs u = differs u.length_octets (same_last before u.before x (Fault 3 HighBit u.length_octets) u.parts)

whole_known : (contents prefix : List ℕ) → Contents contents ≡ Fault 3 HighBit prefix → ⊥
whole_known contents prefix e = cc

-- contents are refused after the octets of the length
contents_known : (outcome : Outcome) (present : List ℕ) (rest : Frames) → frame_and outcome present rest ≡ ends (Refused 3 HighBit) → ⊥
contents_known Open present rest e = no (ap (λ f. f.end) e)
  where
    no : Within (4 + length present) ≡ Refused 3 HighBit → ⊥
    no e = cc
contents_known (Bad offset reason) present rest e = no (ap (λ f. f.end) e)
  where
    no : Refused (4 + offset) reason ≡ Refused 3 HighBit → ⊥
    no e = let n : 4 + offset ≡ 3 = cc in omega (arith, n)
contents_known (Done count) present rest e = no (ap (λ f. f.contents) e)
  where
    no : present ∷ rest.contents ≡ [] → ⊥
    no e = cc

length_known : (long none : Bool) (f : Frames) → (f ≡ ends (Refused 3 HighBit) → ⊥) → (if long then ends (Refused 3 TooLong) else if none then ends (Refused 3 Empty) else f) ≡ ends (Refused 3 HighBit) → ⊥
length_known true none f other e = differs (ap (λ f. f.end) e)
  where
    differs : Refused 3 TooLong ≡ Refused 3 HighBit → ⊥
    differs e = cc
length_known false true f other e = differs (ap (λ f. f.end) e)
  where
    differs : Refused 3 Empty ≡ Refused 3 HighBit → ⊥
    differs e = cc
length_known false false f other e = other e

not_high : (grammar : List Term) (limit : ℕ) (octets : List ℕ) → 4 ≤ length octets → number (take 4 octets) < 2 ^ 31 → frames grammar limit octets ≡ ends (Refused 3 HighBit) → ⊥
not_high grammar limit octets four short e =
    let n : ℕ = number (take 4 octets) in
    length_known (nat_lt limit n) (n == 0) (frame_of grammar n (drop 4 octets) (frames grammar limit)) (contents_known (message_outcome grammar n (take n (drop 4 octets))) (take n (drop 4 octets)) (frames grammar limit (drop n (drop 4 octets))))
    (sym (rw (lt-leb (2 ^ 31) n short) refl) ∙ (sym (frames-length grammar limit octets four) ∙ e))

-- a refused frame whose length has no high bit
refused_known : (grammar : List Term) (d : Decoding) (refusal : Refusal) → status_of grammar d ≡ status.Refused refusal → number (take 4 d.octets) < 2 ^ 31 → (prefix : List ℕ) → Fault refusal.place refusal.why d.octets ≡ Fault 3 HighBit prefix → ⊥
unfolding found
refused_known grammar d refusal st short prefix e = not_high grammar d.limit d.octets (refused-four grammar d refusal st) short high
  where
    r : (place : ℕ) × (refusal.place ≡ 3) × (refusal.why ≡ HighBit)
    r = (3, cc, cc)

    f : frames grammar d.limit d.octets ≡ ends (Refused refusal.place refusal.why)
    f =
        let r = refused_end (frames grammar d.limit d.octets).contents (frames grammar d.limit d.octets).end refusal st in
        λ i. record { contents = r.0 i; end = r.1 i }

    high : frames grammar d.limit d.octets ≡ ends (Refused 3 HighBit)
    high = f ∙ (λ i. ends (Refused (r.1 i) (r.2 i)))

-- ---- frames that are decoded, and may be followed by others
one_known : (x : Entry) → IsDecoded x → IsFollowed x → (prefix : List ℕ) → x ≡ Fault 3 HighBit prefix → ⊥
one_known (Contents contents) d f prefix e = whole_known contents prefix e
one_known (Fault place reason octets) (d, refused, same) f prefix e =
    refused_known (messages d.profile) d (record { place = place; why = reason }) refused (subst (λ o. number (take 4 o) < 2 ^ 31) (sym same) f.1) prefix
    (ap (Fault place reason) same ∙ e)

-- the last of them has a known length
pub known_more : (before xs : List Entry) → (EndsUnknown before → ⊥) → AllByRecursion IsDecoded xs → AllByRecursion IsFollowed xs → EndsUnknown (before ++ xs) → ⊥
known_more before [] known d f u = known (subst EndsUnknown (append-nil before) u)
known_more before (x ∷ xs) known d f u =
    known_more (before ++ x ∷ []) xs (known_last before x (one_known x d.0 f.0)) d.1 f.1 (subst EndsUnknown (sym (append_assoc before (x ∷ []) xs)) u)
