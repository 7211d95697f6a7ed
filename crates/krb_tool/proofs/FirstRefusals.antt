-- The frames of a stream up to the first that is refused, by all of its frames.
use Rattle.std.proofs.Common.{◌≡◌, ℕ, ◌⊎◌, inl, inr, List, [], ◌∷◌, ◌++◌, map, refl, sym, ◌∙◌, ap, ap₂, subst, arith, append-nil}
use Rattle.std.specs.List.{AllByRecursion}
use Rattle.krb_der.specs.declared.profile.Profile.TheVariants.{Lenient}
use Rattle.krb_der.specs.declared.why.Why.TheVariants.{Truncated}
use Rattle.krb_msg.specs.Stream.{Frames, End, Boundary, Within, Refused, frames}
use Rattle.krb_msg.specs.Term.{Term}
use Rattle.krb_frame.specs.Decoding.{Decoding, status_at, status_of, found, finish_at}
use Rattle.krb_frame.specs.Decoded.{HasDecoded}
use Rattle.krb_frame.specs.Deliveries.{IsMessage, contents_in}
use Rattle.krb_frame.specs.Feeds.{Feeds}
use Rattle.krb_frame.specs.GoingOn.{Entry, Contents, Fault, last_entry, after_contents, entries_after, entries}
use Rattle.krb_frame.specs.declared.decoder.Status.TheVariants as status
use Rattle.krb_frame.proofs.GoingOn.{entries-step}
use Rattle.krb_frame.proofs.Refusals.{refusals_are_inside, feed_is_not_truncated}
use Rattle.krb_tool.specs.Listing.{IsNotRefused}
use Rattle.krb_tool.specs.Paths.{last_octets}
use Rattle.krb_tool.specs.inner.Listers.{last_frames}

-- ---- no frame is refused as cut
abbrev pub IsTold : End → Type 0
IsTold end = (place : ℕ) → end ≡ Refused place Truncated → ⊥

pub is_told : (messages : List Term) (limit : ℕ) (stream : List ℕ) → IsTold (frames messages limit stream).end
unfolding found
is_told messages limit stream place e = feed_is_not_truncated messages d d [] (record { used = 0; status = status_of messages d }) place fed refused
  where
    d : Decoding
    d = record { profile = Lenient; limit = limit; octets = (refusals_are_inside.of_stream messages limit stream place Truncated e).frame; looks = 0; capacity = 0 }

    refused : status_of messages d ≡ status.Refused (record { place = place; why = Truncated })
    refused = ap (λ (f : Frames). status_at f.contents f.end) (refusals_are_inside.of_stream messages limit stream place Truncated e).alone

    no_memory : status.Refused (record { place = place; why = Truncated }) ≡ status.Memory → ⊥
    no_memory m = cc

    fed : Feeds messages d [] d (record { used = 0; status = status_of messages d })
    fed = record {
      within = omega arith;
      same_profile = refl;
      same_limit = refl;
      octets = sym (append-nil d.octets);
      looks = omega arith;
      answer = inl refl;
      all = λ m. refl;
      again = λ m. (refl, refl);
      memory = λ m. absurd (no_memory (sym refused ∙ m));
      enough = λ a m. no_memory (sym refused ∙ m);
      ample = λ a. a;
      decoded = λ stream cleared h. subst (λ s. HasDecoded messages d s cleared) (sym (append-nil stream)) h;
    }

-- ---- whole frames, and what comes after them
-- frames that are messages are those with their contents
pub are_contents : (xs : List Entry) → AllByRecursion IsMessage xs → map Contents (contents_in xs) ≡ xs
are_contents [] m = refl
are_contents (Contents contents ∷ xs) m = ap (λ l. Contents contents ∷ l) (are_contents xs m.1)
are_contents (Fault place reason prefix ∷ xs) m = absurd m.0

abbrev BeginsOtherwise : List Entry → Type 0
BeginsOtherwise [] = Unit {0}
BeginsOtherwise (Contents contents ∷ others) = ⊥
BeginsOtherwise (Fault place reason prefix ∷ others) = Unit {0}

whole-begin : (a b : List (List ℕ)) (x y : List Entry) → BeginsOtherwise x → map Contents a ++ x ≡ map Contents b ++ y → (rest : List (List ℕ)) × (a ≡ b ++ rest)
whole-begin a [] x y o e = (a, refl)
whole-begin [] (second ∷ b) x y o e = absurd (subst BeginsOtherwise e o)
whole-begin (first ∷ a) (second ∷ b) x y o e =
    let r = whole-begin a b x y o cc in
    let same : first ≡ second = cc in
    (r.0, ap₂ (λ h t. h ∷ t) same r.1)

whole-same : (a b : List (List ℕ)) (x y : List Entry) → BeginsOtherwise x → BeginsOtherwise y → map Contents a ++ x ≡ map Contents b ++ y → (a ≡ b) × (x ≡ y)
whole-same [] [] x y o p e = (refl, e)
whole-same [] (second ∷ b) x y o p e = absurd (subst BeginsOtherwise e o)
whole-same (first ∷ a) [] x y o p e = absurd (subst BeginsOtherwise (sym e) p)
whole-same (first ∷ a) (second ∷ b) x y o p e =
    let r = whole-same a b x y o p cc in
    let same : first ≡ second = cc in
    (ap₂ (λ h t. h ∷ t) same r.0, r.1)

after_end : (end : End) (f : List ℕ → List Entry) (octets : List ℕ) → BeginsOtherwise (last_entry end octets ++ entries_after end f octets)
after_end Boundary f octets = tt
after_end (Within present) f octets = tt
after_end (Refused place reason) f octets = tt

after_last : (end : End) (octets : List ℕ) (others : List Entry) → (IsNotRefused end → others ≡ []) → BeginsOtherwise (last_frames (finish_at end) octets ++ others)
after_last Boundary octets others n = subst BeginsOtherwise (sym (n tt)) tt
after_last (Within present) octets others n = tt
after_last (Refused place reason) octets others n = tt

-- of a stream that ends, and of a lister that lists its end
abbrev pub SameEnd : End → End → (left octets : List ℕ) → Type 0
SameEnd end other left octets = (end ≡ other) × ((other ≡ Boundary) ⊎ (last_octets end left ≡ octets))

same_end : (end other : End) (f : List ℕ → List Entry) (left octets : List ℕ) (others : List Entry) → last_entry end left ++ entries_after end f left ≡ last_frames (finish_at other) octets ++ others → (IsNotRefused other → others ≡ []) → IsTold end → IsTold other → SameEnd end other left octets
same_end Boundary Boundary f left octets others e n t u = (refl, inl refl)
same_end Boundary (Within present) f left octets others e n t u = absurd cc
same_end Boundary (Refused place reason) f left octets others e n t u = absurd cc
same_end (Within present) Boundary f left octets others e n t u = absurd (let z = e ∙ n tt in cc)
same_end (Within present) (Within count) f left octets others e n t u =
    let same : present ≡ count = cc in
    (ap Within same, inr cc)
same_end (Within present) (Refused place reason) f left octets others e n t u =
    let cut : reason ≡ Truncated = cc in
    absurd (u place (ap (Refused place) cut))
same_end (Refused place reason) Boundary f left octets others e n t u = absurd (let z = e ∙ n tt in cc)
same_end (Refused place reason) (Within present) f left octets others e n t u =
    let cut : reason ≡ Truncated = cc in
    absurd (t place (ap (Refused place) cut))
same_end (Refused place reason) (Refused count other) f left octets others e n t u =
    let first : place ≡ count = cc in
    let second : reason ≡ other = cc in
    (ap₂ Refused first second, inr cc)

-- ---- a stream
module _ (messages : List Term) (limit : ℕ) (stream : List ℕ) where
  abbrev all : Frames
  all = frames messages limit stream

  abbrev left : List ℕ
  left = after_contents (frames messages limit stream) stream

  -- the contents of its first frames, if they are messages
  pub frames-begin : (first others : List Entry) → entries messages limit stream ≡ first ++ others → AllByRecursion IsMessage first → (rest : List (List ℕ)) × (all.contents ≡ contents_in first ++ rest)
  frames-begin first others e m =
      whole-begin all.contents (contents_in first) (last_entry all.end left ++ entries_after all.end (entries messages limit) left) others (after_end all.end (entries messages limit) left)
      (sym (entries-step messages limit stream) ∙ e ∙ ap (λ l. l ++ others) (sym (are_contents first m)))

  -- all of them, up to the first that is refused
  pub frames-first : (first : List Entry) (end : End) (octets : List ℕ) (others : List Entry) → entries messages limit stream ≡ first ++ (last_frames (finish_at end) octets ++ others) → AllByRecursion IsMessage first → (IsNotRefused end → others ≡ []) → IsTold end → (all.contents ≡ contents_in first) × SameEnd all.end end left octets
  frames-first first end octets others e m n u =
      let s = whole-same all.contents (contents_in first) (last_entry all.end left ++ entries_after all.end (entries messages limit) left) (last_frames (finish_at end) octets ++ others) (after_end all.end (entries messages limit) left) (after_last end octets others n)
      (sym (entries-step messages limit stream) ∙ e ∙ ap (λ l. l ++ (last_frames (finish_at end) octets ++ others)) (sym (are_contents first m))) in
      (s.0, same_end all.end end (entries messages limit) left octets others s.1 n (is_told messages limit stream) u)
