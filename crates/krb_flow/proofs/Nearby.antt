-- What is told of a segment that is neither too far ahead nor a keep-alive, and the octets that are compared.
use Rattle.std.proofs.Common.{◌≡◌, ℕ, ◌+◌, ◌-◌, ◌<◌, ◌≤◌, ◌⊎◌, inl, inr, Bool, false, Option, Some, List, [], ◌∷◌, ◌++◌, length, take, drop, refl, sym, ap, ap₂, ◌∙◌, arith, append-nil, length-drop}
use Rattle.std.specs.Prelude.{min}
use Rattle.std.proofs.lemmas.Bool.{le-ltb, lt-ltb}
use Rattle.std.proofs.lemmas.List.{drop_min, length-take, nil_from_length, take-append-drop}
use Rattle.krb_der.specs.Octets.{when}
use Rattle.krb_packet.specs.declared.contents.Segment.{Segment}
use Rattle.krb_source.specs.declared.unread_why.UnreadWhy.TheVariants as why
use Rattle.krb_flow.specs.Copies.{differing, differs_taken, differs_waiting, old_of, summary}
use Rattle.krb_flow.specs.Directions.{distance_to}
use Rattle.krb_flow.specs.Progress.{Progress}
use Rattle.krb_flow.specs.Serial.{ahead, behind}
use Rattle.krb_flow.specs.Unread.{before_first, differs_after, differs_in, if_any, is_keep_alive, nothing, octets_in, of_before, of_differing, place_in, untaken_near}
use Rattle.krb_flow.specs.declared.copies.Compared.{Compared}
use Rattle.krb_flow.specs.declared.had.Had.{Had}
use Rattle.krb_flow.specs.declared.serial.Distance.{Distance}
use Rattle.krb_flow.specs.declared.serial.Distance.TheVariants.{Ahead, Behind}
use Rattle.krb_flow.specs.declared.unread.Unread.{Unread}
use Rattle.krb_flow.specs.declared.unread.Untaken.{Untaken}
use Rattle.krb_flow.proofs.Differences.{differing-append, differing_same}

same_place : (expected before : ℕ) (distance : Distance) → before ≡ behind distance - expected → expected + ahead distance - (behind distance - before) ≡ expected + ahead distance - behind distance
same_place expected before (Ahead count) e = omega arith
same_place expected before (Behind count) e = omega arith

pub near_is : (kept : List ℕ) (progress : Progress) (segment : Segment) (distance : Distance) (before captured place : ℕ) (octets : List ℕ) (compared : Compared) (apart old differs : Option Unread)
    → distance ≡ distance_to progress segment
    → is_keep_alive distance segment.payload ≡ false
    → before ≡ behind distance - progress.expected
    → captured ≡ min before (length segment.payload.octets)
    → place ≡ progress.expected + ahead distance - (behind distance - before)
    → octets ≡ drop captured segment.payload.octets
    → apart ≡ if_any (Some before) captured why.Before
    → old ≡ if_any (Some place) compared.old why.Old
    → compared.old ≡ old_of kept progress.expected place octets
    → ((places : List ℕ) → compared.differing ≡ summary places → differs ≡ of_differing places)
    → compared.differing ≡ summary (differing (differs_in kept progress) place octets)
    → record { apart = apart; old = old; differs = differs } ≡ untaken_near kept progress segment
near_is kept progress segment distance before captured place octets compared apart old differs d no_alive b c p o a e w t f =
    ap (λ (x : Option Unread). record { apart = x; old = old; differs = differs }) apart_is
    ∙ ap (λ (x : Option Unread). record { apart = of_before progress segment; old = x; differs = differs }) old_is
    ∙ ap (λ (x : Option Unread). record { apart = of_before progress segment; old = if_any (Some (place_in progress segment)) (old_of kept progress.expected (place_in progress segment) (octets_in progress segment)) why.Old; differs = x }) differs_is
    ∙ sym (ap (λ (x : Bool). when x (λ _. nothing) (λ _. record { apart = of_before progress segment; old = if_any (Some (place_in progress segment)) (old_of kept progress.expected (place_in progress segment) (octets_in progress segment)) why.Old; differs = of_differing (differing (differs_in kept progress) (place_in progress segment) (octets_in progress segment)) })) alive)
  where
    alive : is_keep_alive (distance_to progress segment) segment.payload ≡ false
    alive = ap (λ (x : Distance). is_keep_alive x segment.payload) (sym d) ∙ no_alive

    before_is : before ≡ before_first progress segment
    before_is = b ∙ ap (λ (x : Distance). behind x - progress.expected) d

    place_is : place ≡ place_in progress segment
    place_is = p ∙ same_place progress.expected before distance b ∙ ap (λ (x : Distance). progress.expected + ahead x - behind x) d

    octets_is : octets ≡ octets_in progress segment
    octets_is = o ∙ ap (λ (n : ℕ). drop n segment.payload.octets) c ∙ drop_min before segment.payload.octets ∙ ap (λ (n : ℕ). drop n segment.payload.octets) before_is

    apart_is : apart ≡ of_before progress segment
    apart_is = a ∙ ap₂ (λ (n m : ℕ). if_any (Some n) m why.Before) before_is (c ∙ ap (λ (n : ℕ). min n (length segment.payload.octets)) before_is)

    old_is : old ≡ if_any (Some (place_in progress segment)) (old_of kept progress.expected (place_in progress segment) (octets_in progress segment)) why.Old
    old_is = e ∙ ap (λ (n : ℕ). if_any (Some place) n why.Old) w ∙ ap₂ (λ (n : ℕ) (l : List ℕ). if_any (Some n) (old_of kept progress.expected n l) why.Old) place_is octets_is

    differs_is : differs ≡ of_differing (differing (differs_in kept progress) (place_in progress segment) (octets_in progress segment))
    differs_is = t (differing (differs_in kept progress) place octets) f ∙ ap₂ (λ (n : ℕ) (l : List ℕ). of_differing (differing (differs_in kept progress) n l)) place_is octets_is

-- ---- octets in two parts: copies of octets that were taken, and others

-- whose places are those of octets that wait
pub compared_in : (kept : List ℕ) (progress : Progress) (place behind m : ℕ) (octets : List ℕ) → m ≡ min (length octets) behind → behind ≤ progress.expected → (place + behind ≡ progress.expected) ⊎ ((behind ≡ 0) × (progress.expected ≤ place)) → differing (differs_in kept progress) place octets ≡ differing (differs_taken kept progress.expected) place (take m octets) ++ differing (differs_waiting progress.waiting) (place + m) (drop m octets)
compared_in kept progress place behind m octets is within at =
    ap (differing (differs_in kept progress) place) (sym (take-append-drop m octets))
    ∙ differing-append (differs_in kept progress) place (take m octets) (drop m octets)
    ∙ ap (λ (n : ℕ). differing (differs_in kept progress) place (take m octets) ++ differing (differs_in kept progress) (place + n) (drop m octets)) front
    ∙ ap₂ (λ (x y : List ℕ). x ++ y) (differing_same (differs_in kept progress) (differs_taken kept progress.expected) place (take m octets) before) (differing_same (differs_in kept progress) (differs_waiting progress.waiting) (place + m) (drop m octets) after)
  where
    front : length (take m octets) ≡ m
    front = omega (arith, length-take m octets)

    back : length (drop m octets) ≡ length octets - m
    back = length-drop m octets

    before : (there octet : ℕ) → place ≤ there → there < place + length (take m octets) → differs_in kept progress there octet ≡ differs_taken kept progress.expected there octet
    before there octet from to = rw (lt-ltb there progress.expected (elim at [ inl exact ↦ omega (arith, front) | inr none ↦ absurd (omega (arith, front, none.0)) ])) refl

    after : (there octet : ℕ) → place + m ≤ there → there < place + m + length (drop m octets) → differs_in kept progress there octet ≡ differs_waiting progress.waiting there octet
    after there octet from to = rw (le-ltb there progress.expected (elim at [ inl exact ↦ omega (arith, back) | inr none ↦ omega (arith, none.1) ])) refl

-- or, after the end, the one at the place of the FIN
one_left : (kept : List ℕ) (had : Had) (place : ℕ) (octets : List ℕ) → length octets ≡ 1 → had.expected ≤ place → differing (differs_after kept had) place octets ≡ place ∷ []
one_left kept had place [] one after = absurd (omega arith)
one_left kept had place (octet ∷ []) one after = rw (le-ltb place had.expected after) refl
one_left kept had place (octet ∷ other ∷ octets) one after = absurd (omega arith)

module _ (kept : List ℕ) (had : Had) (behind m : ℕ) (octets : List ℕ) (is : m ≡ min (length octets) behind) (within : behind ≤ had.expected) where
  front_part : differing (differs_after kept had) (had.expected - behind) (take m octets) ≡ differing (differs_taken kept had.expected) (had.expected - behind) (take m octets)
  front_part = differing_same (differs_after kept had) (differs_taken kept had.expected) (had.expected - behind) (take m octets) before
    where
      before : (there octet : ℕ) → had.expected - behind ≤ there → there < had.expected - behind + length (take m octets) → differs_after kept had there octet ≡ differs_taken kept had.expected there octet
      before there octet from to = rw (lt-ltb there had.expected (omega (arith, length-take m octets))) refl

  parts : differing (differs_after kept had) (had.expected - behind) octets ≡ differing (differs_taken kept had.expected) (had.expected - behind) (take m octets) ++ differing (differs_after kept had) (had.expected - behind + length (take m octets)) (drop m octets)
  parts =
      ap (differing (differs_after kept had) (had.expected - behind)) (sym (take-append-drop m octets))
      ∙ differing-append (differs_after kept had) (had.expected - behind) (take m octets) (drop m octets)
      ∙ ap (λ (l : List ℕ). l ++ differing (differs_after kept had) (had.expected - behind + length (take m octets)) (drop m octets)) front_part

  pub compared_after : length octets ≤ m → differing (differs_after kept had) (had.expected - behind) octets ≡ differing (differs_taken kept had.expected) (had.expected - behind) (take m octets)
  compared_after all =
      parts
      ∙ ap (λ (l : List ℕ). differing (differs_taken kept had.expected) (had.expected - behind) (take m octets) ++ differing (differs_after kept had) (had.expected - behind + length (take m octets)) l) (nil_from_length (drop m octets) (omega (arith, length-drop m octets)))
      ∙ append-nil (differing (differs_taken kept had.expected) (had.expected - behind) (take m octets))

  pub compared_at_fin : length octets ≤ behind + 1 → m < length octets → differing (differs_after kept had) (had.expected - behind) octets ≡ differing (differs_taken kept had.expected) (had.expected - behind) (take m octets) ++ had.expected ∷ []
  compared_at_fin near some =
      let here : had.expected - behind + length (take m octets) ≡ had.expected = omega (arith, length-take m octets) in
      parts
      ∙ ap (λ (l : List ℕ). differing (differs_taken kept had.expected) (had.expected - behind) (take m octets) ++ l)
      (one_left kept had (had.expected - behind + length (take m octets)) (drop m octets) (omega (arith, length-drop m octets)) (omega (arith, here))
      ∙ ap (λ (n : ℕ). n ∷ []) here)
