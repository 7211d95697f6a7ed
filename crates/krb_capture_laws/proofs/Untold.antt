-- If nothing is told of the octets of a segment each of them was taken at its place, or waits there; or it is a keep-alive.
use Rattle.std.proofs.Common.{◌≡◌, ℕ, zero, suc, ◌+◌, ◌-◌, ◌%◌, ◌^◌, ◌<◌, ◌≤◌, ◌==◌, ◌⊎◌, inl, inr, Bool, true, false, not, ◌&&◌, ◌||◌, Option, Some, None, List, [], ◌∷◌, ◌++◌, length, drop, get_or, refl, sym, ap, subst, ◌∙◌, arith, length-drop}
use Rattle.std.specs.Prelude.{slice_get, min, nat_lt, nat_le, if◌then◌else◌}
use Rattle.std.specs.Int.{from_bool}
use Rattle.std.proofs.lemmas.Bool.{and_parts, cases_lt, eqb-true, leb-true, ltb-false, lt-ltb, le-ltb}
use Rattle.std.proofs.lemmas.Option.{slice_get_within, slice_get-get_or, none-some}
use Rattle.krb_der.specs.Octets.{when}
use Rattle.krb_packet.specs.Payloads.{Captured}
use Rattle.krb_packet.specs.declared.contents.Segment.{Segment}
use Rattle.krb_source.specs.declared.unread_why.UnreadWhy.{UnreadWhy}
use Rattle.krb_source.specs.declared.unread_why.UnreadWhy.TheVariants as why
use Rattle.krb_flow.specs.Copies.{differing, differs_taken, differs_waiting, is_other, old_of}
use Rattle.krb_flow.specs.Directions.{advanced, delivered, distance_to, first_number, is_copy_of, kept, start}
use Rattle.krb_flow.specs.Progress.{Progress}
use Rattle.krb_flow.specs.Serial.{Separates, ahead, behind}
use Rattle.krb_flow.specs.Unread.{before_first, differs_after, differs_in, distance_after, if_any, is_keep_alive, is_one_zero, is_zero, octets_in, of_before, of_differing, place_in, untaken_copy, untaken_near}
use Rattle.krb_flow.specs.Waiting.{Waiting}
use Rattle.krb_flow.specs.declared.had.Had.{Had}
use Rattle.krb_flow.specs.declared.serial.Distance.{Distance}
use Rattle.krb_flow.specs.declared.serial.Distance.TheVariants.{Ahead, Behind}
use Rattle.krb_flow.specs.declared.unread.Unread.{Unread}
use Rattle.krb_flow.specs.declared.unread.Untaken.{Untaken}
use Rattle.krb_capture_laws.proofs.Distances.{separates}
use Rattle.krb_capture_laws.proofs.Held.{Held, at, dropped_at, front_stays, held_on, kept_waits}
use Rattle.krb_capture_laws.proofs.Pieces.{number_of}

-- ---- what is not told

pub record NoneTold (untaken : Untaken) : Type 0 where
  pub apart : untaken.apart ≡ None
  pub old : untaken.old ≡ None
  pub differs : untaken.differs ≡ None

pub none_of : (place : Option ℕ) (octets : ℕ) (reason : UnreadWhy) → if_any place octets reason ≡ None → octets ≡ 0
none_of place octets reason none = by (nat_lt 0 octets) refl none
  where
    by : (b : Bool) → nat_lt 0 octets ≡ b → when {A = Option Unread} b (λ _. Some (record { place = place; octets = octets; why = reason })) (λ _. None) ≡ None → octets ≡ 0
    by true is none = absurd cc
    by false is none = let few : octets ≤ 0 = ltb-false 0 octets is in omega arith

none_differ : (places : List ℕ) → of_differing places ≡ None → places ≡ []
none_differ [] none = refl
none_differ (place ∷ places) none = let few : length (place ∷ places) ≡ 0 = none_of (Some place) (length (place ∷ places)) why.Differs none in absurd (omega arith)

-- none of the octets differs
same_each : (differs : ℕ → ℕ → Bool) (place : ℕ) (octets : List ℕ) → differing differs place octets ≡ [] → (index octet : ℕ) → slice_get octets index ≡ Some octet → differs (place + index) octet ≡ false
same_each differs place [] none index octet is = absurd (none-some octet is)
same_each differs place (first ∷ octets) none index octet is = by (same_each differs (place + 1) octets) (differs place first) refl none index is
  where
    by : (differing differs (place + 1) octets ≡ [] → (index octet : ℕ) → slice_get octets index ≡ Some octet → differs (place + 1 + index) octet ≡ false) → (b : Bool) → differs place first ≡ b → (if b then place ∷ differing differs (place + 1) octets else differing differs (place + 1) octets) ≡ [] → (index : ℕ) → slice_get (first ∷ octets) index ≡ Some octet → differs (place + index) octet ≡ false
    by rest true is none index there = absurd cc
    by rest false is none zero there =
        let here : place ≡ place + 0 = omega arith in
        subst (λ (n : ℕ). differs n octet ≡ false) here (subst (λ (x : ℕ). differs place x ≡ false) (grind arith) is)
    by rest false is none (suc index) there =
        let next : place + 1 + index ≡ place + suc index = omega arith in
        subst (λ (n : ℕ). differs n octet ≡ false) next (rest none index octet there)

-- ---- octets that were taken

same_octet : (octet other : ℕ) → is_other (Some other) octet ≡ false → octet ≡ other
same_octet octet other same = eqb-true octet other (back (octet == other) same)
  where
    back : (b : Bool) → not b ≡ false → b ≡ true
    back true e = refl
    back false e = cc

-- of those that are kept, which are the last ones
pub taken_same : (stream recent : List ℕ) (skipped place octet : ℕ) → recent ≡ drop skipped stream → place < length stream → length stream - length recent ≤ place → differs_taken recent (length stream) place octet ≡ false → slice_get stream place ≡ Some octet
taken_same stream recent skipped place octet is within enough same =
    let size : length recent ≡ length stream - skipped = ap length is ∙ length-drop skipped stream in
    let index : skipped + (length recent - (length stream - place)) ≡ place = omega (arith, size) in
    let few : nat_lt (length recent) (length stream - place) ≡ false = le-ltb (length recent) (length stream - place) (omega (arith, size)) in
    let there : slice_get recent (length recent - (length stream - place)) ≡ Some (get_or stream place 0) =
    ap (λ (l : List ℕ). slice_get l (length recent - (length stream - place))) is
    ∙ dropped_at skipped stream (length recent - (length stream - place))
    ∙ ap (slice_get stream) index
    ∙ slice_get-get_or stream place 0 within in
    let told : is_other (Some (get_or stream place 0)) octet ≡ false =
    ap (λ (o : Option ℕ). is_other o octet) (sym there)
    ∙ ap (λ (b : Bool). is_other (if b then None else slice_get recent (length recent - (length stream - place))) octet) (sym few)
    ∙ same in
    slice_get-get_or stream place 0 within ∙ ap (λ (n : ℕ). Some n) (sym (same_octet octet (get_or stream place 0) told))

-- ---- places and numbers

-- an octet is held at the place that its number says
pub record AtPlace (stream : List ℕ) (waiting : Waiting) (first number octet : ℕ) : Type 0 where
  pub place : ℕ
  pub held : Held stream waiting place octet
  pub number_is : number ≡ (first + place) % 2 ^ 32

pub record IsAlive (first most : ℕ) (segment : Segment) : Type 0 where
  pub one : segment.payload.size ≡ 1
  pub zero : slice_get segment.payload.octets 0 ≡ Some 0
  pub place : ℕ
  pub within : place ≤ most + 1
  pub number_is : (first_number segment + 1) % 2 ^ 32 ≡ (first + place) % 2 ^ 32

abbrev pub AreHeld : List ℕ → Waiting → ℕ → Segment → Type 0
AreHeld stream waiting first segment = (index octet : ℕ) → index < segment.payload.size → slice_get segment.payload.octets index ≡ Some octet → AtPlace stream waiting first ((first_number segment + index) % 2 ^ 32) octet

-- all octets of a segment, or it is a keep-alive
abbrev pub Known : List ℕ → Waiting → ℕ → ℕ → Segment → Type 0
Known stream waiting first most segment = AreHeld stream waiting first segment ⊎ IsAlive first most segment

number_at : (first expected number index : ℕ) (by : Distance) → Separates (number_of first expected) number by → behind by ≤ expected → (number + index) % 2 ^ 32 ≡ (first + (start expected by - behind by + index)) % 2 ^ 32
number_at first expected number index (Ahead count) s within = omega (arith, s.1)
number_at first expected number index (Behind count) s within = omega (arith, s.2)

one_way : (by : Distance) → (ahead by ≡ 0) ⊎ (behind by ≡ 0)
one_way (Ahead count) = inr refl
one_way (Behind count) = inl refl

small_number : (first expected : ℕ) → number_of first expected < 2 ^ 32
small_number first expected = omega arith

small_first : (segment : Segment) → first_number segment < 2 ^ 32
small_first segment = omega arith

-- ---- keep-alives

pub record IsOneZero (payload : Captured) : Type 0 where
  pub one : payload.size ≡ 1
  pub zero : slice_get payload.octets 0 ≡ Some 0

one_zero : (payload : Captured) → is_one_zero payload ≡ true → IsOneZero payload
one_zero payload is =
    let parts = and_parts (payload.size == 1) (is_zero (slice_get payload.octets 0)) is in
    record { one = eqb-true payload.size 1 parts.0; zero = by (slice_get payload.octets 0) refl parts.1 }
  where
    by : (o : Option ℕ) → slice_get payload.octets 0 ≡ o → is_zero o ≡ true → slice_get payload.octets 0 ≡ Some 0
    by None e is = absurd cc
    by (Some octet) e is = e ∙ ap (λ (n : ℕ). Some n) (eqb-true octet 0 is)

alive_at : (first expected number : ℕ) (by : Distance) → Separates (number_of first expected) number by → behind by ≡ 1 → (number + 1) % 2 ^ 32 ≡ (first + expected) % 2 ^ 32
alive_at first expected number (Ahead count) s one = absurd (omega (arith, one))
alive_at first expected number (Behind count) s one = omega (arith, s.2, one)

-- ---- an open direction

module _ (stream recent : List ℕ) (skipped : ℕ) (progress : Progress) (segment : Segment) (is : recent ≡ drop skipped stream) (count : length stream ≡ progress.expected) where
  abbrev by : Distance
  by = distance_to progress segment

  abbrev octets : List ℕ
  octets = segment.payload.octets

  abbrev stream_then : List ℕ
  stream_then = stream ++ delivered progress segment

  abbrev waiting_then : Waiting
  waiting_then = (advanced progress segment).waiting

  separated : Separates (number_of progress.first progress.expected) (first_number segment) by
  separated = separates (number_of progress.first progress.expected) (first_number segment) (small_number progress.first progress.expected) (small_first segment)

  alive : is_keep_alive by segment.payload ≡ true → Known stream_then waiting_then progress.first progress.expected segment
  alive keeps =
      let parts = and_parts (behind by == 1) (is_one_zero segment.payload) keeps in
      let z = one_zero segment.payload parts.1 in
      inr (record {
        one = z.one;
        zero = z.zero;
        place = progress.expected;
        within = omega arith;
        number_is = alive_at progress.first progress.expected (first_number segment) by separated (eqb-true (behind by) 1 parts.0);
      })

  -- nothing is told of it
  module _ (apart : of_before progress segment ≡ None) (old : old_of recent progress.expected (place_in progress segment) (octets_in progress segment) ≡ 0) (differ : differing (differs_in recent progress) (place_in progress segment) (octets_in progress segment) ≡ []) where
    module _ (some : 0 < length octets) where
      none_before : before_first progress segment ≡ 0
      none_before = omega (arith, none_of (Some (before_first progress segment)) (min (before_first progress segment) (length octets)) _ apart)

      none_old : progress.expected - length recent ≤ place_in progress segment
      none_old = omega (arith, old, none_before, length-drop (before_first progress segment) octets)

      same_at : (index octet : ℕ) → slice_get octets index ≡ Some octet → differs_in recent progress (place_in progress segment + index) octet ≡ false
      same_at index octet there =
          same_each (differs_in recent progress) (place_in progress segment) (octets_in progress segment) differ index octet
          (dropped_at (before_first progress segment) octets index ∙ ap (λ (n : ℕ). slice_get octets (n + index)) none_before ∙ ap (slice_get octets) (zero_plus index) ∙ there)
        where
          zero_plus : (n : ℕ) → 0 + n ≡ n
          zero_plus n = omega arith

      waits_same : (index octet : ℕ) → slice_get (drop (behind by) octets) index ≡ Some octet → is_other (at (start progress.expected by + index) progress.waiting) octet ≡ false
      waits_same index octet there =
          let place : place_in progress segment + (behind by + index) ≡ start progress.expected by + index = omega (arith, none_before) in
          let after : nat_lt (start progress.expected by + index) progress.expected ≡ false = le-ltb (start progress.expected by + index) progress.expected (omega arith) in
          ap (λ (b : Bool). if b then differs_taken recent progress.expected (start progress.expected by + index) octet else differs_waiting progress.waiting (start progress.expected by + index) octet) (sym after)
          ∙ ap (λ (n : ℕ). differs_in recent progress n octet) (sym place)
          ∙ same_at (behind by + index) octet (sym (dropped_at (behind by) octets index) ∙ there)

      held_taken : (index octet : ℕ) → slice_get octets index ≡ Some octet → place_in progress segment + index < progress.expected → Held stream_then waiting_then (place_in progress segment + index) octet
      held_taken index octet there before =
          let told : differs_taken recent progress.expected (place_in progress segment + index) octet ≡ false =
          ap (λ (b : Bool). if b then differs_taken recent progress.expected (place_in progress segment + index) octet else differs_waiting progress.waiting (place_in progress segment + index) octet) (sym (lt-ltb (place_in progress segment + index) progress.expected before))
          ∙ same_at index octet there in
          inl (front_stays stream (delivered progress segment) (place_in progress segment + index) octet
          (taken_same stream recent skipped (place_in progress segment + index) octet is (omega (arith, count)) (omega (arith, count, none_old)) (ap (λ (n : ℕ). differs_taken recent n (place_in progress segment + index) octet) count ∙ told)))

      held_waiting : (index octet : ℕ) → slice_get octets index ≡ Some octet → progress.expected ≤ place_in progress segment + index → Held stream_then waiting_then (place_in progress segment + index) octet
      held_waiting index octet there after =
          let later : behind by ≤ index = elim (one_way by) [ inl a ↦ omega (arith, a, none_before) | inr b ↦ omega (arith, b) ] in
          let place : start progress.expected by + (index - behind by) ≡ place_in progress segment + index = omega (arith, none_before) in
          let whole : behind by + (index - behind by) ≡ index = omega arith in
          let waits : at (start progress.expected by + (index - behind by)) (kept progress segment) ≡ Some octet =
          kept_waits (start progress.expected by) (drop (behind by) octets) progress.waiting waits_same (index - behind by) octet
          (dropped_at (behind by) octets (index - behind by) ∙ ap (slice_get octets) whole ∙ there) in
          held_on stream progress.expected (kept progress segment) count (place_in progress segment + index) octet
          (inr (ap (λ (n : ℕ). at n (kept progress segment)) (sym place) ∙ waits))

      held_at : (index octet : ℕ) → slice_get octets index ≡ Some octet → AtPlace stream_then waiting_then progress.first ((first_number segment + index) % 2 ^ 32) octet
      held_at index octet there = record {
        place = place_in progress segment + index;
        held = elim (cases_lt (place_in progress segment + index) progress.expected) [ inl before ↦ held_taken index octet there before | inr after ↦ held_waiting index octet there after ];
        number_is = number_at progress.first progress.expected (first_number segment) index by separated (omega (arith, none_before));
      }

    all_held : AreHeld stream_then waiting_then progress.first segment
    all_held index octet within there =
        let inside : index < length octets = slice_get_within octets index octet there in
        held_at (omega arith) index octet there

  pub near_known : NoneTold (untaken_near recent progress segment) → Known stream_then waiting_then progress.first progress.expected segment
  near_known told = cases (is_keep_alive by segment.payload) refl told
    where
      cases : (b : Bool) → is_keep_alive by segment.payload ≡ b → NoneTold (when b (λ _. record { apart = None; old = None; differs = None }) (λ _. record {
        apart = of_before progress segment;
        old = if_any (Some (place_in progress segment)) (old_of recent progress.expected (place_in progress segment) (octets_in progress segment)) why.Old;
        differs = of_differing (differing (differs_in recent progress) (place_in progress segment) (octets_in progress segment));
      })) → Known stream_then waiting_then progress.first progress.expected segment
      cases true keeps told = alive keeps
      cases false other told = inl (all_held told.apart (none_of (Some (place_in progress segment)) _ why.Old told.old) (none_differ (differing (differs_in recent progress) (place_in progress segment) (octets_in progress segment)) told.differs))

-- ---- a direction that ended

module _ (stream recent : List ℕ) (skipped : ℕ) (had : Had) (segment : Segment) (is : recent ≡ drop skipped stream) (count : length stream ≡ had.expected) (copy : is_copy_of had segment ≡ true) where
  abbrev by_after : Distance
  by_after = distance_after had segment

  abbrev place_after : ℕ
  place_after = had.expected - behind by_after

  separated_after : Separates (number_of had.first had.expected) (first_number segment) by_after
  separated_after = separates (number_of had.first had.expected) (first_number segment) (small_number had.first had.expected) (small_first segment)

  within_had : (behind by_after ≤ had.expected) × (ahead by_after + segment.payload.size ≤ behind by_after + from_bool had.at_fin)
  within_had =
      let parts = and_parts (nat_le (behind by_after) had.expected) (nat_le (ahead by_after + segment.payload.size) (behind by_after + from_bool had.at_fin)) copy in
      (leb-true (behind by_after) had.expected parts.0, leb-true (ahead by_after + segment.payload.size) (behind by_after + from_bool had.at_fin) parts.1)

  few_fins : (b : Bool) → from_bool b ≤ 1
  few_fins true = omega arith
  few_fins false = omega arith

  -- an octet that is among those that it had is not ahead
  not_ahead : 0 < segment.payload.size → (ahead by_after ≡ 0)
  not_ahead some = elim (one_way by_after) [ inl a ↦ a | inr b ↦ omega (arith, b, within_had.1, few_fins had.at_fin) ]

  alive_before : is_keep_alive by_after segment.payload ≡ true → IsAlive had.first had.expected segment
  alive_before keeps =
      let parts = and_parts (behind by_after == 1) (is_one_zero segment.payload) keeps in
      let z = one_zero segment.payload parts.1 in
      record {
        one = z.one;
        zero = z.zero;
        place = had.expected;
        within = omega arith;
        number_is = alive_at had.first had.expected (first_number segment) by_after separated_after (eqb-true (behind by_after) 1 parts.0);
      }

  alive_at_fin : ((behind by_after == 0 && had.at_fin) && is_one_zero segment.payload) ≡ true → IsAlive had.first had.expected segment
  alive_at_fin keeps =
      let parts = and_parts (behind by_after == 0 && had.at_fin) (is_one_zero segment.payload) keeps in
      let none : behind by_after ≡ 0 = eqb-true (behind by_after) 0 (and_parts (behind by_after == 0) had.at_fin parts.0).0 in
      let z = one_zero segment.payload parts.1 in
      let there : (first_number segment + 1) % 2 ^ 32 ≡ (had.first + (start had.expected by_after - behind by_after + 1)) % 2 ^ 32 = number_at had.first had.expected (first_number segment) 1 by_after separated_after within_had.0 in
      let place : start had.expected by_after - behind by_after + 1 ≡ had.expected + 1 = omega (arith, none, not_ahead (omega (arith, z.one))) in
      record {
        one = z.one;
        zero = z.zero;
        place = had.expected + 1;
        within = omega arith;
        number_is = there ∙ ap (λ (n : ℕ). (had.first + n) % 2 ^ 32) place;
      }

  module _ (old : old_of recent had.expected place_after segment.payload.octets ≡ 0) (differ : differing (differs_after recent had) place_after segment.payload.octets ≡ []) where
    held_after : AreHeld stream [] had.first segment
    held_after index octet within there =
        let some : 0 < segment.payload.size = omega arith in
        let inside : index < length segment.payload.octets = slice_get_within segment.payload.octets index octet there in
        let told : differs_after recent had (place_after + index) octet ≡ false = same_each (differs_after recent had) place_after segment.payload.octets differ index octet there in
        let before : place_after + index < had.expected = inside_had index octet told in
        let same : differs_taken recent had.expected (place_after + index) octet ≡ false = ap (λ (b : Bool). if b then differs_taken recent had.expected (place_after + index) octet else true) (sym (lt-ltb (place_after + index) had.expected before)) ∙ told in
        record {
          place = place_after + index;
          held = inl (taken_same stream recent skipped (place_after + index) octet is (omega (arith, count)) (omega (arith, count, old, inside)) (ap (λ (n : ℕ). differs_taken recent n (place_after + index) octet) count ∙ same));
          number_is =
              number_at had.first had.expected (first_number segment) index by_after separated_after within_had.0
              ∙ ap (λ (n : ℕ). (had.first + n) % 2 ^ 32) (let place : start had.expected by_after - behind by_after + index ≡ place_after + index = omega (arith, not_ahead some) in place);
        }
      where
        inside_had : (index octet : ℕ) → differs_after recent had (place_after + index) octet ≡ false → place_after + index < had.expected
        inside_had index octet told = elim (cases_lt (place_after + index) had.expected) [
          | inl before ↦ before
          | inr after ↦ absurd (no_more (ap (λ (b : Bool). if b then differs_taken recent had.expected (place_after + index) octet else true) (sym (le-ltb (place_after + index) had.expected after)) ∙ told))
        ]
          where
            no_more : true ≡ false → ⊥
            no_more e = cc

  pub after_known : NoneTold (untaken_copy recent had segment) → Known stream [] had.first had.expected segment
  after_known told = cases (is_keep_alive by_after segment.payload) ((behind by_after == 0 && had.at_fin) && is_one_zero segment.payload) refl refl told
    where
      cases : (a b : Bool) → is_keep_alive by_after segment.payload ≡ a → ((behind by_after == 0 && had.at_fin) && is_one_zero segment.payload) ≡ b → NoneTold (when (a || b) (λ _. record { apart = None; old = None; differs = None }) (λ _. record {
        apart = None;
        old = if_any (Some place_after) (old_of recent had.expected place_after segment.payload.octets) why.Old;
        differs = of_differing (differing (differs_after recent had) place_after segment.payload.octets);
      })) → Known stream [] had.first had.expected segment
      cases true b keeps other told = inr (alive_before keeps)
      cases false true no_keep keeps told = inr (alive_at_fin keeps)
      cases false false no_keep other told = inl (held_after (none_of (Some place_after) _ why.Old told.old) (none_differ (differing (differs_after recent had) place_after segment.payload.octets) told.differs))
