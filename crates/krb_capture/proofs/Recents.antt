-- The last octets of directions, after one more has ended.
use Rattle.std.proofs.Common.{◌≡◌, ℕ, ◌+◌, ◌-◌, ◌%◌, ◌<◌, ◌≤◌, ◌⊎◌, inl, inr, List, [], ◌∷◌, ◌++◌, length, get_or, refl, sym, ap, subst, ◌∙◌, arith, length-append}
use Rattle.std.specs.Prelude.{Bool, true, false, if◌then◌else◌, nat_lt}
use Rattle.std.specs.Global.{Vec}
use Rattle.std.proofs.Math.ListN.{set, length-set}
use Rattle.std.proofs.Math.Nat.{mod-add-div, mod-eq_of_lt, mod-lt}
use Rattle.std.proofs.lemmas.Bool.{cases_lt, le-ltb, lt-ltb}
use Rattle.std.proofs.lemmas.List.{get_or_append_left, get_or-append_right, get_or-set_other, get_or_past}
use Rattle.std.proofs.lemmas.Grind.{get_or-set_at}
use Rattle.krb_flow.specs.Window.{last}
use Rattle.krb_capture.specs.Recent.{AreLast, Remembers, still_kept}
use Rattle.krb_capture.specs.declared.recent.Recent.{Recent}

-- numbers that are near to each other have different places
same_place : (a b : ℕ) → a % 4096 ≡ b % 4096 → a < b → b < a + 4096 → ⊥
same_place a b e less near = omega (arith, mod-add-div a 4096, mod-add-div b 4096, e)

module _ (slots : List (Vec ℕ)) (streams : List (List ℕ)) (octets : Vec ℕ) (stream : List ℕ) (are : AreLast slots streams) (is : octets.items ≡ last 4096 stream) where
  new : List (List ℕ)
  new = streams ++ stream ∷ []

  longer : length (streams ++ stream ∷ []) ≡ length streams + 1
  longer = omega (arith, length-append streams (stream ∷ []))

  -- what it took is the last one
  newest : (nth : ℕ) → nth ≡ length streams → get_or (streams ++ stream ∷ []) nth [] ≡ stream
  newest nth e = get_or-append_right streams (stream ∷ []) (length streams) nth [] refl (omega arith) ∙ ap (λ (k : ℕ). get_or (stream ∷ []) k []) (let z : nth - length streams ≡ 0 = omega arith in z)

  pub pushed_first : length streams < 4096 → AreLast (slots ++ octets ∷ []) (streams ++ stream ∷ [])
  pushed_first few = record {
    room = omega (arith, longer, length-append slots (octets ∷ []), are.room);
    each = λ nth none within near. by nth none within (cases_lt nth (length streams));
  }
    where
      by : (nth : ℕ) (none : Vec ℕ) → nth < length (streams ++ stream ∷ []) → (nth < length streams) ⊎ (length streams ≤ nth) → (get_or (slots ++ octets ∷ []) (nth % 4096) none).items ≡ last 4096 (get_or (streams ++ stream ∷ []) nth [])
      by nth none within (inl before) =
          let here : nth % 4096 ≡ nth = mod-eq_of_lt (omega arith) in
          let there : nth % 4096 < length slots = omega (arith, here, are.room) in
          ap (λ (v : Vec ℕ). v.items) (get_or_append_left slots (octets ∷ []) none (nth % 4096) there)
          ∙ are.each nth none before (omega arith)
          ∙ ap (last 4096) (sym (get_or_append_left streams (stream ∷ []) [] nth before))
      by nth none within (inr after) =
          let last_one : nth ≡ length streams = omega (arith, longer) in
          let here : nth % 4096 ≡ nth = mod-eq_of_lt (omega arith) in
          let zero_left : nth % 4096 - length slots ≡ 0 = omega (arith, here, are.room) in
          ap (λ (v : Vec ℕ). v.items) (get_or-append_right slots (octets ∷ []) (length slots) (nth % 4096) none refl (omega (arith, here, are.room)) ∙ ap (λ (k : ℕ). get_or (octets ∷ []) k none) zero_left)
          ∙ is
          ∙ ap (last 4096) (sym (newest nth last_one))

  pub pushed_in_place : (count : ℕ) → count ≡ length streams → 4096 ≤ length streams → AreLast (set slots (count % 4096) octets) (streams ++ stream ∷ [])
  pushed_in_place count at many = record {
    room = omega (arith, longer, length-set slots (count % 4096) octets, are.room);
    each = λ nth none within near. by nth none within near (cases_lt nth (length streams));
  }
    where
      inside : count % 4096 < length slots
      inside = omega (arith, are.room, mod-add-div count 4096, mod-lt count (let p : 0 < 4096 = omega arith in p))

      by : (nth : ℕ) (none : Vec ℕ) → nth < length (streams ++ stream ∷ []) → length (streams ++ stream ∷ []) ≤ nth + 4096 → (nth < length streams) ⊎ (length streams ≤ nth) → (get_or (set slots (count % 4096) octets) (nth % 4096) none).items ≡ last 4096 (get_or (streams ++ stream ∷ []) nth [])
      by nth none within near (inl before) =
          let apart : nth % 4096 ≡ count % 4096 → ⊥ = λ e. same_place nth count e (omega arith) (omega (arith, longer)) in
          ap (λ (v : Vec ℕ). v.items) (get_or-set_other slots (count % 4096) (nth % 4096) octets none apart)
          ∙ are.each nth none before (omega (arith, longer))
          ∙ ap (last 4096) (sym (get_or_append_left streams (stream ∷ []) [] nth before))
      by nth none within near (inr after) =
          let last_one : nth ≡ length streams = omega (arith, longer) in
          ap (λ (v : Vec ℕ). v.items) (get_or-set_at slots (count % 4096) (nth % 4096) octets none (ap (λ (k : ℕ). k % 4096) (last_one ∙ sym at)) inside)
          ∙ is
          ∙ ap (last 4096) (sym (newest nth last_one))

-- there is room for no more, or there is
many : (slots : List (Vec ℕ)) (streams : List (List ℕ)) (n : ℕ) → AreLast slots streams → n ≡ length streams → n % 4096 < length slots → 4096 ≤ length streams
many slots streams n are is below = by (cases_lt n 4096)
  where
    by : (n < 4096) ⊎ (4096 ≤ n) → 4096 ≤ length streams
    by (inl less) = let here : n % 4096 ≡ n = mod-eq_of_lt less in absurd (omega (arith, here, are.room))
    by (inr enough) = omega arith

few : (slots : List (Vec ℕ)) (streams : List (List ℕ)) (n : ℕ) → AreLast slots streams → n ≡ length streams → length slots ≤ n % 4096 → length streams < 4096
few slots streams n are is above = omega (arith, are.room, mod-lt n (let p : 0 < 4096 = omega arith in p))

module _ (old new : Recent) (streams : List (List ℕ)) (octets : Vec ℕ) (stream : List ℕ) (r : Remembers old streams) (is : octets.items ≡ last 4096 stream) (count : new.count ≡ old.count + 1) where
  next : new.count ≡ length (streams ++ stream ∷ [])
  next = omega (arith, count, r.count, length-append streams (stream ∷ []))

  pub put_there : old.count % 4096 < length old.slots.items → new.slots.items ≡ set old.slots.items (old.count % 4096) octets → (old.count ≡ length streams) × Remembers new (streams ++ stream ∷ [])
  put_there below items = (
    r.count,
    record {
      count = next;
      slots = subst (λ (l : List (Vec ℕ)). AreLast l (streams ++ stream ∷ [])) (sym items) (pushed_in_place old.slots.items streams octets stream r.slots is old.count r.count (many old.slots.items streams old.count r.slots r.count below));
    },
  )

  pub put_last : length old.slots.items ≤ old.count % 4096 → new.slots.items ≡ old.slots.items ++ octets ∷ [] → (old.count ≡ length streams) × Remembers new (streams ++ stream ∷ [])
  put_last above items = (
    r.count,
    record {
      count = next;
      slots = subst (λ (l : List (Vec ℕ)). AreLast l (streams ++ stream ∷ [])) (sym items) (pushed_first old.slots.items streams octets stream r.slots is (few old.slots.items streams old.count r.slots r.count above));
    },
  )

-- ---- what is still kept of one
pub kept_of : (recent : Recent) (streams : List (List ℕ)) (nth : ℕ) (none : Vec ℕ) → Remembers recent streams → nth < recent.count → recent.count ≤ nth + 4096 → (get_or recent.slots.items (nth % 4096) none).items ≡ last 4096 (still_kept streams nth)
kept_of recent streams nth none r before near =
    r.slots.each nth none (omega (arith, r.count)) (omega (arith, r.count))
    ∙ ap (λ (b : Bool). last 4096 (if b then get_or streams nth [] else [])) (sym (lt-ltb (length streams) (nth + 4097) (omega (arith, r.count))))

pub kept_no_more : (recent : Recent) (streams : List (List ℕ)) (nth : ℕ) → Remembers recent streams → (recent.count ≤ nth) ⊎ (nth + 4096 < recent.count) → [] ≡ last 4096 (still_kept streams nth)
kept_no_more recent streams nth r (inl none) = ap (last 4096) (sym (either (nat_lt (length streams) (nth + 4097)) (get_or_past streams nth [] (omega (arith, r.count)))))
  where
    either : (b : Bool) → get_or streams nth [] ≡ [] → (if b then get_or streams nth [] else []) ≡ []
    either true e = e
    either false e = refl
kept_no_more recent streams nth r (inr gone) = ap (λ (b : Bool). last 4096 (if b then get_or streams nth [] else [])) (sym (le-ltb (length streams) (nth + 4097) (omega (arith, r.count))))
