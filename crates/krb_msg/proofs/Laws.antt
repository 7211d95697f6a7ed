-- The laws of the judgement of an item, for every term.
use Rattle.std.proofs.Common.{◌≡◌, ℕ, ◌<◌, ◌≤◌, Bool, true, List, ◌++◌, length, take, drop, sym, ◌∙◌, ap, arith, length-append, take-append-drop}
use Rattle.std.proofs.lemmas.List.{take_at, take-append-le}
use Rattle.krb_der.specs.Octets.{AreOctets}
use Rattle.krb_der.specs.declared.why.Why.{Why}
use Rattle.krb_msg.specs.Term.{Term, Value, der, Fits}
use Rattle.krb_msg.specs.Judgement.{Outcome, Open, Bad, Done, item_outcome}
use Rattle.krb_msg.proofs.Stable.{need, IsDecided, Shown, IsStable, length_parts}
use Rattle.krb_msg.proofs.TermsStable.{IsStable-item_outcome}
use Rattle.krb_msg.proofs.Whole.{ItemWhole, item-whole}

-- ---- stable
-- An outcome that is decided by just the octets that it needs: it is the same with any others after them, and fewer decide nothing.
pub record Settles (room : ℕ) (judge : List ℕ → Outcome) (octets : List ℕ) (outcome : Outcome) : Type 0 where
  pub within : need outcome ≤ length octets
  pub same : (other : List ℕ) → length other ≤ room → take (need outcome) other ≡ take (need outcome) octets → judge other ≡ outcome
  pub sooner : (k : ℕ) → k < need outcome → judge (take k octets) ≡ Open

Settles-shown : (room : ℕ) (judge : List ℕ → Outcome) (octets : List ℕ) (outcome : Outcome) → Shown room 0 judge octets outcome → Settles room judge octets outcome
Settles-shown room judge octets outcome s = record {
  within = omega (arith, n, length_parts octets room 0 s);
  same = λ other h e. ap judge (prefix_of other e) ∙ s.same (drop (need outcome) other) (fits other h e);
  sooner = λ k h. ap judge (short k h) ∙ s.sooner k (omega (arith, n));
}
  where
    n : need outcome ≡ length s.prefix
    n = omega (arith, s.reached)

    taken : take (need outcome) octets ≡ s.prefix
    taken = ap (take (need outcome)) s.parts ∙ take_at s.prefix s.suffix (need outcome) (sym n)

    prefix_of : (other : List ℕ) → take (need outcome) other ≡ take (need outcome) octets → other ≡ s.prefix ++ drop (need outcome) other
    prefix_of other e = sym (take-append-drop (need outcome) other) ∙ ap (λ l. l ++ drop (need outcome) other) (e ∙ taken)

    fits : (other : List ℕ) → length other ≤ room → take (need outcome) other ≡ take (need outcome) octets → length (s.prefix ++ drop (need outcome) other) ≤ room
    fits other h e = rw (← prefix_of other e) h

    short : (k : ℕ) → k < need outcome → take k octets ≡ take k s.prefix
    short k h = ap (take k) s.parts ∙ take-append-le k s.prefix s.suffix (omega (arith, n))

pub Settles-stable : (room : ℕ) (judge : List ℕ → Outcome) → IsStable room 0 judge → (octets : List ℕ) (outcome : Outcome) → length octets ≤ room → judge octets ≡ outcome → IsDecided outcome → Settles room judge octets outcome
Settles-stable room judge stable octets outcome fits e d = Settles-shown room judge octets outcome (stable octets outcome fits e d)

pub Settles-item_outcome : (term : Term) (room : ℕ) (sole : Bool) (octets : List ℕ) (outcome : Outcome) → length octets ≤ room → item_outcome term room sole octets ≡ outcome → IsDecided outcome → Settles room (item_outcome term room sole) octets outcome
Settles-item_outcome term room sole = Settles-stable room (item_outcome term room sole) (IsStable-item_outcome term room sole)

-- a refusal is at an octet that is present
pub bad_within : (term : Term) (room : ℕ) (sole : Bool) (octets : List ℕ) (place : ℕ) (reason : Why) → length octets ≤ room → item_outcome term room sole octets ≡ Bad place reason → place < length octets
bad_within term room sole octets place reason h e = (Settles-item_outcome term room sole octets (Bad place reason) h e tt).within

pub done_within : (term : Term) (room : ℕ) (sole : Bool) (octets : List ℕ) (count : ℕ) → length octets ≤ room → item_outcome term room sole octets ≡ Done count → count ≤ length octets
done_within term room sole octets count h e = (Settles-item_outcome term room sole octets (Done count) h e tt).within

-- ---- whole
pub record IsWhole (term : Term) (room : ℕ) (sole : Bool) (octets : List ℕ) (count : ℕ) : Type 0 where
  pub value : Value term
  pub fits : Fits term value
  pub form : take count octets ≡ der term value
  pub within : count ≤ length octets
  pub fills : sole ≡ true → count ≡ room

IsWhole-from_item : (term : Term) (room : ℕ) (sole : Bool) (octets : List ℕ) (count : ℕ) → ItemWhole term room sole octets count → IsWhole term room sole octets count
IsWhole-from_item term room sole octets count w = record {
  value = w.value;
  fits = w.fits;
  form = ap (take count) w.parts ∙ take_at (der term w.value) w.rest count (sym w.counted);
  within = omega (arith, w.counted, ap length w.parts, length-append (der term w.value) w.rest);
  fills = w.fills;
}

-- neither the octets present nor the room needs a bound
pub IsWhole-done : (term : Term) (room : ℕ) (sole : Bool) (octets : List ℕ) (count : ℕ) → AreOctets octets → item_outcome term room sole octets ≡ Done count → IsWhole term room sole octets count
IsWhole-done term room sole octets count a e =
    IsWhole-from_item term room sole octets count (item-whole term room sole octets count a e)
