-- Sources that are listed one after another.
use Rattle.std.proofs.Common.{◌≡◌, ℕ, max, true, false, List, [], ◌∷◌, Option, refl, sym, ◌∙◌, subst, arith}
use Rattle.std.specs.Ordering.{ord_max, nat_cmp}
use Rattle.krb_run.specs.Statuses.{status_of}
use Rattle.krb_run.specs.Sources.{Outcome, Run, ListsEach, ends_run}

-- the greater of two statuses, as `max` compares them
greater-is : (a b : ℕ) → ord_max nat_cmp a b ≡ max a b
greater-is a b = grind arith

-- What the others do makes what all do, with the greatest status so far.
pub record Goes {S : Type 0} (Lists : S → Run) (all rest : List S) (written_before now : Option (List ℕ)) (greatest : ℕ) : Type 0 where
  pub whole : (written_after : Option (List ℕ)) (status : ℕ) → ListsEach Lists rest now written_after status → ListsEach Lists all written_before written_after (max greatest status)

module _ {S : Type 0} (Lists : S → Run) (all : List S) (written_before : Option (List ℕ)) where
  -- none is left
  pub Goes-end : (rest : List S) (now : Option (List ℕ)) (greatest : ℕ) → Goes Lists all rest written_before now greatest → rest ≡ [] → ListsEach Lists all written_before now greatest
  Goes-end rest now greatest goes none =
      subst (ListsEach Lists all written_before now) (omega arith)
      (goes.whole now 0 (subst (λ (l : List S). ListsEach Lists l now now 0) (sym none) (refl, refl)))

  module _ (first : S) (others rest : List S) (now after : Option (List ℕ)) (greatest : ℕ) (outcome : Outcome) (goes : Goes Lists all rest written_before now greatest) (parts : rest ≡ first ∷ others) (listed : Lists first now after outcome) (greater : ℕ) (is : greater ≡ ord_max nat_cmp greatest (status_of outcome)) where
    is_max : greater ≡ max greatest (status_of outcome)
    is_max = is ∙ greater-is greatest (status_of outcome)

    -- the first of the rest was the last that is listed
    pub Goes-stops : ends_run outcome ≡ true → ListsEach Lists all written_before after greater
    Goes-stops ends =
        subst (ListsEach Lists all written_before after) (omega (arith, is_max))
        (goes.whole after (max (status_of outcome) 0) (subst (λ (l : List S). ListsEach Lists l now after (max (status_of outcome) 0)) (sym parts)
        (record { between = after; outcome = outcome; others = 0; first = listed; follow = rw ends (refl, refl); greater = refl })))

    -- the others follow
    pub Goes-on : ends_run outcome ≡ false → Goes Lists all others written_before after greater
    Goes-on ends = record {
      whole = λ written_after status each.
          subst (ListsEach Lists all written_before written_after) (omega (arith, is_max))
          (goes.whole written_after (max (status_of outcome) status) (subst (λ (l : List S). ListsEach Lists l now written_after (max (status_of outcome) status)) (sym parts)
          (record { between = after; outcome = outcome; others = status; first = listed; follow = rw ends each; greater = refl })));
    }
