-- What the parts of a writer that chooses promise each other.
use Rattle.std.specs.Prelude.{ℕ, ◌≡◌, ◌-◌, Bool, List, [], ◌∷◌, ◌++◌, length, map, take, Option, Some, None}
use Rattle.std.specs.Coded.{Coded-set, Unit-prop, ×_prop, coded_ℕ, coded_list}
use Rattle.std.specs.Io.KnownBytes.{Appends}
use Rattle.std.specs.List.{flat_map}
use Rattle.krb_choice.specs.Choices.{Choice, below, greatest}
use Rattle.krb_choice.specs.Columns.{Found, count_found, row_found}
use Rattle.krb_choosing.specs.Listings.{begun_after, chosen_after, chosen_listing, records_after, told_after, told_listing}
use Rattle.krb_choosing.specs.Writes.{AppendsFirst}

-- ---- what is written of a text that is added to what is still to be written
-- a first part of all that, and the rest is to be written
abbrev pub Moves : (written_before written_after : Option (List ℕ)) → (out_before out_after : List ℕ) → List ℕ → Type 0
Moves written_before written_after out_before out_after text =
    (part : List ℕ) × Appends written_before written_after part × (out_before ++ text ≡ part ++ out_after)

-- a first part of a text was written
abbrev pub Begins : (written_before written_after : Option (List ℕ)) → List ℕ → Type 0
Begins written_before written_after text = (part : List ℕ) × (rest : List ℕ) × Appends written_before written_after part × (text ≡ part ++ rest)

-- ---- octets of a listing were taken: what is chosen of the records that they end is written, or to be written, and the last one is told
pub record Takes (c : Choice) (goes_on : Bool) (octets : List ℕ) (written_before written_after : Option (List ℕ)) (out_before out_after begun_before begun_after' told_before told_after' : List ℕ) : Type 0 where
  pub moved : Moves written_before written_after out_before out_after (chosen_after c goes_on begun_before octets)
  pub begun : begun_after' ≡ begun_after begun_before octets
  pub told : told_after' ≡ told_after c goes_on told_before (records_after begun_before octets)

-- ---- what a writer holds that was given a listing so far, and has what it wrote to in its first state
abbrev pub Follows : {E : Type 0} → (fault : Option E) → Choice → (goes_on : Bool) → (written_before written_after : Option (List ℕ)) → (given out begun told : List ℕ) → Type 0
Follows None c goes_on written_before written_after given out begun told =
    Appends written_before written_after (chosen_listing c goes_on given) × ((out ≡ []) × ((begun ≡ begun_after [] given) × (told ≡ told_listing c goes_on given)))
Follows (Some error) c goes_on written_before written_after given out begun told = AppendsFirst written_before written_after (chosen_listing c goes_on given)

abbrev octets-set : (xs ys : List ℕ) → IsProp (xs ≡ ys)
octets-set xs ys = Coded-set (coded_list coded_ℕ) xs ys

pub Appends-prop : (written_before written_after : Option (List ℕ)) (text : List ℕ) → IsProp (Appends written_before written_after text)
Appends-prop None after text = Unit-prop
Appends-prop (Some xs) None text = λ x y. absurd x
Appends-prop (Some xs) (Some ys) text = octets-set ys (xs ++ text)

pub AppendsFirst-prop : (written_before written_after : Option (List ℕ)) (text : List ℕ) → IsProp (AppendsFirst written_before written_after text)
AppendsFirst-prop None after text = Unit-prop
AppendsFirst-prop (Some xs) None text = λ x y. absurd x
AppendsFirst-prop (Some xs) (Some ys) text = octets-set ys (xs ++ take (length ys - length xs) text)

pub Follows-prop : {E : Type 0} (fault : Option E) (c : Choice) (goes_on : Bool) (written_before written_after : Option (List ℕ)) (given out begun told : List ℕ) → IsProp (Follows fault c goes_on written_before written_after given out begun told)
Follows-prop None c goes_on written_before written_after given out begun told =
    ×_prop (Appends-prop written_before written_after (chosen_listing c goes_on given)) (×_prop (octets-set out []) (×_prop (octets-set begun (begun_after [] given)) (octets-set told (told_listing c goes_on given))))
Follows-prop (Some error) c goes_on written_before written_after given out begun told = AppendsFirst-prop written_before written_after (chosen_listing c goes_on given)

-- ---- the rows of what was found
abbrev pub rows_found : List Found → List ℕ
rows_found all = flat_map (λ row. row_found row all) (below (greatest (1 ∷ map count_found all)))
