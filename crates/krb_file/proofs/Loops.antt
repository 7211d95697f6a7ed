-- A number of items, read one after another by a loop.
use Rattle.std.proofs.Common.{◌≡◌, List, [], ◌∷◌, ◌++◌, Result, Ok, Err, refl, ap, append_assoc}
use Rattle.krb_file.specs.Fields.{Source, Fault, and_then}

-- the items that were read, and then those that are left
abbrev pub with_prefix : {A : Type 0} → List A → Result (List A × Source) Fault → Result (List A × Source) Fault
with_prefix prefix read = and_then read (λ x. Ok (prefix ++ x.0, x.1))

pub regroup : {A : Type 0} (prefix : List A) (item : A) (read : Result (List A × Source) Fault) → with_prefix prefix (and_then read (λ x. Ok (item ∷ x.0, x.1))) ≡ with_prefix (prefix ++ item ∷ []) read
regroup {A} prefix item (Ok x) = ap (λ (items : List A). Ok (items, x.1)) (simp append_assoc)
regroup {A} prefix item (Err f) = refl
