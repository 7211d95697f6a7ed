-- An entry that is read up to its own end, after which the end that was set before applies again.
use Rattle.std.proofs.Common.{◌≡◌, ℕ, ◌+◌, Option, Some, ◌∙◌, ap, ap₂, subst}
use Rattle.krb_file.specs.Fields.{Bounds, Reader, within}
use Rattle.krb_file.specs.FieldReaders.{Cursor, HasRead, bounded}

within_at : {A : Type 0} (size : ℕ) (reader : Reader A) (v : A) (old inner : Cursor) → HasRead reader v (bounded (Some (old.place + size)) old) inner → HasRead (within size reader) v old (bounded old.bounds.end inner)
within_at size reader v old inner read = record {
  same_bounds = ap (λ (b : Bounds). let it : Bounds = record { end = old.bounds.end; limit = b.limit } in it) read.same_bounds;
  from = λ rest there. read.from rest there;
}

pub within_read : {A : Type 0} (size place wide : ℕ) (outer : Option ℕ) (reader : Reader A) (v : A) (old mid inner new : Cursor) → outer ≡ old.bounds.end → place ≡ old.place → wide ≡ size → mid ≡ bounded (Some (place + wide)) old → HasRead reader v mid inner → new ≡ bounded outer inner
    → HasRead (within size reader) v old new
within_read size place wide outer reader v old mid inner new was here same starts read ends =
    let there : mid ≡ bounded (Some (old.place + size)) old = starts ∙ ap₂ (λ (a b : ℕ). bounded (Some (a + b)) old) here same in
    rw (ends, was) (within_at size reader v old inner (subst (λ (h : Cursor). HasRead reader v h inner) there read))
