-- Items up to the end of the file.
use Rattle.std.proofs.Common.{◌≡◌, ℕ, zero, suc, ◌+◌, ◌<◌, ◌≤◌, Bool, false, Option, None, Result, Ok, Err, List, [], ◌∷◌, ◌++◌, length, refl, sym, ◌∙◌, ap, subst, arith, length-append}
use Rattle.std.proofs.lemmas.List.{nil_from_length}
use Rattle.std.proofs.lemmas.List.Concat.{flat_map-cons}
use Rattle.std.specs.List.{flat_map, AllByRecursion}
use Rattle.krb_der.specs.Octets.{when, AreOctets}
use Rattle.krb_file.specs.Fields.{Source, Fault, limited, Reader, is_empty}
use Rattle.krb_file.proofs.Fields.{at, done, ok_is, err_is, and_then-ok, Took, Reads}
use Rattle.krb_file.proofs.Steps.{IsFault, IsFault-then, Moved, Steps}
use Rattle.krb_file.specs.Items.{no_items}
use Rattle.krb_ccache.specs.Reading.{CacheItems, item_and, items_within, items_after, all_items}
use Rattle.krb_ccache.proofs.Headers.{inside_file}
use Rattle.krb_ccache.proofs.Local.{IsReadAgain}

module _ {A : Type 0} (item_at : Reader A) where
  items-fault-step : (others : Source → CacheItems A) (limit : Option ℕ) (s : Source) (f : Fault) → ((t : Source) → (others t).end ≡ Err f → IsFault (limited limit) t f)
      → (r : Result (A × Source) Fault) → ((x : A) (t : Source) → r ≡ Ok (x, t) → Moved s t) → ((g : Fault) → r ≡ Err g → IsFault (limited limit) s g) → (item_and r others).end ≡ Err f → IsFault (limited limit) s f
  items-fault-step others limit s f rest (Err g) moves faults e = subst (IsFault (limited limit) s) (err_is ℕ g f e) (faults g refl)
  items-fault-step others limit s f rest (Ok (x, t)) moves faults e = IsFault-then (limited limit) s t f (moves x t refl) (rest t e)

  items-fault : Steps item_at → (bound : ℕ) (limit : Option ℕ) (place : ℕ) (octets : List ℕ) (f : Fault) → (items_within bound item_at limit (at place octets)).end ≡ Err f → IsFault (limited limit) (at place octets) f
  items-fault steps (suc bound) limit place (octet ∷ octets) f e =
      let s = at place (octet ∷ octets) in
      items-fault-step (items_within bound item_at limit) limit s f (λ t. items-fault steps bound limit t.place t.octets f) (item_at (limited limit) s) (λ x t h. steps.moves (limited limit) s x t h) (λ g h. steps.faults (limited limit) s g h) e
  items-fault steps other limit place another f e = absurd cc

  pub items_after-fault : Steps item_at → (limit : Option ℕ) (s : Source) (f : Fault) → (items_after item_at limit s).end ≡ Err f → IsFault (limited limit) s f
  items_after-fault steps limit s f e = items-fault steps (length s.octets) limit s.place s.octets f e

-- ---- items that are read from their spellings, under a limit
module _ {A : Type 0} (item_at : Reader A) (spell : A → List ℕ) (some : (v : A) → 0 < length (spell v)) (limit : Option ℕ) where
  abbrev pub ended : List A → ℕ → CacheItems A
  ended found k = record { items = found; end = Ok k }

  not_empty : (v : A) (rest : List ℕ) → is_empty (spell v ++ rest) ≡ false
  not_empty v rest = go (spell v) (some v)
    where
      go : (octets : List ℕ) → 0 < length octets → is_empty (octets ++ rest) ≡ false
      go [] h = absurd (omega arith)
      go (octet ∷ octets) h = refl

  items-again : (vs : List A) (bound place : ℕ) → AllByRecursion (IsReadAgain item_at spell limit) vs → length (flat_map spell vs) ≤ bound → items_within bound item_at limit (at place (flat_map spell vs)) ≡ ended vs (place + length (flat_map spell vs))
  items-again [] zero place again len = ap (ended []) (omega arith)
  items-again [] (suc bound) place again len = ap (ended []) (omega arith)
  items-again (v ∷ vs) zero place again len = absurd (omega (arith, ap length (flat_map-cons spell v vs), length-append (spell v) (flat_map spell vs), some v))
  items-again (v ∷ vs) (suc bound) place again len =
      let suffix = flat_map spell vs in
      let size : length (flat_map spell (v ∷ vs)) ≡ length (spell v) + length suffix = ap length (flat_map-cons spell v vs) ∙ length-append (spell v) suffix in
      let first = again.0 place suffix in
      let others = items-again vs bound (place + length (spell v)) again.1 (omega (arith, size, some v)) in
      let next = items_within bound item_at limit in
      ap (λ (x : List ℕ). items_within (suc bound) item_at limit (at place x)) (flat_map-cons spell v vs)
      ∙ ap (λ (b : Bool). when b (λ _. no_items (Ok place)) (λ _. item_and (item_at (limited limit) (at place (spell v ++ suffix))) next)) (not_empty v suffix)
      ∙ ap (λ (r : Result (A × Source) Fault). item_and r next) first
      ∙ ap (λ (i : CacheItems A). let it : CacheItems A = record { items = v ∷ i.items; end = i.end } in it) others
      ∙ ap (ended (v ∷ vs)) (omega (arith, size))

  pub items_after-again : (vs : List A) (place : ℕ) → AllByRecursion (IsReadAgain item_at spell limit) vs → items_after item_at limit (at place (flat_map spell vs)) ≡ ended vs (place + length (flat_map spell vs))
  items_after-again vs place again = items-again vs (length (flat_map spell vs)) place again (omega arith)

module _ {A : Type 0} (item_at : Reader A) (spell : A → List ℕ) (Fits : A → Type 0) (laws : Reads item_at spell Fits) (some : (v : A) → 0 < length (spell v)) where
  pub record Found (s : Source) (found : List A) (k : ℕ) : Type 0 where
    pub parts : s.octets ≡ flat_map spell found
    pub fits : AllByRecursion Fits found
    pub place : k ≡ s.place + length s.octets

  items-step : (others : Source → CacheItems A) (limit : Option ℕ) (s : Source) (bound k : ℕ) → ((t : Source) → AreOctets t.octets → length t.octets ≤ bound → (others t).end ≡ Ok k → Found t (others t).items k)
      → (r : Result (A × Source) Fault) → ((x : A) (t : Source) → r ≡ Ok (x, t) → Took (limited limit) (spell x) s t × Fits x) → length s.octets ≤ suc bound → (item_and r others).end ≡ Ok k → Found s (item_and r others).items k
  items-step others limit s bound k rest (Err f) sound len e = absurd cc
  items-step others limit s bound k rest (Ok (x, t)) sound len e =
      let first = sound x t refl in
      let size : length s.octets ≡ length (spell x) + length t.octets = ap length first.0.parts ∙ length-append (spell x) t.octets in
      let f = rest t first.0.fits (omega (arith, size, some x)) e in
      record {
        parts = first.0.parts ∙ ap (λ (o : List ℕ). spell x ++ o) f.parts ∙ sym (flat_map-cons spell x (others t).items);
        fits = (first.1, f.fits);
        place = omega (arith, f.place, first.0.place, size);
      }

  found_none : (place : ℕ) (octets : List ℕ) (k : ℕ) → octets ≡ [] → done place ≡ done k → Found (at place octets) [] k
  found_none place octets k nothing e =
      let same : place ≡ k = ok_is place k e in
      record { parts = nothing; fits = tt; place = omega (arith, same, ap length nothing) }

  items-sound : (bound : ℕ) (limit : Option ℕ) (place : ℕ) (octets : List ℕ) (k : ℕ) → AreOctets octets → length octets ≤ bound → (items_within bound item_at limit (at place octets)).end ≡ Ok k → Found (at place octets) (items_within bound item_at limit (at place octets)).items k
  items-sound zero limit place octets k fits len e = found_none place octets k (nil_from_length octets (omega arith)) e
  items-sound (suc bound) limit place [] k fits len e = found_none place [] k refl e
  items-sound (suc bound) limit place (octet ∷ octets) k fits len e =
      let s = at place (octet ∷ octets) in
      items-step (items_within bound item_at limit) limit s bound k (λ t. items-sound bound limit t.place t.octets k) (item_at (limited limit) s) (λ x t h. laws.sound (limited limit) s t x fits (inside_file limit place) h) len e

  all_items-ok : (found : CacheItems A) (vs : List A) → all_items found ≡ Ok vs → (k : ℕ) × (found.end ≡ Ok k) × (found.items ≡ vs)
  all_items-ok found vs e =
      let a = and_then-ok found.end (λ k. done found.items) vs e in
      (a.0, a.1, ok_is found.items vs a.2)

  pub all-sound : (limit : Option ℕ) (s : Source) (vs : List A) → AreOctets s.octets → all_items (items_after item_at limit s) ≡ Ok vs → (s.octets ≡ flat_map spell vs) × AllByRecursion Fits vs
  all-sound limit s vs fits e =
      let found = items_after item_at limit s in
      let a = all_items-ok found vs e in
      let f = items-sound (length s.octets) limit s.place s.octets a.0 fits (omega arith) a.1 in
      subst (λ (x : List A). (s.octets ≡ flat_map spell x) × AllByRecursion Fits x) a.2 (f.parts, f.fits)

  each-again : (vs : List A) → AllByRecursion Fits vs → AllByRecursion (IsReadAgain item_at spell None) vs
  each-again [] fits = tt
  each-again (v ∷ vs) fits = (λ place rest. laws.again (limited None) place rest v fits.0 refl (inside_file None (place + length (spell v))), each-again vs fits.1)

  pub all-again : (vs : List A) (place : ℕ) → AllByRecursion Fits vs → all_items (items_after item_at None (at place (flat_map spell vs))) ≡ Ok vs
  all-again vs place fits = ap all_items (items_after-again item_at spell some None vs place (each-again vs fits))
