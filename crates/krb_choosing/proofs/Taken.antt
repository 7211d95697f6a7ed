-- Octets of a listing that were taken.
use Rattle.std.proofs.Common.{◌≡◌, ◌∙◌, ℕ, Bool, true, false, List, [], ◌∷◌, ◌++◌, Option, Some, None, append-nil, append_assoc, refl, sym, ap, subst}
use Rattle.std.specs.Io.KnownBytes.{Appends}
use Rattle.std.specs.List.{flat_map}
use Rattle.std.specs.Option.{is_some}
use Rattle.std.proofs.KnownBytes.{Appends-trans}
use Rattle.krb_choice.specs.Choices.{Choice}
use Rattle.krb_choosing.specs.Listings.{HasNoFeed, begun_after, chosen_after, chosen_listing, chosen_of, records_after, told_after, told_listing, told_of}
use Rattle.krb_choosing.specs.Writes.{AppendsFirst}
use Rattle.krb_choosing.specs.inner.Chooser.{Begins, Follows, Moves, Takes}
use Rattle.krb_choosing.proofs.Listings.{begun-append, begun-line, begun-none, chosen-append, records-append, records-line, records-none, told-append}
use Rattle.krb_choosing.proofs.Writes.{begin-after, begin-more, begin-of, first-of, move-all, move-none, move-on, none-written}

-- of the same choice
pub as-chosen : (c c' : Choice) (goes_on goes_on' : Bool) (P : Choice → Bool → Type 0) → c' ≡ c → goes_on' ≡ goes_on → P c' goes_on' → P c goes_on
as-chosen c c' goes_on goes_on' P e f p = subst (λ (k : Choice). P k goes_on) e (subst (λ (b : Bool). P c' b) f p)

module _ (c : Choice) (goes_on : Bool) where
  -- the octets of a line, or of none, after others
  chosen-line : (begun done line : List ℕ) → HasNoFeed line → chosen_after c goes_on begun (done ++ (line ++ 10 ∷ [])) ≡ chosen_after c goes_on begun done ++ chosen_of c goes_on (begun_after begun done ++ line)
  chosen-line begun done line none =
      chosen-append c goes_on begun done (line ++ 10 ∷ [])
      ∙ ap (λ l. chosen_after c goes_on begun done ++ l) (ap (flat_map (chosen_of c goes_on)) (records-line (begun_after begun done) line none) ∙ append-nil (chosen_of c goes_on (begun_after begun done ++ line)))

  chosen-rest : (begun done rest : List ℕ) → HasNoFeed rest → chosen_after c goes_on begun (done ++ rest) ≡ chosen_after c goes_on begun done
  chosen-rest begun done rest none =
      chosen-append c goes_on begun done rest ∙ ap (λ l. chosen_after c goes_on begun done ++ l) (ap (flat_map (chosen_of c goes_on)) (records-none (begun_after begun done) rest none)) ∙ append-nil (chosen_after c goes_on begun done)

  module _ (w₀ w₁ w₂ : Option (List ℕ)) (out₀ out₁ out₂ begun₀ begun₁ begun₂ told₀ told₁ told₂ done : List ℕ) (taken : Takes c goes_on done w₀ w₁ out₀ out₁ begun₀ begun₁ told₀ told₁) where
    -- a line more
    pub takes-line : (line : List ℕ) → HasNoFeed line → Moves w₁ w₂ out₁ out₂ (chosen_of c goes_on (begun₁ ++ line)) → begun₂ ≡ [] → told₂ ≡ told_of c goes_on (begun₁ ++ line) → Takes c goes_on (done ++ (line ++ 10 ∷ [])) w₀ w₂ out₀ out₂ begun₀ begun₂ told₀ told₂
    takes-line line none moved begun told = record {
      moved = subst (λ (t : List ℕ). Moves w₀ w₂ out₀ out₂ t) (ap (λ b. chosen_after c goes_on begun₀ done ++ chosen_of c goes_on (b ++ line)) taken.begun ∙ sym (chosen-line begun₀ done line none))
          (move-on w₀ w₁ w₂ out₀ out₁ out₂ (chosen_after c goes_on begun₀ done) (chosen_of c goes_on (begun₁ ++ line)) taken.moved moved);
      begun = begun ∙ sym (begun-append begun₀ done (line ++ 10 ∷ []) ∙ begun-line (begun_after begun₀ done) line none);
      told = told ∙ ap (λ b. told_of c goes_on (b ++ line)) taken.begun
          ∙ sym (ap (told_after c goes_on told₀) (records-append begun₀ done (line ++ 10 ∷ []) ∙ ap (λ l. records_after begun₀ done ++ l) (records-line (begun_after begun₀ done) line none))
          ∙ told-append c goes_on told₀ (records_after begun₀ done) ((begun_after begun₀ done ++ line) ∷ []));
    }

    pub line-failed : (line others buffer : List ℕ) → HasNoFeed line → Begins w₁ w₂ (out₁ ++ chosen_of c goes_on (begun₁ ++ line)) → buffer ≡ (done ++ (line ++ 10 ∷ [])) ++ others → Begins w₀ w₂ (out₀ ++ chosen_after c goes_on begun₀ buffer)
    line-failed line others buffer none begins parts =
        let all = done ++ (line ++ 10 ∷ []) in
        let more = chosen_after c goes_on (begun_after begun₀ all) others in
        subst (λ (t : List ℕ). Begins w₀ w₂ t)
        (ap (λ l. l ++ more) (ap (λ t. out₀ ++ t) (ap (λ b. chosen_after c goes_on begun₀ done ++ chosen_of c goes_on (b ++ line)) taken.begun ∙ sym (chosen-line begun₀ done line none)))
        ∙ append_assoc out₀ (chosen_after c goes_on begun₀ all) more ∙ ap (λ t. out₀ ++ t) (sym (chosen-append c goes_on begun₀ all others) ∙ ap (chosen_after c goes_on begun₀) (sym parts)))
        (begin-more w₀ w₂ (out₀ ++ (chosen_after c goes_on begun₀ done ++ chosen_of c goes_on (begun₁ ++ line))) more
        (begin-after w₀ w₁ w₂ out₀ out₁ (chosen_after c goes_on begun₀ done) (chosen_of c goes_on (begun₁ ++ line)) taken.moved begins))

    -- no line more
    pub takes-rest : (rest buffer : List ℕ) → HasNoFeed rest → buffer ≡ done ++ rest → begun₂ ≡ begun₁ ++ rest → Appends w₁ w₂ out₁ → out₂ ≡ [] → Takes c goes_on buffer w₀ w₂ out₀ out₂ begun₀ begun₂ told₀ told₁
    takes-rest rest buffer none parts begun all empty = record {
      moved = subst (λ (t : List ℕ). Moves w₀ w₂ out₀ out₂ t) (append-nil (chosen_after c goes_on begun₀ done) ∙ sym (chosen-rest begun₀ done rest none) ∙ ap (chosen_after c goes_on begun₀) (sym parts))
          (move-on w₀ w₁ w₂ out₀ out₁ out₂ (chosen_after c goes_on begun₀ done) [] taken.moved (move-all w₁ w₂ out₁ out₂ all empty));
      begun = begun ∙ ap (λ b. b ++ rest) taken.begun ∙ sym (begun-none (begun_after begun₀ done) rest none) ∙ sym (begun-append begun₀ done rest) ∙ ap (begun_after begun₀) (sym parts);
      told = taken.told ∙ ap (told_after c goes_on told₀) (sym (append-nil (records_after begun₀ done)) ∙ ap (λ l. records_after begun₀ done ++ l) (sym (records-none (begun_after begun₀ done) rest none)) ∙ sym (records-append begun₀ done rest) ∙ ap (records_after begun₀) (sym parts));
    }

    pub rest-failed : (rest buffer : List ℕ) → buffer ≡ done ++ rest → Begins w₁ w₂ out₁ → Begins w₀ w₂ (out₀ ++ chosen_after c goes_on begun₀ buffer)
    rest-failed rest buffer parts begins =
        let more = chosen_after c goes_on (begun_after begun₀ done) rest in
        subst (λ (t : List ℕ). Begins w₀ w₂ t)
        (ap (λ l. l ++ more) (ap (λ t. out₀ ++ t) (append-nil (chosen_after c goes_on begun₀ done)))
        ∙ append_assoc out₀ (chosen_after c goes_on begun₀ done) more ∙ ap (λ t. out₀ ++ t) (sym (chosen-append c goes_on begun₀ done rest) ∙ ap (chosen_after c goes_on begun₀) (sym parts)))
        (begin-more w₀ w₂ (out₀ ++ (chosen_after c goes_on begun₀ done ++ [])) more
        (begin-after w₀ w₁ w₂ out₀ out₁ (chosen_after c goes_on begun₀ done) [] taken.moved (subst (λ (t : List ℕ). Begins w₁ w₂ t) (sym (append-nil out₁)) begins)))

  -- nothing was taken yet
  pub takes-none : (w : Option (List ℕ)) (out begun told : List ℕ) → Takes c goes_on [] w w out out begun begun told told
  takes-none w out begun told = record { moved = move-none w out; begun = refl; told = refl }

  -- ---- what follows
  pub listing-append : (given buffer begun : List ℕ) → begun ≡ begun_after [] given → chosen_listing c goes_on (given ++ buffer) ≡ chosen_listing c goes_on given ++ chosen_after c goes_on begun buffer
  unfolding chosen_listing
  listing-append given buffer begun is = chosen-append c goes_on [] given buffer ∙ ap (λ b. chosen_after c goes_on [] given ++ chosen_after c goes_on b buffer) (sym is)

  told-listing-append : (given buffer begun told : List ℕ) → begun ≡ begun_after [] given → told ≡ told_listing c goes_on given → told_listing c goes_on (given ++ buffer) ≡ told_after c goes_on told (records_after begun buffer)
  unfolding told_listing
  told-listing-append given buffer begun told is same =
      ap (told_after c goes_on []) (records-append [] given buffer) ∙ told-append c goes_on [] (records_after [] given) (records_after (begun_after [] given) buffer)
      ∙ ap (λ t. told_after c goes_on t (records_after (begun_after [] given) buffer)) (sym same) ∙ ap (λ b. told_after c goes_on told (records_after b buffer)) (sym is)

  pub follows-none : (before now : Option (List ℕ)) (given out begun told : List ℕ) → before ≡ now → given ≡ [] → out ≡ [] → begun ≡ [] → told ≡ [] → Appends before now (chosen_listing c goes_on given) × ((out ≡ []) × ((begun ≡ begun_after [] given) × (told ≡ told_listing c goes_on given)))
  unfolding chosen_listing told_listing
  follows-none before now given out begun told same none o b t = (
    subst (λ (l : List ℕ). Appends before now (chosen_listing c goes_on l)) (sym none) (subst (λ (w : Option (List ℕ)). Appends before w []) same (none-written before)),
    (o, (b ∙ sym (ap (begun_after []) none), t ∙ sym (ap (told_listing c goes_on) none))),
  )

  module _ {E : Type 0} (before w w' : Option (List ℕ)) (given buffer out out' begun begun' told told' : List ℕ) where
    pub follows-after : (fault : Option E) → is_some fault ≡ true → Follows fault c goes_on before w given out begun told → Follows fault c goes_on before w (given ++ buffer) out begun told
    follows-after None is follows = cc
    follows-after (Some error) is follows =
        first-of before w (chosen_listing c goes_on (given ++ buffer))
        (subst (λ (t : List ℕ). Begins before w t) (sym (listing-append given buffer (begun_after [] given) refl))
        (begin-more before w (chosen_listing c goes_on given) (chosen_after c goes_on (begun_after [] given) buffer) (begin-of before w (chosen_listing c goes_on given) follows)))

    pub follows-taken : (fault : Option E) → is_some fault ≡ false → Follows fault c goes_on before w given out begun told → Takes c goes_on buffer w w' out out' begun begun' told told' → out' ≡ [] → Appends before w' (chosen_listing c goes_on (given ++ buffer)) × ((out' ≡ []) × ((begun' ≡ begun_after [] (given ++ buffer)) × (told' ≡ told_listing c goes_on (given ++ buffer))))
    follows-taken (Some error) is follows taken empty = cc
    follows-taken None is follows taken empty =
        let part = taken.moved.0 in
        let all : chosen_after c goes_on begun buffer ≡ part = ap (λ l. l ++ chosen_after c goes_on begun buffer) (sym follows.1.0) ∙ taken.moved.2 ∙ ap (λ l. part ++ l) empty ∙ append-nil part in (
          subst (λ (t : List ℕ). Appends before w' t) (ap (λ l. chosen_listing c goes_on given ++ l) (sym all) ∙ sym (listing-append given buffer begun follows.1.1.0)) (Appends-trans before w w' (chosen_listing c goes_on given) part follows.0 taken.moved.1),
          (empty, (taken.begun ∙ ap (λ b. begun_after b buffer) follows.1.1.0 ∙ sym (begun-append [] given buffer), taken.told ∙ sym (told-listing-append given buffer begun told follows.1.1.0 follows.1.1.1))),
        )

    pub follows-failed : (fault : Option E) → is_some fault ≡ false → Follows fault c goes_on before w given out begun told → Begins w w' (out ++ chosen_after c goes_on begun buffer) → AppendsFirst before w' (chosen_listing c goes_on (given ++ buffer))
    follows-failed (Some error) is follows begins = cc
    follows-failed None is follows begins =
        let written = chosen_listing c goes_on given in let text = chosen_after c goes_on begun buffer in
        let e : out ++ text ≡ text = ap (λ l. l ++ text) follows.1.0 in
        first-of before w' (chosen_listing c goes_on (given ++ buffer))
        (subst (λ (t : List ℕ). Begins before w' t) (sym (listing-append given buffer begun follows.1.1.0))
        (written ++ begins.0, begins.1, Appends-trans before w w' written begins.0 follows.0 begins.2, ap (λ l. written ++ l) (sym e ∙ begins.3) ∙ sym (append_assoc written begins.0 begins.1)))
