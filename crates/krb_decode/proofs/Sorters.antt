-- What a writer that sorts has of a text after more of it.
use Rattle.std.proofs.Common.{◌≡◌, ◌∙◌, ℕ, zero, suc, ◌==◌, Bool, true, false, List, [], ◌∷◌, ◌++◌, Option, cond, append-nil, sym, refl, ap, subst, arith}
use Rattle.std.specs.Prelude.{All, ◌||◌}
use Rattle.std.specs.Io.KnownBytes.{Appends}
use Rattle.std.proofs.KnownBytes.{Appends-nil, Appends-trans}
use Rattle.std.proofs.Math.Logic.{∥∥₁_map}
use Rattle.std.proofs.lemmas.List.Elements.{All-append}
use Rattle.krb_decode.specs.Sorted.{begun_after, is_any, is_of_message, message_lines, told_lines, written_of}
use Rattle.krb_decode.specs.inner.Sorter.{IsLine, Sorts, are_of_messages, goes_to_message, told_begun, within_after}
use Rattle.krb_decode.proofs.Sorted.{IsReady, are-written, begun-append, line-begun, message-more, message-same, told-append, told-more}

-- nothing was given
pub sorts-none : (IsTold : List ℕ → Type 0) (before now : Option (List ℕ)) (given : List ℕ) (is_within : Bool) (begun : List ℕ) (has_told : Bool) → before ≡ now → given ≡ [] → is_within ≡ false → begun ≡ [] → has_told ≡ false → Sorts IsTold before now given is_within begun has_told
unfolding message_lines told_lines
sorts-none IsTold before now given is_within begun has_told same none w b t =
    subst (λ (g : List ℕ). Sorts IsTold before now g is_within begun has_told) (sym none)
    (subst (λ (o : Option (List ℕ)). Appends before o []) same (Appends-nil before), (∣ (λ k d l. absurd (omega (arith, l))) ∣₁, (w, (b, t))))

-- nothing more was taken
pub sorts-same : (IsTold : List ℕ → Type 0) (before now : Option (List ℕ)) (given : List ℕ) (is_within : Bool) (begun begun' : List ℕ) (has_told : Bool) → begun' ≡ begun → Sorts IsTold before now given is_within begun has_told → Sorts IsTold before now (given ++ []) is_within begun' has_told
sorts-same IsTold before now given is_within begun begun' has_told same s =
    subst (λ (b : List ℕ). Sorts IsTold before now (given ++ []) is_within b has_told) (sym same) (subst (λ (g : List ℕ). Sorts IsTold before now g is_within begun has_told) (sym (append-nil given)) s)

-- ---- a line that is told, or all but its end
is-false : (a b : Bool) → (a || b) ≡ false → (a ≡ false) × (b ≡ false)
is-false true b e = absurd (let h : true ≡ false = e in cc)
is-false false b e = (refl, e)

first-same : (text xs rest : List ℕ) → text ≡ xs ++ rest → is_of_message text ≡ false → is_of_message xs ≡ false
first-same text [] rest is other = refl
first-same text (c ∷ others) rest is other = sym (ap is_of_message is) ∙ other

pub still-other : (is_within : Bool) (begun text xs rest : List ℕ) → text ≡ xs ++ rest → goes_to_message is_within begun text ≡ false → is_of_message begun ≡ false → is_of_message (begun ++ xs) ≡ false
still-other is_within [] text xs rest is goes other = first-same text xs rest is (is-false is_within (is_of_message text) goes).1
still-other is_within (f ∷ others) text xs rest is goes other = other

one-told : (IsTold : List ℕ → Type 0) (line : List ℕ) → IsTold line → All IsTold (line ∷ [])
one-told IsTold line told zero d l = told
one-told IsTold line told (suc k) d l = absurd (omega (arith, l))

any-more : (lines : List (List ℕ)) (line : List ℕ) → is_any (lines ++ line ∷ []) ≡ true
any-more [] line = refl
any-more (first ∷ others) line = refl

-- ---- octets of messages
ready-of : (is_within : Bool) (begun last text : List ℕ) → is_within ≡ is_of_message last → begun ≡ told_begun last → goes_to_message is_within begun text ≡ true → written_of last ≡ last
ready-of is_within begun [] text within is goes = refl
ready-of is_within begun (f ∷ others) text within is goes =
    elim (f == 0x7B) as (λ b. is_within ≡ b → begun ≡ cond b [] (f ∷ others) → cond b (f ∷ others) [] ≡ f ∷ others) [
      | true ↦ λ w e. refl
      | false ↦ λ (w : is_within ≡ false) (e : begun ≡ f ∷ others).
          let goes' : false ≡ true = sym (ap (λ (l : List ℕ). goes_to_message false l text) e) ∙ ap (λ b. goes_to_message b begun text) (sym w) ∙ goes in cc
    ] within is

none-told : (last : List ℕ) → written_of last ≡ last → told_begun last ≡ []
none-told [] ready = refl
none-told (f ∷ others) ready =
    elim (f == 0x7B) as (λ b. cond b (f ∷ others) [] ≡ f ∷ others → cond b [] (f ∷ others) ≡ [])
    [ true ↦ λ e. refl | false ↦ λ (e : [] ≡ f ∷ others). sym e ] ready

module _ (IsTold : List ℕ → Type 0) (before now : Option (List ℕ)) (given : List ℕ) (is_within : Bool) (begun : List ℕ) (has_told : Bool) (s : Sorts IsTold before now given is_within begun has_told) where
  module _ (text xs rest : List ℕ) (is : text ≡ xs ++ rest) where
    -- the line that has begun is not of a message
    module _ (goes : goes_to_message is_within begun text ≡ false) where
      old-other : is_of_message (begun_after [] given) ≡ false
      old-other = sym s.1.1.0 ∙ (is-false is_within _ goes).0

      begun-is : begun ≡ begun_after [] given
      begun-is = s.1.1.1.0 ∙ ap (λ b. cond b [] (begun_after [] given)) old-other

      new-other : is_of_message (begun_after [] given ++ xs) ≡ false
      new-other = ap (λ (l : List ℕ). is_of_message (l ++ xs)) (sym begun-is) ∙ still-other is_within begun text xs rest is goes (ap is_of_message begun-is ∙ old-other)

      pub sorts-begun : IsLine false xs → Sorts IsTold before now (given ++ xs) is_within (begun ++ xs) has_told
      sorts-begun line =
          let last : begun_after [] (given ++ xs) ≡ begun_after [] given ++ xs = begun-append [] given xs ∙ line-begun false (begun_after [] given) xs line in
          let told : told_lines (given ++ xs) ≡ told_lines given = told-more given false xs line new-other ∙ append-nil (told_lines given) in (
            subst (λ (t : List ℕ). Appends before now t) (sym (message-same given false xs line old-other new-other)) s.0,
            (
              subst (λ (t : List (List ℕ)). ∥ All IsTold t ∥₁) (sym told) s.1.0,
              (
                s.1.1.0 ∙ old-other ∙ sym (ap is_of_message last ∙ new-other),
                (ap (λ (l : List ℕ). l ++ xs) begun-is ∙ sym (ap told_begun last ∙ ap (λ b. cond b [] (begun_after [] given ++ xs)) new-other), s.1.1.1.1 ∙ ap is_any (sym told)),
              ),
            ),
          )

      pub sorts-told : IsLine true xs → IsTold (begun ++ xs) → Sorts IsTold before now (given ++ xs) is_within [] true
      sorts-told line was =
          let last : begun_after [] (given ++ xs) ≡ [] = begun-append [] given xs ∙ line-begun true (begun_after [] given) xs line in
          let told : told_lines (given ++ xs) ≡ told_lines given ++ (begun_after [] given ++ xs) ∷ [] = told-more given true xs line new-other in
          let it : All IsTold ((begun_after [] given ++ xs) ∷ []) = one-told IsTold (begun_after [] given ++ xs) (subst (λ (l : List ℕ). IsTold (l ++ xs)) begun-is was) in (
            subst (λ (t : List ℕ). Appends before now t) (sym (message-same given true xs line old-other new-other)) s.0,
            (
              subst (λ (t : List (List ℕ)). ∥ All IsTold t ∥₁) (sym told) (∥∥₁_map s.1.0 (λ (all : All IsTold (told_lines given)). All-append IsTold (told_lines given) ((begun_after [] given ++ xs) ∷ []) all it)),
              (s.1.1.0 ∙ old-other ∙ sym (ap is_of_message last), (sym (ap told_begun last), sym (ap is_any told ∙ any-more (told_lines given) (begun_after [] given ++ xs)))),
            ),
          )

  pub sorts-written : (after : Option (List ℕ)) (text xs : List ℕ) (is_within' : Bool) (begun' : List ℕ) (has_told' : Bool) → goes_to_message is_within begun text ≡ true → Appends now after xs → are_of_messages is_within xs ≡ true → is_within' ≡ within_after is_within xs → begun' ≡ begun → has_told' ≡ has_told → Sorts IsTold before after (given ++ xs) is_within' begun' has_told'
  sorts-written after text xs is_within' begun' has_told' goes added of within same-begun same-told =
      let last = begun_after [] given in
      let ready : IsReady last is_within = record { within = s.1.1.0; written = ready-of is_within begun last text s.1.1.0 s.1.1.1.0 goes } in
      let all = are-written last is_within xs ready of in
      let new : begun_after [] (given ++ xs) ≡ begun_after last xs = begun-append [] given xs in
      let told : told_lines (given ++ xs) ≡ told_lines given = told-append given xs ∙ ap (λ (l : List (List ℕ)). told_lines given ++ l) all.told ∙ append-nil (told_lines given) in (
        subst (λ (t : List ℕ). Appends before after t) (sym (message-more given xs (begun_after last xs) (within_after is_within xs) ready.written all refl)) (Appends-trans before now after (message_lines given) xs s.0 added),
        (
          subst (λ (t : List (List ℕ)). ∥ All IsTold t ∥₁) (sym told) s.1.0,
          (
            within ∙ all.ready.within ∙ sym (ap is_of_message new),
            (same-begun ∙ s.1.1.1.0 ∙ none-told last ready.written ∙ sym (ap told_begun new ∙ none-told (begun_after last xs) all.ready.written), same-told ∙ s.1.1.1.1 ∙ ap is_any (sym told)),
          ),
        ),
      )
