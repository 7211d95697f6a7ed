-- Pieces of a stream, whatever kind of lister lists it.
use Rattle.std.proofs.Common.{◌≡◌, ℕ, ◌+◌, ◌-◌, ◌*◌, ◌^◌, ◌<◌, ◌≤◌, inl, inr, Bool, true, false, List, [], ◌++◌, length, take, drop, Option, refl, sym, ◌∙◌, ap, subst, arith, append-nil, append_assoc, length-append, length-drop}
use Rattle.std.proofs.lemmas.List.{drop-drop, take_all}
use Rattle.std.proofs.Math.Seq.{take-add}
use Rattle.krb_run.specs.Streams.{Taken, with_piece, Begins, GoesOn, IsNew, AcceptsPiece, Feeds, Clears, IsLast, EndsListing, Finishes}
use Rattle.krb_run.specs.Pieces.{Kind, IsFed, Goes, TakesPiece, WaitsAfter, IsLastOf, listing_of}

-- the octets used so far, and some more
together : (piece rest stream : List ℕ) (used : ℕ) → rest ≡ drop (length piece - length rest) piece → (stream ++ take (length piece - length rest) piece) ++ take used rest ≡ stream ++ take (length piece - length rest + used) piece
together piece rest stream used e =
    append_assoc stream (take (length piece - length rest) piece) (take used rest)
    ∙ ap (λ l. stream ++ (take (length piece - length rest) piece ++ take used l)) e
    ∙ ap (λ l. stream ++ l) (sym (take-add (length piece - length rest) used piece))

module _ {L Q E : Type 0} (kind : Kind L Q E) where
  -- ---- a piece, as far as it was used
  -- some octets were used
  pub IsFed-used : (old new : L) (piece : List ℕ) (used : ℕ) → used ≤ length piece → kind.request new ≡ kind.request old → kind.IsWaiting new → kind.count new ≤ kind.count old + used → ((stream written : List ℕ) → kind.HasListed old stream written → kind.HasListed new (stream ++ take used piece) written) → IsFed kind old piece (drop used piece) new
  IsFed-used old new piece used within same waits few listed =
      let left : length piece - length (drop used piece) ≡ used = omega (arith, length-drop used piece) in
      record {
        place = ap (λ n. drop n piece) (sym left);
        within = omega (arith, length-drop used piece);
        same = same;
        waits = waits;
        few = omega (arith, length-drop used piece);
        listed = λ stream written h. subst (λ n. kind.HasListed new (stream ++ take n piece) written) (sym left) (listed stream written h);
      }

  -- none was used
  pub IsFed-start : (lister : L) (piece : List ℕ) → kind.IsWaiting lister → IsFed kind lister piece piece lister
  IsFed-start lister piece w =
      let none : length piece - length piece ≡ 0 = omega arith in
      record {
        place = ap (λ n. drop n piece) (sym none);
        within = omega arith;
        same = refl;
        waits = w;
        few = omega arith;
        listed = λ stream written h. subst (λ s. kind.HasListed lister s written) (sym (ap (λ n. stream ++ take n piece) none ∙ append-nil stream)) h;
      }

  goes_both : (lister : L) (all left used : ℕ) (goes_on : Bool) → left ≤ all → Goes kind lister left used goes_on → Goes kind lister all (all - left + used) goes_on
  goes_both lister all left used true within g = let whole : used ≡ left = g.0 in (omega arith, g.1)
  goes_both lister all left used false within g = g

  module _ {initial old new : L} {piece octets : List ℕ} (i : IsFed kind initial piece octets old) where
    more_listed : (used : ℕ) → ((stream written : List ℕ) → kind.HasListed old stream written → kind.HasListed new (stream ++ take used octets) written) → (stream written : List ℕ) → kind.HasListed initial stream written → kind.HasListed new (stream ++ take (length piece - length octets + used) piece) written
    more_listed used listed stream written h = subst (λ s. kind.HasListed new s written) (together piece octets stream used i.place) (listed (stream ++ take (length piece - length octets) piece) written (i.listed stream written h))

    -- and then of what was left
    pub IsFed-both : {rest : List ℕ} → IsFed kind old octets rest new → IsFed kind initial piece rest new
    IsFed-both {rest = rest} j =
        let some : length octets ≤ length piece = i.within in
        let more : length rest ≤ length octets = j.within in
        let left : length piece - length octets + (length octets - length rest) ≡ length piece - length rest = omega arith in
        record {
          place =
              j.place
              ∙ ap (drop (length octets - length rest)) i.place
              ∙ drop-drop (length octets - length rest) (length piece - length octets) piece
              ∙ ap (λ m. drop m piece) left;
          within = omega arith;
          same = j.same ∙ i.same;
          waits = j.waits;
          few = omega (arith, i.few, j.few);
          listed = λ stream written h. subst (λ m. kind.HasListed new (stream ++ take m piece) written) left (more_listed (length octets - length rest) j.listed stream written h);
        }

    pub TakesPiece-both : {goes_on : Bool} → TakesPiece kind old octets new goes_on → TakesPiece kind initial piece new goes_on
    TakesPiece-both {goes_on = goes_on} f = record {
      used = length piece - length octets + f.used;
      within = omega (arith, i.within, f.within);
      same = f.same ∙ i.same;
      listed = more_listed f.used f.listed;
      few = omega (arith, i.few, f.few);
      goes = goes_both new (length piece) (length octets) f.used goes_on i.within f.goes;
    }

  -- ---- a lister that accepts a piece
  pub may_wait : {lister : L} → AcceptsPiece (listing_of kind lister) → kind.IsWaiting lister
  may_wait m = m.waits.1.waits

  -- what is listed of a piece can be counted
  pub few_left : {initial now : L} {piece rest : List ℕ} → AcceptsPiece (listing_of kind initial) → length piece ≤ 65536 → IsFed kind initial piece rest now → kind.count now + length rest < 2 ^ 64
  few_left {initial = initial} m short i = let few : kind.count initial ≤ 65536 * m.taken.pieces = m.waits.1.few in omega (arith, m.few, i.few)

  -- ---- a lister of a stream
  module _ (begins : (lister : L) (taken : Taken) → WaitsAfter kind lister taken → Begins (kind.rules (kind.request lister)) taken (kind.text lister)) where
    -- nothing came yet
    pub IsNew-made : {lister : L} {request : Q} → kind.request lister ≡ request → kind.text lister ≡ [] → WaitsAfter kind lister (record { pieces = 0; octets = []; written = [] }) → IsNew (kind.rules request) request (listing_of kind lister)
    IsNew-made {lister = lister} {request = request} e none w =
        let start : Taken = record { pieces = 0; octets = []; written = [] } in
        record { waits = record { waits = (e, w); begins = subst (λ r. Begins (kind.rules r) start (kind.text lister)) e (begins lister start w) }; none = none }

    waits_on : {old new : L} {piece : List ℕ} (taken : Taken) → length piece ≤ 65536 → WaitsAfter kind old taken → TakesPiece kind old piece new true → WaitsAfter kind new (with_piece taken piece)
    waits_on {new = new} {piece = piece} taken short w f =
        let all : take f.used piece ≡ piece = ap (λ k. take k piece) f.goes.0 ∙ take_all (length piece) piece (omega arith) in
        record {
          listed = subst (λ l. kind.HasListed new (taken.octets ++ l) taken.written) all (f.listed taken.octets taken.written w.listed);
          waits = f.goes.1;
          few = omega (arith, w.few, f.few);
          short = omega (arith, w.short, short, length-append taken.octets piece);
        }

    module _ (stops : (old new : L) (piece : List ℕ) (taken : Taken) → length piece ≤ 65536 → WaitsAfter kind old taken → TakesPiece kind old piece new false → kind.Stops new (with_piece taken piece) × (kind.rules (kind.request new)).AreLines (taken.octets ++ piece) (taken.written ++ kind.text new)) where
      goes_on_after : {old new : L} {piece : List ℕ} (goes_on : Bool) (request : Q) (taken : Taken) → length piece ≤ 65536 → kind.request old ≡ request → WaitsAfter kind old taken → TakesPiece kind old piece new goes_on → GoesOn goes_on (kind.rules request) request (with_piece taken piece) (listing_of kind new)
      goes_on_after {new = new} {piece = piece} true request taken short e w f =
          let n = waits_on taken short w f in
          record { waits = (f.same ∙ e, n); begins = subst (λ r. Begins (kind.rules r) (with_piece taken piece) (kind.text new)) (f.same ∙ e) (begins new (with_piece taken piece) n) }
      goes_on_after {old = old} {new = new} {piece = piece} false request taken short e w f =
          let n = stops old new piece taken short w f in
          record { stops = (f.same ∙ e, n.0); lines = subst (λ r. (kind.rules r).AreLines (taken.octets ++ piece) (taken.written ++ kind.text new)) (f.same ∙ e) n.1 }

      -- a piece came
      pub Feeds-made : {old new : L} {piece : List ℕ} {goes_on : Bool} → length piece ≤ 65536 → TakesPiece kind old piece new goes_on → Feeds kind.rules (listing_of kind old) piece (listing_of kind new) goes_on
      Feeds-made {goes_on = goes_on} short f = λ request taken w. goes_on_after goes_on request taken short w.0 w.1 f

  -- the lines were written
  pub Clears-made : {old new : L} → kind.text new ≡ [] → kind.request new ≡ kind.request old → (kind.IsWaiting old → kind.IsWaiting new) → kind.count new ≡ kind.count old → ((stream written : List ℕ) → kind.HasListed old stream written → kind.HasListed new stream (written ++ kind.text old)) → Clears (listing_of kind old) (listing_of kind new)
  Clears-made {old = old} {new = new} none same waits count listed = record {
    none = none;
    waits = λ request taken w. (
      same ∙ w.0,
      record {
        listed = listed taken.octets taken.written w.1.listed;
        waits = waits w.1.waits;
        few = omega (arith, w.1.few, count);
        short = w.1.short;
      },
    );
  }

  -- the lines of the end were added
  pub Finishes-made : (old new : L) (ended : E) → ((taken : Taken) (left : Option (List ℕ)) → IsLastOf kind old taken left → EndsListing (kind.rules (kind.request old)) taken.octets (taken.written ++ kind.text new) left ended) → Finishes kind.rules (listing_of kind old) (listing_of kind new) ended
  Finishes-made old new ended made = λ request taken left last. by request taken left last
    where
      by : (request : Q) (taken : Taken) (left : Option (List ℕ)) → IsLast (listing_of kind old) request taken left → EndsListing (kind.rules request) taken.octets (taken.written ++ kind.text new) left ended
      by request taken left (inl (w, a)) = subst (λ r. EndsListing (kind.rules r) taken.octets (taken.written ++ kind.text new) left ended) w.0 (made taken left (inl (w.1, a)))
      by request taken left (inr s) = subst (λ r. EndsListing (kind.rules r) taken.octets (taken.written ++ kind.text new) left ended) s.0 (made taken left (inr s.1))
