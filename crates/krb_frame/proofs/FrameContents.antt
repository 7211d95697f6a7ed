-- The contents of a frame as they come.
use Rattle.std.specs.Prelude.{if◌then◌else◌, is_ok, is_err}
use Rattle.std.proofs.Common.{◌≡◌, ◌≢◌, ℕ, suc, ◌+◌, ◌-◌, ◌^◌, ◌<◌, ◌≤◌, min, inl, inr, List, ◌++◌, length, take, false, Result, Ok, Err, refl, sym, ◌∙◌, ap, subst, arith, length-append, length-take}
use Rattle.std.proofs.lemmas.Bool.{cases_lt}
use Rattle.std.proofs.lemmas.List.{take-append-le, take-take}
use Rattle.std.proofs.Math.Seq.{take-append-add}
use Rattle.krb_der.specs.Octets.{AreOctets}
use Rattle.krb_der.specs.declared.profile.Profile.{Profile}
use Rattle.krb_der.specs.declared.why.Why.{Why}
use Rattle.krb_der.specs.declared.verdict.Refusal.{Refusal}
use Rattle.krb_der.specs.declared.verdict.Verdict.{Verdict}
use Rattle.krb_der.specs.declared.verdict.Verdict.TheVariants as verdict
use Rattle.krb_msg.specs.Term.{Term}
use Rattle.krb_msg.specs.Grammar.{messages as grammar}
use Rattle.krb_msg.specs.Judgement.{judgement, judgement_by}
use Rattle.krb_msg.specs.Laws.{IsFinal}
use Rattle.krb_msg.proofs.Grammars.{refusal_is_final, all_is_decided, whole_is_one_of}
use Rattle.krb_scan.specs.Machine.{HasScanned, verdict_of}
use Rattle.krb_scan.specs.declared.machine.Machine.{Machine}
use Rattle.krb_frame.specs.declared.decoder.Status.TheVariants as status
use Rattle.krb_frame.specs.inner.Phases.{IsFedContents, IsEarly, status_by}

-- the octets of a vector that was extended
pub extended : {A B : Type 0} (r : Result A B) (held all kept : List ℕ) → held ≡ (if is_ok r then all else kept) → false ≡ is_err r → held ≡ all
extended (Ok done) held all kept e f = e
extended (Err error) held all kept e f = absurd cc

-- a verdict is not out of memory
pub not_memory : (decided : Verdict) → status_by decided ≢ status.Memory
not_memory verdict.Open e = cc
not_memory verdict.Whole e = cc
not_memory (verdict.Refused refusal) e = cc

-- ---- by any messages
module _ (messages : List Term) where
  -- a refusal is after the octets that left all open
  pub refused_later : (size : ℕ) (refusal : Refusal) (before piece : List ℕ) → length (before ++ piece) ≤ size → judgement_by messages size before ≡ verdict.Open → judgement_by messages size (before ++ piece) ≡ verdict.Refused refusal → length before ≤ refusal.place
  refused_later size refusal before piece l o e = elim (cases_lt refusal.place (length before)) [
    | inl h ↦
        let f = refusal_is_final messages size (before ++ piece) refusal.place refusal.why l e in
        let again : judgement_by messages size before ≡ verdict.Refused refusal = f.same before (omega (arith, length-append before piece)) (sym (take-append-le (suc refusal.place) before piece (omega arith))) in
        absurd cc
    | inr h ↦ h
  ]

  module _ (size count : ℕ) (before piece : List ℕ) (few : count ≤ length piece) (fits : length before + count ≤ size) where
    all : length (before ++ take count piece) ≡ length before + count
    all = omega (arith, length-append before (take count piece), length-take count piece)

    -- the place of a refusal
    pub record Stops (refusal : Refusal) : Type 0 where
      pub final : IsFinal messages size (before ++ take count piece) refusal.place refusal.why
      pub later : length before ≤ refusal.place
      pub inside : refusal.place < length before + count
      pub small : refusal.place < size

    pub stops : (refusal : Refusal) → judgement_by messages size before ≡ verdict.Open → judgement_by messages size (before ++ take count piece) ≡ verdict.Refused refusal → Stops refusal
    stops refusal o e =
        let f = refusal_is_final messages size (before ++ take count piece) refusal.place refusal.why (omega (arith, all)) e in
        record { final = f; later = refused_later size refusal before (take count piece) (omega (arith, all)) o e; inside = omega (arith, f.within, all); small = omega (arith, f.within, all) }

    -- the last of the octets that were fed is refused, if no prefix before it decided anything
    pub taken-refused : (place : ℕ) (reason : Why) → judgement_by messages size before ≡ verdict.Open → ((k : ℕ) → k < count → judgement_by messages size (before ++ take k piece) ≡ verdict.Open) → judgement_by messages size (before ++ take count piece) ≡ verdict.Refused (record { place = place; why = reason }) → IsFedContents messages size before piece (before ++ take count piece) (record { used = count; status = status.Refused (record { place = 4 + place; why = reason }) })
    taken-refused place reason o sooner e = record {
      within = few;
      contents = refl;
      present = omega (arith, all);
      decided = record { offset = place; place = refl; judged = e; last = omega (arith, last, all) };
    }
      where
        refusal : Refusal
        refusal = record { place = place; why = reason }

        s : Stops refusal
        s = stops refusal o e

        cut : length (take (place + 1) (before ++ take count piece)) ≡ min (place + 1) (length (before ++ take count piece))
        cut = length-take (place + 1) (before ++ take count piece)

        prefix : take (place + 1) (before ++ take count piece) ≡ before ++ take (place + 1 - length before) piece
        prefix =
            (let n : place + 1 ≡ length before + (place + 1 - length before) = omega (arith, s.later) in ap (λ (k : ℕ). take k (before ++ take count piece)) n)
            ∙ take-append-add before (take count piece) (place + 1 - length before)
            ∙ ap (λ (l : List ℕ). before ++ l) (take-take (place + 1 - length before) count piece (omega (arith, s.later, s.inside)))

        again : judgement_by messages size (take (place + 1) (before ++ take count piece)) ≡ verdict.Refused refusal
        again = s.final.same (take (place + 1) (before ++ take count piece)) (omega (arith, cut, s.inside)) (take-take (suc place) (place + 1) (before ++ take count piece) (omega arith))

        both : verdict.Open ≡ verdict.Refused refusal → ⊥
        both e = cc

        last : place + 1 ≡ length before + count
        last = elim (cases_lt (place + 1) (length before + count)) [
          | inl h ↦ absurd (both (sym (sooner (place + 1 - length before) (omega (arith, s.later, h))) ∙ ap (judgement_by messages size) (sym prefix) ∙ again))
          | inr h ↦ omega (arith, s.inside, h)
        ]

    pub taken-whole : AreOctets (before ++ take count piece) → verdict.Whole ≡ judgement_by messages size (before ++ take count piece) → IsFedContents messages size before piece (before ++ take count piece) (record { used = count; status = status.Ready })
    taken-whole are e = record {
      within = few;
      contents = refl;
      present = omega (arith, all);
      decided = (sym e, (whole_is_one_of messages size (before ++ take count piece) are (omega (arith, all)) (sym e)).all);
    }

    -- the piece has no more octets, or the contents are complete
    pub taken-open : 0 < size → count ≡ min (length piece) (size - length before) → verdict.Open ≡ judgement_by messages size (before ++ take count piece) → IsFedContents messages size before piece (before ++ take count piece) (record { used = count; status = status.More })
    taken-open some k e = record {
      within = few;
      contents = refl;
      present = omega (arith, all);
      decided = (
        sym e,
        elim (cases_lt count (length piece)) [
          | inl h ↦ absurd (all_is_decided messages size (before ++ take count piece) some (omega (arith, all)) (sym e))
          | inr h ↦ omega arith
        ],
      );
    }

-- ---- by the messages of a profile
-- The octets of a piece that a machine scanned: as many as are missing, or as the piece has.
pub record Took (profile : Profile) (size n used : ℕ) (before piece : List ℕ) (machine : Machine) : Type 0 where
  pub some : 0 < size
  pub fits : length before ≤ size
  pub many : n ≡ min (length piece) (size - length before)
  pub undecided : judgement profile size before ≡ verdict.Open
  pub within : used ≤ length (take n piece)
  pub at : HasScanned profile machine size (before ++ take used (take n piece))
  pub all : verdict_of machine ≡ verdict.Open → used ≡ length (take n piece)
  pub sooner : (k : ℕ) → k < used → judgement profile size (before ++ take k (take n piece)) ≡ verdict.Open

pub took : (profile : Profile) (size n used : ℕ) (before piece : List ℕ) (machine : Machine) → 0 < size → length before ≤ size → n ≡ min (length piece) (size - length before) → judgement profile size before ≡ verdict.Open → used ≤ length (take n piece) → HasScanned profile machine size (before ++ take used (take n piece)) → (verdict_of machine ≡ verdict.Open → used ≡ length (take n piece)) → ((k : ℕ) → k < used → judgement profile size (before ++ take k (take n piece)) ≡ verdict.Open) → Took profile size n used before piece machine
took profile size n used before piece machine some fits many undecided within at all sooner = record { some = some; fits = fits; many = many; undecided = undecided; within = within; at = at; all = all; sooner = sooner }

module _ (profile : Profile) (size n used : ℕ) (before piece : List ℕ) (machine : Machine) (t : Took profile size n used before piece machine) where
  few : used ≤ length piece
  few = omega (arith, t.within, length-take n piece)

  fits : length before + used ≤ size
  fits = omega (arith, t.within, t.fits, t.many, length-take n piece)

  prefix : (k : ℕ) → k ≤ used → before ++ take k (take n piece) ≡ before ++ take k piece
  prefix k h = ap (λ l. before ++ l) (take-take k n piece (omega (arith, h, t.within, length-take n piece)))

  -- the contents that are kept
  pub took-cut : (held : List ℕ) → held ≡ before ++ take n piece → take (length before + used) held ≡ before ++ take used piece
  took-cut held e = ap (take (length before + used)) e ∙ take-append-add before (take n piece) used ∙ prefix used (omega arith)

  pub took-at : HasScanned profile machine size (before ++ take used piece)
  took-at = subst (HasScanned profile machine size) (prefix used (omega arith)) t.at

  -- a refusal is of one of the octets
  pub took-early : size < 2 ^ 31 → IsEarly (verdict_of machine)
  took-early short = by (verdict_of machine) took-at.decides
    where
      by : (decided : Verdict) → decided ≡ judgement profile size (before ++ take used piece) → IsEarly decided
      by verdict.Open e = tt
      by verdict.Whole e = tt
      by (verdict.Refused refusal) e = omega (arith, short, (stops (grammar profile) size used before piece few fits refusal t.undecided (sym e)).small)

  pub took-taken : IsFedContents (grammar profile) size before piece (before ++ take used piece) (record { used = used; status = status_by (verdict_of machine) })
  took-taken = by (verdict_of machine) took-at.decides t.all
    where
      sooner : (k : ℕ) → k < used → judgement profile size (before ++ take k piece) ≡ verdict.Open
      sooner k h = ap (judgement profile size) (sym (prefix k (omega (arith, h)))) ∙ t.sooner k h

      by : (decided : Verdict) → decided ≡ judgement profile size (before ++ take used piece) → (decided ≡ verdict.Open → used ≡ length (take n piece)) → IsFedContents (grammar profile) size before piece (before ++ take used piece) (record { used = used; status = status_by decided })
      by verdict.Open e all = taken-open (grammar profile) size used before piece few fits t.some (omega (arith, all refl, t.many, length-take n piece)) e
      by verdict.Whole e all = taken-whole (grammar profile) size used before piece few fits took-at.are_octets e
      by (verdict.Refused refusal) e all = taken-refused (grammar profile) size used before piece few fits refusal.place refusal.why t.undecided sooner (sym e)
