-- Four segments that are all of a stream: its SYN, its last octets with the FIN, its first ones, of which one is a copy, and the last ones again.
use Rattle.std.proofs.Common.{ℕ, ◌<◌, inl, inr, Bool, true, false, not, List, [], ◌∷◌, length, refl, arith}
use Rattle.std.proofs.lemmas.Bool.{cases_lt}
use Rattle.krb_source.specs.declared.endpoint.Endpoint.{Endpoint}
use Rattle.krb_flow.specs.declared.direction.Beginning.TheVariants.{Syn}
use Rattle.krb_flow.specs.Arrivals.{AreAllOf}
use Rattle.krb_flow.specs.Laws.{Piece, IsCaptured}

module _ (from to : Endpoint) where
  -- octet 0 has the number 1
  abbrev piece : ℕ → Bool → Bool → List ℕ → ℕ → Piece
  piece place syn fin octets sequence = (place, record { source = from; target = to; sequence = sequence; fin = fin; syn = syn; rst = false; ack = not syn; payload = record { octets = octets; size = length octets } })

  abbrev pieces : List Piece
  pieces = piece 0 true false [] 0 ∷ piece 2 false true (30 ∷ 40 ∷ []) 3 ∷ piece 0 false false (10 ∷ 20 ∷ 30 ∷ []) 1 ∷ piece 2 false true (30 ∷ 40 ∷ []) 3 ∷ []

  captured : (place : ℕ) → place < 4 → IsCaptured place pieces
  captured place within = elim (cases_lt place 2) [
    | inl sooner ↦ inr (inr (inl (omega arith, omega arith)))
    | inr later ↦ inr (inl (omega arith, omega arith))
  ]

  are_all : AreAllOf (10 ∷ 20 ∷ 30 ∷ 40 ∷ []) Syn pieces
  are_all = record {
    short = omega arith;
    segments = (
      refl,
      refl,
      (
        record {
          has_octets = tt;
          captured = omega arith;
          within = λ some. omega arith;
          number = refl;
          not_early = λ place far. absurd (omega arith);
          not_late = λ place old. absurd old;
          fin = λ is. absurd cc;
          rst = λ is. absurd cc;
          syn = λ is. refl;
        },
        (
          record {
            has_octets = (refl, (refl, tt));
            captured = omega arith;
            within = λ some. omega arith;
            number = refl;
            not_early = λ place far. absurd (omega arith);
            not_late = λ place old. elim old [ inl there ↦ omega (arith, there.1) | inr none ↦ absurd none ];
            fin = λ is. refl;
            rst = λ is. absurd cc;
            syn = λ is. absurd cc;
          },
          (
            record {
              has_octets = (refl, (refl, (refl, tt)));
              captured = omega arith;
              within = λ some. omega arith;
              number = refl;
              not_early = λ place far. absurd (omega arith);
              not_late = λ place old. elim old [ inl there ↦ omega (arith, there.1) | inr older ↦ elim older [ inl there ↦ omega (arith, there.1) | inr none ↦ absurd none ] ];
              fin = λ is. absurd cc;
              rst = λ is. absurd cc;
              syn = λ is. absurd cc;
            },
            (
              record {
                has_octets = (refl, (refl, tt));
                captured = omega arith;
                within = λ some. omega arith;
                number = refl;
                not_early = λ place far. absurd (omega arith);
                not_late = λ place old. elim old [
                  | inl there ↦ omega (arith, there.1)
                  | inr older ↦ elim older [ inl there ↦ omega (arith, there.1) | inr first ↦ elim first [ inl there ↦ omega (arith, there.1) | inr none ↦ absurd none ] ]
                ];
                fin = λ is. refl;
                rst = λ is. absurd cc;
                syn = λ is. absurd cc;
              },
              tt,
            ),
          ),
        ),
      ),
    );
    all = λ place within. captured place (omega arith);
  }
