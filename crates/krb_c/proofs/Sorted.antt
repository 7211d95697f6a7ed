-- A text whose lines are sorted octet by octet.
use Rattle.std.proofs.Common.{◌≡◌, ℕ, ◌==◌, Bool, true, false, List, [], ◌∷◌, ◌++◌, Option, Some, None, cond, ◌<◌, length, arith, refl, sym, ◌∙◌, ap, append_assoc, append-nil}
use Rattle.std.specs.Prelude.{flat_map}
use Rattle.krb_run.specs.declared.run.RunEnd.{RunEnd}
use Rattle.krb_decode.specs.Sorted.{begun_after as begun_of, lines_after, message_lines, written_of}
use Rattle.krb_c.specs.Turned.{IsSorted, said_lines, said_of, told_end}
use Rattle.krb_c.specs.inner.Sorting.{begun_after, is_of_message, of_lines, of_said, parted}

-- ---- lines, by their octets
-- what is known of a line of which this has come
abbrev known_of : List ℕ → Option Bool
known_of [] = None
known_of (first ∷ others) = Some (first == 0x7B)

known-more : (begun : List ℕ) (octet : ℕ) → Some (is_of_message (known_of begun) octet) ≡ known_of (begun ++ octet ∷ [])
known-more [] octet = refl
known-more (first ∷ others) octet = refl

module _ (of_line : List ℕ → List ℕ) (of_octet : Bool → ℕ → List ℕ) (none : [] ≡ of_line [])
    (more : (begun : List ℕ) (octet : ℕ) → of_line begun ++ of_octet (is_of_message (known_of begun) octet) octet ≡ of_line (begun ++ octet ∷ [])) where
  parted-lines : (begun text : List ℕ) → of_line begun ++ parted of_octet (known_of begun) text ≡ flat_map of_line (lines_after begun text) ++ of_line (begun_of begun text)
  parted-lines begun [] = append-nil (of_line begun)
  parted-lines begun (octet ∷ text) =
      let b = is_of_message (known_of begun) octet in
      let line = begun ++ octet ∷ [] in
      sym (append_assoc (of_line begun) (of_octet b octet) (parted of_octet (begun_after b octet) text))
      ∙ ap (λ (l : List ℕ). l ++ parted of_octet (begun_after b octet) text) (more begun octet)
      ∙ elim (octet == 10) as (λ e. of_line line ++ parted of_octet (cond e None (Some b)) text ≡ flat_map of_line (cond e (line ∷ lines_after [] text) (lines_after line text)) ++ of_line (cond e (begun_of [] text) (begun_of line text))) [
        | true ↦ ap (λ (l : List ℕ). of_line line ++ l) (ap (λ (l : List ℕ). l ++ parted of_octet None text) none ∙ parted-lines [] text) ∙ sym (append_assoc (of_line line) (flat_map of_line (lines_after [] text)) (of_line (begun_of [] text)))
        | false ↦ ap (λ (s : Option Bool). of_line line ++ parted of_octet s text) (known-more begun octet) ∙ parted-lines line text
      ]

written-more : (begun : List ℕ) (octet : ℕ) → written_of begun ++ of_lines (is_of_message (known_of begun) octet) octet ≡ written_of (begun ++ octet ∷ [])
written-more [] octet = elim (octet == 0x7B) as (λ b. of_lines b octet ≡ cond b (octet ∷ []) []) [ true ↦ refl | false ↦ refl ]
written-more (first ∷ others) octet = elim (first == 0x7B) as (λ b. cond b (first ∷ others) [] ++ of_lines b octet ≡ cond b (first ∷ (others ++ octet ∷ [])) []) [ true ↦ refl | false ↦ refl ]

said-more : (begun : List ℕ) (octet : ℕ) → said_of begun ++ of_said (is_of_message (known_of begun) octet) octet ≡ said_of (begun ++ octet ∷ [])
said-more [] octet = elim (octet == 0x7B) as (λ b. of_said b octet ≡ cond b [] (octet ∷ [])) [ true ↦ refl | false ↦ refl ]
said-more (first ∷ others) octet = elim (first == 0x7B) as (λ b. cond b [] (first ∷ others) ++ of_said b octet ≡ cond b [] (first ∷ (others ++ octet ∷ []))) [ true ↦ refl | false ↦ refl ]

message-parted : (text : List ℕ) → parted of_lines None text ≡ message_lines text
unfolding message_lines
message-parted text = parted-lines written_of of_lines refl written-more [] text

said-parted : (text : List ℕ) → parted of_said None text ≡ said_lines text
said-parted text = parted-lines said_of of_said refl said-more [] text

pub none-left : (rest : List ℕ) → length rest < 1 → rest ≡ []
none-left [] few = refl
none-left (octet ∷ others) few = absurd (omega (arith, few))

-- ---- the lines so far, and what the rest adds to them
pub record AreSorted (text : List ℕ) (begun : Option Bool) (rest lines said : List ℕ) : Type 0 where
  pub lines_so : parted of_lines None text ≡ lines ++ parted of_lines begun rest
  pub said_so : parted of_said None text ≡ said ++ parted of_said begun rest

module _ (text : List ℕ) where
  pub none-sorted : (lines said : List ℕ) → lines ≡ [] → said ≡ [] → AreSorted text None text lines said
  none-sorted lines said bare other = record { lines_so = ap (λ (l : List ℕ). l ++ parted of_lines None text) (sym bare); said_so = ap (λ (l : List ℕ). l ++ parted of_said None text) (sym other) }

  -- the same of either
  part-more : (of_octet : Bool → ℕ → List ℕ) (begun : Option Bool) (octet : ℕ) (others rest part new : List ℕ) (of_message : Bool) (after : Option Bool) → parted of_octet None text ≡ part ++ parted of_octet begun rest → rest ≡ octet ∷ others
      → of_message ≡ is_of_message begun octet → after ≡ begun_after of_message octet → new ≡ part ++ of_octet of_message octet → parted of_octet None text ≡ new ++ parted of_octet after others
  part-more of_octet begun octet others rest part new of_message after was is of next adds =
      let b = is_of_message begun octet in
      was
      ∙ ap (λ (r : List ℕ). part ++ parted of_octet begun r) is
      ∙ sym (append_assoc part (of_octet b octet) (parted of_octet (begun_after b octet) others))
      ∙ ap (λ (l : List ℕ). l ++ parted of_octet (begun_after b octet) others) (sym (adds ∙ ap (λ (x : Bool). part ++ of_octet x octet) of))
      ∙ ap (λ (a : Option Bool). new ++ parted of_octet a others) (sym (next ∙ ap (λ (x : Bool). begun_after x octet) of))

  pub next-sorted : (begun : Option Bool) (octet : ℕ) (others rest lines said new_lines new_said : List ℕ) (of_message : Bool) (after : Option Bool) → AreSorted text begun rest lines said → rest ≡ octet ∷ others
      → of_message ≡ is_of_message begun octet → after ≡ begun_after of_message octet → new_lines ≡ lines ++ of_lines of_message octet → new_said ≡ said ++ of_said of_message octet
      → AreSorted text after others new_lines new_said
  next-sorted begun octet others rest lines said new_lines new_said of_message after was is of next l s = record {
    lines_so = part-more of_lines begun octet others rest lines new_lines of_message after was.lines_so is of next l;
    said_so = part-more of_said begun octet others rest said new_said of_message after was.said_so is of next s;
  }

  part-all : (of_octet : Bool → ℕ → List ℕ) (begun : Option Bool) (rest part : List ℕ) → parted of_octet None text ≡ part ++ parted of_octet begun rest → rest ≡ [] → part ≡ parted of_octet None text
  part-all of_octet begun rest part was none = sym (was ∙ ap (λ (r : List ℕ). part ++ parted of_octet begun r) none ∙ append-nil part)

  pub all-sorted : (begun : Option Bool) (rest lines said : List ℕ) (ended end : RunEnd) → AreSorted text begun rest lines said → rest ≡ [] → end ≡ told_end ended said → IsSorted text ended lines said end
  all-sorted begun rest lines said ended end was none is = (
    part-all of_lines begun rest lines was.lines_so none ∙ message-parted text,
    part-all of_said begun rest said was.said_so none ∙ said-parted text,
    is,
  )
