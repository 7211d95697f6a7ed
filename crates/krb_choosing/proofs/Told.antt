-- What is told of the last record of a listing.
use Rattle.std.proofs.Common.{◌≡◌, ◌∙◌, ℕ, ◌==◌, inl, inr, Bool, true, false, cond, List, [], ◌∷◌, ◌++◌, length, Option, Some, None, refl, sym, ap, ap₂, subst, arith, length-append}
use Rattle.std.specs.Prelude.{◌&&◌, ◌||◌, nat_lt, not}
use Rattle.std.specs.List.{list_any}
use Rattle.std.proofs.lemmas.Bool.Decides.{eqb_tells}
use Rattle.std.proofs.lemmas.List.Folds.{list_any-append}
use Rattle.krb_record.specs.Forms.{aside_text, ending, fields_text, heading, is_marked, record_text}
use Rattle.krb_record.specs.Values.{LastLine, Printed}
use Rattle.krb_record.specs.declared.form.Form.{Form}
use Rattle.krb_choice.specs.Choices.{Choice, is_kept, is_there}
use Rattle.krb_choice.specs.Marked.{Piece, aside_of, pieces, read_record, unmarked}
use Rattle.krb_choosing.specs.Laws.{LastIsKeptOrTold}
use Rattle.krb_choosing.specs.Listings.{HasNoFeed, begun_after, is_last, records_after, told_after, told_if, told_listing, told_of}
use Rattle.krb_choosing.proofs.Listings.{records-append, records-line, told-append}

abbrev is_five : ℕ → Bool
is_five octet = octet == 5

-- a text with a mark 05 has a line that tells of it
has-line : (text : List ℕ) → list_any is_five text ≡ true → is_there (aside_of (pieces text)) ≡ true
has-line [] e = cc
has-line (c ∷ others) e = elim (eqb_tells c 5) [
  | inl five ↦ subst (λ (n : ℕ). is_there (aside_of (pieces (n ∷ others))) ≡ true) (sym five.1) refl
  | inr other ↦
      let rest : list_any is_five others ≡ true = sym (ap (λ b. b || list_any is_five others) other.0) ∙ e in
      let piece : Piece = record { mark = c; text = unmarked others } in
      elim (nat_lt c 32) as (λ b. is_there (aside_of (cond b (piece ∷ pieces others) (pieces others))) ≡ true) [
        | true ↦ ap (λ b. is_there (cond b (Some (unmarked others)) (aside_of (pieces others)))) other.0 ∙ has-line others rest
        | false ↦ has-line others rest
      ]
]

or-true : (b : Bool) → (b || true) ≡ true
or-true true = refl
or-true false = refl

any-within : (before text after : List ℕ) → list_any is_five text ≡ true → list_any is_five ((before ++ text) ++ after) ≡ true
any-within before text after e =
    list_any-append is_five (before ++ text) after
    ∙ ap (λ b. b || list_any is_five after) (list_any-append is_five before text ∙ ap (λ b. list_any is_five before || b) e ∙ or-true (list_any is_five before))

text-has : (f : Form) (r : Printed) (line : LastLine) → is_marked f ≡ true → r.aside ≡ Some line → list_any is_five (record_text f r) ≡ true
unfolding record_text
text-has f r line marked same = any-within (heading f r.origin r.kind ++ fields_text f r.fields) (aside_text f r.aside) (ending f r.inside r.last) (rw (same, marked) refl)

-- the last record is told
told-last : (c : Choice) (goes_on : Bool) (before text : List ℕ) → begun_after [] before ≡ [] → HasNoFeed text → told_listing c goes_on (before ++ (text ++ 10 ∷ [])) ≡ told_of c goes_on text
unfolding told_listing
told-last c goes_on before text whole none =
    ap (told_after c goes_on []) (records-append [] before (text ++ 10 ∷ []) ∙ ap (λ b. records_after [] before ++ records_after b (text ++ 10 ∷ [])) whole ∙ ap (λ l. records_after [] before ++ l) (records-line [] text none))
    ∙ told-append c goes_on [] (records_after [] before) (text ∷ [])

kept-if : (b : Bool) (line : Option (List ℕ)) → is_there line ≡ true → told_if b line ≡ [] → b ≡ true
kept-if true line there none = refl
kept-if false None there none = there
kept-if false (Some line) there none = absurd (omega (arith, ap (λ l. length l) none, length-append line (10 ∷ [])))

pub last-kept : LastIsKeptOrTold
last-kept c goes_on before f r line whole none marked same ends silent =
    let text = record_text f r in
    let there = has-line text (text-has f r line marked same) in
    let last : is_last goes_on text ≡ true = ap₂ (λ a b. a && not b) there ends in
    ap (λ l. is_kept c l (read_record text)) (sym last)
    ∙ kept-if (is_kept c (is_last goes_on text) (read_record text)) (aside_of (pieces text)) there (sym (told-last c goes_on before text whole none) ∙ silent)
