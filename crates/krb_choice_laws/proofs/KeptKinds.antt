-- Messages of a kind that is kept are shown.
use Rattle.std.proofs.Common.{◌≡◌, ◌∙◌, ℕ, ◌+◌, ◌-◌, ◌*◌, ◌%◌, ◌^◌, ◌&&◌, ◌||◌, not, Bool, true, false, cond, List, [], ◌∷◌, length, map, Option, Some, None, inl, inr, sym, refl, ap, subst, arith}
use Rattle.std.proofs.lemmas.Bool.{and_parts, or_cases}
use Rattle.std.proofs.lemmas.Nat.Bits.{bit_at-pow_same, bit_at_mask_inside}
use Rattle.std.proofs.lemmas.Slice.Eq.{bytes_eq-Decides}
use Rattle.std.specs.Int.{bit_at}
use Rattle.std.specs.List.{AllByRecursion, list_all, list_any}
use Rattle.std.specs.Option.{option_map}
use Rattle.std.specs.Prelude.{IfSome, bytes_eq}
use Rattle.krb_record.specs.Forms.{kind_bit, nothing_wanted, octet_at, shows_kind}
use Rattle.krb_record.specs.Values.{Part, Printed}
use Rattle.krb_record.specs.declared.form.Base.TheVariants as bases
use Rattle.krb_record.specs.declared.form.Wanted.{Wanted}
use Rattle.krb_choice.specs.Choices.{Choice, Column, Print, Rows, Whole, chooses, chosen_text, has, is_kept, kind_alone, parts_of, shown, shown_part, text_by}
use Rattle.krb_choice.specs.Wanted.{and_bits, choice_form, may_be_inside, with_columns, with_inside, with_kind, with_kinds}
use Rattle.krb_choice_laws.specs.Plain.{IsPlain, IsPlainPart}
use Rattle.krb_choice_laws.proofs.Wants.{Grows, columns-grow, kinds-grow, or_left, or_right, set_bit}

-- ---- the bit of a kind
abbrev kind_place : List ℕ → ℕ
kind_place kind = 16 + (3 * length kind + octet_at kind (length kind - 1)) % 16

record HasKind (kind : List ℕ) (w : Wanted) : Type 0 where
  pub is : bit_at w.bits (kind_place kind) ≡ 1

grows : (kind : List ℕ) → Grows (HasKind kind)
grows kind w bits h = record { is = or_left w.bits bits (kind_place kind) h.is }

own : (kind : List ℕ) (w : Wanted) → HasKind kind (and_bits w (kind_bit kind))
own kind w = record { is = or_right w.bits (kind_bit kind) (kind_place kind) (bit_at-pow_same (kind_place kind)) }

any : (kind : List ℕ) (w : Wanted) → HasKind kind (with_inside (and_bits w (0xFFFF * 2 ^ 16)))
any kind w = grows kind (and_bits w (0xFFFF * 2 ^ 16)) (2 ^ 63) (record { is = or_right w.bits (0xFFFF * 2 ^ 16) (kind_place kind) (bit_at_mask_inside 16 32 (kind_place kind) (omega arith) (omega arith)) })

one : (by_kind : Bool) (w : Wanted) (kind : List ℕ) → HasKind kind (with_kind by_kind w kind)
one by_kind w kind = by (by_kind && may_be_inside kind)
  where
    by : (b : Bool) → HasKind kind (cond b (with_inside (and_bits w (0xFFFF * 2 ^ 16))) (and_bits w (kind_bit kind)))
    by true = any kind w
    by false = own kind w

among : (by_kind : Bool) (w : Wanted) (kinds : List (List ℕ)) (kind : List ℕ) → list_any (bytes_eq kind) kinds ≡ true → HasKind kind (with_kinds w by_kind kinds)
among by_kind w [] kind e = cc
among by_kind w (first ∷ others) kind e =
    elim (or_cases (bytes_eq kind first) (list_any (bytes_eq kind) others) e) [
      | inl same ↦
          kinds-grow (HasKind kind) (grows kind) by_kind (with_kind by_kind w first) others
          (subst (λ (k : List ℕ). HasKind kind (with_kind by_kind w k)) ((bytes_eq-Decides kind first).0 same) (one by_kind w kind))
      | inr more ↦ among by_kind (with_kind by_kind w first) others kind more
    ]

-- if a kind of what is inside chooses, all messages are shown
within : (w : Wanted) (kinds : List (List ℕ)) (part kind : List ℕ) → may_be_inside part ≡ true → list_any (bytes_eq part) kinds ≡ true → HasKind kind (with_kinds w true kinds)
within w [] part kind h e = cc
within w (first ∷ others) part kind h e =
    elim (or_cases (bytes_eq part first) (list_any (bytes_eq part) others) e) [
      | inl same ↦
          kinds-grow (HasKind kind) (grows kind) true (with_kind true w first) others
          (subst (λ (b : Bool). HasKind kind (cond b (with_inside (and_bits w (0xFFFF * 2 ^ 16))) (and_bits w (kind_bit first)))) (sym (ap may_be_inside (sym ((bytes_eq-Decides part first).0 same)) ∙ h)) (any kind w))
      | inr more ↦ within (with_kind true w first) others part kind h more
    ]

parts-within : (w : Wanted) (kinds : List (List ℕ)) (kind : List ℕ) (parts : List Part) → AllByRecursion IsPlainPart parts → list_any (λ p. list_any (bytes_eq p.kind) kinds) (map shown_part parts) ≡ true → HasKind kind (with_kinds w true kinds)
parts-within w kinds kind [] h e = cc
parts-within w kinds kind (p ∷ others) h e =
    elim (or_cases (list_any (bytes_eq p.kind) kinds) (list_any (λ p. list_any (bytes_eq p.kind) kinds) (map shown_part others)) e) [
      | inl this ↦ within w kinds p.kind kind h.0.is_inside this
      | inr more ↦ parts-within w kinds kind others h.1 more
    ]

inside-within : (w : Wanted) (kinds : List (List ℕ)) (kind : List ℕ) (inside : Option (List Part)) → IfSome inside (λ parts. AllByRecursion IsPlainPart parts)
    → list_any (λ p. list_any (bytes_eq p.kind) kinds) (parts_of (option_map (map shown_part) inside)) ≡ true → HasKind kind (with_kinds w true kinds)
inside-within w kinds kind None h e = cc
inside-within w kinds kind (Some parts) h e = parts-within w kinds kind parts h e

-- ---- a record that is kept
module _ (kinds : List (List ℕ)) (columns : List Column) (is_last : Bool) (r : Printed) (plain : IsPlain r) where
  abbrev kind : List ℕ
  kind = kind_alone r.kind

  kept-kind : (by_kind : Bool) → is_kept (record { by_kind = by_kind; kinds = kinds; print = Rows columns }) is_last (shown r) ≡ true → HasKind kind (with_kinds nothing_wanted by_kind kinds)
  kept-kind true e =
      elim (or_cases (list_any (bytes_eq kind) kinds) (list_any (λ p. list_any (bytes_eq p.kind) kinds) (parts_of (option_map (map shown_part) r.inside))) e) [
        | inl this ↦ among true nothing_wanted kinds kind this
        | inr more ↦ inside-within nothing_wanted kinds kind r.inside plain.inside more
      ]
  kept-kind false e =
      let all = list_all (λ column. not (chooses column) || has column (shown r)) columns in
      let parts = and_parts (list_any (bytes_eq kind) kinds && all) (list_any chooses columns || not is_last) e in
      among false nothing_wanted kinds kind (and_parts (list_any (bytes_eq kind) kinds) all parts.0).0

pub kept-shown : (c : Choice) (is_last : Bool) (r : Printed) → IsPlain r → is_kept c is_last (shown r) ≡ true → shows_kind (choice_form c) (kind_alone r.kind) ≡ true
unfolding choice_form shows_kind
kept-shown c is_last r plain = by c.print
  where
    by : (print : Print) → is_kept (record { by_kind = c.by_kind; kinds = c.kinds; print = print }) is_last (shown r) ≡ true → shows_kind (choice_form (record { by_kind = c.by_kind; kinds = c.kinds; print = print })) (kind_alone r.kind) ≡ true
    by (Rows columns) e =
        let w = with_kinds nothing_wanted c.by_kind c.kinds in
        ap not (set_bit (with_columns w columns).bits (kind_place (kind_alone r.kind)) (columns-grow (HasKind (kind_alone r.kind)) (grows (kind_alone r.kind)) w columns (kept-kind c.kinds columns is_last r plain c.by_kind e)).is)
    by (Whole bases.Lines) e = refl
    by (Whole bases.NamedLines) e = refl
    by (Whole bases.Json) e = refl

-- ---- all kinds
pub all-kept : (kinds : List (List ℕ)) (print : Print) (is_last : Bool) (r : Printed) → list_any (bytes_eq (kind_alone r.kind)) kinds ≡ true → chosen_text (record { by_kind = true; kinds = kinds; print = print }) is_last r ≡ text_by print r
unfolding chosen_text
all-kept kinds print is_last r e = ap (λ b. cond (b || list_any (λ p. list_any (bytes_eq p.kind) kinds) (parts_of (option_map (map shown_part) r.inside))) (text_by print r) []) e
