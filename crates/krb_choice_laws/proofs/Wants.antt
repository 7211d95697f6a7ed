-- What is wanted, so that the columns of a choice are shown.
use Rattle.std.proofs.Common.{◌≡◌, ◌∙◌, ℕ, ◌+◌, ◌*◌, ◌/◌, ◌%◌, ◌^◌, ◌==◌, ◌&&◌, not, Bool, true, false, cond, List, [], ◌∷◌, ◌++◌, length, Option, Some, None, inl, inr, sym, refl, ap, arith, codes, subst}
use Rattle.std.proofs.lemmas.Bool.{ne_eqb, or_cases}
use Rattle.std.proofs.lemmas.Nat.{or_mod, or_shr, pow_pos}
use Rattle.std.proofs.lemmas.Nat.Bits.{and_pow, bit_at-lt, bit_at-pow_same, bit_at_or}
use Rattle.std.proofs.lemmas.Slice.Eq.{bytes_eq-Decides}
use Rattle.std.specs.Int.{bit_at}
use Rattle.std.specs.Int.RustNames.{bit_and, bit_or}
use Rattle.std.specs.List.{AllByRecursion, list_any}
use Rattle.std.specs.Prelude.{bytes_eq}
use Rattle.krb_record.specs.Forms.{has_inside, kind_bit, name_bit, octet_at, path_number}
use Rattle.krb_record.specs.declared.form.Wanted.{Wanted}
use Rattle.krb_record.specs.declared.path.Path.{Path}
use Rattle.krb_record.specs.declared.path.Path.TheVariants as paths
use Rattle.krb_choice.specs.Choices.{Column, Inside, Kind, Member, Shows}
use Rattle.krb_choice.specs.Wanted.{and_bits, may_be_inside, wanted_beside, wanted_shown, wanted_within, with_columns, with_inside, with_kind, with_kinds}
use Rattle.krb_choice_laws.proofs.Spelled.{is_unwanted, paths_of}

-- ---- one bit
pub or_left : (a b k : ℕ) → bit_at a k ≡ 1 → bit_at (bit_or a b) k ≡ 1
or_left a b k h = omega (arith, bit_at_or a b k, bit_at-lt b k)

pub or_right : (a b k : ℕ) → bit_at b k ≡ 1 → bit_at (bit_or a b) k ≡ 1
or_right a b k h = omega (arith, bit_at_or a b k, bit_at-lt a k)

pub set_bit : (w k : ℕ) → bit_at w k ≡ 1 → (bit_and w (2 ^ k) == 0) ≡ false
set_bit w k h = ne_eqb (bit_and w (2 ^ k)) 0 (λ e. absurd (omega (arith, pow_pos k, and_pow w k ∙ ap (λ b. b * 2 ^ k) h, e)))

-- the place of the bit of a name
abbrev name_place : List ℕ → ℕ
name_place begin = (5 * length begin + octet_at begin 2) % 16

abbrev begin_of : List ℕ → List ℕ
begin_of name = codes ",\"" ++ name

pub record HasName (w : Wanted) (name : List ℕ) : Type 0 where
  pub is : bit_at w.bits (name_place (begin_of name)) ≡ 1

pub record HasPath (w : Wanted) (path : Path) : Type 0 where
  pub is : bit_at (paths_of w) (path_number path) ≡ 1

pub record HasInside (w : Wanted) : Type 0 where
  pub is : bit_at w.bits 63 ≡ 1

pub name-wanted : (w : Wanted) (name : List ℕ) → HasName w name → is_unwanted w (begin_of name) ≡ false
name-wanted w name h = set_bit w.bits (name_place (begin_of name)) h.is

pub inside-wanted : (w : Wanted) → HasInside w → has_inside w ≡ true
inside-wanted w h = ap not (set_bit w.bits 63 h.is)

-- ---- more is wanted
abbrev pub Grows : (Wanted → Type 0) → Type 0
Grows P = (w : Wanted) (bits : ℕ) → P w → P (and_bits w bits)

name-grows : (name : List ℕ) → Grows (λ w. HasName w name)
name-grows name w bits h = record { is = or_left w.bits bits (name_place (begin_of name)) h.is }

inside-grows : Grows HasInside
inside-grows w bits h = record { is = or_left w.bits bits 63 h.is }

paths-or : (w : Wanted) (bits : ℕ) → paths_of (and_bits w bits) ≡ bit_or (paths_of w) (bits / 2 ^ 32 % 2 ^ 26)
paths-or w bits = ap (λ n. n % 2 ^ 26) (or_shr w.bits bits 32) ∙ or_mod (w.bits / 2 ^ 32) (bits / 2 ^ 32) 26

path-grows : (path : Path) → Grows (λ w. HasPath w path)
path-grows path w bits h = record { is = ap (λ n. bit_at n (path_number path)) (paths-or w bits) ∙ or_left (paths_of w) (bits / 2 ^ 32 % 2 ^ 26) (path_number path) h.is }

path-alone : (path : Path) → bit_at (2 ^ (32 + path_number path) / 2 ^ 32 % 2 ^ 26) (path_number path) ≡ 1
path-alone paths.Whole = refl
path-alone path = refl

shown-grows : (P : Wanted → Type 0) → Grows P → (w : Wanted) (shows : Shows) → P w → P (wanted_shown w shows)
shown-grows P g w Kind p = p
shown-grows P g w Inside p = g w (2 ^ 63) p
shown-grows P g w (Member name path) p = g (and_bits w (name_bit (begin_of name))) (2 ^ (32 + path_number path)) (g w (name_bit (begin_of name)) p)

within-grows : (P : Wanted → Type 0) → Grows P → (within : Option (List ℕ)) (w : Wanted) → P w → P (wanted_within within w)
within-grows P g None w p = p
within-grows P g (Some kind) w p = g w (2 ^ 63) p

pub columns-grow : (P : Wanted → Type 0) → Grows P → (w : Wanted) (columns : List Column) → P w → P (with_columns w columns)
columns-grow P g w [] p = p
columns-grow P g w (column ∷ others) p = columns-grow P g (wanted_beside w column) others (within-grows P g column.within (wanted_shown w column.shows) (shown-grows P g w column.shows p))

-- ---- columns
abbrev pub WantsShown : Wanted → Shows → Type 0
WantsShown w Kind = Unit {0}
WantsShown w Inside = HasInside w
WantsShown w (Member name path) = HasName w name × HasPath w path

abbrev pub WantsWithin : Wanted → Option (List ℕ) → Type 0
WantsWithin w None = Unit {0}
WantsWithin w (Some kind) = HasInside w

pub record Wants (w : Wanted) (column : Column) : Type 0 where
  pub shown : WantsShown w column.shows
  pub within : WantsWithin w column.within

inside-set : (w : Wanted) → HasInside (with_inside w)
inside-set w = record { is = or_right w.bits (2 ^ 63) 63 (bit_at-pow_same 63) }

name-set : (w : Wanted) (name : List ℕ) → HasName (and_bits w (name_bit (begin_of name))) name
name-set w name = record { is = or_right w.bits (name_bit (begin_of name)) (name_place (begin_of name)) (bit_at-pow_same (name_place (begin_of name))) }

path-set : (w : Wanted) (path : Path) → HasPath (and_bits w (2 ^ (32 + path_number path))) path
path-set w path = record { is = ap (λ n. bit_at n (path_number path)) (paths-or w (2 ^ (32 + path_number path))) ∙ or_right (paths_of w) (2 ^ (32 + path_number path) / 2 ^ 32 % 2 ^ 26) (path_number path) (path-alone path) }

wants-grows : (column : Column) → Grows (λ w. Wants w column)
wants-grows column w bits h = record { shown = shown column.shows h.shown; within = within column.within h.within }
  where
    shown : (shows : Shows) → WantsShown w shows → WantsShown (and_bits w bits) shows
    shown Kind p = tt
    shown Inside p = inside-grows w bits p
    shown (Member name path) p = (name-grows name w bits p.0, path-grows path w bits p.1)

    within : (of : Option (List ℕ)) → WantsWithin w of → WantsWithin (and_bits w bits) of
    within None p = tt
    within (Some kind) p = inside-grows w bits p

wants-beside : (w : Wanted) (column : Column) → Wants (wanted_beside w column) column
wants-beside w column = record { shown = shown column.shows column.within; within = within column.within (wanted_shown w column.shows) }
  where
    of-shown : (shows : Shows) → WantsShown (wanted_shown w shows) shows
    of-shown Kind = tt
    of-shown Inside = inside-set w
    of-shown (Member name path) = (name-grows name (and_bits w (name_bit (begin_of name))) (2 ^ (32 + path_number path)) (name-set w name), path-set (and_bits w (name_bit (begin_of name))) path)

    more : (u : Wanted) (bits : ℕ) (shows : Shows) → WantsShown u shows → WantsShown (and_bits u bits) shows
    more u bits Kind p = tt
    more u bits Inside p = inside-grows u bits p
    more u bits (Member name path) p = (name-grows name u bits p.0, path-grows path u bits p.1)

    shown : (shows : Shows) (of : Option (List ℕ)) → WantsShown (wanted_within of (wanted_shown w shows)) shows
    shown shows None = of-shown shows
    shown shows (Some kind) = more (wanted_shown w shows) (2 ^ 63) shows (of-shown shows)

    within : (of : Option (List ℕ)) (u : Wanted) → WantsWithin (wanted_within of u) of
    within None u = tt
    within (Some kind) u = inside-set u

pub all-wanted : (w : Wanted) (columns : List Column) → AllByRecursion (λ column. Wants (with_columns w columns) column) columns
all-wanted w columns = by w columns
  where
    by : (u : Wanted) (these : List Column) → AllByRecursion (λ column. Wants (with_columns u these) column) these
    by u [] = tt
    by u (column ∷ others) = (columns-grow (λ v. Wants v column) (wants-grows column) (wanted_beside u column) others (wants-beside u column), by (wanted_beside u column) others)

-- ---- kinds of what is inside
kind-grows : (P : Wanted → Type 0) → Grows P → (by_kind : Bool) (w : Wanted) (kind : List ℕ) → P w → P (with_kind by_kind w kind)
kind-grows P g by_kind w kind p = by (by_kind && may_be_inside kind)
  where
    by : (b : Bool) → P (cond b (with_inside (and_bits w (0xFFFF * 2 ^ 16))) (and_bits w (kind_bit kind)))
    by true = g (and_bits w (0xFFFF * 2 ^ 16)) (2 ^ 63) (g w (0xFFFF * 2 ^ 16) p)
    by false = g w (kind_bit kind) p

pub kinds-grow : (P : Wanted → Type 0) → Grows P → (by_kind : Bool) (w : Wanted) (kinds : List (List ℕ)) → P w → P (with_kinds w by_kind kinds)
kinds-grow P g by_kind w [] p = p
kinds-grow P g by_kind w (kind ∷ others) p = kinds-grow P g by_kind (with_kind by_kind w kind) others (kind-grows P g by_kind w kind p)

kind-inside : (w : Wanted) (kind : List ℕ) → may_be_inside kind ≡ true → HasInside (with_kind true w kind)
kind-inside w kind e = subst (λ b. HasInside (cond b (with_inside (and_bits w (0xFFFF * 2 ^ 16))) (and_bits w (kind_bit kind)))) (sym e) (inside-set (and_bits w (0xFFFF * 2 ^ 16)))

-- a kind of what is inside is among those that choose
pub kinds-inside : (w : Wanted) (kinds : List (List ℕ)) (kind : List ℕ) → may_be_inside kind ≡ true → list_any (bytes_eq kind) kinds ≡ true → HasInside (with_kinds w true kinds)
kinds-inside w [] kind h e = cc
kinds-inside w (first ∷ others) kind h e =
    elim (or_cases (bytes_eq kind first) (list_any (bytes_eq kind) others) e) [
      | inl same ↦ kinds-grow HasInside inside-grows true (with_kind true w first) others (kind-inside w first (ap may_be_inside (sym ((bytes_eq-Decides kind first).0 same)) ∙ h))
      | inr more ↦ kinds-inside (with_kind true w first) others kind h more
    ]

pub inside-kept : (w : Wanted) (columns : List Column) → HasInside w → HasInside (with_columns w columns)
inside-kept w columns h = columns-grow HasInside inside-grows w columns h
