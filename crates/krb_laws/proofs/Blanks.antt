-- Texts as they are without their blanks.
use Rattle.std.proofs.Common.{ℕ, ◌≡◌, ◌||◌, if◌then◌else◌, not, Bool, true, false, List, [], ◌∷◌, refl, sym, subst, ap, ◌∙◌}
use Rattle.std.proofs.lemmas.Bool.{or_right}
use Rattle.std.proofs.lemmas.List.Elements.{All-cons, All-head, All-nil, All-tail}
use Rattle.std.specs.List.{AllPass, list_any}
use Rattle.krb_der.specs.Octets.{when}
use Rattle.krb_input.specs.Characters.{is_blank, skip_blanks}
use Rattle.krb_input.specs.Laws.{without_blanks}

-- the first octet of a text that is no blank, and what follows it
pub record Next (text : List ℕ) (first : ℕ) (others : List ℕ) : Type 0 where
  pub rest : List ℕ
  pub skipped : skip_blanks text ≡ first ∷ rest
  pub left : without_blanks rest ≡ others

next_by : (octet : ℕ) (text : List ℕ) (first : ℕ) (others : List ℕ) (blank : Bool) → is_blank octet ≡ blank → (without_blanks text ≡ first ∷ others → Next text first others) → without_blanks (octet ∷ text) ≡ first ∷ others → Next (octet ∷ text) first others
next_by octet text first others true is next given =
    let found = next (sym (ap (λ b. if not b then octet ∷ without_blanks text else without_blanks text) is) ∙ given) in
    record { rest = found.rest; skipped = ap (λ b. when b (λ _. skip_blanks text) (λ _. octet ∷ text)) is ∙ found.skipped; left = found.left }
next_by octet text first others false is next given =
    let same : octet ∷ without_blanks text ≡ first ∷ others = sym (ap (λ b. if not b then octet ∷ without_blanks text else without_blanks text) is) ∙ given in
    let first_is : octet ≡ first = cc in
    record { rest = text; skipped = ap (λ b. when b (λ _. skip_blanks text) (λ _. octet ∷ text)) is ∙ ap (λ o. o ∷ text) first_is; left = cc }

pub next : (text : List ℕ) (first : ℕ) (others : List ℕ) → without_blanks text ≡ first ∷ others → Next text first others
next [] first others given = absurd (cc)
next (octet ∷ text) first others given = next_by octet text first others (is_blank octet) refl (next text first others) given

none_by : (octet : ℕ) (text : List ℕ) (blank : Bool) → is_blank octet ≡ blank → (without_blanks text ≡ [] → skip_blanks text ≡ []) → without_blanks (octet ∷ text) ≡ [] → skip_blanks (octet ∷ text) ≡ []
none_by octet text true is none given =
    ap (λ b. when b (λ _. skip_blanks text) (λ _. octet ∷ text)) is ∙ none (sym (ap (λ b. if not b then octet ∷ without_blanks text else without_blanks text) is) ∙ given)
none_by octet text false is none given =
    let same : octet ∷ without_blanks text ≡ [] = sym (ap (λ b. if not b then octet ∷ without_blanks text else without_blanks text) is) ∙ given in
    absurd (cc)

pub none : (text : List ℕ) → without_blanks text ≡ [] → skip_blanks text ≡ []
none [] given = refl
none (octet ∷ text) given = none_by octet text (is_blank octet) refl (none text) given

-- ---- what each octet is
or_later : (b before after : Bool) → (before ≡ true → after ≡ true) → (b || before) ≡ true → (b || after) ≡ true
or_later true before after follows is = refl
or_later false before after follows is = follows is

module _ (test : ℕ → Bool) where
  abbrev pub IsOrBlank : ℕ → Type 0
  IsOrBlank octet = (test octet || is_blank octet) ≡ true

  unblanked : (octet : ℕ) (text : List ℕ) (blank : Bool) → is_blank octet ≡ blank → without_blanks (octet ∷ text) ≡ (if not blank then octet ∷ without_blanks text else without_blanks text)
  unblanked octet text blank is = ap (λ b. if not b then octet ∷ without_blanks text else without_blanks text) is

  each_by : (octet : ℕ) (text : List ℕ) (blank : Bool) → is_blank octet ≡ blank → (AllPass test (without_blanks text) → AllPass (λ o. test o || is_blank o) text) → AllPass test (without_blanks (octet ∷ text)) → AllPass (λ o. test o || is_blank o) (octet ∷ text)
  each_by octet text true is others are =
      All-cons IsOrBlank octet text (or_right (test octet) (is_blank octet) is) (others (subst (AllPass test) (unblanked octet text true is) are))
  each_by octet text false is others are =
      let whole = subst (AllPass test) (unblanked octet text false is) are in
      All-cons IsOrBlank octet text (ap (λ b. b || is_blank octet) (All-head (λ o. test o ≡ true) octet (without_blanks text) whole)) (others (All-tail (λ o. test o ≡ true) octet (without_blanks text) whole))

  -- each octet passes a test, or is a blank
  pub each_or_blank : (text : List ℕ) → AllPass test (without_blanks text) → AllPass (λ o. test o || is_blank o) text
  each_or_blank [] are = All-nil IsOrBlank
  each_or_blank (octet ∷ text) are = each_by octet text (is_blank octet) refl (each_or_blank text) are

  some_by : (octet : ℕ) (text : List ℕ) (blank : Bool) → is_blank octet ≡ blank → (list_any test (without_blanks text) ≡ true → list_any test text ≡ true) → list_any test (without_blanks (octet ∷ text)) ≡ true → list_any test (octet ∷ text) ≡ true
  some_by octet text true is others any = or_right (test octet) (list_any test text) (others (sym (ap (list_any test) (unblanked octet text true is)) ∙ any))
  some_by octet text false is others any =
      or_later (test octet) (list_any test (without_blanks text)) (list_any test text) others (sym (ap (list_any test) (unblanked octet text false is)) ∙ any)

  -- some octet passes it
  pub some_of : (text : List ℕ) → list_any test (without_blanks text) ≡ true → list_any test text ≡ true
  some_of [] any = any
  some_of (octet ∷ text) any = some_by octet text (is_blank octet) refl (some_of text) any
