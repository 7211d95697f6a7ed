-- The day of a text, by the calendar.
use Rattle.std.proofs.Common.{◌≡◌, ℕ, ◌≤◌, pos, List, sym, ◌∙◌, ap, ap₂, subst, unsigned_abs}
use Rattle.jiff_core.specs.Calendar.{IsDate, days_from_civil}
use Rattle.jiff_core.specs.Date.{IsYmd, epoch_day}
use Rattle.jiff_core.specs.declared.civil.date.Date.{Date}
use Rattle.krb_words.specs.Times.{IsDay, days_since, two, year}

same_number : (a b : ℕ) → pos a ≡ pos b → a ≡ b
same_number a b e = cc

module _ (text : List ℕ) (y m d : ℕ) (ey : y ≡ year text) (em : m ≡ two text 5) (ed : d ≡ two text 8) where
  pub is_day : 1970 ≤ y → IsDate (pos y) (pos m) (pos d) → IsDay text
  is_day since date = record {
    since = subst (λ z. 1970 ≤ z) ey since;
    date = subst (λ z. IsDate (pos z) (pos (two text 5)) (pos (two text 8))) ey (subst (λ z. IsDate (pos y) (pos z) (pos (two text 8))) em (subst (λ z. IsDate (pos y) (pos m) (pos z)) ed date));
  }

  pub no_day : (IsDate (pos y) (pos m) (pos d) → ⊥) → IsDay text → ⊥
  no_day not is =
      not (subst (λ z. IsDate (pos y) (pos m) (pos z)) (sym ed) (subst (λ z. IsDate (pos y) (pos z) (pos (two text 8))) (sym em) (subst (λ z. IsDate (pos z) (pos (two text 5)) (pos (two text 8))) (sym ey) is.date)))

  pub days_are : (date : Date) → IsYmd (pos y) (pos m) (pos d) date → unsigned_abs (epoch_day date) ≡ days_since text
  days_are date is =
      let month : date.month ≡ two text 5 = same_number _ _ is.1 ∙ em in
      let day : date.day ≡ two text 8 = same_number _ _ is.2 ∙ ed in
      ap unsigned_abs
      (ap (λ z. days_from_civil z date.month date.day) is.0
      ∙ ap (λ z. days_from_civil (pos z) date.month date.day) ey
      ∙ ap₂ (λ a b. days_from_civil (pos (year text)) a b) month day)
