use Rattle.std.proofs.Common.{◌≡◌, to_z, of_z, w16, refl, rules}
use Rattle.krb_record.specs.Time.{date_text, two_digits}
use Rattle.krb_record.proofs.Dates.{civil_date-of}
use Rattle.krb_record.proofs.time.date_text.Goals as goal

pub returns : goal.returns
unfolding date_text two_digits
returns c =
    let d = c.day_after-date.result in
    let year : to_z w16 (of_z w16 d.year) ≡ d.year = search rules in
    rw (c.two_digits.ensures, c.two_digits-2.ensures, c.two_digits-3.ensures, c.two_digits-4.ensures, c.from-year.ensures, c.unsigned_abs.ensures.value, year, c.from.ensures, c.from-2.ensures, civil_date-of d c.args.days c.day_after-date.ensures) refl
