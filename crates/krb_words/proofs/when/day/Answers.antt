use Rattle.std.proofs.Common.{◌∙◌}
use Rattle.krb_words.proofs.Days.{days_are, is_day, no_day}
use Rattle.krb_words.proofs.when.day.Goals as goal

pub returns-in-Some-clause-day : goal.returns-in-Some-clause-day
returns-in-Some-clause-day c = (
  is_day c.args.text.now _ _ _ c.year-year.ensures.value c.two.ensures.value c.two-2.ensures.value c.if-year-lt1970.false c.in-Some.ensures.0,
  c.days_between.ensures.value ∙ days_are c.args.text.now _ _ _ c.year-year.ensures.value c.two.ensures.value c.two-2.ensures.value c.in-Some.date c.in-Some.ensures.1,
)

pub returns-in-None-clause-day : goal.returns-in-None-clause-day
returns-in-None-clause-day c = no_day c.args.text.now _ _ _ c.year-year.ensures.value c.two.ensures.value c.two-2.ensures.value c.in-None.ensures
