use Rattle.krb_record.proofs.Dates.{civil_date-of}
use Rattle.krb_text_laws.proofs.text.dates_are_the_calendars.Goals as goal

pub returns : goal.returns
returns c = civil_date-of
