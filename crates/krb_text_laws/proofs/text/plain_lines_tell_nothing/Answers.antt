use Rattle.std.proofs.Common.{refl}
use Rattle.krb_record.specs.Captures.{told_counts, told_in}
use Rattle.krb_record.specs.Forms.{record_text}
use Rattle.krb_text_laws.proofs.text.plain_lines_tell_nothing.Goals as goal

pub returns : goal.returns
unfolding record_text told_counts told_in
returns c = record {
  record_is = λ origin r. refl;
  end = λ counts told other. refl;
  file = λ counts told other place reason path extent. refl;
}
