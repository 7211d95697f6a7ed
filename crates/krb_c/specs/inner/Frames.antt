-- Contents of a frame, after the four octets of its length.
use Rattle.std.specs.Prelude.{◌+◌}
use Rattle.krb_der.specs.declared.verdict.Verdict.{Verdict}
use Rattle.krb_der.specs.declared.verdict.Verdict.TheVariants as verdict

-- the verdict on a frame by that on its contents
abbrev pub after_length : Verdict → Verdict
after_length verdict.Open = verdict.Open
after_length verdict.Whole = verdict.Whole
after_length (verdict.Refused refusal) = verdict.Refused (record { place = 4 + refusal.place; why = refusal.why })
