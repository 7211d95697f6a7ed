use Rattle.std.proofs.Common.{◌≡◌, ◌∙◌, refl, sym, rules}
use Rattle.std.proofs.lemmas.Bool.{false≢true}
use Rattle.krb_der.proofs.Shapes.{is-time, time-is}
use Rattle.krb_der.proofs.kerberos_time.KerberosTime.new.Goals as goal
use Rattle.krb_der.proofs.kerberos_time.KerberosTime.new.Goals.{else-are_digits-via-then-are_digits+else-octets-eq90, else-are_digits-via-else-are_digits}

pub invariant_of-result : goal.invariant_of-result
invariant_of-result c = is-time 14 c.args.octets (search rules) (sym c.are_digits.ensures ∙ c.if-are_digits.true) c.if-octets-eq90.true

pub returns-then-octets-eq90-clause-shape : goal.returns-then-octets-eq90-clause-shape
returns-then-octets-eq90-clause-shape c = (λ _. is-time 14 c.args.octets (search rules) (sym c.are_digits.ensures ∙ c.if-are_digits.true) c.if-octets-eq90.true, λ _. refl)

pub returns-else-are_digits-clause-shape : goal.returns-else-are_digits-clause-shape
returns-else-are_digits-clause-shape c = (λ e. absurd (false≢true e), λ t. elim c.else-are_digits.branch [ else-are_digits-via-then-are_digits+else-octets-eq90 w ↦ absurd (w.if-octets-eq90.false (time-is 14 c.args.octets t).1) | else-are_digits-via-else-are_digits w ↦ sym w.if-are_digits.false ∙ c.are_digits.ensures ∙ (time-is 14 c.args.octets t).0 ])
