use Rattle.krb_der.proofs.number.+number_size.Given as goal

abbrev pub decreases-number_size : goal.decreases-number_size
decreases-number_size l = l.number
