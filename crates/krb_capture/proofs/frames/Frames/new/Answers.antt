use Rattle.std.proofs.Common.{[], sym, ◌∙◌, ap, subst}
use Rattle.krb_capture.specs.Taken.{TookMessages, TookPasswords}
use Rattle.krb_capture.specs.declared.flow.Service.TheVariants as services
use Rattle.krb_capture.proofs.frames.Frames.new.Goals as goal

pub returns-in-Kerberos-clause-took : goal.returns-in-Kerberos-clause-took
returns-in-Kerberos-clause-took c = subst (λ q. TookMessages q c.new.result c.args.limit []) (sym c.new.ensures.profile_is) c.new.ensures

pub returns-in-Kerberos-clause-service : goal.returns-in-Kerberos-clause-service
returns-in-Kerberos-clause-service c = ap services.Kerberos c.new.ensures.profile_is ∙ sym c.in-Kerberos.is

pub returns-in-Passwords-clause-took : goal.returns-in-Passwords-clause-took
returns-in-Passwords-clause-took c = subst (λ q. TookPasswords q c.new-in-Passwords.result c.args.limit []) (sym c.new-in-Passwords.ensures.profile_is) c.new-in-Passwords.ensures

pub returns-in-Passwords-clause-service : goal.returns-in-Passwords-clause-service
returns-in-Passwords-clause-service c = ap services.Passwords c.new-in-Passwords.ensures.profile_is ∙ sym c.in-Passwords.is
