use Rattle.std.proofs.Common.{◌≡◌, ◌++◌, take, sym, ◌∙◌, ap, subst, append-nil}
use Rattle.std.proofs.lemmas.Result.{IfOk-weaker, on_ok_weaker}
use Rattle.krb_capture.specs.Found.{with_all}
use Rattle.krb_capture.specs.Streams.{found_with}
use Rattle.krb_capture.specs.Taken.{Took, TookMessages, TookPasswords, service_of}
use Rattle.krb_capture.specs.declared.flow.Service.TheVariants as services
use Rattle.krb_capture.proofs.Prefixes.{found_with-none}
use Rattle.krb_capture.proofs.Written.{if_both}
use Rattle.krb_capture.proofs.frames.Frames.take.Goals as goal

pub returns-then-is_empty-clause-took : goal.returns-then-is_empty-clause-took
returns-then-is_empty-clause-took c = λ limit stream t. subst (Took c.args.self.now limit) (sym (append-nil stream)) t

pub returns-then-is_empty-clause-listed : goal.returns-then-is_empty-clause-listed
returns-then-is_empty-clause-listed c = λ limit stream t.
    ap (λ x. with_all c.args.origin.now x c.args.listing.now) (sym (found_with-none (service_of c.args.self.now) limit stream))

pub returns-in-Messages-clause-took : goal.returns-in-Messages-clause-took
returns-in-Messages-clause-took c =
    if_both c.take.result _ _ _ c.take.ensures.took c.take.ensures.profile
    (λ count l same limit stream t. subst (λ q. TookMessages q c.take.new.self limit (stream ++ take count c.args.octets.now)) (sym same) (l _ limit stream (subst (λ f. Took f limit stream) c.in-Messages.is t)))

pub returns-in-Messages-clause-listed : goal.returns-in-Messages-clause-listed
returns-in-Messages-clause-listed c = IfOk-weaker c.take.result _ _
    (λ count l limit stream t.
    subst (λ s. c.take.new.listing ≡ with_all c.args.origin.now (found_with s limit stream (take count c.args.octets.now)) c.args.listing.now) (sym (ap service_of c.in-Messages.is))
    (l _ limit stream (subst (λ f. Took f limit stream) c.in-Messages.is t)))
    c.take.ensures.listed

pub returns-in-Messages-clause-service : goal.returns-in-Messages-clause-service
returns-in-Messages-clause-service c = on_ok_weaker c.take.result (λ same. ap services.Kerberos same ∙ sym (ap service_of c.in-Messages.is)) c.take.ensures.profile

pub returns-in-Passwords-clause-took : goal.returns-in-Passwords-clause-took
returns-in-Passwords-clause-took c =
    if_both c.take-in-Passwords.result _ _ _ c.take-in-Passwords.ensures.took c.take-in-Passwords.ensures.profile
    (λ count l same limit stream t. subst (λ q. TookPasswords q c.take-in-Passwords.new.self limit (stream ++ take count c.args.octets.now)) (sym same) (l _ limit stream (subst (λ f. Took f limit stream) c.in-Passwords.is t)))

pub returns-in-Passwords-clause-listed : goal.returns-in-Passwords-clause-listed
returns-in-Passwords-clause-listed c = IfOk-weaker c.take-in-Passwords.result _ _
    (λ count l limit stream t.
    subst (λ s. c.take-in-Passwords.new.listing ≡ with_all c.args.origin.now (found_with s limit stream (take count c.args.octets.now)) c.args.listing.now) (sym (ap service_of c.in-Passwords.is))
    (l _ limit stream (subst (λ f. Took f limit stream) c.in-Passwords.is t)))
    c.take-in-Passwords.ensures.listed

pub returns-in-Passwords-clause-service : goal.returns-in-Passwords-clause-service
returns-in-Passwords-clause-service c = on_ok_weaker c.take-in-Passwords.result (λ same. ap services.Passwords same ∙ sym (ap service_of c.in-Passwords.is)) c.take-in-Passwords.ensures.profile
