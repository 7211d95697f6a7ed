use Rattle.std.proofs.Common.{◌≡◌, [], length, sym, ◌∙◌, subst}
use Rattle.krb_der.specs.declared.profile.Profile.TheVariants as profile
use Rattle.krb_scan.specs.Scanned.{AreWhole}
use Rattle.krb_scan.specs.Scanner.{verdict_of}
use Rattle.krb_scan.proofs.Built.{whole_taken}
use Rattle.krb_tests.proofs.scan.is_built.Goals as goal

pub build-requires-clause-whole : goal.build-requires-clause-whole
build-requires-clause-whole c =
    let octets = c.args.octets.now in
    let decided : c.in_ok-take.field-0 ≡ verdict_of c.take.new.self = rw c.in_ok-take.was at c.take.ensures.answer in
    subst (λ marks. AreWhole marks octets) (sym c.marks.ensures.marks)
    (whole_taken profile.Lenient c.take.new.self octets c.take.result.used (c.take.ensures.at profile.Lenient (length octets) [] c.new-scanner.ensures.at) (sym decided ∙ c.in-Whole.is))
