use Rattle.std.proofs.Common.{sym}
use Rattle.krb_c.specs.Spanned.{AreSpans}
use Rattle.krb_c.proofs.Within.{are-given}
use Rattle.krb_c.proofs.spans.krbls_spans.Goals as goal

pub returns : goal.returns
returns c =
    rw (sym c.profile_of.ensures, sym c.limit_of.ensures, sym c.goes_on.ensures, sym c.port_of.ensures)
    (are-given (AreSpans c.profile_of.result c.limit_of.result c.goes_on.result c.port_of.result c.args.octets.now) c.spans_of-found.result _ _ _ _ _ c.spans_of-found.ensures c.answer_spans.ensures)
