use Rattle.std.proofs.Common.{◌∙◌, sym, subst, arith}
use Rattle.std.proofs.lemmas.Bool.{false≢true}
use Rattle.std.proofs.lemmas.List.{take_all}
use Rattle.krb_der.specs.Scalars.{IsTimeFrom}
use Rattle.krb_der.proofs.Shapes.{length-time}
use Rattle.krb_codec.proofs.copying.scalars.KerberosTimeFromPlainView.from_plain_view.Goals as goal

pub unreachable-requires-in-None : goal.unreachable-requires-in-None
unreachable-requires-in-None c =
    let octets = c.args.seen.now.now in
    let all = take_all 15 octets (omega (arith, length-time 14 octets c.requires.fits)) in
    false≢true (c.in-None.ensures.shape.1 (subst (IsTimeFrom 14) (sym (c.in-Some.ensures.cases.0 ∙ all)) c.requires.fits))
