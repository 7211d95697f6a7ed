use Rattle.std.proofs.Common.{pos, arith}
use Rattle.std.proofs.lemmas.Int.{ints}
use Rattle.krb_msg.proofs.FieldViews.{integer_form}
use Rattle.krb_msg.proofs.view.scalars.ExactlyView.view_into.Goals as goal

pub returns-in-None : goal.returns-in-None
returns-in-None g c = λ value a.
    c.in-None.ensures value (record {
      low_le = omega (arith, ints, c.from.ensures, a.fits.0);
      le_high = omega (arith, ints, c.from-2.ensures, a.fits.1);
      form = integer_form (pos g.row.NUMBER) (pos g.row.NUMBER) c.args.contents.now value a;
    })
