use Rattle.std.proofs.Common.{◌∙◌, sym, arith}
use Rattle.krb_der.specs.inner.Numbers.{AreOctets-slice}
use Rattle.krb_der.specs.declared.profile.Profile.TheVariants.{Lenient}
use Rattle.krb_msg.proofs.Judged.{whole_is_message, kind_of_octets}
use Rattle.krb_msg.proofs.kinds.whole_kind.Goals as goal

pub returns : goal.returns
returns c =
    let w = whole_is_message Lenient _ c.args.octets.now c.requires.short (AreOctets-slice c.args.octets.now c.type_inv.octets) (omega arith) c.requires.whole in
    record { message = w.message; in_profile = w.in_profile; form = w.form; same_kind = kind_of_octets w.message w.form ∙ sym c.kind.ensures }
