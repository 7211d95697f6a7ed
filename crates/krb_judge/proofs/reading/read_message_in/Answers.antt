use Rattle.std.proofs.Common.{◌≡◌, sym, subst}
use Rattle.std.specs.Prelude.{None}
use Rattle.krb_der.specs.inner.Numbers.{AreOctets-slice}
use Rattle.krb_judge.specs.Parses.{refusal_of}
use Rattle.krb_judge.proofs.Slices.{viewed_some, is_viewed, lenient_message}
use Rattle.krb_judge.proofs.reading.read_message_in.Goals as goal

pub accepted-requires-clause-lenient : goal.accepted-requires-clause-lenient
accepted-requires-clause-lenient c = λ lenient some. subst (λ profile. refusal_of profile c.args.octets.now ≡ None) (sym lenient) (viewed_some _ _ c.viewed_message.result (λ seen v. v.1) c.viewed_message.ensures some)

pub accepted-requires-clause-seen : goal.accepted-requires-clause-seen
accepted-requires-clause-seen c = λ none. is_viewed _ c.viewed_message.result c.viewed_message.ensures (lenient_message c.args.profile c.args.octets.now (AreOctets-slice c.args.octets.now c.type_inv.octets) none)
