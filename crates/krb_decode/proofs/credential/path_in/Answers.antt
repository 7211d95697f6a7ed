use Rattle.std.proofs.Common.{length, Some, refl, arith, ap, ◌∙◌}
use Rattle.krb_der.specs.declared.profile.Profile.TheVariants as profile
use Rattle.krb_tool.proofs.Messages.{short-ticket-path}
use Rattle.krb_decode.proofs.CacheRuns.{long-ticket-path}
use Rattle.krb_decode.proofs.credential.path_in.Goals as goal

pub returns-then-octets-gt-MOST_OCTETS : goal.returns-then-octets-gt-MOST_OCTETS
returns-then-octets-gt-MOST_OCTETS c = long-ticket-path c.args.octets.now c.args.refusal (omega arith)

pub returns : goal.returns
returns c = ap Some c.in_ok-path.ensures ∙ short-ticket-path profile.Lenient c.args.octets.now c.args.refusal (length c.args.octets.now) c.min-prefix.result (omega arith) refl c.min-prefix.ensures
