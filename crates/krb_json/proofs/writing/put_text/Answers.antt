use Rattle.std.proofs.Common.{◌∙◌}
use Rattle.krb_msg.specs.Views.{kind_of}
use Rattle.krb_json.proofs.FirstOctets.{has_first, first_tells_kind}
use Rattle.krb_json.proofs.writing.put_text.Goals as goal

pub returns-in_default : goal.returns-in_default
returns-in_default c m i form = absurd (has_first c.args.octets.now m form c.in_default.len_below)

pub returns-in_default-of_tag : goal.returns-in_default-of_tag
returns-in_default-of_tag c m i form = absurd (c.in_default-of_tag.not-Some (kind_of m) (c.of_tag.ensures ∙ first_tells_kind c.args.octets.now m form))
