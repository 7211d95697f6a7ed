use Rattle.std.proofs.Common.{sym, ◌∙◌}
use Rattle.krb_capture.proofs.Parts.{header_parts}
use Rattle.krb_capture.proofs.password.list_password.Goals as goal

pub list_parts-requires-clause-parts : goal.list_parts-requires-clause-parts
list_parts-requires-clause-parts c = header_parts c.args.octets.now c.in-Ok.header (sym c.read_header.ensures ∙ c.in-Ok.is)
