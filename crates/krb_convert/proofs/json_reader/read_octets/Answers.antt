use Rattle.std.proofs.lemmas.Result.{IfOk-weaker}
use Rattle.krb_convert.proofs.EncodedLines.{alone-short, framed-short}
use Rattle.krb_convert.proofs.json_reader.read_octets.Goals as goal

pub returns-then-request-clause-short : goal.returns-then-request-clause-short
returns-then-request-clause-short c =
    IfOk-weaker c.read_line.result _ _
    (λ octets spelled. framed-short c.lines_spell_messages.ensures c.args.request.now.profile c.get-limit.result c.args.line.now octets.items c.get-limit.ensures.few spelled)
    c.read_line.ensures.octets

pub returns-else-request-clause-short : goal.returns-else-request-clause-short
returns-else-request-clause-short c =
    IfOk-weaker c.read_line_or_ticket.result _ _
    (λ octets spelled. alone-short c.lines_spell_octets.ensures c.args.request.now.profile c.get-limit.result c.args.line.now octets.items c.get-limit.ensures.few spelled)
    c.read_line_or_ticket.ensures.octets
