use Rattle.std.proofs.Common.{true, sym, ◌∙◌}
use Rattle.std.proofs.lemmas.Result.{on_ok_weaker}
use Rattle.krb_msg.specs.Types.{ticket_view_value}
use Rattle.krb_decode.specs.Decoded.{not_encrypted, printed, said, ticket_line}
use Rattle.krb_decode.proofs.Findings.{adds-chosen}
use Rattle.krb_decode.proofs.found.put_ticket.Goals as goal

pub returns-then-is_sealed : goal.returns-then-is_sealed
returns-then-is_sealed c =
    let value = ticket_view_value c.args.view.now in
    on_ok_weaker c.put_ticket.result
    (λ adds. adds-chosen _ true (printed (ticket_line value)) (said (not_encrypted c.args.origin.now c.args.path.now)) c.args.parts.now c.put_ticket.new.self (sym c.is_sealed.ensures ∙ c.if-is_sealed.true) (adds value c.requires.fits c.requires.form))
    c.put_ticket.ensures
