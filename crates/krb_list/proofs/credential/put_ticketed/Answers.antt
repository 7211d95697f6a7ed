use Rattle.std.proofs.Common.{◌++◌}
use Rattle.std.proofs.lemmas.Result.{on_ok_weaker}
use Rattle.krb_list.specs.Ccaches.{counts_fields, flags_fields, key_fields, ticketed_record, tickets_fields, times_fields, who_fields}
use Rattle.krb_record.specs.Forms.{record_text}
use Rattle.krb_list.proofs.Asides.{four_lists_alone}
use Rattle.krb_list.proofs.credential.put_ticketed.Goals as goal

pub returns : goal.returns
unfolding record_text ticketed_record
returns g c =
    let credential = c.args.credential.now in
    on_ok_weaker c.put_closing.result
    (four_lists_alone _ c.args.form _ _ (who_fields credential ++ key_fields credential ++ times_fields credential) (flags_fields c.args.now credential) (counts_fields credential)
    (tickets_fields credential (g.T.Shown.shown c.args.ticket.now) (g.S.Shown.shown c.args.server.now))
    c.in_ok-put_opening.ensures c.in_ok-put_first_fields.ensures c.in_ok-put_flags.ensures c.in_ok-put_counts.ensures c.in_ok-put_tickets.ensures)
    c.put_closing.ensures
