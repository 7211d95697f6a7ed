use Rattle.std.proofs.Common.{sym, ◌∙◌, ap}
use Rattle.krb_capture.specs.Datagrams.{datagram_found, surplus_found}
use Rattle.krb_capture.specs.Found.{with_all}
use Rattle.krb_capture.proofs.Found.{with_all-append}
use Rattle.krb_capture.proofs.Written.{on_ok-map}
use Rattle.krb_capture.proofs.datagram.list_with_surplus.Goals as goal

pub returns : goal.returns
returns c = on_ok-map c.list_surplus.result
    (λ k.
    k
    ∙ ap (λ w. with_all c.args.origin.now (surplus_found c.args.datagram.now) w) c.in_ok-list_datagram.ensures
    ∙ sym (with_all-append c.args.origin.now (datagram_found c.args.service c.args.datagram.now.payload) (surplus_found c.args.datagram.now) c.args.listing.now))
    c.list_surplus.ensures
