-- What is told of some events, computed.
use Rattle.std.specs.Prelude.{ℕ, ◌≡◌, List, [], ◌∷◌, map, Some, None, option_map, refl}
use Rattle.std.specs.declared.net.ip_addr.IpAddr.TheVariants as ip
use Rattle.krb_source.specs.declared.endpoint.Endpoint.{Endpoint}
use Rattle.krb_record.specs.declared.flow.Flow.{Flow}
use Rattle.krb_record.specs.declared.flow.Transport.TheVariants as transports
use Rattle.krb_record.specs.declared.told.Request.TheVariants as requests
use Rattle.krb_exchange.specs.Happened.{reversed}
use Rattle.krb_exchange.specs.declared.fingerprint.Fingerprint.{Fingerprint}
use Rattle.krb_exchange.specs.declared.parties.Reply.TheVariants as replies
use Rattle.krb_exchange.specs.declared.sending.Moment.{Moment}
use Rattle.krb_exchange_laws.specs.Events.{Ended, Event, Replied, Requested, heard}

abbrev end_at : ℕ → ℕ → Endpoint
end_at host port = record { address = ip.V4 (record { octets = 10 ∷ 0 ∷ 0 ∷ host ∷ [] }); port = port }

abbrev flow : Flow
flow = record { transport = transports.Udp; source = end_at 1 50000; target = end_at 2 88 }

abbrev packet_at : ℕ → Moment
packet_at packet = record { packet = packet; time = None }

abbrev octets : ℕ → Fingerprint
octets hash = record { hash = hash; length = 100 }

-- an AS-REQ that is sent twice, its reply and a copy of that, and a TGS-REQ that nothing answers
abbrev events : List Event
events =
    Requested requests.AsReq flow (octets 1) (packet_at 1)
    ∷ Requested requests.AsReq flow (octets 1) (packet_at 2)
    ∷ Replied replies.AsRep (reversed flow) (packet_at 3)
    ∷ Replied replies.AsRep (reversed flow) (packet_at 4)
    ∷ Requested requests.TgsReq flow (octets 2) (packet_at 5)
    ∷ Ended (packet_at 5)
    ∷ []

sent_before : map (λ one. one.told.again) (heard events) ≡ None ∷ Some 1 ∷ None ∷ None ∷ None ∷ None ∷ []
sent_before = refl

answered : map (λ one. option_map (λ sending. sending.sent.packet) one.told.answers) (heard events) ≡ None ∷ None ∷ Some 2 ∷ None ∷ None ∷ None ∷ []
answered = refl

unanswered : map (λ one. map (λ sending. sending.sent.packet) one.told.missed) (heard events) ≡ [] ∷ [] ∷ [] ∷ [] ∷ [] ∷ (5 ∷ []) ∷ []
unanswered = refl
