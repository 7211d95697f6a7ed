-- Flows, what they carry, and the packets with which records are due.
use Rattle.std.specs.Prelude.{ℕ, ◌||◌, ◌==◌, if◌then◌else◌, Option, Some, None}
use Rattle.krb_der.specs.declared.profile.Profile.{Profile}
use Rattle.krb_source.specs.declared.endpoint.Endpoint.{Endpoint}
use Rattle.krb_packet.specs.declared.packet.Packet.{Packet}
use Rattle.krb_record.specs.declared.capture_origin.CaptureOrigin.{CaptureOrigin}
use Rattle.krb_record.specs.declared.flow.Transport.{Transport}
use Rattle.krb_record.specs.declared.told.Told.TheVariants as told
use Rattle.krb_exchange.specs.declared.sending.Moment.{Moment}
use Rattle.krb_capture.specs.declared.flow.Due.{Due}
use Rattle.krb_capture.specs.declared.flow.Flow.{Flow}
use Rattle.krb_capture.specs.declared.flow.Service.{Service}
use Rattle.krb_capture.specs.declared.flow.Service.TheVariants as services

-- A flow is of Kerberos if one of its ports is that of KDCs, and else of changes of passwords if one is 464; its messages are judged by a profile.
abbrev pub service_of : Profile → ℕ → Endpoint → Endpoint → Option Service
service_of profile port source target =
    if source.port == port || target.port == port then Some (services.Kerberos profile)
    else if source.port == 464 || target.port == 464 then Some (services.Passwords profile)
    else None

-- the flow from one end to another, by its ports first
abbrev pub flow_between : Endpoint → Endpoint → Flow
flow_between source target = record { source_port = source.port; target_port = target.port; source = source; target = target }

abbrev pub due_with : Packet → Due
due_with packet = record { packet = packet.number; time = packet.time }

abbrev pub moment_due : Due → Moment
moment_due due = record { packet = due.packet; time = due.time }

abbrev pub origin_of : Due → Transport → Endpoint → Endpoint → CaptureOrigin
origin_of due transport from to = record { packet = due.packet; time = due.time; flow = record { transport = transport; source = from; target = to }; told = told.Nothing }
