-- What is found in a UDP datagram, which is one message.
use Rattle.std.specs.Prelude.{◌-◌, ◌==◌, Bool, true, false, if◌then◌else◌, List, [], ◌∷◌, ◌++◌, length, Some, None, codes}
use Rattle.krb_der.specs.declared.why.Why.TheVariants as why
use Rattle.krb_packet.specs.Payloads.{Captured}
use Rattle.krb_packet.specs.declared.contents.Datagram.{Datagram}
use Rattle.krb_source.specs.declared.unread_why.UnreadWhy.TheVariants as unread
use Rattle.krb_record.specs.declared.extent.Extent.{Extent}
use Rattle.krb_capture.specs.Found.{Found, Faulty, Missing, Unread}
use Rattle.krb_capture.specs.Messages.{message_found, cut_found}
use Rattle.krb_capture.specs.Passwords.{password_found}
use Rattle.krb_capture.specs.declared.flow.Service.{Service}
use Rattle.krb_capture.specs.declared.flow.Service.TheVariants as services

-- a datagram has no octets before it, and its length is that of UDP
abbrev pub extent_of : Captured → Extent
extent_of payload = record { at = 0; length = Some payload.size }

-- whether it is all there decides
abbrev pub by_service : Service → Bool → Captured → List Found
by_service (services.Kerberos profile) true payload = message_found profile (extent_of payload) 0 payload.octets ∷ []
by_service (services.Kerberos profile) false payload = cut_found profile (extent_of payload) payload.size payload.octets ∷ []
by_service (services.Passwords profile) true payload = password_found profile (extent_of payload) 0 payload.octets
by_service (services.Passwords profile) false payload = Missing (length payload.octets) (payload.size - length payload.octets) (Some (codes "KPASSWD")) ∷ []

unfoldable pub datagram_found : Service → Captured → List Found
datagram_found service payload =
    if payload.size == 0 then Faulty (record { place = 0; why = why.Empty }) None (extent_of payload) ∷ []
    else by_service service (length payload.octets == payload.size) payload

-- octets after its length that IP has: no message has them
abbrev pub surplus_found : Datagram → List Found
surplus_found datagram = if length datagram.surplus.octets == 0 then [] else Unread (Some datagram.payload.size) (length datagram.surplus.octets) unread.Surplus ∷ []

-- in a datagram
abbrev pub all_found : Service → Datagram → List Found
all_found service datagram = datagram_found service datagram.payload ++ surplus_found datagram
