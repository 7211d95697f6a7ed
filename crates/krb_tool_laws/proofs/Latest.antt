-- In the listing of a file no packet is named that comes after that of the record.
use Rattle.std.proofs.Common.{ℕ, ◌≤◌, arith, List, [], ◌∷◌, sym, append-nil, le_refl, subst}
use Rattle.krb_exchange_laws.specs.Laws.{NeverGoBack}
use Rattle.krb_exchange_laws.proofs.Packets.{no_later_packet_is_named}
use Rattle.krb_packet.specs.Captures.{packets}
use Rattle.krb_packet.specs.declared.packet.Packet.{Packet}
use Rattle.krb_capture.specs.Captures.{Progress, Settings, at_first, end_taken, packet_told}
use Rattle.krb_capture.specs.WholeCaptures.{AreNumbered}
use Rattle.krb_capture_laws.specs.Exchanges.{events_from, events_in}
use Rattle.krb_capture_laws.proofs.Numbered.{packets_are_numbered}
use Rattle.krb_capture_laws.proofs.Ordered.{OfLast, end-of, in-order, packet-of}
use Rattle.krb_capture_run.specs.Laws.{capture_told, told_after}
use Rattle.krb_tool_laws.specs.Exchanges.{CapturesNameNoLaterPacket}

told-order : (settings : Settings) (all : List Packet) (progress : Progress) → AreNumbered progress.last.packet all → (parts last : ℕ) → last ≤ progress.last.packet → NeverGoBack last (events_from parts (told_after settings progress all))
told-order settings [] progress h parts last l = subst (λ found. NeverGoBack last (events_from parts found)) (append-nil (end_taken settings progress).found) (in-order progress.last.packet (end_taken settings progress).found [] last parts l (end-of settings progress) (λ parts n m. tt))
told-order settings (packet ∷ others) progress h parts last l =
    let taken : OfLast packet.number (packet_told settings packet progress) = packet-of settings packet progress in
    in-order packet.number (packet_told settings packet progress).found (told_after settings (packet_told settings packet progress).progress others) last parts (omega (arith, h.0)) taken.found
    (λ parts n m. told-order settings others (packet_told settings packet progress).progress (subst (λ k. AreNumbered k others) (sym taken.last) h.1) parts n (subst (λ k. n ≤ k) (sym taken.last) m))

pub captures_name_no_later_packet : CapturesNameNoLaterPacket
captures_name_no_later_packet settings file = no_later_packet_is_named (events_in (capture_told settings (packets file).items)) (told-order settings (packets file).items at_first (packets_are_numbered file) 0 0 (le_refl 0))
