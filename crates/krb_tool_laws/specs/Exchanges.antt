-- The laws of what happened in a capture, of its listing.
use Rattle.std.specs.Prelude.{ℕ, List, All}
use Rattle.krb_exchange_laws.specs.Events.{heard}
use Rattle.krb_exchange_laws.specs.Laws.{NamesNoLaterPacket}
use Rattle.krb_packet.specs.Captures.{packets}
use Rattle.krb_capture.specs.Captures.{Settings}
use Rattle.krb_capture_laws.specs.Exchanges.{events_in}
use Rattle.krb_capture_run.specs.Laws.{capture_told}

-- In the listing of any file no packet is named that comes after that of the record.
abbrev pub CapturesNameNoLaterPacket : Type 0
CapturesNameNoLaterPacket = (settings : Settings) (file : List ℕ) → All NamesNoLaterPacket (heard (events_in (capture_told settings (packets file).items)))
