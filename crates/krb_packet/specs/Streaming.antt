-- A capture file read one packet at a time.
use Rattle.std.specs.Prelude.{ℕ, suc, List, Option, Some, None, Result, Ok, Err}
use Rattle.krb_file.specs.FieldReaders.{Cursor}
use Rattle.krb_file.specs.Items.{IsItem, EndsBy, FailsAfter, GoesOn}
use Rattle.krb_file.specs.declared.fault.FileFault.{FileFault}
use Rattle.krb_file.specs.declared.progress.Progress.{Progress}
use Rattle.krb_file.specs.declared.progress.Progress.TheVariants as states
use Rattle.krb_packet.specs.declared.format.Format.{Format}
use Rattle.krb_packet.specs.declared.packet.Packet.{Packet}
use Rattle.krb_packet.specs.Pcaps.{most_captured}
use Rattle.krb_packet.specs.Captures.{blocks_of, packets_after, packets}

-- A reader of packets: where it is in its file, its progress, and the number of packets that it returned.
pub record PacketsModel : Type 0 where
  pub cursor : Cursor
  pub state : Progress Format (Unit {0})
  pub count : ℕ

-- the number of blocks that were read
abbrev pub blocks_before : Progress Format (Unit {0}) → ℕ
blocks_before (states.Open format) = blocks_of format
blocks_before (states.Done end) = 0
blocks_before (states.Failed fault) = 0

-- the reader returned the first `count` packets of a file, and goes on
abbrev pub Reads : PacketsModel → List ℕ → ℕ → Type 0
Reads model file count = GoesOn (λ format. packets_after format model.count) (packets file) (Some most_captured) model.cursor model.state count

-- What a call returns after `count` packets were returned: the next one, after which one more is returned; if there is none, the end of the file or the fault. Else the device failed or memory ran out.
abbrev pub ReturnsNext : List ℕ → ℕ → Result (Option Packet) FileFault → PacketsModel → Type 0
ReturnsNext file count (Ok (Some packet)) model = IsItem (packets file) count packet × Reads model file (suc count)
ReturnsNext file count (Ok None) model = EndsBy (packets file) count None
ReturnsNext file count (Err fault) model = FailsAfter (λ refusal. Some refusal) (packets file) count fault
