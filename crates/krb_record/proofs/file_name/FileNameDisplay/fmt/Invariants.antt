use Rattle.std.proofs.Common.{take}
use Rattle.std.specs.Fmt.{HasWritten, IsPlainFormatter}
use Rattle.krb_record.specs.FileNames.{name_text}
use Rattle.krb_record.proofs.file_name.FileNameDisplay.fmt.Given as goal

-- the text of the octets so far is written
abbrev pub invariant-loop-octet : goal.invariant-loop-octet
invariant-loop-octet g l =
    IsPlainFormatter l.initial.f → HasWritten g.W.Write.write_str_gives l.initial.f (name_text (take l.octet-index l.self.0.now)) l.f
