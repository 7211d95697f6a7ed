use Rattle.std.proofs.Common.{take}
use Rattle.std.specs.Fmt.{HasWritten, IsPlainFormatter}
use Rattle.std.specs.List.{flat_map}
use Rattle.krb_words.specs.Shell.{word_octet}
use Rattle.krb_words.proofs.shell.ShellWordDisplay.fmt.Given as goal

-- after what comes first, the octets so far are written
abbrev pub invariant-loop-octet : goal.invariant-loop-octet
invariant-loop-octet g l =
    IsPlainFormatter l.initial.f → HasWritten g.W.Write.write_str_gives l.initial.f (flat_map (word_octet l.quoting) (take l.octet-index l.self.0.now)) l.f
