use Rattle.std.proofs.Common.{◌≡◌, take}
use Rattle.std.specs.List.{list_all}
use Rattle.krb_words.specs.Shell.{is_printable}
use Rattle.krb_words.proofs.shell.are_printable.Given as goal

-- the octets so far
abbrev pub invariant-loop-octet : goal.invariant-loop-octet
invariant-loop-octet l = l.are_printable ≡ list_all is_printable (take l.octet-index l.name)
