use Rattle.std.proofs.Common.{◌≡◌, ◌&&◌, length, nat_lt, take}
use Rattle.std.specs.List.{list_all}
use Rattle.krb_words.specs.Shell.{is_bare}
use Rattle.krb_words.proofs.shell.are_bare.Given as goal

-- the octets so far
abbrev pub invariant-loop-octet : goal.invariant-loop-octet
invariant-loop-octet l = l.are_bare ≡ (nat_lt 0 (length l.name) && list_all is_bare (take l.octet-index l.name))
