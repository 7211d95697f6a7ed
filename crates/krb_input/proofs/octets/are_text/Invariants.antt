use Rattle.std.proofs.Common.{◌≡◌, take}
use Rattle.std.specs.List.{list_all}
use Rattle.krb_input.specs.Characters.{is_text}
use Rattle.krb_input.proofs.octets.are_text.Given as goal

abbrev pub invariant-loop-octet : goal.invariant-loop-octet
invariant-loop-octet l = l.are ≡ list_all is_text (take l.octet-index l.octets)
