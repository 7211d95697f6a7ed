use Rattle.std.proofs.Common.{◌≡◌, take}
use Rattle.std.specs.List.{list_all}
use Rattle.hex.specs.Hex.{is_hex_digit}
use Rattle.krb_input.proofs.digits.has_no_blank.Given as goal

abbrev pub invariant-loop-octet : goal.invariant-loop-octet
invariant-loop-octet l = l.are ≡ list_all is_hex_digit (take l.octet-index l.text)
