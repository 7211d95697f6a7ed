use Rattle.std.proofs.Common.{◌≡◌, take}
use Rattle.std.specs.List.{list_all}
use Rattle.krb_json.specs.Spelling.{is_shown_itself}
use Rattle.krb_json.proofs.writing.are_plain.Given as goal

abbrev pub invariant-loop-octet : goal.invariant-loop-octet
invariant-loop-octet l = l.are ≡ list_all is_shown_itself (take l.octet-index l.octets)
