use Rattle.std.proofs.Common.{◌≡◌, ◌&&◌, length, nat_le, nat_lt, take}
use Rattle.std.specs.List.{list_all}
use Rattle.krb_words.proofs.names.is_name.Given as goal

-- the letters so far
abbrev pub invariant-loop-octet : goal.invariant-loop-octet
invariant-loop-octet l = l.are_letters ≡ (nat_lt 0 (length l.word) && list_all (λ octet. nat_le 97 octet && nat_le octet 122) (take l.octet-index l.word))
