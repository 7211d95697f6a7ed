use Rattle.std.proofs.Common.{◌≡◌, true, drop}
use Rattle.krb_token.specs.Items.{identifier_contents}
use Rattle.krb_token.proofs.simple.identifier_refusal.Given as goal

-- the octets that are left
abbrev pub invariant-loop-octet : goal.invariant-loop-octet
invariant-loop-octet l = (l.place ≡ l.octet-index) × (identifier_contents true 0 l.contents ≡ identifier_contents l.begins l.place (drop l.octet-index l.contents))
