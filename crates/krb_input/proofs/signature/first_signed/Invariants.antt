use Rattle.std.proofs.Common.{◌≡◌, map, drop}
use Rattle.krb_input.specs.Signatures.{first_signed, signature_of}
use Rattle.krb_input.proofs.signature.first_signed.Given as goal

-- the signatures that are left
abbrev pub invariant-loop-signature : goal.invariant-loop-signature
invariant-loop-signature l = first_signed (map signature_of l.signatures) l.first ≡ first_signed (map signature_of (drop l.signature-index l.signatures)) l.first
