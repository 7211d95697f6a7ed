-- What comes of a header: another one, or what the packet carries; None if it cannot be read.
use Rattle.std.specs.Prelude.{Bool, Option, Some, None}
use Rattle.krb_der.specs.Octets.{when}
use Rattle.krb_packet.specs.Payloads.{Captured}
use Rattle.krb_packet.specs.declared.contents.Contents.{Contents}
use Rattle.krb_packet.specs.declared.contents.Contents.TheVariants as contents
use Rattle.krb_packet.specs.declared.header.Header.{Header}
use Rattle.krb_packet.specs.declared.header.Step.{Step}
use Rattle.krb_packet.specs.declared.header.Step.TheVariants as steps

-- the value, if the header is valid
abbrev pub if_valid : {A : Type 0} → Bool → A → Option A
if_valid valid value = when valid (λ _. Some value) (λ _. None)

-- another header
abbrev pub next : Header → Captured → Option Step
next header packet = Some (steps.Next header packet)

abbrev pub found : Contents → Step
found read = steps.Found read

-- no packet of IP is in what follows
abbrev pub passed : Option Step
passed = Some (found contents.Other)
