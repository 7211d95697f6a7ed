-- Octets that no message has.
use Rattle.std.specs.Prelude.{ℕ, List}
use Rattle.krb_der.specs.declared.profile.Profile.{Profile}
use Rattle.krb_msg.specs.declared.message.Message.{Message}
use Rattle.krb_judge.specs.Parses.{AreOf}

-- no message of a profile has these octets
abbrev pub HasNoMessage : Profile → List ℕ → Type 0
HasNoMessage profile octets = (m : Message) → AreOf profile octets m → ⊥
