-- How the decoder of a stream begins.
use Rattle.std.specs.Prelude.{ℕ, ◌≡◌, []}
use Rattle.krb_der.specs.declared.profile.Profile.{Profile}
use Rattle.krb_frame.specs.GoingOn.{Skipping, IsClear, GoesOn}
use Rattle.krb_msg.specs.Grammar.{messages as grammar}

-- a decoder of a stream with no octets yet
pub record IsStart (profile : Profile) (limit : ℕ) (decoder : Skipping) : Type 0 where
  pub same_profile : decoder.current.profile ≡ profile
  pub same_limit : decoder.current.limit ≡ limit
  pub clear : IsClear decoder
  pub goes_on : GoesOn (grammar profile) decoder [] []
