-- The laws of what octets are opened to. Each is the contract of a function of the module `law`.
use Rattle.std.specs.Prelude.{ℕ, ◌≡◌, ◌<◌, ◌↔◌, List, [], ◌∷◌, length}
use Rattle.krb_der.specs.Octets.{number}
use Rattle.krb_token.specs.Opened.{message_under}
use Rattle.krb_token.specs.Tokens.{opened}
use Rattle.krb_source.specs.declared.layer.Layer.TheVariants.{Frame}

-- The octets are a frame of a message, of fewer than 2^24 octets and not of none (RFC 4120, 7.2.2): four octets of its length, and the message.
pub record IsFrame (message octets : List ℕ) : Type 0 where
  pub second : ℕ
  pub third : ℕ
  pub fourth : ℕ
  pub form : octets ≡ 0 ∷ second ∷ third ∷ fourth ∷ message
  pub announced : number (0 ∷ second ∷ third ∷ fourth ∷ []) ≡ length message
  pub some : 0 < length message

-- Octets are opened to a message in a frame just if they are a frame of it; its first octet is the fifth.
abbrev pub FramesAreOpened : Type 0
FramesAreOpened = (message octets : List ℕ) (place : ℕ) → (opened octets ≡ message_under (Frame ∷ []) place message) ↔ (IsFrame message octets × (place ≡ 4))
