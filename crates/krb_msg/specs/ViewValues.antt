-- What octets a view of a message is of.
use Rattle.std.specs.Prelude.{ℕ, ◌≡◌, ◌^◌, ◌<◌, List, length, get_or}
use Rattle.krb_der.specs.declared.profile.Profile.TheVariants.{Lenient}
use Rattle.krb_der.specs.declared.verdict.Verdict.TheVariants.{Whole}
use Rattle.krb_msg.specs.Judgement.{judgement}
use Rattle.krb_msg.specs.Views.{message_of_der, kind_tag, message_der, IsInProfile}
use Rattle.krb_msg.specs.declared.message.Kind.{Kind}
use Rattle.krb_msg.specs.declared.message_view.MessageView.{MessageView}
pub use Rattle.krb_msg.specs.Kinds.{message_of_view, IsValidMessage}

-- a view of the octets of a message: they are judged whole, and are the DER of the view's message
pub record IsMessageView (octets : List ℕ) (m : MessageView) : Type 0 where
  pub whole : judgement Lenient (length octets) octets ≡ Whole
  pub in_profile : IsInProfile Lenient (message_of_view m)
  pub form : message_der (message_of_view m) ≡ octets
  pub read : message_of_view m ≡ message_of_der octets
  pub lists : IsValidMessage m

-- they are not judged whole, or are more than a frame holds
abbrev pub IsNoMessage : List ℕ → Type 0
IsNoMessage octets = length octets < 2 ^ 31 → judgement Lenient (length octets) octets ≡ Whole → ⊥

-- fewer than 2147483648 octets, of which the first is the tag of a kind
pub record BeginAs (kind : Kind) (octets : List ℕ) : Type 0 where
  pub short : length octets < 2 ^ 31
  pub some : 0 < length octets
  pub first : get_or octets 0 0 ≡ kind_tag kind
