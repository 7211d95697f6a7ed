-- The values of views fit if those of their messages do: they are the same.
use Rattle.std.proofs.Common.{◌≡◌, subst}
use Rattle.krb_der.specs.declared.profile.Profile.TheVariants.{Lenient}
use Rattle.krb_msg.specs.Kinds.{kind_of, kind_term, message_of_view, message_view_value, IsValidMessage}
use Rattle.krb_msg.specs.Term.{Fits}
use Rattle.krb_msg.specs.Views.{IsInProfile}
use Rattle.krb_msg.specs.declared.message_view.MessageView.{MessageView}
use Rattle.krb_msg.proofs.KindLaws.{message_value-seen}

-- what a view has to fit for its message to be copied
abbrev pub ViewFits : MessageView → Type 0
ViewFits m = Fits (kind_term (kind_of (message_of_view m))) (message_view_value m)

pub fits_as : (m n : MessageView) → m ≡ n → IsValidMessage m → IsInProfile Lenient (message_of_view m) → ViewFits n
fits_as m n same lists in_profile =
    subst ViewFits same (subst (Fits (kind_term (kind_of (message_of_view m)))) (message_value-seen m lists) in_profile.fits)
