use Rattle.std.proofs.Common.{[], sym, subst}
use Rattle.krb_msg.specs.Grammar.{messages}
use Rattle.krb_frame.specs.Decoded.{HasDecoded}
use Rattle.krb_capture.proofs.Over.{took-new}
use Rattle.krb_capture.proofs.message_frames.MessageFrames.new.Goals as goal

pub returns : goal.returns
returns c =
    took-new c.args.profile c.with_profile.result c.new.result c.args.limit c.with_profile.result.looks c.with_profile.result.capacity c.with_profile.ensures.nothing c.new.ensures.decoder
    (λ none. c.new.ensures.goes_on [] [] (subst (λ d. HasDecoded (messages d.profile) c.with_profile.result [] []) (sym c.with_profile.ensures.nothing) c.with_profile.ensures.decoded))
