use Rattle.std.proofs.Common.{refl}
use Rattle.krb_msg.specs.Types.{ap_req_of}
use Rattle.krb_padata.specs.Types.{krb_fast_armored_rep_of, krb_fast_armored_req_of, pa_for_user_of, pa_pac_options_of}
use Rattle.krb_text.specs.Inside.{fast_reply_part, fast_request_part, for_user_part, pac_options_part, tgs_req_part}
use Rattle.krb_text.proofs.padata.put_value.Goals as goal

pub returns-in-TgsReq : goal.returns-in-TgsReq
returns-in-TgsReq c = rw c.in-TgsReq.is (c.put_whole.ensures (λ v. tgs_req_part (ap_req_of v)) (λ seen. refl))

pub returns-in-ForUser : goal.returns-in-ForUser
returns-in-ForUser c = rw c.in-ForUser.is (c.put_whole-in-ForUser.ensures (λ v. for_user_part (pa_for_user_of v)) (λ seen. refl))

pub returns-in-FastRequest : goal.returns-in-FastRequest
returns-in-FastRequest c = rw c.in-FastRequest.is (c.put_whole-in-FastRequest.ensures (λ v. fast_request_part (krb_fast_armored_req_of v)) (λ seen. refl))

pub returns-in-FastReply : goal.returns-in-FastReply
returns-in-FastReply c = rw c.in-FastReply.is (c.put_whole-in-FastReply.ensures (λ v. fast_reply_part (krb_fast_armored_rep_of v)) (λ seen. refl))

pub returns-in-PacOptions : goal.returns-in-PacOptions
returns-in-PacOptions c = rw c.in-PacOptions.is (c.put_whole-in-PacOptions.ensures (λ v. pac_options_part (pa_pac_options_of v)) (λ seen. refl))
