use Rattle.std.proofs.Common.{rules, ◌≡◌, true, length, refl, ◌∙◌, ap, subst, arith, le_refl}
use Rattle.std.proofs.lemmas.List.{take_all}
use Rattle.krb_frame.specs.Decoding.{Decoding}
use Rattle.krb_frame.specs.Deliveries.{DeliversPiece}
use Rattle.krb_frame.specs.GoingOn.{Fault}
use Rattle.krb_capture.specs.Found.{IsFull, with_found}
use Rattle.krb_capture.specs.Listed.{ListsEntry}
use Rattle.krb_capture.specs.Streams.{entry_found}
use Rattle.krb_capture.specs.declared.message_frames.MessageFrames.{MessageFrames}
use Rattle.krb_capture.proofs.Listed.{piece-same}
use Rattle.krb_capture.proofs.Taken.{takes-none, takes-stopped, takes-up-to}
use Rattle.krb_capture.proofs.message_frames.MessageFrames.take.Goals as goal

then_is : {A : Type 0} (x y z : A) → y ≡ z → x ≡ y → x ≡ z
then_is x y z e f = f ∙ e

pub returns-then-self-clause-took : goal.returns-then-self-clause-took
returns-then-self-clause-took c = (takes-none c.args.self.now _ c.args.origin.now c.args.listing.now c.if-self.true).took

pub returns-then-self-clause-listed : goal.returns-then-self-clause-listed
returns-then-self-clause-listed c = (takes-none c.args.self.now _ c.args.origin.now c.args.listing.now c.if-self.true).listed

pub returns-in-UpTo-clause-took : goal.returns-in-UpTo-clause-took
returns-in-UpTo-clause-took c =
    let by = c.profile.ensures ∙ ap (λ (d : Decoding). d.profile) c.decoder.ensures in
    let new : MessageFrames = record { decoder = c.deliver.new.self; offset = c.deliver.new.receiver.offset; is_over = c.args.self.now.is_over } in
    (takes-up-to _ c.args.self.now new c.args.octets.now c.in-UpTo.rest.now _ c.deliver.new.receiver c.if-self.false c.if-self.false refl by refl
    (subst (DeliversPiece ListsEntry _ true c.args.self.now.decoder c.args.octets.now c.deliver.new.self _ c.deliver.new.receiver) c.in-UpTo.is c.in_ok-delivered.ensures)).took

pub returns-in-UpTo-clause-listed : goal.returns-in-UpTo-clause-listed
returns-in-UpTo-clause-listed c = λ profile limit stream t.
    let by = c.profile.ensures ∙ ap (λ (d : Decoding). d.profile) c.decoder.ensures in
    let same = piece-same _ c.args.self.now.decoder c.deliver.new.self c.args.octets.now _ c.deliver.new.receiver c.in_ok-delivered.delivered c.in_ok-delivered.ensures in
    let new : MessageFrames = record { decoder = c.deliver.new.self; offset = c.deliver.new.receiver.offset; is_over = c.args.self.now.is_over } in
    let listed =
    (takes-up-to _ c.args.self.now new c.args.octets.now c.in-UpTo.rest.now _ c.deliver.new.receiver c.if-self.false c.if-self.false refl by refl
    (subst (DeliversPiece ListsEntry _ true c.args.self.now.decoder c.args.octets.now c.deliver.new.self _ c.deliver.new.receiver) c.in-UpTo.is c.in_ok-delivered.ensures)).listed profile limit stream t in
    then_is _ c.deliver.new.receiver.listing.now _ listed (search rules)

pub returns-in_ok-put_refusal-in-Stopped-clause-took : goal.returns-in_ok-put_refusal-in-Stopped-clause-took
returns-in_ok-put_refusal-in-Stopped-clause-took c =
    let by = c.profile.ensures ∙ ap (λ (d : Decoding). d.profile) c.decoder.ensures in
    let new : MessageFrames = record { decoder = c.deliver.new.self; offset = c.deliver.new.receiver.offset; is_over = true } in
    let refusal = c.in-Stopped.refusal in
    rw (take_all (length c.args.octets.now) c.args.octets.now (le_refl (length c.args.octets.now)))
    (takes-stopped c.args.self.now new c.args.octets.now refusal _ c.deliver.new.receiver c.put_refusal.new.self.listing.now c.if-self.false refl refl by
    (subst (DeliversPiece ListsEntry _ true c.args.self.now.decoder c.args.octets.now c.deliver.new.self _ c.deliver.new.receiver) c.in-Stopped.is c.in_ok-delivered.ensures)
    (c.in_ok-put_refusal-in-Stopped.ensures.listed ∙ ap (λ (d : Decoding). with_found c.deliver.new.receiver.origin.now (entry_found c.deliver.new.receiver.profile c.deliver.new.receiver.offset (Fault refusal.place refusal.why d.octets)) c.deliver.new.receiver.listing.now) c.decoder-in-Stopped.ensures)).took

pub returns-in_ok-put_refusal-in-Stopped-clause-listed : goal.returns-in_ok-put_refusal-in-Stopped-clause-listed
returns-in_ok-put_refusal-in-Stopped-clause-listed c = λ profile limit stream t.
    let by = c.profile.ensures ∙ ap (λ (d : Decoding). d.profile) c.decoder.ensures in
    let same = piece-same _ c.args.self.now.decoder c.deliver.new.self c.args.octets.now _ c.deliver.new.receiver c.in_ok-delivered.delivered c.in_ok-delivered.ensures in
    let new : MessageFrames = record { decoder = c.deliver.new.self; offset = c.deliver.new.receiver.offset; is_over = true } in
    let refusal = c.in-Stopped.refusal in
    let listed =
    (takes-stopped c.args.self.now new c.args.octets.now refusal _ c.deliver.new.receiver c.put_refusal.new.self.listing.now c.if-self.false refl refl by
    (subst (DeliversPiece ListsEntry _ true c.args.self.now.decoder c.args.octets.now c.deliver.new.self _ c.deliver.new.receiver) c.in-Stopped.is c.in_ok-delivered.ensures)
    (c.in_ok-put_refusal-in-Stopped.ensures.listed ∙ ap (λ (d : Decoding). with_found c.deliver.new.receiver.origin.now (entry_found c.deliver.new.receiver.profile c.deliver.new.receiver.offset (Fault refusal.place refusal.why d.octets)) c.deliver.new.receiver.listing.now) c.decoder-in-Stopped.ensures)).listed profile limit stream t in
    rw (take_all (length c.args.octets.now) c.args.octets.now (le_refl (length c.args.octets.now)))
    (then_is _ c.put_refusal.new.self.listing.now _ listed (search rules))

pub returns-in-UpTo-clause-full : goal.returns-in-UpTo-clause-full
returns-in-UpTo-clause-full c = λ few.
    let same = piece-same _ c.args.self.now.decoder c.deliver.new.self c.args.octets.now _ c.deliver.new.receiver c.in_ok-delivered.delivered c.in_ok-delivered.ensures in
    let l = subst (DeliversPiece ListsEntry _ true c.args.self.now.decoder c.args.octets.now c.deliver.new.self _ c.deliver.new.receiver) c.in-UpTo.is c.in_ok-delivered.ensures in
    let full : IsFull c.deliver.new.receiver.listing.now.text = l.full (omega (arith, few)) in
    search rules

pub returns-in-UpTo-clause-profile : goal.returns-in-UpTo-clause-profile
returns-in-UpTo-clause-profile c = (subst (DeliversPiece ListsEntry _ true c.args.self.now.decoder c.args.octets.now c.deliver.new.self _ c.deliver.new.receiver) c.in-UpTo.is c.in_ok-delivered.ensures).prefix.delivers.same_profile

pub returns-in_ok-put_refusal-in-Stopped-clause-profile : goal.returns-in_ok-put_refusal-in-Stopped-clause-profile
returns-in_ok-put_refusal-in-Stopped-clause-profile c = (subst (DeliversPiece ListsEntry _ true c.args.self.now.decoder c.args.octets.now c.deliver.new.self _ c.deliver.new.receiver) c.in-Stopped.is c.in_ok-delivered.ensures).prefix.delivers.same_profile
