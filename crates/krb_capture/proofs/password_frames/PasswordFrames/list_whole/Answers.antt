use Rattle.std.proofs.Common.{◌≡◌, Some, sym, ◌∙◌, ap, subst}
use Rattle.std.proofs.lemmas.Result.{on_ok_weaker}
use Rattle.krb_der.specs.declared.why.Why.{Why}
use Rattle.krb_frame.specs.Frame.{length_fault}
use Rattle.krb_frame.proofs.Lengths.{no_fault}
use Rattle.krb_record.specs.declared.extent.Extent.{Extent}
use Rattle.krb_capture.specs.Found.{with_found}
use Rattle.krb_capture.specs.Passed.{PassesOver, frame_length}
use Rattle.krb_capture.specs.Streams.{extent_at, length_found}
use Rattle.krb_capture.specs.Taken.{IsAllowed}
use Rattle.krb_capture.specs.declared.password_frames.PasswordFrames.{PasswordFrames}
use Rattle.krb_capture.proofs.Whole.{is_none, whole-contents, whole-high, whole-none, whole-refused}
use Rattle.krb_capture.proofs.password_frames.PasswordFrames.list_whole.Goals as goal
use Rattle.krb_capture.proofs.password_frames.PasswordFrames.list_whole.Goals.{in-HighBit, in_default-why}

pub returns-in_default-clause-listed : goal.returns-in_default-clause-listed
returns-in_default-clause-listed c = whole-none c.args.self.now c.args.origin.now c.args.listing.now (is_none (frame_length c.args.self.now.octets.items) (λ n e. c.in_default.not-Some n (c.length.ensures ∙ e)))

pub returns-in_default-length_fault-clause-listed : goal.returns-in_default-length_fault-clause-listed
returns-in_default-length_fault-clause-listed c =
    let fine = no_fault c.args.self.now.limit c.in-Some.size (sym c.length_fault.ensures ∙ c.in_default-length_fault.is) in
    let allowed : IsAllowed c.args.self.now.limit c.in-Some.size = record { some = fine.0; short = fine.1.0; within = fine.1.1 } in
    on_ok_weaker c.list_contents.result (λ l stream h. whole-contents c.args.self.now c.list_contents.new.self c.in-Some.size c.args.origin.now c.args.listing.now c.list_contents.new.listing (sym c.length.ensures ∙ c.in-Some.is) stream h allowed l) c.list_contents.ensures

pub returns-clause-listed : goal.returns-clause-listed
returns-clause-listed c =
    let reason : Why = c.in-Some-length_fault.why in
    let some = sym c.length.ensures ∙ c.in-Some.is in
    let fault : length_fault c.args.self.now.limit c.in-Some.size ≡ Some reason = sym c.length_fault.ensures ∙ c.in-Some-length_fault.is in
    let at : with_found c.args.origin.now (length_found c.extent-extent.result reason) c.args.listing.now ≡ with_found c.args.origin.now (length_found (extent_at c.args.self.now.offset c.args.self.now.octets.items) reason) c.args.listing.now = ap (λ (x : Extent). with_found c.args.origin.now (length_found x reason) c.args.listing.now) c.extent-extent.ensures in
    on_ok_weaker c.list_refused.result (λ l stream h. elim c.match-why.branch [
      | in-HighBit w ↦ whole-high c.args.self.now c.match-why.self c.in-Some.size c.args.origin.now c.args.listing.now c.list_refused.new.listing some stream h reason w.in-HighBit.is fault (ap (λ (p : PasswordFrames). p.profile) w.self-is) (ap (λ (p : PasswordFrames). p.limit) w.self-is) (ap (λ (p : PasswordFrames). p.is_over) w.self-is) (l ∙ at)
      | in_default-why w ↦ whole-refused c.args.self.now c.match-why.self c.in-Some.size c.args.origin.now c.args.listing.now c.list_refused.new.listing some stream h reason w.in_default-why.not-HighBit fault (subst (PassesOver c.args.self.now c.in-Some.size c.in-Some.size) (sym w.self-is) w.pass_over.ensures) (l ∙ at)
    ]) c.list_refused.ensures
