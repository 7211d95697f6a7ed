use Rattle.std.proofs.Common.{ℕ, ◌∙◌, ap}
use Rattle.std.specs.Prelude.{Option}
use Rattle.std.proofs.lemmas.Result.{on_ok_weaker}
use Rattle.krb_record.specs.declared.extent.Extent.{Extent}
use Rattle.krb_capture.proofs.Found.{refused_listed}
use Rattle.krb_capture.proofs.message_frames.FrameLister.put_refusal.Goals as goal

extent_with : ℕ → Option ℕ → Extent
extent_with offset length = record { at = offset; length = length }

pub returns-clause-listed : goal.returns-clause-listed
unfolding extent_with
returns-clause-listed c =
    on_ok_weaker c.put_refusal.result
    (λ l. refused_listed c.args.self.now.profile c.args.self.now.origin.now c.args.refusal c.args.self.now.offset c.args.decoder.now.octets c.form.result _ _ _ c.args.self.now.listing.now c.put_refusal.new.self c.form.ensures c.in_ok-path.ensures c.as_deref.ensures.value (c.extent_of-extent.ensures ∙ ap (extent_with c.args.self.now.offset) c.announced.ensures) l)
    c.put_refusal.ensures
