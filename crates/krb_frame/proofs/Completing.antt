-- A frame of which earlier pieces have some octets, and a piece all others.
use Rattle.std.proofs.Common.{◌≡◌, ℕ, zero, suc, ◌+◌, ◌<◌, ◌≤◌, true, List, [], ◌++◌, length, take, refl, sym, ◌∙◌, ap, subst, arith, le_refl, append-nil, length-append, length-take}
use Rattle.krb_der.specs.declared.profile.Profile.{Profile}
use Rattle.krb_der.specs.declared.verdict.Verdict.TheVariants as verdict
use Rattle.krb_msg.specs.Grammar.{messages}
use Rattle.krb_msg.specs.Judgement.{judgement_by}
use Rattle.krb_frame.specs.Decoding.{Decoding, decoding_of}
use Rattle.krb_frame.specs.Deliveries.{IsReceived}
use Rattle.krb_frame.specs.GoingOn.{Entry}
use Rattle.krb_frame.specs.inner.Deliveries.{CompletesWith}
use Rattle.krb_frame.specs.inner.Phases.{HasPart, IsFedContents, IsPhaseOf}
use Rattle.krb_frame.specs.declared.decoder.Fed.{Fed}
use Rattle.krb_frame.specs.declared.decoder.Phase.TheVariants as phase
use Rattle.krb_frame.specs.declared.decoder.Status.TheVariants as status
use Rattle.krb_frame.proofs.DecoderFrames.{borrowed-ready, taken-at}
use Rattle.krb_frame.proofs.Feeding.{Clears-frame, Feeds-contents}

open_whole : verdict.Open ≡ verdict.Whole → ⊥
open_whole e = cc

module _ {R : Type 0} (receives : R → Entry → R → Type 0) (profile : Profile) (limit looks space : ℕ) (announced before piece after : List ℕ) (size used : ℕ) (new : Decoding) where
  pub completes : {start end : R} → HasPart (messages profile) limit announced before size → length before + used ≡ size → used ≤ length piece → after ≡ before ++ take used piece → IsReceived receives profile after start end true → new ≡ record { profile = profile; limit = limit; octets = []; looks = looks; capacity = new.capacity } → (limit ≤ space → limit ≤ new.capacity) → CompletesWith receives (messages profile) (decoding_of profile limit looks space announced before (phase.Contents size)) piece used new start end
  completes h all within is delivered left capacity =
      let fed : Fed = record { used = used; status = status.Ready } in
      let long : length after ≡ size = omega (arith, ap length is, length-append before (take used piece), length-take used piece, all, within) in
      let whole : judgement_by (messages profile) size after ≡ verdict.Whole = subst (λ n. judgement_by (messages profile) n after ≡ verdict.Whole) long delivered.0 in
      let taken : IsFedContents (messages profile) size before piece after fed = record { within = within; contents = is; present = omega (arith, long); decided = (whole, long) } in
      let at : IsPhaseOf (messages profile) limit announced after phase.Ready = taken-at (messages profile) profile limit announced before piece after size used status.Ready h taken in
      record {
        contents = after;
        ready = decoding_of profile limit (looks + used) space announced after phase.Ready;
        feeds = Feeds-contents (messages profile) profile limit looks (looks + used) space space announced before piece after size phase.Ready fed h taken refl (le_refl space) (λ n e. cc) refl;
        is_ready = borrowed-ready (messages profile) profile limit (looks + used) space announced after phase.Ready at refl;
        clears = Clears-frame (messages profile) profile limit (looks + used) space announced after (record { profile = profile; limit = limit; octets = []; looks = looks + used; capacity = new.capacity }) at refl (λ ample. record { octets = capacity ample.octets });
        profile = ap (λ (d : Decoding). d.profile) left;
        limit = ap (λ (d : Decoding). d.limit) left;
        none = ap (λ (d : Decoding). d.octets) left;
        some = some used refl whole;
        received = delivered.1;
      }
    where
      some : (n : ℕ) → used ≡ n → judgement_by (messages profile) size after ≡ verdict.Whole → 0 < used
      some zero e whole = absurd (open_whole (sym h.undecided ∙ ap (judgement_by (messages profile) size) (sym (is ∙ ap (λ n. before ++ take n piece) e ∙ append-nil before)) ∙ whole))
      some (suc n) e whole = omega (arith, e)
