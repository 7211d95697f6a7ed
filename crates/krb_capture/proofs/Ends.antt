-- What is listed at the end of a stream.
use Rattle.std.proofs.Common.{◌≡◌, ℕ, Bool, true, false, List, [], Some, None, refl, sym, ◌∙◌, ap, ap₂, subst, append-nil}
use Rattle.std.specs.Prelude.{Option, if◌then◌else◌}
use Rattle.krb_der.specs.declared.profile.Profile.{Profile}
use Rattle.krb_der.specs.declared.verdict.Refusal.{Refusal}
use Rattle.krb_flow.specs.declared.stream.End.{End}
use Rattle.krb_record.specs.declared.extent.Extent.{Extent}
use Rattle.krb_record.specs.declared.capture_origin.CaptureOrigin.{CaptureOrigin}
use Rattle.krb_capture.specs.Found.{Faulty, Found, Written, with_all, with_found}
use Rattle.krb_capture.specs.Streams.{Framed, before_frames, cut_refusal, end_found, entries_found, extent_at, framed, known_end, no_frames, open_path, refusal_found}
use Rattle.krb_capture.specs.Taken.{IsOver, Keeps, KeepsUnless, Took, TookPasswords, WaitsUnless, WaitsWith, kept_in, offset_in, over_in, passwords, service_of}
use Rattle.krb_capture.specs.declared.flow.Service.TheVariants as services
use Rattle.krb_capture.specs.declared.password_frames.PasswordFrames.{PasswordFrames}
use Rattle.krb_capture.specs.declared.frames.Frames.{Frames}
use Rattle.krb_capture.specs.declared.frames.Frames.TheVariants as frames
use Rattle.krb_capture.proofs.Framed.{framed-waiting}
use Rattle.krb_capture.proofs.Over.{waits-of}
use Rattle.krb_capture.proofs.Passed.{keeps-framed}
use Rattle.krb_capture.proofs.PasswordEnds.{keeps-of}

-- of a stream of which nothing more is passed over
took-framed : (taker : Frames) (limit : ℕ) (stream : List ℕ) → Took taker limit stream → over_in taker ≡ false → (found : List Found) × (framed (service_of taker) limit stream ≡ before_frames found (no_frames (offset_in taker) (kept_in taker)))
took-framed (frames.Messages taker) limit stream t e =
    let w : WaitsWith taker.decoder.current.profile taker stream = waits-of taker.decoder.current.profile taker limit stream t e in
    (entries_found taker.decoder.current.profile 0 w.waits.before, framed-waiting taker.decoder.current.profile limit taker.decoder stream w.waits t.limit_is ∙ ap (λ n. before_frames (entries_found taker.decoder.current.profile 0 w.waits.before) (no_frames n taker.decoder.current.octets)) (sym w.offset))
took-framed (frames.Passwords taker) limit stream t e =
    let k : Keeps taker stream = keeps-of taker.profile taker limit stream t e in
    (k.before, ap (λ n. passwords taker.profile n stream) (sym t.limit_is) ∙ keeps-framed taker stream k)

-- the octets of the frame that is not whole
kept-is : (taker : Frames) (limit : ℕ) (stream : List ℕ) → Took taker limit stream → over_in taker ≡ false → kept_in taker ≡ (framed (service_of taker) limit stream).partial
kept-is taker limit stream t e = ap (λ (f : Framed). f.partial) (sym (took-framed taker limit stream t e).1)

-- and where it begins
offset-in-is : (taker : Frames) (limit : ℕ) (stream : List ℕ) → Took taker limit stream → over_in taker ≡ false → offset_in taker ≡ (framed (service_of taker) limit stream).offset
offset-in-is taker limit stream t e = ap (λ (f : Framed). f.offset) (sym (took-framed taker limit stream t e).1)

-- whether all that follows is passed over
took-over : (taker : Frames) (limit : ℕ) (stream : List ℕ) → Took taker limit stream → over_in taker ≡ true → IsOver (service_of taker) limit stream
took-over (frames.Messages taker) limit stream t e = subst (λ b. WaitsUnless b taker.decoder.current.profile taker limit stream) e t.state
took-over (frames.Passwords taker) limit stream t e = subst (λ n. IsOver (services.Passwords taker.profile) n stream) t.limit_is (subst (λ b. KeepsUnless b taker stream) e t.state)

over-is : (taker : Frames) (limit : ℕ) (stream : List ℕ) → Took taker limit stream → over_in taker ≡ (framed (service_of taker) limit stream).over
over-is taker limit stream t = by (over_in taker) refl
  where
    by : (b : Bool) → over_in taker ≡ b → over_in taker ≡ (framed (service_of taker) limit stream).over
    by true e = e ∙ sym (took-over taker limit stream t e []).1 ∙ ap (λ s. (framed (service_of taker) limit s).over) (append-nil stream)
    by false e = e ∙ ap (λ (f : Framed). f.over) (sym (took-framed taker limit stream t e).1)

-- a frame that no other follows
pub end-over : (taker : Frames) (origin : CaptureOrigin) (end : End) (w : Written) → over_in taker ≡ true → (limit : ℕ) (stream : List ℕ) → Took taker limit stream → w ≡ with_all origin (end_found (service_of taker) limit stream end) w
unfolding end_found
end-over taker origin end w e limit stream t =
    ap (λ b. with_all origin (if b then [] else known_end (service_of taker) end (framed (service_of taker) limit stream).offset (framed (service_of taker) limit stream).partial) w) (sym e ∙ over-is taker limit stream t)

-- what is known otherwise
known-found : (taker : Frames) (end : End) → over_in taker ≡ false → (limit : ℕ) (stream : List ℕ) → Took taker limit stream → known_end (service_of taker) end (offset_in taker) (kept_in taker) ≡ end_found (service_of taker) limit stream end
unfolding end_found
known-found taker end e limit stream t =
    ap₂ (known_end (service_of taker) end) (offset-in-is taker limit stream t e) (kept-is taker limit stream t e)
    ∙ ap (λ b. if b then [] else known_end (service_of taker) end (framed (service_of taker) limit stream).offset (framed (service_of taker) limit stream).partial) (sym e ∙ over-is taker limit stream t)

pub end-known : (taker : Frames) (origin : CaptureOrigin) (end : End) (before after : Written) → over_in taker ≡ false → ((limit : ℕ) (stream : List ℕ) → Took taker limit stream → after ≡ with_all origin (known_end (service_of taker) end (offset_in taker) (kept_in taker)) before) → (limit : ℕ) (stream : List ℕ) → Took taker limit stream → after ≡ with_all origin (end_found (service_of taker) limit stream end) before
end-known taker origin end before after e l limit stream t = l limit stream t ∙ ap (λ x. with_all origin x before) (known-found taker end e limit stream t)

-- ---- the frame of a message that changes a password, which is not whole
abbrev pub ListsCut : Frames → CaptureOrigin → Written → Written → Type 0
ListsCut taker origin before after = (limit : ℕ) (stream : List ℕ) → Took taker limit stream → over_in taker ≡ false → after ≡ with_all origin (refusal_found (service_of taker) (offset_in taker) (kept_in taker) (cut_refusal (kept_in taker))) before

-- why it is refused, if it is
abbrev pub IsCut : PasswordFrames → Option Refusal → Type 0
IsCut inner found = (profile : Profile) (limit : ℕ) (stream : List ℕ) → TookPasswords profile inner limit stream → inner.is_over ≡ false → found ≡ cut_refusal inner.octets.items

pub no_cut-listed : (taker : Frames) (inner : PasswordFrames) (found : Option Refusal) (origin : CaptureOrigin) (w : Written) → taker ≡ frames.Passwords inner → ((refusal : Refusal) → found ≡ Some refusal → ⊥) → IsCut inner found → ListsCut taker origin w w
no_cut-listed taker inner found origin w e never f =
    subst (λ t. ListsCut t origin w w) (sym e)
    (λ limit stream t o. ap (λ x. with_all origin (refusal_found (services.Passwords inner.profile) inner.offset inner.octets.items x) w) (sym (none found never) ∙ f inner.profile limit stream t o))
  where
    none : (o : Option Refusal) → ((refusal : Refusal) → o ≡ Some refusal → ⊥) → o ≡ None
    none None never = refl
    none (Some refusal) never = absurd (never refusal refl)

pub cut-listed : (taker : Frames) (inner : PasswordFrames) (found : Option Refusal) (refusal : Refusal) (path : Option (List ℕ)) (extent : Extent) (origin : CaptureOrigin) (before after : Written) → taker ≡ frames.Passwords inner → found ≡ Some refusal → path ≡ open_path (services.Passwords inner.profile) inner.octets.items → extent ≡ extent_at inner.offset inner.octets.items → IsCut inner found → after ≡ with_found origin (Faulty refusal path extent) before → ListsCut taker origin before after
cut-listed taker inner found refusal path extent origin before after e n p x f l =
    subst (λ t. ListsCut t origin before after) (sym e)
    (λ limit stream t o.
    l
    ∙ ap₂ (λ q k. with_found origin (Faulty refusal q k) before) p x
    ∙ ap (λ y. with_all origin (refusal_found (services.Passwords inner.profile) inner.offset inner.octets.items y) before) (sym n ∙ f inner.profile limit stream t o))
