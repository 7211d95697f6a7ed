-- What the frames of messages answer at the end.
use Rattle.std.proofs.Common.{◌≡◌, ℕ, false, List, [], ◌∷◌, Some, refl, sym, ◌∙◌, ap, subst}
use Rattle.std.specs.Result.{result_err}
use Rattle.krb_der.specs.declared.profile.Profile.{Profile}
use Rattle.krb_der.specs.declared.why.Why.TheVariants as why
use Rattle.krb_msg.specs.Grammar.{messages}
use Rattle.krb_msg.specs.Stream.{Frames, End, Boundary, Within, Refused, ends, frames}
use Rattle.krb_msg.proofs.FramePrefixes.{frames-nil}
use Rattle.krb_frame.specs.Decoding.{Decoding, AreOfOne, finish_at, finish_of, found, status_at, status_of}
use Rattle.krb_frame.specs.GoingOn.{GoesOn, Skipping}
use Rattle.krb_frame.specs.declared.decoder.Status.TheVariants as status
use Rattle.krb_frame.proofs.DecoderFrames.{more-nothing}
use Rattle.krb_capture.specs.Streams.{cut_refusal}
use Rattle.krb_capture.specs.Taken.{TookMessages, Waits, WaitsUnless, WaitsWith}
use Rattle.krb_capture.specs.declared.message_frames.MessageFrames.{MessageFrames}

-- of a direction of which nothing came
pub took-new : (profile : Profile) (decoder : Decoding) (s : Skipping) (limit looks : ℕ) (room : ℕ) → decoder ≡ record { profile = profile; limit = limit; octets = []; looks = looks; capacity = room } → s ≡ record { current = decoder; skipped = 0 } → (decoder.octets ≡ [] → GoesOn (messages decoder.profile) s [] []) → TookMessages profile (record { decoder = s; offset = 0; is_over = false }) limit []
took-new profile decoder s limit looks room e f g =
    let same : s.current ≡ decoder = ap (λ (t : Skipping). t.current) f in
    record {
      profile_is = ap (λ (d : Decoding). d.profile) (same ∙ e);
      limit_is = ap (λ (d : Decoding). d.limit) (same ∙ e);
      state = record {
        waits = record {
          before = [];
          done = tt;
          goes_on = subst (λ p. GoesOn (messages p) s [] []) (ap (λ (d : Decoding). d.profile) e) (g (ap (λ (d : Decoding). d.octets) e));
          waits = ap (λ d. status_of (messages profile) d) (same ∙ e) ∙ more-nothing (messages profile) profile limit looks room;
        };
        offset = refl;
      };
    }

pub waits-of : (profile : Profile) (taker : MessageFrames) (limit : ℕ) (stream : List ℕ) → TookMessages profile taker limit stream → taker.is_over ≡ false → WaitsWith profile taker stream
waits-of profile taker limit stream t e = subst (λ b. WaitsUnless b profile taker limit stream) e t.state

-- why it is refused
cut_at : (octets : List ℕ) (f : Frames) → (octets ≡ [] → f ≡ ends Boundary) → AreOfOne octets f.contents f.end → status_at f.contents f.end ≡ status.More → result_err (finish_at f.end) ≡ cut_refusal octets
cut_at octets f nil one e = by octets f.contents f.end (λ z. ap (λ (g : Frames). g.end) (nil z)) one e
  where
    by : (octets : List ℕ) (contents : List (List ℕ)) (end : End) → (octets ≡ [] → end ≡ Boundary) → AreOfOne octets contents end → status_at contents end ≡ status.More → result_err (finish_at end) ≡ cut_refusal octets
    by octets (first ∷ others) end nil one e = absurd cc
    by octets [] Boundary nil one e = ap cut_refusal (sym one)
    by [] [] (Within present) nil one e = absurd (no (nil refl))
      where
        no : Within present ≡ Boundary → ⊥
        no e = cc
    by (octet ∷ octets) [] (Within present) nil one e = ap (λ n. Some (record { place = n; why = why.Truncated })) (sym one)
    by octets [] (Refused place reason) nil one e = absurd cc

pub cut-is : (profile : Profile) (s : Skipping) (stream : List ℕ) → Waits profile s stream → result_err (finish_of (messages profile) s.current) ≡ cut_refusal s.current.octets
unfolding found
cut-is profile s stream w = cut_at s.current.octets (frames (messages profile) s.current.limit s.current.octets) (λ z. ap (frames (messages profile) s.current.limit) z ∙ frames-nil (messages profile) s.current.limit) w.goes_on.one w.waits

pub finish-is : (profile : Profile) (taker : MessageFrames) (limit : ℕ) (stream : List ℕ) → TookMessages profile taker limit stream → taker.is_over ≡ false → result_err (finish_of (messages taker.decoder.current.profile) taker.decoder.current) ≡ cut_refusal taker.decoder.current.octets
finish-is profile taker limit stream t e =
    ap (λ p. result_err (finish_of (messages p) taker.decoder.current)) t.profile_is
    ∙ cut-is profile taker.decoder stream (waits-of profile taker limit stream t e).waits
