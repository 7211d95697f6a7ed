-- Frames that lie whole in a piece of a stream.
use Rattle.std.proofs.Common.{◌≡◌, ℕ, ◌+◌, ◌/◌, ◌%◌, inl, List, [], ◌∷◌, ◌++◌, length, take, drop, refl, sym, ◌∙◌, ap, ap₂, subst, arith, append_assoc, append-nil, length-append, length-take, take-append-drop, false, Option, Some, None}
use Rattle.std.specs.Prelude.{is_some}
use Rattle.std.specs.Int.{w32, from_be_bytes}
use Rattle.std.specs.List.{IsSplitAt}
use Rattle.krb_der.specs.Octets.{AreOctets, number}
use Rattle.krb_der.specs.inner.Numbers.{AreOctets-take}
use Rattle.krb_der.specs.declared.profile.Profile.TheVariants.{Lenient}
use Rattle.krb_der.specs.declared.verdict.Verdict.TheVariants.{Whole}
use Rattle.krb_der.specs.declared.why.Why.{Why}
use Rattle.krb_msg.specs.Term.{Term}
use Rattle.krb_msg.specs.Judgement.{judgement_by}
use Rattle.krb_msg.specs.Stream.{frames}
use Rattle.krb_frame.specs.Decoding.{Decoding}
use Rattle.krb_frame.specs.Decoded.{HasDecoded, after_frames}
use Rattle.krb_frame.specs.Frame.{framed, frame_length, length_fault}
use Rattle.krb_frame.specs.GoingOn.{Entry, Contents, GoesOn, IsClear, Skipping, entries}
use Rattle.krb_frame.specs.inner.Phases.{HasFrame}
use Rattle.krb_frame.specs.Wholes.{BeginWith}
use Rattle.krb_frame.proofs.DecoderFrames.{found-frame, from_be_bytes-number}
use Rattle.krb_frame.proofs.Feeding.{counted-more}
use Rattle.krb_frame.proofs.GoingOn.{entries-frame}
use Rattle.krb_frame.proofs.Lengths.{no_fault}

-- the four octets of a number spell it
frame_length-number : (announced : List ℕ) → AreOctets announced → length announced ≡ 4 → frame_length (number announced) ≡ announced
frame_length-number [] a e = absurd (omega arith)
frame_length-number (w ∷ []) a e = absurd (omega arith)
frame_length-number (w ∷ x ∷ []) a e = absurd (omega arith)
frame_length-number (w ∷ x ∷ y ∷ []) a e = absurd (omega arith)
frame_length-number (w ∷ x ∷ y ∷ z ∷ []) (wo, (xo, (yo, (zo, none)))) e =
    let n : ℕ = number (w ∷ x ∷ y ∷ z ∷ []) in
    let we : n / 16777216 ≡ w = omega arith in
    let xe : n / 65536 % 256 ≡ x = omega arith in
    let ye : n / 256 % 256 ≡ y = omega arith in
    let ze : n % 256 ≡ z = omega arith in
    λ i. we i ∷ xe i ∷ ye i ∷ ze i ∷ []
frame_length-number (v ∷ w ∷ x ∷ y ∷ z ∷ rest) a e = absurd (omega arith)

-- ---- octets that begin with a frame
no_fault_of : (fault : Option Why) → is_some fault ≡ false → fault ≡ None
no_fault_of None e = refl
no_fault_of (Some reason) e = absurd cc

pub begins : (limit size : ℕ) (octets announced after contents rest : List ℕ) → AreOctets octets → announced ≡ take 4 octets → after ≡ drop 4 octets → length after + 4 ≡ length octets → size ≡ from_be_bytes w32 announced → is_some (length_fault limit size) ≡ false → IsSplitAt after size contents rest → BeginWith limit octets contents rest
begins limit size octets announced after contents rest are f b all s fine cut =
    let four : length announced ≡ 4 = omega (arith, ap length f, length-take 4 octets, all) in
    let spelled : announced ≡ frame_length (length contents) = sym (frame_length-number announced (subst AreOctets (sym f) (AreOctets-take 4 octets are)) four) ∙ ap frame_length (sym (s ∙ from_be_bytes-number announced four) ∙ sym cut.3) in
    record {
      parts =
          sym (take-append-drop 4 octets)
          ∙ ap₂ (λ x y. x ++ y) (sym f) (sym b ∙ sym (take-append-drop size after) ∙ ap₂ (λ x y. x ++ y) (sym cut.1) (sym cut.2))
          ∙ sym (append_assoc announced contents rest)
          ∙ ap (λ l. (l ++ contents) ++ rest) spelled;
      accepted = ap (length_fault limit) cut.3 ∙ no_fault_of (length_fault limit size) fine;
    }

-- the frame is whole if its contents are a message
pub begin-frame : (messages : List Term) (limit : ℕ) (octets contents rest : List ℕ) → BeginWith limit octets contents rest → judgement_by messages (length contents) contents ≡ Whole → HasFrame messages limit (frame_length (length contents)) contents
begin-frame messages limit octets contents rest b whole =
    let fine = no_fault limit (length contents) b.accepted in
    let spelled : number (frame_length (length contents)) ≡ length contents = omega (arith, fine.1.0) in
    record { accepted = record { four = refl; is = spelled; some = fine.0; short = fine.1.0; within = fine.1.1 }; whole = whole }

-- ---- the stream that a decoder between two frames has decoded, after a frame
module _ (messages : List Term) where
  -- no octet of a frame is present
  alone : {d : Decoding} {stream : List ℕ} {cleared : List (List ℕ)} (s : HasDecoded messages d stream cleared) → d.octets ≡ [] → length stream ≡ length s.last.before
  alone s e = ap length (s.last.parts ∙ ap (λ l. s.last.before ++ l) e ∙ append-nil s.last.before)

  pub HasDecoded-frame : (d : Decoding) (contents : List ℕ) → d.octets ≡ [] → HasFrame messages d.limit (frame_length (length contents)) contents → (stream : List ℕ) (cleared : List (List ℕ)) → HasDecoded messages d stream cleared → HasDecoded messages d (stream ++ framed contents) (cleared ++ contents ∷ [])
  HasDecoded-frame d contents e h stream cleared s = record {
    goes_on = λ more.
        ap (frames messages d.limit) (append_assoc stream (framed contents) more)
        ∙ s.goes_on (framed contents ++ more)
        ∙ ap (λ l. after_frames cleared (frames messages d.limit (l ++ (framed contents ++ more)))) e
        ∙ ap (after_frames cleared) (found-frame messages Lenient d.limit (frame_length (length contents)) contents more h)
        ∙ ap (λ l. record { contents = l; end = (frames messages d.limit more).end }) (sym (append_assoc cleared (contents ∷ []) (frames messages d.limit more).contents))
        ∙ ap (λ l. after_frames (cleared ++ contents ∷ []) (frames messages d.limit (l ++ more))) (sym e);
    last = record { before = stream ++ framed contents; parts = sym (append-nil (stream ++ framed contents)) ∙ ap (λ l. (stream ++ framed contents) ++ l) (sym e) };
    counted =
        let size : length (stream ++ framed contents) ≡ length s.last.before + (4 + length contents) = omega (arith, alone s e, length-append stream (framed contents), length-append (frame_length (length contents)) contents) in
        size ∙ counted-more messages d.profile contents cleared (length s.last.before) s.counted;
    one = s.one;
  }

  pub GoesOn-frame : (s : Skipping) (contents : List ℕ) → IsClear s → HasFrame messages s.current.limit (frame_length (length contents)) contents → (stream : List ℕ) (before : List Entry) → GoesOn messages s stream before → GoesOn messages s (stream ++ framed contents) (before ++ Contents contents ∷ [])
  GoesOn-frame s contents c h stream before g =
      let d : Decoding = s.current in
      let long : length (framed contents) ≡ 4 + length contents = omega arith in
      record {
        goes_on = λ more.
            ap (entries messages d.limit) (append_assoc stream (framed contents) more)
            ∙ g.goes_on (framed contents ++ more)
            ∙ ap₂ (λ l n. before ++ entries messages d.limit (l ++ drop n (framed contents ++ more))) c.nothing c.none
            ∙ ap (λ l. before ++ l) (entries-frame messages d.limit (framed contents) contents more long (found-frame messages Lenient d.limit (frame_length (length contents)) contents more h))
            ∙ sym (append_assoc before (Contents contents ∷ []) (entries messages d.limit more))
            ∙ ap₂ (λ l n. (before ++ Contents contents ∷ []) ++ entries messages d.limit (l ++ drop n more)) (sym c.nothing) (sym c.none);
        one = g.one;
        alone = inl c.none;
      }
