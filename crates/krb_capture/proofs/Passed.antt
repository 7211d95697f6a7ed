-- What is found in the frames of messages that change passwords, by what is kept of them.
use Rattle.std.proofs.Common.{◌≡◌, ℕ, zero, suc, ◌+◌, ◌^◌, ◌<◌, ◌≤◌, inl, inr, true, false, List, [], ◌∷◌, ◌++◌, length, take, drop, Option, Some, None, refl, sym, ◌∙◌, ap, ap₂, subst, arith, le_refl, append_assoc, append-nil, length-append, length-drop, drop_at}
use Rattle.std.specs.Prelude.{nat_lt, if◌then◌else◌}
use Rattle.std.proofs.lemmas.Bool.{lt-leb, lt-ltb, le-ltb, ne_eqb}
use Rattle.std.proofs.lemmas.List.{drop_all, take-append-le, drop-append-le, take_at}
use Rattle.std.proofs.Math.Seq.{drop-append-add}
use Rattle.krb_der.specs.Octets.{number}
use Rattle.krb_der.specs.declared.profile.Profile.{Profile}
use Rattle.krb_der.specs.declared.why.Why.{Why}
use Rattle.krb_der.specs.declared.why.Why.TheVariants as why
use Rattle.krb_frame.specs.Frame.{length_fault}
use Rattle.krb_record.specs.declared.extent.Extent.{Extent}
use Rattle.krb_record.specs.declared.capture_origin.CaptureOrigin.{CaptureOrigin}
use Rattle.krb_capture.specs.Found.{Found, Written, with_all}
use Rattle.krb_capture.specs.Passed.{Holds, ListsNext}
use Rattle.krb_capture.specs.Passwords.{password_found}
use Rattle.krb_capture.specs.Streams.{Framed, after_frame, before_frames, frame_of, length_found, no_frames, password_frame, password_frame_by, password_frames, passwords_framed}
use Rattle.krb_capture.specs.Taken.{IsAllowed, IsOver, IsPart, Keeps, KeepsUnless, passwords}
use Rattle.krb_capture.specs.declared.flow.Service.TheVariants as services
use Rattle.krb_capture.specs.declared.password_frames.PasswordFrames.{PasswordFrames}

module _ (profile : Profile) (limit : ℕ) where
  -- ---- the bound on how many frames there are
  frame-same : (offset n : ℕ) (octets : List ℕ) (f g : ℕ → List ℕ → Framed) → f (after_frame offset n) (drop (4 + n) octets) ≡ g (after_frame offset n) (drop (4 + n) octets) → password_frame profile limit offset n octets f ≡ password_frame profile limit offset n octets g
  frame-same offset n octets f g e = rw e refl

  none : (b offset : ℕ) → password_frames profile b limit offset [] ≡ no_frames offset []
  none zero offset = refl
  none (suc b) offset = refl

  bound : (b c offset : ℕ) (octets : List ℕ) → length octets ≤ b → length octets ≤ c → password_frames profile b limit offset octets ≡ password_frames profile c limit offset octets
  bound b c offset [] p q = none b offset ∙ sym (none c offset)
  bound zero c offset (octet ∷ rest) p q = absurd (omega arith)
  bound (suc b) zero offset (octet ∷ rest) p q = absurd (omega arith)
  bound (suc b) (suc c) offset (octet ∷ rest) p q =
      let n : ℕ = number (take 4 (octet ∷ rest)) in
      let next : List ℕ = drop (4 + n) (octet ∷ rest) in
      ap (λ x. if nat_lt (length (octet ∷ rest)) 4 then no_frames offset (octet ∷ rest) else x)
      (frame-same offset n (octet ∷ rest) (password_frames profile b limit) (password_frames profile c limit) (bound b c (after_frame offset n) next (omega (arith, p, length-drop (4 + n) (octet ∷ rest))) (omega (arith, q, length-drop (4 + n) (octet ∷ rest)))))

  pub passwords-short : (offset : ℕ) (octets : List ℕ) → length octets < 4 → passwords_framed profile limit offset octets ≡ no_frames offset octets
  unfolding passwords_framed
  passwords-short offset [] h = refl
  passwords-short offset (octet ∷ rest) h = ap (λ b. if b then no_frames offset (octet ∷ rest) else password_frame profile limit offset (number (take 4 (octet ∷ rest))) (octet ∷ rest) (password_frames profile (length rest) limit)) (lt-ltb (length (octet ∷ rest)) 4 h)

  pub passwords-step : (offset : ℕ) (octets : List ℕ) → 4 ≤ length octets → passwords_framed profile limit offset octets ≡ password_frame profile limit offset (number (take 4 octets)) octets (passwords_framed profile limit)
  unfolding passwords_framed
  passwords-step offset [] h = absurd (omega arith)
  passwords-step offset (octet ∷ rest) h =
      let n : ℕ = number (take 4 (octet ∷ rest)) in
      let next : List ℕ = drop (4 + n) (octet ∷ rest) in
      ap (λ b. if b then no_frames offset (octet ∷ rest) else password_frame profile limit offset n (octet ∷ rest) (password_frames profile (length rest) limit)) (le-ltb (length (octet ∷ rest)) 4 h)
      ∙ frame-same offset n (octet ∷ rest) (password_frames profile (length rest) limit) (λ k l. password_frames profile (length l) limit k l) (bound (length rest) (length next) (after_frame offset n) next (omega (arith, length-drop (4 + n) (octet ∷ rest))) (le_refl (length next)))

  -- ---- a frame, by its length
  pub allowed-no_fault : (n : ℕ) → IsAllowed limit n → length_fault limit n ≡ None
  allowed-no_fault n a =
      let some : n ≡ 0 → ⊥ = λ z. absurd (omega (arith, a.some, z)) in
      rw (lt-leb (2 ^ 31) n a.short, le-ltb limit n a.within, ne_eqb n 0 some) refl

  module _ (offset n : ℕ) (octets : List ℕ) (f : ℕ → List ℕ → Framed) where
    abbrev pub others : Framed
    others = f (after_frame offset n) (drop (4 + n) octets)

    pub frame-by : (fault : Option Why) → length_fault limit n ≡ fault → password_frame profile limit offset n octets f ≡ password_frame_by profile fault offset n octets others
    frame-by fault e = ap (λ fault. password_frame_by profile fault offset n octets others) e

    pub frame-open : IsAllowed limit n → length octets < 4 + n → password_frame profile limit offset n octets f ≡ no_frames offset octets
    frame-open a h = frame-by None (allowed-no_fault n a) ∙ rw (lt-ltb (length octets) (4 + n) h) refl

    pub frame-whole : IsAllowed limit n → 4 + n ≤ length octets → password_frame profile limit offset n octets f ≡ before_frames (password_found profile (frame_of offset n) 4 (take n (drop 4 octets))) others
    frame-whole a h = frame-by None (allowed-no_fault n a) ∙ rw (le-ltb (length octets) (4 + n) h) refl

  -- ---- octets that are kept, and others
  pub passwords-part : (offset : ℕ) (octets : List ℕ) → IsPart limit octets → passwords_framed profile limit offset octets ≡ no_frames offset octets
  passwords-part offset octets (inl h) = passwords-short offset octets h
  passwords-part offset octets (inr p) = passwords-step offset octets p.1 ∙ frame-open offset (number (take 4 octets)) octets (passwords_framed profile limit) p.0 p.2

  module _ (offset : ℕ) (octets : List ℕ) (four : 4 ≤ length octets) (more : List ℕ) where
    abbrev pub size : ℕ
    size = number (take 4 octets)

    abbrev pub extent : Extent
    extent = frame_of offset size

    first : passwords_framed profile limit offset (octets ++ more) ≡ password_frame profile limit offset size (octets ++ more) (passwords_framed profile limit)
    first =
        passwords-step offset (octets ++ more) (omega (arith, four, length-append octets more))
        ∙ ap (λ l. password_frame profile limit offset (number l) (octets ++ more) (passwords_framed profile limit)) (take-append-le 4 octets more four)

    pub next-high : length_fault limit size ≡ Some why.HighBit → passwords_framed profile limit offset (octets ++ more) ≡ record { found = length_found extent why.HighBit ∷ []; partial = []; offset = offset; over = true }
    next-high e = first ∙ frame-by offset size (octets ++ more) (passwords_framed profile limit) (Some why.HighBit) e

    -- the contents are skipped
    after_length : length octets ≡ 4 → drop (4 + size) (octets ++ more) ≡ drop size more
    after_length e = ap (λ k. drop (k + size) (octets ++ more)) (sym e) ∙ drop-append-add octets more size

    pub next-refused : (reason : Why) → (reason ≡ why.HighBit → ⊥) → length_fault limit size ≡ Some reason → length octets ≡ 4 → passwords_framed profile limit offset (octets ++ more) ≡ before_frames (length_found extent reason ∷ []) (passwords_framed profile limit (after_frame offset size) (drop size more))
    next-refused why.HighBit never e four_octets = absurd (never refl)
    next-refused reason never e four_octets =
        first
        ∙ frame-by offset size (octets ++ more) (passwords_framed profile limit) (Some reason) e
        ∙ ap (λ l. before_frames (length_found extent reason ∷ []) (passwords_framed profile limit (after_frame offset size) l)) (after_length four_octets)

    pub next-whole : IsAllowed limit size → length octets ≡ 4 + size → passwords_framed profile limit offset (octets ++ more) ≡ before_frames (password_found profile extent 4 (drop 4 octets)) (passwords_framed profile limit (after_frame offset size) more)
    next-whole a e =
        let there : length (drop 4 octets) ≡ size = omega (arith, e, length-drop 4 octets) in
        first
        ∙ frame-whole offset size (octets ++ more) (passwords_framed profile limit) a (omega (arith, e, length-append octets more))
        ∙ ap₂ (λ l r. before_frames (password_found profile extent 4 l) (passwords_framed profile limit (after_frame offset size) r)) (ap (take size) (drop-append-le 4 octets more four) ∙ take_at (drop 4 octets) more size there) (drop_at octets more (4 + size) e)

-- ---- a frame that is not whole is kept
pub keeps-framed : (taker : PasswordFrames) (stream : List ℕ) (k : Keeps taker stream) → passwords taker.profile taker.limit stream ≡ before_frames k.before (no_frames taker.offset taker.octets.items)
keeps-framed taker stream k =
    ap (passwords taker.profile taker.limit) (sym (append-nil stream))
    ∙ k.goes_on []
    ∙ ap (λ l. before_frames k.before (passwords_framed taker.profile taker.limit taker.offset (taker.octets.items ++ l))) (drop_all taker.skipped [] (omega arith))
    ∙ ap (λ l. before_frames k.before (passwords_framed taker.profile taker.limit taker.offset l)) (append-nil taker.octets.items)
    ∙ ap (before_frames k.before) (passwords-part taker.profile taker.limit taker.offset taker.octets.items k.partial)

pub keeps-found : (taker : PasswordFrames) (stream : List ℕ) (k : Keeps taker stream) → (passwords taker.profile taker.limit stream).found ≡ k.before
keeps-found taker stream k = ap (λ (f : Framed). f.found) (keeps-framed taker stream k) ∙ append-nil k.before

-- ---- the next frame is listed if it is whole or refused
-- it is neither
pub next-kept : (old : PasswordFrames) (stream : List ℕ) (h : Holds old old.octets.items stream) (origin : CaptureOrigin) (before : Written) → IsPart old.limit old.octets.items → ListsNext old old old.octets.items stream h origin before before
next-kept old stream h origin before p = record {
  profile = refl;
  limit = refl;
  state = subst (λ b. KeepsUnless b old stream) (sym h.goes) keeps;
  listed = ap (λ l. with_all origin l before) (sym (drop_all (length h.before) (passwords old.profile old.limit stream).found (omega (arith, ap length (keeps-found old stream keeps)))));
}
  where
    keeps : Keeps old stream
    keeps = record {
      before = h.before;
      goes_on = λ more. h.goes_on more ∙ ap (λ n. before_frames h.before (passwords_framed old.profile old.limit old.offset (old.octets.items ++ drop n more))) (sym h.none_skipped);
      partial = p;
      alone = inl h.none_skipped;
    }

module _ (old : PasswordFrames) (s stream : List ℕ) (h : Holds old s stream) (origin : CaptureOrigin) (before : Written) where
  -- these are found, and then octets are skipped
  pub next-passed : (new : PasswordFrames) (xs : List Found) (count : ℕ) (after : Written) → new.profile ≡ old.profile → new.limit ≡ old.limit → new.is_over ≡ false → new.skipped ≡ count → new.octets.items ≡ [] → ((more : List ℕ) → passwords_framed old.profile old.limit old.offset (s ++ more) ≡ before_frames xs (passwords_framed old.profile old.limit new.offset (drop count more))) → after ≡ with_all origin xs before → ListsNext old new s stream h origin before after
  next-passed new xs count after q l o k i each w = record {
    profile = q;
    limit = l;
    state = subst (λ b. KeepsUnless b new stream) (sym o) keeps;
    listed = w ∙ ap (λ x. with_all origin x before) (sym found);
  }
    where
      keeps : Keeps new stream
      keeps = record {
        before = h.before ++ xs;
        goes_on = λ more.
            ap₂ (λ m n. passwords m n (stream ++ more)) q l
            ∙ h.goes_on more
            ∙ ap (before_frames h.before) (each more)
            ∙ ap (λ x. record { found = x; partial = (passwords_framed old.profile old.limit new.offset (drop count more)).partial; offset = (passwords_framed old.profile old.limit new.offset (drop count more)).offset; over = (passwords_framed old.profile old.limit new.offset (drop count more)).over }) (sym (append_assoc h.before xs (passwords_framed old.profile old.limit new.offset (drop count more)).found))
            ∙ ap₂ (λ m n. before_frames (h.before ++ xs) (passwords_framed m n new.offset (drop count more))) (sym q) (sym l)
            ∙ ap₂ (λ n x. before_frames (h.before ++ xs) (passwords_framed new.profile new.limit new.offset (x ++ drop n more))) (sym k) (sym i);
        partial = inl (omega (arith, ap length i));
        alone = inr i;
      }

      found : drop (length h.before) (passwords old.profile old.limit stream).found ≡ xs
      found = ap (drop (length h.before)) (ap₂ (λ m n. (passwords m n stream).found) (sym q) (sym l) ∙ keeps-found new stream keeps) ∙ drop_at h.before xs (length h.before) refl

  -- its length is not known
  pub next-stopped : (new : PasswordFrames) (x : Found) (after : Written) → new.profile ≡ old.profile → new.limit ≡ old.limit → new.is_over ≡ true → ((more : List ℕ) → passwords_framed old.profile old.limit old.offset (s ++ more) ≡ record { found = x ∷ []; partial = []; offset = old.offset; over = true }) → after ≡ with_all origin (x ∷ []) before → ListsNext old new s stream h origin before after
  next-stopped new x after q l o each w = record {
    profile = q;
    limit = l;
    state = subst (λ b. KeepsUnless b new stream) (sym o) (subst (λ m. IsOver (services.Passwords m) new.limit stream) (sym q) (subst (λ n. IsOver (services.Passwords old.profile) n stream) (sym l) (λ more. (ap (λ (f : Framed). f.found) (all more ∙ sym at), ap (λ (f : Framed). f.over) (all more)))));
    listed = w ∙ ap (λ x. with_all origin x before) (sym (ap (λ (f : Framed). drop (length h.before) f.found) at ∙ drop_at h.before (x ∷ []) (length h.before) refl));
  }
    where
      all : (more : List ℕ) → passwords old.profile old.limit (stream ++ more) ≡ record { found = h.before ++ x ∷ []; partial = []; offset = old.offset; over = true }
      all more = h.goes_on more ∙ ap (before_frames h.before) (each more)

      at : passwords old.profile old.limit stream ≡ record { found = h.before ++ x ∷ []; partial = []; offset = old.offset; over = true }
      at = ap (passwords old.profile old.limit) (sym (append-nil stream)) ∙ all []
