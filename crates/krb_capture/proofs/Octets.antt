-- The octets of messages that change passwords, some after others.
use Rattle.std.proofs.Common.{◌≡◌, ℕ, ◌+◌, ◌-◌, ◌^◌, ◌<◌, ◌≤◌, ◌⊎◌, inl, inr, true, false, List, [], ◌++◌, length, take, drop, refl, sym, ◌∙◌, ap, ap₂, subst, arith, append_assoc, append-nil, length-append}
use Rattle.std.proofs.lemmas.Bool.{lt-ltb, le-ltb}
use Rattle.std.proofs.lemmas.List.{take-append-le, take_at, take_rest}
use Rattle.std.proofs.Math.Seq.{drop-append-add, take-add}
use Rattle.krb_der.specs.Octets.{number}
use Rattle.krb_frame.specs.Frame.{framed}
use Rattle.krb_frame.specs.Wholes.{BeginWith}
use Rattle.krb_frame.proofs.Lengths.{no_fault}
use Rattle.krb_record.specs.declared.capture_origin.CaptureOrigin.{CaptureOrigin}
use Rattle.krb_capture.specs.Found.{Written, with_all}
use Rattle.krb_capture.specs.Passed.{AreOfOne, Holds, ListsContentsOf, ListsNext, ListsWhole, TakesPasswords, frame_end}
use Rattle.krb_capture.specs.Passwords.{password_found}
use Rattle.krb_capture.specs.Streams.{after_frame, before_frames, found_with, frame_of, passwords_framed}
use Rattle.krb_capture.specs.Taken.{IsAllowed, IsOver, IsPart, Keeps, KeepsUnless, TookPasswords, passwords}
use Rattle.krb_capture.specs.declared.flow.Service.TheVariants as services
use Rattle.krb_capture.specs.declared.password_frames.PasswordFrames.{PasswordFrames}
use Rattle.krb_capture.proofs.Found.{with_all-append}
use Rattle.krb_capture.proofs.Framed.{found_with-of, over-more, over-none}
use Rattle.krb_capture.proofs.Passed.{keeps-found, next-passed, next-whole}
use Rattle.krb_capture.proofs.Prefixes.{found_with-both, found_with-none}

-- ---- none, and some and then others
pub takes-nothing : (old : PasswordFrames) (origin : CaptureOrigin) (w : Written) → TakesPasswords old old [] origin w w
takes-nothing old origin w = record {
  took = λ profile limit stream t. subst (TookPasswords profile old limit) (sym (append-nil stream)) t;
  listed = λ profile limit stream t. ap (λ l. with_all origin l w) (sym (found_with-none (services.Passwords profile) limit stream));
  same_profile = refl;
}

pub takes-both : (a b c : PasswordFrames) (xs ys : List ℕ) (origin : CaptureOrigin) (u v w : Written) → TakesPasswords a b xs origin u v → TakesPasswords b c ys origin v w → TakesPasswords a c (xs ++ ys) origin u w
takes-both a b c xs ys origin u v w l m = record {
  took = λ profile limit stream t. subst (TookPasswords profile c limit) (append_assoc stream xs ys) (m.took profile limit (stream ++ xs) (l.took profile limit stream t));
  listed = λ profile limit stream t.
      m.listed profile limit (stream ++ xs) (l.took profile limit stream t)
      ∙ ap (with_all origin (found_with (services.Passwords profile) limit (stream ++ xs) ys)) (l.listed profile limit stream t)
      ∙ sym (with_all-append origin (found_with (services.Passwords profile) limit stream xs) (found_with (services.Passwords profile) limit (stream ++ xs) ys) u)
      ∙ ap (λ x. with_all origin x u) (sym (found_with-both (services.Passwords profile) limit stream xs ys));
  same_profile = m.same_profile ∙ l.same_profile;
}

-- ---- some octets
-- all that follows is passed over
pub takes-over : (old : PasswordFrames) (octets : List ℕ) (origin : CaptureOrigin) (w : Written) → old.is_over ≡ true → TakesPasswords old old octets origin w w
takes-over old octets origin w e = record {
  took = λ profile limit stream t. record {
    profile_is = t.profile_is;
    limit_is = t.limit_is;
    state = subst (λ b. KeepsUnless b old (stream ++ octets)) (sym e) (over-more (services.Passwords old.profile) old.limit stream octets (over stream t.state));
  };
  listed = λ profile limit stream t. ap (λ x. with_all origin x w) (sym (over-none (services.Passwords profile) limit stream octets (subst (λ m. IsOver (services.Passwords m) limit stream) t.profile_is (subst (λ n. IsOver (services.Passwords old.profile) n stream) t.limit_is (over stream t.state)))));
  same_profile = refl;
}
  where
    over : (stream : List ℕ) → KeepsUnless old.is_over old stream → IsOver (services.Passwords old.profile) old.limit stream
    over stream s = subst (λ b. KeepsUnless b old stream) e s

-- octets are skipped
none_kept : (n : ℕ) (octets : List ℕ) → 0 < n → (n ≡ 0) ⊎ (octets ≡ []) → octets ≡ []
none_kept n octets h (inl z) = absurd (omega (arith, h, z))
none_kept n octets h (inr e) = e

drop_past : (n : ℕ) (octets more : List ℕ) → length octets ≤ n → drop n (octets ++ more) ≡ drop (n - length octets) more
drop_past n octets more h = let e : n ≡ length octets + (n - length octets) = omega arith in ap (λ k. drop k (octets ++ more)) e ∙ drop-append-add octets more (n - length octets)

pub takes-skipped : (old : PasswordFrames) (octets : List ℕ) (origin : CaptureOrigin) (w : Written) → old.is_over ≡ false → 0 < old.skipped → length octets ≤ old.skipped → TakesPasswords old (record old { skipped = old.skipped - length octets }) octets origin w w
takes-skipped old octets origin w o some few = record {
  took = λ profile limit stream t. record { profile_is = t.profile_is; limit_is = t.limit_is; state = subst (λ b. KeepsUnless b new (stream ++ octets)) (sym o) (after stream (keeps stream t.state)) };
  listed = λ profile limit stream t.
      let s : Keeps old stream = keeps stream t.state in
      let a : Keeps new (stream ++ octets) = after stream s in
      ap (λ x. with_all origin x w)
      (sym (found_with-of (services.Passwords profile) limit stream octets s.before [] (ap₂ (λ m n. (passwords m n stream).found) (sym t.profile_is) (sym t.limit_is) ∙ keeps-found old stream s)
      (ap₂ (λ m n. (passwords m n (stream ++ octets)).found) (sym t.profile_is) (sym t.limit_is) ∙ keeps-found new (stream ++ octets) a ∙ sym (append-nil s.before))));
  same_profile = refl;
}
  where
    new : PasswordFrames
    new = record old { skipped = old.skipped - length octets }

    keeps : (stream : List ℕ) → KeepsUnless old.is_over old stream → Keeps old stream
    keeps stream s = subst (λ b. KeepsUnless b old stream) o s

    after : (stream : List ℕ) → Keeps old stream → Keeps new (stream ++ octets)
    after stream s = record {
      before = s.before;
      goes_on = λ more.
          ap (passwords old.profile old.limit) (append_assoc stream octets more)
          ∙ s.goes_on (octets ++ more)
          ∙ ap (λ x. before_frames s.before (passwords_framed old.profile old.limit old.offset (old.octets.items ++ x))) (drop_past old.skipped octets more few);
      partial = s.partial;
      alone = inr (none_kept old.skipped old.octets.items some s.alone);
    }

-- octets follow those that are kept
holds-more : (old between : PasswordFrames) (octets s : List ℕ) → old.is_over ≡ false → old.skipped ≡ 0 → between.profile ≡ old.profile → between.limit ≡ old.limit → between.is_over ≡ old.is_over → between.skipped ≡ old.skipped → s ≡ old.octets.items ++ octets → between.offset ≡ old.offset → AreOfOne old.limit (old.octets.items ++ octets) → (stream : List ℕ) → Keeps old stream → Holds between s (stream ++ octets)
holds-more old between octets s o z q l same k i at one stream h = record {
  goes = same ∙ o;
  none_skipped = k ∙ z;
  before = h.before;
  goes_on = λ more.
      ap₂ (λ m n. passwords m n ((stream ++ octets) ++ more)) q l
      ∙ ap (passwords old.profile old.limit) (append_assoc stream octets more)
      ∙ h.goes_on (octets ++ more)
      ∙ ap (λ n. before_frames h.before (passwords_framed old.profile old.limit old.offset (old.octets.items ++ drop n (octets ++ more)))) z
      ∙ ap (λ x. before_frames h.before (passwords_framed old.profile old.limit old.offset x)) (sym (append_assoc old.octets.items octets more))
      ∙ ap₂ (λ m n. before_frames h.before (passwords_framed m n old.offset ((old.octets.items ++ octets) ++ more))) (sym q) (sym l)
      ∙ ap (λ x. before_frames h.before (passwords_framed between.profile between.limit old.offset (x ++ more))) (sym i)
      ∙ ap (λ k. before_frames h.before (passwords_framed between.profile between.limit k (s ++ more))) (sym at);
  one = subst (AreOfOne between.limit) (sym i) (subst (λ n. AreOfOne n (old.octets.items ++ octets)) (sym l) one);
}

takes-listed : (old between new : PasswordFrames) (octets s : List ℕ) (origin : CaptureOrigin) (before after : Written) → old.is_over ≡ false → old.skipped ≡ 0 → between.profile ≡ old.profile → between.limit ≡ old.limit → between.is_over ≡ old.is_over → between.skipped ≡ old.skipped → s ≡ old.octets.items ++ octets → between.offset ≡ old.offset
    → (IsPart old.limit old.octets.items → AreOfOne old.limit (old.octets.items ++ octets)) → ((stream : List ℕ) (h : Holds between s stream) → ListsNext between new s stream h origin before after) → new.profile ≡ old.profile → TakesPasswords old new octets origin before after
unfolding found_with holds-more
takes-listed old between new octets s origin before after o z q l same k i at one lists profiled = record {
  took = λ profile limit stream t.
      let next = lists (stream ++ octets) (holds stream (keeps stream t.state)) in
      record { profile_is = next.profile ∙ q ∙ t.profile_is; limit_is = next.limit ∙ l ∙ t.limit_is; state = next.state };
  listed = λ profile limit stream t.
      let h : Keeps old stream = keeps stream t.state in
      (lists (stream ++ octets) (holds stream h)).listed
      ∙ ap₂ (λ m n. with_all origin (drop (length h.before) (passwords m n (stream ++ octets)).found) before) (q ∙ t.profile_is) (l ∙ t.limit_is)
      ∙ ap (λ x. with_all origin (drop (length x) (passwords profile limit (stream ++ octets)).found) before) (sym (keeps-found old stream h) ∙ ap₂ (λ m n. (passwords m n stream).found) t.profile_is t.limit_is);
  same_profile = profiled;
}
  where
    keeps : (stream : List ℕ) → KeepsUnless old.is_over old stream → Keeps old stream
    keeps stream s = subst (λ b. KeepsUnless b old stream) o s

    holds : (stream : List ℕ) → Keeps old stream → Holds between s (stream ++ octets)
    holds stream h = holds-more old between octets s o z q l same k i at (one h.partial) stream h

-- they are kept, up to the end of the frame
one_after : (limit : ℕ) (kept octets : List ℕ) → length octets ≤ 1 + (frame_end kept - length kept - 1) → IsPart limit kept → AreOfOne limit (kept ++ octets)
one_after limit kept octets few (inl h) =
    let end : frame_end kept ≡ 4 = rw (lt-ltb (length kept) 4 h) refl in
    inl (omega (arith, few, h, end, length-append kept octets))
one_after limit kept octets few (inr p) =
    let end : frame_end kept ≡ 4 + number (take 4 kept) = rw (le-ltb (length kept) 4 p.1) refl in
    let same : take 4 kept ≡ take 4 (kept ++ octets) = sym (take-append-le 4 kept octets p.1) in
    let size : length (kept ++ octets) ≤ 4 + number (take 4 kept) = omega (arith, few, p.2, end, length-append kept octets) in
    inr (subst (λ l. IsAllowed limit (number l) × (length (kept ++ octets) ≤ 4 + number l)) same (p.0, size))

pub takes-kept : (old between new : PasswordFrames) (octets : List ℕ) (origin : CaptureOrigin) (before after : Written) → old.is_over ≡ false → old.skipped ≡ 0 → between.profile ≡ old.profile → between.limit ≡ old.limit → between.is_over ≡ old.is_over → between.skipped ≡ old.skipped → between.octets.items ≡ old.octets.items ++ octets → between.offset ≡ old.offset
    → length octets ≤ 1 + (frame_end old.octets.items - length old.octets.items - 1) → ListsWhole between new origin before after → new.profile ≡ old.profile → TakesPasswords old new octets origin before after
takes-kept old between new octets origin before after o z q l same k i at few lists profiled = takes-listed old between new octets between.octets.items origin before after o z q l same k i at (one_after old.limit old.octets.items octets few) lists profiled

-- the frame lies there whole
pub takes-lent : (old new : PasswordFrames) (octets contents rest : List ℕ) (origin : CaptureOrigin) (before after : Written) → old.is_over ≡ false → old.skipped ≡ 0 → old.octets.items ≡ [] → BeginWith old.limit octets contents rest → ListsContentsOf old (length contents) contents new origin before after → TakesPasswords old new (take (4 + length contents) octets) origin before after
takes-lent old new octets contents rest origin before after o z none b lists =
    subst (λ l. TakesPasswords old new l origin before after) (sym (ap (take (4 + n)) b.parts ∙ take_at frame rest (4 + n) long))
    (takes-listed old old new frame frame origin before after o z refl refl refl refl (ap (λ l. l ++ frame) (sym none)) refl (λ p. subst (λ l. AreOfOne old.limit (l ++ frame)) (sym none) (inr (allowed, most)))
    (λ stream h. next-passed old frame stream h origin before new (password_found old.profile (frame_of old.offset size) 4 contents) 0 after lists.passes.profile lists.passes.limit (lists.passes.is_over ∙ h.goes) lists.passes.skipped lists.passes.octets
    (λ more. next-whole old.profile old.limit old.offset frame four more allowed whole ∙ ap (λ k. before_frames (password_found old.profile (frame_of old.offset size) 4 contents) (passwords_framed old.profile old.limit k more)) (ap (after_frame old.offset) spelled ∙ sym lists.passes.offset))
    (lists.listed ∙ ap (λ k. with_all origin (password_found old.profile (frame_of old.offset k) 4 contents) before) (sym spelled)))
    lists.passes.profile)
  where
    n : ℕ
    n = length contents

    frame : List ℕ
    frame = framed contents

    size : ℕ
    size = number (take 4 frame)

    fine : (0 < n) × ((n < 2 ^ 31) × (n ≤ old.limit))
    fine = no_fault old.limit n b.accepted

    spelled : size ≡ n
    spelled = omega (arith, fine.1.0)

    long : length frame ≡ 4 + n
    long = omega arith

    four : 4 ≤ length frame
    four = omega (arith, long)

    whole : length frame ≡ 4 + size
    whole = omega (arith, long, spelled)

    most : length frame ≤ 4 + size
    most = omega (arith, whole)

    allowed : IsAllowed old.limit size
    allowed = subst (IsAllowed old.limit) (sym spelled) (record { some = fine.0; within = fine.1.1; short = fine.1.0 })

-- ---- all octets of a piece
pub takes-next : (a b c : PasswordFrames) (octets : List ℕ) (i count : ℕ) (origin : CaptureOrigin) (u v w : Written) → TakesPasswords a b (take i octets) origin u v → TakesPasswords b c (take count (take (length octets - i) (drop i octets))) origin v w → TakesPasswords a c (take (i + count) octets) origin u w
takes-next a b c octets i count origin u v w l m =
    subst (λ x. TakesPasswords a c x origin u w) (ap (λ x. take i octets ++ take count x) (take_rest octets i) ∙ sym (take-add i count octets))
    (takes-both a b c (take i octets) (take count (take (length octets - i) (drop i octets))) origin u v w l m)
