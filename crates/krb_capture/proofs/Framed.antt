-- What is found in the frames of messages, by what is known of their decoder.
use Rattle.std.proofs.Common.{◌≡◌, ℕ, ◌+◌, ◌^◌, ◌≤◌, true, false, List, [], ◌∷◌, ◌++◌, length, take, drop, None, refl, sym, ◌∙◌, ap, ap₂, arith, append_assoc, append-nil, drop_at}
use Rattle.std.specs.Prelude.{cond, not, ◌&&◌, ◌||◌, nat_le, nat_lt, if◌then◌else◌}
use Rattle.std.specs.List.{AllByRecursion, list_any}
use Rattle.std.proofs.lemmas.Bool.{lt-leb, le-leb, lt-ltb, le-ltb}
use Rattle.krb_der.specs.Octets.{number}
use Rattle.krb_der.specs.declared.profile.Profile.{Profile}
use Rattle.krb_der.specs.declared.verdict.Refusal.{Refusal}
use Rattle.krb_der.specs.declared.why.Why.TheVariants as why
use Rattle.krb_msg.specs.Grammar.{messages}
use Rattle.krb_msg.specs.Stream.{End, Boundary, Within, Refused}
use Rattle.krb_frame.specs.Decoding.{found, status_at, status_of, AreOfOne}
use Rattle.krb_frame.specs.GoingOn.{Entry, Contents, Fault, Skipping, GoesOn, entries, last_entry, rest_to_come}
use Rattle.krb_frame.specs.declared.decoder.Status.TheVariants as status
use Rattle.krb_frame.proofs.Ends.{refused_end}
use Rattle.krb_frame.proofs.Skips.{IsLast, entries-waiting, entries-last}
use Rattle.krb_capture.specs.Found.{Found}
use Rattle.krb_capture.specs.Streams.{Framed, after_entries, after_entry, before_frames, cut_octets, entries_found, entry_found, found_with, framed, framed_entries, is_cut, is_unknown, messages_framed, no_frames, not_cut}
use Rattle.krb_capture.specs.Taken.{IsDone, IsOver, Waits}
use Rattle.krb_capture.specs.declared.flow.Service.{Service}
use Rattle.krb_capture.specs.declared.flow.Service.TheVariants as services

-- ---- found with more octets
pub found_with-of : (service : Service) (limit : ℕ) (stream more : List ℕ) (xs ys : List Found) → (framed service limit stream).found ≡ xs → (framed service limit (stream ++ more)).found ≡ xs ++ ys → found_with service limit stream more ≡ ys
unfolding found_with
found_with-of service limit stream more xs ys e f = ap₂ (λ a b. drop (length a) b) e f ∙ drop_at xs ys (length xs) refl

-- ---- nothing more is found
pub over-more : (service : Service) (limit : ℕ) (stream octets : List ℕ) → IsOver service limit stream → IsOver service limit (stream ++ octets)
over-more service limit stream octets o = λ more. (
  ap (λ s. (framed service limit s).found) (append_assoc stream octets more) ∙ (o (octets ++ more)).0 ∙ sym (o octets).0,
  ap (λ s. (framed service limit s).over) (append_assoc stream octets more) ∙ (o (octets ++ more)).1,
)

pub over-none : (service : Service) (limit : ℕ) (stream octets : List ℕ) → IsOver service limit stream → found_with service limit stream octets ≡ []
over-none service limit stream octets o = found_with-of service limit stream octets (framed service limit stream).found [] refl ((o octets).0 ∙ sym (append-nil (framed service limit stream).found))

-- ---- frames, and others after them
pub entries_found-append : (profile : Profile) (offset : ℕ) (xs ys : List Entry) → entries_found profile offset (xs ++ ys) ≡ entries_found profile offset xs ++ entries_found profile (after_entries offset xs) ys
entries_found-append profile offset [] ys = refl
entries_found-append profile offset (x ∷ xs) ys = ap (λ l. entry_found profile offset x ∷ l) (entries_found-append profile (after_entry offset x) xs ys)

pub after_entries-append : (offset : ℕ) (xs ys : List Entry) → after_entries offset (xs ++ ys) ≡ after_entries (after_entries offset xs) ys
after_entries-append offset [] ys = refl
after_entries-append offset (x ∷ xs) ys = after_entries-append (after_entry offset x) xs ys

-- ---- frames that are whole, or refused with a known length
pub all_done : (xs ys : List Entry) → AllByRecursion IsDone xs → AllByRecursion IsDone ys → AllByRecursion IsDone (xs ++ ys)
all_done [] ys d e = e
all_done (x ∷ xs) ys d e = (d.0, all_done xs ys d.1 e)

one_done : (profile : Profile) (offset : ℕ) (x : Entry) (l : List Entry) → is_cut x ≡ false → is_unknown x ≡ false → framed_entries profile offset (x ∷ l) ≡ before_frames (entry_found profile offset x ∷ []) (framed_entries profile (after_entry offset x) l)
one_done profile offset (Contents contents) l c u = refl
one_done profile offset (Fault place reason prefix) l c u = λ i. record {
  found = entries_found profile offset (cond (not (c i)) (Fault place reason prefix ∷ not_cut l) (not_cut l));
  partial = if c i then prefix else cut_octets l;
  offset = after_entries offset (cond (not (c i)) (Fault place reason prefix ∷ not_cut l) (not_cut l));
  over = u i || list_any is_unknown l;
}

pub framed-before : (profile : Profile) (offset : ℕ) (xs ys : List Entry) → AllByRecursion IsDone xs → framed_entries profile offset (xs ++ ys) ≡ before_frames (entries_found profile offset xs) (framed_entries profile (after_entries offset xs) ys)
framed-before profile offset [] ys d = refl
framed-before profile offset (x ∷ xs) ys d = one_done profile offset x (xs ++ ys) d.0.0 d.0.1 ∙ ap (before_frames (entry_found profile offset x ∷ [])) (framed-before profile (after_entry offset x) xs ys d.1)

-- ---- a decoder that waits
cut_frame : (profile : Profile) (offset : ℕ) (octets : List ℕ) (present : ℕ) → length octets ≡ present → framed_entries profile offset (Fault present why.Truncated octets ∷ []) ≡ no_frames offset octets
cut_frame profile offset octets present one =
    let c : nat_le (length octets) present ≡ true = le-leb (length octets) present (omega (arith, one)) in
    let u : nat_lt present (length octets) ≡ false = le-ltb present (length octets) (omega (arith, one)) in
    λ i. record {
      found = entries_found profile offset (cond (not (c i)) (Fault present why.Truncated octets ∷ []) []);
      partial = if c i then octets else [];
      offset = after_entries offset (cond (not (c i)) (Fault present why.Truncated octets ∷ []) []);
      over = (u i && nat_le (2 ^ 31) (number (take 4 octets))) || false;
    }

last_cut : (profile : Profile) (offset : ℕ) (octets : List ℕ) (contents : List (List ℕ)) (end : End) → AreOfOne octets contents end → status_at contents end ≡ status.More → framed_entries profile offset (last_entry end octets) ≡ no_frames offset octets
last_cut profile offset octets [] Boundary one e = λ i. record { found = []; partial = sym one i; offset = offset; over = false }
last_cut profile offset octets [] (Within present) one e = cut_frame profile offset octets present one
last_cut profile offset octets [] (Refused place reason) one e = absurd cc
last_cut profile offset octets (first ∷ others) end one e = absurd cc

pub framed-waiting : (profile : Profile) (limit : ℕ) (s : Skipping) (stream : List ℕ) (w : Waits profile s stream) → s.current.limit ≡ limit → framed (services.Kerberos profile) limit stream ≡ before_frames (entries_found profile 0 w.before) (no_frames (after_entries 0 w.before) s.current.octets)
unfolding messages_framed found
framed-waiting profile limit s stream w l =
    let f = found (messages profile) s.current in
    ap (λ n. framed_entries profile 0 (entries (messages profile) n stream)) (sym l)
    ∙ ap (framed_entries profile 0) (entries-waiting (messages profile) s stream w.before w.goes_on w.waits)
    ∙ framed-before profile 0 w.before (last_entry f.end s.current.octets) w.done
    ∙ ap (before_frames (entries_found profile 0 w.before)) (last_cut profile (after_entries 0 w.before) s.current.octets f.contents f.end w.goes_on.one w.waits)

pub found-waiting : (profile : Profile) (limit : ℕ) (s : Skipping) (stream : List ℕ) (w : Waits profile s stream) → s.current.limit ≡ limit → (framed (services.Kerberos profile) limit stream).found ≡ entries_found profile 0 w.before
found-waiting profile limit s stream w l = ap (λ (f : Framed). f.found) (framed-waiting profile limit s stream w l) ∙ append-nil (entries_found profile 0 w.before)

-- whatever follows
pub found-more : (profile : Profile) (limit : ℕ) (s : Skipping) (stream : List ℕ) (w : Waits profile s stream) → s.current.limit ≡ limit → (more : List ℕ) → (framed (services.Kerberos profile) limit (stream ++ more)).found ≡ entries_found profile 0 w.before ++ (framed_entries profile (after_entries 0 w.before) (entries (messages profile) limit (s.current.octets ++ drop s.skipped more))).found
unfolding messages_framed
found-more profile limit s stream w l more =
    ap (λ n. (framed_entries profile 0 (entries (messages profile) n (stream ++ more))).found) (sym l)
    ∙ ap (λ e. (framed_entries profile 0 e).found) (w.goes_on.goes_on more)
    ∙ ap (λ (f : Framed). f.found) (framed-before profile 0 w.before (entries (messages profile) s.current.limit (s.current.octets ++ drop s.skipped more)) w.done)
    ∙ ap (λ n. entries_found profile 0 w.before ++ (framed_entries profile (after_entries 0 w.before) (entries (messages profile) n (s.current.octets ++ drop s.skipped more))).found) l

-- ---- a frame whose length is not known
abbrev entry_at : End → List ℕ → Entry
entry_at Boundary octets = Fault 0 why.Truncated octets
entry_at (Within present) octets = Fault present why.Truncated octets
entry_at (Refused place reason) octets = Fault place reason octets

-- nothing follows it
abbrev pub alone : Profile → ℕ → Entry → Framed
alone profile offset last = record { found = entry_found profile offset last ∷ []; partial = []; offset = after_entry offset last; over = true }

last_frame : (profile : Profile) (offset : ℕ) (octets : List ℕ) → length octets ≡ 3 + 1 → 2 ^ 31 ≤ number (take 4 octets) → framed_entries profile offset (Fault 3 why.HighBit octets ∷ []) ≡ alone profile offset (Fault 3 why.HighBit octets)
last_frame profile offset octets four big =
    let c : nat_le (length octets) 3 ≡ false = lt-leb (length octets) 3 (omega (arith, four)) in
    let u : nat_lt 3 (length octets) ≡ true = lt-ltb 3 (length octets) (omega (arith, four)) in
    let b : nat_le (2 ^ 31) (number (take 4 octets)) ≡ true = le-leb (2 ^ 31) (number (take 4 octets)) big in
    λ i. record {
      found = entries_found profile offset (cond (not (c i)) (Fault 3 why.HighBit octets ∷ []) []);
      partial = if c i then octets else [];
      offset = after_entries offset (cond (not (c i)) (Fault 3 why.HighBit octets ∷ []) []);
      over = (u i && b i) || false;
    }

abbrev pub last_framed : Profile → List Entry → Refusal → List ℕ → Framed
last_framed profile before refusal octets = before_frames (entries_found profile 0 before) (alone profile (after_entries 0 before) (Fault refusal.place refusal.why octets))

pub framed-last : (profile : Profile) (limit : ℕ) (s : Skipping) (stream : List ℕ) (before : List Entry) (refusal : Refusal) → s.current.limit ≡ limit → AllByRecursion IsDone before → GoesOn (messages profile) s stream before → status_of (messages profile) s.current ≡ status.Refused refusal → rest_to_come (messages profile) s.current ≡ None → (more : List ℕ) → framed (services.Kerberos profile) limit (stream ++ more) ≡ last_framed profile before refusal s.current.octets
unfolding messages_framed found
framed-last profile limit s stream before refusal l done g st none more =
    ap (λ n. framed_entries profile 0 (entries (messages profile) n (stream ++ more))) (sym l)
    ∙ ap (framed_entries profile 0) (last.last more)
    ∙ framed-before profile 0 before (Fault 3 why.HighBit octets ∷ []) done
    ∙ ap (before_frames (entries_found profile 0 before)) (last_frame profile (after_entries 0 before) octets last.four last.big)
    ∙ ap (λ e. before_frames (entries_found profile 0 before) (alone profile (after_entries 0 before) e)) same
  where
    octets : List ℕ
    octets = s.current.octets

    last : IsLast (messages profile) s stream before
    last = entries-last (messages profile) s stream before refusal g st none

    ended : ((found (messages profile) s.current).contents ≡ []) × ((found (messages profile) s.current).end ≡ Refused refusal.place refusal.why)
    ended = refused_end (found (messages profile) s.current).contents (found (messages profile) s.current).end refusal st

    same : Fault 3 why.HighBit octets ≡ Fault refusal.place refusal.why octets
    same = ap (λ e. entry_at e octets) (sym last.end ∙ ended.1)
