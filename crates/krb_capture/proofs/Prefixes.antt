-- What is found in a stream, whatever follows it.
use Rattle.std.proofs.Common.{◌≡◌, ℕ, zero, suc, ◌+◌, ◌-◌, ◌^◌, ◌<◌, ◌≤◌, ◌⊎◌, inl, inr, Bool, true, false, List, [], ◌∷◌, ◌++◌, length, take, drop, refl, sym, ◌∙◌, ap, ap₂, subst, arith, le_refl, append_assoc, append-nil, length-append, length-take, length-drop}
use Rattle.std.specs.Prelude.{cond, not, ◌&&◌, ◌||◌, nat_le, nat_lt, if◌then◌else◌, Option, Some, None}
use Rattle.std.specs.List.{AllByRecursion}
use Rattle.std.proofs.lemmas.Bool.{cases_lt, lt-leb, le-leb, lt-ltb}
use Rattle.std.proofs.lemmas.List.{drop_all, drop-append-le, take-append-drop, take-append-le, take-take}
use Rattle.std.proofs.Math.Seq.{drop-append-add}
use Rattle.krb_der.specs.Octets.{number}
use Rattle.krb_der.specs.declared.profile.Profile.{Profile}
use Rattle.krb_der.specs.declared.why.Why.{Why}
use Rattle.krb_der.specs.declared.why.Why.TheVariants as why
use Rattle.krb_msg.specs.Grammar.{messages}
use Rattle.krb_msg.specs.Judgement.{Outcome, Open, Bad, Done, item_outcome, message_outcome, verdict_of}
use Rattle.krb_msg.specs.Stream.{Frames, End, Boundary, Within, Refused, ends, with_first, frames}
use Rattle.krb_msg.specs.Term.{Term}
use Rattle.krb_msg.proofs.FramePrefixes.{MayFollow, frames-high, frames-long, frames-empty, frames-open, frames-bad, frames-done_more, frames-short, frames-nil}
use Rattle.krb_msg.proofs.Grammars.{refusal_is_final}
use Rattle.krb_msg.proofs.Laws.{done_within}
use Rattle.krb_msg.proofs.Messages.{Choice, choice}
use Rattle.krb_msg.proofs.TermsDecided.{contents-count, item-count}
use Rattle.krb_frame.specs.Decoding.{AreOfOne, found, status_at}
use Rattle.krb_frame.specs.Frame.{length_fault}
use Rattle.krb_frame.specs.GoingOn.{Entry, Contents, Fault, Skipping, entries, last_entry, next_entries}
use Rattle.krb_frame.specs.declared.decoder.Status.TheVariants as status
use Rattle.krb_frame.proofs.Ends.{refused_more}
use Rattle.krb_frame.proofs.GoingOn.{entries-nil, entries-frame, entries-refused}
use Rattle.krb_frame.proofs.Lengths.{no_fault}
use Rattle.krb_frame.proofs.Skips.{entries-waiting}
use Rattle.krb_flow.specs.declared.stream.End.TheVariants as flow_ends
use Rattle.krb_capture.specs.Found.{Found, Faulty}
use Rattle.krb_capture.specs.Laws.{stream_found}
use Rattle.krb_capture.specs.Passwords.{password_found}
use Rattle.krb_capture.specs.Streams.{Framed, after_entries, after_frame, before_frames, cut_refusal, end_found, entries_found, entry_found, extent_at, found_with, frame_of, frame_path, framed, framed_entries, is_cut, is_unknown, known_end, length_found, messages_framed, no_frames, password_frame, passwords_framed, refusal_found}
use Rattle.krb_capture.specs.Taken.{IsAllowed, IsDone, Waits, passwords}
use Rattle.krb_capture.specs.declared.flow.Service.{Service}
use Rattle.krb_capture.specs.declared.flow.Service.TheVariants as services
use Rattle.krb_capture.proofs.Extends.{Extends, extends-of}
use Rattle.krb_capture.proofs.Framed.{entries_found-append, found_with-of, framed-before, framed-waiting, found-more, found-waiting}
use Rattle.krb_capture.proofs.Passed.{frame-by, frame-open, frame-whole, passwords-short, passwords-step}

-- ---- frames of messages

abbrev waiting : Profile → ℕ → List ℕ → ℕ → Skipping
waiting profile limit octets skipped = record { current = record { profile = profile; limit = limit; octets = octets; looks = 0; capacity = 0 }; skipped = skipped }

-- After frames that are done, part of the next one is there, or octets are to be skipped; or one has no known length.
pub data Known (profile : Profile) (limit : ℕ) (stream : List ℕ) : Type 0 where
  Waiting : (octets : List ℕ) (skipped : ℕ) → Waits profile (waiting profile limit octets skipped) stream → Known profile limit stream
  Stopped : (before : List Entry) (last : Entry) → AllByRecursion IsDone before → is_cut last ≡ false → is_unknown last ≡ true → ((more : List ℕ) → entries (messages profile) limit (stream ++ more) ≡ before ++ last ∷ []) → Known profile limit stream

known_after : (profile : Profile) (limit : ℕ) (first : Entry) (stream rest : List ℕ) → IsDone first → ((more : List ℕ) → entries (messages profile) limit (stream ++ more) ≡ first ∷ entries (messages profile) limit (rest ++ more)) → Known profile limit rest → Known profile limit stream
known_after profile limit first stream rest done each (Waiting octets skipped w) =
    Waiting octets skipped (record {
      before = first ∷ w.before;
      done = (done, w.done);
      goes_on = record { goes_on = λ more. each more ∙ ap (λ l. first ∷ l) (w.goes_on.goes_on more); one = w.goes_on.one; alone = w.goes_on.alone };
      waits = w.waits;
    })
known_after profile limit first stream rest done each (Stopped before last all cut unknown ends) =
    Stopped (first ∷ before) last (done, all) cut unknown (λ more. each more ∙ ap (λ l. first ∷ l) (ends more))

-- part of a frame
known_part : (profile : Profile) (limit : ℕ) (octets : List ℕ) → frames (messages profile) limit octets ≡ ends (Within (length octets)) → Known profile limit octets
unfolding found
known_part profile limit octets is =
    Waiting octets 0 (record {
      before = [];
      done = tt;
      goes_on = record { goes_on = λ more. refl; one = subst (λ (f : Frames). AreOfOne octets f.contents f.end) (sym is) refl; alone = inl refl };
      waits = ap (λ (f : Frames). status_at f.contents f.end) is;
    })

-- nothing, after octets that are to be skipped and frames that are done
nothing_waits : (profile : Profile) (limit skipped : ℕ) (stream : List ℕ) (before : List Entry) → AllByRecursion IsDone before → ((more : List ℕ) → entries (messages profile) limit (stream ++ more) ≡ before ++ entries (messages profile) limit (drop skipped more)) → Waits profile (waiting profile limit [] skipped) stream
unfolding found
nothing_waits profile limit skipped stream before done each =
    let none : frames (messages profile) limit [] ≡ ends Boundary = frames-nil (messages profile) limit in
    record {
      before = before;
      done = done;
      goes_on = record { goes_on = each; one = subst (λ (f : Frames). AreOfOne [] f.contents f.end) (sym none) refl; alone = inr refl };
      waits = ap (λ (f : Frames). status_at f.contents f.end) none;
    }

-- a frame that is refused
module _ (profile : Profile) (limit : ℕ) (stream : List ℕ) (place : ℕ) (reason : Why) (four : 4 ≤ length stream) (after_length : 3 ≤ place) (inside : place < length stream) (is : frames (messages profile) limit stream ≡ ends (Refused place reason)) where
  abbrev n : ℕ
  n = number (take 4 stream)

  abbrev prefix : List ℕ
  prefix = take (place + 1) stream

  abbrev entry : Entry
  entry = Fault place reason (take (place + 1) stream)

  prefix_size : length prefix ≡ place + 1
  prefix_size = omega (arith, inside, length-take (place + 1) stream)

  prefix_length : take 4 prefix ≡ take 4 stream
  prefix_length = take-take 4 (place + 1) stream (omega (arith, after_length))

  not_cut : is_cut entry ≡ false
  not_cut = lt-leb (length prefix) place (omega (arith, prefix_size))

  reaches : nat_lt place (length prefix) ≡ true
  reaches = lt-ltb place (length prefix) (omega (arith, prefix_size))

  length_more : (more : List ℕ) → number (take 4 (stream ++ more)) ≡ n
  length_more more = ap number (take-append-le 4 stream more four)

  refused_at : (more : List ℕ) → entries (messages profile) limit (stream ++ more) ≡ entry ∷ next_entries (entries (messages profile) limit) (stream ++ more)
  refused_at more =
      entries-refused (messages profile) limit (stream ++ more) place reason (refused_more (messages profile) limit stream more place reason is)
      ∙ ap (λ l. Fault place reason l ∷ next_entries (entries (messages profile) limit) (stream ++ more)) (take-append-le (place + 1) stream more (omega (arith, inside)))

  -- its length is not known
  known_stopped : 2 ^ 31 ≤ n → Known profile limit stream
  known_stopped big =
      let unknown : is_unknown entry ≡ true = ap₂ (λ (a b : Bool). a && b) reaches (ap (λ l. nat_le (2 ^ 31) (number l)) prefix_length ∙ le-leb (2 ^ 31) n big) in
      Stopped [] entry tt not_cut unknown (λ more. refused_at more ∙ rw (length_more more, le-leb (2 ^ 31) n big) refl)

  -- it is known
  module _ (short : n < 2 ^ 31) where
    done : IsDone entry
    done = (not_cut, ap₂ (λ (a b : Bool). a && b) reaches (ap (λ l. nat_le (2 ^ 31) (number l)) prefix_length ∙ lt-leb (2 ^ 31) n short))

    next_at : (more : List ℕ) → entries (messages profile) limit (stream ++ more) ≡ entry ∷ entries (messages profile) limit (drop (4 + n) (stream ++ more))
    next_at more = refused_at more ∙ rw (length_more more, lt-leb (2 ^ 31) n short) refl

    known_skipped : ((rest : List ℕ) → length rest < length stream → Known profile limit rest) → Known profile limit stream
    known_skipped each =
        elim (cases_lt (length stream) (4 + n)) [
          | inl ends ↦
              let all : 4 + n ≡ length stream + (4 + n - length stream) = omega (arith, ends) in
              Waiting [] (4 + n - length stream) (nothing_waits profile limit (4 + n - length stream) stream (entry ∷ []) (done, tt)
              (λ more. next_at more ∙ ap (λ l. entry ∷ entries (messages profile) limit l) (ap (λ k. drop k (stream ++ more)) all ∙ drop-append-add stream more (4 + n - length stream))))
          | inr there ↦
              known_after profile limit entry stream (drop (4 + n) stream) done
              (λ more. next_at more ∙ ap (λ l. entry ∷ entries (messages profile) limit l) (drop-append-le (4 + n) stream more there))
              (each (drop (4 + n) stream) (omega (arith, four, length-drop (4 + n) stream)))
        ]

-- a message fills its frame
done_fills : (terms : List Term) (n : ℕ) (octets : List ℕ) (count : ℕ) → length octets ≤ n → message_outcome terms n octets ≡ Done count → n ≤ length octets
done_fills terms n [] count few is = absurd cc
done_fills terms n (octet ∷ octets) count few is = by (choice terms octet)
  where
    by : Choice terms octet → n ≤ length (octet ∷ octets)
    by (inl c) = let no : Bad 0 why.Tag ≡ Done count = sym (c n octets) ∙ is in absurd cc
    by (inr c) =
        let e : item_outcome c.0 n true (octet ∷ octets) ≡ Done count = sym (c.3 n octets) ∙ is in
        omega (arith, done_within c.0 n true (octet ∷ octets) count few e, (item-count c.0 (contents-count c.0) n true (octet ∷ octets) count e).2 refl)

module _ (profile : Profile) (limit : ℕ) (stream : List ℕ) (four : 4 ≤ length stream) (each : (rest : List ℕ) → length rest < length stream → Known profile limit rest) where
  abbrev size : ℕ
  size = number (take 4 stream)

  abbrev contents : List ℕ
  contents = take size (drop 4 stream)

  known_message : (count : ℕ) → MayFollow (messages profile) limit size → message_outcome (messages profile) size contents ≡ Done count → Known profile limit stream
  known_message count m is =
      let there : 4 + size ≤ length stream = omega (arith, done_fills (messages profile) size contents count (omega (arith, length-take size (drop 4 stream))) is, length-take size (drop 4 stream), length-drop 4 stream, four) in
      let parts : take (4 + size) stream ++ drop (4 + size) stream ≡ stream = take-append-drop (4 + size) stream in
      let long : length (take (4 + size) stream) ≡ 4 + length contents = omega (arith, there, length-take (4 + size) stream, length-take size (drop 4 stream), length-drop 4 stream) in
      let same : (more : List ℕ) → stream ++ more ≡ take (4 + size) stream ++ (drop (4 + size) stream ++ more) = λ more. ap (λ l. l ++ more) (sym parts) ∙ append_assoc (take (4 + size) stream) (drop (4 + size) stream) more in
      let first : (more : List ℕ) → frames (messages profile) limit (take (4 + size) stream ++ (drop (4 + size) stream ++ more)) ≡ with_first contents (frames (messages profile) limit (drop (4 + size) stream ++ more)) =
      λ more. ap (frames (messages profile) limit) (sym (same more)) ∙ frames-done_more (messages profile) limit stream more size count there refl m is in
      known_after profile limit (Contents contents) stream (drop (4 + size) stream) (refl, refl)
      (λ more. ap (entries (messages profile) limit) (same more) ∙ entries-frame (messages profile) limit (take (4 + size) stream) contents (drop (4 + size) stream ++ more) long (first more))
      (each (drop (4 + size) stream) (omega (arith, four, length-drop (4 + size) stream)))

  known_judged : MayFollow (messages profile) limit size → (outcome : Outcome) → message_outcome (messages profile) size contents ≡ outcome → Known profile limit stream
  known_judged m Open is = known_part profile limit stream (frames-open (messages profile) limit stream size four refl m is)
  known_judged m (Done count) is = known_message count m is
  known_judged m (Bad offset reason) is =
      let few : length contents ≤ size = omega (arith, length-take size (drop 4 stream)) in
      let final = refusal_is_final (messages profile) size contents offset reason few (ap verdict_of is) in
      known_skipped profile limit stream (4 + offset) reason four (omega arith) (omega (arith, final.within, length-take size (drop 4 stream), length-drop 4 stream)) (frames-bad (messages profile) limit stream size offset reason four refl m is) m.short each

  known_long : (size < 2 ^ 31) ⊎ (2 ^ 31 ≤ size) → (limit < size) ⊎ (size ≤ limit) → (0 < size) ⊎ (size ≤ 0) → Known profile limit stream
  known_long (inr big) c d = known_stopped profile limit stream 3 why.HighBit four (omega arith) (omega (arith, four)) (frames-high (messages profile) limit stream size four refl big) big
  known_long (inl s) (inl long) d = known_skipped profile limit stream 3 why.TooLong four (omega arith) (omega (arith, four)) (frames-long (messages profile) limit stream size four refl s long) s each
  known_long (inl s) (inr w) (inr z) = known_skipped profile limit stream 3 why.Empty four (omega arith) (omega (arith, four)) (frames-empty (messages profile) limit stream four (omega arith)) s each
  known_long (inl s) (inr w) (inl p) = known_judged (record { some = p; short = s; within = w }) (message_outcome (messages profile) size contents) refl

known_within : (profile : Profile) (limit bound : ℕ) (stream : List ℕ) → length stream ≤ bound → Known profile limit stream
known_within profile limit bound [] few = Waiting [] 0 (nothing_waits profile limit 0 [] [] tt (λ more. refl))
known_within profile limit zero (octet ∷ octets) few = absurd (omega arith)
known_within profile limit (suc bound) (octet ∷ octets) few =
    elim (cases_lt (length (octet ∷ octets)) 4) [
      | inl short ↦ known_part profile limit (octet ∷ octets) (frames-short (messages profile) limit octet octets short)
      | inr four ↦
          known_long profile limit (octet ∷ octets) four (λ rest less. known_within profile limit bound rest (omega (arith, less, few)))
          (cases_lt (number (take 4 (octet ∷ octets))) (2 ^ 31)) (cases_lt limit (number (take 4 (octet ∷ octets)))) (cases_lt 0 (number (take 4 (octet ∷ octets))))
    ]

known : (profile : Profile) (limit : ℕ) (stream : List ℕ) → Known profile limit stream
known profile limit stream = known_within profile limit (length stream) stream (le_refl (length stream))

-- ---- what is found of messages

last_one : (profile : Profile) (offset : ℕ) (last : Entry) → is_cut last ≡ false → is_unknown last ≡ true → ((framed_entries profile offset (last ∷ [])).found ≡ entry_found profile offset last ∷ []) × ((framed_entries profile offset (last ∷ [])).over ≡ true)
last_one profile offset last cut unknown = (
  ap (λ (b : Bool). entries_found profile offset (cond (not b) (last ∷ []) [])) cut,
  ap (λ (b : Bool). b || false) unknown,
)

-- nothing follows
stopped_found : (profile : Profile) (limit : ℕ) (stream : List ℕ) (before : List Entry) (last : Entry) → AllByRecursion IsDone before → is_cut last ≡ false → is_unknown last ≡ true → entries (messages profile) limit stream ≡ before ++ last ∷ [] → ((framed (services.Kerberos profile) limit stream).found ≡ entries_found profile 0 (entries (messages profile) limit stream)) × ((framed (services.Kerberos profile) limit stream).over ≡ true)
unfolding messages_framed
stopped_found profile limit stream before last done cut unknown is =
    let all : framed_entries profile 0 (entries (messages profile) limit stream) ≡ before_frames (entries_found profile 0 before) (framed_entries profile (after_entries 0 before) (last ∷ [])) = ap (framed_entries profile 0) is ∙ framed-before profile 0 before (last ∷ []) done in
    let one = last_one profile (after_entries 0 before) last cut unknown in (
      ap (λ (f : Framed). f.found) all
          ∙ ap (λ l. entries_found profile 0 before ++ l) one.0
          ∙ sym (ap (entries_found profile 0) is ∙ entries_found-append profile 0 before (last ∷ [])),
      ap (λ (f : Framed). f.over) all ∙ one.1,
    )

messages_extend : (profile : Profile) (limit : ℕ) (stream more : List ℕ) → Known profile limit stream → Extends (services.Kerberos profile) limit stream more
messages_extend profile limit stream more (Waiting octets skipped w) =
    extends-of (services.Kerberos profile) limit stream more (entries_found profile 0 w.before) _ (found-waiting profile limit (waiting profile limit octets skipped) stream w refl) (found-more profile limit (waiting profile limit octets skipped) stream w refl more)
messages_extend profile limit stream more (Stopped before last done cut unknown ends) =
    let none : entries (messages profile) limit stream ≡ before ++ last ∷ [] = ap (entries (messages profile) limit) (sym (append-nil stream)) ∙ ends [] in
    let first : (framed (services.Kerberos profile) limit stream).found ≡ entries_found profile 0 (entries (messages profile) limit stream) = (stopped_found profile limit stream before last done cut unknown none).0 in
    let longer : (framed (services.Kerberos profile) limit (stream ++ more)).found ≡ entries_found profile 0 (entries (messages profile) limit (stream ++ more)) = (stopped_found profile limit (stream ++ more) before last done cut unknown (ends more)).0 in
    extends-of (services.Kerberos profile) limit stream more (framed (services.Kerberos profile) limit stream).found [] refl
    (longer ∙ ap (entries_found profile 0) (ends more ∙ sym none) ∙ sym first ∙ sym (append-nil (framed (services.Kerberos profile) limit stream).found))

-- the frame that is not whole is refused at the end
cut_found : (profile : Profile) (offset : ℕ) (octets : List ℕ) (f : Frames) → (octets ≡ [] → f ≡ ends Boundary) → AreOfOne octets f.contents f.end → status_at f.contents f.end ≡ status.More → entries_found profile offset (last_entry f.end octets) ≡ refusal_found (services.Kerberos profile) offset octets (cut_refusal octets)
cut_found profile offset octets f nil one more = by octets f.contents f.end (λ z. ap (λ (g : Frames). g.end) (nil z)) one more
  where
    by : (octets : List ℕ) (contents : List (List ℕ)) (end : End) → (octets ≡ [] → end ≡ Boundary) → AreOfOne octets contents end → status_at contents end ≡ status.More → entries_found profile offset (last_entry end octets) ≡ refusal_found (services.Kerberos profile) offset octets (cut_refusal octets)
    by octets (first ∷ others) end nil one more = absurd cc
    by octets [] Boundary nil one more = ap (λ l. refusal_found (services.Kerberos profile) offset l (cut_refusal l)) (sym one)
    by [] [] (Within present) nil one more = absurd (no (nil refl))
      where
        no : Within present ≡ Boundary → ⊥
        no e = cc
    by (octet ∷ octets) [] (Within present) nil one more = ap (λ n. Faulty (record { place = n; why = why.Truncated }) (frame_path profile (octet ∷ octets)) (extent_at offset (octet ∷ octets)) ∷ []) (sym one)
    by octets [] (Refused place reason) nil one more = absurd cc

messages_all : (profile : Profile) (limit : ℕ) (stream : List ℕ) → Known profile limit stream → (framed (services.Kerberos profile) limit stream).found ++ end_found (services.Kerberos profile) limit stream flow_ends.Complete ≡ entries_found profile 0 (entries (messages profile) limit stream)
unfolding end_found found
messages_all profile limit stream (Waiting octets skipped w) =
    let offset : ℕ = after_entries 0 w.before in
    let is : framed (services.Kerberos profile) limit stream ≡ before_frames (entries_found profile 0 w.before) (no_frames (after_entries 0 w.before) octets) = framed-waiting profile limit (waiting profile limit octets skipped) stream w refl in
    ap (λ (g : Framed). g.found ++ (if g.over then [] else known_end (services.Kerberos profile) flow_ends.Complete g.offset g.partial)) is
    ∙ ap (λ l. l ++ refusal_found (services.Kerberos profile) offset octets (cut_refusal octets)) (append-nil (entries_found profile 0 w.before))
    ∙ ap (λ l. entries_found profile 0 w.before ++ l) (sym (cut_found profile offset octets (frames (messages profile) limit octets) (λ z. ap (frames (messages profile) limit) z ∙ frames-nil (messages profile) limit) w.goes_on.one w.waits))
    ∙ sym (entries_found-append profile 0 w.before (last_entry (frames (messages profile) limit octets).end octets))
    ∙ ap (entries_found profile 0) (sym (entries-waiting (messages profile) (waiting profile limit octets skipped) stream w.before w.goes_on w.waits))
messages_all profile limit stream (Stopped before last done cut unknown ends) =
    let none : entries (messages profile) limit stream ≡ before ++ last ∷ [] = ap (entries (messages profile) limit) (sym (append-nil stream)) ∙ ends [] in
    let all = stopped_found profile limit stream before last done cut unknown none in
    ap (λ (b : Bool). (framed (services.Kerberos profile) limit stream).found ++ (if b then [] else known_end (services.Kerberos profile) flow_ends.Complete (framed (services.Kerberos profile) limit stream).offset (framed (services.Kerberos profile) limit stream).partial)) all.1
    ∙ append-nil (framed (services.Kerberos profile) limit stream).found
    ∙ all.0

-- ---- messages that change passwords

-- with others, more is found, or nothing
abbrev Longer : Profile → ℕ → ℕ → List ℕ → List ℕ → Type 0
Longer profile limit offset stream longer = (others : List Found) × ((passwords_framed profile limit offset longer).found ≡ (passwords_framed profile limit offset stream).found ++ others)

longer_after : (profile : Profile) (limit offset next : ℕ) (xs : List Found) (stream longer : List ℕ) (rest more : List ℕ) → passwords_framed profile limit offset stream ≡ before_frames xs (passwords_framed profile limit next rest) → passwords_framed profile limit offset longer ≡ before_frames xs (passwords_framed profile limit next more) → Longer profile limit next rest more → Longer profile limit offset stream longer
longer_after profile limit offset next xs stream longer rest more e f l = (
  l.0,
  ap (λ (g : Framed). g.found) f
      ∙ ap (λ k. xs ++ k) l.1
      ∙ sym (append_assoc xs (passwords_framed profile limit next rest).found l.0)
      ∙ ap (λ (g : Framed). g.found ++ l.0) (sym e),
)

longer_none : (profile : Profile) (limit offset : ℕ) (stream longer : List ℕ) → (passwords_framed profile limit offset stream).found ≡ [] → Longer profile limit offset stream longer
longer_none profile limit offset stream longer e = ((passwords_framed profile limit offset longer).found, ap (λ k. k ++ (passwords_framed profile limit offset longer).found) (sym e))

module _ (profile : Profile) (limit offset : ℕ) (stream : List ℕ) (four : 4 ≤ length stream) (more : List ℕ) (each : (next : ℕ) (rest : List ℕ) → length rest < length stream → Longer profile limit next rest (rest ++ more)) where
  abbrev m : ℕ
  m = number (take 4 stream)

  here : passwords_framed profile limit offset stream ≡ password_frame profile limit offset m stream (passwords_framed profile limit)
  here = passwords-step profile limit offset stream four

  there : passwords_framed profile limit offset (stream ++ more) ≡ password_frame profile limit offset m (stream ++ more) (passwords_framed profile limit)
  there =
      passwords-step profile limit offset (stream ++ more) (omega (arith, four, length-append stream more))
      ∙ ap (λ l. password_frame profile limit offset (number l) (stream ++ more) (passwords_framed profile limit)) (take-append-le 4 stream more four)

  -- octets after the first of them
  longer_rest : (next k : ℕ) → 0 < k → Longer profile limit next (drop k stream) (drop k (stream ++ more))
  longer_rest next k some =
      elim (cases_lt (length stream) k) [
        | inl past ↦ longer_none profile limit next (drop k stream) (drop k (stream ++ more)) (ap (λ l. (passwords_framed profile limit next l).found) (drop_all k stream (omega (arith, past))) ∙ ap (λ (g : Framed). g.found) (passwords-short profile limit next [] (omega arith)))
        | inr le ↦ subst (Longer profile limit next (drop k stream)) (sym (drop-append-le k stream more le)) (each next (drop k stream) (omega (arith, four, some, length-drop k stream)))
      ]

  passed_on : (xs : List Found) → passwords_framed profile limit offset stream ≡ before_frames xs (passwords_framed profile limit (after_frame offset m) (drop (4 + m) stream)) → passwords_framed profile limit offset (stream ++ more) ≡ before_frames xs (passwords_framed profile limit (after_frame offset m) (drop (4 + m) (stream ++ more))) → Longer profile limit offset stream (stream ++ more)
  passed_on xs e f = longer_after profile limit offset (after_frame offset m) xs stream (stream ++ more) (drop (4 + m) stream) (drop (4 + m) (stream ++ more)) e f (longer_rest (after_frame offset m) (4 + m) (omega arith))

  longer_allowed : IsAllowed limit m → (length stream < 4 + m) ⊎ (4 + m ≤ length stream) → Longer profile limit offset stream (stream ++ more)
  longer_allowed a (inl part) = longer_none profile limit offset stream (stream ++ more) (ap (λ (g : Framed). g.found) (here ∙ frame-open profile limit offset m stream (passwords_framed profile limit) a part))
  longer_allowed a (inr whole) =
      let same : take m (drop 4 (stream ++ more)) ≡ take m (drop 4 stream) = ap (take m) (drop-append-le 4 stream more four) ∙ take-append-le m (drop 4 stream) more (omega (arith, whole, length-drop 4 stream)) in
      passed_on (password_found profile (frame_of offset m) 4 (take m (drop 4 stream)))
      (here ∙ frame-whole profile limit offset m stream (passwords_framed profile limit) a whole)
      (there ∙ frame-whole profile limit offset m (stream ++ more) (passwords_framed profile limit) a (omega (arith, whole, length-append stream more)) ∙ ap (λ l. before_frames (password_found profile (frame_of offset m) 4 l) (passwords_framed profile limit (after_frame offset m) (drop (4 + m) (stream ++ more)))) same)

  longer_by : (fault : Option Why) → length_fault limit m ≡ fault → Longer profile limit offset stream (stream ++ more)
  longer_by (Some why.HighBit) e = (
    [],
    ap (λ (g : Framed). g.found) (there ∙ frame-by profile limit offset m (stream ++ more) (passwords_framed profile limit) (Some why.HighBit) e ∙ sym (frame-by profile limit offset m stream (passwords_framed profile limit) (Some why.HighBit) e) ∙ sym here)
        ∙ sym (append-nil (passwords_framed profile limit offset stream).found),
  )
  longer_by (Some reason) e = passed_on (length_found (frame_of offset m) reason ∷ []) (here ∙ frame-by profile limit offset m stream (passwords_framed profile limit) (Some reason) e) (there ∙ frame-by profile limit offset m (stream ++ more) (passwords_framed profile limit) (Some reason) e)
  longer_by None e =
      let fine = no_fault limit m e in
      longer_allowed (record { some = fine.0; within = fine.1.1; short = fine.1.0 }) (cases_lt (length stream) (4 + m))

longer_within : (profile : Profile) (limit bound offset : ℕ) (stream more : List ℕ) → length stream ≤ bound → Longer profile limit offset stream (stream ++ more)
longer_within profile limit bound offset [] more few = longer_none profile limit offset [] more (ap (λ (g : Framed). g.found) (passwords-short profile limit offset [] (omega arith)))
longer_within profile limit zero offset (octet ∷ octets) more few = absurd (omega arith)
longer_within profile limit (suc bound) offset (octet ∷ octets) more few =
    elim (cases_lt (length (octet ∷ octets)) 4) [
      | inl short ↦ longer_none profile limit offset (octet ∷ octets) ((octet ∷ octets) ++ more) (ap (λ (g : Framed). g.found) (passwords-short profile limit offset (octet ∷ octets) short))
      | inr four ↦
          longer_by profile limit offset (octet ∷ octets) four more (λ next rest less. longer_within profile limit bound next rest more (omega (arith, less, few)))
          (length_fault limit (number (take 4 (octet ∷ octets)))) refl
    ]

passwords_extend : (profile : Profile) (limit : ℕ) (stream more : List ℕ) → Extends (services.Passwords profile) limit stream more
passwords_extend profile limit stream more =
    let l = longer_within profile limit (length stream) 0 stream more (le_refl (length stream)) in
    extends-of (services.Passwords profile) limit stream more (passwords profile limit stream).found l.0 refl l.1

-- ---- either

-- what was found stays, whatever follows
pub extends : (service : Service) (limit : ℕ) (stream more : List ℕ) → Extends service limit stream more
extends (services.Kerberos profile) limit stream more = messages_extend profile limit stream more (known profile limit stream)
extends (services.Passwords profile) limit stream more = passwords_extend profile limit stream more

-- and then what is found with others
pub found_with-both : (service : Service) (limit : ℕ) (stream xs ys : List ℕ) → found_with service limit stream (xs ++ ys) ≡ found_with service limit stream xs ++ found_with service limit (stream ++ xs) ys
found_with-both service limit stream xs ys =
    let a : List Found = found_with service limit stream xs in
    let b : List Found = found_with service limit (stream ++ xs) ys in
    found_with-of service limit stream (xs ++ ys) (framed service limit stream).found (a ++ b) refl
    (ap (λ s. (framed service limit s).found) (sym (append_assoc stream xs ys))
    ∙ extends service limit (stream ++ xs) ys
    ∙ ap (λ l. l ++ b) (extends service limit stream xs)
    ∙ append_assoc (framed service limit stream).found a b)

-- all of a stream that is all there
pub all_found : (service : Service) (limit : ℕ) (stream : List ℕ) → (framed service limit stream).found ++ end_found service limit stream flow_ends.Complete ≡ stream_found service limit stream
all_found (services.Kerberos profile) limit stream = messages_all profile limit stream (known profile limit stream)
all_found (services.Passwords profile) limit stream = refl

pub found_with-none : (service : Service) (limit : ℕ) (stream : List ℕ) → found_with service limit stream [] ≡ []
found_with-none service limit stream =
    found_with-of service limit stream [] (framed service limit stream).found [] refl
    (ap (λ s. (framed service limit s).found) (append-nil stream) ∙ sym (append-nil (framed service limit stream).found))

nothing_found : (service : Service) (limit : ℕ) → (framed service limit []).found ≡ []
unfolding messages_framed
nothing_found (services.Kerberos profile) limit = ap (λ l. (framed_entries profile 0 l).found) (entries-nil (messages profile) limit)
nothing_found (services.Passwords profile) limit = ap (λ (g : Framed). g.found) (passwords-short profile limit 0 [] (omega arith))

pub found_with-all : (service : Service) (limit : ℕ) (stream : List ℕ) → found_with service limit [] stream ≡ (framed service limit stream).found
found_with-all service limit stream = found_with-of service limit [] stream [] (framed service limit stream).found (nothing_found service limit) refl
