-- The lines of the messages of a stream, written as JSON.
use Rattle.std.proofs.Common.{String, Global, ◌≡◌, ℕ, ◌+◌, ◌^◌, ◌<◌, inl, inr, List, [], ◌∷◌, ◌++◌, length, Option, Some, None, refl, sym, ◌∙◌, ap, ap₂, subst, arith, append-nil, append_assoc, length-append}
use Rattle.std.specs.List.{AllByRecursion, flat_map}
use Rattle.std.specs.Option.{option_map}
use Rattle.std.specs.Prelude.{IsSome, string_bytes}
use Rattle.krb_der.specs.declared.profile.Profile.{Profile}
use Rattle.krb_der.specs.declared.profile.Profile.TheVariants.{Lenient}
use Rattle.krb_msg.specs.Grammar.{messages}
use Rattle.krb_msg.specs.Stream.{End, Frames, frames}
use Rattle.krb_msg.specs.Laws.{AreMessage}
use Rattle.krb_msg.specs.ViewValues.{IsMessageView}
use Rattle.krb_msg.specs.declared.message_view.MessageView.{MessageView}
use Rattle.krb_msg.specs.Views.{message_der, message_of_der, IsInProfile}
use Rattle.krb_msg.proofs.MessageOfDer.{message_of_der_is_message}
use Rattle.krb_frame.specs.Deliveries.{IsMessage, contents_in}
use Rattle.krb_frame.specs.GoingOn.{Entry, Contents, Fault, after_contents, entries, entry_size}
use Rattle.krb_frame.proofs.Deliveries.{contents_in-append}
use Rattle.krb_json.specs.Unencrypted.{unencrypted_in}
use Rattle.krb_run.specs.Conversions.{Converted, after_text}
use Rattle.krb_convert.specs.Decoding.{Ending, All, Unencrypted, ending_at, ending_of, line_and, lines_after, decoded, AllAreEncrypted}
use Rattle.krb_tool.specs.Listing.{IsNotRefused}
use Rattle.krb_tool.specs.Paths.{found_path, frame_path, last_octets}
use Rattle.krb_convert.specs.declared.decode_run.DecodeEnd.{DecodeEnd}
use Rattle.krb_convert.specs.declared.decode_run.DecodeEnd.TheVariants as ends
use Rattle.krb_convert.specs.declared.json_lines.JsonLines.{JsonLines}
use Rattle.krb_run.specs.ConversionRules.{IsBeginning}
use Rattle.krb_convert.specs.inner.JsonLines.{HasLines, IsOfMessage, PutsBy, ReceivesEntry, ReceivesMessage, json_lines, octets_line, rest_by, rest_of}
use Rattle.krb_tool.specs.inner.Listers.{Adds, AreListed, FrameLister, current_end, lister_kind}
use Rattle.krb_run.specs.Streams.{EndsListing, Taken}
use Rattle.krb_run.proofs.ConversionRuns.{after_text-both}
use Rattle.krb_tool.proofs.FirstRefusals.{SameEnd, frames-begin}
use Rattle.krb_tool.proofs.ListedPieces.{IsOver, done-begins, done-first, waits-whole}

-- ---- octets that are a message
pub of_message : (profile : Profile) (octets : List ℕ) → AreMessage profile (length octets) octets → IsOfMessage profile octets
of_message profile octets m =
    let same : m.message ≡ message_of_der octets = sym (message_of_der_is_message profile m.message m.in_profile) ∙ ap message_of_der m.form in
    record { in_profile = subst (IsInProfile profile) same m.in_profile; form = ap message_der (sym same) ∙ m.form }

-- that are viewed as one
pub message_viewed : (octets : List ℕ) (view : MessageView) → IsMessageView octets view → IsOfMessage Lenient octets
message_viewed octets view v = record { in_profile = subst (IsInProfile Lenient) v.read v.in_profile; form = ap message_der (sym v.read) ∙ v.form }

-- ---- messages that are encrypted
-- all of them have their lines
encrypted-lines : (before : ℕ) (contents : List (List ℕ)) (end : Ending) → AllAreEncrypted contents → lines_after before contents end ≡ record { text = flat_map octets_line contents; end = end }
encrypted-lines before [] end encrypted = refl
encrypted-lines before (octets ∷ contents) end encrypted =
    ap (λ unencrypted. line_and (before + 1) octets unencrypted (lines_after (before + 1) contents end)) encrypted.0
    ∙ ap (after_text (octets_line octets)) (encrypted-lines (before + 1) contents end encrypted.1)

-- and only then all are decoded
abbrev pub AreAllEncrypted : (contents : List (List ℕ)) → Ending → Type 0
AreAllEncrypted contents end = AllAreEncrypted contents × (end ≡ All)

encrypted_first : (number : ℕ) (octets : List ℕ) (contents : List (List ℕ)) (end : Ending) (others : Converted Ending) (unencrypted : Option (List ℕ)) → (others.end ≡ All → AreAllEncrypted contents end) → unencrypted_in (message_of_der octets) ≡ unencrypted → (line_and number octets unencrypted others).end ≡ All → AreAllEncrypted (octets ∷ contents) end
encrypted_first number octets contents end others None more u e = let m = more e in ((u, m.0), m.1)
encrypted_first number octets contents end others (Some path) more u e = absurd cc

pub encrypted_all : (before : ℕ) (contents : List (List ℕ)) (end : Ending) → (lines_after before contents end).end ≡ All → AreAllEncrypted contents end
encrypted_all before [] end e = (tt, e)
encrypted_all before (octets ∷ contents) end e =
    encrypted_first (before + 1) octets contents end (lines_after (before + 1) contents end) (unencrypted_in (message_of_der octets)) (encrypted_all (before + 1) contents end) refl e

-- how a stream ends all of whose messages are encrypted
unfoldable pub stream_ending : Profile → (limit : ℕ) → (stream : List ℕ) → Ending
stream_ending profile limit stream = ending_at (length (frames (messages profile) limit stream).contents) (frames (messages profile) limit stream).end (found_path profile (frames (messages profile) limit stream) stream)

decoded-by : (profile : Profile) (limit : ℕ) (stream : List ℕ) (contents : List (List ℕ)) → (frames (messages profile) limit stream).contents ≡ contents → decoded profile limit stream ≡ lines_after 0 contents (stream_ending profile limit stream)
unfolding decoded stream_ending
decoded-by profile limit stream contents e = ap (λ c. lines_after 0 c (stream_ending profile limit stream)) e

pub decoded-all : (profile : Profile) (limit : ℕ) (stream : List ℕ) (contents : List (List ℕ)) → AllAreEncrypted contents → (frames (messages profile) limit stream).contents ≡ contents → decoded profile limit stream ≡ record { text = flat_map octets_line contents; end = stream_ending profile limit stream }
decoded-all profile limit stream contents encrypted e = decoded-by profile limit stream contents e ∙ encrypted-lines 0 contents (stream_ending profile limit stream) encrypted

-- ---- a frame is listed
not_some : {A : Type 0} {value : A} → None ≡ Some value → ⊥
not_some e = cc

-- its message was put
pub receives-put : (octets : List ℕ) (old new : JsonLines) (unencrypted : Option (List ℕ)) → old.unencrypted ≡ None → unencrypted_in (message_of_der octets) ≡ unencrypted → PutsBy unencrypted octets old new → ReceivesMessage octets old new
receives-put octets old new None none u p =
    let before : option_map string_bytes old.unencrypted ≡ None = ap (option_map string_bytes) none in
    let after : option_map string_bytes new.unencrypted ≡ None = ap (option_map string_bytes) (p.same ∙ none) in
    record {
      added = octets_line octets;
      text = p.text;
      rest = λ few contents end.
          ap (λ found. rest_by found old.messages (octets ∷ contents) end) before
          ∙ ap (λ found. line_and (old.messages + 1) octets found (lines_after (old.messages + 1) contents end)) u
          ∙ ap₂ (λ found n. after_text (octets_line octets) (rest_by found n contents end)) (sym after) (sym (p.messages few));
      counted = λ few left. (none, p.messages few);
      few = p.few;
    }
receives-put octets old new (Some path) none u p =
    let before : option_map string_bytes old.unencrypted ≡ None = ap (option_map string_bytes) none in
    record {
      added = [];
      text = p.text ∙ sym (append-nil old.text.items);
      rest = λ few contents end.
          ap (λ found. rest_by found old.messages (octets ∷ contents) end) before
          ∙ ap (λ found. line_and (old.messages + 1) octets found (lines_after (old.messages + 1) contents end)) u
          ∙ ap₂ (λ found n. after_text [] (rest_by found n contents end)) (sym p.kept) (sym p.messages);
      counted = λ few left. absurd (not_some (ap (option_map string_bytes) (sym left) ∙ p.kept));
      few = omega (arith, p.messages);
    }

-- one alone
unencrypted_end : (message : ℕ) (path found : List ℕ) → Some path ≡ Some found → Unencrypted message path ≡ Unencrypted message found
unencrypted_end message path found e = cc

module _ (octets : List ℕ) (old new : JsonLines) (empty : old.text.items ≡ []) (none : old.unencrypted ≡ None) where
  pub whole-line : (unencrypted : Option (List ℕ)) → PutsBy unencrypted octets old new → new.unencrypted ≡ None → record { text = new.text.items; end = All } ≡ line_and 1 octets unencrypted (record { text = []; end = All })
  whole-line None p e = ap (λ t. record { text = t; end = All }) (p.text ∙ ap (λ t. t ++ octets_line octets) empty ∙ sym (append-nil (octets_line octets)))
  whole-line (Some path) p e = absurd (not_some (ap (option_map string_bytes) (sym e) ∙ p.kept))

  pub whole-path : (unencrypted : Option (List ℕ)) (path : String Global) → PutsBy unencrypted octets old new → new.unencrypted ≡ Some path → record { text = new.text.items; end = Unencrypted 1 (string_bytes path) } ≡ line_and 1 octets unencrypted (record { text = []; end = All })
  whole-path None path p e = absurd (not_some (sym none ∙ sym p.same ∙ e))
  whole-path (Some found) path p e = ap₂ (λ t end. record { text = t; end = end }) (p.text ∙ empty) (unencrypted_end 1 (string_bytes path) found (ap (option_map string_bytes) (sym e) ∙ p.kept))

pub none_full : (lines : JsonLines) → lines.unencrypted ≡ None → IsSome lines.unencrypted → ⊥
none_full lines none full = no (subst IsSome none full)
  where
    no : IsSome {T = String Global} None → ⊥
    no e = cc

-- or a message before it is not encrypted
pub receives-nothing : (octets : List ℕ) (lines : JsonLines) → IsSome lines.unencrypted → ReceivesMessage octets lines lines
receives-nothing octets lines full = by lines.unencrypted refl
  where
    by : (found : Option (String Global)) → lines.unencrypted ≡ found → ReceivesMessage octets lines lines
    by None none = absurd (none_full lines none full)
    by (Some path) some = record {
      added = [];
      text = sym (append-nil lines.text.items);
      rest = λ few contents end.
          let kept : option_map string_bytes lines.unencrypted ≡ Some (string_bytes path) = ap (option_map string_bytes) some in
          ap (λ found. rest_by found lines.messages (octets ∷ contents) end) kept ∙ ap (λ found. after_text [] (rest_by found lines.messages contents end)) (sym kept);
      counted = λ few left. absurd (not_some (sym left ∙ some));
      few = omega arith;
    }

adds_entry : (old : JsonLines) (entry : Entry) (new : JsonLines) → ReceivesEntry old entry new → old.messages + 1 < 2 ^ 64 → 0 + entry_size entry < 2 ^ 64 → Adds json_lines old entry new
adds_entry old (Contents octets) new r few small = record {
  decoded = λ kept. tt;
  lines = λ profile before written h. record {
    goes_on = λ contents end.
        ap (λ c. lines_after 0 c end) (ap (λ c. c ++ contents) (contents_in-append before (Contents octets ∷ [])) ∙ append_assoc (contents_in before) (octets ∷ []) contents)
        ∙ h.goes_on (octets ∷ contents) end
        ∙ ap (after_text (written ++ old.text.items)) (r.rest few contents end)
        ∙ after_text-both (written ++ old.text.items) r.added (rest_of new contents end)
        ∙ ap (λ t. after_text t (rest_of new contents end)) (append_assoc written old.text.items r.added ∙ ap (λ t. written ++ t) (sym r.text));
    counted = λ none. let c = r.counted few none in omega (arith, c.1, h.counted c.0, ap length (contents_in-append before (Contents octets ∷ [])), length-append (contents_in before) (octets ∷ []));
  };
  few = r.few;
  small = omega arith;
  going = refl;
  same = λ profile limit. refl;
}
adds_entry old (Fault place reason prefix) new r few small = record {
  decoded = λ kept. absurd cc;
  lines = λ profile before written h.
      let same : contents_in (before ++ Fault place reason prefix ∷ []) ≡ contents_in before = contents_in-append before (Fault place reason prefix ∷ []) ∙ append-nil (contents_in before) in
      record {
        goes_on = λ contents end. ap (λ c. lines_after 0 (c ++ contents) end) same ∙ h.goes_on contents end ∙ ap (λ l. after_text (written ++ l.text.items) (rest_of l contents end)) (sym r);
        counted = λ none. ap (λ l. l.messages) r ∙ h.counted (sym (ap (λ l. l.unencrypted) r) ∙ none) ∙ ap length (sym same);
      };
  few = omega (arith, ap (λ l. l.messages) r);
  small = omega arith;
  going = refl;
  same = λ profile limit. refl;
}

-- ---- lines
pub not_full : (lines : JsonLines) → (IsSome lines.unencrypted → ⊥) → lines.unencrypted ≡ None
not_full lines room = by lines.unencrypted refl
  where
    by : (found : Option (String Global)) → lines.unencrypted ≡ found → lines.unencrypted ≡ None
    by None e = e
    by (Some path) e = absurd (room (subst IsSome (sym e) refl))

rest-none : (lines : JsonLines) (end : Ending) → lines.unencrypted ≡ None → rest_of lines [] end ≡ record { text = []; end = end }
rest-none lines end none = ap (λ found. rest_by (option_map string_bytes found) lines.messages [] end) none

rest-some : (lines : JsonLines) (path : String Global) (contents : List (List ℕ)) (end : Ending) → lines.unencrypted ≡ Some path → rest_of lines contents end ≡ record { text = []; end = Unencrypted (lines.messages + 1) (string_bytes path) }
rest-some lines path contents end some = ap (λ found. rest_by (option_map string_bytes found) lines.messages contents end) some

-- what a stream becomes with whose first frames they are of
decoded-is : (profile : Profile) (limit : ℕ) (lines : JsonLines) (octets written : List ℕ) (first : List Entry) (others : List (List ℕ)) → HasLines profile lines first written → (frames (messages profile) limit octets).contents ≡ contents_in first ++ others → decoded profile limit octets ≡ after_text (written ++ lines.text.items) (rest_of lines others (stream_ending profile limit octets))
decoded-is profile limit lines octets written first others h e = decoded-by profile limit octets (contents_in first ++ others) e ∙ h.goes_on others (stream_ending profile limit octets)

json-begins : (profile : Profile) (limit : ℕ) (lines : JsonLines) (octets written : List ℕ) (first others : List Entry) → entries (messages profile) limit octets ≡ first ++ others → AllByRecursion IsMessage first → HasLines profile lines first written → IsBeginning (written ++ lines.text.items) (decoded profile limit octets).text
json-begins profile limit lines octets written first others e m h =
    let begin = frames-begin (messages profile) limit octets first others e m in
    record { rest = (rest_of lines begin.0 (stream_ending profile limit octets)).text; parts = ap (λ c. c.text) (decoded-is profile limit lines octets written first begin.0 h begin.1) }

-- all frames of a stream
module _ (lister : FrameLister JsonLines) (octets written : List ℕ) (first : List Entry) (h : HasLines lister.decoder.current.profile lister.lines first written) (e : (frames (messages lister.decoder.current.profile) lister.decoder.current.limit octets).contents ≡ contents_in first) (none : lister.lines.unencrypted ≡ None) where
  decoded-whole : decoded lister.decoder.current.profile lister.decoder.current.limit octets ≡ record { text = written ++ lister.lines.text.items; end = stream_ending lister.decoder.current.profile lister.decoder.current.limit octets }
  decoded-whole =
      let end : Ending = stream_ending lister.decoder.current.profile lister.decoder.current.limit octets in
      decoded-is lister.decoder.current.profile lister.decoder.current.limit lister.lines octets written first [] h (e ∙ sym (append-nil (contents_in first)))
      ∙ ap (after_text (written ++ lister.lines.text.items)) (rest-none lister.lines end none)
      ∙ ap (λ t. record { text = t; end = end }) (append-nil (written ++ lister.lines.text.items))

  whole_encrypted : AllAreEncrypted (frames (messages lister.decoder.current.profile) lister.decoder.current.limit octets).contents
  whole_encrypted =
      let all : lines_after 0 (contents_in first ++ []) All ≡ after_text (written ++ lister.lines.text.items) (rest_of lister.lines [] All) = h.goes_on [] All in
      subst AllAreEncrypted (append-nil (contents_in first) ∙ sym e)
      (encrypted_all 0 (contents_in first ++ []) All (ap (λ c. c.end) (all ∙ ap (after_text (written ++ lister.lines.text.items)) (rest-none lister.lines All none)))).0

-- ---- a lister of these lines
pub json_listed : AreListed json_lines
json_listed = record {
  adds = adds_entry;
  sized = λ profile lines frames written h. omega arith;
  begins = λ profile limit lines octets written first others e whole h. json-begins profile limit lines octets written first others e (whole refl) h;
  all = λ lister octets written h w.
      let whole = waits-whole json_lines lister octets written h w refl in
      sym (ap (λ c. c.text) (decoded-whole lister octets written h.frames h.lines whole.0 (not_full lister.lines w.1)));
  asks = λ lister octets written h w.
      let whole = waits-whole json_lines lister octets written h w refl in
      record { accepted = whole.1; encrypted = whole_encrypted lister octets written h.frames h.lines whole.0 (not_full lister.lines w.1) };
  listing = λ lister taken d room. (
    [],
    append-nil (taken.written ++ lister.lines.text.items)
        ∙ sym (ap (λ c. c.text) (decoded-whole lister taken.octets taken.written d.frames d.lines (done-first json_lines lister taken d refl room).0 (not_full lister.lines room))),
  );
}

-- ---- the end
-- of a stream, with the octets of its last frame
same-ending : (profile : Profile) (count : ℕ) (end other : End) (left octets : List ℕ) → SameEnd end other left octets → ending_at count end (frame_path profile (last_octets end left)) ≡ ending_at count other (frame_path profile octets)
same-ending profile count end other left octets (same, inl boundary) =
    ap (λ x. ending_at count x (frame_path profile (last_octets end left))) (same ∙ boundary) ∙ sym (ap (λ x. ending_at count x (frame_path profile octets)) boundary)
same-ending profile count end other left octets (same, inr last) = ap₂ (λ x o. ending_at count x (frame_path profile o)) same last

not_unencrypted : {message : ℕ} {path : List ℕ} → All ≡ Unencrypted message path → ⊥
not_unencrypted e = cc

module _ (lister : FrameLister JsonLines) (new : JsonLines) (taken : Taken) (left : Option (List ℕ)) (o : IsOver json_lines json_listed lister taken left) (text : new.text.items ≡ lister.lines.text.items) where
  -- all messages are encrypted
  pub ends-encrypted : (ended : DecodeEnd) → lister.lines.unencrypted ≡ None → ending_of ended ≡ ending_at lister.lines.messages (current_end lister) (frame_path lister.decoder.current.profile lister.decoder.current.octets) → EndsListing (json_lines.rules ((lister_kind json_lines).request lister)) taken.octets (taken.written ++ new.text.items) left ended
  unfolding stream_ending
  ends-encrypted ended none is =
      let profile : Profile = lister.decoder.current.profile in
      let read : Frames = frames (messages lister.decoder.current.profile) lister.decoder.current.limit taken.octets in
      let room : IsSome lister.lines.unencrypted → ⊥ = none_full lister.lines none in
      let first = done-first json_lines lister taken o.done refl room in
      let whole = decoded-whole lister taken.octets taken.written o.done.frames o.done.lines first.0 none in
      record {
        listing = ap (λ t. taken.written ++ t) text ∙ sym (ap (λ c. c.text) whole);
        ends = record {
          ended_so =
              is
              ∙ ap (λ n. ending_at n (current_end lister) (frame_path profile lister.decoder.current.octets)) (o.done.lines.counted none ∙ ap length (sym first.0))
              ∙ sym (same-ending profile (length read.contents) read.end (current_end lister) (after_contents read taken.octets) lister.decoder.current.octets first.1)
              ∙ sym (ap (λ c. c.end) whole);
          all_read = λ g. o.read room (subst IsNotRefused first.1.0 g.accepted);
          stops = o.done.stops;
        };
      }

  -- a message is not
  pub ends-unencrypted : (path : String Global) → lister.lines.unencrypted ≡ Some path → EndsListing (json_lines.rules ((lister_kind json_lines).request lister)) taken.octets (taken.written ++ new.text.items) left (ends.Unencrypted (lister.lines.messages + 1) path)
  ends-unencrypted path some =
      let h : HasLines lister.decoder.current.profile lister.lines o.done.frames taken.written = o.done.lines in
      let so_far : List ℕ = taken.written ++ lister.lines.text.items in
      let begin = done-begins json_lines lister taken o.done refl in
      let whole =
      decoded-is lister.decoder.current.profile lister.decoder.current.limit lister.lines taken.octets taken.written o.done.frames begin.0 h begin.1
      ∙ ap (after_text so_far) (rest-some lister.lines path begin.0 _ some) in
      let never = λ (encrypted : AllAreEncrypted (contents_in o.done.frames ++ begin.0)).
      sym (encrypted-lines 0 (contents_in o.done.frames ++ begin.0) All encrypted) ∙ h.goes_on begin.0 All ∙ ap (after_text so_far) (rest-some lister.lines path begin.0 All some) in
      record {
        listing = ap (λ t. taken.written ++ t) text ∙ sym (append-nil so_far) ∙ sym (ap (λ c. c.text) whole);
        ends = record {
          ended_so = sym (ap (λ c. c.end) whole);
          all_read = λ g. absurd (not_unencrypted (ap (λ c. c.end) (never (subst AllAreEncrypted begin.1 g.encrypted))));
          stops = o.done.stops;
        };
      }
