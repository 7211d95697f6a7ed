-- How the decoding of a stream that goes on ends, and that going on changes nothing if nothing is told.
use Rattle.std.proofs.Common.{◌≡◌, ℕ, ◌+◌, cond, List, [], ◌∷◌, ◌++◌, length, map, Option, Some, None, refl, sym, ◌∙◌, ap, ap₂, append-nil, append_assoc, arith}
use Rattle.std.specs.List.{AllByRecursion, Contains, filter, flat_map}
use Rattle.std.proofs.lemmas.List.{length-map}
use Rattle.krb_convert.specs.Decoding.{All, AllAreEncrypted, decoded, ending_at}
use Rattle.krb_convert.specs.inner.JsonLines.{octets_line}
use Rattle.krb_convert.proofs.DecodedFrames.{decoded-all, stream_ending}
use Rattle.krb_der.specs.declared.profile.Profile.{Profile}
use Rattle.krb_der.specs.declared.why.Why.{Why}
use Rattle.krb_frame.specs.GoingOn.{Contents, Entry, Fault, after_contents, entries, entry_size, last_entry}
use Rattle.krb_frame.proofs.GoingOn.{begins}
use Rattle.krb_json.specs.Lines.{line_of, message_text}
use Rattle.krb_json.specs.Unencrypted.{unencrypted_in}
use Rattle.krb_msg.specs.Grammar.{messages}
use Rattle.krb_msg.specs.Stream.{Boundary, End, Frames, Refused, Within, frames}
use Rattle.krb_msg.specs.Views.{message_der, message_of_der}
use Rattle.krb_msg.specs.declared.message.Message.{Message}
use Rattle.krb_msg.proofs.MessageOfDer.{message_of_der_is_message}
use Rattle.krb_run.specs.declared.run.RunEnd.TheVariants as run
use Rattle.krb_tool.specs.GoingOn.{Faulty, Listed, Whole, counted_run_end, entry_of, is_refused_at_once, messages_in, refused_in}
use Rattle.krb_tool.specs.Paths.{found_path}
use Rattle.krb_tool_laws.specs.Listings.{AreRead}
use Rattle.krb_decode.specs.Sorted.{is_any, lines_after, message_lines, sorted_end, told_lines}
use Rattle.krb_decode.specs.Streams.{IsDecoded, end_part, part_by, parts_after}
use Rattle.krb_decode_laws.specs.Messages.{is_sealed, is_sealed_by}
use Rattle.krb_decode_laws.specs.Streams.{GoingOnChangesNothing, OthersAreTold, StreamsEndAsTold, whole_in}
use Rattle.krb_decode_laws.proofs.CountedMessages.{nothing-there, silent-end}
use Rattle.krb_decode_laws.proofs.SortedTexts.{sorted-count, with_feed}
use Rattle.krb_decode_laws.proofs.StreamLines.{AreGood, Premises, good, in-profile, its-lines, its-others, texts}

-- ---- messages all of which are sealed
abbrev pub AreSealed : List Message → Type 0
AreSealed all = AllByRecursion (λ (m : Message). unencrypted_in m ≡ None) all

all-kept : (all : List Message) → AreSealed all → filter is_sealed all ≡ all
all-kept [] each = refl
all-kept (m ∷ others) each = ap₂ (λ unencrypted l. cond (is_sealed_by unencrypted) (m ∷ l) l) each.0 (all-kept others each.1)

-- ---- frames of which nothing is told
module _ (profile : Profile) (text : List ℕ) (nothing : told_lines text ≡ []) where
  all-whole : (before offset : ℕ) (found : List Listed) → OthersAreTold profile text before offset found → found ≡ map Whole (whole_in found)
  all-whole before offset [] told = refl
  all-whole before offset (Whole m ∷ others) told = ap (λ l. Whole m ∷ l) (all-whole (before + 1) (offset + entry_size (entry_of (Whole m))) others told.1)
  all-whole before offset (Faulty place reason prefix ∷ others) told = absurd (nothing-there (told_lines text) _ nothing told.0)

  one-sealed : (m : Message) (line : List ℕ → List ℕ) → ((path : List ℕ) → unencrypted_in m ≡ Some path → Contains (told_lines text) (line path)) → (unencrypted : Option (List ℕ)) → unencrypted_in m ≡ unencrypted → unencrypted_in m ≡ None
  one-sealed m line told None e = e
  one-sealed m line told (Some path) e = absurd (nothing-there (told_lines text) (line path) nothing (told path e))

  all-sealed : (before offset : ℕ) (found : List Listed) → OthersAreTold profile text before offset found → AreSealed (whole_in found)
  all-sealed before offset [] told = tt
  all-sealed before offset (Whole m ∷ others) told = (one-sealed m _ told.0 (unencrypted_in m) refl, all-sealed (before + 1) (offset + entry_size (entry_of (Whole m))) others told.1)
  all-sealed before offset (Faulty place reason prefix ∷ others) told = all-sealed before (offset + entry_size (entry_of (Faulty place reason prefix))) others told.1

-- ---- counts
none-refused : (all : List Message) → refused_in (map Whole all) ≡ 0
none-refused [] = refl
none-refused (m ∷ others) = none-refused others

as-many : (found : List Listed) → messages_in found ≡ length (whole_in found)
as-many [] = refl
as-many (Whole m ∷ others) = omega (arith, as-many others)
as-many (Faulty place reason prefix ∷ others) = as-many others

-- ---- frames without a fault
abbrev messages_of : List Message → List Entry
messages_of all = map Contents (map message_der all)

entries-of : (all : List Message) → map entry_of (map Whole all) ≡ messages_of all
entries-of [] = refl
entries-of (m ∷ others) = ap (λ l. Contents (message_der m) ∷ l) (entries-of others)

same-contents : (a b : List ℕ) (c d : List Entry) → Contents a ∷ c ≡ Contents b ∷ d → (a ≡ b) × (c ≡ d)
same-contents a b c d e = (cc, cc)

-- what follows frames that are all whole is whole, too
record IsRest (first all : List (List ℕ)) (others : List Entry) : Type 0 where
  rest : List (List ℕ)
  is : others ≡ map Contents rest
  whole : all ≡ first ++ rest

rest-of : (first all : List (List ℕ)) (others : List Entry) → map Contents all ≡ map Contents first ++ others → IsRest first all others
rest-of [] all others e = record { rest = all; is = sym e; whole = refl }
rest-of (a ∷ first) [] others e = absurd cc
rest-of (a ∷ first) (b ∷ all) others e =
    let same = same-contents b a (map Contents all) (map Contents first ++ others) e in
    let more : IsRest first all others = rest-of first all others same.1 in
    record { rest = more.rest; is = more.is; whole = ap₂ (λ x y. x ∷ y) same.0 more.whole }

no-fault : (place : ℕ) (reason : Why) (prefix : List ℕ) (others : List Entry) (rest : List (List ℕ)) → Fault place reason prefix ∷ others ≡ map Contents rest → ⊥
no-fault place reason prefix others [] e = cc
no-fault place reason prefix others (octets ∷ rest) e = cc

nothing-left : (rest : List (List ℕ)) → [] ≡ map Contents rest → rest ≡ []
nothing-left [] e = refl
nothing-left (octets ∷ rest) e = absurd cc

never-refused : (place : ℕ) (reason : Why) → Boundary ≡ Refused place reason → ⊥
never-refused place reason e = cc

pub record AreAll (found : Frames) (all : List (List ℕ)) : Type 0 where
  pub contents : found.contents ≡ all
  pub end : found.end ≡ Boundary

module _ (profile : Profile) (limit : ℕ) (stream : List ℕ) (all : List (List ℕ)) (e : entries (messages profile) limit stream ≡ map Contents all) where
  abbrev its-frames : Frames
  its-frames = frames (messages profile) limit stream

  at-fault : (last : List Entry) → ((others : List Entry) (rest : List (List ℕ)) → last ++ others ≡ map Contents rest → ⊥) → last_entry its-frames.end (after_contents its-frames stream) ≡ last → ⊥
  at-fault last never same =
      let first = (begins (messages profile) limit stream).first in
      let left : IsRest its-frames.contents all (last ++ first.0) = rest-of its-frames.contents all (last ++ first.0) (sym e ∙ first.1 ∙ ap (λ l. (map Contents its-frames.contents ++ l) ++ first.0) same ∙ append_assoc (map Contents its-frames.contents) last first.0) in
      never first.0 left.rest left.is

  by-end : (end : End) → its-frames.end ≡ end → AreAll its-frames all
  by-end Boundary is =
      let alone = (begins (messages profile) limit stream).alone (λ place reason refused. never-refused place reason (sym is ∙ refused)) in
      let left : IsRest its-frames.contents all (last_entry its-frames.end (after_contents its-frames stream)) = rest-of its-frames.contents all (last_entry its-frames.end (after_contents its-frames stream)) (sym e ∙ alone) in
      let none : left.rest ≡ [] = nothing-left left.rest (sym (ap (λ f. last_entry f (after_contents its-frames stream)) is) ∙ left.is) in
      record { contents = sym (left.whole ∙ ap (λ l. its-frames.contents ++ l) none ∙ append-nil its-frames.contents); end = is }
  by-end (Within present) is = absurd (at-fault (last_entry (Within present) (after_contents its-frames stream)) (λ others rest. no-fault _ _ _ others rest) (ap (λ f. last_entry f (after_contents its-frames stream)) is))
  by-end (Refused place reason) is = absurd (at-fault (last_entry (Refused place reason) (after_contents its-frames stream)) (λ others rest. no-fault _ _ _ others rest) (ap (λ f. last_entry f (after_contents its-frames stream)) is))

  pub are-all : AreAll its-frames all
  are-all = by-end its-frames.end refl

-- ---- the texts are the same
module _ (p : Premises) (profile : Profile) (limit : ℕ) where
  abbrev AreMessages : List Message → Type 0
  AreMessages all = AllByRecursion (λ (m : Message). message_of_der (message_der m) ≡ m) all

  are-messages : (found : List Listed) → AreGood p profile limit found → AreMessages (whole_in found)
  are-messages [] each = tt
  are-messages (Whole m ∷ others) each = (message_of_der_is_message profile m (in-profile p profile limit m each.0), are-messages others each.1)
  are-messages (Faulty place reason prefix ∷ others) each = are-messages others each.1

  its-parts-text : (before offset : ℕ) (all : List Message) → AreSealed all → parts_after profile before offset (map Whole all) ≡ flat_map line_of all
  its-parts-text before offset [] each = refl
  its-parts-text before offset (m ∷ others) each =
      ap₂ (λ unencrypted l. part_by unencrypted (before + 1) m ++ l) each.0 (its-parts-text (before + 1) (offset + entry_size (entry_of (Whole m))) others each.1)

  octets-text : (all : List Message) → AreMessages all → flat_map octets_line (map message_der all) ≡ flat_map line_of all
  octets-text [] each = refl
  octets-text (m ∷ others) each = ap₂ (λ one l. line_of one ++ l) each.0 (octets-text others each.1)

  all-encrypted : (all : List Message) → AreMessages all → AreSealed all → AllAreEncrypted (map message_der all)
  all-encrypted [] each sealed = tt
  all-encrypted (m ∷ others) each sealed = (ap unencrypted_in each.0 ∙ sealed.0, all-encrypted others each.1 sealed.1)

  boundary-ends : (stream : List ℕ) → (frames (messages profile) limit stream).end ≡ Boundary → stream_ending profile limit stream ≡ All
  unfolding stream_ending
  boundary-ends stream e = ap (λ end. ending_at (length (frames (messages profile) limit stream).contents) end (found_path profile (frames (messages profile) limit stream) stream)) e

  module _ (stream text : List ℕ) (are : AreRead stream) (decoding : IsDecoded profile limit stream text) (nothing : told_lines text ≡ []) where
    abbrev all : List Message
    all = whole_in decoding.found

    others-are : OthersAreTold profile text 0 0 decoding.found
    others-are = its-others p profile limit stream text are decoding

    whole : decoding.found ≡ map Whole all
    whole = all-whole profile text nothing 0 0 decoding.found others-are

    sealed : AreSealed all
    sealed = all-sealed profile text nothing 0 0 decoding.found others-are

    pub its-count : messages_in decoding.found ≡ length (lines_after [] (message_lines text))
    its-count =
        as-many decoding.found
        ∙ ap length (sym (all-kept all sealed))
        ∙ sym
        (ap length (sorted-count text (texts p profile limit decoding.found) (its-lines p profile limit stream text are decoding))
        ∙ length-map (texts p profile limit decoding.found) with_feed
        ∙ length-map (filter is_sealed all) message_text)

    pub its-run-end : counted_run_end (is_refused_at_once decoding.found) (refused_in decoding.found) ≡ run.Clean
    its-run-end = ap (counted_run_end (is_refused_at_once decoding.found)) (ap refused_in whole ∙ none-refused all)

    its-text : text ≡ flat_map line_of all
    its-text =
        decoding.lines
        ∙ ap (λ found. parts_after profile 0 0 found ++ end_part (messages_in found) (refused_in found)) whole
        ∙ ap (λ refused. parts_after profile 0 0 (map Whole all) ++ end_part (messages_in (map Whole all)) refused) (none-refused all)
        ∙ append-nil (parts_after profile 0 0 (map Whole all))
        ∙ its-parts-text 0 0 all sealed

    pub its-decoded : decoded profile limit stream ≡ record { text = text; end = All }
    its-decoded =
        let frames-are : AreAll (frames (messages profile) limit stream) (map message_der all) = are-all profile limit stream (map message_der all) (sym decoding.in_frames ∙ ap (map entry_of) whole ∙ entries-of all) in
        let known : AreMessages all = are-messages decoding.found (good p profile limit stream text are decoding) in
        decoded-all profile limit stream (map message_der all) (all-encrypted all known sealed) frames-are.contents
        ∙ ap₂ (λ t end. record { text = t; end = end }) (octets-text all known ∙ sym its-text) (boundary-ends stream frames-are.end)

pub streams_end_as_told : Premises → StreamsEndAsTold
streams_end_as_told p profile limit stream text are decoding = record {
  clean = λ nothing. ap₂ (λ end told. sorted_end end (is_any told)) (its-run-end p profile limit stream text are decoding nothing) nothing;
  silent = silent-end (counted_run_end (is_refused_at_once decoding.found) (refused_in decoding.found)) (told_lines text);
  counted = λ nothing. its-count p profile limit stream text are decoding nothing;
}

pub going_on_changes_nothing : Premises → GoingOnChangesNothing
going_on_changes_nothing p profile limit stream text are decoding nothing = its-decoded p profile limit stream text are decoding nothing
