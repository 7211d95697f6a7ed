-- Each line of the listing of a stream is one.
use Rattle.std.proofs.Common.{◌≡◌, ℕ, zero, suc, ◌+◌, ◌*◌, ◌^◌, ◌<◌, ◌≤◌, ◌==◌, nat_lt, nat_le, Bool, true, false, if◌then◌else◌, List, [], ◌∷◌, ◌++◌, length, map, take, drop, Some, None, IfSome, refl, sym, ◌∙◌, ap, subst, arith, append-nil, length-append, length-drop}
use Rattle.std.specs.List.{AllByRecursion, flat_map}
use Rattle.std.proofs.lemmas.List.Sums.{sum_by-cons}
use Rattle.krb_der.specs.Octets.{AreOctets, number}
use Rattle.krb_der.specs.inner.Numbers.{AreOctets-append, AreOctets-drop, AreOctets-take}
use Rattle.krb_der.specs.declared.profile.Profile.{Profile}
use Rattle.krb_der.specs.declared.profile.Profile.TheVariants as profiles
use Rattle.krb_der.specs.declared.why.Why.{Why}
use Rattle.krb_der.specs.declared.why.Why.TheVariants as why
use Rattle.krb_msg.specs.Grammar.{messages}
use Rattle.krb_msg.specs.Judgement.{Bad, Done, Open, Outcome, message_outcome, verdict_of}
use Rattle.krb_msg.specs.Laws.{AreMessage, DerIsPrefixFree, StrictIsNarrower}
use Rattle.krb_msg.specs.Stream.{Boundary, End, Frames, Refused, Within, ends, frame_and, frames, frames_within, length_and}
use Rattle.krb_msg.specs.Term.{Term}
use Rattle.krb_msg.specs.Views.{IsInProfile, message_der}
use Rattle.krb_msg.specs.declared.message.Message.{Message}
use Rattle.krb_msg.proofs.Judged.{whole_is_message}
use Rattle.krb_msg.proofs.Streams.{IsMessage, IsParse, frames-parse}
use Rattle.krb_frame.specs.Decoded.{frames_size}
use Rattle.krb_frame.specs.Decoding.{announced}
use Rattle.krb_frame.specs.Frame.{framed}
use Rattle.krb_frame.specs.GoingOn.{Contents, Entry, Fault, after_contents, entries, entries_after, entries_within, last_entry}
use Rattle.krb_frame.specs.Laws.{RefusalsAreInside}
use Rattle.krb_laws.specs.JsonLaws.{EndsAreJson, IsEnd, IsExtent, MessagesAreJson, PrintsJson}
use Rattle.krb_laws.proofs.JsonStrings.{all-append}
use Rattle.krb_record.specs.Labels.{Label}
use Rattle.krb_record.specs.Streams.{counted_end_record, refused_record}
use Rattle.krb_text.specs.Laws.{MessageIsOneLine, StreamEndIsOneLine}
use Rattle.krb_record.specs.Laws.{CountedStreamEndIsOneLine}
use Rattle.krb_text.specs.Messages.{message_line as its_own_line, shown_record}
use Rattle.krb_text.specs.StreamEnds.{end_record}
use Rattle.krb_tool.specs.GoingOn.{AreCountedLines, Faulty, IsCountedListing, Listed, Whole, counted_end_line, entry_of, lines_after, refused_line, messages_in, refused_in}
use Rattle.krb_tool.specs.Listing.{AreLines, IsListing, end_line, end_of, message_line}
use Rattle.krb_tool.specs.Paths.{end_extent, end_path, frame_extent, frame_path, last_octets}
use Rattle.krb_tool_laws.specs.Listings.{AreLinesOf, AreRead, IsNamed, StreamsAreLines}
use Rattle.krb_tool_laws.proofs.InForms.{base_in, one_in, shown_json}
use Rattle.krb_tool_laws.proofs.Lines.{a_line, and_lines, each_line, no_lines}
use Rattle.krb_tool_laws.proofs.PathOctets.{frame_octets}

-- ---- numbers
pub four_small : (octets : List ℕ) → AreOctets octets → number (take 4 octets) < 2 ^ 32
four_small [] are = omega arith
four_small (a ∷ []) are = omega (arith, are.0)
four_small (a ∷ b ∷ []) are = omega (arith, are.0, are.1.0)
four_small (a ∷ b ∷ c ∷ []) are = omega (arith, are.0, are.1.0, are.1.1.0)
four_small (a ∷ b ∷ c ∷ d ∷ octets) are = omega (arith, are.0, are.1.0, are.1.1.0, are.1.1.1.0)

announced_small : (octets : List ℕ) → AreOctets octets → IfSome (announced octets) (λ n. n < 10 ^ 64)
announced_small octets are = by (nat_lt (length octets) 4)
  where
    by : (short : Bool) → IfSome (if short then None else Some (number (take 4 octets))) (λ n. n < 10 ^ 64)
    by true = tt
    by false = omega (arith, four_small octets are)

pub extent_small : (offset : ℕ) (octets : List ℕ) → offset < 10 ^ 64 → AreOctets octets → IsExtent (frame_extent offset octets)
extent_small offset octets small are = record { at = small; length = announced_small octets are }

-- ---- how a stream ends
-- of a frame that is cut no more octets are present than there are
abbrev IsCutBelow : ℕ → End → Type 0
IsCutBelow most Boundary = Unit {0}
IsCutBelow most (Within present) = present ≤ most
IsCutBelow most (Refused place reason) = Unit {0}

framed_below : (most : ℕ) (present : List ℕ) (high long empty : Bool) (o : Outcome) (rest : Frames) → 4 + length present ≤ most → IsCutBelow most rest.end
    → IsCutBelow most (if high then ends (Refused 3 why.HighBit) else if long then ends (Refused 3 why.TooLong) else if empty then ends (Refused 3 why.Empty) else frame_and o present rest).end
framed_below most present true long empty o rest few others = tt
framed_below most present false true empty o rest few others = tt
framed_below most present false false true o rest few others = tt
framed_below most present false false false Open rest few others = few
framed_below most present false false false (Bad offset reason) rest few others = tt
framed_below most present false false false (Done count) rest few others = others

begun_below : (most : ℕ) (short : Bool) (octets : List ℕ) (found : Frames) → length octets ≤ most → IsCutBelow most found.end → IsCutBelow most (if short then ends (Within (length octets)) else found).end
begun_below most true octets found few others = few
begun_below most false octets found few others = others

module _ (terms : List Term) (limit most : ℕ) where
  within_below : (bound : ℕ) (octets : List ℕ) → 4 + length octets ≤ most → IsCutBelow most (frames_within bound terms limit octets).end
  within_below zero [] few = tt
  within_below (suc bound) [] few = tt
  within_below zero (o ∷ octets) few = omega (arith, few)
  within_below (suc bound) (o ∷ octets) few =
      let n : ℕ = number (take 4 (o ∷ octets)) in
      let rest : List ℕ = drop 4 (o ∷ octets) in
      begun_below most (nat_lt (length (o ∷ octets)) 4) (o ∷ octets) (length_and terms limit n rest (frames_within bound terms limit)) (omega (arith, few))
      (framed_below most (take n rest) (nat_le (2 ^ 31) n) (nat_lt limit n) (n == 0) (message_outcome terms n (take n rest)) (frames_within bound terms limit (drop n rest)) (omega (arith, few, fewer_taken n rest, length-drop 4 (o ∷ octets)))
      (within_below bound (drop n rest) (omega (arith, few, length-drop n rest, length-drop 4 (o ∷ octets)))))
    where
      fewer_taken : (n : ℕ) (rest : List ℕ) → length (take n rest) ≤ length rest
      fewer_taken zero rest = omega arith
      fewer_taken (suc n) [] = omega arith
      fewer_taken (suc n) (x ∷ rest) = omega (arith, fewer_taken n rest)

module _ (inside : RefusalsAreInside) (profile : Profile) (limit : ℕ) where
  end_small : (stream : List ℕ) (end : End) → length stream < 2 ^ 64 → (frames (messages profile) limit stream).end ≡ end → IsEnd end
  unfolding frames
  end_small stream Boundary few e = tt
  end_small stream (Within present) few e =
      let below = within_below (messages profile) limit (4 + length stream) (length stream) stream (omega arith) in
      let here : present ≤ 4 + length stream = subst (IsCutBelow (4 + length stream)) e below in
      omega (arith, here, few)
  end_small stream (Refused place reason) few e =
      let last = inside.of_stream (messages profile) limit stream place reason e in
      omega (arith, last.inside, ap length last.last.parts, length-append last.last.before last.frame, few)

-- ---- contents of frames
-- those of a frame are octets and a message
abbrev pub IsGood : Profile → (limit : ℕ) → List ℕ → Type 0
IsGood profile limit contents = AreOctets contents × IsMessage (messages profile) limit contents

both_are : (xs ys : List ℕ) → AreOctets (xs ++ ys) → AreOctets xs × AreOctets ys
both_are [] ys are = (tt, are)
both_are (x ∷ xs) ys are = let rest = both_are xs ys are.1 in ((are.0, rest.0), rest.1)

size-first : (first : List ℕ) (contents : List (List ℕ)) → frames_size (first ∷ contents) ≡ length (framed first) + frames_size contents
size-first first contents = sum_by-cons (λ c. 4 + length c) first contents ∙ omega arith

module _ (profile : Profile) (limit : ℕ) where
  good_contents : (contents : List (List ℕ)) (rest : List ℕ) → AreOctets (flat_map framed contents ++ rest) → AllByRecursion (IsMessage (messages profile) limit) contents → AllByRecursion (IsGood profile limit) contents
  good_contents [] rest are each = tt
  good_contents (first ∷ contents) rest are each =
      let all = both_are (framed first ++ flat_map framed contents) rest are in
      let one = both_are (framed first) (flat_map framed contents) all.0 in
      ((one.0.1.1.1.1, each.0), good_contents contents rest (AreOctets-append (flat_map framed contents) rest one.1 all.1) each.1)

  -- how many octets they have, and how many there are
  sized : (contents : List (List ℕ)) → frames_size contents ≡ length (flat_map framed contents)
  sized [] = refl
  sized (first ∷ contents) = omega (arith, size-first first contents, sized contents, length-append (framed first) (flat_map framed contents))

  few_contents : (contents : List (List ℕ)) → length contents ≤ frames_size contents
  few_contents [] = omega arith
  few_contents (first ∷ contents) = omega (arith, size-first first contents, few_contents contents)

  pub record Parsed (stream : List ℕ) : Type 0 where
    pub good : AllByRecursion (IsGood profile limit) (frames (messages profile) limit stream).contents
    pub size : frames_size (frames (messages profile) limit stream).contents ≤ length stream

  pub parsed : (stream : List ℕ) → AreOctets stream → Parsed stream
  parsed stream are =
      let p : IsParse (messages profile) limit stream (frames (messages profile) limit stream) = frames-parse (messages profile) limit stream are in
      let contents : List (List ℕ) = (frames (messages profile) limit stream).contents in
      record {
        good = good_contents contents p.tail (subst AreOctets p.parts are) p.are_messages;
        size = omega (arith, ap length p.parts, length-append (flat_map framed contents) p.tail, sized contents);
      }

-- ---- messages
pub record Premises : Type 0 where
  pub prefix_free : DerIsPrefixFree
  pub narrower : StrictIsNarrower
  pub inside : RefusalsAreInside
  pub message_line_is : MessageIsOneLine
  pub end_line_is : StreamEndIsOneLine
  pub counted_line_is : CountedStreamEndIsOneLine
  pub messages_json : MessagesAreJson
  pub ends_json : EndsAreJson

in_lenient : StrictIsNarrower → (profile : Profile) (m : Message) → IsInProfile profile m → IsInProfile profiles.Lenient m
in_lenient narrower profiles.Lenient m is = is
in_lenient narrower profiles.Strict m is = ((narrower m).0 is).0

module _ (p : Premises) (label : Label) (named : IsNamed label) (profile : Profile) (limit : ℕ) where
  in_profile : (m : Message) → IsGood profile limit (message_der m) → IsInProfile profiles.Lenient m
  in_profile m good =
      let found : AreMessage profile (length (message_der m)) (message_der m) = whole_is_message profile (length (message_der m)) (message_der m) good.1.short good.0 (omega arith) (ap verdict_of good.1.whole) in
      let same : found.message ≡ m = (p.prefix_free found.message m [] [] (ap (λ d. d ++ []) found.form)).0 in
      in_lenient p.narrower profile m (subst (IsInProfile profile) same found.in_profile)

  its_line : (m : Message) → IsGood profile limit (message_der m) → AreLinesOf label.form (message_line label m)
  unfolding message_line its_own_line
  its_line m good =
      a_line label named (shown_record label.form m) (one_in (λ f. shown_record f m) label.form named.0 (p.message_line_is (base_in label.form) m (in_profile m good)))
      (λ json. subst (λ f. PrintsJson (shown_record f m)) (sym json) (subst PrintsJson (sym (shown_json m)) (p.messages_json.message m (in_profile m good))))

  good_messages : (found : List Message) → AllByRecursion (IsGood profile limit) (map message_der found) → AllByRecursion (λ m. IsGood profile limit (message_der m)) found
  good_messages [] are = tt
  good_messages (m ∷ found) are = (are.0, good_messages found are.1)

  message_lines : (found : List Message) → AllByRecursion (IsGood profile limit) (map message_der found) → AreLinesOf label.form (flat_map (message_line label) found)
  message_lines found are = each_line label.form (λ m. IsGood profile limit (message_der m)) (message_line label) its_line found (good_messages found are)

  -- ---- the line of the end
  last_are : (end : End) (octets : List ℕ) → AreOctets octets → AreOctets (last_octets end octets)
  last_are Boundary octets are = tt
  last_are (Within present) octets are = are
  last_are (Refused place reason) octets are = AreOctets-take (place + 1) octets are

  its_end : (stream : List ℕ) (count : ℕ) → AreRead stream → count < 10 ^ 64 → AreLinesOf label.form (end_line label count (end_of profile limit stream) (end_path profile limit stream) (end_extent profile limit stream))
  its_end stream count are small =
      let found : Frames = frames (messages profile) limit stream in
      let after : List ℕ = after_contents found stream in
      let octets = last_are found.end after (AreOctets-drop (frames_size found.contents) stream are.0) in
      let extent = extent_small (frames_size found.contents) (last_octets found.end after) (omega (arith, (parsed profile limit stream are.0).size, are.1)) octets in
      a_line label named (end_record label.form count found.end (end_path profile limit stream) (end_extent profile limit stream)) (one_in (λ f. end_record f count found.end (end_path profile limit stream) (end_extent profile limit stream)) label.form named.0 (p.end_line_is (base_in label.form) count found.end (end_path profile limit stream) (end_extent profile limit stream) (frame_octets profile (last_octets found.end after))))
      (λ json. subst (λ f. PrintsJson (end_record f count found.end (end_path profile limit stream) (end_extent profile limit stream))) (sym json) (p.ends_json.stream count found.end (end_path profile limit stream) (end_extent profile limit stream) small (end_small p.inside profile limit stream found.end are.1 refl) extent))

  as_many : (found : List Message) → length (map message_der found) ≡ length found
  as_many [] = refl
  as_many (m ∷ found) = ap suc (as_many found)

  pub listed : (stream text : List ℕ) → AreRead stream → IsListing label profile limit stream text → AreLinesOf label.form text
  listed stream text are l =
      let parts = parsed profile limit stream are.0 in
      let contents : List (List ℕ) = (frames (messages profile) limit stream).contents in
      let few : length l.found < 10 ^ 64 = omega (arith, as_many l.found, ap length l.in_frames, few_contents profile limit contents, parts.size, are.1) in
      subst (AreLinesOf label.form) (sym l.lines)
      (and_lines label.form (flat_map (message_line label) l.found) _ (message_lines l.found (subst (AllByRecursion (IsGood profile limit)) (sym l.in_frames) parts.good)) (its_end stream (length l.found) are few))

  first_good : (one other : List (List ℕ)) → AllByRecursion (IsGood profile limit) (one ++ other) → AllByRecursion (IsGood profile limit) one
  first_good [] other are = tt
  first_good (c ∷ one) other are = (are.0, first_good one other are.1)

  pub listed_in_part : (stream text : List ℕ) → AreRead stream → AreLines label profile limit stream text → AreLinesOf label.form text
  listed_in_part stream text are l =
      let parts = parsed profile limit stream are.0 in
      subst (AreLinesOf label.form) (sym l.lines) (message_lines l.found (first_good (map message_der l.found) l.others (subst (AllByRecursion (IsGood profile limit)) l.in_frames parts.good)))

-- ---- a stream that goes on after refusals
module _ (inside : RefusalsAreInside) (profile : Profile) (limit : ℕ) where
  -- of a refused frame the octets are octets, and its place is small
  abbrev pub IsGoodEntry : Entry → Type 0
  IsGoodEntry (Contents contents) = IsGood profile limit contents
  IsGoodEntry (Fault place reason prefix) = AreOctets prefix × (place < 10 ^ 64)

  all_contents : (contents : List (List ℕ)) → AllByRecursion (IsGood profile limit) contents → AllByRecursion IsGoodEntry (map Contents contents)
  all_contents [] are = tt
  all_contents (c ∷ contents) are = (are.0, all_contents contents are.1)

  small_place : (end : End) → IsEnd end → (octets : List ℕ) → AreOctets octets → AllByRecursion IsGoodEntry (last_entry end octets)
  small_place Boundary small octets are = tt
  small_place (Within present) small octets are = ((are, small), tt)
  small_place (Refused place reason) small octets are = ((AreOctets-take (place + 1) octets are, small), tt)

  good_after : (end : End) (others : List ℕ → List Entry) (octets : List ℕ) → ((rest : List ℕ) → AreOctets rest → length rest ≤ length octets → AllByRecursion IsGoodEntry (others rest)) → AreOctets octets → AllByRecursion IsGoodEntry (entries_after end others octets)
  good_after Boundary others octets each are = tt
  good_after (Within present) others octets each are = tt
  good_after (Refused place reason) others octets each are = by (nat_le (2 ^ 31) (number (take 4 octets)))
    where
      rest : List ℕ
      rest = drop (4 + number (take 4 octets)) octets

      by : (unknown : Bool) → AllByRecursion IsGoodEntry (if unknown then [] else others rest)
      by true = tt
      by false = each rest (AreOctets-drop (4 + number (take 4 octets)) octets are) (omega (arith, length-drop (4 + number (take 4 octets)) octets))

  pub good_entries : (bound : ℕ) (stream : List ℕ) → AreOctets stream → length stream < 2 ^ 64 → AllByRecursion IsGoodEntry (entries_within bound (messages profile) limit stream)
  good_entries zero stream are few = tt
  good_entries (suc bound) stream are few =
      let found : Frames = frames (messages profile) limit stream in
      let after : List ℕ = after_contents found stream in
      let after_are = AreOctets-drop (frames_size found.contents) stream are in
      all-append IsGoodEntry (map Contents found.contents) (last_entry found.end after ++ entries_after found.end (entries_within bound (messages profile) limit) after) (all_contents found.contents (parsed profile limit stream are).good)
      (all-append IsGoodEntry (last_entry found.end after) (entries_after found.end (entries_within bound (messages profile) limit) after) (small_place found.end (end_small inside profile limit stream found.end few refl) after after_are)
      (good_after found.end (entries_within bound (messages profile) limit) after (λ rest rest_are le. good_entries bound rest rest_are (omega (arith, few, le, length-drop (frames_size found.contents) stream))) after_are))

  -- ---- how many there are
  one_last : (end : End) (octets : List ℕ) → length (last_entry end octets) ≤ 1
  one_last Boundary octets = omega arith
  one_last (Within present) octets = omega arith
  one_last (Refused place reason) octets = omega arith

  few_after : (most : ℕ) (end : End) (others : List ℕ → List Entry) (octets : List ℕ) → ((rest : List ℕ) → AreOctets rest → length rest ≤ length octets → length (others rest) ≤ most) → AreOctets octets → length (entries_after end others octets) ≤ most
  few_after most Boundary others octets each are = omega arith
  few_after most (Within present) others octets each are = omega arith
  few_after most (Refused place reason) others octets each are = by (nat_le (2 ^ 31) (number (take 4 octets)))
    where
      rest : List ℕ
      rest = drop (4 + number (take 4 octets)) octets

      by : (unknown : Bool) → length (if unknown then [] else others rest) ≤ most
      by true = omega arith
      by false = each rest (AreOctets-drop (4 + number (take 4 octets)) octets are) (omega (arith, length-drop (4 + number (take 4 octets)) octets))

  as_contents : (contents : List (List ℕ)) → length (map Contents contents) ≡ length contents
  as_contents [] = refl
  as_contents (c ∷ contents) = ap suc (as_contents contents)

  few_entries : (bound : ℕ) (stream : List ℕ) → AreOctets stream → length stream < 2 ^ 64 → length (entries_within bound (messages profile) limit stream) ≤ bound * 2 ^ 65
  few_entries zero stream are few = omega arith
  few_entries (suc bound) stream are few =
      let found : Frames = frames (messages profile) limit stream in
      let after : List ℕ = after_contents found stream in
      let others = entries_after found.end (entries_within bound (messages profile) limit) after in
      let rest = few_after (bound * 2 ^ 65) found.end (entries_within bound (messages profile) limit) after
      (λ rest rest_are le. few_entries bound rest rest_are (omega (arith, few, le, length-drop (frames_size found.contents) stream))) (AreOctets-drop (frames_size found.contents) stream are) in
      omega (arith, rest, few, one_last found.end after, as_contents found.contents, few_contents profile limit found.contents, (parsed profile limit stream are).size, length-append (map Contents found.contents) (last_entry found.end after ++ others), length-append (last_entry found.end after) others)

-- ---- their lines
few_messages : (found : List Listed) → messages_in found ≤ length found
few_messages [] = omega arith
few_messages (Whole m ∷ found) = omega (arith, few_messages found)
few_messages (Faulty place reason prefix ∷ found) = omega (arith, few_messages found)

few_refused : (found : List Listed) → refused_in found ≤ length found
few_refused [] = omega arith
few_refused (Whole m ∷ found) = omega (arith, few_refused found)
few_refused (Faulty place reason prefix ∷ found) = omega (arith, few_refused found)

as_many_entries : (found : List Listed) → length (map entry_of found) ≡ length found
as_many_entries [] = refl
as_many_entries (l ∷ found) = ap suc (as_many_entries found)

module _ (p : Premises) (label : Label) (named : IsNamed label) (profile : Profile) (limit : ℕ) where
  frame_line : (count offset place : ℕ) (reason : Why) (prefix : List ℕ) → count < 10 ^ 64 → offset < 10 ^ 64 → place < 10 ^ 64 → AreOctets prefix → AreLinesOf label.form (refused_line label count place reason (frame_path profile prefix) (frame_extent offset prefix))
  frame_line count offset place reason prefix count_small offset_small place_small are =
      let extent = extent_small offset prefix offset_small are in
      a_line label named (refused_record label.form count place reason (frame_path profile prefix) (frame_extent offset prefix)) (one_in (λ f. refused_record f count place reason (frame_path profile prefix) (frame_extent offset prefix)) label.form named.0 (p.end_line_is (base_in label.form) count (Refused place reason) (frame_path profile prefix) (frame_extent offset prefix) (frame_octets profile prefix)))
      (λ json. subst (λ f. PrintsJson (refused_record f count place reason (frame_path profile prefix) (frame_extent offset prefix))) (sym json) (p.ends_json.stream count (Refused place reason) (frame_path profile prefix) (frame_extent offset prefix) count_small place_small extent))

  counted_lines : (found : List Listed) (count offset : ℕ) → AllByRecursion (IsGoodEntry p.inside profile limit) (map entry_of found) → count + length found < 10 ^ 64 → offset + 2 ^ 33 * length found < 10 ^ 64 → AreLinesOf label.form (lines_after label profile count offset found)
  counted_lines [] count offset are few fewer = no_lines label.form
  counted_lines (Whole m ∷ found) count offset are few fewer =
      let short : length (message_der m) < 2 ^ 31 = are.0.1.short in
      and_lines label.form (message_line label m) (lines_after label profile (count + 1) (offset + (4 + length (message_der m))) found) (its_line p label named profile limit m are.0)
      (counted_lines found (count + 1) (offset + (4 + length (message_der m))) are.1 (omega (arith, few)) (omega (arith, fewer, short)))
  counted_lines (Faulty place reason prefix ∷ found) count offset are few fewer =
      let size = four_small prefix are.0.0 in
      and_lines label.form (refused_line label count place reason (frame_path profile prefix) (frame_extent offset prefix)) (lines_after label profile count (offset + (4 + number (take 4 prefix))) found)
      (frame_line count offset place reason prefix (omega (arith, few)) (omega (arith, fewer)) are.0.1 are.0.0)
      (counted_lines found count (offset + (4 + number (take 4 prefix))) are.1 (omega (arith, few)) (omega (arith, fewer, size)))

  count_line : (messages refused : ℕ) → messages < 10 ^ 64 → refused < 10 ^ 64 → AreLinesOf label.form (counted_end_line label messages refused)
  count_line messages refused m r = a_line label named (counted_end_record messages refused) (one_in (λ f. counted_end_record messages refused) label.form named.0 (p.counted_line_is (base_in label.form) messages refused)) (λ json. p.ends_json.counted_stream messages refused m r)

  few_found : (stream : List ℕ) (found : List Listed) (others : List Entry) → AreRead stream → entries (messages profile) limit stream ≡ map entry_of found ++ others → length found < 2 ^ 129
  unfolding entries
  few_found stream found others are e =
      omega (arith, are.1, few_entries p.inside profile limit (length stream) stream are.0 are.1, ap length e, length-append (map entry_of found) others, as_many_entries found)

  first_entries : (one other : List Entry) → AllByRecursion (IsGoodEntry p.inside profile limit) (one ++ other) → AllByRecursion (IsGoodEntry p.inside profile limit) one
  first_entries [] other are = tt
  first_entries (e ∷ one) other are = (are.0, first_entries one other are.1)

  pub counted_in_part : (stream text : List ℕ) → AreRead stream → AreCountedLines label profile limit stream text → AreLinesOf label.form text
  unfolding entries
  counted_in_part stream text are l =
      let few = few_found stream l.found l.others are l.in_frames in
      let good = subst (AllByRecursion (IsGoodEntry p.inside profile limit)) l.in_frames (good_entries p.inside profile limit (length stream) stream are.0 are.1) in
      subst (AreLinesOf label.form) (sym l.lines) (counted_lines l.found 0 0 (first_entries (map entry_of l.found) l.others good) (omega (arith, few)) (omega (arith, few)))

  pub counted : (stream text : List ℕ) → AreRead stream → IsCountedListing label profile limit stream text → AreLinesOf label.form text
  counted stream text are l =
      let few = few_found stream l.found [] are (sym l.in_frames ∙ sym (append-nil (map entry_of l.found))) in
      let lines = counted_in_part stream (lines_after label profile 0 0 l.found) are (record { found = l.found; others = []; in_frames = sym l.in_frames ∙ sym (append-nil (map entry_of l.found)); lines = refl }) in
      subst (AreLinesOf label.form) (sym l.lines)
      (and_lines label.form (lines_after label profile 0 0 l.found) (counted_end_line label (messages_in l.found) (refused_in l.found)) lines (count_line (messages_in l.found) (refused_in l.found) (omega (arith, few, few_messages l.found)) (omega (arith, few, few_refused l.found))))

pub streams_are_lines : Premises → StreamsAreLines
streams_are_lines p = record {
  whole = λ label profile limit stream text named. listed p label named profile limit stream text;
  part = λ label profile limit stream text named. listed_in_part p label named profile limit stream text;
  counted = λ label profile limit stream text named. counted p label named profile limit stream text;
  counted_part = λ label profile limit stream text named. counted_in_part p label named profile limit stream text;
}
