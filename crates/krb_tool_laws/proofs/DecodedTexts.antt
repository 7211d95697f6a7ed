-- What is decoded is lines of JSON.
use Rattle.std.proofs.Common.{◌≡◌, ℕ, ◌+◌, ◌⊎◌, inl, inr, true, false, List, [], ◌∷◌, ◌++◌, length, Option, Some, None, refl, sym, ap, subst, arith}
use Rattle.std.specs.Prelude.{nat_lt}
use Rattle.std.specs.List.{AllByRecursion, flat_map}
use Rattle.std.proofs.lemmas.Bool.{cases_Bool}
use Rattle.krb_der.specs.Octets.{AreOctets}
use Rattle.krb_der.specs.declared.profile.Profile.{Profile}
use Rattle.krb_der.specs.declared.verdict.Refusal.{Refusal}
use Rattle.krb_msg.specs.Grammar.{messages}
use Rattle.krb_msg.specs.Judgement.{verdict_of}
use Rattle.krb_msg.specs.Stream.{Frames, frames}
use Rattle.krb_msg.specs.Views.{message_of_der, IsInProfile}
use Rattle.krb_msg.proofs.Judged.{whole_is_message}
use Rattle.krb_msg.proofs.Streams.{IsMessage, IsParse, frames-parse}
use Rattle.krb_frame.specs.Frame.{framed}
use Rattle.krb_judge.specs.Parses.{refusal_of}
use Rattle.krb_judge.proofs.Slices.{message_in}
use Rattle.krb_json.specs.Laws.{TextsAreJson}
use Rattle.krb_json.specs.Lines.{line_of}
use Rattle.krb_json.specs.Unencrypted.{unencrypted_in}
use Rattle.krb_run.specs.Conversions.{Converted}
use Rattle.krb_convert.specs.Decoding.{Ending, All, ending_at, line_and, lines_after, message_decoded, decoded, decoded_whole}
use Rattle.krb_convert.specs.Laws.{AreLines, DecodedIsLines}
use Rattle.krb_tool.specs.Paths.{found_path}
use Rattle.krb_convert.proofs.DecodedFrames.{of_message}
use Rattle.krb_tool_laws.proofs.RoundTrips.{both_are}
use Rattle.krb_convert.proofs.WholeRuns.{whole-long, whole-short}

no_lines : AreLines []
no_lines = record { those = []; each = tt; form = refl }

-- ---- octets that are a message
all_in_profile : (profile : Profile) (limit : ℕ) (contents : List (List ℕ)) → AreOctets (flat_map framed contents) → AllByRecursion (IsMessage (messages profile) limit) contents → AllByRecursion (λ octets. IsInProfile profile (message_of_der octets)) contents
all_in_profile profile limit [] are each = tt
all_in_profile profile limit (octets ∷ contents) are each =
    let one = both_are (framed octets) (flat_map framed contents) are in
    ((of_message profile octets (whole_is_message profile (length octets) octets each.0.short one.0.1.1.1.1 (omega arith) (ap verdict_of each.0.whole))).in_profile, all_in_profile profile limit contents one.1 each.1)

-- ---- its line before others
module _ (json : TextsAreJson) (profile : Profile) where
  line-first : (number : ℕ) (octets : List ℕ) (unencrypted : Option (List ℕ)) (others : Converted Ending) → IsInProfile profile (message_of_der octets) → AreLines others.text → AreLines (line_and number octets unencrypted others).text
  line-first number octets None others p rest = record {
    those = message_of_der octets ∷ rest.those;
    each = (json profile (message_of_der octets) p, rest.each);
    form = ap (λ text. line_of (message_of_der octets) ++ text) rest.form;
  }
  line-first number octets (Some path) others p rest = no_lines

  lines-first : (before : ℕ) (contents : List (List ℕ)) (end : Ending) → AllByRecursion (λ octets. IsInProfile profile (message_of_der octets)) contents → AreLines (lines_after before contents end).text
  lines-first before [] end each = no_lines
  lines-first before (octets ∷ contents) end each =
      line-first (before + 1) octets (unencrypted_in (message_of_der octets)) (lines_after (before + 1) contents end) each.0 (lines-first (before + 1) contents end each.1)

  stream-lines : (limit : ℕ) (stream : List ℕ) → AreOctets stream → IsParse (messages profile) limit stream (frames (messages profile) limit stream) → AreLines (decoded profile limit stream).text
  unfolding decoded
  stream-lines limit stream are parse =
      let found : Frames = frames (messages profile) limit stream in
      let octets = both_are (flat_map framed found.contents) parse.tail (subst AreOctets parse.parts are) in
      lines-first 0 found.contents (ending_at (length found.contents) found.end (found_path profile found stream)) (all_in_profile profile limit found.contents octets.0 parse.are_messages)

  message-lines : (octets : List ℕ) (found : Option Refusal) → AreOctets octets → refusal_of profile octets ≡ found → AreLines (message_decoded profile octets found).text
  message-lines octets None are none = line-first 1 octets (unencrypted_in (message_of_der octets)) (record { text = []; end = All }) (of_message profile octets (message_in profile octets are none)).in_profile no_lines
  message-lines octets (Some refusal) are some = no_lines

  whole-lines : (limit : ℕ) (octets : List ℕ) → AreOctets octets → (nat_lt limit (length octets) ≡ true) ⊎ (nat_lt limit (length octets) ≡ false) → AreLines (decoded_whole profile limit octets).text
  whole-lines limit octets are (inl long) = subst (λ c. AreLines c.text) (sym (whole-long profile limit octets long)) no_lines
  whole-lines limit octets are (inr short) = subst (λ c. AreLines c.text) (sym (whole-short profile limit octets (refusal_of profile octets) short refl)) (message-lines octets (refusal_of profile octets) are refl)

pub decoded_is_lines : TextsAreJson → DecodedIsLines
decoded_is_lines json = record {
  streams = λ profile limit stream are. stream-lines json profile limit stream are (frames-parse (messages profile) limit stream are);
  messages = λ profile limit octets are. whole-lines json profile limit octets are (cases_Bool (nat_lt limit (length octets)));
}
