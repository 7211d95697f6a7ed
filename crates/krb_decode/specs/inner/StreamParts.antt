-- What the lines of a stream are that is decoded and goes on after what is refused.
use Rattle.std.specs.Prelude.{ℕ, ◌≡◌, ◌+◌, ◌<◌, ◌^◌, ◌⊎◌, ◌==◌, ◌&&◌, ◌||◌, Bool, true, List, [], ◌∷◌, ◌++◌, map, Option, Result, Ok, Err}
use Rattle.std.specs.Io.KnownBytes.{IsAtEnd}
use Rattle.krb_der.specs.declared.profile.Profile.{Profile}
use Rattle.krb_der.specs.declared.verdict.Refusal.{Refusal}
use Rattle.krb_msg.specs.Grammar.{messages as grammar}
use Rattle.krb_frame.specs.Decoding.{finish_of}
use Rattle.krb_frame.specs.GoingOn.{Entry, entries, entry_size}
use Rattle.krb_run.specs.Runs.{StopsInPiece}
use Rattle.krb_run.specs.Streams.{Rules}
use Rattle.krb_run.specs.declared.run.RunEnd.{RunEnd}
use Rattle.krb_tool.specs.GoingOn.{EndsUnknown, Faulty, Listed, counted_run_end, entry_of, is_refused_at_once, messages_in, octets_in, refused_in, refused_line}
use Rattle.krb_tool.specs.Paths.{frame_extent, frame_path}
use Rattle.krb_tool.specs.inner.Listers.{FrameLister, IsDecoded as IsDecodedEntry, LinesKind}
use Rattle.krb_decode.specs.Streams.{AreAllParts, AreParts, IsDecoded, end_part, named, parts_after}
use Rattle.krb_decode.specs.declared.stream.StreamParts.{StreamParts}
use Rattle.krb_decode.specs.declared.stream.StreamRequest.{StreamRequest}

-- the first frame is refused, if these follow those that are counted
abbrev pub at_once_with : StreamParts → List Listed → Bool
at_once_with lines others = lines.is_refused_at_once || ((lines.messages == 0 && lines.refused == 0) && is_refused_at_once others)

-- The line of a frame was added. The frame is counted, with its octets, unless there are too many.
pub record AddsEntry (old : StreamParts) (entry : Entry) (new : StreamParts) : Type 0 where
  pub listed : Listed
  pub is_entry : entry_of listed ≡ entry
  pub decoded : IsDecodedEntry entry
  pub line : old.messages + 1 < 2 ^ 64 → new.text ≡ old.text ++ parts_after old.profile old.messages old.offset (listed ∷ [])
  pub messages : old.messages + 1 < 2 ^ 64 → new.messages ≡ old.messages + messages_in (listed ∷ [])
  pub refused : old.refused + 1 < 2 ^ 64 → new.refused ≡ old.refused + refused_in (listed ∷ [])
  pub at_once : new.is_refused_at_once ≡ at_once_with old (listed ∷ [])
  pub offset : old.offset + entry_size entry < 2 ^ 64 → new.offset ≡ old.offset + entry_size entry
  pub same : new.profile ≡ old.profile

-- the line was added of a frame that is refused or cut, with these octets of it
pub record AddsRefused (refusal : Refusal) (octets : List ℕ) (old new : StreamParts) : Type 0 where
  pub line : new.text ≡ old.text ++ refused_line named old.messages refusal.place refusal.why (frame_path old.profile octets) (frame_extent old.offset octets)
  pub messages : new.messages ≡ old.messages
  pub refused : old.refused + 1 < 2 ^ 64 → new.refused ≡ old.refused + 1
  pub at_once : new.is_refused_at_once ≡ (old.is_refused_at_once || (old.messages == 0 && old.refused == 0))
  pub offset : new.offset ≡ old.offset
  pub same : new.profile ≡ old.profile

-- what was counted was added
pub record PutsEnd (old new : StreamParts) (ended : RunEnd) : Type 0 where
  pub line : new.text ≡ old.text ++ end_part old.messages old.refused
  pub ended_so : ended ≡ counted_run_end old.is_refused_at_once old.refused

-- frames are decoded as messages of a profile: their lines are in what was written and then in the text, and they and their octets are counted
pub record HasLines (profile : Profile) (lines : StreamParts) (frames : List Entry) (written : List ℕ) : Type 0 where
  pub listed : List Listed
  pub are : map entry_of listed ≡ frames
  pub same_profile : lines.profile ≡ profile
  pub text : written ++ lines.text ≡ parts_after profile 0 0 listed
  pub messages : lines.messages ≡ messages_in listed
  pub refused : lines.refused ≡ refused_in listed
  pub at_once : lines.is_refused_at_once ≡ is_refused_at_once listed
  pub offset : lines.offset ≡ octets_in listed

-- what is found at the end of a stream, if the frame is refused or cut in which it ends, with the octets of that frame
abbrev pub last_listed : Result (Unit {0}) Refusal → List ℕ → List Listed
last_listed (Ok done) octets = []
last_listed (Err refusal) octets = Faulty refusal.place refusal.why octets ∷ []

abbrev pub listed_last : FrameLister StreamParts → List Listed
listed_last lister = last_listed (finish_of (grammar lister.decoder.current.profile) lister.decoder.current) lister.decoder.current.octets

-- the lines of the end were added
pub record AddsEnd (old : FrameLister StreamParts) (new : StreamParts) (ended : RunEnd) : Type 0 where
  pub lines : new.text ≡ old.lines.text ++ (parts_after old.lines.profile old.lines.messages old.lines.offset (listed_last old) ++ end_part old.lines.messages (old.lines.refused + refused_in (listed_last old)))
  pub ended_so : ended ≡ counted_run_end (at_once_with old.lines (listed_last old)) (old.lines.refused + refused_in (listed_last old))

-- how a run ends that decoded octets
pub record EndsAfter (profile : Profile) (limit : ℕ) (octets : List ℕ) (listed : List Listed) (left : Option (List ℕ)) (ended : RunEnd) : Type 0 where
  pub ended_so : ended ≡ counted_run_end (is_refused_at_once listed) (refused_in listed)
  pub all_read : IsAtEnd left ⊎ EndsUnknown (entries (grammar profile) limit octets)
  pub stops : StopsInPiece (λ prefix. EndsUnknown (entries (grammar profile) limit prefix) → ⊥) octets

abbrev pub rules_of : Profile → (limit : ℕ) → Rules RunEnd
rules_of profile limit = record {
  IsListing = IsDecoded profile limit;
  AreLines = AreParts profile limit;
  AreAllLines = AreAllParts profile limit;
  Ends = λ octets text listing left ended. EndsAfter profile limit octets listing.found left ended;
}

abbrev pub stream_parts : LinesKind StreamParts StreamRequest RunEnd
stream_parts = record {
  rules = λ request. rules_of request.profile request.limit;
  request = λ lines profile limit. record { profile = profile; limit = limit };
  keeps_going = λ lines. true;
  text = λ lines. lines.text;
  count = λ lines. lines.messages + lines.refused;
  size = λ lines. lines.offset;
  Receives = AddsEntry;
  IsFull = λ lines. ⊥;
  HasLines = HasLines;
  AsksAfter = λ request octets. EndsUnknown (entries (grammar request.profile) request.limit octets) → ⊥;
}
