-- What the lines of a stream are, up to its end or its first refusal, or also after refusals.
use Rattle.std.specs.Prelude.{ℕ, zero, suc, ◌≡◌, ◌+◌, ◌<◌, ◌^◌, ◌⊎◌, ◌==◌, ◌&&◌, ◌||◌, length, Bool, true, false, List, [], ◌∷◌, ◌++◌, map, Option, Result, Ok, Err}
use Rattle.std.specs.Io.KnownBytes.{IsAtEnd}
use Rattle.krb_der.specs.declared.profile.Profile.{Profile}
use Rattle.krb_der.specs.declared.verdict.Refusal.{Refusal}
use Rattle.krb_msg.specs.Grammar.{messages as grammar}
use Rattle.krb_frame.specs.Decoding.{finish_of}
use Rattle.krb_frame.specs.GoingOn.{Entry, entries, entry_size}
use Rattle.krb_record.specs.Labels.{Label, line_of}
use Rattle.krb_record.specs.Streams.{stream_end_record}
use Rattle.krb_tool.specs.Paths.{frame_extent, frame_path}
use Rattle.krb_tool.specs.Listing.{end_of, run_end, IsListing, AllIsRead, AreAllLines, AreLines, IsNotRefused}
use Rattle.krb_run.specs.Runs.{StopsInPiece}
use Rattle.krb_tool.specs.GoingOn.{Listed, Faulty, counted_end_line, entry_of, is_refused_at_once, messages_in, refused_in, refused_line, lines_after, IsCountedListing, AreAllCountedLines, AreCountedLines, EndsUnknown, counted_run_end, octets_in}
use Rattle.krb_tool.specs.inner.Listers.{FrameLister, IsDecoded, LinesKind}
use Rattle.krb_run.specs.Streams.{Rules}
use Rattle.krb_tool.specs.declared.listing.StreamLines.{StreamLines}
use Rattle.krb_run.specs.declared.run.RunEnd.{RunEnd}
use Rattle.krb_tool.specs.declared.listing.Request.{Request}

-- the first frame is refused, if these follow those that are counted
abbrev pub at_once_with : StreamLines → List Listed → Bool
at_once_with lines others = lines.is_refused_at_once || ((lines.messages == 0 && lines.refused == 0) && is_refused_at_once others)

-- The line of a frame was added. The frame is counted, with its octets, unless there are too many.
pub record ListsEntry (old : StreamLines) (entry : Entry) (new : StreamLines) : Type 0 where
  pub listed : Listed
  pub is_entry : entry_of listed ≡ entry
  pub decoded : IsDecoded entry
  pub line : new.text ≡ old.text ++ lines_after old.request.label.now old.request.profile old.messages old.offset (listed ∷ [])
  pub messages : old.messages + 1 < 2 ^ 64 → new.messages ≡ old.messages + messages_in (listed ∷ [])
  pub refused : old.refused + 1 < 2 ^ 64 → new.refused ≡ old.refused + refused_in (listed ∷ [])
  pub at_once : new.is_refused_at_once ≡ at_once_with old (listed ∷ [])
  pub offset : old.offset + entry_size entry < 2 ^ 64 → new.offset ≡ old.offset + entry_size entry
  pub same : new.request ≡ old.request

-- the line was added of a frame that is refused or cut, with these octets of it
pub record AddsRefused (profile : Profile) (refusal : Refusal) (octets : List ℕ) (old new : StreamLines) : Type 0 where
  pub line : new.text ≡ old.text ++ refused_line old.request.label.now old.messages refusal.place refusal.why (frame_path profile octets) (frame_extent old.offset octets)
  pub messages : new.messages ≡ old.messages
  pub refused : old.refused + 1 < 2 ^ 64 → new.refused ≡ old.refused + 1
  pub at_once : new.is_refused_at_once ≡ (old.is_refused_at_once || (old.messages == 0 && old.refused == 0))
  pub offset : new.offset ≡ old.offset
  pub same : new.request ≡ old.request

-- the last line: if refused frames are counted, with their number, and else that of a stream without any
abbrev pub closing : Bool → Label → (messages refused : ℕ) → List ℕ
closing true label messages refused = counted_end_line label messages refused
closing false label messages zero = line_of label (stream_end_record messages)
closing false label messages (suc refused) = []

-- it was added
pub record PutsClosing (old new : StreamLines) (ended : RunEnd) : Type 0 where
  pub line : new.text ≡ old.text ++ closing old.request.keep_going old.request.label.now old.messages old.refused
  pub ended_so : ended ≡ counted_run_end old.is_refused_at_once old.refused

-- frames are listed as messages of a profile: their lines are in what was written and then in the text, and they and their octets are counted
pub record HasLines (profile : Profile) (lines : StreamLines) (frames : List Entry) (written : List ℕ) : Type 0 where
  pub listed : List Listed
  pub are : map entry_of listed ≡ frames
  pub same_profile : lines.request.profile ≡ profile
  pub text : written ++ lines.text ≡ lines_after lines.request.label.now profile 0 0 listed
  pub messages : lines.messages ≡ messages_in listed
  pub refused : lines.refused ≡ refused_in listed
  pub at_once : lines.is_refused_at_once ≡ is_refused_at_once listed
  pub offset : lines.offset ≡ octets_in listed

-- what is listed of the end of a stream, if the frame is refused or cut in which it ends, with the octets of that frame
abbrev pub last_listed : Result (Unit {0}) Refusal → List ℕ → List Listed
last_listed (Ok done) octets = []
last_listed (Err refusal) octets = Faulty refusal.place refusal.why octets ∷ []

abbrev pub listed_last : FrameLister StreamLines → List Listed
listed_last lister = last_listed (finish_of (grammar lister.decoder.current.profile) lister.decoder.current) lister.decoder.current.octets

-- the lines of the end were added
pub record AddsEnd (old : FrameLister StreamLines) (new : StreamLines) (ended : RunEnd) : Type 0 where
  pub lines : new.text ≡ old.lines.text ++ (lines_after old.lines.request.label.now old.decoder.current.profile old.lines.messages old.lines.offset (listed_last old) ++ closing old.lines.request.keep_going old.lines.request.label.now old.lines.messages (old.lines.refused + refused_in (listed_last old)))
  pub ended_so : ended ≡ counted_run_end (at_once_with old.lines (listed_last old)) (old.lines.refused + refused_in (listed_last old))

-- ---- runs
-- after these octets others are read
abbrev pub AsksAfter : Bool → Profile → ℕ → List ℕ → Type 0
AsksAfter true profile limit octets = EndsUnknown (entries (grammar profile) limit octets) → ⊥
AsksAfter false profile limit octets = IsNotRefused (end_of profile limit octets)

-- how a run ends that listed octets and so many messages of them, up to the end or the first refusal
pub record EndsAt (profile : Profile) (limit : ℕ) (octets : List ℕ) (messages : ℕ) (left : Option (List ℕ)) (ended : RunEnd) : Type 0 where
  pub ended_so : ended ≡ run_end messages (end_of profile limit octets)
  pub all_read : AllIsRead (end_of profile limit octets) left
  pub stops : StopsInPiece (AsksAfter false profile limit) octets

-- and also after refusals
pub record EndsAfter (profile : Profile) (limit : ℕ) (octets : List ℕ) (listed : List Listed) (left : Option (List ℕ)) (ended : RunEnd) : Type 0 where
  pub ended_so : ended ≡ counted_run_end (is_refused_at_once listed) (refused_in listed)
  pub all_read : IsAtEnd left ⊎ EndsUnknown (entries (grammar profile) limit octets)
  pub stops : StopsInPiece (AsksAfter true profile limit) octets

abbrev pub rules_of : (keep_going : Bool) → Label → Profile → (limit : ℕ) → Rules RunEnd
rules_of true label profile limit = record {
  IsListing = IsCountedListing label profile limit;
  AreLines = AreCountedLines label profile limit;
  AreAllLines = AreAllCountedLines label profile limit;
  Ends = λ octets text listing left ended. EndsAfter profile limit octets listing.found left ended;
}
rules_of false label profile limit = record {
  IsListing = IsListing label profile limit;
  AreLines = AreLines label profile limit;
  AreAllLines = AreAllLines label profile limit;
  Ends = λ octets text listing left ended. EndsAt profile limit octets (length listing.found) left ended;
}

abbrev pub stream_lines : LinesKind StreamLines Request RunEnd
stream_lines = record {
  rules = λ request. rules_of request.keep_going request.label.now request.profile request.limit;
  request = λ lines profile limit. record { label = lines.request.label; profile = profile; limit = limit; keep_going = lines.request.keep_going };
  keeps_going = λ lines. lines.request.keep_going;
  text = λ lines. lines.text;
  count = λ lines. lines.messages + lines.refused;
  size = λ lines. lines.offset;
  Receives = ListsEntry;
  IsFull = λ lines. ⊥;
  HasLines = HasLines;
  AsksAfter = λ request octets. AsksAfter request.keep_going request.profile request.limit octets;
}
