-- What a lister of lines does with a text.
use Rattle.std.specs.Prelude.{ℕ, ◌≡◌, ◌+◌, ◌≤◌, List, ◌∷◌, ◌++◌, length, take}
use Rattle.krb_run.specs.Conversions.{Converted, after_text}
use Rattle.krb_tool.specs.MessageLines.{end_of, none_seen, records_of, with_line}
use Rattle.krb_tool.specs.declared.lines_run.LineLister.{LineLister}
use Rattle.krb_tool.specs.declared.lines_run.LinesRequest.{LinesRequest}
use Rattle.krb_tool.specs.declared.lines_run.Seen.{Seen}
use Rattle.krb_run.specs.declared.run.RunEnd.{RunEnd}
use Rattle.krb_run.specs.LineReaders.{LineKind}

-- so many octets of a line decide its record
abbrev pub kept_octets : ℕ
kept_octets = 16777217

abbrev pub records_from : LinesRequest → Seen → List (List ℕ) → Converted Seen
records_from request seen lines = records_of request.label.now request.profile seen lines

-- The record of the line was added and counted, if it has one.
pub record PutsLine (old new : LineLister) : Type 0 where
  pub added : List ℕ
  pub text : new.text ≡ old.text ++ added
  pub line : new.line ≡ old.line
  pub size : new.size ≡ old.size
  pub request : new.request ≡ old.request
  pub octets : new.seen.octets ≡ old.seen.octets
  pub lines : new.seen.lines ≡ old.seen.lines
  pub few : new.seen.messages + new.seen.refused ≤ old.seen.messages + old.seen.refused + 1
  pub step : (line : List ℕ) (more : List (List ℕ)) → old.line.items ≡ take kept_octets line → records_from old.request old.seen (line ∷ more) ≡ after_text added (records_from old.request (with_line new.seen (length line)) more)

-- what was counted is no more than the octets that came
pub record IsCounted (lister : LineLister) : Type 0 where
  pub lines : lister.seen.lines ≤ lister.seen.octets
  pub records : lister.seen.messages + lister.seen.refused ≤ lister.seen.lines

-- the first octets of a line are kept, and all are counted
pub record Keeps (lister : LineLister) (line : List ℕ) : Type 0 where
  pub kept : lister.line.items ≡ take kept_octets line
  pub size : lister.size ≡ length line

-- no line ends a run, however long it is
abbrev pub message_lines : LineKind LineLister
message_lines = record {
  Request = LinesRequest;
  End = RunEnd;
  Ending = RunEnd;
  ending_of = λ end. end;
  Seen = Seen;
  IsNoFault = λ seen. Unit {0};
  all = λ request lines. records_from request none_seen lines;
  rest = λ lister lines. records_from lister.request lister.seen lines;
  close = λ request seen. end_of request.label.now seen;
  request = λ lister. lister.request;
  text = λ lister. lister.text;
  count = λ lister. lister.seen.octets + lister.size;
  Holds = Keeps;
  IsOpen = IsCounted;
  IsShort = λ request line. Unit {0};
}
