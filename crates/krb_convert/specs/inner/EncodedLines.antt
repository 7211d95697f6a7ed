-- What a reader of lines does with a stream.
use Rattle.std.specs.Prelude.{ℕ, ◌≡◌, ◌+◌, ◌≤◌, length, IsSome, Bool, true, false, List, [], ◌∷◌, ◌++◌, Option, Some, None}
use Rattle.std.specs.Option.{option_map}
use Rattle.krb_json.specs.Reading.{line_fault_of}
use Rattle.krb_json.specs.declared.line_fault.LineFault.{LineFault}
use Rattle.krb_run.specs.Conversions.{Converted, after_text}
use Rattle.krb_convert.specs.Encoding.{Ending, ending_of, line_spelled, message_and, most_of_line, encoded_lines, IsNoFault}
use Rattle.krb_convert.specs.declared.encode_run.EncodeEnd.{EncodeEnd}
use Rattle.krb_convert.specs.declared.json_reader.EncodeRequest.{EncodeRequest}
use Rattle.krb_convert.specs.declared.json_reader.JsonReader.{JsonReader}
use Rattle.krb_run.specs.LineReaders.{LineKind}

-- ---- a line
abbrev pub encoded_from : EncodeRequest → (number : ℕ) → (came : Bool) → List (List ℕ) → Converted Ending
encoded_from request number came lines = encoded_lines request.is_framed request.profile request.limit number came lines

-- the message of a line, before others
abbrev pub read_and : EncodeRequest → (number : ℕ) → List ℕ → Converted Ending → Converted Ending
read_and request number line others = message_and request.is_framed number (line_spelled request.is_framed request.profile request.limit line) others

-- a fault was found, and is this one
pub record IsFound (fault found : LineFault) : Type 0 where
  pub same : found ≡ fault
  pub some : IsSome (line_fault_of fault)

-- other lines, of which the first has a number: none after one that is at fault
abbrev pub rest_by : (fault : Option Ending) → EncodeRequest → (number : ℕ) → (came : Bool) → List (List ℕ) → Converted Ending
rest_by None request number came lines = encoded_from request number came lines
rest_by (Some ending) request number came lines = record { text = []; end = ending }

abbrev pub rest_of : JsonReader → List (List ℕ) → Converted Ending
rest_of reader lines = rest_by (option_map ending_of reader.fault) reader.request (reader.lines + 1) reader.came lines

-- the line is not at fault, or its fault is kept
abbrev pub KeepsFault : JsonReader → Bool → Type 0
KeepsFault new true = new.fault ≡ None
KeepsFault new false = (ending : Ending) × (option_map ending_of new.fault ≡ Some ending) × (IsNoFault ending → ⊥)

-- The line was read, which is not counted yet.
pub record TakesLine (old new : JsonReader) (is_read : Bool) : Type 0 where
  pub added : List ℕ
  pub text : new.text.items ≡ old.text.items ++ added
  pub request : new.request ≡ old.request
  pub lines : new.lines ≡ old.lines
  pub step : (more : List (List ℕ)) → encoded_from old.request (old.lines + 1) old.came (old.line.items ∷ more) ≡ after_text added (rest_by (option_map ending_of new.fault) old.request (old.lines + 1 + 1) new.came more)
  pub fault : KeepsFault new is_read

abbrev pub json_reading : LineKind JsonReader
json_reading = record {
  Request = EncodeRequest;
  End = EncodeEnd;
  Ending = Ending;
  ending_of = ending_of;
  Seen = Ending;
  IsNoFault = IsNoFault;
  all = λ request lines. encoded_from request 1 false lines;
  rest = rest_of;
  close = λ request ending. record { text = []; end = ending };
  request = λ reader. reader.request;
  text = λ reader. reader.text.items;
  count = λ reader. reader.lines;
  Holds = λ reader line. reader.line.items ≡ line;
  IsOpen = λ reader. (reader.fault ≡ None) × (length reader.line.items ≤ most_of_line reader.request.limit);
  IsShort = λ request line. length line ≤ most_of_line request.limit;
}
