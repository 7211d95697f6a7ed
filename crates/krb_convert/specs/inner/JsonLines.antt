-- What the lines of messages are that are written as JSON.
use Rattle.std.specs.Prelude.{ℕ, ◌≡◌, ◌+◌, ◌≤◌, ◌<◌, ◌^◌, false, List, [], ◌∷◌, ◌++◌, length, Option, Some, None, IsSome, string_bytes}
use Rattle.std.specs.Option.{option_map}
use Rattle.krb_der.specs.declared.profile.Profile.{Profile}
use Rattle.krb_msg.specs.Views.{message_der, message_of_der, IsInProfile}
use Rattle.krb_frame.specs.Deliveries.{contents_in}
use Rattle.krb_frame.specs.GoingOn.{Entry, Contents, Fault}
use Rattle.krb_json.specs.Lines.{line_of}
use Rattle.krb_json.specs.Unencrypted.{unencrypted_in}
use Rattle.krb_run.specs.Conversions.{Converted, after_text}
use Rattle.krb_convert.specs.Decoding.{Ending, Unencrypted, decoded, lines_after, GoesOn, ending_of}
use Rattle.krb_run.specs.ConversionRules.{conversion_rules}
use Rattle.krb_tool.specs.inner.Listers.{LinesKind}
use Rattle.krb_convert.specs.declared.decode_run.DecodeEnd.{DecodeEnd}
use Rattle.krb_convert.specs.declared.json_lines.DecodeRequest.{DecodeRequest}
use Rattle.krb_convert.specs.declared.json_lines.JsonLines.{JsonLines}

-- ---- a message
-- octets are the DER of a message of a profile
pub record IsOfMessage (profile : Profile) (octets : List ℕ) : Type 0 where
  pub in_profile : IsInProfile profile (message_of_der octets)
  pub form : message_der (message_of_der octets) ≡ octets

-- the line of the message that octets are
abbrev pub octets_line : List ℕ → List ℕ
octets_line octets = line_of (message_of_der octets)

-- The line of a message was added, and it is counted, unless there are too many.
pub record AddsLine (octets : List ℕ) (old new : JsonLines) : Type 0 where
  pub text : new.text.items ≡ old.text.items ++ octets_line octets
  pub messages : old.messages + 1 < 2 ^ 64 → new.messages ≡ old.messages + 1
  pub few : new.messages ≤ old.messages + 1
  pub same : new.unencrypted ≡ old.unencrypted

-- The path was kept at which a message is not encrypted, and nothing else changed.
pub record KeepsPath (path : List ℕ) (old new : JsonLines) : Type 0 where
  pub kept : option_map string_bytes new.unencrypted ≡ Some path
  pub text : new.text.items ≡ old.text.items
  pub messages : new.messages ≡ old.messages

abbrev pub PutsBy : (unencrypted : Option (List ℕ)) → List ℕ → JsonLines → JsonLines → Type 0
PutsBy None octets old new = AddsLine octets old new
PutsBy (Some path) octets old new = KeepsPath path old new

abbrev pub PutsLine : List ℕ → JsonLines → JsonLines → Type 0
PutsLine octets old new = PutsBy (unencrypted_in (message_of_der octets)) octets old new

-- ---- the frames of a stream
-- the lines of other contents, after a number of messages, and of how the stream ends: none after a message that is not encrypted
abbrev pub rest_by : (unencrypted : Option (List ℕ)) → (messages : ℕ) → (contents : List (List ℕ)) → Ending → Converted Ending
rest_by None messages contents end = lines_after messages contents end
rest_by (Some path) messages contents end = record { text = []; end = Unencrypted (messages + 1) path }

abbrev pub rest_of : JsonLines → (contents : List (List ℕ)) → Ending → Converted Ending
rest_of lines contents end = rest_by (option_map string_bytes lines.unencrypted) lines.messages contents end

-- the message of the next frame was received
pub record ReceivesMessage (octets : List ℕ) (old new : JsonLines) : Type 0 where
  pub added : List ℕ
  pub text : new.text.items ≡ old.text.items ++ added
  pub rest : old.messages + 1 < 2 ^ 64 → (contents : List (List ℕ)) (end : Ending) → rest_of old (octets ∷ contents) end ≡ after_text added (rest_of new contents end)
  pub counted : old.messages + 1 < 2 ^ 64 → new.unencrypted ≡ None → (old.unencrypted ≡ None) × (new.messages ≡ old.messages + 1)
  pub few : new.messages ≤ old.messages + 1

-- nothing is written of a frame that is refused
abbrev pub ReceivesEntry : JsonLines → Entry → JsonLines → Type 0
ReceivesEntry old (Contents contents) new = ReceivesMessage contents old new
ReceivesEntry old (Fault place reason prefix) new = new ≡ old

-- These frames are listed. Whatever frames follow, their lines are what was written and then the text, and then those of the others.
pub record HasLines (profile : Profile) (lines : JsonLines) (frames : List Entry) (written : List ℕ) : Type 0 where
  pub goes_on : (contents : List (List ℕ)) (end : Ending) → lines_after 0 (contents_in frames ++ contents) end ≡ after_text (written ++ lines.text.items) (rest_of lines contents end)
  pub counted : lines.unencrypted ≡ None → lines.messages ≡ length (contents_in frames)

abbrev pub json_lines : LinesKind JsonLines DecodeRequest DecodeEnd
json_lines = record {
  rules = λ request. conversion_rules (decoded request.profile request.limit) (λ octets. (decoded request.profile request.limit octets).text) (GoesOn request.profile request.limit) ending_of;
  request = λ lines profile limit. record { profile = profile; limit = limit };
  keeps_going = λ lines. false;
  text = λ lines. lines.text.items;
  count = λ lines. lines.messages;
  size = λ lines. 0;
  Receives = ReceivesEntry;
  IsFull = λ lines. IsSome lines.unencrypted;
  HasLines = HasLines;
  AsksAfter = λ request octets. GoesOn request.profile request.limit octets;
}
