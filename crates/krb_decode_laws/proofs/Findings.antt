-- What is found in a capture, whatever its label.
use Rattle.std.proofs.Common.{◌≡◌, ℕ, List, [], ◌∷◌, ◌++◌, Option, None, refl, ◌∙◌, ap}
use Rattle.std.specs.List.{filter, flat_map}
use Rattle.std.proofs.lemmas.Grind.{flat_map-append}
use Rattle.std.proofs.lemmas.List.Elements.{filter-append}
use Rattle.std.proofs.lemmas.List.Folds.{flat_map-map}
use Rattle.krb_file.specs.Fields.{Fault}
use Rattle.krb_json.specs.Lines.{line_of, message_text}
use Rattle.krb_packet.specs.declared.packet.Packet.{Packet}
use Rattle.krb_capture.specs.Captures.{Finding, Progress, Settings, packet_taken, packet_told}
use Rattle.krb_capture.specs.Labels.{Label}
use Rattle.krb_capture_run.specs.Decoded.{Ending, Ends, Next}
use Rattle.krb_capture_run.specs.Laws.{told_after}
use Rattle.krb_decode_laws.specs.Captures.{message_in, messages_in, sealed_in}
use Rattle.krb_decode_laws.specs.Messages.{is_sealed}
use Rattle.krb_decode_laws.proofs.DecodedCaptures.{end_found, found_in}
use Rattle.krb_decode_laws.proofs.FoundLines.{texts, wanted}
use Rattle.krb_decode_laws.proofs.SortedTexts.{with_feed}

-- ---- no label changes what is found
module _ (settings : Settings) (label : Label) where
  abbrev other : Settings
  other = record settings { label = label }

  pub same-packet : (packet : Packet) (progress : Progress) → packet_told other packet progress ≡ packet_told settings packet progress
  unfolding packet_told packet_taken
  same-packet packet progress = refl

  same-end : (ends : Ending) (progress : Progress) → end_found other ends progress ≡ end_found settings ends progress
  same-end Next progress = refl
  same-end (Ends refusal) progress = refl

  pub same-found : (all : List Packet) (ends : Ending) (progress : Progress) → found_in other all ends progress ≡ found_in settings all ends progress
  same-found [] ends progress = same-end ends progress
  same-found (packet ∷ others) ends progress =
      ap (λ taken. taken.found ++ found_in other others ends taken.progress) (same-packet packet progress)
      ∙ ap (λ l. (packet_told settings packet progress).found ++ l) (same-found others ends (packet_told settings packet progress).progress)

pub found-told : (settings : Settings) (all : List Packet) (refusal : Option Fault) (progress : Progress) → found_in settings all (Ends refusal) progress ≡ told_after settings progress all
found-told settings [] refusal progress = refl
found-told settings (packet ∷ others) refusal progress = ap (λ l. (packet_told settings packet progress).found ++ l) (found-told settings others refusal (packet_told settings packet progress).progress)

-- ---- the lines of the sealed messages
abbrev pub sealed_lines : List Finding → List ℕ
sealed_lines found = flat_map line_of (sealed_in found)

pub sealed-both : (a b : List Finding) → sealed_lines (a ++ b) ≡ sealed_lines a ++ sealed_lines b
sealed-both a b =
    ap (λ all. flat_map line_of (filter is_sealed all)) (flat_map-append (λ (one : Finding). message_in one.1) a b)
    ∙ ap (flat_map line_of) (filter-append is_sealed (messages_in a) (messages_in b))
    ∙ flat_map-append line_of (sealed_in a) (sealed_in b)

pub all-wanted : (found : List Finding) → filter (wanted None) found ≡ found
all-wanted [] = refl
all-wanted (one ∷ others) = ap (λ l. one ∷ l) (all-wanted others)

pub texts-lines : (packet : Option ℕ) (found : List Finding) → flat_map with_feed (texts packet found) ≡ sealed_lines (filter (wanted packet) found)
texts-lines packet found = flat_map-map with_feed message_text (sealed_in (filter (wanted packet) found))
