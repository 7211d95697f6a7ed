-- What is decoded of a capture is its listing.
use Rattle.std.proofs.Common.{◌≡◌, ℕ, List, [], Option, None, sym, ◌∙◌, ap, subst}
use Rattle.std.specs.List.{AllByRecursion, filter}
use Rattle.krb_packet.specs.Captures.{packets}
use Rattle.krb_capture.specs.Captures.{Finding, Settings, at_first, lines_of}
use Rattle.krb_capture_run.specs.Decoded.{Ends}
use Rattle.krb_capture_run.specs.Laws.{capture_told}
use Rattle.krb_decode.specs.Sorted.{message_lines}
use Rattle.krb_run.specs.Records.{text_of}
use Rattle.krb_tool_laws.specs.Listings.{AreRead}
use Rattle.krb_decode_laws.specs.Captures.{DecodedIsTheListing, IsTold, decoded_by}
use Rattle.krb_decode_laws.proofs.DecodedCaptures.{Premises, closing_of, decoded-sorted, found-sorted, found_of, good-of, rest-sorted, text-parts}
use Rattle.krb_decode_laws.proofs.Findings.{all-wanted, found-told, same-found, sealed_lines, texts-lines}
use Rattle.krb_decode_laws.proofs.FoundLines.{all-left, decoding_label, each-told, texts, wanted}
use Rattle.krb_decode_laws.proofs.SortedTexts.{Sorted, both, none, sorted-messages}

module _ (p : Premises) (settings : Settings) where
  -- what is found in a file, of a packet or of all
  abbrev pub found : (packet : Option ℕ) → List ℕ → List Finding
  found packet file = found_of p settings.profile settings.limit settings.port packet file

  pub sorted : (packet : Option ℕ) (file : List ℕ) → AreRead file → Sorted (text_of (decoded_by settings packet file)) (texts packet (found packet file))
  sorted packet file are = decoded-sorted p settings.profile settings.limit settings.port packet file are

  pub messages-are : (packet : Option ℕ) (file : List ℕ) → AreRead file → message_lines (text_of (decoded_by settings packet file)) ≡ sealed_lines (filter (wanted packet) (found packet file))
  messages-are packet file are = sorted-messages (text_of (decoded_by settings packet file)) (texts packet (found packet file)) (sorted packet file are) ∙ texts-lines packet (found packet file)

  -- those of all packets are in the listing
  pub found-is : (file : List ℕ) → found None file ≡ capture_told settings (packets file).items
  found-is file = same-found settings (decoding_label None) (packets file).items (Ends (packets file).end) at_first ∙ found-told settings (packets file).items (packets file).end at_first

  pub all-told : (file : List ℕ) → AreRead file → AllByRecursion (IsTold (text_of (decoded_by settings None file))) (found None file)
  all-told file are =
      let first : Sorted (lines_of (decoding_label None) None (found None file)) (texts None (found None file)) = found-sorted p settings.profile settings.limit settings.port None file are in
      let close : Sorted (closing_of p settings.profile settings.limit settings.port None file) [] = rest-sorted p settings.profile settings.limit settings.port None file in
      subst (λ text. AllByRecursion (IsTold text) (found None file)) (sym (text-parts p settings.profile settings.limit settings.port None file))
      (all-left p.lines (both first close) none (found None file) (all-left p.lines first close (found None file) (each-told p.lines (found None file) (good-of p settings.profile settings.limit settings.port None file are))))

pub decoded_is_the_listing : Premises → DecodedIsTheListing
decoded_is_the_listing p settings file are = record {
  messages = messages-are p settings None file are ∙ ap sealed_lines (all-wanted (found p settings None file) ∙ found-is p settings file);
  others = subst (AllByRecursion (IsTold (text_of (decoded_by settings None file)))) (found-is p settings file) (all-told p settings file are);
}
