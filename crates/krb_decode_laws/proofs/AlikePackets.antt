-- So is each packet of such captures.
use Rattle.std.proofs.Common.{◌≡◌, ℕ, zero, suc, ◌+◌, ◌≤◌, ◌==◌, nat_lt, inl, inr, false, if◌then◌else◌, List, [], ◌∷◌, ◌++◌, length, take, Option, Some, None, refl, sym, ◌∙◌, ap, ap₂, arith, append_assoc}
use Rattle.std.specs.Prelude.{min}
use Rattle.std.specs.List.{AllByRecursion}
use Rattle.std.proofs.lemmas.Bool.{cases_lt, ne_eqb}
use Rattle.std.proofs.lemmas.List.{length-take, take_all}
use Rattle.krb_file.specs.Fields.{Fault}
use Rattle.krb_json.specs.Laws.{UnencryptedChangesNothing}
use Rattle.krb_packet.specs.Captures.{packets}
use Rattle.krb_packet.specs.declared.packet.Packet.{Packet}
use Rattle.krb_record.specs.declared.capture.CaptureCounts.{CaptureCounts}
use Rattle.krb_record.specs.declared.capture_origin.CaptureOrigin.{CaptureOrigin}
use Rattle.krb_capture.specs.Captures.{Finding, Progress, Settings, Taken, at_first, end_taken, lines_of, packet_told}
use Rattle.krb_capture.specs.Found.{Begun, Failed, Found, Sent, decoded_line, found_line}
use Rattle.krb_capture.specs.Labels.{Label}
use Rattle.krb_capture_laws.proofs.Ordered.{OfLast, end-of, packet-of}
use Rattle.krb_capture_run.specs.Captures.{after_packets, lines_from}
use Rattle.krb_capture_run.specs.Decoded.{Ending, Ends, Next, decoded_capture, end_after, ending, ending_lines, ending_run, missing}
use Rattle.krb_capture_run.specs.Laws.{capture_told, told_after}
use Rattle.krb_run.specs.Records.{text_of}
use Rattle.krb_run.specs.declared.run.RunEnd.{RunEnd}
use Rattle.krb_run.specs.declared.run.RunEnd.TheVariants as run
use Rattle.krb_decode_laws.specs.Captures.{AreCapturesAlike, CapturesAreDecodedAlike, counts_of, decoded_by}
use Rattle.krb_decode_laws.proofs.AlikeCaptures.{counts-are, end-is, end_by, its, lines-alike, run-ends, run-is, run_by, text-is}
use Rattle.krb_decode_laws.proofs.CountedPackets.{AreCounted, packets_are_counted}
use Rattle.krb_decode_laws.proofs.DecodedCaptures.{all-parts, closing_line, end_found, found_in, lines-both}
use Rattle.krb_decode_laws.proofs.Findings.{same-found}
use Rattle.krb_decode_laws.proofs.FoundLines.{decoding_label}
use Rattle.krb_decode_laws.proofs.OnePacket.{is-less, less-after, not-less}

module _ (number : ℕ) where
  abbrev label : Label
  label = decoding_label (Some number)

  -- ---- what is found with other packets has no line
  no-line : (origin : CaptureOrigin) (found : Found) → (origin.packet == number) ≡ false → found_line label origin found ≡ []
  no-line origin Begun e = refl
  no-line origin (Sent header) e = refl
  no-line origin (Failed error) e = refl
  no-line origin found e = ap (λ wanted. if wanted then decoded_line label origin found else []) e

  none-of : (packet : ℕ) (found : List Finding) → (packet ≡ number → ⊥) → AllByRecursion (λ (one : Finding). one.0.packet ≡ packet) found → lines_of label None found ≡ []
  none-of packet [] differ each = refl
  none-of packet (one ∷ others) differ each = ap₂ (λ x y. x ++ y) (no-line one.0 one.1 (ne_eqb one.0.packet number (λ e. differ (sym each.0 ∙ e)))) (none-of packet others differ each.1)

  module _ (settings : Settings) where
    first-none : (count : ℕ) (packet : Packet) (progress : Progress) → number ≤ count → packet.number ≡ count + 1 → lines_of label None (packet_told settings packet progress).found ≡ []
    first-none count packet progress less is = none-of packet.number (packet_told settings packet progress).found (λ e. absurd (omega (arith, e, is, less))) (packet-of settings packet progress).found

    later-none : (count : ℕ) (packet : Packet) (others : List Packet) (progress : Progress) → number ≤ count → AreCounted count (packet ∷ others) → lines_of label None (told_after settings progress (packet ∷ others)) ≡ []
    later-none count packet [] progress less are =
        let taken : Taken = packet_told settings packet progress in
        let its : OfLast packet.number taken = packet-of settings packet progress in
        lines-both label taken.found (end_taken settings taken.progress).found
        ∙ ap₂ (λ x y. x ++ y) (first-none count packet progress less are.0) (none-of taken.progress.last.packet (end_taken settings taken.progress).found (λ e. absurd (omega (arith, e, its.last, are.0, less))) (end-of settings taken.progress))
    later-none count packet (next ∷ others) progress less are =
        let taken : Taken = packet_told settings packet progress in
        lines-both label taken.found (told_after settings taken.progress (next ∷ others))
        ∙ ap₂ (λ x y. x ++ y) (first-none count packet progress less are.0) (later-none (count + 1) next others taken.progress (omega (arith, less)) are.1)

    -- so the packets up to it have the lines of all
    up-to : (refusal : Option Fault) (left count : ℕ) (all : List Packet) (progress : Progress) → number ≡ count + left → AreCounted count all → lines_of label None (found_in settings (take left all) (ending (Some left) all refusal) progress) ≡ lines_of label None (told_after settings progress all)
    up-to refusal zero count [] progress is are = ap (λ less. lines_of label None (end_found settings (if less then Next else Ends refusal) progress)) (not-less 0 0 (omega arith))
    up-to refusal zero count (packet ∷ others) progress is are =
        ap (λ less. lines_of label None (end_found settings (if less then Next else Ends refusal) progress)) (is-less 0 (length (packet ∷ others)) (omega arith)) ∙ sym (later-none count packet others progress (omega (arith, is)) are)
    up-to refusal (suc left) count [] progress is are = ap (λ less. lines_of label None (end_found settings (if less then Next else Ends refusal) progress)) (not-less (suc left) 0 (omega arith))
    up-to refusal (suc left) count (packet ∷ others) progress is are =
        let taken : Taken = packet_told settings packet progress in
        ap (λ less. lines_of label None (taken.found ++ found_in settings (take left others) (if less then Next else Ends refusal) taken.progress)) (less-after left (length others))
        ∙ lines-both label taken.found (found_in settings (take left others) (ending (Some left) others refusal) taken.progress)
        ∙ ap (λ l. lines_of label None taken.found ++ l) (up-to refusal left (count + 1) others taken.progress (omega (arith, is)) are.1)
        ∙ sym (lines-both label taken.found (told_after settings taken.progress others))

    -- ---- how they end
    abbrev one_of : Settings
    one_of = its settings (Some number)

    ended : {A : Type 0} (f : Ending → Progress → A) (none : A) → ((progress : Progress) → f Next progress ≡ none) → (all : List Packet) (refusal : Option Fault)
        → f (ending (Some number) all refusal) (after_packets one_of (take number all) at_first) ≡ (if nat_lt number (length all) then none else f (Ends refusal) (after_packets one_of all at_first))
    ended f none next all refusal = elim (cases_lt number (length all)) [
      | inl h ↦ ap (λ less. f (if less then Next else Ends refusal) (after_packets one_of (take number all) at_first)) (is-less number (length all) h) ∙ next (after_packets one_of (take number all) at_first) ∙ sym (ap (λ less. if less then none else f (Ends refusal) (after_packets one_of all at_first)) (is-less number (length all) h))
      | inr h ↦ ap₂ (λ less l. f (if less then Next else Ends refusal) (after_packets one_of l at_first)) (not-less number (length all) h) (take_all number all h) ∙ sym (ap (λ less. if less then none else f (Ends refusal) (after_packets one_of all at_first)) (not-less number (length all) h))
    ]

    -- the lines of what is found, and the line of the end, of so many packets
    abbrev found_by : (lines : List ℕ) → (count : ℕ) → Option Fault → CaptureCounts → List ℕ
    found_by lines count refusal counts = lines ++ (if nat_lt number count then [] else end_by (Some number) refusal counts)

    abbrev said_by : (lines : List ℕ) → (count : ℕ) → Option Fault → CaptureCounts → List ℕ
    said_by lines count refusal counts = missing (Some number) (min number count) (found_by lines count refusal counts)

    abbrev ended_by : (lines : List ℕ) → (count : ℕ) → Option Fault → CaptureCounts → RunEnd
    ended_by lines count refusal counts = end_after (said_by lines count refusal counts) (if nat_lt number count then run.Clean else run_by refusal counts)

    abbrev lines_in : List ℕ → List ℕ
    lines_in file = lines_of label None (capture_told settings (packets file).items)

    part-is : (file : List ℕ)
        → lines_from one_of (take number (packets file).items) None at_first ++ ending_lines one_of (ending (Some number) (packets file).items (packets file).end) (after_packets one_of (take number (packets file).items) at_first)
        ≡ found_by (lines_in file) (length (packets file).items) (packets file).end (counts_of settings file)
    part-is file =
        let all : List Packet = (packets file).items in
        let refusal : Option Fault = (packets file).end in
        all-parts one_of (take number all) (ending (Some number) all refusal) at_first
        ∙ ap₂ (λ lines line. lines ++ line)
        (ap (lines_of label None) (same-found settings label (take number all) (ending (Some number) all refusal) at_first) ∙ up-to refusal number 0 all at_first (omega arith) (packets_are_counted file))
        (ended (closing_line one_of) [] (λ progress. refl) all refusal
        ∙ ap (λ line. if nat_lt number (length all) then [] else line) (end-is settings (Some number) refusal (after_packets one_of all at_first) ∙ ap (end_by (Some number) refusal) (counts-are settings (Some number) file)))

    said-is : (file : List ℕ)
        → missing (Some number) (length (take number (packets file).items)) (lines_from one_of (take number (packets file).items) None at_first ++ ending_lines one_of (ending (Some number) (packets file).items (packets file).end) (after_packets one_of (take number (packets file).items) at_first))
        ≡ said_by (lines_in file) (length (packets file).items) (packets file).end (counts_of settings file)
    said-is file = ap₂ (missing (Some number)) (length-take number (packets file).items) (part-is file)

    packet-text : (file : List ℕ) → text_of (decoded_by settings (Some number) file)
        ≡ found_by (lines_in file) (length (packets file).items) (packets file).end (counts_of settings file) ++ said_by (lines_in file) (length (packets file).items) (packets file).end (counts_of settings file)
    unfolding decoded_capture
    packet-text file =
        sym (append_assoc (lines_from one_of (take number (packets file).items) None at_first) (ending_lines one_of (ending (Some number) (packets file).items (packets file).end) (after_packets one_of (take number (packets file).items) at_first)) _)
        ∙ ap₂ (λ part said. part ++ said) (part-is file) (said-is file)

    packet-ends : (file : List ℕ) → (decoded_by settings (Some number) file).end ≡ ended_by (lines_in file) (length (packets file).items) (packets file).end (counts_of settings file)
    unfolding decoded_capture
    packet-ends file =
        let all : List Packet = (packets file).items in
        let refusal : Option Fault = (packets file).end in
        ap₂ end_after (said-is file)
        (ended (ending_run one_of) run.Clean (λ progress. refl) all refusal
        ∙ ap (λ ends. if nat_lt number (length all) then run.Clean else ends) (run-is settings (Some number) refusal (after_packets one_of all at_first) ∙ ap (run_by refusal) (counts-are settings (Some number) file)))

module _ (law : UnencryptedChangesNothing) (settings : Settings) (file other : List ℕ) (a : AreCapturesAlike settings file other) where
  lines-are : (packet : Option ℕ) → lines_of (decoding_label packet) None (capture_told settings (packets file).items) ≡ lines_of (decoding_label packet) None (capture_told settings (packets other).items)
  lines-are packet = lines-alike law packet (capture_told settings (packets file).items) (capture_told settings (packets other).items) a.found

  -- what depends on nothing else is the same
  same : {A : Type 0} (f : List ℕ → ℕ → Option Fault → CaptureCounts → A) (packet : Option ℕ)
      → f (lines_of (decoding_label packet) None (capture_told settings (packets file).items)) (length (packets file).items) (packets file).end (counts_of settings file)
      ≡ f (lines_of (decoding_label packet) None (capture_told settings (packets other).items)) (length (packets other).items) (packets other).end (counts_of settings other)
  same f packet = ap₂ (λ lines count. f lines count (packets file).end (counts_of settings file)) (lines-are packet) a.as_many ∙ ap₂ (f (lines_of (decoding_label packet) None (capture_told settings (packets other).items)) (length (packets other).items)) a.end a.counts

  text-alike : (packet : Option ℕ) → text_of (decoded_by settings packet file) ≡ text_of (decoded_by settings packet other)
  text-alike None = text-is settings file ∙ same (λ lines count refusal counts. lines ++ end_by None refusal counts) None ∙ sym (text-is settings other)
  text-alike (Some number) = packet-text number settings file ∙ same (λ lines count refusal counts. found_by number settings lines count refusal counts ++ said_by number settings lines count refusal counts) (Some number) ∙ sym (packet-text number settings other)

  end-alike : (packet : Option ℕ) → (decoded_by settings packet file).end ≡ (decoded_by settings packet other).end
  end-alike None = run-ends settings file ∙ same (λ lines count refusal counts. run_by refusal counts) None ∙ sym (run-ends settings other)
  end-alike (Some number) = packet-ends number settings file ∙ same (ended_by number settings) (Some number) ∙ sym (packet-ends number settings other)

pub captures_are_decoded_alike : UnencryptedChangesNothing → CapturesAreDecodedAlike
captures_are_decoded_alike law = record {
  text = λ settings packet file other a. text-alike law settings file other a packet;
  end = λ settings packet file other a. end-alike law settings file other a packet;
}
