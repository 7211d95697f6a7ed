-- The listing of a capture is the records of what is found in its packets.
use Rattle.std.proofs.Common.{◌≡◌, ℕ, List, [], ◌∷◌, ◌++◌, Option, Some, None, refl, sym, ◌∙◌, ap, append_assoc}
use Rattle.krb_file.specs.Fields.{Fault}
use Rattle.krb_packet.specs.Captures.{packets}
use Rattle.krb_packet.specs.declared.packet.Packet.{Packet}
use Rattle.krb_capture.specs.Labels.{Label}
use Rattle.krb_capture.specs.Captures.{Finding, Progress, Settings, at_first, end_taken, end_text, happened_each, lines_of, packet_told, refusal_text}
use Rattle.krb_capture.specs.Flows.{moment_due}
use Rattle.krb_capture.specs.Happened.{end_lines, told_at_first}
use Rattle.krb_capture.specs.declared.happened.Happened.{Happened}
use Rattle.krb_capture.specs.Found.{found_happened, found_text}
use Rattle.krb_capture_run.specs.Captures.{after_packets, capture_listing, happened_after, last_records, lines_from}
use Rattle.krb_capture_run.specs.Laws.{CapturesAreListed, PlainCapturesAreUntold, last_line, told_after, untold_last_line, untold_lines}

lines_of-append : (label : Label) (happened : Option Happened) (xs ys : List Finding) → lines_of label happened (xs ++ ys) ≡ lines_of label happened xs ++ lines_of label (happened_each xs happened) ys
lines_of-append label happened [] ys = refl
lines_of-append label happened (x ∷ xs) ys =
    let after = found_happened x.0 x.1 happened in
    ap (λ (l : List ℕ). found_text label x.0 x.1 happened ++ l) (lines_of-append label after xs ys) ∙ sym (append_assoc (found_text label x.0 x.1 happened) (lines_of label after xs) (lines_of label (happened_each xs after) ys))

happened_each-append : (xs ys : List Finding) (happened : Option Happened) → happened_each (xs ++ ys) happened ≡ happened_each ys (happened_each xs happened)
happened_each-append [] ys happened = refl
happened_each-append (x ∷ xs) ys happened = happened_each-append xs ys (found_happened x.0 x.1 happened)

module _ (settings : Settings) where
  -- the records of the directions that end, and the last line
  abbrev ended_lines : Option Happened → Progress → List ℕ
  ended_lines happened progress = lines_of settings.label happened (end_taken settings progress).found

  last_records-are : (refusal : Option Fault) (happened : Option Happened) (progress : Progress) → last_records settings refusal happened progress ≡ ended_lines happened progress ++ last_line settings refusal (happened_each (end_taken settings progress).found happened) progress
  unfolding end_text refusal_text
  last_records-are None happened progress = append_assoc (ended_lines happened progress) (end_lines settings.label (moment_due progress.last) (happened_each (end_taken settings progress).found happened)) _
  last_records-are (Some refusal) happened progress = append_assoc (ended_lines happened progress) (end_lines settings.label (moment_due progress.last) (happened_each (end_taken settings progress).found happened)) _

  lines-found : (all : List Packet) (happened : Option Happened) (progress : Progress) → lines_from settings all happened progress ++ ended_lines (happened_after settings all happened progress) (after_packets settings all progress) ≡ lines_of settings.label happened (told_after settings progress all)
  lines-found [] happened progress = refl
  lines-found (packet ∷ others) happened progress =
      let taken = packet_told settings packet progress in
      let next = happened_each taken.found happened in
      append_assoc (lines_of settings.label happened taken.found) (lines_from settings others next taken.progress) (ended_lines (happened_after settings others next taken.progress) (after_packets settings others taken.progress))
      ∙ ap (λ (l : List ℕ). lines_of settings.label happened taken.found ++ l) (lines-found others next taken.progress)
      ∙ sym (lines_of-append settings.label happened taken.found (told_after settings taken.progress others))

  happened-found : (all : List Packet) (happened : Option Happened) (progress : Progress) → happened_each (end_taken settings (after_packets settings all progress)).found (happened_after settings all happened progress) ≡ happened_each (told_after settings progress all) happened
  happened-found [] happened progress = refl
  happened-found (packet ∷ others) happened progress =
      let taken = packet_told settings packet progress in
      happened-found others (happened_each taken.found happened) taken.progress ∙ sym (happened_each-append taken.found (told_after settings taken.progress others) happened)

pub captures_are_listed : CapturesAreListed
unfolding capture_listing
captures_are_listed settings file =
    let all = (packets file).items in
    let refusal = (packets file).end in
    let first = told_at_first settings.label.form in
    let last = after_packets settings all at_first in
    let told = happened_after settings all first at_first in
    ap (λ (l : List ℕ). lines_from settings all first at_first ++ l) (last_records-are settings refusal told last)
    ∙ sym (append_assoc (lines_from settings all first at_first) (ended_lines settings told last) (last_line settings refusal (happened_each (end_taken settings last).found told) last))
    ∙ ap (λ (l : List ℕ). l ++ last_line settings refusal (happened_each (end_taken settings last).found told) last) (lines-found settings all first at_first)
    ∙ ap (λ (h : Option Happened). lines_of settings.label first (told_after settings at_first all) ++ last_line settings refusal h last) (happened-found settings all first at_first)

-- ---- nothing is told
untold : (label : Label) (found : List Finding) → lines_of label None found ≡ untold_lines label found
untold label [] = refl
untold label (x ∷ xs) = ap (λ (l : List ℕ). found_text label x.0 x.1 None ++ l) (untold label xs)

none_each : (found : List Finding) → happened_each found None ≡ None
none_each [] = refl
none_each (x ∷ xs) = none_each xs

untold_last : (settings : Settings) (refusal : Option Fault) (progress : Progress) → last_line settings refusal None progress ≡ untold_last_line settings refusal progress
untold_last settings None progress = refl
untold_last settings (Some refusal) progress = refl

pub plain_captures_are_untold : PlainCapturesAreUntold
plain_captures_are_untold settings file plain =
    let all = (packets file).items in
    let refusal = (packets file).end in
    let found = told_after settings at_first all in
    let last = after_packets settings all at_first in
    captures_are_listed settings file
    ∙ ap (λ (h : Option Happened). lines_of settings.label h found ++ last_line settings refusal (happened_each found h) last) (ap told_at_first plain)
    ∙ ap (λ (h : Option Happened). lines_of settings.label None found ++ last_line settings refusal h last) (none_each found)
    ∙ (λ i. untold settings.label found i ++ untold_last settings refusal last i)
