-- What is decoded of a capture.
use Rattle.std.specs.Prelude.{ℕ, ◌-◌, ◌==◌, nat_lt, if◌then◌else◌, List, [], ◌∷◌, ◌++◌, length, take, codes, decimal, Option, Some, None}
use Rattle.krb_der.specs.declared.profile.Profile.{Profile}
use Rattle.krb_file.specs.Fields.{Fault}
use Rattle.krb_packet.specs.Captures.{packets}
use Rattle.krb_packet.specs.declared.packet.Packet.{Packet}
use Rattle.krb_record.specs.Labels.{no_label}
use Rattle.krb_record.specs.declared.form.Form.TheVariants.{NamedLines}
use Rattle.krb_capture.specs.Captures.{Progress, Settings, at_first}
use Rattle.krb_capture.specs.Labels.{of_decoding}
use Rattle.krb_run.specs.Records.{RecordListing}
use Rattle.krb_run.specs.declared.run.RunEnd.{RunEnd}
use Rattle.krb_run.specs.declared.run.RunEnd.TheVariants as run
use Rattle.krb_capture_run.specs.Captures.{after_packets, capture_run_end, last_records, lines_from}

-- messages are decoded, of all packets or of the one of a number, and what is said is said by lines with names
abbrev pub decoding : Profile → (limit port : ℕ) → (packet : Option ℕ) → Settings
decoding profile limit port packet = record { label = of_decoding (no_label NamedLines) (record { packet = packet }); profile = profile; limit = limit; port = port }

-- ---- the packets that are followed: all, or the first of so many
abbrev pub followed : (most : Option ℕ) → List Packet → List Packet
followed None packets = packets
followed (Some most) packets = take most packets

-- how they end: with one more that is read, or with the file
pub data Ending : Type 0 where
  Next : Ending
  Ends : (refusal : Option Fault) → Ending

abbrev pub ending : (most : Option ℕ) → List Packet → Option Fault → Ending
ending None packets refusal = Ends refusal
ending (Some most) packets refusal = if nat_lt most (length packets) then Next else Ends refusal

abbrev pub ending_lines : Settings → Ending → Progress → List ℕ
ending_lines settings Next progress = []
ending_lines settings (Ends refusal) progress = last_records settings refusal None progress

abbrev pub ending_run : Settings → Ending → Progress → RunEnd
ending_run settings Next progress = run.Clean
ending_run settings (Ends refusal) progress = capture_run_end settings refusal progress

-- the lines of packets, from the progress that earlier ones left, and of what ends them
abbrev pub found_from : Settings → List Packet → Ending → Progress → RecordListing
found_from settings packets ends progress =
    let last = after_packets settings packets progress in
    record { lines = lines_from settings packets None progress; last = ending_lines settings ends last; end = ending_run settings ends last }

-- ---- what is said of the packet of a number that has no line: it is one of those that came, or so many more had to come
abbrev pub none_text : (number : ℕ) → List ℕ
none_text number = codes "packet " ++ decimal number ++ codes ": no message ends in it\n"

abbrev pub few_text : (number packets : ℕ) → List ℕ
few_text number packets = (codes "packet " ++ decimal number ++ codes ": the capture has ") ++ (decimal packets ++ codes "\n")

abbrev pub missing_text : (number more : ℕ) → List ℕ
missing_text number more = if more == 0 then none_text number else few_text number (number - more)

abbrev pub missing : (packet : Option ℕ) → (came : ℕ) → (lines : List ℕ) → List ℕ
missing None came lines = []
missing (Some number) came [] = missing_text number (number - came)
missing (Some number) came (octet ∷ lines) = []

abbrev pub end_after : (said : List ℕ) → RunEnd → RunEnd
end_after [] end = end
end_after (octet ∷ said) end = run.Refused

-- with that, after lines that came before
abbrev pub with_missing : (packet : Option ℕ) → (came : ℕ) → (before : List ℕ) → RecordListing → RecordListing
with_missing packet came before listing =
    let said = missing packet came (before ++ (listing.lines ++ listing.last)) in
    record { lines = listing.lines; last = listing.last ++ said; end = end_after said listing.end }

unfoldable pub decoded_capture : Profile → (limit port : ℕ) → (packet : Option ℕ) → (file : List ℕ) → RecordListing
decoded_capture profile limit port packet file =
    let all = packets file in
    with_missing packet (length (followed packet all.items)) [] (found_from (decoding profile limit port packet) (followed packet all.items) (ending packet all.items all.end) at_first)
