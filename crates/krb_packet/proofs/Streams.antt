-- A capture file that is read one packet at a time: how each call changes the packets that are left.
use Rattle.std.proofs.Common.{◌≡◌, ℕ, zero, suc, ◌+◌, ◌≤◌, length, arith, IfErr, Option, Some, None, Result, Ok, Err, List, [], refl, sym, ◌∙◌, ap, subst}
use Rattle.krb_file.specs.Fields.{Source, Fault, limited, and_then, succeed, source_of, IsStreamFaultIn}
use Rattle.krb_file.specs.FieldReaders.{Cursor, HasRead, FailsBy}
use Rattle.krb_file.specs.Items.{IsItem, EndsBy, FailsAfter}
use Rattle.krb_file.specs.declared.fault.FileFault.{FileFault}
use Rattle.krb_file.specs.declared.progress.Progress.{Progress}
use Rattle.krb_file.specs.declared.progress.Progress.TheVariants as states
use Rattle.krb_file.proofs.Items.{goes_on, item_given, end_given as items-end_given, fault_given as items-fault_given, gave_none, fault_in_file}
use Rattle.krb_packet.specs.declared.packet.Packet.{Packet}
use Rattle.krb_packet.specs.declared.format.Format.{Format}
use Rattle.krb_packet.specs.declared.format.Format.TheVariants as formats
use Rattle.krb_packet.specs.declared.format.Next.{Next}
use Rattle.krb_packet.specs.declared.format.Next.TheVariants as nexts
use Rattle.krb_packet.specs.declared.pcap.Header.{Header}
use Rattle.krb_packet.specs.Pcaps.{most_captured}
use Rattle.krb_packet.specs.Captures.{packet_in, after_packet, next_in, Packets, packets_from, packets_within, packets_after, packets}
use Rattle.krb_packet.specs.Streaming.{PacketsModel, Reads, ReturnsNext}
use Rattle.krb_packet.proofs.InFile.{Within, later, Stops-step}
use Rattle.krb_packet.proofs.Steps.{step_advances}
use Rattle.krb_packet.proofs.Stepwise.{after_read, after-step}

-- nothing was read
pub starts : (file : List ℕ) (known : Option (List ℕ)) → known ≡ Some file → Reads (record { cursor = record { ahead = []; left = known; place = 0; bounds = limited (Some most_captured) }; state = states.Open formats.Unknown; count = 0 }) file 0
starts file known is = rw is ([], gave_none (packets_after formats.Unknown 0) (Some most_captured) file _ refl (λ octets there. there), refl)

abbrev pub opening : Cursor → Format → ℕ → PacketsModel
opening cursor format count = record { cursor = cursor; state = states.Open format; count = count }

-- ---- a step, of any format
module _ (file : List ℕ) (count number : ℕ) (format : Format) (old : Cursor) (reads : Reads (opening old format number) file count) where
  pub passed_read : (after : Format) (new : Cursor) → HasRead (next_in format number) (nexts.NoPacket after) old new → Reads (opening new after number) file count
  passed_read after new read = (
    reads.0,
    goes_on (next_in format number) (Some most_captured) (packets_after format number) (after_read number) (after-step format number) (packets file) old reads.0 reads.0 reads.1 (nexts.NoPacket after) new (packets_after after number) read (λ t. refl),
    reads.2,
  )

  pub packet_given : (after : Format) (x : Packet) (new : Cursor) → HasRead (next_in format number) (nexts.Packet x after) old new → IsItem (packets file) count x × Reads (opening new after (number + 1)) file (suc count)
  packet_given after x new read =
      item_given (next_in format number) (Some most_captured) (packets_after format number) (after_read number) (after-step format number) (packets file) old count reads (nexts.Packet x after) x new (packets_after after (number + 1)) read (λ t. refl)

  pub end_given : (new : Cursor) → HasRead (next_in format number) nexts.End old new → EndsBy (packets file) count None
  end_given new read = items-end_given (next_in format number) (Some most_captured) (packets_after format number) (after_read number) (after-step format number) (packets file) old count reads nexts.End (λ place. None) new read (λ t. refl)

  pub fault_given : (e : FileFault) (MayFail : Type 0) → FailsBy e (next_in format number) MayFail old → FailsAfter (λ f. Some f) (packets file) count e
  fault_given e MayFail fails = items-fault_given (next_in format number) (Some most_captured) (packets_after format number) (after_read number) (after-step format number) (packets file) old count reads (λ f. Some f) e MayFail fails (λ f. refl)

-- ---- the step of a pcap whose header was read
pub pcap_step : (header : Header) (count : ℕ) (packet : Option Packet) (old new : Cursor) → HasRead (packet_in header count) packet old new → HasRead (next_in (formats.Pcap header) count) (after_packet header packet) old new
pcap_step header count packet old new read = record {
  same_bounds = read.same_bounds;
  from = λ rest there. let a = read.from rest there in (a.0, a.1, ap (λ (r : Result (Option Packet × Source) Fault). and_then r (λ x. succeed (after_packet header x.0) old.bounds x.1)) a.2);
}

-- the same where the progress is known
pub reads_as : (file : List ℕ) (count : ℕ) (model : PacketsModel) (state : Progress Format (Unit {0})) → model.state ≡ state → Reads model file count → Reads (record model { state = state }) file count
reads_as file count model state is reads = subst (λ (s : Progress Format (Unit {0})). Reads (record model { state = s }) file count) is reads

pub pcap_reads : (file : List ℕ) (count : ℕ) (header : Header) (model : PacketsModel) → model.state ≡ states.Open (formats.Pcap header) → Reads model file count → Reads (opening model.cursor (formats.Pcap header) model.count) file count
pcap_reads file count header model is reads = reads_as file count model (states.Open (formats.Pcap header)) is reads

pub pcap_given : (file : List ℕ) (count : ℕ) (header : Header) (old new : PacketsModel) (x : Packet) → old.state ≡ states.Open (formats.Pcap header) → new.state ≡ old.state → new.count ≡ old.count + 1 → Reads old file count → HasRead (packet_in header old.count) (Some x) old.cursor new.cursor
    → IsItem (packets file) count x × Reads new file (suc count)
pcap_given file count header old new x is same more reads read =
    let format = formats.Pcap header in
    let given = packet_given file count old.count format old.cursor (pcap_reads file count header old is reads) format x new.cursor (pcap_step header old.count (Some x) old.cursor new.cursor read) in
    (given.0, rw (same ∙ is) (subst (λ (n : ℕ). Reads (opening new.cursor format n) file (suc count)) (sym more) given.1))

-- ---- a refusal is at a place of the file or at its end
from_within : (count : ℕ) (s : Source) (read : Result (Next × Source) Fault) (others : Format → ℕ → Source → Packets) (f : Fault)
    → ((x : Fault) → read ≡ Err x → Within s x)
    → ((packet : Packet) (after : Format) (t : Source) → read ≡ Ok (nexts.Packet packet after, t) → (others after (count + 1) t).end ≡ Some f → Within s f)
    → ((after : Format) (t : Source) → read ≡ Ok (nexts.NoPacket after, t) → (others after count t).end ≡ Some f → Within s f)
    → (packets_from count read others).end ≡ Some f → Within s f
from_within count s (Err x) others f fails one two e = let same : x ≡ f = cc in subst (Within s) same (fails x refl)
from_within count s (Ok (nexts.End, t)) others f fails one two e = absurd cc
from_within count s (Ok (nexts.Packet packet after, t)) others f fails one two e = one packet after t refl e
from_within count s (Ok (nexts.NoPacket after, t)) others f fails one two e = two after t refl e

within_all : (bound : ℕ) (format : Format) (count : ℕ) (s : Source) (f : Fault) → (packets_within bound format count s).end ≡ Some f → Within s f
within_all zero format count s f e = absurd cc
within_all (suc bound) format count s f e =
    let bounds = limited (Some most_captured) in
    from_within count s (next_in format count bounds s) (packets_within bound) f
    (λ x is. (Stops-step format count).upto bounds s x is)
    (λ packet after t is found. later s t f (step_advances format count bounds s (nexts.Packet packet after) t is).same (within_all bound after (count + 1) t f found))
    (λ after t is found. later s t f (step_advances format count bounds s (nexts.NoPacket after) t is).same (within_all bound after count t f found))
    e

pub refusal_in_file : (file : List ℕ) (f : Fault) → (packets file).end ≡ Some f → f.place ≤ length file
refusal_in_file file f e = let within = within_all (suc (length file)) formats.Unknown 0 (source_of file) f e in omega (arith, within)

-- of what a call returned
pub given_in_file : (file : List ℕ) (count : ℕ) (given : Result (Option Packet) FileFault) (model : PacketsModel) → ReturnsNext file count given model → IfErr given (IsStreamFaultIn file)
given_in_file file count (Ok packet) model returns = tt
given_in_file file count (Err fault) model ends = fault_in_file (λ f. Some f) (packets file) count file fault (refusal_in_file file) ends
