-- The packets of a file of octets are of octets, and their sizes and times are numbers of 32 bits; the place of a fault and a length that is one are small.
use Rattle.std.proofs.Common.{ℕ, zero, suc, ◌+◌, ◌-◌, ◌*◌, ◌/◌, ◌%◌, ◌^◌, ◌<◌, ◌≤◌, ◌≡◌, ◌==◌, ◌&&◌, ◌||◌, not, nat_lt, nat_le, Bool, true, false, List, [], ◌∷◌, length, Option, Some, None, Result, Ok, Err, IfSome, refl, sym, subst, arith}
use mathlib.Core.List.{reverse, reverse-cons}
use Rattle.std.proofs.lemmas.Bool.Decides.{nat_tests}
use Rattle.std.specs.Prelude.{min, slice_get}
use Rattle.std.specs.List.{AllByRecursion}
use Rattle.std.specs.Int.{Width, byte_len, w16, w32, w8}
use Rattle.krb_der.specs.Octets.{AreOctets, when}
use Rattle.krb_der.specs.inner.Numbers.{AreOctets-append}
use Rattle.krb_file.specs.Fields.{Bounds, Fault, Reader, Source, ◌>>=◌, called, ended, in_part, is_at_end, is_empty, limited, next_octets_at, number_at, octets_at, octets_to_end, refused_at, source_of, succeed, with_part}
use Rattle.krb_file.proofs.Fields.{IsWide, wide16, wide32, wide8}
use Rattle.krb_file.specs.FieldReaders.{skipped_at}
use Rattle.krb_file.specs.declared.field_name.FieldName.{FieldName}
use Rattle.krb_file.specs.declared.field_name.FieldName.TheVariants as fields
use Rattle.krb_file.specs.declared.field_name.FilePart.{FilePart}
use Rattle.krb_file.specs.declared.field_name.FilePart.TheVariants as parts
use Rattle.krb_packet.specs.Blocks.{after_content, after_kind, block_after, block_in, body_in, content_in_file, end_in, part_from, read_body, skipped_body, whole_block_in}
use Rattle.krb_packet.specs.Bodies.{after_byte_order, announced, block_kind, body_size, byte_order, content_at, enhanced_packet_at, first_interface, head_at, head_of, in_body, is_announced, most_octets_at, most_of, next_kind_at, old_packet_at, same_length, section_head_at, section_version, simple_packet_at, timed_packet_at, timestamp_at, value_of, whole_head}
use Rattle.krb_packet.specs.Captures.{Packets, after_magic, after_packet, next_in, packet_in, packets, packets_from, packets_within}
use Rattle.krb_packet.specs.Interfaces.{after_setting, clock_time, interface_at, nanoseconds, no_options, option_at, options_at, options_within, padded, seconds_after, setting_at, value_at, with_setting}
use Rattle.krb_packet.specs.Numbers.{checked_at, checked_number, field_in, from_here, in_order, moved_to, number_in, refused_at as moved_at}
use Rattle.krb_packet.specs.Pcaps.{captured, header_at, magic_at, magic_of, most_captured, next_at, packet_at, packet_head_at, unit, version}
use Rattle.krb_packet.specs.Values.{time_at, time_of}
use Rattle.krb_source.specs.declared.file_why.FileWhy.{FileWhy}
use Rattle.krb_source.specs.declared.file_why.FileWhy.TheVariants as why
use Rattle.krb_source.specs.declared.timestamp.Timestamp.{Timestamp}
use Rattle.krb_packet.specs.declared.block.BlockKind.{BlockKind}
use Rattle.krb_packet.specs.declared.block.BlockKind.TheVariants as kinds
use Rattle.krb_packet.specs.declared.block.Head.{Head}
use Rattle.krb_packet.specs.declared.block.Section.{Section}
use Rattle.krb_packet.specs.declared.body.Content.{Content}
use Rattle.krb_packet.specs.declared.body.Content.TheVariants as contents
use Rattle.krb_packet.specs.declared.format.Format.{Format}
use Rattle.krb_packet.specs.declared.format.Format.TheVariants as formats
use Rattle.krb_packet.specs.declared.format.Next.{Next}
use Rattle.krb_packet.specs.declared.format.Next.TheVariants as nexts
use Rattle.krb_packet.specs.declared.interface.Clock.{Clock}
use Rattle.krb_packet.specs.declared.interface.Interface.{Interface}
use Rattle.krb_packet.specs.declared.interface.Options.{Options}
use Rattle.krb_packet.specs.declared.interface.Setting.{Setting}
use Rattle.krb_packet.specs.declared.order.ByteOrder.{ByteOrder}
use Rattle.krb_packet.specs.declared.order.ByteOrder.TheVariants as orders
use Rattle.krb_packet.specs.declared.packet.Packet.{Packet}
use Rattle.krb_packet.specs.declared.pcap.Form.{Form}
use Rattle.krb_packet.specs.declared.pcap.Header.{Header}
use Rattle.krb_packet.specs.declared.pcap.Magic.{Magic}
use Rattle.krb_packet.specs.declared.pcap.PacketHead.{PacketHead}
use Rattle.krb_packet.specs.declared.pcap.Magic.TheVariants as magics
use Rattle.krb_tool_laws.proofs.CaptureParts.{either_has}
use Rattle.krb_tool_laws.proofs.FileReaders.{Anything, AreAtMost, Gives, IsBelow, IsFault, IsRead, IsReason, IsSource, any_gives, begun_read, called_gives, either_gives, either_read, gives, limited_read, named_read, number_gives, octets_give, part_gives, piece_gives, skipped_gives, then_gives}

-- ---- readers of captures
moved_read : {A : Type 0} (P : A → Type 0) (place : ℕ) (read : Result (A × Source) Fault) → IsRead P read → IsRead P (moved_to place read)
moved_read P place (Ok read) is = is
moved_read P place (Err fault) is = record { begin = is.begin; length = is.length }

from_gives : {A : Type 0} (P : A → Type 0) (part : FilePart) (place : ℕ) (reader : Reader A) → place < 2 ^ 64 → Gives P reader → Gives P (part_from part place reader)
from_gives P part place reader small g = record { each = λ bounds source near are. begun_read P place (refused_at (with_part part) (reader bounds source)) small (named_read P (with_part part) (reader bounds source) (g.each bounds source near are)) }

moved_gives : {A : Type 0} (P : A → Type 0) (place : ℕ) (reader : Reader A) → Gives P reader → Gives P (moved_at place reader)
moved_gives P place reader g = record { each = λ bounds source near are. moved_read P place (reader bounds source) (g.each bounds source near are) }

here_gives : {A : Type 0} (P : A → Type 0) (reader : ℕ → Reader A) → ((place : ℕ) → place < 2 ^ 64 → Gives P (reader place)) → Gives P (from_here reader)
here_gives P reader g = record { each = λ bounds source near are. (g source.place (omega (arith, are.few))).each bounds source near are }

most_give : (most : ℕ) → most < 2 ^ 65 → Gives (AreAtMost most) (most_octets_at most)
most_give most small = record { each = λ bounds source near are. fewer (min most (octets_to_end bounds.end source.place)) bounds source (omega arith) are }
  where
    weaken : (size : ℕ) (read : Result (List ℕ × Source) Fault) → size ≤ most → IsRead (AreAtMost size) read → IsRead (AreAtMost most) read
    weaken size (Ok read) less is = ((is.0.0, omega (arith, is.0.1, less)), is.1)
    weaken size (Err fault) less is = is

    fewer : (size : ℕ) (bounds : Bounds) (source : Source) → size ≤ most → IsSource source → IsRead (AreAtMost most) (octets_at size bounds source)
    fewer size bounds source less are = weaken size (octets_at size bounds source) less (limited_read size bounds source (omega (arith, less, small)) are)

reversed_are : (octets : List ℕ) → AreOctets octets → AreOctets (reverse octets)
reversed_are [] are = tt
reversed_are (octet ∷ octets) are = subst AreOctets (sym (reverse-cons octet octets)) (AreOctets-append (reverse octets) (octet ∷ []) (reversed_are octets are.1) (are.0, tt))

in_order_small : (width : Width) → IsWide width → (order : ByteOrder) (octets : List ℕ) → AreOctets octets → IsBelow width (in_order width order octets)
in_order_small width wide orders.BigEndian octets are = wide.below octets are
in_order_small width wide orders.LittleEndian octets are = wide.below (reverse octets) (reversed_are octets are)

number_in_gives : (width : Width) → IsWide width → (order : ByteOrder) → Gives (IsBelow width) (number_in width order)
number_in_gives width wide order =
    then_gives (AreAtMost (byte_len width)) (IsBelow width) (next_octets_at None (byte_len width)) _ (piece_gives (byte_len width)) (λ octets is. gives (IsBelow width) (in_order width order octets) (in_order_small width wide order octets is.0))

field_gives : (name : FieldName) (width : Width) → IsWide width → (order : ByteOrder) → Gives (IsBelow width) (field_in name width order)
field_gives name width wide order = called_gives (IsBelow width) name (number_in width order) (number_in_gives width wide order)

-- the meaning of a number, or why it has none
abbrev IsChecked : {A : Type 0} → (A → Type 0) → Result A FileWhy → Type 0
IsChecked P (Ok value) = P value
IsChecked P (Err reason) = IsReason reason

either_checked : {A : Type 0} (P : A → Type 0) (test : Bool) (one other : Unit {0} → Result A FileWhy) → IsChecked P (one tt) → IsChecked P (other tt) → IsChecked P (when test one other)
either_checked P true one other a b = a
either_checked P false one other a b = b

checked_gives : {A : Type 0} (P : A → Type 0) (name : FieldName) (place : ℕ) (checked : Result A FileWhy) → place < 2 ^ 65 → IsChecked P checked → Gives P (checked_at name place checked)
checked_gives P name place (Ok value) small is = gives P value is
checked_gives P name place (Err reason) small is = record { each = λ bounds source near are. record { begin = small; length = is } }

checked_number_gives : {A : Type 0} (P : A → Type 0) (name : FieldName) (width : Width) → IsWide width → (order : ByteOrder) (check : ℕ → Result A FileWhy) → ((n : ℕ) → IsBelow width n → IsChecked P (check n)) → Gives P (checked_number name width order check)
checked_number_gives P name width wide order check each =
    here_gives P (λ place. field_in name width order >>= λ number. checked_at name place (check number)) (λ place small.
    then_gives (IsBelow width) P (field_in name width order) (λ number. checked_at name place (check number)) (field_gives name width wide order) (λ number is. checked_gives P name place (check number) (omega (arith, small)) (each number is)))

-- ---- packets
abbrev pub IsTime : Option Timestamp → Type 0
IsTime time = IfSome time (λ t. t.seconds < 2 ^ 32)

abbrev pub IsPacketNumber : ℕ → Type 0
IsPacketNumber number = number < 10 ^ 64

pub record IsPacket (packet : Packet) : Type 0 where
  pub number : IsPacketNumber packet.number
  pub octets : AreOctets packet.octets
  pub few : length packet.octets < 2 ^ 32
  pub size : packet.size < 2 ^ 32
  pub time : IsTime packet.time

time_is : (seconds nanoseconds : ℕ) → IsTime (time_at seconds nanoseconds)
time_is seconds nanoseconds = by (seconds == 0 || nat_le (2 ^ 32) seconds) refl
  where
    by : (none : Bool) → (seconds == 0 || nat_le (2 ^ 32) seconds) ≡ none → IsTime (when none (λ _. None) (λ _. Some (record { seconds = seconds; nanoseconds = nanoseconds })))
    by true e = tt
    by false e = grind (arith, nat_tests)

time_of_is : (nanoseconds : ℕ) → IsTime (time_of nanoseconds)
time_of_is nanoseconds = time_is (nanoseconds / 10 ^ 9) (nanoseconds % 10 ^ 9)

clock_is : (clock : Clock) (units : ℕ) → IsTime (clock_time clock units)
clock_is clock units = time_is (seconds_after clock.offset (nanoseconds clock.resolution units / 10 ^ 9)) (nanoseconds clock.resolution units % 10 ^ 9)

abbrev IsNext : Next → Type 0
IsNext (nexts.Packet packet format) = IsPacket packet
IsNext (nexts.NoPacket format) = Unit {0}
IsNext nexts.End = Unit {0}

-- of a pcap
record IsPacketHead (head : PacketHead) : Type 0 where
  captured_small : head.captured < 2 ^ 32
  original_small : head.original < 2 ^ 32

captured_is : (n : ℕ) → IsBelow w32 n → IsChecked (IsBelow w32) (captured n)
captured_is n small = either_checked (IsBelow w32) (nat_lt most_captured n) _ _ (omega (arith, small)) small

head_gives : (order : ByteOrder) → Gives IsPacketHead (packet_head_at order)
head_gives order =
    then_gives (IsBelow w32) IsPacketHead (field_in fields.Seconds w32 order) _ (field_gives fields.Seconds w32 wide32 order) (λ seconds _.
    then_gives (IsBelow w32) IsPacketHead (field_in fields.Fraction w32 order) _ (field_gives fields.Fraction w32 wide32 order) (λ fraction _.
    then_gives (IsBelow w32) IsPacketHead (checked_number fields.CapturedLength w32 order captured) _ (checked_number_gives (IsBelow w32) fields.CapturedLength w32 wide32 order captured captured_is) (λ size few.
    then_gives (IsBelow w32) IsPacketHead (field_in fields.OriginalLength w32 order) _ (field_gives fields.OriginalLength w32 wide32 order) (λ original small.
    gives IsPacketHead _ (record { captured_small = omega (arith, few); original_small = omega (arith, small) })))))

packet_gives : (header : Header) (count : ℕ) → count < 2 ^ 64 → Gives IsPacket (packet_at header count)
packet_gives header count small =
    then_gives IsPacketHead IsPacket (packet_head_at header.form.order) _ (head_gives header.form.order) (λ head is.
    then_gives (AreAtMost head.captured) IsPacket (called fields.Data (octets_at head.captured)) _ (called_gives (AreAtMost head.captured) fields.Data (octets_at head.captured) (octets_give head.captured (omega (arith, is.captured_small)))) (λ octets are.
    gives IsPacket _ (record {
      number = omega (arith, small);
      octets = are.0;
      few = omega (arith, are.1, is.captured_small);
      size = omega (arith, is.captured_small, is.original_small);
      time = time_of_is (head.seconds * 10 ^ 9 + head.fraction * unit header.form.precision);
    })))

abbrev IsPacketIf : Option Packet → Type 0
IsPacketIf packet = IfSome packet IsPacket

next_gives : (header : Header) (count : ℕ) → count < 2 ^ 64 → Gives IsPacketIf (next_at header count)
next_gives header count small = record {
  each = λ bounds source near are.
      either_read IsPacketIf (is_empty source.octets) (λ _. Ok (None, source)) (λ _. (packet_at header count >>= λ packet. succeed (Some packet)) bounds source) (tt, are)
      ((then_gives IsPacket IsPacketIf (packet_at header count) (λ packet. succeed (Some packet)) (packet_gives header count small) (λ packet is. gives IsPacketIf (Some packet) is)).each bounds source near are);
}

no_length : {A : Type 0} (test : Bool) (value : A) (reason : FileWhy) → IsReason reason → IsChecked Anything (when test (λ _. Ok value) (λ _. Err reason))
no_length test value reason is = either_checked Anything test (λ _. Ok value) (λ _. Err reason) tt is

header_gives : (form : Form) → Gives Anything (header_at form)
header_gives form =
    then_gives Anything Anything (checked_number fields.Version w32 form.order (version form.order)) _ (checked_number_gives Anything fields.Version w32 wide32 form.order (version form.order) (λ n _. no_length _ tt why.Version tt)) (λ _ _.
    then_gives Anything Anything (called fields.ThisZone (number_at w32)) _ (called_gives Anything fields.ThisZone (number_at w32) (any_gives (IsBelow w32) (number_at w32) (number_gives w32 wide32))) (λ _ _.
    then_gives Anything Anything (called fields.SigFigs (number_at w32)) _ (called_gives Anything fields.SigFigs (number_at w32) (any_gives (IsBelow w32) (number_at w32) (number_gives w32 wide32))) (λ _ _.
    then_gives Anything Anything (called fields.SnapLen (number_at w32)) _ (called_gives Anything fields.SnapLen (number_at w32) (any_gives (IsBelow w32) (number_at w32) (number_gives w32 wide32))) (λ _ _.
    then_gives (IsBelow w32) Anything (field_in fields.LinkType w32 form.order) _ (field_gives fields.LinkType w32 wide32 form.order) (λ link _.
    gives Anything _ tt)))))

after_packet_is : (header : Header) (packet : Option Packet) → IsPacketIf packet → IsNext (after_packet header packet)
after_packet_is header None is = tt
after_packet_is header (Some packet) is = is

-- of a pcapng
abbrev IsContent : Content → Type 0
IsContent (contents.Section order) = Unit {0}
IsContent (contents.Interface interface) = Unit {0}
IsContent (contents.Packet packet) = IsPacket packet
IsContent contents.Other = Unit {0}

timestamp_gives : (order : ByteOrder) → Gives Anything (timestamp_at order)
timestamp_gives order =
    then_gives (IsBelow w32) Anything (field_in fields.Timestamp w32 order) _ (field_gives fields.Timestamp w32 wide32 order) (λ high _.
    then_gives (IsBelow w32) Anything (field_in fields.Timestamp w32 order) _ (field_gives fields.Timestamp w32 wide32 order) (λ low _.
    gives Anything _ tt))

timed_gives : (order : ByteOrder) (count : ℕ) (interface : Interface) → count < 2 ^ 64 → Gives IsPacket (timed_packet_at order count interface)
timed_gives order count interface few =
    then_gives Anything IsPacket (timestamp_at order) _ (timestamp_gives order) (λ units _.
    then_gives (IsBelow w32) IsPacket (field_in fields.CapturedLength w32 order) _ (field_gives fields.CapturedLength w32 wide32 order) (λ size small.
    then_gives (IsBelow w32) IsPacket (field_in fields.OriginalLength w32 order) _ (field_gives fields.OriginalLength w32 wide32 order) (λ original original_small.
    then_gives (AreAtMost size) IsPacket (called fields.Data (octets_at size)) _ (called_gives (AreAtMost size) fields.Data (octets_at size) (octets_give size (omega (arith, small)))) (λ octets are.
    gives IsPacket _ (record { number = omega (arith, few); octets = are.0; few = omega (arith, are.1, small); size = omega (arith, small, original_small); time = clock_is interface.clock units })))))

-- an interface of an index, if it is announced
announced_is : (interfaces : List Interface) (index : ℕ) → IsChecked Anything (announced interfaces index)
announced_is interfaces index = by (slice_get interfaces index)
  where
    by : (interface : Option Interface) → IsChecked Anything (is_announced interface)
    by None = tt
    by (Some interface) = tt

enhanced_gives : (order : ByteOrder) (count : ℕ) (interfaces : List Interface) → count < 2 ^ 64 → Gives IsPacket (enhanced_packet_at order count interfaces)
enhanced_gives order count interfaces few =
    then_gives Anything IsPacket (checked_number fields.Interface w32 order (announced interfaces)) _ (checked_number_gives Anything fields.Interface w32 wide32 order (announced interfaces) (λ n _. announced_is interfaces n)) (λ interface _. timed_gives order count interface few)

old_gives : (order : ByteOrder) (count : ℕ) (interfaces : List Interface) → count < 2 ^ 64 → Gives IsPacket (old_packet_at order count interfaces)
old_gives order count interfaces few =
    then_gives Anything IsPacket (checked_number fields.Interface w16 order (announced interfaces)) _ (checked_number_gives Anything fields.Interface w16 wide16 order (announced interfaces) (λ n _. announced_is interfaces n)) (λ interface _.
    then_gives (IsBelow w16) IsPacket (field_in fields.Drops w16 order) _ (field_gives fields.Drops w16 wide16 order) (λ drops _. timed_gives order count interface few))

first_gives : (interfaces : List Interface) → Gives Anything (first_interface interfaces)
first_gives interfaces = here_gives Anything (λ place. checked_at fields.Interface place (announced interfaces 0)) (λ place small. checked_gives Anything fields.Interface place (announced interfaces 0) (omega (arith, small)) (announced_is interfaces 0))

most_few : (snaplen original : ℕ) → most_of snaplen original ≤ original
most_few snaplen original = either_has (λ n. n ≤ original) (snaplen == 0) (λ _. original) (λ _. min original snaplen) (omega arith) (omega arith)

simple_gives : (order : ByteOrder) (count : ℕ) (interfaces : List Interface) → count < 2 ^ 64 → Gives IsPacket (simple_packet_at order count interfaces)
simple_gives order count interfaces few =
    then_gives Anything IsPacket (first_interface interfaces) _ (first_gives interfaces) (λ interface _.
    then_gives (IsBelow w32) IsPacket (field_in fields.OriginalLength w32 order) _ (field_gives fields.OriginalLength w32 wide32 order) (λ original small.
    let most : ℕ = most_of interface.snaplen original in
    let less = most_few interface.snaplen original in
    then_gives (AreAtMost most) IsPacket (called fields.Data (most_octets_at most)) _ (called_gives (AreAtMost most) fields.Data (most_octets_at most) (most_give most (omega (arith, less, small)))) (λ octets are.
    gives IsPacket _ (record { number = omega (arith, few); octets = are.0; few = omega (arith, are.1, less, small); size = omega (arith, small); time = tt }))))

-- options of an interface, of which the values are not looked at here
value_gives : (order : ByteOrder) (code size : ℕ) → Gives Anything (value_at order code size)
value_gives order code size =
    either_gives Anything (code == 9 && size == 1) _ _
    (then_gives Anything Anything (number_at w8) _ (any_gives (IsBelow w8) (number_at w8) (number_gives w8 wide8)) (λ octet _. then_gives Anything Anything (skipped_at 3) _ (skipped_gives 3) (λ zeros _. gives Anything _ tt)))
    (either_gives Anything (code == 14 && size == 8) _ _
    (then_gives (AreAtMost 8) Anything (next_octets_at None 8) _ (piece_gives 8) (λ octets _. gives Anything _ tt))
    (then_gives Anything Anything (skipped_at (padded size)) _ (skipped_gives (padded size)) (λ zeros _. gives Anything _ tt)))

setting_gives : (order : ByteOrder) → Gives Anything (setting_at order)
setting_gives order =
    then_gives (IsBelow w16) Anything (number_in w16 order) _ (number_in_gives w16 wide16 order) (λ code _.
    then_gives (IsBelow w16) Anything (number_in w16 order) _ (number_in_gives w16 wide16 order) (λ size _.
    either_gives Anything (code == 0) _ _ (gives Anything _ tt) (then_gives Anything Anything (value_at order code size) _ (value_gives order code size) (λ setting _. gives Anything _ tt))))

option_gives : (order : ByteOrder) → Gives Anything (option_at order)
option_gives order = here_gives Anything _ (λ place _. moved_gives Anything place (called fields.Options (setting_at order)) (called_gives Anything fields.Options (setting_at order) (setting_gives order)))

after_setting_gives : (found : Options) (setting : Option Setting) (others : Options → Reader Options) → ((more : Options) → Gives Anything (others more)) → Gives Anything (after_setting found setting others)
after_setting_gives found None others each = gives Anything found tt
after_setting_gives found (Some setting) others each = each (with_setting setting found)

options_within_give : (bound : ℕ) (order : ByteOrder) (found : Options) → Gives Anything (options_within bound order found)
options_within_give zero order found = gives Anything found tt
options_within_give (suc bound) order found = record {
  each = λ bounds source near are.
      (either_gives Anything (is_at_end bounds source) (λ _. succeed found) (λ _. option_at order >>= λ setting. after_setting found setting (options_within bound order)) (gives Anything found tt)
      (then_gives Anything Anything (option_at order) _ (option_gives order) (λ setting _. after_setting_gives found setting (options_within bound order) (options_within_give bound order)))).each bounds source near are;
}

options_give : (order : ByteOrder) → Gives Anything (options_at order)
options_give order = record { each = λ bounds source near are. (options_within_give (octets_to_end bounds.end source.place) order no_options).each bounds source near are }

interface_gives : (order : ByteOrder) → Gives Anything (interface_at order)
interface_gives order =
    then_gives (IsBelow w16) Anything (field_in fields.LinkType w16 order) _ (field_gives fields.LinkType w16 wide16 order) (λ link _.
    then_gives (IsBelow w16) Anything (field_in fields.Reserved w16 order) _ (field_gives fields.Reserved w16 wide16 order) (λ reserved _.
    then_gives (IsBelow w32) Anything (field_in fields.SnapLen w32 order) _ (field_gives fields.SnapLen w32 wide32 order) (λ snaplen _.
    then_gives Anything Anything (options_at order) _ (options_give order) (λ options _.
    gives Anything _ tt))))

-- the value of a body, or its fault; what is left of it does not matter
abbrev IsValue : Result Content Fault → Type 0
IsValue (Ok content) = IsContent content
IsValue (Err fault) = IsFault fault

value_is : (read : Result (Content × Source) Fault) → IsRead IsContent read → IsValue (value_of read)
value_is (Ok read) is = is.0
value_is (Err fault) is = is

made_gives : {A : Type 0} (P : A → Type 0) (reader : Reader A) (make : A → Content) → Gives P reader → ((value : A) → P value → IsContent (make value)) → Gives IsContent (reader >>= λ value. succeed (make value))
made_gives P reader make g is = then_gives P IsContent reader (λ value. succeed (make value)) g (λ value good. gives IsContent (make value) (is value good))

content_gives : (kind : BlockKind) (order : ByteOrder) (count : ℕ) (interfaces : List Interface) → count < 2 ^ 64 → Gives IsContent (content_at kind order count interfaces)
content_gives kinds.Section order count interfaces few =
    made_gives Anything (checked_number fields.Version w16 order section_version) (λ version. contents.Section order) (checked_number_gives Anything fields.Version w16 wide16 order section_version (λ n _. no_length _ tt why.Version tt)) (λ _ _. tt)
content_gives kinds.Interface order count interfaces few = made_gives Anything (interface_at order) contents.Interface (interface_gives order) (λ _ _. tt)
content_gives kinds.OldPacket order count interfaces few = made_gives IsPacket (old_packet_at order count interfaces) contents.Packet (old_gives order count interfaces few) (λ _ is. is)
content_gives kinds.SimplePacket order count interfaces few = made_gives IsPacket (simple_packet_at order count interfaces) contents.Packet (simple_gives order count interfaces few) (λ _ is. is)
content_gives kinds.EnhancedPacket order count interfaces few = made_gives IsPacket (enhanced_packet_at order count interfaces) contents.Packet (enhanced_gives order count interfaces few) (λ _ is. is)
content_gives kinds.Other order count interfaces few = gives IsContent contents.Other tt

body_is : (kind : BlockKind) (order : ByteOrder) (count : ℕ) (interfaces : List Interface) (body : List ℕ) → count < 2 ^ 64 → AreAtMost (2 ^ 32) body → IsValue (in_body (content_at kind order count interfaces) body)
body_is kind order count interfaces body few are =
    value_is (content_at kind order count interfaces (ended (Some (length body))) (source_of body))
    ((content_gives kind order count interfaces few).each (ended (Some (length body))) (source_of body) (omega (arith, are.1)) (record { octets = are.0; few = omega (arith, are.1) }))

in_file_gives : (begin : ℕ) (content : Result Content Fault) → IsValue content → Gives IsContent (content_in_file begin content)
in_file_gives begin (Ok content) is = gives IsContent content is
in_file_gives begin (Err fault) is = record { each = λ bounds source near are. record { begin = is.begin; length = is.length } }

passed_gives : (head : Head) → Gives IsContent (skipped_body head)
passed_gives head =
    then_gives Anything IsContent (called fields.Body (skipped_at head.left)) (λ zeros. succeed contents.Other)
    (called_gives Anything fields.Body (skipped_at head.left) (skipped_gives head.left))
    (λ zeros _. gives IsContent contents.Other tt)

-- what is left of a block
abbrev IsHead : Head → Type 0
IsHead head = head.left < 2 ^ 32

read_gives : (kind : BlockKind) (section : Section) (count place : ℕ) (head : Head) → count < 2 ^ 64 → IsHead head → Gives IsContent (read_body kind section count place head)
read_gives kind section count place head few small =
    here_gives IsContent (λ begin. moved_at place (called fields.Body (octets_at head.left)) >>= λ octets. content_in_file begin (in_body (content_at kind head.order count section.interfaces) octets)) (λ begin _.
    then_gives (AreAtMost head.left) IsContent (moved_at place (called fields.Body (octets_at head.left))) (λ octets. content_in_file begin (in_body (content_at kind head.order count section.interfaces) octets))
    (moved_gives (AreAtMost head.left) place (called fields.Body (octets_at head.left)) (called_gives (AreAtMost head.left) fields.Body (octets_at head.left) (octets_give head.left (omega (arith, small)))))
    (λ octets are. in_file_gives begin (in_body (content_at kind head.order count section.interfaces) octets) (body_is kind head.order count section.interfaces octets few (are.0, omega (arith, are.1, small)))))

body_gives : (kind : BlockKind) (section : Section) (count place : ℕ) (head : Head) → count < 2 ^ 64 → IsHead head → Gives IsContent (body_in kind section count place head)
body_gives kinds.Other section count place head few small = passed_gives head
body_gives kinds.Section section count place head few small = read_gives kinds.Section section count place head few small
body_gives kinds.Interface section count place head few small = read_gives kinds.Interface section count place head few small
body_gives kinds.OldPacket section count place head few small = read_gives kinds.OldPacket section count place head few small
body_gives kinds.SimplePacket section count place head few small = read_gives kinds.SimplePacket section count place head few small
body_gives kinds.EnhancedPacket section count place head few small = read_gives kinds.EnhancedPacket section count place head few small

-- the length of a block
size_is : (size : ℕ) → IsBelow w32 size → IsChecked (IsBelow w32) (body_size size)
size_is size small =
    either_checked (IsBelow w32) (nat_lt size 12 || not (size % 4 == 0)) _ _ (omega (arith, small)) (either_checked (IsBelow w32) (nat_lt 16777216 size) _ _ (omega (arith, small)) (omega (arith, small)))

head_is : (order : ByteOrder) (size : ℕ) (left : Result ℕ FileWhy) → IsChecked (IsBelow w32) left → IsChecked IsHead (whole_head order size left)
head_is order size (Ok left) is = omega (arith, is)
head_is order size (Err reason) is = is

order_is : (n : ℕ) → IsChecked Anything (byte_order n)
order_is n = either_checked Anything (n == 0x1A2B3C4D) _ _ tt (either_checked Anything (n == 0x4D3C2B1A) _ _ tt tt)

left_is : (size : ℕ) → IsBelow w32 size → IsChecked (IsBelow w32) (after_byte_order size)
left_is size small = either_checked (IsBelow w32) (nat_lt size 4) _ _ tt (omega (arith, small))

section_head_gives : Gives IsHead section_head_at
section_head_gives =
    here_gives IsHead _ (λ place near.
    then_gives (AreAtMost 4) IsHead (called fields.Length (next_octets_at None 4)) _ (called_gives (AreAtMost 4) fields.Length (next_octets_at None 4) (piece_gives 4)) (λ octets are.
    then_gives Anything IsHead (checked_number fields.ByteOrder w32 orders.BigEndian byte_order) _ (checked_number_gives Anything fields.ByteOrder w32 wide32 orders.BigEndian byte_order (λ n _. order_is n)) (λ order _.
    then_gives (IsBelow w32) IsHead (checked_at fields.Length place (body_size (in_order w32 order octets))) _
    (checked_gives (IsBelow w32) fields.Length place (body_size (in_order w32 order octets)) (omega (arith, near)) (size_is (in_order w32 order octets) (in_order_small w32 wide32 order octets are.0))) (λ size small.
    then_gives (IsBelow w32) IsHead (checked_at fields.ByteOrder (place + 4) (after_byte_order size)) _ (checked_gives (IsBelow w32) fields.ByteOrder (place + 4) (after_byte_order size) (omega (arith, near)) (left_is size small)) (λ left few.
    gives IsHead (record { order = order; length = in_order w32 order octets; left = left }) (omega (arith, few)))))))

length_gives : (order : ByteOrder) → Gives IsHead (checked_number fields.Length w32 order (head_of order))
length_gives order = checked_number_gives IsHead fields.Length w32 wide32 order (head_of order) (λ n small. head_is order n (body_size n) (size_is n small))

head_at_gives : (kind : BlockKind) (order : ByteOrder) → Gives IsHead (head_at kind order)
head_at_gives kinds.Section order = section_head_gives
head_at_gives kinds.Interface order = length_gives order
head_at_gives kinds.OldPacket order = length_gives order
head_at_gives kinds.SimplePacket order = length_gives order
head_at_gives kinds.EnhancedPacket order = length_gives order
head_at_gives kinds.Other order = length_gives order

block_gives : (kind : BlockKind) (section : Section) (count : ℕ) → count < 2 ^ 64 → Gives IsContent (block_in kind section count)
block_gives kind section count few =
    here_gives IsContent _ (λ start _.
    then_gives IsHead IsContent (head_at kind section.order) _ (head_at_gives kind section.order) (λ head small.
    then_gives IsContent IsContent (body_in kind section count (start + 4) head) _ (body_gives kind section count (start + 4) head few small) (λ content is.
    then_gives Anything IsContent (end_in head) _ (checked_number_gives Anything fields.LengthAgain w32 wide32 head.order (same_length head.length) (λ n _. no_length _ tt why.Overrun tt)) (λ _ _.
    gives IsContent content is))))

after_content_is : (section : Section) (content : Content) → IsContent content → IsNext (after_content section content)
after_content_is section (contents.Section order) is = tt
after_content_is section (contents.Interface interface) is = tt
after_content_is section (contents.Packet packet) is = is
after_content_is section contents.Other is = tt

block_after_gives : (kind : BlockKind) (section : Section) (count : ℕ) → count < 2 ^ 64 → Gives IsNext (block_after kind section count)
block_after_gives kind section count few =
    then_gives IsContent IsNext (whole_block_in kind section count) (λ content. succeed (after_content section content))
    (here_gives IsContent (λ start. part_from (parts.Block section.blocks) (start - 4) (block_in kind section count)) (λ start small. from_gives IsContent (parts.Block section.blocks) (start - 4) (block_in kind section count) (omega (arith, small)) (block_gives kind section count few)))
    (λ content is. gives IsNext (after_content section content) (after_content_is section content is))

kind_gives : (order : ByteOrder) → Gives Anything (next_kind_at order)
kind_gives order = record {
  each = λ bounds source near are.
      either_read Anything (is_empty source.octets) (λ _. Ok (None, source)) (λ _. (field_in fields.Type w32 order >>= λ number. succeed (Some (block_kind number))) bounds source) (tt, are)
      ((then_gives (IsBelow w32) Anything (field_in fields.Type w32 order) (λ number. succeed (Some (block_kind number))) (field_gives fields.Type w32 wide32 order) (λ number _. gives Anything (Some (block_kind number)) tt)).each bounds source near are);
}

after_kind_gives : (section : Section) (count : ℕ) (kind : Option BlockKind) → count < 2 ^ 64 → Gives IsNext (after_kind section count kind)
after_kind_gives section count None few = gives IsNext nexts.End tt
after_kind_gives section count (Some kind) few = block_after_gives kind section count few

-- ---- a file
format_is : (n : ℕ) → IsChecked Anything (magic_of n)
format_is n =
    either_checked Anything (n == 0xA1B2C3D4) _ _ tt
    (either_checked Anything (n == 0xD4C3B2A1) _ _ tt
    (either_checked Anything (n == 0xA1B23C4D) _ _ tt
    (either_checked Anything (n == 0x4D3CB2A1) _ _ tt
    (either_checked Anything (n == 0x0A0D0D0A) _ _ tt tt))))

magic_gives : (count : ℕ) (magic : Magic) → count < 2 ^ 64 → Gives IsNext (after_magic count magic)
magic_gives count (magics.Pcap form) few = then_gives Anything IsNext (header_at form) (λ header. succeed (nexts.NoPacket (formats.Pcap header))) (header_gives form) (λ header _. gives IsNext (nexts.NoPacket (formats.Pcap header)) tt)
magic_gives count magics.Pcapng few = block_after_gives kinds.Section (record { order = orders.BigEndian; interfaces = []; blocks = 0 }) count few

step_gives : (format : Format) (count : ℕ) → count < 2 ^ 64 → Gives IsNext (next_in format count)
step_gives formats.Unknown count few =
    then_gives Anything IsNext magic_at (after_magic count) (checked_number_gives Anything fields.Magic w32 wide32 orders.BigEndian magic_of (λ n _. format_is n)) (λ magic _. magic_gives count magic few)
step_gives (formats.Pcap header) count few =
    then_gives IsPacketIf IsNext (packet_in header count) (λ packet. succeed (after_packet header packet)) (part_gives IsPacketIf (parts.Packet count) (next_at header count) (next_gives header count few))
    (λ packet is. gives IsNext (after_packet header packet) (after_packet_is header packet is))
step_gives (formats.Pcapng section) count few =
    then_gives Anything IsNext (in_part (parts.Block section.blocks) (next_kind_at section.order)) (after_kind section count) (part_gives Anything (parts.Block section.blocks) (next_kind_at section.order) (kind_gives section.order))
    (λ kind _. after_kind_gives section count kind few)

-- the packets, and the fault after them, if there is one
pub record ArePackets (all : Packets) : Type 0 where
  pub each : AllByRecursion IsPacket all.items
  pub end : IfSome all.end IsFault

steps_give : (bound count : ℕ) (read : Result (Next × Source) Fault) → count + suc bound ≤ 2 ^ 64 → IsRead IsNext read → ((format : Format) (count : ℕ) (source : Source) → count + bound ≤ 2 ^ 64 → IsSource source → ArePackets (packets_within bound format count source)) → ArePackets (packets_from count read (packets_within bound))
steps_give bound count (Err fault) few is others = record { each = tt; end = is }
steps_give bound count (Ok (nexts.Packet packet format, source)) few is others = let rest = others format (count + 1) source (omega (arith, few)) is.1 in record { each = (is.0, rest.each); end = rest.end }
steps_give bound count (Ok (nexts.NoPacket format, source)) few is others = others format count source (omega (arith, few)) is.1
steps_give bound count (Ok (nexts.End, source)) few is others = record { each = tt; end = tt }

within_give : (bound : ℕ) (format : Format) (count : ℕ) (source : Source) → count + bound ≤ 2 ^ 64 → IsSource source → ArePackets (packets_within bound format count source)
within_give zero format count source few are = record { each = tt; end = tt }
within_give (suc bound) format count source few are =
    steps_give bound count (next_in format count (limited (Some most_captured)) source) few ((step_gives format count (omega (arith, few))).each (limited (Some most_captured)) source tt are) (within_give bound)

pub packets_are : (file : List ℕ) → AreOctets file → length file < 2 ^ 64 → ArePackets (packets file)
packets_are file are few = within_give (suc (length file)) formats.Unknown 0 (source_of file) (omega (arith, few)) (record { octets = are; few = omega (arith, few) })
