-- The types of links, and the times of packets.
use Rattle.std.specs.Prelude.{ℕ, ◌/◌, ◌%◌, ◌^◌, ◌||◌, ◌==◌, nat_le, Option, Some, None}
use Rattle.krb_der.specs.Octets.{when}
use Rattle.krb_packet.specs.declared.packet.LinkType.{LinkType}
use Rattle.krb_packet.specs.declared.packet.LinkType.TheVariants as links
use Rattle.krb_source.specs.declared.timestamp.Timestamp.{Timestamp}

abbrev pub link_type : ℕ → LinkType
link_type number =
    when (number == 1) (λ _. links.Ethernet) (λ _.
    when (number == 113) (λ _. links.LinuxCooked) (λ _.
    when (number == 276) (λ _. links.LinuxCooked2) (λ _.
    when (number == 12 || (number == 14 || number == 101)) (λ _. links.RawIp) (λ _.
    when (number == 228) (λ _. links.Ipv4) (λ _.
    when (number == 229) (λ _. links.Ipv6) (λ _.
    when (number == 0) (λ _. links.BsdLoopback) (λ _.
    when (number == 108) (λ _. links.OpenBsdLoopback) (λ _.
    links.Other number))))))))

-- a time after the beginning of 1970, if its seconds are a number of 32 bits and not 0
abbrev pub time_at : ℕ → ℕ → Option Timestamp
time_at seconds nanoseconds = when (seconds == 0 || nat_le (2 ^ 32) seconds) (λ _. None) (λ _. Some (record { seconds = seconds; nanoseconds = nanoseconds }))

abbrev pub time_of : ℕ → Option Timestamp
time_of nanoseconds = time_at (nanoseconds / 10 ^ 9) (nanoseconds % 10 ^ 9)
