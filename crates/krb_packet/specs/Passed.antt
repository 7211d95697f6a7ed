-- The numbers after which a packet is passed over: what they announce carries no packet of IP. It is these that are listed, and not the envelopes of packets: so what is missing here is counted as unread, and hides nothing.
use Rattle.std.specs.Prelude.{ℕ, ◌||◌, ◌==◌, ◌++◌, nat_lt, Bool, List, [], ◌∷◌}
use Rattle.std.specs.List.{list_any}

abbrev pub is_one_of : List ℕ → ℕ → Bool
is_one_of numbers number = list_any (λ one. one == number) numbers

-- ---- EtherTypes (IANA, "IEEE 802 Numbers")

-- neighbours, their addresses and routes: ARP, Wake-on-LAN, stream reservation, IS-IS, RARP, LLDP, LLTD, IEEE 1905, edge control
abbrev pub neighbour_types : List ℕ
neighbour_types = 0x0806 ∷ 0x0842 ∷ 0x22EA ∷ 0x22F4 ∷ 0x8035 ∷ 0x88CC ∷ 0x88D9 ∷ 0x893A ∷ 0x8940 ∷ []

-- older networks: DECnet, LAT and their like, AppleTalk, IPX, Qnet
abbrev pub older_types : List ℕ
older_types = 0x6001 ∷ 0x6002 ∷ 0x6003 ∷ 0x6004 ∷ 0x6007 ∷ 0x809B ∷ 0x80F3 ∷ 0x8137 ∷ 0x8138 ∷ 0x8204 ∷ []

-- the link itself: WLCCP, pause, LACP, PPPoE discovery, HomePNA, adapters in teams, load balancing, HomePlug, EAPOL, switches, pre-authentication, MRP, MVRP, MMRP, NC-SI, PRP, CFM, IEEE 802.11, and a test of loops
abbrev pub control_types : List ℕ
control_types = 0x872D ∷ 0x8808 ∷ 0x8809 ∷ 0x8863 ∷ 0x886C ∷ 0x886D ∷ 0x886F ∷ 0x887B ∷ 0x888E ∷ 0x8899 ∷ 0x88C7 ∷ 0x88E1 ∷ 0x88E3 ∷ 0x88F5 ∷ 0x88F6 ∷ 0x88F8 ∷ 0x88FB ∷ 0x8902 ∷ 0x890D ∷ 0x8912 ∷ 0x8922 ∷ 0x9000 ∷ []

-- sound and video, time, clusters and storage: AVTP, PTP, TIPC, ATA, FCoE and its beginning, RoCE
abbrev pub content_types : List ℕ
content_types = 0x22F0 ∷ 0x88F7 ∷ 0x88CA ∷ 0x88A2 ∷ 0x8906 ∷ 0x8914 ∷ 0x8915 ∷ []

-- field buses: PROFINET, EtherCAT, POWERLINK, IEC 61850, SERCOS III, TTEthernet
abbrev pub field_types : List ℕ
field_types = 0x8892 ∷ 0x88A4 ∷ 0x88AB ∷ 0x88B8 ∷ 0x88B9 ∷ 0x88BA ∷ 0x88CD ∷ 0x891D ∷ []

abbrev pub passed_types : List ℕ
passed_types = neighbour_types ++ older_types ++ control_types ++ content_types ++ field_types

-- Below 0600 there is no EtherType (IEEE 802.3, 3.2.6): what is no length there, either, is of protocols of its own.
unfoldable pub is_passed_type : ℕ → Bool
is_passed_type kind = nat_lt kind 0x0600 || is_one_of passed_types kind

-- ---- protocols of IP (IANA, "Protocol Numbers")

-- messages about packets, and groups: ICMP, IGMP, ICMPv6
abbrev pub message_protocols : List ℕ
message_protocols = 1 ∷ 2 ∷ 58 ∷ []

-- routes: GGP, EGP, IGP, RSVP, EIGRP, OSPF, PIM, VRRP, IS-IS, mobility (RFC 6275)
abbrev pub routing_protocols : List ℕ
routing_protocols = 3 ∷ 8 ∷ 9 ∷ 46 ∷ 88 ∷ 89 ∷ 103 ∷ 112 ∷ 124 ∷ 135 ∷ []

-- other transports than UDP and TCP: DCCP, PGM, SCTP, UDP-Lite
abbrev pub transport_protocols : List ℕ
transport_protocols = 33 ∷ 113 ∷ 132 ∷ 136 ∷ []

-- nothing (RFC 8200, 4.7)
abbrev pub no_protocol : List ℕ
no_protocol = 59 ∷ []

abbrev pub passed_protocols : List ℕ
passed_protocols = message_protocols ++ routing_protocols ++ transport_protocols ++ no_protocol

unfoldable pub is_passed_protocol : ℕ → Bool
is_passed_protocol protocol = is_one_of passed_protocols protocol
