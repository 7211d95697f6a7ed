-- What is passed over was so by a number that is listed: header by header, and then along the walk.
use Rattle.std.proofs.Common.{◌≡◌, ℕ, suc, zero, ◌+◌, ◌*◌, ◌<◌, ◌≤◌, ◌⊎◌, ◌/◌, ◌%◌, ◌^◌, inl, inr, Bool, true, false, Option, Some, None, refl, sym, ◌∙◌, ap, subst, arith}
use Rattle.std.specs.Prelude.{◌==◌, ◌||◌, ◌&&◌, bit_and, nat_le, nat_lt, IsSomeAnd, length}
use Rattle.std.proofs.lemmas.Bool.{eqb-true, leb-true, leb-false, ltb-true}
use Rattle.std.specs.declared.net.ip_addr.IpAddr.{IpAddr}
use Rattle.std.specs.declared.net.ip_addr.IpAddr.TheVariants as ip
use Rattle.krb_packet.specs.Contents.{addresses4, addresses6, after_headers, announced, authentication, bsd_loopback, cooked, cooked_type, datagram, datagram_or_tunnel, ends, ethernet, extensions, fragment, frame, in_either_order, ipv4, ipv6, is_followed, is_tag, logical_link, may_lead_on, of_family, of_fragment, of_other_protocol, of_protocol, of_type, of_type_or_length, onwards, openbsd_loopback, or_unread, or_unread_between, payload_between, payload_of, raw_ip, segment, snap, snap_type, step, tag, tcp, udp, walk}
use Rattle.krb_packet.specs.Envelopes.{after_labels, gre, label, long_ppp, mirrored2, mirrored3, of_frame_kind, of_gre, of_ppp, pseudowire, session}
use Rattle.krb_packet.specs.Icmp.{error, or_passed}
use Rattle.krb_packet.specs.Passed.{is_passed_protocol, is_passed_type}
use Rattle.krb_packet.specs.Payloads.{Captured, ◌>>=◌, field, number8, number16, number32, after, beyond}
use Rattle.krb_packet.specs.Silence.{IsAccountedFor, IsBesideEsp, IsChannel, IsPassedCooked, IsPassedEthernet, IsPassedFamily, IsPassedFrame, IsPassedHeader, IsPassedIp, IsPassedLink, IsPassedOver, IsPassedPacket, IsPassedPayload, IsPassedProtocol, IsPassedSnap, IsPassedTunnel, IsPassedType, IsPassedTypeOrLength, NothingIsSilent, at_once, has_bridged, has_types, here, is_ip, is_snap, later, ppp_number, protocol4, protocol6, protocol_after, within}
use Rattle.krb_packet.specs.Tunnels.{beside_esp, geneve, is_served, is_tunnel, keep_alive, key_exchange, of_port, or_answer, payload, tunnel, vxlan}
use Rattle.krb_packet.specs.declared.contents.Contents.{Contents}
use Rattle.krb_packet.specs.declared.contents.Contents.TheVariants as contents
use Rattle.krb_packet.specs.declared.contents.Ends.{Ends}
use Rattle.krb_packet.specs.declared.contents.Fragment.{Fragment}
use Rattle.krb_packet.specs.declared.contents.IcmpError.{IcmpError}
use Rattle.krb_packet.specs.declared.header.Addresses.{Addresses}
use Rattle.krb_packet.specs.declared.header.Header.{Header}
use Rattle.krb_packet.specs.declared.header.Header.TheVariants as headers
use Rattle.krb_packet.specs.declared.header.Step.{Step}
use Rattle.krb_packet.specs.declared.header.Step.TheVariants as steps
use Rattle.krb_packet.specs.declared.packet.LinkType.{LinkType}
use Rattle.krb_packet.specs.declared.packet.LinkType.TheVariants as links

-- ---- what holds of contents, if they are passed over or a datagram

abbrev pub IsNoTunnel : ℕ → Ends → Type 0
IsNoTunnel port between = (is_served port between ≡ true) ⊎ (is_tunnel between.target.port ≡ false)

abbrev pub IsFine : ℕ → Type 0 → Contents → Type 0
IsFine port P (contents.Error error) = Unit {0}
IsFine port P contents.Other = P
IsFine port P (contents.Datagram datagram) = IsNoTunnel port (record { source = datagram.source; target = datagram.target })
IsFine port P (contents.Segment segment) = Unit {0}
IsFine port P (contents.Fragment fragment) = Unit {0}
IsFine port P (contents.UnreadBetween ends) = Unit {0}
IsFine port P contents.Unread = Unit {0}

-- of contents that were read
abbrev pub AreFine : ℕ → Type 0 → Option Contents → Type 0
AreFine port P None = Unit {0}
AreFine port P (Some read) = IsFine port P read

-- of what comes of a header
abbrev pub Goes : ℕ → Type 0 → Option Step → Type 0
Goes port P None = Unit {0}
Goes port P (Some (steps.Found read)) = IsFine port P read
Goes port P (Some (steps.Next header packet)) = Unit {0}

pub fine-anyhow : (port : ℕ) (P Q : Type 0) (read : Contents) → (P → Q) → IsFine port P read → IsFine port Q read
fine-anyhow port P Q (contents.Error error) h p = tt
fine-anyhow port P Q contents.Other h p = h p
fine-anyhow port P Q (contents.Datagram datagram) h p = p
fine-anyhow port P Q (contents.Segment segment) h p = p
fine-anyhow port P Q (contents.Fragment fragment) h p = p
fine-anyhow port P Q (contents.UnreadBetween ends) h p = p
fine-anyhow port P Q contents.Unread h p = p

pub anyhow : (port : ℕ) (P Q : Type 0) (o : Option Step) → (P → Q) → Goes port P o → Goes port Q o
anyhow port P Q None h p = tt
anyhow port P Q (Some (steps.Next header packet)) h p = tt
anyhow port P Q (Some (steps.Found read)) h p = fine-anyhow port P Q read h p

never : (port : ℕ) (P : Type 0) (o : Option Step) → Goes port ⊥ o → Goes port P o
never port P o p = anyhow port ⊥ P o (λ f. absurd f) p

-- ---- the two cases of a field that is read, and of a test

field_is : {A : Type 0} {P : Type 0} (o : Option A) → (o ≡ None → P) → ((a : A) → o ≡ Some a → P) → P
field_is None none some = none refl
field_is (Some a) none some = some a refl

test_is : {P : Type 0} (b : Bool) → (b ≡ true → P) → (b ≡ false → P) → P
test_is true one other = one refl
test_is false one other = other refl

-- ---- UDP and TCP

datagram-fine : (port : ℕ) (between : Ends) (packet : Captured) → IsNoTunnel port between → AreFine port ⊥ (datagram between packet)
unfolding datagram
datagram-fine port between packet is =
    field_is (number16 4 packet) (λ e. rw e tt) (λ length e. rw e (
    field_is (after 8 packet) (λ e. rw e tt) (λ rest e. rw e (
    test_is (nat_le 8 length) (λ e. rw e is) (λ e. rw e tt)))))

between-fine : (port : ℕ) (between : Ends) (read : Option Contents) → AreFine port ⊥ read → IsFine port ⊥ (or_unread_between between read)
between-fine port between None p = tt
between-fine port between (Some read) p = p

segment-fine : (port : ℕ) (between : Ends) (packet : Captured) → AreFine port ⊥ (segment between packet)
unfolding segment
segment-fine port between packet =
    field_is (number32 4 packet) (λ e. rw e tt) (λ sequence e. rw e (
    field_is (number8 12 packet) (λ e. rw e tt) (λ offset e. rw e (
    field_is (number8 13 packet) (λ e. rw e tt) (λ flags e. rw e (
    field_is (after 20 packet) (λ e. rw e tt) (λ options e. rw e (
    field_is (beyond (offset / 16 * 4) packet) (λ e. rw e tt) (λ rest e. rw e (
    test_is (nat_le 5 (offset / 16)) (λ e. rw e tt) (λ e. rw e tt)))))))))))

udp-goes : (port : ℕ) (addresses : Addresses) (packet : Captured) → Goes port ⊥ (udp addresses packet)
unfolding udp
udp-goes port addresses packet =
    field_is (ends addresses.source addresses.target packet) (λ e. rw e tt) (λ between e. rw e (
    test_is (is_tunnel between.target.port) (λ t. rw t tt) (λ t. rw t (between-fine port between (datagram between packet) (datagram-fine port between packet (inr t))))))

tcp-goes : (port : ℕ) (addresses : Addresses) (packet : Captured) → Goes port ⊥ (tcp addresses packet)
unfolding tcp
tcp-goes port addresses packet =
    field_is (ends addresses.source addresses.target packet) (λ e. rw e tt) (λ between e. rw e (between-fine port between (segment between packet) (segment-fine port between packet)))

-- ---- envelopes

authentication-goes : (port : ℕ) (addresses : Addresses) (packet : Captured) → Goes port ⊥ (authentication addresses packet)
unfolding authentication
authentication-goes port addresses packet =
    field_is (number8 0 packet) (λ e. rw e tt) (λ protocol e. rw e (
    field_is (number8 1 packet) (λ e. rw e tt) (λ words e. rw e (
    field_is (after (4 * words + 8) packet) (λ e. rw e tt) (λ rest e. rw e (
    test_is (nat_le 1 words) (λ e. rw e tt) (λ e. rw e tt)))))))

pseudowire-goes : (port : ℕ) (packet : Captured) → Goes port ⊥ (pseudowire packet)
unfolding pseudowire
pseudowire-goes port packet =
    field_is (number16 0 packet) (λ e. rw e tt) (λ flags e. rw e (
    field_is (after 4 packet) (λ e. rw e tt) (λ rest e. rw e (
    test_is (flags == 0) (λ e. rw e tt) (λ e. rw e tt)))))

mirrored2-goes : (port : ℕ) (packet : Captured) → Goes port ⊥ (mirrored2 packet)
unfolding mirrored2
mirrored2-goes port packet =
    field_is (number8 0 packet) (λ e. rw e tt) (λ first e. rw e (
    field_is (after 8 packet) (λ e. rw e tt) (λ rest e. rw e (
    test_is (first / 16 == 1) (λ e. rw e tt) (λ e. rw e tt)))))

of_frame_kind-goes : (port kind : ℕ) (packet : Captured) → Goes port ⊥ (of_frame_kind kind packet)
unfolding of_frame_kind
of_frame_kind-goes port kind packet = test_is (kind == 0) (λ e. rw e tt) (λ e. rw e (test_is (kind == 2) (λ e. rw e tt) (λ e. rw e tt)))

mirrored3-goes : (port : ℕ) (packet : Captured) → Goes port ⊥ (mirrored3 packet)
unfolding mirrored3
mirrored3-goes port packet =
    field_is (number8 0 packet) (λ e. rw e tt) (λ first e. rw e (
    field_is (number8 10 packet) (λ e. rw e tt) (λ kind e. rw e (
    field_is (number8 11 packet) (λ e. rw e tt) (λ last e. rw e (
    field_is (after (last % 2 * 8 + 12) packet) (λ e. rw e tt) (λ rest e. rw e (
    test_is (first / 16 == 2) (λ e. rw e (of_frame_kind-goes port (kind / 4 % 32) rest)) (λ e. rw e tt)))))))))

of_gre-goes : (port : ℕ) (is_numbered : Bool) (kind : ℕ) (packet : Captured) → Goes port ⊥ (of_gre is_numbered kind packet)
unfolding of_gre
of_gre-goes port is_numbered kind packet =
    test_is (kind == 0x88BE)
    (λ e. rw e (test_is is_numbered (λ n. rw n (mirrored2-goes port packet)) (λ n. rw n tt)))
    (λ e. rw e (test_is (kind == 0x22EB) (λ k. rw k (mirrored3-goes port packet)) (λ k. rw k tt)))

gre-goes : (port : ℕ) (packet : Captured) → Goes port ⊥ (gre packet)
unfolding gre
gre-goes port packet =
    field_is (number16 0 packet) (λ e. rw e tt) (λ flags e. rw e (
    field_is (number16 2 packet) (λ e. rw e tt) (λ kind e. rw e (
    field_is (after ((flags / 2 ^ 15 + flags / 2 ^ 13 % 2 + flags / 2 ^ 12 % 2) * 4 + 4) packet) (λ e. rw e tt) (λ rest e. rw e (
    test_is (bit_and flags 0x4C07 == 0) (λ e. rw e (of_gre-goes port (flags / 2 ^ 12 % 2 == 1) kind rest)) (λ e. rw e tt)))))))

-- ---- protocols of IP

-- ICMP and ICMPv6 are passed over, unless they are an error
icmp_passed : (protocol : ℕ) → (protocol == 1 || protocol == 58) ≡ true → IsPassedProtocol protocol
unfolding is_passed_protocol
icmp_passed protocol e =
    test_is (protocol == 1)
    (λ one. subst IsPassedProtocol (sym (eqb-true protocol 1 one)) refl)
    (λ other. subst IsPassedProtocol (sym (eqb-true protocol 58 (sym (ap (λ b. b || protocol == 58) other) ∙ e))) refl)

icmp_fine : (port : ℕ) (P : Type 0) (error : Option IcmpError) → P → IsFine port P (or_passed error)
icmp_fine port P None p = p
icmp_fine port P (Some error) p = tt

of_other_protocol-passed : (port : ℕ) (addresses : Addresses) (protocol : ℕ) (packet : Captured) → Goes port (IsPassedProtocol protocol) (of_other_protocol addresses protocol packet)
unfolding of_other_protocol
of_other_protocol-passed port addresses protocol packet =
    test_is (protocol == 51) (λ e. rw e (never port _ (authentication addresses packet) (authentication-goes port addresses packet))) (λ e. rw e (
    test_is (protocol == 4) (λ e. rw e tt) (λ e. rw e (
    test_is (protocol == 41) (λ e. rw e tt) (λ e. rw e (
    test_is (protocol == 47) (λ e. rw e (never port _ (gre packet) (gre-goes port packet))) (λ e. rw e (
    test_is (protocol == 1 || protocol == 58) (λ e. rw e (icmp_fine port (IsPassedProtocol protocol) (error addresses.source protocol packet) (icmp_passed protocol e))) (λ e. rw e (
    test_is (is_passed_protocol protocol) (λ e. rw e refl) (λ e. rw e tt)))))))))))

of_protocol-goes : (port : ℕ) (addresses : Addresses) (protocol : ℕ) (packet : Captured) → Goes port ⊥ (of_protocol addresses protocol packet)
unfolding of_protocol
of_protocol-goes port addresses protocol packet =
    test_is (protocol == 17) (λ e. rw e (udp-goes port addresses packet)) (λ e. rw e (
    test_is (protocol == 6) (λ e. rw e (tcp-goes port addresses packet)) (λ e. rw e tt)))

of_fragment-passed : (port : ℕ) (is_kept : Bool) (protocol : ℕ) (kept : Fragment) → Goes port (IsPassedProtocol protocol) (of_fragment is_kept protocol (contents.Fragment kept))
unfolding of_fragment
of_fragment-passed port is_kept protocol kept =
    test_is is_kept (λ e. rw e tt) (λ e. rw e (
    test_is (is_passed_protocol protocol) (λ e. rw e refl) (λ e. rw e tt)))

-- ---- IP

ipv4-passed : (port : ℕ) (packet : Captured) → Goes port (IsSomeAnd (protocol4 packet) IsPassedProtocol) (ipv4 packet)
unfolding ipv4
ipv4-passed port packet =
    field_is (number8 0 packet) (λ e. rw e tt) (λ first e. rw e (
    field_is (number16 2 packet) (λ e. rw e tt) (λ total e. rw e (
    field_is (number16 4 packet) (λ e. rw e tt) (λ identification e. rw e (
    field_is (number16 6 packet) (λ e. rw e tt) (λ flags e. rw e (
    field_is (number8 9 packet) (λ e. rw e tt) (λ protocol e. rw e (
    field_is (field 4 12 packet) (λ e. rw e tt) (λ source e. rw e (
    field_is (field 4 16 packet) (λ e. rw e tt) (λ target e. rw e (
    field_is (after (first % 16 * 4) (announced total packet)) (λ e. rw e tt) (λ rest e. rw e (
    test_is (first / 16 == 4 && nat_le 5 (first % 16)) (λ e. rw e (
    test_is (flags % 2 ^ 14 == 0)
    (λ e. rw e (never port _ (of_protocol (addresses4 source target) protocol rest) (of_protocol-goes port (addresses4 source target) protocol rest)))
    (λ e. rw e (of_fragment-passed port (is_followed protocol) protocol _)))) (λ e. rw e tt)))))))))))))))))

fragment-passed : (port : ℕ) (addresses : Addresses) (packet : Captured) → Goes port (IsSomeAnd (number8 0 packet) IsPassedProtocol) (fragment addresses packet)
unfolding fragment
fragment-passed port addresses packet =
    field_is (number8 0 packet) (λ e. rw e tt) (λ next e. rw e (
    field_is (number16 2 packet) (λ e. rw e tt) (λ offset e. rw e (
    field_is (number32 4 packet) (λ e. rw e tt) (λ identification e. rw e (
    field_is (after 8 packet) (λ e. rw e tt) (λ rest e. rw e (
    of_fragment-passed port (may_lead_on next) next _))))))))

after_headers-passed : (port : ℕ) (addresses : Addresses) (kind : ℕ) (packet : Captured) → Goes port (IsSomeAnd (protocol_after kind packet) IsPassedProtocol) (after_headers addresses kind packet)
unfolding after_headers
after_headers-passed port addresses kind packet =
    field_is (extensions (length packet.octets + 1) kind packet) (λ e. rw e tt) (λ last e. rw e (
    test_is (last.0 == 44)
    (λ e. rw e (fragment-passed port addresses last.1))
    (λ e. rw e (never port _ (of_protocol addresses last.0 last.1) (of_protocol-goes port addresses last.0 last.1)))))

ipv6-passed : (port : ℕ) (packet : Captured) → Goes port (IsSomeAnd (protocol6 packet) IsPassedProtocol) (ipv6 packet)
unfolding ipv6
ipv6-passed port packet =
    field_is (number8 0 packet) (λ e. rw e tt) (λ first e. rw e (
    field_is (number16 4 packet) (λ e. rw e tt) (λ size e. rw e (
    field_is (number8 6 packet) (λ e. rw e tt) (λ kind e. rw e (
    field_is (field 16 8 packet) (λ e. rw e tt) (λ source e. rw e (
    field_is (field 16 24 packet) (λ e. rw e tt) (λ target e. rw e (
    field_is (after 40 packet) (λ e. rw e tt) (λ rest e. rw e (
    test_is (first / 16 == 6) (λ e. rw e (after_headers-passed port (addresses6 source target) kind (announced size rest))) (λ e. rw e tt)))))))))))))

payload_of-passed : (port : ℕ) (addresses : Addresses) (kind : ℕ) (packet : Captured) → Goes port (IsPassedPayload addresses.source kind packet) (payload_of addresses kind packet)
unfolding payload_of
payload_of-passed port addresses kind packet = by_version addresses.source
  where
    by_version : (source : IpAddr) → Goes port (IsPassedPayload source kind packet) (payload_between source addresses kind packet)
    by_version (ip.V4 source) = never port _ (of_protocol addresses kind packet) (of_protocol-goes port addresses kind packet)
    by_version (ip.V6 source) = after_headers-passed port addresses kind packet

raw_ip-passed : (port : ℕ) (packet : Captured) → Goes port (IsPassedIp packet) (raw_ip packet)
unfolding raw_ip
raw_ip-passed port packet =
    field_is (number8 0 packet) (λ e. rw e tt) (λ first e. rw e (
    test_is (first / 16 == 4)
    (λ t. rw t (anyhow port _ _ (ipv4 packet) (λ p. inl (eqb-true (first / 16) 4 t, p)) (ipv4-passed port packet)))
    (λ t. rw t (test_is (first / 16 == 6)
    (λ u. rw u (anyhow port _ _ (ipv6 packet) (λ p. inr (eqb-true (first / 16) 6 u, p)) (ipv6-passed port packet)))
    (λ u. rw u tt)))))

-- ---- EtherTypes

after_labels-passed : (port : ℕ) (packet : Captured) → Goes port (IsSomeAnd (number8 0 packet) IsChannel) (after_labels packet)
unfolding after_labels
after_labels-passed port packet =
    field_is (number8 0 packet) (λ e. rw e tt) (λ first e. rw e (
    test_is (first / 16 == 4 || first / 16 == 6) (λ e. rw e tt) (λ e. rw e (
    test_is (first / 16 == 1) (λ t. rw t (eqb-true (first / 16) 1 t)) (λ t. rw t (never port _ (pseudowire packet) (pseudowire-goes port packet)))))))

label-passed : (port : ℕ) (packet : Captured) → Goes port (IsSomeAnd (after 4 packet >>= number8 0) IsChannel) (label packet)
unfolding label
label-passed port packet =
    field_is (number8 2 packet) (λ e. rw e tt) (λ third e. rw e (
    field_is (after 4 packet) (λ e. rw e tt) (λ rest e. rw e (
    test_is (third % 2 == 0) (λ e. rw e tt) (λ e. rw e (after_labels-passed port rest))))))

of_ppp-passed : (port number : ℕ) (packet : Captured) → Goes port (0x8000 ≤ number) (of_ppp number packet)
unfolding of_ppp
of_ppp-passed port number packet =
    test_is (number == 0x0021) (λ e. rw e tt) (λ e. rw e (
    test_is (number == 0x0057) (λ e. rw e tt) (λ e. rw e (
    test_is (number == 0x0281 || number == 0x0283) (λ e. rw e tt) (λ e. rw e (
    test_is (nat_le 0x8000 number) (λ t. rw t (leb-true 0x8000 number t)) (λ t. rw t tt)))))))

long_ppp-passed : (port : ℕ) (packet : Captured) → Goes port (IsSomeAnd (number16 6 packet) (λ number. 0x8000 ≤ number)) (long_ppp packet)
unfolding long_ppp
long_ppp-passed port packet =
    field_is (number16 6 packet) (λ e. rw e tt) (λ number e. rw e (
    field_is (after 8 packet) (λ e. rw e tt) (λ rest e. rw e (of_ppp-passed port number rest))))

session-passed : (port : ℕ) (packet : Captured) → Goes port (IsSomeAnd (ppp_number packet) (λ number. 0x8000 ≤ number)) (session packet)
unfolding session
session-passed port packet =
    field_is (number16 0 packet) (λ e. rw e tt) (λ version e. rw e (
    field_is (number8 6 packet) (λ e. rw e tt) (λ first e. rw e (
    test_is (version == 0x1100) (λ e. rw e (
    test_is (first % 2 == 1)
    (λ e. rw e (field_is (after 7 packet) (λ e. rw e tt) (λ rest e. rw e (of_ppp-passed port first rest))))
    (λ e. rw e (long_ppp-passed port packet)))) (λ e. rw e tt)))))

tag-goes : (port : ℕ) (packet : Captured) → Goes port ⊥ (tag packet)
unfolding tag
tag-goes port packet =
    field_is (number16 2 packet) (λ e. rw e tt) (λ kind e. rw e (
    field_is (after 4 packet) (λ e. rw e tt) (λ rest e. rw e tt)))

one_of_two : (a b : ℕ) (kind : ℕ) → (kind == a || kind == b) ≡ true → (kind ≡ a) ⊎ (kind ≡ b)
one_of_two a b kind t = test_is (kind == a) (λ e. inl (eqb-true kind a e)) (λ e. inr (eqb-true kind b (rw e at t)))

of_type-passed : (port kind : ℕ) (packet : Captured) → Goes port (IsPassedType kind packet) (of_type kind packet)
unfolding of_type
of_type-passed port kind packet =
    test_is (kind == 0x0800) (λ t. rw t (anyhow port _ _ (ipv4 packet) (λ p. IsPassedType.ipv4 (eqb-true kind 0x0800 t) p) (ipv4-passed port packet))) (λ e. rw e (
    test_is (kind == 0x86DD) (λ t. rw t (anyhow port _ _ (ipv6 packet) (λ p. IsPassedType.ipv6 (eqb-true kind 0x86DD t) p) (ipv6-passed port packet))) (λ e. rw e (
    test_is (is_tag kind) (λ e. rw e (never port _ (tag packet) (tag-goes port packet))) (λ e. rw e (
    test_is (kind == 0x8847 || kind == 0x8848) (λ t. rw t (anyhow port _ _ (label packet) (λ p. IsPassedType.mpls (one_of_two 0x8847 0x8848 kind t) p) (label-passed port packet))) (λ e. rw e (
    test_is (kind == 0x8864) (λ t. rw t (anyhow port _ _ (session packet) (λ p. IsPassedType.pppoe (eqb-true kind 0x8864 t) p) (session-passed port packet))) (λ e. rw e (
    test_is (kind == 0x6558) (λ e. rw e tt) (λ e. rw e (
    test_is (is_passed_type kind) (λ t. rw t (IsPassedType.listed t)) (λ t. rw t tt)))))))))))))

-- ---- 802.2 and Ethernet

snap_type-passed : (port : ℕ) (packet : Captured) → Goes port (IsSomeAnd (number16 6 packet) (λ kind. IsSomeAnd (after 8 packet) (IsPassedType kind))) (snap_type packet)
unfolding snap_type
snap_type-passed port packet =
    field_is (number16 6 packet) (λ e. rw e tt) (λ kind e. rw e (
    field_is (after 8 packet) (λ e. rw e tt) (λ rest e. rw e (of_type-passed port kind rest))))

snap-passed : (port : ℕ) (packet : Captured) → Goes port (IsPassedSnap packet) (snap packet)
unfolding snap
snap-passed port packet =
    field_is (number16 3 packet) (λ e. rw e tt) (λ high e. rw e (
    field_is (number8 5 packet) (λ e. rw e tt) (λ low e. rw e (
    test_is (has_types high low)
    (λ e. rw e (anyhow port _ _ (snap_type packet) (λ p. inr (refl, p)) (snap_type-passed port packet)))
    (λ e. rw e (test_is (has_bridged high low) (λ e. rw e tt) (λ e. rw e (inl (refl, refl)))))))))

logical_link-passed : (port : ℕ) (packet : Captured) → Goes port (IsPassedLink packet) (logical_link packet)
unfolding logical_link
logical_link-passed port packet =
    field_is (number16 0 packet) (λ e. rw e tt) (λ points e. rw e (
    field_is (number8 2 packet) (λ e. rw e tt) (λ control e. rw e (
    test_is (is_snap points control)
    (λ e. rw e (anyhow port _ _ (snap packet) (λ p. inr (inl (refl, p))) (snap-passed port packet)))
    (λ e. rw e (test_is (is_ip points control)
    (λ e. rw e (field_is (after 3 packet) (λ e. rw e tt) (λ rest e. rw e (anyhow port _ _ (ipv4 rest) (λ p. inr (inr (refl, p))) (ipv4-passed port rest)))))
    (λ e. rw e (inl (refl, refl)))))))))

of_type_or_length-passed : (port kind : ℕ) (packet : Captured) → Goes port (IsPassedTypeOrLength kind packet) (of_type_or_length kind packet)
unfolding of_type_or_length
of_type_or_length-passed port kind packet =
    test_is (nat_le kind 0x05DC)
    (λ t. rw t (anyhow port _ _ (logical_link packet) (λ p. inl (leb-true kind 0x05DC t, p)) (logical_link-passed port packet)))
    (λ t. rw t (anyhow port _ _ (of_type kind packet) (λ p. inr (leb-false kind 0x05DC t, p)) (of_type-passed port kind packet)))

is_type : (kind is : ℕ) (packet : Captured) → kind ≡ is → 0x05DC < is → IsPassedType kind packet → IsPassedTypeOrLength kind packet
is_type kind is packet e above p = inr (omega arith, p)

ethernet-passed : (port : ℕ) (packet : Captured) → Goes port (IsPassedEthernet packet) (ethernet packet)
unfolding ethernet
ethernet-passed port packet =
    field_is (number16 12 packet) (λ e. rw e tt) (λ kind e. rw e (
    field_is (after 14 packet) (λ e. rw e tt) (λ rest e. rw e (
    test_is (kind == 0x0800)
    (λ t. rw t (anyhow port _ _ (ipv4 rest) (λ p. is_type kind 0x0800 rest (eqb-true kind 0x0800 t) (omega arith) (IsPassedType.ipv4 (eqb-true kind 0x0800 t) p)) (ipv4-passed port rest)))
    (λ t. rw t (test_is (kind == 0x86DD)
    (λ u. rw u (anyhow port _ _ (ipv6 rest) (λ p. is_type kind 0x86DD rest (eqb-true kind 0x86DD u) (omega arith) (IsPassedType.ipv6 (eqb-true kind 0x86DD u) p)) (ipv6-passed port rest)))
    (λ u. rw u tt)))))))

-- ---- tunnels over UDP

vxlan-goes : (port : ℕ) (packet : Captured) → Goes port ⊥ (vxlan packet)
unfolding vxlan
vxlan-goes port packet =
    field_is (number32 0 packet) (λ e. rw e tt) (λ flags e. rw e (
    field_is (number8 7 packet) (λ e. rw e tt) (λ last e. rw e (
    field_is (after 8 packet) (λ e. rw e tt) (λ rest e. rw e (
    test_is ((flags == 0x08000000 || flags / 2 ^ 24 == 0x88) && last == 0) (λ e. rw e tt) (λ e. rw e tt)))))))

geneve-goes : (port : ℕ) (packet : Captured) → Goes port ⊥ (geneve packet)
unfolding geneve
geneve-goes port packet =
    field_is (number8 0 packet) (λ e. rw e tt) (λ first e. rw e (
    field_is (number8 1 packet) (λ e. rw e tt) (λ flags e. rw e (
    field_is (number16 2 packet) (λ e. rw e tt) (λ kind e. rw e (
    field_is (number8 7 packet) (λ e. rw e tt) (λ last e. rw e (
    field_is (after (first % 64 * 4 + 8) packet) (λ e. rw e tt) (λ rest e. rw e (
    test_is ((first / 64 == 0 && flags % 64 == 0) && (last == 0 && nat_le 0x0600 kind)) (λ e. rw e tt) (λ e. rw e tt)))))))))))

keep_alive-passed : (port : ℕ) (packet : Captured) → Goes port (number8 0 packet ≡ Some 0xFF) (keep_alive packet)
unfolding keep_alive
keep_alive-passed port packet =
    field_is (number8 0 packet) (λ e. rw e tt) (λ first e. rw e (
    test_is (first == 0xFF) (λ t. rw t (ap Some (eqb-true first 0xFF t))) (λ t. rw t tt)))

key_exchange-passed : (port : ℕ) (packet : Captured) → Goes port (number32 0 packet ≡ Some 0) (key_exchange packet)
unfolding key_exchange
key_exchange-passed port packet =
    field_is (number32 0 packet) (λ e. rw e tt) (λ marker e. rw e (
    test_is (marker == 0) (λ t. rw t (ap Some (eqb-true marker 0 t))) (λ t. rw t tt)))

beside_esp-passed : (port : ℕ) (packet : Captured) → Goes port (IsBesideEsp packet) (beside_esp packet)
unfolding beside_esp
beside_esp-passed port packet =
    test_is (packet.size == 1)
    (λ t. rw t (anyhow port _ _ (keep_alive packet) (λ p. inl (eqb-true packet.size 1 t, p)) (keep_alive-passed port packet)))
    (λ t. rw t (anyhow port _ _ (key_exchange packet) (λ p. inr p) (key_exchange-passed port packet)))

of_port-passed : (port target : ℕ) (packet : Captured) → Goes port ((target ≡ 4500) × IsBesideEsp packet) (of_port target packet)
unfolding of_port
of_port-passed port target packet =
    test_is (target == 4789 || target == 8472) (λ e. rw e (never port _ (vxlan packet) (vxlan-goes port packet))) (λ e. rw e (
    test_is (target == 6081) (λ e. rw e (never port _ (geneve packet) (geneve-goes port packet))) (λ e. rw e (
    test_is (target == 4500)
    (λ t. rw t (anyhow port _ _ (beside_esp packet) (λ p. (eqb-true target 4500 t, p)) (beside_esp-passed port packet)))
    (λ t. rw t tt)))))

or_answer-passed : (port source : ℕ) (P : Type 0) (o : Option Step) → Goes port P o → Goes port ((source < 1024) ⊎ P) (or_answer source o)
or_answer-passed port source P None g = test_is (nat_lt source 1024) (λ t. rw t (inl (ltb-true source 1024 t))) (λ t. rw t tt)
or_answer-passed port source P (Some step) g = anyhow port P ((source < 1024) ⊎ P) (Some step) (λ p. inr p) g

tunnel-passed : (port : ℕ) (between : Ends) (packet : Captured) → Goes port ((between.source.port < 1024) ⊎ ((between.target.port ≡ 4500) × IsSomeAnd (payload packet) IsBesideEsp)) (tunnel between packet)
unfolding tunnel
tunnel-passed port between packet = or_answer-passed port between.source.port _ (payload packet >>= of_port between.target.port) carried
  where
    carried : Goes port ((between.target.port ≡ 4500) × IsSomeAnd (payload packet) IsBesideEsp) (payload packet >>= of_port between.target.port)
    carried = field_is (payload packet) (λ e. rw e tt) (λ rest e. rw e (of_port-passed port between.target.port rest))

datagram_or_tunnel-passed : (port : ℕ) (addresses : Addresses) (packet : Captured) → Goes port (IsPassedTunnel port addresses packet) (datagram_or_tunnel port addresses packet)
unfolding datagram_or_tunnel
datagram_or_tunnel-passed port addresses packet =
    field_is (ends addresses.source addresses.target packet) (λ e. rw e tt) (λ between e. rw e (
    test_is (is_served port between)
    (λ t. rw t (fine-anyhow port ⊥ _ (or_unread_between between (datagram between packet)) (λ f. absurd f) (between-fine port between (datagram between packet) (datagram-fine port between packet (inl t)))))
    (λ t. rw t (anyhow port _ _ (tunnel between packet) (λ p. (refl, p)) (tunnel-passed port between packet)))))

-- ---- the walk

step-passed : (port : ℕ) (header : Header) (packet : Captured) → Goes port (IsPassedHeader port header packet) (step port header packet)
unfolding step
step-passed port headers.Ethernet packet = ethernet-passed port packet
step-passed port (headers.TypeOrLength kind) packet = of_type_or_length-passed port kind packet
step-passed port (headers.Type kind) packet = of_type-passed port kind packet
step-passed port headers.Internet packet = raw_ip-passed port packet
step-passed port (headers.Protocol addresses kind) packet = payload_of-passed port addresses kind packet
step-passed port (headers.Other addresses kind) packet = of_other_protocol-passed port addresses kind packet
step-passed port (headers.Tunnel addresses) packet = datagram_or_tunnel-passed port addresses packet

are-anyhow : (port : ℕ) (P Q : Type 0) (o : Option Contents) → (P → Q) → AreFine port P o → AreFine port Q o
are-anyhow port P Q None h p = tt
are-anyhow port P Q (Some read) h p = fine-anyhow port P Q read h p

onwards-passed : (port most : ℕ) (P : Type 0) (Q : Type 0) (o : Option Step) → Goes port P o → (P → Q) → ((header : Header) (rest : Captured) → o ≡ Some (steps.Next header rest) → AreFine port Q (walk port most header rest)) → AreFine port Q (o >>= onwards (walk port most))
onwards-passed port most P Q None g h along = tt
onwards-passed port most P Q (Some (steps.Found read)) g h along = fine-anyhow port P Q read h g
onwards-passed port most P Q (Some (steps.Next header rest)) g h along = along header rest refl

walk-passed : (port most : ℕ) (header : Header) (packet : Captured) → AreFine port (IsPassedOver port header packet) (walk port most header packet)
walk-passed port zero header packet = tt
walk-passed port (suc most) header packet =
    onwards-passed port most (IsPassedHeader port header packet) (IsPassedOver port header packet) (step port header packet) (step-passed port header packet) (λ p. here header packet p)
    (λ next rest e. are-anyhow port _ _ (walk port most next rest) (λ p. later header next packet rest e p) (walk-passed port most next rest))

-- ---- links

cooked_type-passed : (port at size : ℕ) (packet : Captured) → Goes port (IsSomeAnd (number16 at packet) (λ kind. IsSomeAnd (after size packet) (λ rest. ((kind ≡ 4) × IsPassedLink rest) ⊎ (((kind == 4) ≡ false) × IsPassedType kind rest)))) (cooked_type at size packet)
unfolding cooked_type
cooked_type-passed port at size packet =
    field_is (number16 at packet) (λ e. rw e tt) (λ kind e. rw e (
    field_is (after size packet) (λ e. rw e tt) (λ rest e. rw e (
    test_is (kind == 4)
    (λ t. rw t (anyhow port _ _ (logical_link rest) (λ p. inl (eqb-true kind 4 t, p)) (logical_link-passed port rest)))
    (λ t. rw t (anyhow port _ _ (of_type kind rest) (λ p. inr (refl, p)) (of_type-passed port kind rest)))))))

cooked-passed : (port hardware_at at size : ℕ) (packet : Captured) → Goes port (IsPassedCooked hardware_at at size packet) (cooked hardware_at at size packet)
unfolding cooked
cooked-passed port hardware_at at size packet =
    field_is (number16 hardware_at packet) (λ e. rw e tt) (λ hardware e. rw e (
    test_is (hardware == 824)
    (λ t. rw t (inl (eqb-true hardware 824 t)))
    (λ t. rw t (test_is (hardware == 770 || hardware == 803) (λ u. rw u tt) (λ u. rw u (anyhow port _ _ (cooked_type at size packet) (λ p. inr p) (cooked_type-passed port at size packet)))))))

of_family-passed : (port family : ℕ) (packet : Captured) → Goes port (IsPassedFamily family packet) (of_family family packet)
unfolding of_family
of_family-passed port family packet =
    test_is (family == 2)
    (λ t. rw t (anyhow port _ _ (ipv4 packet) (λ p. inl (eqb-true family 2 t, p)) (ipv4-passed port packet)))
    (λ t. rw t (test_is (family == 10 || (family == 23 || (family == 24 || (family == 28 || family == 30))))
    (λ u. rw u (anyhow port _ _ (ipv6 packet) (λ p. inr (refl, p)) (ipv6-passed port packet)))
    (λ u. rw u tt)))

openbsd_loopback-passed : (port : ℕ) (packet : Captured) → Goes port (IsPassedFrame links.OpenBsdLoopback packet) (openbsd_loopback packet)
unfolding openbsd_loopback
openbsd_loopback-passed port packet =
    field_is (number32 0 packet) (λ e. rw e tt) (λ family e. rw e (
    field_is (after 4 packet) (λ e. rw e tt) (λ rest e. rw e (of_family-passed port family rest))))

bsd_loopback-passed : (port : ℕ) (packet : Captured) → Goes port (IsPassedFrame links.BsdLoopback packet) (bsd_loopback packet)
unfolding bsd_loopback
bsd_loopback-passed port packet =
    field_is (number32 0 packet) (λ e. rw e tt) (λ family e. rw e (
    field_is (after 4 packet) (λ e. rw e tt) (λ rest e. rw e (of_family-passed port (in_either_order family) rest))))

frame-passed : (port : ℕ) (link : LinkType) (packet : Captured) → Goes port (IsPassedFrame link packet) (frame link packet)
unfolding frame
frame-passed port links.Ethernet packet = ethernet-passed port packet
frame-passed port links.LinuxCooked packet = cooked-passed port 2 14 16 packet
frame-passed port links.LinuxCooked2 packet = cooked-passed port 8 0 20 packet
frame-passed port links.RawIp packet = raw_ip-passed port packet
frame-passed port links.Ipv4 packet = ipv4-passed port packet
frame-passed port links.Ipv6 packet = ipv6-passed port packet
frame-passed port links.BsdLoopback packet = bsd_loopback-passed port packet
frame-passed port links.OpenBsdLoopback packet = openbsd_loopback-passed port packet
frame-passed port (links.Other number) packet = tt

-- ---- packets

accounted : (port : ℕ) (link : LinkType) (packet : Captured) (read : Contents) → IsFine port (IsPassedPacket port link packet) read → IsAccountedFor port link packet read
accounted port link packet (contents.Error error) p = tt
accounted port link packet contents.Other p = p
accounted port link packet (contents.Datagram datagram) p = p
accounted port link packet (contents.Segment segment) p = p
accounted port link packet (contents.Fragment fragment) p = p
accounted port link packet (contents.UnreadBetween ends) p = p
accounted port link packet contents.Unread p = p

or_unread-accounted : (port : ℕ) (link : LinkType) (packet : Captured) (found : Option Contents) → AreFine port (IsPassedPacket port link packet) found → IsAccountedFor port link packet (or_unread found)
or_unread-accounted port link packet None p = tt
or_unread-accounted port link packet (Some read) p = accounted port link packet read p

pub nothing_is_silent : NothingIsSilent
nothing_is_silent port link packet =
    or_unread-accounted port link packet (frame link packet >>= onwards (walk port (length packet.octets)))
    (onwards-passed port (length packet.octets) (IsPassedFrame link packet) (IsPassedPacket port link packet) (frame link packet) (frame-passed port link packet) (λ p. at_once p)
    (λ header rest e. are-anyhow port _ _ (walk port (length packet.octets) header rest) (λ p. within header rest e p) (walk-passed port (length packet.octets) header rest)))
