-- What a packet has that octets are read from, and addresses of it.
use Rattle.std.proofs.Common.{◌≡◌, ℕ, zero, suc, ◌+◌, ◌-◌, ◌*◌, ◌^◌, ◌<◌, ◌≤◌, nat_lt, Bool, true, false, List, [], ◌∷◌, length, take, drop, Option, Some, None, IfSome, refl, arith, length-drop, length-take}
use Rattle.std.proofs.lemmas.Bool.{ltb-false}
use Rattle.std.specs.List.{slice_index}
use Rattle.std.specs.Net.Addr.{IsIpv4Addr, IsIpv6Addr, MatchIp, segments_of}
use Rattle.std.specs.declared.net.ip_addr.IpAddr.{IpAddr}
use Rattle.krb_source.specs.declared.endpoint.Endpoint.{Endpoint}
use Rattle.krb_der.specs.Octets.{AreOctets, when}
use Rattle.krb_der.specs.inner.Numbers.{AreOctets-drop, AreOctets-take}
use Rattle.krb_file.proofs.Fields.{wide16, wide8}
use Rattle.krb_packet.specs.Payloads.{Captured, ◌>>=◌, after, beyond, field, number16, number8, past, within}
use Rattle.krb_packet.specs.Steps.{if_valid}

-- an address as its type has it
abbrev pub IsHost : IpAddr → Type 0
IsHost address = MatchIp address IsIpv4Addr IsIpv6Addr

-- and a port
pub record IsPort (end : Endpoint) : Type 0 where
  pub host : IsHost end.address
  pub small : end.port < 2 ^ 16

-- ---- values that may be read
pub then_if : {A B : Type 0} (P : A → Type 0) (Q : B → Type 0) (read : Option A) (next : A → Option B) → IfSome read P → ((value : A) → P value → IfSome (next value) Q) → IfSome (read >>= next) Q
then_if P Q None next is others = tt
then_if P Q (Some value) next is others = others value is

pub then_any : {A B : Type 0} (Q : B → Type 0) (read : Option A) (next : A → Option B) → ((value : A) → IfSome (next value) Q) → IfSome (read >>= next) Q
then_any Q None next others = tt
then_any Q (Some value) next others = others value

pub either_if : {A : Type 0} (Q : A → Type 0) (test : Bool) (one other : Unit {0} → Option A) → IfSome (one tt) Q → IfSome (other tt) Q → IfSome (when test one other) Q
either_if Q true one other a b = a
either_if Q false one other a b = b

pub either_has : {A : Type 0} (Q : A → Type 0) (test : Bool) (one other : Unit {0} → A) → Q (one tt) → Q (other tt) → Q (when test one other)
either_has Q true one other a b = a
either_has Q false one other a b = b

pub valid_if : {A : Type 0} (Q : A → Type 0) (test : Bool) (value : A) → Q value → IfSome (if_valid test value) Q
valid_if Q true value is = is
valid_if Q false value is = tt

-- ---- octets of a packet
-- Those that were captured are octets, and no more of them than there are on the wire, which are fewer than 2^32.
pub record HasOctets (packet : Captured) : Type 0 where
  pub octets : AreOctets packet.octets
  pub fits : length packet.octets ≤ packet.size
  pub small : packet.size < 2 ^ 32

-- the same, without the first ones
dropped_octets : (size : ℕ) (packet : Captured) → HasOctets packet → HasOctets (record { octets = drop size packet.octets; size = packet.size - size })
dropped_octets size packet are = record { octets = AreOctets-drop size packet.octets are.octets; fits = omega (arith, length-drop size packet.octets, are.fits); small = omega (arith, are.small) }

pub after_octets : (size : ℕ) (packet : Captured) → HasOctets packet → IfSome (after size packet) HasOctets
unfolding after
after_octets size packet are = either_if HasOctets (nat_lt (length packet.octets) size) _ _ tt (dropped_octets size packet are)

pub beyond_octets : (size : ℕ) (packet : Captured) → HasOctets packet → IfSome (beyond size packet) HasOctets
unfolding beyond
beyond_octets size packet are = either_if HasOctets (nat_lt packet.size size) _ _ tt (dropped_octets size packet are)

pub past_octets : (size : ℕ) (packet : Captured) → HasOctets packet → HasOctets (past size packet)
unfolding past
past_octets size packet are = dropped_octets size packet are

pub within_octets : (size : ℕ) (packet : Captured) → size < 2 ^ 32 → HasOctets packet → HasOctets (within size packet)
unfolding within
within_octets size packet small are = record { octets = AreOctets-take size packet.octets are.octets; fits = omega (arith, length-take size packet.octets); small = small }

-- so many octets
abbrev pub AreSoMany : ℕ → List ℕ → Type 0
AreSoMany size octets = AreOctets octets × (length octets ≡ size)

length_taken : (size at : ℕ) (octets : List ℕ) → at + size ≤ length octets → length (take size (drop at octets)) ≡ size
length_taken zero zero octets few = refl
length_taken (suc size) zero [] few = absurd (omega (arith, few))
length_taken (suc size) zero (octet ∷ octets) few = omega (arith, length_taken size zero octets (omega (arith, few)))
length_taken size (suc at) [] few = absurd (omega (arith, few))
length_taken size (suc at) (octet ∷ octets) few = length_taken size at octets (omega (arith, few))

pub field_octets : (size at : ℕ) (packet : Captured) → HasOctets packet → IfSome (field size at packet) (AreSoMany size)
unfolding field
field_octets size at packet are = by (nat_lt (length packet.octets) (at + size)) refl
  where
    by : (short : Bool) → nat_lt (length packet.octets) (at + size) ≡ short → IfSome (when short (λ _. None) (λ _. Some (take size (drop at packet.octets)))) (AreSoMany size)
    by true e = tt
    by false e = (AreOctets-take size (drop at packet.octets) (AreOctets-drop at packet.octets are.octets), length_taken size at packet.octets (ltb-false (length packet.octets) (at + size) e))

-- ---- numbers
abbrev pub IsNumber : (bits : ℕ) → ℕ → Type 0
IsNumber bits n = n < 2 ^ bits

pub number8_small : (at : ℕ) (packet : Captured) → HasOctets packet → IfSome (number8 at packet) (IsNumber 8)
unfolding number8
number8_small at packet are = then_if (AreSoMany 1) (IsNumber 8) (field 1 at packet) _ (field_octets 1 at packet are) (λ octets is. wide8.below octets is.0)

pub number16_small : (at : ℕ) (packet : Captured) → HasOctets packet → IfSome (number16 at packet) (IsNumber 16)
unfolding number16
number16_small at packet are = then_if (AreSoMany 2) (IsNumber 16) (field 2 at packet) _ (field_octets 2 at packet are) (λ octets is. wide16.below octets is.0)

-- ---- addresses
octet_at : (octets : List ℕ) → AreOctets octets → (k : ℕ) → slice_index octets k < 2 ^ 8
octet_at [] are k = omega arith
octet_at (octet ∷ octets) are zero = omega (arith, are.0)
octet_at (octet ∷ octets) are (suc k) = octet_at octets are.1 k

pub host4 : (octets : List ℕ) → AreSoMany 4 octets → IsIpv4Addr (record { octets = octets })
host4 octets are = (are.1, octet_at octets are.0)

segment_at : (octets : List ℕ) → AreOctets octets → (k : ℕ) → slice_index (segments_of octets) k < 2 ^ 16
segment_at [] are k = omega arith
segment_at (a ∷ []) are k = omega arith
segment_at (a ∷ b ∷ octets) are zero = omega (arith, are.0, are.1.0)
segment_at (a ∷ b ∷ octets) are (suc k) = segment_at octets are.1.1 k

half_as_many : (n : ℕ) (octets : List ℕ) → length octets ≡ 2 * n → length (segments_of octets) ≡ n
half_as_many zero [] e = refl
half_as_many (suc n) [] e = absurd (omega (arith, e))
half_as_many n (a ∷ []) e = absurd (omega (arith, e))
half_as_many zero (a ∷ b ∷ octets) e = absurd (omega (arith, e))
half_as_many (suc n) (a ∷ b ∷ octets) e = omega (arith, half_as_many n octets (omega (arith, e)))

pub host6 : (octets : List ℕ) → AreSoMany 16 octets → IsIpv6Addr (record { segments = segments_of octets })
host6 octets are = (half_as_many 8 octets are.1, segment_at octets are.0)
