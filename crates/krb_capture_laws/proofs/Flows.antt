-- Flows are the same if they are tied in their order, or have the same ends.
use Rattle.std.proofs.Common.{◌≡◌, ℕ, Bool, true, false, List, [], ◌∷◌, refl, sym, ◌∙◌, ap, ap₂}
use Rattle.std.specs.Prelude.{◌&&◌, ◌==◌, nat_eq}
use Rattle.std.specs.declared.cmp.Ordering.{Ordering}
use Rattle.std.specs.declared.cmp.Ordering.TheVariants.{Less, Equal, Greater}
use Rattle.std.specs.Ordering.{is_eq, nat_cmp, ordering_then}
use Rattle.std.specs.Cmp.Lexicographic.{pointwise}
use Rattle.std.proofs.lemmas.Bool.{true≢false}
use Rattle.std.proofs.lemmas.Cmp.{nat_eq_equiv, nat_list_eq_equiv}
use Rattle.std.proofs.lemmas.Map.Views.{exact_unsigned_eq}
use Rattle.std.specs.declared.net.ip_addr.IpAddr.{IpAddr}
use Rattle.std.specs.declared.net.ip_addr.IpAddr.TheVariants as ip
use Rattle.std.specs.contracts.net.ip_addr.IpAddrOrd.TheImpl as address_order
use Rattle.std.proofs.lemmas.Map.Lookups.{exact_unsigned, exact_bytes}
use Rattle.krb_source.specs.declared.endpoint.Endpoint.{Endpoint}
use Rattle.krb_source.specs.contracts.endpoint.EndpointOrd.TheImpl as endpoint_order
use Rattle.krb_packet.specs.Fragments.{same_address}
use Rattle.krb_capture.specs.Directions.{flow_cmp}
use Rattle.krb_capture.specs.Flows.{flow_between}
use Rattle.krb_capture.specs.WholeCaptures.{are_ends, same_end}
use Rattle.krb_capture.specs.declared.flow.Flow.{Flow}
use Rattle.krb_capture.proofs.Maps.{tied}

both : (a b : Ordering) → ordering_then a b ≡ Equal → (a ≡ Equal) × (b ≡ Equal)
both Less b e = absurd cc
both Equal b e = (refl, e)
both Greater b e = absurd cc

tied_addresses : (a b : IpAddr) → address_order.ghosts.cmp a b ≡ Equal → a ≡ b
tied_addresses (ip.V4 a) (ip.V4 b) e = let octets : a.octets ≡ b.octets = exact_bytes a.octets b.octets e in λ i. ip.V4 (record { octets = octets i })
tied_addresses (ip.V4 a) (ip.V6 b) e = absurd cc
tied_addresses (ip.V6 a) (ip.V4 b) e = absurd cc
tied_addresses (ip.V6 a) (ip.V6 b) e = let segments : a.segments ≡ b.segments = exact_bytes a.segments b.segments e in λ i. ip.V6 (record { segments = segments i })

tied_ends : (a b : Endpoint) → endpoint_order.ghosts.cmp a b ≡ Equal → a ≡ b
tied_ends a b e =
    let parts = both (address_order.ghosts.cmp a.address b.address) (nat_cmp a.port b.port) e in
    let address : a.address ≡ b.address = tied_addresses a.address b.address parts.0 in
    let port : a.port ≡ b.port = exact_unsigned a.port b.port parts.1 in
    λ i. record { address = address i; port = port i }

pub exact : (f g : Flow) → is_eq (flow_cmp f g) ≡ true → f ≡ g
exact f g e =
    let first = both (nat_cmp f.source_port g.source_port) (ordering_then (nat_cmp f.target_port g.target_port) (ordering_then (endpoint_order.ghosts.cmp f.source g.source) (endpoint_order.ghosts.cmp f.target g.target))) (tied (flow_cmp f g) e) in
    let second = both (nat_cmp f.target_port g.target_port) (ordering_then (endpoint_order.ghosts.cmp f.source g.source) (endpoint_order.ghosts.cmp f.target g.target)) first.1 in
    let third = both (endpoint_order.ghosts.cmp f.source g.source) (endpoint_order.ghosts.cmp f.target g.target) second.1 in
    let source_port : f.source_port ≡ g.source_port = exact_unsigned f.source_port g.source_port first.0 in
    let target_port : f.target_port ≡ g.target_port = exact_unsigned f.target_port g.target_port second.0 in
    let source : f.source ≡ g.source = tied_ends f.source g.source third.0 in
    let target : f.target ≡ g.target = tied_ends f.target g.target third.1 in
    λ i. record { source_port = source_port i; target_port = target_port i; source = source i; target = target i }

-- ---- by their ends
both_true : (a b : Bool) → (a && b) ≡ true → (a ≡ true) × (b ≡ true)
both_true true b e = (refl, e)
both_true false b e = absurd cc

same_list : (xs ys : List ℕ) → pointwise nat_eq xs ys ≡ true → xs ≡ ys
same_list [] [] e = refl
same_list [] (y ∷ ys) e = absurd cc
same_list (x ∷ xs) [] e = absurd cc
same_list (x ∷ xs) (y ∷ ys) e =
    let parts = both_true (nat_eq x y) (pointwise nat_eq xs ys) e in
    ap₂ (λ (z : ℕ) (zs : List ℕ). z ∷ zs) (exact_unsigned_eq x y parts.0) (same_list xs ys parts.1)

address-from_same : (a b : IpAddr) → same_address a b ≡ true → a ≡ b
address-from_same (ip.V4 a) (ip.V4 b) e = let octets : a.octets ≡ b.octets = same_list a.octets b.octets e in λ i. ip.V4 (record { octets = octets i })
address-from_same (ip.V4 a) (ip.V6 b) e = absurd cc
address-from_same (ip.V6 a) (ip.V4 b) e = absurd cc
address-from_same (ip.V6 a) (ip.V6 b) e = let segments : a.segments ≡ b.segments = same_list a.segments b.segments e in λ i. ip.V6 (record { segments = segments i })

same_address-itself : (a : IpAddr) → same_address a a ≡ true
same_address-itself (ip.V4 a) = nat_list_eq_equiv.refl a.octets
same_address-itself (ip.V6 a) = nat_list_eq_equiv.refl a.segments

end-from_same : (a b : Endpoint) → same_end a b ≡ true → a ≡ b
end-from_same a b e =
    let parts = both_true (same_address a.address b.address) (a.port == b.port) e in
    let address : a.address ≡ b.address = address-from_same a.address b.address parts.0 in
    let port : a.port ≡ b.port = exact_unsigned_eq a.port b.port parts.1 in
    λ i. record { address = address i; port = port i }

same_end-itself : (a : Endpoint) → same_end a a ≡ true
same_end-itself a = ap₂ (λ (x y : Bool). x && y) (same_address-itself a.address) (nat_eq_equiv.refl a.port)

module _ (source target : Endpoint) where
  pub are_ends-itself : are_ends source target source target ≡ true
  are_ends-itself = ap₂ (λ (x y : Bool). x && y) (same_end-itself source) (same_end-itself target)

  pub record AreSame (from to : Endpoint) : Type 0 where
    pub source_is : from ≡ source
    pub target_is : to ≡ target

  pub ends-from_are : (from to : Endpoint) → are_ends source target from to ≡ true → AreSame from to
  ends-from_are from to e =
      let parts = both_true (same_end source from) (same_end target to) e in
      record { source_is = sym (end-from_same source from parts.0); target_is = sym (end-from_same target to parts.1) }

  -- flows between other ends are not tied with one between these
  pub apart-from_ends : (from to : Endpoint) → are_ends source target from to ≡ false → is_eq (flow_cmp (flow_between source target) (flow_between from to)) ≡ false
  apart-from_ends from to n = by (is_eq (flow_cmp (flow_between source target) (flow_between from to))) refl
    where
      by : (b : Bool) → is_eq (flow_cmp (flow_between source target) (flow_between from to)) ≡ b → b ≡ false
      by false e = refl
      by true e =
          let same : flow_between source target ≡ flow_between from to = exact (flow_between source target) (flow_between from to) e in
          absurd (true≢false (sym are_ends-itself ∙ ap (λ (f : Flow). are_ends source target f.source f.target) same ∙ n))
