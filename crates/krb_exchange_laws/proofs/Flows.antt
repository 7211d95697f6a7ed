-- Flows that are the same, and those between two ends.
use Rattle.std.proofs.Common.{◌≡◌, Bool, true, false, ◌&&◌, ◌||◌, refl, sym, ◌∙◌, ap}
use Rattle.std.specs.declared.cmp.Ordering.{Ordering}
use Rattle.std.specs.declared.cmp.Ordering.TheVariants.{Less, Equal, Greater}
use Rattle.std.specs.Ordering.{is_eq, ordering_then}
use Rattle.std.proofs.lemmas.Bool.{true≢false}
use Rattle.std.proofs.lemmas.Cmp.{eq_by_cmp_equiv}
use Rattle.krb_source.specs.contracts.endpoint.EndpointOrd.TheImpl as endpoint_order
use Rattle.krb_source.specs.declared.endpoint.Endpoint.{Endpoint}
use Rattle.krb_record.specs.contracts.flow.FlowOrd.TheImpl.Laws as flow_laws
use Rattle.krb_record.specs.contracts.flow.TransportOrd.TheImpl as transport_order
use Rattle.krb_record.specs.declared.flow.Flow.{Flow}
use Rattle.krb_record.specs.declared.flow.Transport.{Transport}
use Rattle.krb_exchange.specs.Happened.{flow_cmp, reversed, same_flow}
use Rattle.krb_exchange_laws.specs.Laws.{is_either}

equal-from : (o : Ordering) → is_eq o ≡ true → o ≡ Equal
equal-from Less e = absurd (true≢false (sym e))
equal-from Equal e = refl
equal-from Greater e = absurd (true≢false (sym e))

flows-symmetric : (f g : Flow) → same_flow f g ≡ same_flow g f
flows-symmetric f g = (eq_by_cmp_equiv flow_laws.total-law).symm f g

flows-same : (f g h : Flow) → same_flow g h ≡ true → same_flow f g ≡ same_flow f h
flows-same f g h e = flows-symmetric f g ∙ ap is_eq (flow_laws.total-law.congr g h f (equal-from (flow_cmp g h) e)) ∙ flows-symmetric h f

pub either-same : (f g h : Flow) → same_flow g h ≡ true → is_either f g ≡ is_either f h
either-same f g h e = ap (λ b. b || same_flow (reversed f) g) (flows-same f g h e) ∙ ap (λ b. same_flow f h || b) (flows-same (reversed f) g h e)

-- ---- the other way round
is_eq-then : (a b : Ordering) → is_eq (ordering_then a b) ≡ (is_eq a && is_eq b)
is_eq-then Less b = refl
is_eq-then Equal b = refl
is_eq-then Greater b = refl

abbrev endpoint_cmp : Endpoint → Endpoint → Ordering
endpoint_cmp = endpoint_order.ghosts.cmp

abbrev transport_cmp : Transport → Transport → Ordering
transport_cmp = transport_order.ghosts.cmp

parts : (f g : Flow) → same_flow f g ≡ (is_eq (transport_cmp f.transport g.transport) && (is_eq (endpoint_cmp f.source g.source) && is_eq (endpoint_cmp f.target g.target)))
parts f g =
    is_eq-then (transport_cmp f.transport g.transport) (ordering_then (endpoint_cmp f.source g.source) (endpoint_cmp f.target g.target))
    ∙ ap (λ b. is_eq (transport_cmp f.transport g.transport) && b) (is_eq-then (endpoint_cmp f.source g.source) (endpoint_cmp f.target g.target))

swapped : (a b c : Bool) → (a && (b && c)) ≡ (a && (c && b))
swapped true true true = refl
swapped true true false = refl
swapped true false true = refl
swapped true false false = refl
swapped false b c = refl

same-reversed : (f g : Flow) → same_flow f (reversed g) ≡ same_flow (reversed f) g
same-reversed f g =
    parts f (reversed g)
    ∙ swapped (is_eq (transport_cmp f.transport g.transport)) (is_eq (endpoint_cmp f.source g.target)) (is_eq (endpoint_cmp f.target g.source))
    ∙ sym (parts (reversed f) g)

either-swapped : (a b : Bool) → (a || b) ≡ (b || a)
either-swapped true true = refl
either-swapped true false = refl
either-swapped false true = refl
either-swapped false false = refl

pub either-reversed : (f g : Flow) → is_either f (reversed g) ≡ is_either f g
either-reversed f g =
    ap (λ b. b || same_flow (reversed f) (reversed g)) (same-reversed f g)
    ∙ ap (λ b. same_flow (reversed f) g || b) (same-reversed (reversed f) g)
    ∙ either-swapped (same_flow (reversed f) g) (same_flow f g)
