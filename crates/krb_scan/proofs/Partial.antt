-- The octets of a part that is partly read are octets.
use Rattle.std.proofs.Common.{ℕ, ◌+◌, ◌-◌, ◌<◌, ◌&&◌, ◌==◌, nat_lt, List, [], ◌∷◌, ◌++◌, Some, None, sym, subst}
use Rattle.krb_der.specs.Octets.{AreOctets}
use Rattle.krb_der.specs.inner.Numbers.{AreOctets-append}
use Rattle.krb_der.specs.declared.why.Why.{Why}
use Rattle.krb_der.specs.declared.why.Why.TheVariants as why
use Rattle.krb_msg.specs.Term.{Term}
use Rattle.krb_msg.specs.Judgement.{Outcome, Open, Bad, Done, Head, Partial, Refused, Got, head, has_size}
use Rattle.krb_scan.specs.Scan.{Mark, Container, Tip, Between, InHead, InLeaf, State, limit, sole_in, container_of, with_mark, leaf_outcome, Answer, Ongoing, Refusing, Whole, scan}
use Rattle.krb_scan.specs.inner.Machine.{Pick, pick, requires_item, settle, leafed, enter, headed, tagged, picked, step_between, step_at, step, go_on, initial}
use Rattle.krb_scan.proofs.Basics.{enters_holds, when_holds}
use Rattle.krb_scan.proofs.Resume.{run, run_scan}

abbrev pub octets_of : Tip → List ℕ
octets_of (Between place) = []
octets_of (InHead term from octets) = octets
octets_of (InLeaf term start count octets) = octets

abbrev pub HasOctets : Answer → Type 0
HasOctets (Ongoing state) = AreOctets (octets_of state.tip)
HasOctets other = Unit {0}

pub record KeepsOctets (given : Answer) : Type 0 where
  pub keeps : HasOctets given

refusing_octets : (place : ℕ) (reason : Why) → KeepsOctets (Refusing place reason)
refusing_octets place reason = record { keeps = tt {0} }

settle_octets : (stack : List Container) (marks : List Mark) (place : ℕ) → KeepsOctets (settle stack marks place)
settle_octets [] marks place = record { keeps = tt {0} }
settle_octets (container ∷ outer) marks place =
    when_holds KeepsOctets (nat_lt place container.end) _ _ (record { keeps = tt {0} })
    (when_holds KeepsOctets (requires_item container.expected) _ _ (refusing_octets (place - 1) why.Missing) (settle_octets outer marks place))

leafed_octets : (outcome : Outcome) (term : Term) (start count : ℕ) (stack : List Container) (marks : List Mark) (octets : List ℕ) → AreOctets octets → KeepsOctets (leafed outcome term start count stack marks octets)
leafed_octets Open term start count stack marks octets a = record { keeps = a }
leafed_octets (Bad offset reason) term start count stack marks octets a = refusing_octets (start + offset) reason
leafed_octets (Done total) term start count stack marks octets a = settle_octets stack _ (start + count)

enter_octets : (term : Term) (start count : ℕ) (stack : List Container) (marks : List Mark) → KeepsOctets (enter term start count stack marks)
enter_octets term start count stack marks =
    enters_holds KeepsOctets term start count stack marks (leafed_octets (leaf_outcome term count []) term start count stack marks [] (tt {0})) (λ expected. settle_octets (container_of (start + count) expected ∷ stack) (with_mark marks term start count) start)

headed_octets : (got : Head) (term : Term) (stack : List Container) (marks : List Mark) (from : ℕ) (octets : List ℕ) → AreOctets octets → KeepsOctets (headed got term stack marks from octets)
headed_octets Partial term stack marks from octets a = record { keeps = a }
headed_octets (Refused offset reason) term stack marks from octets a = refusing_octets (from + offset) reason
headed_octets (Got header count) term stack marks from octets a =
    when_holds KeepsOctets (sole_in stack && nat_lt (header + count) (limit stack - from)) _ _ (refusing_octets (from + header - 1) why.Loose)
    (when_holds KeepsOctets (has_size term count) _ _ (enter_octets term (from + header) count stack marks) (refusing_octets (from + header - 1) why.Size))

tagged_octets : (term : Term) (stack : List Container) (marks : List Mark) (from octet : ℕ) → octet < 256 → KeepsOctets (tagged term stack marks from octet)
tagged_octets term stack marks from octet h = when_holds KeepsOctets (limit stack - from == 1) _ _ (refusing_octets from why.Overrun) (record { keeps = (h, tt {0}) })

step_octets : (state : State) (octet : ℕ) → octet < 256 → AreOctets (octets_of state.tip) → KeepsOctets (step state octet)
step_octets state octet h a = by_tip state.tip a
  where
    by_choice : (choice : Pick) (end : ℕ) (outer : List Container) (place : ℕ) → KeepsOctets (picked choice end outer state.marks place octet)
    by_choice None end outer place = refusing_octets place why.Tag
    by_choice (Some choice) end outer place = tagged_octets choice.0 (container_of end choice.1 ∷ outer) state.marks place octet h

    by_stack : (stack : List Container) (place : ℕ) → KeepsOctets (step_between stack state.marks place octet)
    by_stack [] place = record { keeps = tt {0} }
    by_stack (container ∷ outer) place = by_choice (pick octet container.expected) container.end outer place

    push : (octets : List ℕ) → AreOctets octets → AreOctets (octets ++ octet ∷ [])
    push octets k = AreOctets-append octets (octet ∷ []) k (h, tt {0})

    by_tip : (tip : Tip) → AreOctets (octets_of tip) → KeepsOctets (step_at tip state.stack state.marks octet)
    by_tip (Between place) k = by_stack state.stack place
    by_tip (InHead term from octets) k = headed_octets (head (limit state.stack - from) (octets ++ octet ∷ [])) term state.stack state.marks from (octets ++ octet ∷ []) (push octets k)
    by_tip (InLeaf term start count octets) k = leafed_octets (leaf_outcome term count (octets ++ octet ∷ [])) term start count state.stack state.marks (octets ++ octet ∷ []) (push octets k)

run_octets : (state : State) (octets : List ℕ) → AreOctets octets → AreOctets (octets_of state.tip) → KeepsOctets (run state octets)
run_octets state [] h a = record { keeps = a }
run_octets state (octet ∷ octets) h a = by_answer (step state octet) (step_octets state octet h.0 a) (λ then_state k. run_octets then_state octets h.1 k)
  where
    by_answer : (given : Answer) → KeepsOctets given → ((then_state : State) → AreOctets (octets_of then_state.tip) → KeepsOctets (run then_state octets)) → KeepsOctets (go_on given (λ then_state. run then_state octets))
    by_answer (Ongoing then_state) k next = next then_state k.keeps
    by_answer (Refusing place reason) k next = refusing_octets place reason
    by_answer (Whole marks) k next = record { keeps = tt {0} }

pub scan_octets : (terms : List Term) (n : ℕ) (octets : List ℕ) → 0 < n → AreOctets octets → KeepsOctets (scan terms n octets)
scan_octets terms n octets some h = subst KeepsOctets (sym (run_scan terms n octets some)) (run_octets (initial terms n) octets h (tt {0}))
