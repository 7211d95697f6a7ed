-- What is decided on a prefix stays decided, and is open before it.
use Rattle.std.proofs.Common.{◌≡◌, ℕ, ◌<◌, List, [], ◌∷◌, ◌++◌, refl, sym, ap, ◌∙◌}
use Rattle.krb_msg.specs.Term.{Term}
use Rattle.krb_scan.specs.Scan.{State, scan}
use Rattle.krb_scan.specs.inner.Machine.{step, go_on, initial}
use Rattle.krb_scan.proofs.Resume.{run, run_scan, go_on_each, go_on_assoc}

pub run_append : (state : State) (octets more : List ℕ) → run state (octets ++ more) ≡ go_on (run state octets) (λ then_state. run then_state more)
run_append state [] more = refl
run_append state (octet ∷ octets) more =
    go_on_each (step state octet) _ _ (λ then_state. run_append then_state octets more)
    ∙ sym (go_on_assoc (step state octet) (λ then_state. run then_state octets) (λ then_state. run then_state more))

-- The scan of a longer list goes on from the scan of a prefix.
pub scan_append : (terms : List Term) (n : ℕ) (octets more : List ℕ) → 0 < n → scan terms n (octets ++ more) ≡ go_on (scan terms n octets) (λ state. run state more)
scan_append terms n octets more some =
    run_scan terms n (octets ++ more) some ∙ run_append (initial terms n) octets more ∙ ap (λ given. go_on given (λ state. run state more)) (sym (run_scan terms n octets some))
