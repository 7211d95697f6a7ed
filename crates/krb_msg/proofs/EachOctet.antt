-- Contents whose octets pass a test of their places.
use Rattle.std.proofs.Common.{◌≡◌, ℕ, ◌+◌, ◌<◌, ◌≤◌, Bool, true, false, lt-ltb, le-ltb, List, length, drop, get_or, ap, ◌∙◌}
use Rattle.std.proofs.lemmas.List.{drop_all}
use Rattle.krb_der.proofs.Spelled.{next_octet}
use Rattle.krb_der.specs.declared.why.Why.{Why}
use Rattle.krb_msg.specs.Judgement.{Open, Bad, Done, each_contents}

-- ---- octets that pass a test of their places
module _ (passes : ℕ → ℕ → Bool) (reason : Why) (contents : ℕ) where
  pub each-next : (octets : List ℕ) (place k : ℕ) → place ≡ k → k < length octets → passes place (get_or octets k 0) ≡ true → each_contents passes reason contents place (drop place octets) ≡ each_contents passes reason contents (place + 1) (drop (place + 1) octets)
  each-next octets place k e h t =
      let u : passes k (get_or octets k 0) ≡ true = rw e at t in
      rw e (ap (each_contents passes reason contents k) (next_octet octets k h) ∙ rw u)

  pub each-bad : (octets : List ℕ) (place k : ℕ) → place ≡ k → k < length octets → passes place (get_or octets k 0) ≡ false → each_contents passes reason contents place (drop place octets) ≡ Bad place reason
  each-bad octets place k e h t =
      let u : passes k (get_or octets k 0) ≡ false = rw e at t in
      rw e (ap (each_contents passes reason contents k) (next_octet octets k h) ∙ rw u)

  pub each-open : (octets : List ℕ) (place : ℕ) → length octets ≤ place → place < contents → each_contents passes reason contents place (drop place octets) ≡ Open
  each-open octets place h l = ap (each_contents passes reason contents place) (drop_all place octets h) ∙ rw (lt-ltb place contents l)

  pub each-done : (octets : List ℕ) (place : ℕ) → length octets ≤ place → contents ≤ place → each_contents passes reason contents place (drop place octets) ≡ Done contents
  each-done octets place h l = ap (each_contents passes reason contents place) (drop_all place octets h) ∙ rw (le-ltb place contents l)
