-- Octets appended in steps.
use Rattle.std.proofs.Common.{◌≡◌, List, ◌++◌, sym, ap, ◌∙◌, append_assoc}

pub appended : {A : Type 0} (before between after first second all : List A) → after ≡ between ++ second → between ≡ before ++ first → all ≡ first ++ second → after ≡ before ++ all
appended before between after first second all p q r =
    p ∙ ap (λ l. l ++ second) q ∙ append_assoc before first second ∙ ap (λ l. before ++ l) (sym r)
