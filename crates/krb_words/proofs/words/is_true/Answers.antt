use Rattle.std.proofs.Common.{◌≡◌, List, ℕ, Some}
use Rattle.krb_words.proofs.words.is_true.Goals as goal

same_text : (text other : List ℕ) → Some text ≡ Some other → text ≡ other
same_text text other e = cc

pub returns-in_default : goal.returns-in_default
returns-in_default c = λ e. c.in_default.not-true (same_text _ _ e)
