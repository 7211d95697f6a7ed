-- Texts with blanks in place of comments.
use Rattle.std.proofs.Common.{ℕ, suc, ◌≡◌, List, [], ◌∷◌, length, refl, ap}
use Rattle.krb_input.specs.Comments.{after, blanked}
use Rattle.krb_input.specs.declared.text.Comments.{Comments}
use Rattle.krb_input.specs.declared.text.Comments.TheVariants.{Unread}

pub blanked_unread : (text : List ℕ) → blanked Unread text ≡ text
blanked_unread [] = refl
blanked_unread (octet ∷ text) = ap (λ others. octet ∷ others) (blanked_unread text)

pub length_blanked : (place : Comments) (text : List ℕ) → length (blanked place text) ≡ length text
length_blanked place [] = refl
length_blanked place (octet ∷ text) = ap suc (length_blanked (after place octet text) text)

pub ruleset blanks = (blanked_unread, length_blanked)
