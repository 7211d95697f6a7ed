-- What octets are listed as, by what they are opened to.
use Rattle.std.proofs.Common.{◌≡◌, ℕ, List, Option, sym, ◌∙◌, ap}
use Rattle.krb_der.specs.declared.profile.Profile.{Profile}
use Rattle.krb_token.specs.Opened.{Opened}
use Rattle.krb_token.specs.Seen.{found_of, opened_of}
use Rattle.krb_token.specs.Tokens.{opened}
use Rattle.krb_token.specs.declared.opening.Found.{Found as FoundOfCode}
use Rattle.krb_token.specs.declared.opening.Opened.{Opened as OpenedOfCode}
use Rattle.krb_items_run.specs.Items.{Listable, found_listable, listable}

-- what is found, by its value in the code
pub found-listed : (profile : Profile) (octets : List ℕ) (o : OpenedOfCode) (found : FoundOfCode) (made : Option Listable) → opened_of o ≡ opened octets → o.found ≡ found
    → made ≡ found_listable profile octets o.layers.now (found_of found) → made ≡ listable profile octets
found-listed profile octets o found made is found-is same =
    same ∙ ap (λ (f : FoundOfCode). found_listable profile octets o.layers.now (found_of f)) (sym found-is) ∙ ap (λ (p : Opened). found_listable profile octets p.layers p.found) is
