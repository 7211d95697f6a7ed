-- A listing of which all kinds are chosen is written as it is.
use Rattle.std.proofs.Common.{◌≡◌, ◌∙◌, ℕ, Bool, true, List, [], ◌∷◌, ◌++◌, refl, ap₂}
use Rattle.std.specs.List.{AllByRecursion, flat_map, list_any}
use Rattle.std.specs.Prelude.{bytes_eq}
use Rattle.krb_record.specs.Forms.{form_of, record_line}
use Rattle.krb_record.specs.Values.{Printed}
use Rattle.krb_record.specs.declared.form.Base.{Base}
use Rattle.krb_choice.specs.Choices.{Whole, chosen_text, kind_alone}
use Rattle.krb_choice.specs.Wanted.{choice_form}
use Rattle.krb_choice_laws.specs.Listing.{AllKindsAreListed, may_be_last}
use Rattle.krb_choice_laws.proofs.KeptKinds.{all-kept}
use Rattle.krb_choice_laws.proofs.Lines.{listing-chosen}

each-whole : (kinds : List (List ℕ)) (base : Base) (goes_on : Bool) (records : List Printed) → AllByRecursion (λ (r : Printed). list_any (bytes_eq (kind_alone r.kind)) kinds ≡ true) records
    → flat_map (λ r. chosen_text (record { by_kind = true; kinds = kinds; print = Whole base }) (may_be_last goes_on r) r) records ≡ flat_map (record_line (form_of base)) records
each-whole kinds base goes_on [] h = refl
each-whole kinds base goes_on (r ∷ others) h = ap₂ (λ a b. a ++ b) (all-kept kinds (Whole base) (may_be_last goes_on r) r h.0) (each-whole kinds base goes_on others h.1)

pub all-listed : AllKindsAreListed
unfolding choice_form
all-listed kinds base goes_on records h k = listing-chosen (record { by_kind = true; kinds = kinds; print = Whole base }) goes_on records h ∙ each-whole kinds base goes_on records k
