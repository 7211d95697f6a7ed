-- Items that are listed after one another.
use Rattle.std.proofs.Common.{◌≡◌, List, [], ◌∷◌, ◌++◌, Option, Some, None, refl, sym, ap, ◌∙◌}
use Rattle.krb_items.specs.Items.{Item, Items, Part, followed_by, goes_on}
use Rattle.krb_items.specs.Records.{Context, Lists, end_of, listed_item, listed_items, listed_part}
use Rattle.krb_items.specs.declared.listing.End.{End}
use Rattle.krb_items.specs.declared.listing.End.TheVariants as ends
use Rattle.krb_items.specs.declared.listing.Listed.{Listed}

pub listed-append : (context : Context) (first others : List Item) (old : Listed) → listed_items context (first ++ others) old ≡ listed_items context others (listed_items context first old)
listed-append context [] others old = refl
listed-append context (item ∷ items) others old = listed-append context items others (listed_item context item old)

-- what is whole is followed by others
then-by : (context : Context) (items : List Item) (cut : Option Part) (others : Items) (old mid new : Listed) (end : End) →
    mid ≡ listed_part context cut (listed_items context items old) → ends.Whole ≡ end_of cut → Lists context others mid new end → Lists context (goes_on items cut (λ _. others)) old new end
then-by context items None others old mid new end first whole second = record {
  listed = second.listed ∙ ap (λ m. listed_part context others.cut (listed_items context others.items m)) first ∙ ap (listed_part context others.cut) (sym (listed-append context items others.items old));
  ended = second.ended;
}
then-by context items (Some part) others old mid new end first whole second = absurd cc

pub lists-then : (context : Context) (first others : Items) (old mid new : Listed) (end : End) → Lists context first old mid ends.Whole → Lists context others mid new end → Lists context (followed_by first (λ _. others)) old new end
lists-then context first others old mid new end a b = then-by context first.items first.cut others old mid new end a.listed a.ended b

-- and what is cut by none
cut-by : (context : Context) (items : List Item) (cut : Option Part) (next : Unit {0} → Items) (old new : Listed) →
    new ≡ listed_part context cut (listed_items context items old) → ends.Cut ≡ end_of cut → Lists context (goes_on items cut next) old new ends.Cut
cut-by context items None next old new first is = absurd cc
cut-by context items (Some part) next old new first is = record { listed = first; ended = refl }

pub lists-cut : (context : Context) (first : Items) (next : Unit {0} → Items) (old new : Listed) → Lists context first old new ends.Cut → Lists context (followed_by first next) old new ends.Cut
lists-cut context first next old new a = cut-by context first.items first.cut next old new a.listed a.ended
