-- The items of an input that is too long.
use Rattle.std.proofs.Common.{◌≡◌, ℕ, true, List, ◌++◌, length, Option, Some, None, sym, ap, ◌∙◌, refl, arith, length-append}
use Rattle.std.specs.Prelude.{nat_lt}
use Rattle.std.proofs.lemmas.Bool.{lt-ltb}
use Rattle.krb_der.specs.declared.profile.Profile.{Profile}
use Rattle.krb_record.specs.Labels.{Label}
use Rattle.krb_run.specs.Files.{FileListing}
use Rattle.krb_tool.specs.Messages.{input_limit, message_listing}
use Rattle.krb_tool.proofs.Messages.{cut-listed}
use Rattle.krb_items_run.specs.Items.{IsItemsListing, items_listing}

pub long-items : (label : Label) (profile : Profile) (octets : List ℕ) → nat_lt input_limit (length octets) ≡ true → items_listing label profile octets ≡ message_listing label profile octets
unfolding items_listing
long-items label profile octets e = rw e refl

abbrev some_number : Option ℕ → ℕ
some_number (Some n) = n
some_number None = 0

-- the listing of too much input is that of its first octets
pub cut-items : (label : Label) (profile : Profile) (kept rest : List ℕ) (listing : FileListing) → Some 16777217 ≡ Some (length kept) → IsItemsListing label profile kept listing → IsItemsListing label profile (kept ++ rest) listing
cut-items label profile kept rest listing e listed =
    let size : length kept ≡ 16777217 = sym (ap some_number e) in
    cut-listed label profile kept rest listing e (listed ∙ long-items label profile kept (lt-ltb 16777216 (length kept) (omega (arith, size))))
    ∙ sym (long-items label profile (kept ++ rest) (lt-ltb 16777216 (length (kept ++ rest)) (omega (arith, size, length-append kept rest))))
