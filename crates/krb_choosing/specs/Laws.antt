-- The law of what is told of a listing.
use Rattle.std.specs.Prelude.{ℕ, ◌≡◌, ◌&&◌, Bool, true, false, List, [], ◌++◌, Some, bytes_eq, codes}
use Rattle.krb_record.specs.Forms.{is_marked, record_line, record_text}
use Rattle.krb_record.specs.Values.{LastLine, Printed}
use Rattle.krb_record.specs.declared.form.Form.{Form}
use Rattle.krb_choice.specs.Choices.{Choice, is_kept}
use Rattle.krb_choice.specs.Marked.{read_record}
use Rattle.krb_choosing.specs.Listings.{HasNoFeed, begun_after, told_listing}

-- If nothing is told of the last record of a listing, which has a line that tells of it, this is kept. Other records are before it, each whole, and the listing does not go on after it as it does after a refusal.
abbrev pub LastIsKeptOrTold : Type 0
LastIsKeptOrTold = (c : Choice) (goes_on : Bool) (before : List ℕ) (f : Form) (r : Printed) (line : LastLine) →
    begun_after [] before ≡ [] → HasNoFeed (record_text f r) → is_marked f ≡ true → r.aside ≡ Some line →
    (goes_on && bytes_eq (read_record (record_text f r)).kind (codes "refused")) ≡ false →
    told_listing c goes_on (before ++ record_line f r) ≡ [] → is_kept c true (read_record (record_text f r)) ≡ true
