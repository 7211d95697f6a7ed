-- The laws that each record of items is a line of printable ASCII.
use Rattle.std.specs.Prelude.{ℕ, List, Option, IfSome}
use Rattle.krb_der.specs.Octets.{AreOctets}
use Rattle.krb_der.specs.declared.profile.Profile.{Profile}
use Rattle.krb_der.specs.declared.verdict.Refusal.{Refusal}
use Rattle.krb_record.specs.Forms.{form_of}
use Rattle.krb_record.specs.Labels.{Label}
use Rattle.krb_record.specs.declared.form.Base.{Base}
use Rattle.krb_items.specs.Reached.{reached}
use Rattle.krb_items.specs.declared.reaching.Lies.{Lies}
use Rattle.krb_tool_laws.specs.Listings.{ArePrintedLines, AreRead}
use Rattle.krb_items_run.specs.Items.{items_listing}

abbrev pub label_in : Base → Option (List ℕ) → Label
label_in base file = record { form = form_of base; file = file }

-- What is listed of any octets, whatever is refused of them, adds such lines to what was listed before: those of items, and that of a fault.
abbrev pub ItemsArePrinted : Type 0
ItemsArePrinted = (base : Base) (file : Option (List ℕ)) (text : List ℕ) (lies : Lies) (octets : List ℕ) (fault : Option Refusal) → IfSome file AreOctets → AreOctets octets → ArePrintedLines text
    → ArePrintedLines (reached (label_in base file) text lies octets fault).text

-- The listing of the items of any input is such lines: those, the record of the first length if it is believed, and the last one.
abbrev pub ItemListingsArePrinted : Type 0
ItemListingsArePrinted = (base : Base) (file : Option (List ℕ)) (profile : Profile) (input : List ℕ) → IfSome file AreOctets → AreRead input → ArePrintedLines (items_listing (label_in base file) profile input).text
