-- Parts one after another, as they are appended and counted.
use Rattle.std.specs.Prelude.{ℕ, ◌≡◌, ◌+◌, ◌-◌, ◌^◌, Bool, true, false, List, [], ◌∷◌, ◌++◌, codes, min, nat_lt}
use Rattle.krb_record.specs.declared.form.Form.{Form}
use Rattle.krb_record.specs.declared.form.Form.TheVariants as form
use Rattle.krb_record.specs.Forms.{part_text}
use Rattle.krb_record.specs.Values.{Part}

-- what precedes a part, if others were told before it or none was
unfoldable pub separator : Form → Bool → List ℕ
separator form.Lines told = codes " "
separator form.NamedLines told = codes " "
separator form.Json false = []
separator form.Json true = codes ","
separator form.KeptLines told = codes " "
separator form.KeptNamedLines told = codes " "
separator form.KeptJson false = []
separator form.KeptJson true = codes ","
separator (form.Rows wanted) told = []

-- of a form in which commas are between parts
pub record AreBetweenCommas (f : Form) : Type 0 where
  pub first : separator f false ≡ []
  pub next : separator f true ≡ codes ","

abbrev pub parts_after : Form → Bool → List Part → List ℕ
parts_after f told [] = []
parts_after f told (p ∷ ps) = (separator f told ++ part_text f p) ++ parts_after f true ps

-- whether any was told, after these
abbrev pub told_after : Bool → List Part → Bool
told_after told [] = told
told_after told (p ∷ ps) = true

-- how many were told after these; 64 bits count no further
abbrev pub counted : ℕ → List Part → ℕ
counted told [] = told
counted told (p ∷ ps) = counted (min (told + 1) (2 ^ 64 - 1)) ps

-- parts were appended to a text: how many were told before and after, and the text before and after
pub record Tells (f : Form) (parts : List Part) (old_told : ℕ) (old : List ℕ) (told : ℕ) (new : List ℕ) : Type 0 where
  pub text : new ≡ old ++ parts_after f (nat_lt 0 old_told) parts
  pub by_now : told ≡ counted old_told parts
