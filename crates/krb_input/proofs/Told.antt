-- What rules read of a text, told of the input.
use Rattle.std.proofs.Common.{ℕ, ◌≡◌, List, [], ◌∷◌, length, Option, Result, Ok, Err, IfOk, IfErr, refl, sym, subst}
use Rattle.std.specs.Global.{Vec}
use Rattle.krb_input.specs.Readings.{Reading}
use Rattle.krb_input.specs.Braces.{before, block, to_brace}
use Rattle.krb_input.specs.Inputs.{Spells, IsFaultOf, as_form}
use Rattle.krb_input.specs.inner.Results.{IsFault, IsSpelled, Reads}
use Rattle.krb_source.specs.declared.spelling.Spelling.{Spelling}
use Rattle.krb_input.specs.declared.spelled.Spelled.{Spelled}
use Rattle.krb_input.specs.declared.spelled.InputFault.{InputFault}
use Rattle.krb_input.specs.declared.text_fault.TextFault.{TextFault}

reads_of : (reading : Reading) (read : Result (Vec ℕ) TextFault) → IfOk read (λ octets. reading ≡ Ok octets.items) → IfErr read (IsFault reading) → Reads reading read
reads_of reading (Ok octets) ok err = ok
reads_of reading (Err fault) ok err = err

pub told_is : (spells : Spells) (reading : Reading) (size : ℕ) (form : Spelling) (read : Result (Vec ℕ) TextFault) (result : Result Spelled InputFault) → spells ≡ as_form size form reading →
    IfOk read (λ octets. reading ≡ Ok octets.items) → IfErr read (IsFault reading) → ((reading : Reading) → Reads reading read → IsSpelled (as_form size form reading) result) → IsSpelled spells result
told_is spells reading size form read result is octets fault told = subst (λ s. IsSpelled s result) (sym is) (told reading (reads_of reading read octets fault))

pub spelled_ok : (spells found : Spells) (result : Result Spelled InputFault) → spells ≡ found → IsSpelled found result → IfOk result (λ made. spells ≡ Ok (made.form, made.octets.items))
spelled_ok spells found (Ok made) is found_is = subst (λ s. s ≡ Ok (made.form, made.octets.items)) (sym is) found_is
spelled_ok spells found (Err fault) is found_is = tt

pub spelled_err : (spells found : Spells) (result : Result Spelled InputFault) → spells ≡ found → IsSpelled found result → IfErr result (IsFaultOf spells)
spelled_err spells found (Ok made) is found_is = tt
spelled_err spells found (Err fault) is found_is = subst (λ s. IsFaultOf s fault) (sym is) found_is

pub braces_fault : (comment : Option ℕ) (inside following : List ℕ) (fault result : TextFault) → (following ≡ [] → ⊥) → IsFault (block inside) fault →
    ((reading : Reading) → IsFault reading fault → IsFault (before (length following) reading) result) → IsFault (to_brace comment inside following) result
braces_fault comment inside [] fault result some is told = absurd (some refl)
braces_fault comment inside (brace ∷ following) fault result some is told = told (block inside) is
