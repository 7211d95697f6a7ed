-- A line of a dump, and the lines after it.
use Rattle.std.proofs.Common.{ℕ, ◌+◌, ◌≡◌, List, [], ◌∷◌, ◌++◌, length, Some, None, Ok, Err, refl, sym, ap, ◌∙◌, length-append, subst}
use Rattle.krb_input.specs.Characters.{skip_blanks}
use Rattle.krb_input.specs.Readings.{Reading, prepend}
use Rattle.krb_input.specs.Dumps.{Line, line, then_lines, dump_from, blanks_alone}
use Rattle.krb_input.specs.Braces.{before}
use Rattle.krb_input.specs.inner.Results.{IsFault, IsLineFault, line_after}
use Rattle.krb_input.specs.declared.text_fault.TextFault.{TextFault}
use Rattle.krb_input.specs.declared.text_fault.TextFault.TheVariants.{Left, Memory}
use Rattle.krb_input.proofs.Prepends.{prepend_twice}

then_octets : (old new : List ℕ) (after : List ℕ) (others : List (List ℕ × List ℕ)) (line : Line) → line_after old line ≡ Ok (Some new) →
    prepend old (then_lines after line (λ octets. dump_from (length old + length octets) others)) ≡ prepend new (dump_from (length new) others)
then_octets old new after others (Ok (Some octets)) is =
    let same : old ++ octets ≡ new = cc in
    prepend_twice old octets (dump_from (length old + length octets) others)
    ∙ ap (λ n. prepend (old ++ octets) (dump_from n others)) (sym (length-append old octets))
    ∙ ap (λ all. prepend all (dump_from (length all) others)) same
then_octets old new after others (Ok None) is = absurd (cc)
then_octets old new after others (Err left) is = absurd (cc)

pub dump_octets : (old new : List ℕ) (text after : List ℕ) (others : List (List ℕ × List ℕ)) → line_after old (line (length old) text) ≡ Ok (Some new) →
    prepend old (dump_from (length old) ((text, after) ∷ others)) ≡ prepend new (dump_from (length new) others)
dump_octets old new text after others is = then_octets old new after others (line (length old) text) is

pub dump_last : (old : List ℕ) (text after : List ℕ) (others : List (List ℕ × List ℕ)) → line (length old) text ≡ Ok None →
    prepend old (dump_from (length old) ((text, after) ∷ others)) ≡ prepend old (blanks_alone (skip_blanks after))
dump_last old text after others is = ap (λ found. prepend old (then_lines after found (λ octets. dump_from (length old + length octets) others))) is

pub dump_fault : (old : List ℕ) (left : ℕ) (text after : List ℕ) (others : List (List ℕ × List ℕ)) → line (length old) text ≡ Err left →
    prepend old (dump_from (length old) ((text, after) ∷ others)) ≡ Err (left + length after)
dump_fault old left text after others is = ap (λ found. prepend old (then_lines after found (λ octets. dump_from (length old + length octets) others))) is

pub dump_fault_of : (old text after : List ℕ) (others : List (List ℕ × List ℕ)) (fault result : TextFault) → IsLineFault (line (length old) text) fault →
    ((reading : Reading) → IsFault reading fault → IsFault (before (length after) reading) result) → IsFault (prepend old (dump_from (length old) ((text, after) ∷ others))) result
dump_fault_of old text after others (Left left) result is told = subst (λ r. IsFault r result) (sym (dump_fault old left text after others is)) (told (Err left) refl)
dump_fault_of old text after others Memory Memory is told = tt
dump_fault_of old text after others Memory (Left left) is told = let no : Ok [] ≡ Err left = told (Ok []) tt in absurd (cc)

pub ruleset dump_lines = (dump_octets, dump_last)
