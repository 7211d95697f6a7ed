-- The octets that were read are those that the member spells.
use Rattle.std.proofs.Common.{◌≡◌, ℕ, List, [], ◌++◌, codes, Some, Ok, Err, sym, ap, ◌∙◌, Result, subst}
use Rattle.std.proofs.lemmas.Result.{err_from_is_err_and}
use Rattle.std.specs.Global.{Vec}
use Rattle.krb_json.specs.declared.value_fault.ValueFault.{ValueFault}
use Rattle.krb_json.specs.declared.value_fault.ValueFault.TheVariants.{At, Memory}
use Rattle.json.specs.Json.{Json}
use Rattle.json.specs.Find.{get}
use Rattle.json.specs.Value.{value_view}
use Rattle.krb_judge.specs.Paths.{field_path}
use Rattle.krb_json.specs.Spelled.{octets_spelled}
use Rattle.krb_json.specs.inner.Reading.{IsUnder, Reads}
use Rattle.krb_json.specs.inner.Scalars.{Gives, member_spelled}
use Rattle.krb_json.proofs.ScalarLemmas.{member-gives}
use Rattle.krb_json.proofs.scalars.octets_member.Goals as goal

member_octets : (name : List ℕ) (j part : Json) (old new : List ℕ) (inner outer : Result (Unit {0}) ValueFault) → Some part ≡ get name j → IsUnder (codes "." ++ name) inner outer → outer ≡ Ok tt → old ≡ [] → Reads (λ path. octets_spelled path part) (λ octets. octets) old new inner → (path : List ℕ) → member_spelled octets_spelled name j path ≡ Ok new
member_octets name j part old new (Ok done) outer found under is empty given path =
    rw (← found) (given.spelled (field_path path name) ∙ ap Ok (sym (given.octets ∙ ap (λ before. before ++ given.value) empty)))
member_octets name j part old new (Err (At fault)) (Ok done) found under is empty given path = absurd under
member_octets name j part old new (Err (At fault)) (Err other) found under is empty given path = cc
member_octets name j part old new (Err Memory) outer found under is empty given path = cc

member_fault : (name : List ℕ) (j part : Json) (old new : List ℕ) (inner outer : Result (Unit {0}) ValueFault) (e : ValueFault) → Some part ≡ get name j → IsUnder (codes "." ++ name) inner outer → outer ≡ Err e → Reads (λ path. octets_spelled path part) (λ octets. octets) old new inner → Gives (λ (octets : Vec ℕ). octets.items) (member_spelled octets_spelled name j) (Err e)
member_fault name j part old new inner outer Memory found under is given = tt
member_fault name j part old new (Ok done) outer (At fault) found under is given = λ path. cc
member_fault name j part old new (Err Memory) outer (At fault) found under is given = λ path. cc
member_fault name j part old new (Err (At inside)) outer (At fault) found under is given =
    let none : Unit {0} → List ℕ = λ _. [] in
    subst (Gives none (member_spelled octets_spelled name j)) is (member-gives none octets_spelled name j part (Err (At inside)) outer found under given)

pub returns-in_err-in_field : goal.returns-in_err-in_field
returns-in_err-in_field c =
    let p = err_from_is_err_and c.from_residual.result c.from_residual.ensures.1 in
    rw (p.1, p.2)
    (member_fault (codes "value") (value_view c.args.value.now) (value_view c.in-Some.member.now) _ _ c.read_octets.result c.in_field.result c.in_err-in_field.field-0.0 c.in-Some.ensures c.in_field.ensures c.in_err-in_field.was c.read_octets.ensures)

pub returns : goal.returns
returns c =
    member_octets (codes "value") (value_view c.args.value.now) (value_view c.in-Some.member.now) _ _ c.read_octets.result c.in_field.result c.in-Some.ensures c.in_field.ensures c.in_ok-in_field.was c.new-octets.ensures.items c.read_octets.ensures
