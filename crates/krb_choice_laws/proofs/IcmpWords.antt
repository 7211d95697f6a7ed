-- The names of the types and of the codes of errors of ICMP are words.
use Rattle.std.proofs.Common.{ℕ, ◌==◌, Bool, true, false, List, Option, Some, IfSome, refl}
use Rattle.krb_der.specs.Octets.{when}
use Rattle.krb_record.specs.Unreachables.{code_name, code_name4, code_name6, exceeded_code, exceeded_code6, parameter_code, parameter_code6, type_name, type_name4, type_name6, unreachable_code, unreachable_code6}
use Rattle.krb_record.specs.declared.unreachable.IcmpVersion.{IcmpVersion}
use Rattle.krb_record.specs.declared.unreachable.IcmpVersion.TheVariants as versions
use Rattle.krb_choice_laws.specs.Cells.{IsWord}

-- the next name, or what the others are
next : (is : Bool) (name : List ℕ) (others : Option (List ℕ)) → IsWord name → IfSome others IsWord → IfSome (when is (λ _. Some name) (λ _. others)) IsWord
next true name others bare rest = bare
next false name others bare rest = rest

-- the next table
table : (is : Bool) (these others : Option (List ℕ)) → IfSome these IsWord → IfSome others IsWord → IfSome (when is (λ _. these) (λ _. others)) IsWord
table true these others this rest = this
table false these others this rest = rest

type4 : (n : ℕ) → IfSome (type_name4 n) IsWord
type4 n = next (n == 3) _ _ refl (next (n == 11) _ _ refl (next (n == 12) _ _ refl tt))

type6 : (n : ℕ) → IfSome (type_name6 n) IsWord
type6 n = next (n == 1) _ _ refl (next (n == 2) _ _ refl (next (n == 3) _ _ refl (next (n == 4) _ _ refl tt)))

pub type-word : (v : IcmpVersion) (n : ℕ) → IfSome (type_name v n) IsWord
type-word versions.V4 n = type4 n
type-word versions.V6 n = type6 n

unreachable4 : (n : ℕ) → IfSome (unreachable_code n) IsWord
unreachable4 n =
    next (n == 0) _ _ refl (next (n == 1) _ _ refl (next (n == 2) _ _ refl (next (n == 3) _ _ refl (next (n == 4) _ _ refl (next (n == 5) _ _ refl (next (n == 6) _ _ refl
    (next (n == 7) _ _ refl (next (n == 9) _ _ refl (next (n == 10) _ _ refl (next (n == 11) _ _ refl (next (n == 12) _ _ refl (next (n == 13) _ _ refl tt))))))))))))

exceeded4 : (n : ℕ) → IfSome (exceeded_code n) IsWord
exceeded4 n = next (n == 0) _ _ refl (next (n == 1) _ _ refl tt)

parameter4 : (n : ℕ) → IfSome (parameter_code n) IsWord
parameter4 n = next (n == 0) _ _ refl (next (n == 1) _ _ refl (next (n == 2) _ _ refl tt))

unreachable6 : (n : ℕ) → IfSome (unreachable_code6 n) IsWord
unreachable6 n =
    next (n == 0) _ _ refl (next (n == 1) _ _ refl (next (n == 2) _ _ refl (next (n == 3) _ _ refl (next (n == 4) _ _ refl (next (n == 5) _ _ refl (next (n == 6) _ _ refl tt))))))

exceeded6 : (n : ℕ) → IfSome (exceeded_code6 n) IsWord
exceeded6 n = next (n == 0) _ _ refl (next (n == 1) _ _ refl tt)

parameter6 : (n : ℕ) → IfSome (parameter_code6 n) IsWord
parameter6 n = next (n == 0) _ _ refl (next (n == 1) _ _ refl (next (n == 2) _ _ refl tt))

code4 : (t n : ℕ) → IfSome (code_name4 t n) IsWord
code4 t n = table (t == 3) _ _ (unreachable4 n) (table (t == 11) _ _ (exceeded4 n) (table (t == 12) _ _ (parameter4 n) tt))

code6 : (t n : ℕ) → IfSome (code_name6 t n) IsWord
code6 t n = table (t == 1) _ _ (unreachable6 n) (table (t == 3) _ _ (exceeded6 n) (table (t == 4) _ _ (parameter6 n) tt))

pub code-word : (v : IcmpVersion) (t n : ℕ) → IfSome (code_name v t n) IsWord
code-word versions.V4 t n = code4 t n
code-word versions.V6 t n = code6 t n
