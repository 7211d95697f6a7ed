-- The parts of a message that changes a password.
use Rattle.std.proofs.Common.{◌≡◌, ℕ, ◌+◌, ◌-◌, ◌≤◌, inl, inr, Bool, true, false, List, length, take, drop, Result, Ok, Err, refl, sym, ◌∙◌, ap, ap₂, arith, length-drop}
use Rattle.std.specs.Prelude.{nat_lt, if◌then◌else◌}
use Rattle.std.proofs.lemmas.Bool.{cases_lt, lt-ltb}
use Rattle.std.proofs.lemmas.List.{drop-drop}
use Rattle.krb_der.specs.declared.profile.Profile.{Profile}
use Rattle.krb_record.specs.declared.extent.Extent.{Extent}
use Rattle.krb_record.specs.declared.capture_origin.CaptureOrigin.{CaptureOrigin}
use Rattle.krb_capture.specs.Found.{Password, Written, with_all, with_found}
use Rattle.krb_capture.specs.Passwords.{and_then, checked, header, number, part_found, parts_found}
use Rattle.krb_capture.specs.declared.password.Fault.{Fault}
use Rattle.krb_capture.specs.declared.password.Field.TheVariants as fields
use Rattle.krb_capture.specs.declared.password.Header.{Header}
use Rattle.krb_capture.proofs.Found.{with_all-append}

no_error : {A : Type 0} (fault : Fault) (value : A) → Err fault ≡ Ok value → ⊥
no_error fault value e = cc

no_true : true ≡ false → ⊥
no_true e = cc

checked_by : (loose over long : Bool) (a b c : Fault) (given found : Header) (size : ℕ) → (long ≡ false → 6 + given.ap ≤ size) → (if loose then Err a else if over then Err b else if long then Err c else Ok given) ≡ Ok found → 6 + found.ap ≤ size
checked_by true over long a b c given found size h e = absurd (no_error a found e)
checked_by false true long a b c given found size h e = absurd (no_error b found e)
checked_by false false true a b c given found size h e = absurd (no_error c found e)
checked_by false false false a b c given found size h e = let same : given ≡ found = cc in omega (arith, h refl, ap (λ (x : Header). x.ap) same)

checked_parts : (size all version ap : ℕ) (found : Header) → checked size all version ap ≡ Ok found → 6 + found.ap ≤ size
checked_parts size all version announced found e =
    checked_by (nat_lt all size) (nat_lt size all) (nat_lt size (6 + announced)) _ _ _ (record { version = version; ap = announced }) found size within e
  where
    within : nat_lt size (6 + announced) ≡ false → 6 + announced ≤ size
    within s = elim (cases_lt size (6 + announced)) [
      | inl h ↦ absurd (no_true (sym (lt-ltb size (6 + announced) h) ∙ s))
      | inr h ↦ h
    ]

then_ok : {A B : Type 0} (r : Result A Fault) (next : A → Result B Fault) (found : B) (P : Type 0) → ((value : A) → next value ≡ Ok found → P) → and_then r next ≡ Ok found → P
then_ok (Err fault) next found P each e = absurd (no_error fault found e)
then_ok (Ok value) next found P each e = each value e

pub header_parts : (octets : List ℕ) (found : Header) → header octets ≡ Ok found → 6 + found.ap ≤ length octets
unfolding header
header_parts octets found e =
    then_ok (number fields.Length octets) _ found (6 + found.ap ≤ length octets)
    (λ all e. then_ok (number fields.Version octets) _ found (6 + found.ap ≤ length octets)
    (λ version e. then_ok (number fields.ApLength octets) _ found (6 + found.ap ≤ length octets)
    (λ announced e. checked_parts (length octets) all version announced found e) e) e) e

-- the parts listed one after another
pub parts_listed : (profile : Profile) (extent : Extent) (origin : CaptureOrigin) (before : ℕ) (octets parts first second : List ℕ) (header : Header) (n m : ℕ) (w0 w1 w2 w3 : Written) → n ≡ header.ap → m ≡ header.ap → parts ≡ drop 6 octets → first ≡ take n parts → second ≡ drop n parts → w1 ≡ with_found origin (Password octets header.version header.ap (length second)) w0 → w2 ≡ with_all origin (part_found profile extent (before + 6) first) w1 → w3 ≡ with_all origin (part_found profile extent (before + (6 + m)) second) w2 → w3 ≡ with_all origin (parts_found profile extent before octets (Ok header)) w0
parts_listed profile extent origin before octets parts first second header n m w0 w1 w2 w3 en em p f s a b c =
    let rest : second ≡ drop (6 + header.ap) octets = s ∙ ap₂ drop en p ∙ drop-drop header.ap 6 octets in
    let prefix : first ≡ take header.ap (drop 6 octets) = f ∙ ap₂ take en p in
    let size : length second ≡ length octets - (6 + header.ap) = ap length rest ∙ length-drop (6 + header.ap) octets in
    c
    ∙ ap (λ k. with_all origin (part_found profile extent (before + (6 + k)) second) w2) em
    ∙ ap₂ (λ l w. with_all origin (part_found profile extent (before + (6 + header.ap)) l) w) rest
    (b
    ∙ ap₂ (λ l w. with_all origin (part_found profile extent (before + 6) l) w) prefix
    (a ∙ ap (λ n. with_found origin (Password octets header.version header.ap n) w0) size))
    ∙ sym (with_all-append origin (part_found profile extent (before + 6) (take header.ap (drop 6 octets))) (part_found profile extent (before + (6 + header.ap)) (drop (6 + header.ap) octets)) (with_found origin (Password octets header.version header.ap (length octets - (6 + header.ap))) w0))
