-- A whole file of a version: the credentials up to its end, what is read of it, and the place of a fault.
use Rattle.std.proofs.Common.{◌≡◌, ℕ, ◌<◌, ◌≤◌, inl, inr, Option, None, Some, Result, Ok, Err, List, [], ◌∷◌, length, refl, ap, ◌∙◌, subst, arith}
use Rattle.krb_file.specs.Fields.{Source, source_of, Fault, Bounds, limited, Reader, and_then, Fails}
use Rattle.krb_file.specs.declared.fault.FileFault.{FileFault}
use Rattle.krb_file.specs.declared.fault.FileFault.TheVariants as faults
use Rattle.krb_source.specs.declared.file_why.FileWhy.TheVariants as why
use Rattle.krb_file.proofs.Fields.{at, done, failed, ok_is, and_then-ok, and_then-err}
use Rattle.krb_file.proofs.Steps.{IsFault, IsFault-then}
use Rattle.krb_ccache.specs.declared.reading.Start.{Start}
use Rattle.krb_ccache.specs.declared.value.Credential.{Credential}
use Rattle.krb_ccache.specs.Reading.{credential_at, CacheItems, items_after, all_items, started, credentials_after, read_in}
use Rattle.krb_ccache.proofs.Faults.{Steps-start, Steps-credential}
use Rattle.krb_ccache.proofs.Items.{items_after-fault}
use Rattle.krb_ccache.proofs.Stepwise.{Shortens, next_of}

-- ---- each credential has octets
module _ {A : Type 0} (item_at : Reader A) (shortens : Shortens item_at) where
  pub next-shorter : (bounds : Bounds) (place : ℕ) (octets : List ℕ) (x : A) (t : Source) → next_of item_at bounds (at place octets) ≡ Ok (Some x, t) → length t.octets < length octets
  next-shorter bounds place [] x t e =
      let same : ◌≡◌ {A = Option A} None (Some x) = ap (λ (p : Option A × Source). p.0) (ok_is (None, at place []) (Some x, t) e) in
      absurd cc
  next-shorter bounds place (octet ∷ octets) x t e =
      let s = at place (octet ∷ octets) in
      let a = and_then-ok (item_at bounds s) (λ p. Ok (Some p.0, p.1)) (Some x, t) e in
      subst (λ (u : Source). length u.octets < length s.octets) (ap (λ (p : Option A × Source). p.1) (ok_is (Some a.0.0, a.0.1) (Some x, t) a.2)) (shortens.shorter bounds s a.0.0 a.0.1 a.1)

all_items-err : {A : Type 0} (found : CacheItems A) (f : Fault) → all_items found ≡ Err f → found.end ≡ Err f
all_items-err {A} found f e =
    elim (and_then-err found.end (λ k. done found.items) f e) [
      | inl a ↦ a
      | inr a ↦ absurd (no a.2)
    ]
  where
    no : done found.items ≡ failed (List A) f → ⊥
    no e = cc

-- ---- a whole file
module _ {A : Type 0} (kept : Credential → ℕ → A) (version : ℕ) where
  abbrev pair : Start → List A → Start × List A
  pair start credentials = (start, credentials)

  abbrev credentials_of : Result (Start × Source) Fault → Result (Start × List A) Fault
  credentials_of start = and_then start (λ found. and_then (credentials_after kept version found.1) (λ credentials. Ok (pair found.0 credentials)))

  pub whole-is : (file : List ℕ) (start : Start) (s : Source) (credentials : List A) → started version file ≡ Ok (start, s) → credentials_after kept version s ≡ Ok credentials → read_in kept version file ≡ Ok (start, credentials)
  whole-is file start s credentials begins then =
      ap credentials_of begins ∙ ap (λ (r : Result (List A) Fault). and_then r (λ found. Ok (pair start found))) then

  pub whole-fails : (e : FileFault) (file : List ℕ) (start : Start) (s : Source) → started version file ≡ Ok (start, s) → Fails e (credentials_after kept version s) → Fails e (read_in kept version file)
  whole-fails faults.Memory file start s begins fails = tt
  whole-fails faults.Read file start s begins fails = absurd fails
  whole-fails (faults.Refused fault) file start s begins fails =
      ap credentials_of begins ∙ ap (λ (r : Result (List A) Fault). and_then r (λ found. Ok (pair start found))) fails

  -- ---- its faults
  credentials-fault : (s : Source) (f : Fault) → credentials_after kept version s ≡ Err f → IsFault (limited None) s f
  credentials-fault s f e = items_after-fault (credential_at kept version) (Steps-credential kept version) None s f (all_items-err (items_after (credential_at kept version) None s) f e)

  pub file-fault : (file : List ℕ) (f : Fault) → read_in kept version file ≡ Err f → (f.place ≤ length file) × ((size : ℕ) → f.why ≡ why.TooLong size → ⊥)
  file-fault file f e =
      elim (and_then-err (started version file) (λ start. and_then (credentials_after kept version start.1) (λ credentials. done (pair start.0 credentials))) f e) [
        | inl a ↦ is_fault ((Steps-start (version ∷ [])).faults (limited None) (source_of file) f a)
        | inr a ↦
            is_fault (IsFault-then (limited None) (source_of file) a.0.1 f ((Steps-start (version ∷ [])).moves (limited None) (source_of file) a.0.0 a.0.1 a.1)
            (credentials-fault a.0.1 f (only a.0 a.2)))
      ]
    where
      is_fault : IsFault (limited None) (source_of file) f → (f.place ≤ length file) × ((size : ℕ) → f.why ≡ why.TooLong size → ⊥)
      is_fault p = (omega (arith, p.upto), p.limited refl)

      only : (start : Start × Source) → and_then (credentials_after kept version start.1) (λ credentials. done (pair start.0 credentials)) ≡ failed (Start × List A) f → credentials_after kept version start.1 ≡ Err f
      only start e =
          elim (and_then-err (credentials_after kept version start.1) (λ credentials. done (pair start.0 credentials)) f e) [
            | inl a ↦ a
            | inr a ↦ absurd (no (pair start.0 a.0) a.2)
          ]
        where
          no : (v : Start × List A) → done v ≡ failed (Start × List A) f → ⊥
          no v e = cc

-- a cache made of the contents of a file has a fault if the file has one
pub made-fault : {A B : Type 0} (read : Result A Fault) (make : A → B) (f : Fault) → and_then read (λ x. Ok (make x)) ≡ Err f → read ≡ Err f
made-fault {A} {B} read make f e =
    elim (and_then-err read (λ x. done (make x)) f e) [
      | inl a ↦ a
      | inr a ↦ absurd (no (make a.0) a.2)
    ]
  where
    no : (v : B) → done v ≡ failed B f → ⊥
    no v e = cc
