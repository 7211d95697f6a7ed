-- Values that differ in as many octets alone: their DER has as many octets, and one fits as the other does.
use Rattle.std.proofs.Common.{◌≡◌, ℕ, suc, ◌+◌, ◌||◌, nat_lt, Option, Some, None, List, [], ◌∷◌, length, map, refl, sym, ◌∙◌, ap, ap₂, subst, ◌++◌, length-append}
use Rattle.std.specs.List.{flat_map, AllByRecursion}
use Rattle.krb_der.specs.Octets.{AreOctets, item, octets_of_option}
use Rattle.krb_der.specs.Sizes.{item_length}
use Rattle.krb_der.proofs.Sizes.{length-item}
use Rattle.krb_file.specs.Fields.{zeros}
use Rattle.krb_file.proofs.Zeros.{AreOctets-zeros, length-zeros}
use Rattle.krb_msg.specs.Term.{Term, Fields, Integer, Text, Octets, Time, Bits, Sequence, SequenceOf, Tagged, Application, End, Required, Optional, Value, Values, Fits, AllFit, IfPresent, der, der_of_fields}

-- octets in place of others
pub record Replace (new old : List ℕ) : Type 0 where
  pub many : length new ≡ length old
  pub octets : AreOctets old → AreOctets new

abbrev pub SomeAlike : {A : Type 0} → (A → A → Type 0) → Option A → Option A → Type 0
SomeAlike P None None = Unit {0}
SomeAlike P (Some a) (Some b) = P a b
SomeAlike P None (Some b) = ⊥
SomeAlike P (Some a) None = ⊥

abbrev pub EachAlike : {A : Type 0} → (A → A → Type 0) → List A → List A → Type 0
EachAlike P [] [] = Unit {0}
EachAlike P (x ∷ xs) (y ∷ ys) = P x y × EachAlike P xs ys
EachAlike P [] (y ∷ ys) = ⊥
EachAlike P (x ∷ xs) [] = ⊥

abbrev mutual
  pub Alike : (term : Term) → Value term → Value term → Type 0
  Alike (Integer low high) v w = v ≡ w
  Alike (Text greatest) v w = v ≡ w
  Alike Octets v w = Replace v w
  Alike Time v w = v ≡ w
  Alike (Bits least) v w = v ≡ w
  Alike (Sequence fields) v w = AllAlike fields v w
  Alike (SequenceOf empty term) v w = EachAlike (Alike term) v w
  Alike (Tagged index term) v w = Alike term v w
  Alike (Application number term) v w = Alike term v w

  pub AllAlike : (fields : Fields) → Values fields → Values fields → Type 0
  AllAlike End v w = Unit {0}
  AllAlike (Required term fields) v w = Alike term v.0 w.0 × AllAlike fields v.1 w.1
  AllAlike (Optional term fields) v w = SomeAlike (Alike term) v.0 w.0 × AllAlike fields v.1 w.1

pub replace_zeros : (old : List ℕ) → Replace (zeros (length old)) old
replace_zeros old = record { many = length-zeros (length old); octets = λ a. AreOctets-zeros (length old) }

pub replace_same : (old : List ℕ) → Replace old old
replace_same old = record { many = refl; octets = λ a. a }

pub some_same : {A : Type 0} (P : A → A → Type 0) → ((a : A) → P a a) → (v : Option A) → SomeAlike P v v
some_same P each None = tt
some_same P each (Some a) = each a

pub each_same : {A : Type 0} (P : A → A → Type 0) → ((a : A) → P a a) → (v : List A) → EachAlike P v v
each_same P each [] = tt
each_same P each (x ∷ xs) = (each x, each_same P each xs)

pub each_alike : {A : Type 0} (P : A → A → Type 0) (mask : A → A) → ((a : A) → P (mask a) a) → (v : List A) → EachAlike P (map mask v) v
each_alike P mask each [] = tt
each_alike P mask each (x ∷ xs) = (each x, each_alike P mask each xs)

mutual
  pub same : (term : Term) (v : Value term) → Alike term v v
  same Octets v = replace_same v
  same (Sequence fields) v = all_same fields v
  same (SequenceOf empty term) v = each_same (Alike term) (same term) v
  same (Tagged index term) v = same term v
  same (Application number term) v = same term v
  same other v = refl

  all_same : (fields : Fields) (v : Values fields) → AllAlike fields v v
  all_same End v = tt
  all_same (Required term fields) v = (same term v.0, all_same fields v.1)
  all_same (Optional term fields) v = (some_same (Alike term) (same term) v.0, all_same fields v.1)

-- ---- they have as many octets
pub same_item : (tag : ℕ) (one other : List ℕ) → length one ≡ length other → length (item tag one) ≡ length (item tag other)
same_item tag one other e = length-item tag one ∙ ap item_length e ∙ sym (length-item tag other)

same_both : (a b c d : List ℕ) → length a ≡ length c → length b ≡ length d → length (a ++ b) ≡ length (c ++ d)
same_both a b c d e f = length-append a b ∙ ap₂ (λ (m n : ℕ). m + n) e f ∙ sym (length-append c d)

some_as_many : {A : Type 0} (P : A → A → Type 0) (octets : A → List ℕ) → ((a b : A) → P a b → length (octets a) ≡ length (octets b)) → (v w : Option A) → SomeAlike P v w → length (octets_of_option octets v) ≡ length (octets_of_option octets w)
some_as_many P octets each None None a = refl
some_as_many P octets each (Some v) (Some w) a = each v w a
some_as_many P octets each other another a = absurd a

each_as_many : {A : Type 0} (P : A → A → Type 0) (octets : A → List ℕ) → ((a b : A) → P a b → length (octets a) ≡ length (octets b)) → (v w : List A) → EachAlike P v w → length (flat_map octets v) ≡ length (flat_map octets w)
each_as_many P octets each [] [] a = refl
each_as_many P octets each (v ∷ vs) (w ∷ ws) a = same_both (octets v) (flat_map octets vs) (octets w) (flat_map octets ws) (each v w a.0) (each_as_many P octets each vs ws a.1)
each_as_many P octets each [] (w ∷ ws) a = absurd a
each_as_many P octets each (v ∷ vs) [] a = absurd a

mutual
  pub as_many : (term : Term) (v w : Value term) → Alike term v w → length (der term v) ≡ length (der term w)
  as_many Octets v w a = same_item 0x04 v w a.many
  as_many (Sequence fields) v w a = same_item 0x30 (der_of_fields fields v) (der_of_fields fields w) (all_as_many fields v w a)
  as_many (SequenceOf empty term) v w a = same_item 0x30 (flat_map (der term) v) (flat_map (der term) w) (each_as_many (Alike term) (der term) (as_many term) v w a)
  as_many (Tagged index term) v w a = same_item (0xA0 + index) (der term v) (der term w) (as_many term v w a)
  as_many (Application number term) v w a = same_item (0x60 + number) (der term v) (der term w) (as_many term v w a)
  as_many other v w a = ap (λ x. length (der other x)) a

  all_as_many : (fields : Fields) (v w : Values fields) → AllAlike fields v w → length (der_of_fields fields v) ≡ length (der_of_fields fields w)
  all_as_many End v w a = refl
  all_as_many (Required term fields) v w a =
      same_both (der term v.0) (der_of_fields fields v.1) (der term w.0) (der_of_fields fields w.1) (as_many term v.0 w.0 a.0) (all_as_many fields v.1 w.1 a.1)
  all_as_many (Optional term fields) v w a =
      same_both (octets_of_option (der term) v.0) (der_of_fields fields v.1) (octets_of_option (der term) w.0) (der_of_fields fields w.1) (some_as_many (Alike term) (der term) (as_many term) v.0 w.0 a.0) (all_as_many fields v.1 w.1 a.1)

-- ---- one fits as the other does
some_fit_as : {A : Type 0} (P : A → A → Type 0) (F : A → Type 0) → ((a b : A) → P a b → F b → F a) → (v w : Option A) → SomeAlike P v w → IfPresent F w → IfPresent F v
some_fit_as P F each None w a fit = tt
some_fit_as P F each (Some v) (Some w) a fit = each v w a fit
some_fit_as P F each (Some v) None a fit = absurd a

each_many : {A : Type 0} (P : A → A → Type 0) (v w : List A) → EachAlike P v w → length v ≡ length w
each_many P [] [] a = refl
each_many P (v ∷ vs) (w ∷ ws) a = ap (λ (n : ℕ). suc n) (each_many P vs ws a.1)
each_many P [] (w ∷ ws) a = absurd a
each_many P (v ∷ vs) [] a = absurd a

each_fits_as : {A : Type 0} (P : A → A → Type 0) (F : A → Type 0) → ((a b : A) → P a b → F b → F a) → (v w : List A) → EachAlike P v w → AllByRecursion F w → AllByRecursion F v
each_fits_as P F each [] w a fit = tt
each_fits_as P F each (v ∷ vs) (w ∷ ws) a fit = (each v w a.0 fit.0, each_fits_as P F each vs ws a.1 fit.1)
each_fits_as P F each (v ∷ vs) [] a fit = absurd a

mutual
  pub fits_as : (term : Term) (v w : Value term) → Alike term v w → Fits term w → Fits term v
  fits_as Octets v w a fits = a.octets fits
  fits_as (Sequence fields) v w a fits = all_fit_as fields v w a fits
  fits_as (SequenceOf empty term) v w a fits =
      (ap (λ (n : ℕ). empty || nat_lt 0 n) (each_many (Alike term) v w a) ∙ fits.0, each_fits_as (Alike term) (Fits term) (fits_as term) v w a fits.1)
  fits_as (Tagged index term) v w a fits = fits_as term v w a fits
  fits_as (Application number term) v w a fits = fits_as term v w a fits
  fits_as other v w a fits = subst (Fits other) (sym a) fits

  all_fit_as : (fields : Fields) (v w : Values fields) → AllAlike fields v w → AllFit fields w → AllFit fields v
  all_fit_as End v w a fit = tt
  all_fit_as (Required term fields) v w a fit = (fits_as term v.0 w.0 a.0 fit.0, all_fit_as fields v.1 w.1 a.1 fit.1)
  all_fit_as (Optional term fields) v w a fit = (some_fit_as (Alike term) (Fits term) (fits_as term) v.0 w.0 a.0 fit.0, all_fit_as fields v.1 w.1 a.1 fit.1)
