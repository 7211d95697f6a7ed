-- What is read of a cache before a fault or under a limit is spelled by the octets before it.
use Rattle.std.proofs.Common.{◌≡◌, ℕ, zero, suc, ◌+◌, ◌≤◌, ◌⊎◌, inl, inr, true, Option, Result, Ok, Err, List, [], ◌∷◌, ◌++◌, length, map, take, refl, sym, ◌∙◌, ap, subst, arith, append_assoc, length-append}
use Rattle.std.proofs.lemmas.List.{take_at}
use Rattle.std.proofs.lemmas.List.Concat.{flat_map-cons}
use Rattle.std.proofs.lemmas.Bool.Decides.{nat_tests}
use Rattle.std.specs.List.{flat_map, AllByRecursion}
use Rattle.std.specs.Int.{w8, to_be_bytes}
use Rattle.krb_der.specs.Octets.{AreOctets}
use Rattle.krb_file.specs.Fields.{Source, source_of, Fault, Bounds, limited, Reader, and_then, is_one_of, version_at}
use Rattle.krb_file.specs.declared.field_name.FilePart.TheVariants as parts
use Rattle.krb_file.proofs.Fields.{at, done, ok_is, and_then-ok, begun_at-err, Took, Took-then, Reads, version-sound}
use Rattle.krb_file.proofs.Steps.{Steps}
use Rattle.krb_ccache.specs.declared.value.Cache3.{Cache3}
use Rattle.krb_ccache.specs.declared.value.Credential.{Credential}
use Rattle.krb_ccache.specs.declared.value.Credential3.{Credential3}
use Rattle.krb_ccache.specs.declared.reading.Start.{Start}
use Rattle.krb_ccache.specs.Spelling.{header, HeaderFits, principal, PrincipalFits, credential, CredentialFits, CcacheSpells, credential3, Credential3Fits, Spells3, no_header, upgraded}
use Rattle.krb_ccache.specs.Reading.{principal_in, credential_fields_at, credential_at, one_enctype, both_enctypes, header_in, CacheItems, item_and, items_within, items_after}
use Rattle.krb_ccache.specs.Streaming.{file_start, credentials_of, credentials}
use Rattle.krb_ccache.specs.Laws.{contents, AreFirst, AreBefore}
use Rattle.krb_ccache.proofs.Parts.{Reads-principal_in, Reads-credential, Reads-credential3}
use Rattle.krb_ccache.proofs.Headers.{inside_file, header-sound}
use Rattle.krb_ccache.proofs.Faults.{Steps-credential}
use Rattle.krb_file_laws.proofs.Mapped.{credential_part, Mapped-one_enctype, items-mapped}
use Rattle.krb_ccache.proofs.Ccaches.{start_of}

-- ---- items before the end or a fault
module _ {A : Type 0} (item_at : Reader A) (spell : A → List ℕ) (Fits : A → Type 0) (laws : Reads item_at spell Fits) (steps : Steps item_at) (tells : (bounds : Bounds) (s : Source) (f : Fault) → item_at bounds s ≡ Err f → s.place ≡ f.begin) (limit : Option ℕ) where
  pub record Begins (s : Source) (found : List A) (end : Result ℕ Fault) : Type 0 where
    pub rest : List ℕ
    pub parts : s.octets ≡ flat_map spell found ++ rest
    pub fits : AllByRecursion Fits found
    pub before : AreBefore (s.place + length (flat_map spell found)) end

  none-begins : (s : Source) (end : Result ℕ Fault) → AreBefore s.place end → Begins s [] end
  none-begins s end before =
      let nothing : s.place ≡ s.place + 0 = omega arith in
      record { rest = s.octets; parts = refl; fits = tt; before = subst (λ (k : ℕ). AreBefore k end) nothing before }

  item-begins : (s t : Source) (v : A) (found : List A) (end : Result ℕ Fault) → Took (limited limit) (spell v) s t → Fits v → Begins t found end → Begins s (v ∷ found) end
  item-begins s t v found end took fits others =
      let all : flat_map spell (v ∷ found) ≡ spell v ++ flat_map spell found = flat_map-cons spell v found in
      let place : t.place + length (flat_map spell found) ≡ s.place + length (flat_map spell (v ∷ found)) = omega (arith, took.place, ap length all, length-append (spell v) (flat_map spell found)) in
      record {
        rest = others.rest;
        parts = took.parts ∙ ap (λ (o : List ℕ). spell v ++ o) others.parts ∙ sym (append_assoc (spell v) (flat_map spell found) others.rest) ∙ ap (λ (o : List ℕ). o ++ others.rest) (sym all);
        fits = (fits, others.fits);
        before = subst (λ (k : ℕ). AreBefore k end) place others.before;
      }

  step-begins : (others : Source → CacheItems A) (s : Source) → ((t : Source) → AreOctets t.octets → Begins t (others t).items (others t).end)
      → (r : Result (A × Source) Fault) → ((v : A) (t : Source) → r ≡ Ok (v, t) → Took (limited limit) (spell v) s t × Fits v) → ((f : Fault) → r ≡ Err f → (s.place ≡ f.begin) × (s.place ≤ f.place)) → Begins s (item_and r others).items (item_and r others).end
  step-begins others s rest (Err f) sound faults = none-begins s (Err f) (faults f refl)
  step-begins others s rest (Ok (v, t)) sound faults =
      let first = sound v t refl in
      item-begins s t v (others t).items (others t).end first.0 first.1 (rest t first.0.fits)

  within-begins : (bound place : ℕ) (octets : List ℕ) → AreOctets octets → Begins (at place octets) (items_within bound item_at limit (at place octets)).items (items_within bound item_at limit (at place octets)).end
  within-begins zero place octets fits = none-begins (at place octets) (Ok place) (omega arith)
  within-begins (suc bound) place [] fits = none-begins (at place []) (Ok place) (omega arith)
  within-begins (suc bound) place (octet ∷ octets) fits =
      let s = at place (octet ∷ octets) in
      step-begins (items_within bound item_at limit) s (λ t are. within-begins bound t.place t.octets are) (item_at (limited limit) s)
      (λ v t e. laws.sound (limited limit) s t v fits (inside_file limit place) e) (λ f e. (tells (limited limit) s f e, (steps.faults (limited limit) s f e).from))

  pub items-begin : (s : Source) → AreOctets s.octets → Begins s (items_after item_at limit s).items (items_after item_at limit s).end
  items-begin s fits = within-begins (length s.octets) s.place s.octets fits

-- a fault tells where the credential begins that it is in
credential-begin : {A : Type 0} (kept : Credential → ℕ → A) (version : ℕ) (bounds : Bounds) (s : Source) (f : Fault) → credential_at kept version bounds s ≡ Err f → s.place ≡ f.begin
credential-begin kept version bounds s f e = let a = begun_at-err s.place (credential_fields_at kept version bounds s) f e in ap (λ (x : Fault). x.begin) a.2

-- ---- what is before the credentials
-- of version 4
record Begins4 (limit : Option ℕ) (file : List ℕ) (st : Start) (t : Source) : Type 0 where
  version : st.version ≡ 4
  took : Took (limited limit) (5 ∷ 4 ∷ header st.header ++ principal st.principal) (source_of file) t
  header : HeaderFits st.header
  principal : PrincipalFits st.principal

-- of version 3
record Begins3 (limit : Option ℕ) (file : List ℕ) (st : Start) (t : Source) : Type 0 where
  is : start_of 3 no_header st.principal ≡ st
  took : Took (limited limit) (5 ∷ 3 ∷ principal st.principal) (source_of file) t
  principal : PrincipalFits st.principal

module _ (limit : Option ℕ) (file : List ℕ) where
  abbrev after_version : ℕ → Source → Result (Start × Source) Fault
  after_version version s = and_then (header_in version (limited limit) s) (λ p. and_then (principal_in parts.Principal (limited limit) p.1) (λ q. done (start_of version p.0 q.0, q.1)))

  start4 : (u t : Source) (st : Start) → Took (limited limit) (5 ∷ to_be_bytes w8 4) (source_of file) u → after_version 4 u ≡ Ok (st, t) → Begins4 limit file st t
  start4 u t st took e =
      let s = source_of file in
      let b = and_then-ok (header_in 4 (limited limit) u) (λ p. and_then (principal_in parts.Principal (limited limit) p.1) (λ q. done (start_of 4 p.0 q.0, q.1))) (st, t) e in
      let h = header-sound limit u b.0.1 b.0.0 took.fits b.1 in
      let c = and_then-ok (principal_in parts.Principal (limited limit) b.0.1) (λ q. done (start_of 4 b.0.0 q.0, q.1)) (st, t) b.2 in
      let p = (Reads-principal_in parts.Principal).sound (limited limit) b.0.1 c.0.1 c.0.0 h.0.fits (inside_file limit b.0.1.place) c.1 in
      let two = Took-then (limited limit) (5 ∷ 4 ∷ []) (header b.0.0) s u b.0.1 took h.0 in
      let three = Took-then (limited limit) (5 ∷ 4 ∷ header b.0.0) (principal c.0.0) s b.0.1 c.0.1 two p.0 in
      subst (λ (x : Start × Source). Begins4 limit file x.0 x.1) (ok_is (start_of 4 b.0.0 c.0.0, c.0.1) (st, t) c.2) (record { version = refl; took = three; header = h.1; principal = p.1 })

  start3 : (u t : Source) (st : Start) → Took (limited limit) (5 ∷ to_be_bytes w8 3) (source_of file) u → after_version 3 u ≡ Ok (st, t) → Begins3 limit file st t
  start3 u t st took e =
      let s = source_of file in
      let c = and_then-ok (principal_in parts.Principal (limited limit) u) (λ q. done (start_of 3 no_header q.0, q.1)) (st, t) e in
      let p = (Reads-principal_in parts.Principal).sound (limited limit) u c.0.1 c.0.0 took.fits (inside_file limit u.place) c.1 in
      let two = Took-then (limited limit) (5 ∷ 3 ∷ []) (principal c.0.0) s u c.0.1 took p.0 in
      subst (λ (x : Start × Source). Begins3 limit file x.0 x.1) (ok_is (start_of 3 no_header c.0.0, c.0.1) (st, t) c.2) (record { is = refl; took = two; principal = p.1 })

  one-of : (v : ℕ) → is_one_of v (3 ∷ 4 ∷ []) ≡ true → (v ≡ 3) ⊎ (v ≡ 4)
  one-of v e = grind (arith, nat_tests)

  start-begins : (st : Start) (t : Source) → AreOctets file → file_start limit file ≡ Ok (st, t) → Begins3 limit file st t ⊎ Begins4 limit file st t
  start-begins st t fits e = by_version (one-of a.0.0 v.1)
    where
      a : (x : ℕ × Source) × (version_at (3 ∷ 4 ∷ []) (limited limit) (source_of file) ≡ Ok x) × (after_version x.0 x.1 ≡ Ok (st, t))
      a = and_then-ok (version_at (3 ∷ 4 ∷ []) (limited limit) (source_of file)) (λ p. after_version p.0 p.1) (st, t) e

      v : Took (limited limit) (5 ∷ to_be_bytes w8 a.0.0) (source_of file) a.0.1 × (is_one_of a.0.0 (3 ∷ 4 ∷ []) ≡ true)
      v = version-sound (3 ∷ 4 ∷ []) (limited limit) (source_of file) a.0.1 a.0.0 fits (inside_file limit 0) a.1

      by_version : (a.0.0 ≡ 3) ⊎ (a.0.0 ≡ 4) → Begins3 limit file st t ⊎ Begins4 limit file st t
      by_version (inl is) = inl (start3 a.0.1 t st (subst (λ (n : ℕ). Took (limited limit) (5 ∷ to_be_bytes w8 n) (source_of file) a.0.1) is v.0) (subst (λ (n : ℕ). after_version n a.0.1 ≡ Ok (st, t)) is a.2))
      by_version (inr is) = inr (start4 a.0.1 t st (subst (λ (n : ℕ). Took (limited limit) (5 ∷ to_be_bytes w8 n) (source_of file) a.0.1) is v.0) (subst (λ (n : ℕ). after_version n a.0.1 ≡ Ok (st, t)) is a.2))

-- ---- whole files
-- octets that a file begins with, which end at a place
record Prefix (file text : List ℕ) (place : ℕ) : Type 0 where
  taken : take (length text) file ≡ text
  ends : place ≡ length text

prefix-is : (file before after rest : List ℕ) (t : Source) (limit : Option ℕ) → Took (limited limit) before (source_of file) t → t.octets ≡ after ++ rest → Prefix file (before ++ after) (t.place + length after)
prefix-is file before after rest t limit took parts =
    let file_is : file ≡ (before ++ after) ++ rest = took.parts ∙ ap (λ (x : List ℕ). before ++ x) parts ∙ sym (append_assoc before after rest) in
    record {
      taken = ap (take (length (before ++ after))) file_is ∙ take_at (before ++ after) rest (length (before ++ after)) refl;
      ends = omega (arith, took.place, length-append before after);
    }

spelled4 : (limit : Option ℕ) (file : List ℕ) (st : Start) (t : Source) (found : CacheItems Credential) → Begins4 limit file st t → Begins (credential_at one_enctype 4) credential CredentialFits Reads-credential (Steps-credential one_enctype 4) (credential-begin one_enctype 4) limit t found.items found.end
    → (size : ℕ) × AreFirst file st found.items size × AreBefore size found.end
spelled4 limit file st t found start b =
    let text : List ℕ = (5 ∷ 4 ∷ header st.header ++ principal st.principal) ++ flat_map credential found.items in
    let p = prefix-is file (5 ∷ 4 ∷ header st.header ++ principal st.principal) (flat_map credential found.items) b.rest t limit start.took b.parts in
    let spelled : CcacheSpells (contents st found.items) (take (length text) file) = record { fits = record { header = start.header; principal = start.principal; credentials = b.fits }; octets = p.taken } in
    (length text, record { there = ap length p.taken; spelled = inl (start.version, spelled) }, subst (λ (k : ℕ). AreBefore k found.end) p.ends b.before)

spelled3 : (limit : Option ℕ) (file : List ℕ) (st : Start) (t : Source) (found : CacheItems Credential3) → Begins3 limit file st t → Begins (credential_at both_enctypes 3) credential3 Credential3Fits Reads-credential3 (Steps-credential both_enctypes 3) (credential-begin both_enctypes 3) limit t found.items found.end
    → (size : ℕ) × AreFirst file st (map credential_part found.items) size × AreBefore size found.end
spelled3 limit file st t found start b =
    let v : Cache3 = record { principal = st.principal; credentials = found.items } in
    let text : List ℕ = (5 ∷ 3 ∷ principal st.principal) ++ flat_map credential3 found.items in
    let p = prefix-is file (5 ∷ 3 ∷ principal st.principal) (flat_map credential3 found.items) b.rest t limit start.took b.parts in
    let spelled : Spells3 v (take (length text) file) = record { fits = record { principal = start.principal; credentials = b.fits }; octets = p.taken } in
    let same : upgraded v ≡ contents st (map credential_part found.items) = ap (λ (x : Start). contents x (map credential_part found.items)) start.is in
    (length text, record { there = ap length p.taken; spelled = inr (ap (λ (x : Start). x.version) (sym start.is), v, spelled, same) }, subst (λ (k : ℕ). AreBefore k found.end) p.ends b.before)

pub credentials-spelled : (limit : Option ℕ) (file : List ℕ) (start : Start) (after : Source) → AreOctets file → file_start limit file ≡ Ok (start, after) → (size : ℕ) × AreFirst file start (credentials limit file).items size × AreBefore size (credentials limit file).end
credentials-spelled limit file st t fits e =
    subst (λ (r : Result (Start × Source) Fault). (size : ℕ) × AreFirst file st (credentials_of limit r).items size × AreBefore size (credentials_of limit r).end) (sym e) (by_version (start-begins limit file st t fits e))
  where
    Spelled : CacheItems Credential → Type 0
    Spelled found = (size : ℕ) × AreFirst file st found.items size × AreBefore size found.end

    by_version : Begins3 limit file st t ⊎ Begins4 limit file st t → Spelled (items_after (credential_at one_enctype st.version) limit t)
    by_version (inl begins) =
        let version : 3 ≡ st.version = ap (λ (x : Start). x.version) begins.is in
        let all = items_after (credential_at both_enctypes 3) limit t in
        let b = items-begin (credential_at both_enctypes 3) credential3 Credential3Fits Reads-credential3 (Steps-credential both_enctypes 3) (credential-begin both_enctypes 3) limit t begins.took.fits in
        subst (λ (n : ℕ). Spelled (items_after (credential_at one_enctype n) limit t)) version
        (subst Spelled (items-mapped credential_part (credential_at both_enctypes 3) (credential_at one_enctype 3) (Mapped-one_enctype 3) limit t) (spelled3 limit file st t all begins b))
    by_version (inr begins) =
        let b = items-begin (credential_at one_enctype 4) credential CredentialFits Reads-credential (Steps-credential one_enctype 4) (credential-begin one_enctype 4) limit t begins.took.fits in
        subst (λ (n : ℕ). Spelled (items_after (credential_at one_enctype n) limit t)) (sym begins.version) (spelled4 limit file st t (items_after (credential_at one_enctype 4) limit t) begins b)
