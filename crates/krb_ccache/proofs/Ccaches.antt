-- Whole caches: what is read is spelled by its octets, what is spelled is read, and so octets spell at most one cache.
use Rattle.std.proofs.Common.{◌≡◌, ℕ, ◌+◌, ◌<◌, None, Result, Ok, List, [], ◌∷◌, ◌++◌, length, length-append, refl, sym, ◌∙◌, ap, subst, arith, append_assoc}
use Rattle.std.specs.List.{flat_map, AllByRecursion}
use Rattle.std.specs.Int.{w8, to_be_bytes}
use Rattle.krb_der.specs.Octets.{AreOctets}
use Rattle.krb_file.specs.Fields.{Source, source_of, Fault, limited, and_then, version_at}
use Rattle.krb_file.specs.declared.field_name.FilePart.TheVariants as parts
use Rattle.krb_file.proofs.Fields.{at, done, ok_is, and_then-ok, Took, Took-then, Reads, version-one, version-again}
use Rattle.krb_ccache.specs.declared.value.Cache3.{Cache3}
use Rattle.krb_ccache.specs.declared.value.Ccache.{Ccache}
use Rattle.krb_ccache.specs.declared.value.Credential.{Credential}
use Rattle.krb_ccache.specs.declared.value.Credential3.{Credential3}
use Rattle.krb_ccache.specs.declared.value.FilePrincipal.{FilePrincipal}
use Rattle.krb_ccache.specs.declared.value.Header.{Header}
use Rattle.krb_ccache.specs.declared.reading.Start.{Start}
use Rattle.krb_ccache.specs.Spelling.{header, HeaderFits, principal, PrincipalFits, credential, CredentialFits, ccache, CcacheFits, CcacheSpells, credential3, Credential3Fits, cache3, Cache3Fits, Spells3, no_header}
use Rattle.krb_ccache.specs.Reading.{principal_in, credential_at, one_enctype, both_enctypes, header_at, header_in, started, credentials_after, read_in, read, read3}
use Rattle.krb_ccache.proofs.Parts.{Reads-principal_in, Reads-credential, Reads-credential3}
use Rattle.krb_ccache.proofs.Headers.{inside_file, header-sound, header-again}
use Rattle.krb_ccache.proofs.Items.{all-sound, all-again}

-- ---- what is before the credentials
abbrev pub start_of : ℕ → Header → FilePrincipal → Start
start_of version h p = record { version = version; header = h; principal = p }

abbrev after_version : ℕ → Source → Result (Start × Source) Fault
after_version version s = and_then (header_in version (limited None) s) (λ p. and_then (principal_in parts.Principal (limited None) p.1) (λ q. done (start_of version p.0 q.0, q.1)))

pub record VersionRead (version : ℕ) (file : List ℕ) (st : Start) (t : Source) : Type 0 where
  pub after : Source
  pub took : Took (limited None) (5 ∷ to_be_bytes w8 version) (source_of file) after
  pub goes_on : after_version version after ≡ Ok (st, t)

version-read : (version : ℕ) (file : List ℕ) (st : Start) (t : Source) → AreOctets file → started version file ≡ Ok (st, t) → VersionRead version file st t
version-read version file st t fits e =
    let s = source_of file in
    let a = and_then-ok (version_at (version ∷ []) (limited None) s) (λ p. after_version p.0 p.1) (st, t) e in
    let v = version-one version (limited None) s a.0.1 a.0.0 fits (inside_file None 0) a.1 in
    record { after = a.0.1; took = v.0; goes_on = subst (λ (n : ℕ). after_version n a.0.1 ≡ Ok (st, t)) v.1 a.2 }

-- of version 4
abbrev prefix4 : Start → List ℕ
prefix4 st = 5 ∷ 4 ∷ header st.header ++ principal st.principal

abbrev Fits4 : Start → Type 0
Fits4 st = HeaderFits st.header × PrincipalFits st.principal × (st.version ≡ 4)

start-sound : (file : List ℕ) (st : Start) (t : Source) → AreOctets file → started 4 file ≡ Ok (st, t) → Took (limited None) (prefix4 st) (source_of file) t × Fits4 st
start-sound file st t fits e =
    let s = source_of file in
    let v = version-read 4 file st t fits e in
    let b = and_then-ok (header_at (limited None) v.after) (λ p. and_then (principal_in parts.Principal (limited None) p.1) (λ q. done (start_of 4 p.0 q.0, q.1))) (st, t) v.goes_on in
    let h = header-sound None v.after b.0.1 b.0.0 v.took.fits b.1 in
    let c = and_then-ok (principal_in parts.Principal (limited None) b.0.1) (λ q. done (start_of 4 b.0.0 q.0, q.1)) (st, t) b.2 in
    let p = (Reads-principal_in parts.Principal).sound (limited None) b.0.1 c.0.1 c.0.0 h.0.fits (inside_file None b.0.1.place) c.1 in
    let two = Took-then (limited None) (5 ∷ 4 ∷ []) (header b.0.0) s v.after b.0.1 v.took h.0 in
    let three = Took-then (limited None) (5 ∷ 4 ∷ header b.0.0) (principal c.0.0) s b.0.1 c.0.1 two p.0 in
    subst (λ (x : Start × Source). Took (limited None) (prefix4 x.0) s x.1 × Fits4 x.0) (ok_is (start_of 4 b.0.0 c.0.0, c.0.1) (st, t) c.2) (three, (h.1, p.1, refl))

start-again : (st : Start) (rest : List ℕ) → Fits4 st → started 4 (prefix4 st ++ rest) ≡ Ok (st, at (length (prefix4 st)) rest)
start-again st rest fits =
    let h = header st.header in
    let p = principal st.principal in
    ap (λ (x : List ℕ). started 4 (5 ∷ 4 ∷ x)) (append_assoc h p rest)
    ∙ ap (λ (r : Result (ℕ × Source) Fault). and_then r (λ q. after_version q.0 q.1)) (version-again (4 ∷ []) (limited None) (h ++ (p ++ rest)) 4 (omega arith) refl refl)
    ∙ ap (λ (r : Result (Header × Source) Fault). and_then r (λ x. and_then (principal_in parts.Principal (limited None) x.1) (λ q. done (start_of 4 x.0 q.0, q.1)))) (header-again st.header 2 (p ++ rest) fits.0)
    ∙ ap (λ (r : Result (FilePrincipal × Source) Fault). and_then r (λ q. done (start_of 4 st.header q.0, q.1))) ((Reads-principal_in parts.Principal).again (limited None) (2 + length h) rest st.principal fits.1 refl (inside_file None _))
    ∙ ap (λ (n : ℕ). done (start_of n st.header st.principal, at ((2 + length h) + length p) rest)) (sym fits.2)
    ∙ ap (λ (k : ℕ). done (st, at k rest)) (omega (arith, length-append h p))

-- of version 3
abbrev prefix3 : Start → List ℕ
prefix3 st = 5 ∷ 3 ∷ principal st.principal

abbrev Fits3 : Start → Type 0
Fits3 st = PrincipalFits st.principal × (start_of 3 no_header st.principal ≡ st)

start3-sound : (file : List ℕ) (st : Start) (t : Source) → AreOctets file → started 3 file ≡ Ok (st, t) → Took (limited None) (prefix3 st) (source_of file) t × Fits3 st
start3-sound file st t fits e =
    let s = source_of file in
    let v = version-read 3 file st t fits e in
    let c = and_then-ok (principal_in parts.Principal (limited None) v.after) (λ q. done (start_of 3 no_header q.0, q.1)) (st, t) v.goes_on in
    let p = (Reads-principal_in parts.Principal).sound (limited None) v.after c.0.1 c.0.0 v.took.fits (inside_file None v.after.place) c.1 in
    let two = Took-then (limited None) (5 ∷ 3 ∷ []) (principal c.0.0) s v.after c.0.1 v.took p.0 in
    subst (λ (x : Start × Source). Took (limited None) (prefix3 x.0) s x.1 × Fits3 x.0) (ok_is (start_of 3 no_header c.0.0, c.0.1) (st, t) c.2) (two, (p.1, refl))

start3-again : (st : Start) (rest : List ℕ) → Fits3 st → started 3 (prefix3 st ++ rest) ≡ Ok (st, at (length (prefix3 st)) rest)
start3-again st rest fits =
    let p = principal st.principal in
    ap (λ (r : Result (ℕ × Source) Fault). and_then r (λ q. after_version q.0 q.1)) (version-again (3 ∷ []) (limited None) (p ++ rest) 3 (omega arith) refl refl)
    ∙ ap (λ (r : Result (FilePrincipal × Source) Fault). and_then r (λ q. done (start_of 3 no_header q.0, q.1))) ((Reads-principal_in parts.Principal).again (limited None) 2 rest st.principal fits.0 refl (inside_file None _))
    ∙ ap (λ (x : Start). done (x, at (2 + length p) rest)) fits.1
    ∙ ap (λ (k : ℕ). done (st, at k rest)) (omega arith)

-- ---- files of a version, by its spelling of what is before the credentials, and of these
module _ {A : Type 0} (kept : Credential → ℕ → A) (version : ℕ) (spell : A → List ℕ) (Fits : A → Type 0) (laws : Reads (credential_at kept version) spell Fits) (some : (v : A) → 0 < length (spell v)) (prefix : Start → List ℕ) (LeadingFit : Start → Type 0)
    (sound : (file : List ℕ) (st : Start) (t : Source) → AreOctets file → started version file ≡ Ok (st, t) → Took (limited None) (prefix st) (source_of file) t × LeadingFit st)
    (again : (st : Start) (rest : List ℕ) → LeadingFit st → started version (prefix st ++ rest) ≡ Ok (st, at (length (prefix st)) rest)) where
  pub record Holds (file : List ℕ) (st : Start) (vs : List A) : Type 0 where
    pub octets : file ≡ prefix st ++ flat_map spell vs
    pub leading_fit : LeadingFit st
    pub fits : AllByRecursion Fits vs

  abbrev pair : Start → List A → Start × List A
  pair st vs = (st, vs)

  file-sound : (file : List ℕ) (found : Start × List A) → AreOctets file → read_in kept version file ≡ Ok found → Holds file found.0 found.1
  file-sound file found fits e =
      let a = and_then-ok (started version file) (λ p. and_then (credentials_after kept version p.1) (λ vs. done (pair p.0 vs))) found e in
      let s = sound file a.0.0 a.0.1 fits a.1 in
      let b = and_then-ok (credentials_after kept version a.0.1) (λ vs. done (pair a.0.0 vs)) found a.2 in
      let c = all-sound (credential_at kept version) spell Fits laws some None a.0.1 b.0 s.0.fits b.1 in
      let made : Holds file a.0.0 b.0 = record { octets = s.0.parts ∙ ap (λ (x : List ℕ). prefix a.0.0 ++ x) c.0; leading_fit = s.1; fits = c.1 } in
      subst (λ (x : Start × List A). Holds file x.0 x.1) (ok_is (pair a.0.0 b.0) found b.2) made

  file-again : (st : Start) (vs : List A) → LeadingFit st → AllByRecursion Fits vs → read_in kept version (prefix st ++ flat_map spell vs) ≡ Ok (pair st vs)
  file-again st vs leading_fit fits =
      ap (λ (r : Result (Start × Source) Fault). and_then r (λ p. and_then (credentials_after kept version p.1) (λ vs. done (pair p.0 vs)))) (again st (flat_map spell vs) leading_fit)
      ∙ ap (λ (r : Result (List A) Fault). and_then r (λ vs. done (pair st vs))) (all-again (credential_at kept version) spell Fits laws some vs (length (prefix st)) fits)

-- ---- version 4
pub credential-some : (c : Credential) → 0 < length (credential c)
credential-some c = omega arith

abbrev pub ccache_of : Start × List Credential → Ccache
ccache_of found = record { header = found.0.header; principal = found.0.principal; credentials = found.1 }

-- what is read is spelled by its octets
pub read-sound : (file : List ℕ) (v : Ccache) → AreOctets file → read file ≡ Ok v → CcacheSpells v file
read-sound file v fits e =
    let a = and_then-ok (read_in one_enctype 4 file) (λ found. done (ccache_of found)) v e in
    let h = file-sound one_enctype 4 credential CredentialFits Reads-credential credential-some prefix4 Fits4 start-sound start-again file a.0 fits a.1 in
    let made : CcacheSpells (ccache_of a.0) file = record { fits = record { header = h.leading_fit.0; principal = h.leading_fit.1; credentials = h.fits }; octets = h.octets } in
    subst (λ (x : Ccache). CcacheSpells x file) (ok_is (ccache_of a.0) v a.2) made

-- what is spelled is read
pub read-again : (v : Ccache) → CcacheFits v → read (ccache v) ≡ Ok v
read-again v fits =
    ap (λ (r : Result (Start × List Credential) Fault). and_then r (λ found. done (ccache_of found)))
    (file-again one_enctype 4 credential CredentialFits Reads-credential credential-some prefix4 Fits4 start-sound start-again (start_of 4 v.header v.principal) v.credentials (fits.header, fits.principal, refl) fits.credentials)

pub spells-read : (v : Ccache) (b : List ℕ) → CcacheSpells v b → read b ≡ Ok v
spells-read v b s = ap read s.octets ∙ read-again v s.fits

-- octets spell at most one cache
pub spells-one : (v w : Ccache) (b : List ℕ) → CcacheSpells v b → CcacheSpells w b → v ≡ w
spells-one v w b p q = ok_is v w (sym (spells-read v b p) ∙ spells-read w b q)

-- ---- version 3
pub credential3-some : (c : Credential3) → 0 < length (credential3 c)
credential3-some c = omega arith

abbrev pub cache3_of : Start × List Credential3 → Cache3
cache3_of found = record { principal = found.0.principal; credentials = found.1 }

pub read3-sound : (file : List ℕ) (v : Cache3) → AreOctets file → read3 file ≡ Ok v → Spells3 v file
read3-sound file v fits e =
    let a = and_then-ok (read_in both_enctypes 3 file) (λ found. done (cache3_of found)) v e in
    let h = file-sound both_enctypes 3 credential3 Credential3Fits Reads-credential3 credential3-some prefix3 Fits3 start3-sound start3-again file a.0 fits a.1 in
    let made : Spells3 (cache3_of a.0) file = record { fits = record { principal = h.leading_fit.0; credentials = h.fits }; octets = h.octets } in
    subst (λ (x : Cache3). Spells3 x file) (ok_is (cache3_of a.0) v a.2) made

pub read3-again : (v : Cache3) → Cache3Fits v → read3 (cache3 v) ≡ Ok v
read3-again v fits =
    ap (λ (r : Result (Start × List Credential3) Fault). and_then r (λ found. done (cache3_of found)))
    (file-again both_enctypes 3 credential3 Credential3Fits Reads-credential3 credential3-some prefix3 Fits3 start3-sound start3-again (start_of 3 no_header v.principal) v.credentials (fits.principal, refl) fits.credentials)

pub spells3-read : (v : Cache3) (b : List ℕ) → Spells3 v b → read3 b ≡ Ok v
spells3-read v b s = ap read3 s.octets ∙ read3-again v s.fits

pub spells3-one : (v w : Cache3) (b : List ℕ) → Spells3 v b → Spells3 w b → v ≡ w
spells3-one v w b p q = ok_is v w (sym (spells3-read v b p) ∙ spells3-read w b q)
