-- A cache of version 3 and its upgrade are read alike, under any limit.
use Rattle.std.proofs.Common.{◌≡◌, ℕ, suc, ◌+◌, ◌<◌, false, ltb, le-ltb, Option, Result, Ok, Err, List, [], ◌∷◌, ◌++◌, length, map, refl, sym, ◌∙◌, ap, subst, arith, append_assoc, length-append}
use Rattle.std.specs.List.{flat_map, AllByRecursion}
use Rattle.std.specs.Int.{w16, to_be_bytes}
use Rattle.krb_der.specs.Octets.{AreOctets}
use Rattle.krb_file.specs.Fields.{Source, Fault, Bounds, limited, Reader, and_then, ◌>>=◌, succeed, begun_at, called, number_at, bound_of}
use Rattle.krb_file.specs.declared.field_name.FieldName.TheVariants as field
use Rattle.krb_file.specs.declared.field_name.FilePart.TheVariants as whose
use Rattle.krb_file.proofs.Fields.{at, done, ok_is, and_then-ok, begun_at-ok, wide16, Reads, Reads-called, Reads-number, Values, version-again}
use Rattle.krb_ccache.specs.declared.value.Cache3.{Cache3}
use Rattle.krb_ccache.specs.declared.value.Credential.{Credential}
use Rattle.krb_ccache.specs.declared.value.Credential3.{Credential3}
use Rattle.krb_ccache.specs.declared.value.FilePrincipal.{FilePrincipal}
use Rattle.krb_ccache.specs.declared.value.Header.{Header}
use Rattle.krb_ccache.specs.declared.reading.Start.{Start}
use Rattle.krb_ccache.specs.Spelling.{principal, PrincipalFits, credential_from_key, credential, ccache, credential3, Credential3Fits, Spells3, no_header, upgraded}
use Rattle.krb_ccache.specs.Reading.{principal_in, again_at, credential_from, credential_fields_at, credential_at, one_enctype, both_enctypes, header_at, header_in, CacheItems, item_and, items_within, items_after}
use Rattle.krb_ccache.specs.Streaming.{file_start, credentials_of, credentials, Holds}
use Rattle.krb_ccache.proofs.Parts.{Reads-principal_in, Reads-credential3, Reads-from_key, from_key, leading_fields, leading_parts, BackFits}
use Rattle.krb_ccache.proofs.Headers.{inside_file}
use Rattle.krb_ccache.proofs.Local.{Local-principal_in, Local-enctype, Local-from_key, IsReadAgain, read-again}
use Rattle.krb_ccache.proofs.Items.{items_after-again, all-sound}
use Rattle.krb_file_laws.proofs.Mapped.{credential_part, Mapped-one_enctype, items-mapped}
use Rattle.krb_ccache.proofs.Ccaches.{start_of, credential-some, credential3-some, spells3-one}

-- ---- a credential from its server on, and from its encryption type on
abbrev from_enctype : ℕ → FilePrincipal → FilePrincipal → ℕ → Reader Credential
from_enctype version client server enctype = do
  again ← again_at version enctype
  credential ← credential_from client server enctype
  succeed (one_enctype credential again)

abbrev from_server : ℕ → FilePrincipal → FilePrincipal → Reader Credential
from_server version client server = do
  enctype ← called field.Enctype (number_at w16)
  from_enctype version client server enctype

abbrev from_client : ℕ → FilePrincipal → Reader Credential
from_client version client = do
  server ← principal_in whose.Server
  from_server version client server

Reads-enctype : Reads (called field.Enctype (number_at w16)) (to_be_bytes w16) (λ n. n < bound_of w16)
Reads-enctype = Reads-called field.Enctype (number_at w16) _ _ (Reads-number w16 wide16)

pub record Then {A B : Type 0} (reader : Reader A) (next : A → Reader B) (bounds : Bounds) (s t : Source) (v : B) : Type 0 where
  pub value : A
  pub after : Source
  pub read : reader bounds s ≡ Ok (value, after)
  pub goes_on : next value bounds after ≡ Ok (v, t)

then-ok : {A B : Type 0} (reader : Reader A) (next : A → Reader B) (bounds : Bounds) (s t : Source) (v : B) → (reader >>= next) bounds s ≡ Ok (v, t) → Then reader next bounds s t v
then-ok reader next bounds s t v e =
    let a = and_then-ok (reader bounds s) (λ p. next p.0 bounds p.1) (v, t) e in
    record { value = a.0.0; after = a.0.1; read = a.1; goes_on = a.2 }

module _ (limit : Option ℕ) where
  -- the parts of a credential are read again
  pub record AllAgain (f : Values leading_fields) (c : Credential) : Type 0 where
    pub client : IsReadAgain (principal_in whose.Client) principal limit f.0
    pub server : IsReadAgain (principal_in whose.Server) principal limit f.1.0
    pub enctype : IsReadAgain (called field.Enctype (number_at w16)) (to_be_bytes w16) limit f.1.1.0
    pub suffix : IsReadAgain (from_key f) credential_from_key limit c

  parts-again : (s t : Source) (c : Credential) → AreOctets s.octets → credential_at one_enctype 3 (limited limit) s ≡ Ok (c, t) → AllAgain (leading_parts c) c × AreOctets t.octets
  parts-again s t c fits e =
      let p = then-ok (principal_in whose.Client) (from_client 3) (limited limit) s t c (begun_at-ok s.place (credential_fields_at one_enctype 3 (limited limit) s) (c, t) e) in
      let p-took = ((Reads-principal_in whose.Client).sound (limited limit) s p.after p.value fits (inside_file limit s.place) p.read).0 in
      let q = then-ok (principal_in whose.Server) (from_server 3 p.value) (limited limit) p.after t c p.goes_on in
      let q-took = ((Reads-principal_in whose.Server).sound (limited limit) p.after q.after q.value p-took.fits (inside_file limit p.after.place) q.read).0 in
      let n = then-ok (called field.Enctype (number_at w16)) (from_enctype 3 p.value q.value) (limited limit) q.after t c q.goes_on in
      let n-took = (Reads-enctype.sound (limited limit) q.after n.after n.value q-took.fits (inside_file limit q.after.place) n.read).0 in
      let m = then-ok (called field.Enctype (number_at w16)) (λ again. credential_from p.value q.value n.value >>= λ credential. succeed (one_enctype credential again)) (limited limit) n.after t c n.goes_on in
      let m-took = (Reads-enctype.sound (limited limit) n.after m.after m.value n-took.fits (inside_file limit n.after.place) m.read).0 in
      let k = then-ok (credential_from p.value q.value n.value) (λ credential. succeed (one_enctype credential m.value)) (limited limit) m.after t c m.goes_on in
      let same = ok_is (k.value, k.after) (c, t) k.goes_on in
      let read : credential_from p.value q.value n.value (limited limit) m.after ≡ Ok (c, t) = k.read ∙ ap (λ (x : Credential × Source). done x) same in
      let k-took = (Reads-from_key (p.value, (q.value, (n.value, tt)))).sound (limited limit) m.after t c m-took.fits (inside_file limit m.after.place) read in
      let all : AllAgain (p.value, (q.value, (n.value, tt))) c = record {
        client = read-again (principal_in whose.Client) principal PrincipalFits (Reads-principal_in whose.Client) (Local-principal_in whose.Client) limit s p.after p.value fits p.read;
        server = read-again (principal_in whose.Server) principal PrincipalFits (Reads-principal_in whose.Server) (Local-principal_in whose.Server) limit p.after q.after q.value p-took.fits q.read;
        enctype = read-again (called field.Enctype (number_at w16)) (to_be_bytes w16) (λ x. x < bound_of w16) Reads-enctype Local-enctype limit q.after n.after n.value q-took.fits n.read;
        suffix = read-again (credential_from p.value q.value n.value) credential_from_key (λ x. BackFits x × (leading_parts x ≡ (p.value, (q.value, (n.value, tt))))) (Reads-from_key (p.value, (q.value, (n.value, tt)))) (Local-from_key p.value q.value n.value) limit m.after t c m-took.fits read;
      } in
      (subst (λ (x : Values leading_fields). AllAgain x c) (sym k-took.1.1) all, k-took.0.fits)

  regroup : (x y z w rest : List ℕ) → ((x ++ y ++ z) ++ w) ++ rest ≡ x ++ (y ++ (z ++ (w ++ rest)))
  regroup x y z w rest = simp append_assoc

  one-again : (c : Credential) → AllAgain (leading_parts c) c → IsReadAgain (credential_at one_enctype 4) credential limit c
  one-again c a place rest =
      let x = principal c.client in
      let y = principal c.server in
      let z = to_be_bytes w16 c.enctype in
      let w = credential_from_key c in
      ap (λ (o : List ℕ). credential_at one_enctype 4 (limited limit) (at place o)) (regroup x y z w rest)
      ∙ ap (λ (r : Result (FilePrincipal × Source) Fault). begun_at place (and_then r (λ p. from_client 4 p.0 (limited limit) p.1))) (a.client place (y ++ (z ++ (w ++ rest))))
      ∙ ap (λ (r : Result (FilePrincipal × Source) Fault). begun_at place (and_then r (λ p. from_server 4 c.client p.0 (limited limit) p.1))) (a.server (place + length x) (z ++ (w ++ rest)))
      ∙ ap (λ (r : Result (ℕ × Source) Fault). begun_at place (and_then r (λ p. from_enctype 4 c.client c.server p.0 (limited limit) p.1))) (a.enctype ((place + length x) + length y) (w ++ rest))
      ∙ ap (λ (r : Result (Credential × Source) Fault). begun_at place (and_then r (λ p. done (p.0, p.1)))) (a.suffix (((place + length x) + length y) + length z) rest)
      ∙ ap (λ (k : ℕ). done (c, at k rest)) (omega (arith, length-append (x ++ y ++ z) w, length-append (x ++ y) z, length-append x y))

  -- each of the items
  each-step : (P : Credential → Type 0) (r : Result (Credential × Source) Fault) (others : Source → CacheItems Credential) → ((c : Credential) (t : Source) → r ≡ Ok (c, t) → P c × AllByRecursion P (others t).items) → AllByRecursion P (item_and r others).items
  each-step P (Err f) others each = tt
  each-step P (Ok (c, t)) others each = each c t refl

  each-within : (bound place : ℕ) (octets : List ℕ) → AreOctets octets → AllByRecursion (IsReadAgain (credential_at one_enctype 4) credential limit) (items_within bound (credential_at one_enctype 3) limit (at place octets)).items
  each-within (suc bound) place (octet ∷ octets) fits =
      let s = at place (octet ∷ octets) in
      each-step (IsReadAgain (credential_at one_enctype 4) credential limit) (credential_at one_enctype 3 (limited limit) s) (items_within bound (credential_at one_enctype 3) limit) (λ c t e.
      let a = parts-again s t c fits e in
      (one-again c a.0, each-within bound t.place t.octets a.1))
  each-within other place another fits = tt

  each-again : (s : Source) → AreOctets s.octets → AllByRecursion (IsReadAgain (credential_at one_enctype 4) credential limit) (items_after (credential_at one_enctype 3) limit s).items
  each-again s fits = each-within (length s.octets) s.place s.octets fits

  -- ---- what is before the credentials
  abbrev after_version : ℕ → Source → Result (Start × Source) Fault
  after_version version s = and_then (header_in version (limited limit) s) (λ p. and_then (principal_in whose.Principal (limited limit) p.1) (λ q. done (start_of version p.0 q.0, q.1)))

  header-none : (rest : List ℕ) → header_at (limited limit) (at 2 (0 ∷ 0 ∷ rest)) ≡ Ok (no_header, at 4 rest)
  header-none rest =
      let long : ltb (length (0 ∷ 0 ∷ rest)) 2 ≡ false = le-ltb _ _ (omega arith) in
      rw long refl

  start-again : (p : FilePrincipal) (rest : List ℕ) → IsReadAgain (principal_in whose.Principal) principal limit p → file_start limit (5 ∷ 4 ∷ 0 ∷ 0 ∷ (principal p ++ rest)) ≡ Ok (start_of 4 no_header p, at (4 + length (principal p)) rest)
  start-again p rest again =
      ap (λ (r : Result (ℕ × Source) Fault). and_then r (λ q. after_version q.0 q.1)) (version-again (3 ∷ 4 ∷ []) (limited limit) (0 ∷ 0 ∷ (principal p ++ rest)) 4 (omega arith) refl refl)
      ∙ ap (λ (r : Result (Header × Source) Fault). and_then r (λ x. and_then (principal_in whose.Principal (limited limit) x.1) (λ q. done (start_of 4 x.0 q.0, q.1)))) (header-none (principal p ++ rest))
      ∙ ap (λ (r : Result (FilePrincipal × Source) Fault). and_then r (λ q. done (start_of 4 no_header q.0, q.1))) (again 4 rest)

  -- the start of a file of version 3
  pub record Starts3 (octets : List ℕ) (start : Start) (after : Source) : Type 0 where
    pub who : FilePrincipal
    pub is : start_of 3 no_header who ≡ start
    pub parts : octets ≡ principal who ++ after.octets
    pub fits : PrincipalFits who
    pub left : AreOctets after.octets
    pub again : IsReadAgain (principal_in whose.Principal) principal limit who

  starts3 : (octets : List ℕ) (start : Start) (after : Source) → AreOctets octets → file_start limit (5 ∷ 3 ∷ octets) ≡ Ok (start, after) → Starts3 octets start after
  starts3 octets start after fits e =
      let version = ap (λ (r : Result (ℕ × Source) Fault). and_then r (λ q. after_version q.0 q.1)) (version-again (3 ∷ 4 ∷ []) (limited limit) octets 3 (omega arith) refl refl) in
      let p = and_then-ok (principal_in whose.Principal (limited limit) (at 2 octets)) (λ q. done (start_of 3 no_header q.0, q.1)) (start, after) (sym version ∙ e) in
      let took = (Reads-principal_in whose.Principal).sound (limited limit) (at 2 octets) p.0.1 p.0.0 fits (inside_file limit 2) p.1 in
      let again = read-again (principal_in whose.Principal) principal PrincipalFits (Reads-principal_in whose.Principal) (Local-principal_in whose.Principal) limit (at 2 octets) p.0.1 p.0.0 fits p.1 in
      let same = ok_is (start_of 3 no_header p.0.0, p.0.1) (start, after) p.2 in
      let rest : p.0.1 ≡ after = ap (λ (x : Start × Source). x.1) same in
      record {
        who = p.0.0;
        is = ap (λ (x : Start × Source). x.0) same;
        parts = took.0.parts ∙ ap (λ (x : Source). principal p.0.0 ++ x.octets) rest;
        fits = took.1;
        left = subst (λ (x : Source). AreOctets x.octets) rest took.0.fits;
        again = again;
      }

  -- ---- whole files
  pub record Begun (r : Result (Start × Source) Fault) (size : ℕ) : Type 0 where
    pub start : Start
    pub after : Source
    pub is : r ≡ Ok (start, after)
    pub ends : (items_after (credential_at one_enctype start.version) limit after).end ≡ Ok size

  file_start-ok : (r : Result (Start × Source) Fault) (size : ℕ) → (credentials_of limit r).end ≡ Ok size → Begun r size
  file_start-ok (Ok (start, after)) size e = record { start = start; after = after; is = refl; ends = e }
  file_start-ok (Err f) size e = absurd cc

  -- a file of version 3 with a principal and these credentials
  module _ (who : FilePrincipal) (who_fits : PrincipalFits who) (who_again : IsReadAgain (principal_in whose.Principal) principal limit who) (after : Source) (fits : AreOctets after.octets) (size : ℕ) (ends : (items_after (credential_at one_enctype 3) limit after).end ≡ Ok size) where
    abbrev found : CacheItems Credential3
    found = items_after (credential_at both_enctypes 3) limit after

    abbrev cache : Cache3
    cache = record { principal = who; credentials = found.items }

    mapped : record { items = map credential_part found.items; end = found.end } ≡ items_after (credential_at one_enctype 3) limit after
    mapped = items-mapped credential_part (credential_at both_enctypes 3) (credential_at one_enctype 3) (Mapped-one_enctype 3) limit after

    found-ends : found.end ≡ Ok size
    found-ends = ap (λ (i : CacheItems Credential). i.end) mapped ∙ ends

    spelled : (after.octets ≡ flat_map credential3 found.items) × AllByRecursion Credential3Fits found.items
    spelled = all-sound (credential_at both_enctypes 3) credential3 Credential3Fits Reads-credential3 credential3-some limit after found.items fits (ap (λ (r : Result ℕ Fault). and_then r (λ k. done found.items)) found-ends)

    spells : (octets : List ℕ) → octets ≡ principal who ++ after.octets → Spells3 cache (5 ∷ 3 ∷ octets)
    spells octets parts = record {
      fits = record { principal = who_fits; credentials = spelled.1 };
      octets = ap (λ (x : List ℕ). 5 ∷ 3 ∷ x) (parts ∙ ap (λ (x : List ℕ). principal who ++ x) spelled.0);
    }

    each : AllByRecursion (IsReadAgain (credential_at one_enctype 4) credential limit) (map credential_part found.items)
    each = subst (λ (i : CacheItems Credential). AllByRecursion (IsReadAgain (credential_at one_enctype 4) credential limit) i.items) (sym mapped) (each-again after fits)

    holds3 : (b : List ℕ) → file_start limit b ≡ Ok (start_of 3 no_header who, after) → Holds limit b (upgraded cache)
    holds3 b begins = record {
      start = start_of 3 no_header who;
      after = after;
      begins = begins;
      header = refl;
      principal = refl;
      size = size;
      all = ap (credentials_of limit) begins ∙ sym mapped ∙ ap (λ (r : Result ℕ Fault). let it : CacheItems Credential = record { items = map credential_part found.items; end = r } in it) found-ends;
    }

    holds4 : Holds limit (ccache (upgraded cache)) (upgraded cache)
    holds4 =
        let rest = flat_map credential (map credential_part found.items) in
        let begins = start-again who (flat_map credential (map credential_part found.items)) who_again in
        record {
          start = start_of 4 no_header who;
          after = at (4 + length (principal who)) rest;
          begins = begins;
          header = refl;
          principal = refl;
          size = (4 + length (principal who)) + length rest;
          all = ap (credentials_of limit) begins ∙ items_after-again (credential_at one_enctype 4) credential credential-some limit (map credential_part found.items) (4 + length (principal who)) each;
        }

  both : (v : Cache3) (octets : List ℕ) (size : ℕ) → AreOctets octets → Spells3 v (5 ∷ 3 ∷ octets) → (credentials limit (5 ∷ 3 ∷ octets)).end ≡ Ok size → Holds limit (5 ∷ 3 ∷ octets) (upgraded v) × Holds limit (ccache (upgraded v)) (upgraded v)
  both v octets size fits spelled ends =
      let a = file_start-ok (file_start limit (5 ∷ 3 ∷ octets)) size ends in
      let s = starts3 octets a.start a.after fits a.is in
      let version : 3 ≡ a.start.version = ap (λ (x : Start). x.version) s.is in
      let ends3 = subst (λ (n : ℕ). (items_after (credential_at one_enctype n) limit a.after).end ≡ Ok size) (sym version) a.ends in
      let begins = a.is ∙ ap (λ (x : Start). done (x, a.after)) (sym s.is) in
      let same : cache s.who s.fits s.again a.after s.left size ends3 ≡ v = spells3-one (cache s.who s.fits s.again a.after s.left size ends3) v (5 ∷ 3 ∷ octets) (spells s.who s.fits s.again a.after s.left size ends3 octets s.parts) spelled in
      subst (λ (x : Cache3). Holds limit (5 ∷ 3 ∷ octets) (upgraded x) × Holds limit (ccache (upgraded x)) (upgraded x)) same
      (holds3 s.who s.fits s.again a.after s.left size ends3 (5 ∷ 3 ∷ octets) begins, holds4 s.who s.fits s.again a.after s.left size ends3)

pub holds_the_same : (limit : Option ℕ) (v : Cache3) (b : List ℕ) (size : ℕ) → AreOctets b → Spells3 v b → (credentials limit b).end ≡ Ok size → Holds limit b (upgraded v) × Holds limit (ccache (upgraded v)) (upgraded v)
holds_the_same limit v b size fits spelled ends =
    subst (λ (x : List ℕ). AreOctets x → Spells3 v x → (credentials limit x).end ≡ Ok size → Holds limit x (upgraded v) × Holds limit (ccache (upgraded v)) (upgraded v)) (sym spelled.octets)
    (λ octets spells end. both limit v (principal v.principal ++ flat_map credential3 v.credentials) size octets.1.1 spells end) fits spelled ends
