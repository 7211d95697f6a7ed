-- Records: what is read is spelled by its octets, and what is spelled is read.
use Rattle.std.proofs.Common.{◌≡◌, ℕ, zero, suc, ◌+◌, ◌^◌, ◌<◌, ◌≤◌, Bool, ℤ, pos, negsuc, Option, None, Result, Ok, Err, List, [], ◌∷◌, ◌++◌, length, refl, sym, ◌∙◌, ap, subst, arith, append_assoc, length-append}
use Rattle.std.proofs.lemmas.List.{nil_from_length}
use Rattle.std.specs.Int.{w32}
use Rattle.std.specs.Int.RustNames.{FitsSigned}
use Rattle.krb_der.specs.Octets.{AreOctets}
use Rattle.krb_file.specs.Fields.{signed, Source, Fault, limited, and_then, with_name, refused_at, begun_at, called, next_octets_at, signed_at, within, are_zero}
use Rattle.krb_file.specs.declared.field_name.FieldName.TheVariants as fields
use Rattle.krb_file.proofs.Fields.{refused_at-ok, begun_at-ok, at, done, ok_is, and_then-ok, Inside, Took, Took-then, Took-none, piece-ok, piece-took, piece-again, Reads-signed}
use Rattle.krb_keytab.specs.declared.value.Record.{Record}
use Rattle.krb_keytab.specs.declared.value.Record.TheVariants as records
use Rattle.krb_keytab.specs.declared.reading.Next.{Next}
use Rattle.krb_keytab.specs.declared.reading.Next.TheVariants as nexts
use Rattle.krb_keytab.specs.declared.value.Stop.{Stop}
use Rattle.krb_keytab.specs.declared.value.Stop.TheVariants as stops
use Rattle.krb_keytab.specs.declared.value.Entry.{Entry}
use Rattle.krb_keytab.specs.Holes.{HoleModel}
use Rattle.krb_keytab.specs.Spelling.{entry, negated, IsHole, RecordSpells, RecordsSpell, stop_octets}
use Rattle.krb_keytab.specs.Reading.{entry_at, record_of, record_at, Records, items_from, items_within}
use Rattle.krb_keytab.proofs.Entries.{entry-sound, entry-again}

-- without an end, fields may reach the end of the file
pub inside_file : (limit : Option ℕ) (place : ℕ) → Inside (limited limit) place
inside_file limit place = record { inside = refl }

-- ---- a record

abbrev pub RecordRead : Option ℕ → Source → Source → Next → Type 0
RecordRead limit s t (nexts.Item r) = (b : List ℕ) × RecordSpells r b × Took (limited limit) b s t × (0 < length b)
RecordRead limit s t (nexts.Done stop) = Took (limited limit) (stop_octets stop) s t × (stop ≡ stops.File → t.octets ≡ [])

record_of-sound : (z : ℤ) (limit : Option ℕ) (s u t : Source) (x : Next) → Took (limited limit) (signed w32 z) s u → FitsSigned w32 z → record_of z (limited limit) u ≡ Ok (x, t) → RecordRead limit s t x
record_of-sound (pos zero) limit s u t x prefix z e =
    subst (λ (p : Next × Source). RecordRead limit s p.1 p.0) (ok_is (nexts.Done stops.Zero, u) (x, t) e) (prefix, λ h. absurd cc)
record_of-sound (pos (suc n)) limit s u t x prefix z e =
    let a = and_then-ok (within (suc n) entry_at (limited limit) u) (λ p. done (nexts.Item (records.Entry p.0), p.1)) (x, t) e in
    let r = entry-sound (suc n) limit u a.0.1 a.0.0 prefix.fits a.1 in
    let short : suc n < 2 ^ 31 = z.sfits in
    let content : Took (limited limit) (entry a.0.0) u a.0.1 = record { parts = r.parts; place = omega (arith, r.place, r.length); inside = inside_file limit a.0.1.place; fits = r.are_octets } in
    let both = Took-then (limited limit) (signed w32 (pos (suc n))) (entry a.0.0) s u a.0.1 prefix content in
    let spelled : signed w32 (pos (suc n)) ++ entry a.0.0 ≡ signed w32 (pos (length (entry a.0.0))) ++ entry a.0.0 = ap (λ (k : ℕ). signed w32 (pos k) ++ entry a.0.0) (sym r.length) in
    subst (λ (p : Next × Source). RecordRead limit s p.1 p.0) (ok_is (nexts.Item (records.Entry a.0.0), a.0.1) (x, t) a.2) (signed w32 (pos (suc n)) ++ entry a.0.0, (r.fits short, spelled), both, omega arith)
record_of-sound (negsuc n) limit s u t x prefix z e =
    let hole = λ (octets : List ℕ). let it : HoleModel = record { size = suc n; clean = are_zero octets } in it in
    let a = and_then-ok (called fields.Hole (next_octets_at None (suc n)) (limited limit) u) (λ p. done (nexts.Item (records.Hole (hole p.0)), p.1)) (x, t) e in
    let p = piece-took None (suc n) (limited limit) u a.0.1 a.0.0 prefix.fits (piece-ok None (suc n) (limited limit) u a.0.1 a.0.0 (refused_at-ok (with_name fields.Hole) (next_octets_at None (suc n) (limited limit) u) a.0 a.1)) in
    let small : n < 2 ^ 31 = z.sfits in
    let both = Took-then (limited limit) (signed w32 (negsuc n)) a.0.0 s u a.0.1 prefix p.0 in
    let is : IsHole (hole a.0.0) a.0.0 = record { range = (omega arith, omega (arith, small)); are_octets = p.2; size = p.1; clean = refl } in
    subst (λ (q : Next × Source). RecordRead limit s q.1 q.0) (ok_is (nexts.Item (records.Hole (hole a.0.0)), a.0.1) (x, t) a.2) (signed w32 (negsuc n) ++ a.0.0, (a.0.0, is, refl), both, omega arith)

pub record-sound : (limit : Option ℕ) (place : ℕ) (octets : List ℕ) (t : Source) (x : Next) → AreOctets octets → record_at (limited limit) (at place octets) ≡ Ok (x, t) → RecordRead limit (at place octets) t x
record-sound limit place [] t x fits e =
    subst (λ (p : Next × Source). RecordRead limit (at place []) p.1 p.0) (ok_is (nexts.Done stops.File, at place []) (x, t) e) (Took-none (limited limit) (at place []) fits (inside_file limit place), λ h. refl)
record-sound limit place (octet ∷ octets) t x fits e =
    let s = at place (octet ∷ octets) in
    let a = and_then-ok (called fields.Length (signed_at w32) (limited limit) s) (λ p. record_of p.0 (limited limit) p.1) (x, t) (begun_at-ok place _ (x, t) e) in
    let z = Reads-signed.sound (limited limit) s a.0.1 a.0.0 fits (inside_file limit place) (refused_at-ok (with_name fields.Length) (signed_at w32 (limited limit) s) a.0 a.1) in
    record_of-sound a.0.0 limit s a.0.1 t x z.0 z.1 a.2

-- a record's length, and then the rest of the record
length-again : (z : ℤ) (place : ℕ) (octets : List ℕ) → FitsSigned w32 z → record_at (limited None) (at place (signed w32 z ++ octets)) ≡ begun_at place (record_of z (limited None) (at (place + 4) octets))
length-again z place octets fits =
    ap (λ (r : Result (ℤ × Source) Fault). begun_at place (and_then (refused_at (with_name fields.Length) r) (λ p. record_of p.0 (limited None) p.1))) (Reads-signed.again (limited None) place octets z fits refl (inside_file None (place + 4)))

pub record-again : (r : Record) (b : List ℕ) (place : ℕ) (rest : List ℕ) → RecordSpells r b → record_at (limited None) (at place (b ++ rest)) ≡ Ok (nexts.Item r, at (place + length b) rest)
record-again (records.Entry e) b place rest spelled =
    let z : ℤ = pos (length (entry e)) in
    let fits : FitsSigned w32 z = record { sfits = spelled.0.short } in
    ap (λ (x : List ℕ). record_at (limited None) (at place (x ++ rest))) spelled.1
    ∙ ap (λ (x : List ℕ). record_at (limited None) (at place x)) (append_assoc (signed w32 z) (entry e) rest)
    ∙ length-again z place (entry e ++ rest) fits
    ∙ ap (λ (r : Result (Entry × Source) Fault). begun_at place (and_then r (λ p. done (nexts.Item (records.Entry p.0), p.1)))) (entry-again e (place + 4) rest spelled.0)
    ∙ ap (λ (k : ℕ). done (nexts.Item (records.Entry e), at k rest)) (omega (arith, ap length spelled.1, length-append (signed w32 z) (entry e)))
record-again (records.Hole h) b place rest spelled = go h.size spelled.0 spelled.1 refl spelled.2
  where
    go : (size : ℕ) (octets : List ℕ) → IsHole h octets → size ≡ h.size → b ≡ signed w32 (negated size) ++ octets → record_at (limited None) (at place (b ++ rest)) ≡ Ok (nexts.Item (records.Hole h), at (place + length b) rest)
    go zero octets is e spelled = absurd (omega (arith, is.range.0))
    go (suc n) octets is e spelled =
        let z : ℤ = negsuc n in
        let fits : FitsSigned w32 z = record { sfits = omega (arith, is.range.1) } in
        let len : length octets ≡ suc n = omega (arith, is.size) in
        let piece : next_octets_at None (suc n) (limited None) (at (place + 4) (octets ++ rest)) ≡ Ok (octets, at ((place + 4) + length octets) rest) =
        subst (λ (k : ℕ). next_octets_at None k (limited None) (at (place + 4) (octets ++ rest)) ≡ Ok (octets, at ((place + 4) + length octets) rest)) len (piece-again None (limited None) (place + 4) octets rest refl (inside_file None _)) in
        let made = λ (size : ℕ) (clean : Bool). let it : HoleModel = record { size = size; clean = clean } in it in
        let same : made (suc n) (are_zero octets) ≡ h = ap (λ (k : ℕ). made k (are_zero octets)) e ∙ ap (made h.size) is.clean in
        ap (λ (x : List ℕ). record_at (limited None) (at place (x ++ rest))) spelled
        ∙ ap (λ (x : List ℕ). record_at (limited None) (at place x)) (append_assoc (signed w32 z) octets rest)
        ∙ length-again z place (octets ++ rest) fits
        ∙ ap (λ (r : Result (List ℕ × Source) Fault). begun_at place (and_then (refused_at (with_name fields.Hole) r) (λ p. done (nexts.Item (records.Hole (made (suc n) (are_zero p.0))), p.1)))) piece
        ∙ ap (λ (h : HoleModel). done (nexts.Item (records.Hole h), at ((place + 4) + length octets) rest)) same
        ∙ ap (λ (k : ℕ). done (nexts.Item (records.Hole h), at k rest)) (omega (arith, ap length spelled, length-append (signed w32 z) octets))

-- ---- records up to their end

pub record Found (s : Source) (found : List Record) (stop : Stop) (k : ℕ) : Type 0 where
  pub body : List ℕ
  pub rest : List ℕ
  pub spelled : RecordsSpell found body
  pub parts : s.octets ≡ (body ++ stop_octets stop) ++ rest
  pub place : k ≡ s.place + length (body ++ stop_octets stop)
  pub whole : stop ≡ stops.File → rest ≡ []

Found-stop : (limit : Option ℕ) (s t : Source) (stop : Stop) → RecordRead limit s t (nexts.Done stop) → Found s [] stop t.place
Found-stop limit s t stop r = record { body = []; rest = t.octets; spelled = refl; parts = r.0.parts; place = r.0.place; whole = r.1 }

Found-item : (limit : Option ℕ) (s t : Source) (r : Record) (found : List Record) (stop : Stop) (k : ℕ) → RecordRead limit s t (nexts.Item r) → Found t found stop k → Found s (r ∷ found) stop k
Found-item limit s t r found stop k first others = record {
  body = first.0 ++ others.body;
  rest = others.rest;
  spelled = (first.0, others.body, refl, first.1, others.spelled);
  parts = first.2.parts ∙ ap (λ (x : List ℕ). first.0 ++ x) others.parts ∙ simp append_assoc;
  place = omega (arith, first.2.place, others.place, length-append first.0 others.body, length-append (first.0 ++ others.body) (stop_octets stop), length-append others.body (stop_octets stop));
  whole = others.whole;
}

items-step : (others : Source → Records) (limit : Option ℕ) (s : Source) (bound : ℕ) (stop : Stop) (k : ℕ)
    → ((t : Source) → AreOctets t.octets → length t.octets ≤ bound → (others t).end ≡ Ok (stop, k) → Found t (others t).items stop k)
    → (r : Result (Next × Source) Fault) → ((x : Next) (t : Source) → r ≡ Ok (x, t) → RecordRead limit s t x) → length s.octets ≤ suc bound → (items_from r others).end ≡ Ok (stop, k) → Found s (items_from r others).items stop k
items-step others limit s bound stop k rest (Err f) sound len e = absurd cc
items-step others limit s bound stop k rest (Ok (nexts.Done z, t)) sound len e =
    subst (λ (p : Stop × ℕ). Found s [] p.0 p.1) (ok_is (z, t.place) (stop, k) e) (Found-stop limit s t z (sound (nexts.Done z) t refl))
items-step others limit s bound stop k rest (Ok (nexts.Item r, t)) sound len e =
    let first = sound (nexts.Item r) t refl in
    let shorter : length t.octets ≤ bound = omega (arith, first.3, ap length first.2.parts, length-append first.0 t.octets) in
    Found-item limit s t r (others t).items stop k first (rest t first.2.fits shorter e)

pub items-sound : (bound : ℕ) (limit : Option ℕ) (s : Source) (stop : Stop) (k : ℕ) → AreOctets s.octets → length s.octets ≤ bound → (items_within bound limit s).end ≡ Ok (stop, k) → Found s (items_within bound limit s).items stop k
items-sound zero limit s stop k fits len e =
    let nothing : s.octets ≡ [] = nil_from_length s.octets (omega arith) in
    subst (λ (p : Stop × ℕ). Found s [] p.0 p.1) (ok_is (stops.File, s.place) (stop, k) e) (record { body = []; rest = []; spelled = refl; parts = nothing; place = omega arith; whole = λ h. refl })
items-sound (suc bound) limit s stop k fits len e =
    items-step (items_within bound limit) limit s bound stop k (λ t. items-sound bound limit t stop k) (record_at (limited limit) s) (λ x t h. record-sound limit s.place s.octets t x fits h) len e

abbrev pub ended : List Record → Stop → ℕ → Records
ended found stop k = record { items = found; end = Ok (stop, k) }

nothing-again : (bound place : ℕ) (stop : Stop) (rest : List ℕ) → length (stop_octets stop ++ rest) ≤ bound → (stop ≡ stops.File → rest ≡ []) → items_within bound None (at place (stop_octets stop ++ rest)) ≡ ended [] stop (place + length (stop_octets stop))
nothing-again zero place stops.File rest len whole = ap (λ (k : ℕ). ended [] stops.File k) (omega arith)
nothing-again (suc bound) place stops.File rest len whole =
    ap (λ (x : List ℕ). items_within (suc bound) None (at place x)) (whole refl) ∙ ap (λ (k : ℕ). ended [] stops.File k) (omega arith)
nothing-again zero place stops.Zero rest len whole = absurd (omega arith)
nothing-again (suc bound) place stops.Zero rest len whole =
    ap (λ (r : Result (Next × Source) Fault). items_from r (items_within bound None)) (length-again (pos 0) place rest (record { sfits = omega arith }))

pub spelled-some : (r : Record) (b : List ℕ) → RecordSpells r b → 0 < length b
spelled-some (records.Entry e) b spelled = omega (arith, ap length spelled.1)
spelled-some (records.Hole h) b spelled = omega (arith, ap length spelled.2)

pub items-again : (found : List Record) (bound place : ℕ) (body : List ℕ) (stop : Stop) (rest : List ℕ) → RecordsSpell found body → length ((body ++ stop_octets stop) ++ rest) ≤ bound → (stop ≡ stops.File → rest ≡ [])
    → items_within bound None (at place ((body ++ stop_octets stop) ++ rest)) ≡ ended found stop (place + length (body ++ stop_octets stop))
items-again [] bound place body stop rest spelled len whole =
    rw spelled (nothing-again bound place stop rest (rw spelled at len) whole)
items-again (r ∷ found) zero place body stop rest spelled len whole =
    absurd (omega (arith, spelled-some r spelled.0 spelled.3, ap length spelled.2, length-append spelled.0 spelled.1, length-append (body ++ stop_octets stop) rest, length-append body (stop_octets stop)))
items-again (r ∷ found) (suc bound) place body stop rest spelled len whole =
    let prefix = spelled.0 in
    let suffix = spelled.1 in
    let some : 0 < length prefix = spelled-some r prefix spelled.3 in
    let regrouped : (body ++ stop_octets stop) ++ rest ≡ prefix ++ ((suffix ++ stop_octets stop) ++ rest) = rw spelled.2 (simp append_assoc) in
    let counted : length (body ++ stop_octets stop) ≡ length prefix + length (suffix ++ stop_octets stop) = rw spelled.2 (omega (arith, length-append (prefix ++ suffix) (stop_octets stop), length-append prefix suffix, length-append suffix (stop_octets stop))) in
    let shorter : length ((suffix ++ stop_octets stop) ++ rest) ≤ bound = omega (arith, ap length regrouped, length-append prefix ((suffix ++ stop_octets stop) ++ rest)) in
    let others = items-again found bound (place + length prefix) suffix stop rest spelled.4 shorter whole in
    ap (λ (x : List ℕ). items_within (suc bound) None (at place x)) regrouped
    ∙ ap (λ (q : Result (Next × Source) Fault). items_from q (items_within bound None)) (record-again r prefix place ((suffix ++ stop_octets stop) ++ rest) spelled.3)
    ∙ ap (λ (i : Records). let it : Records = record { items = r ∷ i.items; end = i.end } in it) others
    ∙ ap (λ (k : ℕ). ended (r ∷ found) stop k) (omega (arith, counted))
