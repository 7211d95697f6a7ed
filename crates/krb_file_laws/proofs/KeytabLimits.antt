-- Records that are read before a fault or under a limit are spelled by the octets before it, and a limit adds the fault TooLong and nothing else.
use Rattle.std.proofs.Common.{◌≡◌, ℕ, zero, suc, ◌+◌, ◌-◌, ◌<◌, ◌≤◌, ◌⊎◌, inl, inr, ℤ, pos, negsuc, Option, Some, None, Result, Ok, Err, List, [], ◌∷◌, ◌++◌, length, take, refl, sym, ◌∙◌, ap, subst, arith, append_assoc, length-append}
use Rattle.std.proofs.lemmas.List.{take_at, append-nil}
use Rattle.std.specs.Int.{w8, w16, w32, cast_signed}
use Rattle.krb_der.specs.Octets.{AreOctets}
use Rattle.krb_file.specs.Fields.{Source, source_of, Fault, Bounds, limited, ◌>>=◌, called, next_octets_at, number_at, signed_at, counted_at, names_at, rest_at, within, version_at, are_zero, with_name}
use Rattle.krb_file.specs.Limits.{number_from, number_before}
use Rattle.krb_source.specs.declared.file_why.FileWhy.TheVariants as why
use Rattle.krb_file.specs.declared.field_name.FieldName.TheVariants as fields
use Rattle.krb_file.proofs.Fields.{at, done, ok_is, and_then-ok, refused_at-ok, begun_at-ok, begun_at-err, version-one}
use Rattle.krb_file_laws.proofs.FileLimits.{IsOf, IsTooLong, IsSameOrTooLong, Limited, either-then, begun-same, Limited-then, Limited-succeed, Limited-called, Limited-piece, Limited-number, Limited-signed, Limited-counted, Limited-rest, Limited-names, Limited-version, signed-is}
use Rattle.krb_keytab.specs.declared.value.Record.{Record}
use Rattle.krb_keytab.specs.declared.value.Record.TheVariants as records
use Rattle.krb_keytab.specs.declared.reading.Next.{Next}
use Rattle.krb_keytab.specs.declared.reading.Next.TheVariants as nexts
use Rattle.krb_keytab.specs.declared.value.Stop.{Stop}
use Rattle.krb_keytab.specs.declared.value.Stop.TheVariants as stops
use Rattle.krb_keytab.specs.Spelling.{RecordsSpell}
use Rattle.krb_file.specs.Items.{with_first}
use Rattle.krb_keytab.specs.Reading.{entry_at, record_of, record_at, content_size, Records, items_from, items_within, items_after, after_version, items}
use Rattle.krb_keytab.specs.Laws.{AreFirst, AreBefore, IsLong, AreCut}
use Rattle.krb_keytab.proofs.Faults.{Steps-record}
use Rattle.krb_keytab.proofs.RecordSpellings.{RecordRead, record-sound, inside_file}

-- ---- what is read is spelled

-- records that the octets of a source begin with, up to the record at fault or before the end
record Begins (s : Source) (found : List Record) (end : Result (Stop × ℕ) Fault) : Type 0 where
  body : List ℕ
  rest : List ℕ
  spelled : RecordsSpell found body
  parts : s.octets ≡ body ++ rest
  before : AreBefore (s.place + length body) end

Begins-none : (s : Source) (end : Result (Stop × ℕ) Fault) → AreBefore s.place end → Begins s [] end
Begins-none s end before =
    let nothing : s.place ≡ s.place + 0 = omega arith in
    record { body = []; rest = s.octets; spelled = refl; parts = refl; before = subst (λ (k : ℕ). AreBefore k end) nothing before }

Begins-item : (limit : Option ℕ) (s t : Source) (r : Record) (found : List Record) (end : Result (Stop × ℕ) Fault) → RecordRead limit s t (nexts.Item r) → Begins t found end → Begins s (r ∷ found) end
Begins-item limit s t r found end first others =
    let place : t.place + length others.body ≡ s.place + length (first.0 ++ others.body) = omega (arith, first.2.place, length-append first.0 others.body) in
    record {
      body = first.0 ++ others.body;
      rest = others.rest;
      spelled = (first.0, others.body, refl, first.1, others.spelled);
      parts = first.2.parts ∙ ap (λ (x : List ℕ). first.0 ++ x) others.parts ∙ simp append_assoc;
      before = subst (λ (k : ℕ). AreBefore k end) place others.before;
    }

-- a fault tells where the record begins that it is in
record-begin : (bounds : Bounds) (place : ℕ) (octets : List ℕ) (f : Fault) → record_at bounds (at place octets) ≡ Err f → f.begin ≡ place
record-begin bounds place [] f e = absurd cc
record-begin bounds place (octet ∷ octets) f e =
    let a = begun_at-err place ((called fields.Length (signed_at w32) >>= record_of) bounds (at place (octet ∷ octets))) f e in
    sym (ap (λ (x : Fault). x.begin) a.2)

begins-step : (others : Source → Records) (limit : Option ℕ) (s : Source) → ((t : Source) → AreOctets t.octets → Begins t (others t).items (others t).end)
    → (r : Result (Next × Source) Fault) → ((x : Next) (t : Source) → r ≡ Ok (x, t) → RecordRead limit s t x) → ((f : Fault) → r ≡ Err f → (s.place ≡ f.begin) × (s.place ≤ f.place)) → Begins s (items_from r others).items (items_from r others).end
begins-step others limit s rest (Err f) sound faults = Begins-none s (Err f) (faults f refl)
begins-step others limit s rest (Ok (nexts.Done stop, t)) sound faults = let first = sound (nexts.Done stop) t refl in Begins-none s (Ok (stop, t.place)) (omega (arith, first.0.place))
begins-step others limit s rest (Ok (nexts.Item r, t)) sound faults =
    let first = sound (nexts.Item r) t refl in
    Begins-item limit s t r (others t).items (others t).end first (rest t first.2.fits)

items-begin : (bound : ℕ) (limit : Option ℕ) (s : Source) → AreOctets s.octets → Begins s (items_within bound limit s).items (items_within bound limit s).end
items-begin zero limit s fits = Begins-none s (Ok (stops.File, s.place)) (omega arith)
items-begin (suc bound) limit s fits =
    begins-step (items_within bound limit) limit s (items-begin bound limit) (record_at (limited limit) s)
    (λ x t h. record-sound limit s.place s.octets t x fits h) (λ f h. (sym (record-begin (limited limit) s.place s.octets f h), (Steps-record.faults (limited limit) s f h).from))

-- the version, and then records
first-of : (file : List ℕ) (t : Source) (found : List Record) (body rest : List ℕ) → file ≡ 5 ∷ 2 ∷ t.octets → RecordsSpell found body → t.octets ≡ body ++ rest → AreFirst file found (2 + length body)
first-of file t found body rest opening spelled parts =
    let file_is : file ≡ (5 ∷ 2 ∷ body) ++ rest = opening ∙ ap (λ (x : List ℕ). 5 ∷ 2 ∷ x) parts in
    let taken : take (2 + length body) file ≡ 5 ∷ 2 ∷ body = ap (take (2 + length body)) file_is ∙ take_at (5 ∷ 2 ∷ body) rest (2 + length body) (omega arith) in
    record {
      there = omega (arith, ap length taken);
      spelled = (body, spelled, taken ∙ ap (λ (x : List ℕ). 5 ∷ 2 ∷ x) (sym (append-nil body)));
    }

pub records-spelled : (limit : Option ℕ) (file : List ℕ) → AreOctets file → ((items limit file).items ≡ []) ⊎ ((size : ℕ) × AreFirst file (items limit file).items size × AreBefore size (items limit file).end)
records-spelled limit file fits = go (version_at (2 ∷ []) (limited limit) (source_of file)) refl
  where
    go : (r : Result (ℕ × Source) Fault) → version_at (2 ∷ []) (limited limit) (source_of file) ≡ r
        → ((after_version r (items_after limit)).items ≡ []) ⊎ ((size : ℕ) × AreFirst file (after_version r (items_after limit)).items size × AreBefore size (after_version r (items_after limit)).end)
    go (Err f) e = inl refl
    go (Ok (v, t)) e =
        let opening = version-one 2 (limited limit) (source_of file) t v fits (inside_file limit 0) e in
        let b = items-begin (length t.octets) limit t opening.0.fits in
        inr (2 + length b.body, first-of file t (items_after limit t).items b.body b.rest opening.0.parts b.spelled b.parts, subst (λ (k : ℕ). AreBefore (k + length b.body) (items_after limit t).end) opening.0.place b.before)

-- ---- what a limit changes

Limited-entry : (file : List ℕ) (most : ℕ) (Long : ℕ → ℕ → Type 0) (end : ℕ) → ((place : ℕ) → most < number_before w16 file place → Long place (number_before w16 file place)) → ((place : ℕ) → place + most < end → Long place (end - place)) → Limited file most Long (Some end) entry_at
Limited-entry file most Long end counted rest =
    Limited-then file most Long (Some end) (names_at w16) _ (Limited-names file most Long (Some end) w16 counted) (λ names.
    Limited-then file most Long (Some end) (called fields.NameType (signed_at w32)) _ (Limited-called file most Long (Some end) fields.NameType (signed_at w32) (Limited-signed file most Long (Some end) w32)) (λ name_type.
    Limited-then file most Long (Some end) (called fields.Timestamp (number_at w32)) _ (Limited-called file most Long (Some end) fields.Timestamp (number_at w32) (Limited-number file most Long (Some end) w32)) (λ time.
    Limited-then file most Long (Some end) (called fields.KeyVersion (number_at w8)) _ (Limited-called file most Long (Some end) fields.KeyVersion (number_at w8) (Limited-number file most Long (Some end) w8)) (λ vno8.
    Limited-then file most Long (Some end) (called fields.Enctype (number_at w16)) _ (Limited-called file most Long (Some end) fields.Enctype (number_at w16) (Limited-number file most Long (Some end) w16)) (λ enctype.
    Limited-then file most Long (Some end) (called fields.Key (counted_at w16)) _ (Limited-called file most Long (Some end) fields.Key (counted_at w16) (Limited-counted file most Long (Some end) w16 counted)) (λ key.
    Limited-then file most Long (Some end) (called fields.Rest rest_at) _ (Limited-called file most Long (Some end) fields.Rest rest_at (Limited-rest file most Long end rest)) (λ rest.
    Limited-succeed file most Long (Some end) (record { realm = names.realm; components = names.components; name_type = name_type; time = time; vno8 = vno8; enctype = enctype; key = key; rest = rest }))))))))

-- what follows the length of the record at `start`
record-same : (z : ℤ) (most : ℕ) (file : List ℕ) (start : ℕ) (u : Source) → IsOf file u → u.place ≡ start + 4 → z ≡ cast_signed w32 (number_from w32 file start)
    → IsSameOrTooLong (IsLong most file start) (record_of z (limited (Some most)) u) (record_of z (limited None) u)
record-same (pos zero) most file start u is place size = inl refl
record-same (pos (suc n)) most file start u is place size =
    let Long = IsLong most file start in
    let announced : suc n ≡ content_size (cast_signed w32 (number_from w32 file start)) = ap content_size size in
    let entry = Limited-entry file most Long (u.place + suc n) (λ at lt. (lt, inl refl)) (λ at lt. (omega (arith, lt), inr (omega (arith, lt, place, announced)))) in
    either-then Long (within (suc n) entry_at (limited (Some most)) u) (within (suc n) entry_at (limited None) u) _ _ (entry.same u is) (λ x e. inl refl)
record-same (negsuc n) most file start u is place size =
    let Long = IsLong most file start in
    let hole = Limited-called file most Long None fields.Hole (next_octets_at None (suc n)) (Limited-piece file most Long None (suc n)) in
    either-then Long (called fields.Hole (next_octets_at None (suc n)) (limited (Some most)) u) (called fields.Hole (next_octets_at None (suc n)) (limited None) u) _ _ (hole.same u is) (λ x e. inl refl)

record-stays : (z : ℤ) (file : List ℕ) (u t : Source) (x : Next) → IsOf file u → record_of z (limited None) u ≡ Ok (x, t) → IsOf file t
record-stays (pos zero) file u t x is e = subst (λ (p : Next × Source). IsOf file p.1) (ok_is (nexts.Done stops.Zero, u) (x, t) e) is
record-stays (pos (suc n)) file u t x is e =
    let a = and_then-ok (within (suc n) entry_at (limited None) u) (λ p. done (nexts.Item (records.Entry p.0), p.1)) (x, t) e in
    let entry = Limited-entry file 0 (λ at size. Unit {0}) (u.place + suc n) (λ at lt. tt) (λ at lt. tt) in
    subst (λ (p : Next × Source). IsOf file p.1) (ok_is (nexts.Item (records.Entry a.0.0), a.0.1) (x, t) a.2) (entry.stays u a.0.0 a.0.1 is a.1)
record-stays (negsuc n) file u t x is e =
    let a = and_then-ok (called fields.Hole (next_octets_at None (suc n)) (limited None) u) (λ p. done (nexts.Item (records.Hole (record { size = suc n; clean = are_zero p.0 })), p.1)) (x, t) e in
    let hole = Limited-called file 0 (λ at size. Unit {0}) None fields.Hole (next_octets_at None (suc n)) (Limited-piece file 0 (λ at size. Unit {0}) None (suc n)) in
    subst (λ (p : Next × Source). IsOf file p.1) (ok_is _ (x, t) a.2) (hole.stays u a.0.0 a.0.1 is a.1)

next-same : (most : ℕ) (file : List ℕ) (place : ℕ) (octets : List ℕ) → IsOf file (at place octets) → IsSameOrTooLong (IsLong most file place) (record_at (limited (Some most)) (at place octets)) (record_at (limited None) (at place octets))
next-same most file place [] is = inl refl
next-same most file place (octet ∷ octets) is =
    let s = at place (octet ∷ octets) in
    let Long = IsLong most file place in
    let size = Limited-called file most Long None fields.Length (signed_at w32) (Limited-signed file most Long None w32) in
    begun-same Long place (either-then Long (called fields.Length (signed_at w32) (limited (Some most)) s) (called fields.Length (signed_at w32) (limited None) s) (λ p. record_of p.0 (limited (Some most)) p.1) (λ p. record_of p.0 (limited None) p.1) (size.same s is)
    (λ x e.
    let n = signed-is file w32 (limited None) s x.1 x.0 is (refused_at-ok (with_name fields.Length) (signed_at w32 (limited None) s) x e) in
    record-same x.0 most file place x.1 (size.stays s x.0 x.1 is e) n.1 n.0))

next-stays : (file : List ℕ) (place : ℕ) (octets : List ℕ) (t : Source) (x : Next) → IsOf file (at place octets) → record_at (limited None) (at place octets) ≡ Ok (x, t) → IsOf file t
next-stays file place [] t x is e = subst (λ (p : Next × Source). IsOf file p.1) (ok_is (nexts.Done stops.File, at place []) (x, t) e) is
next-stays file place (octet ∷ octets) t x is e =
    let s = at place (octet ∷ octets) in
    let a = and_then-ok (called fields.Length (signed_at w32) (limited None) s) (λ p. record_of p.0 (limited None) p.1) (x, t) (begun_at-ok place _ (x, t) e) in
    let size = Limited-called file 0 (λ at size. Unit {0}) None fields.Length (signed_at w32) (Limited-signed file 0 (λ at size. Unit {0}) None w32) in
    record-stays a.0.0 file a.0.1 t x (size.stays s a.0.0 a.0.1 is a.1) a.2

-- what a limit leaves of the records of a source
record Cuts (most : ℕ) (file : List ℕ) (s : Source) (under whole : Records) : Type 0 where
  body : List ℕ
  rest : List ℕ
  spelled : RecordsSpell under.items body
  parts : s.octets ≡ body ++ rest
  others : List Record
  records : whole.items ≡ under.items ++ others
  fault : Fault
  end : under.end ≡ Err fault
  long_by : ℕ
  reason : fault.why ≡ why.TooLong long_by
  begin : fault.begin ≡ s.place + length body
  long : IsLong most file (s.place + length body) fault.place long_by

Cuts-here : (most : ℕ) (file : List ℕ) (s : Source) (others : Source → Records) (whole : Records) (r : Result (Next × Source) Fault) → IsTooLong (IsLong most file s.place) r → ((f : Fault) → r ≡ Err f → f.begin ≡ s.place) → Cuts most file s (items_from r others) whole
Cuts-here most file s others whole r l begins =
    let none : List ℕ = [] in
    let start : s.place ≡ s.place + length none = omega arith in
    subst (λ (x : Result (Next × Source) Fault). Cuts most file s (items_from x others) whole) (sym l.is) (record {
      body = [];
      rest = s.octets;
      spelled = refl;
      parts = refl;
      others = whole.items;
      records = refl;
      fault = l.fault;
      end = refl;
      long_by = l.size;
      reason = l.reason;
      begin = begins l.fault l.is ∙ start;
      long = subst (λ (k : ℕ). IsLong most file k l.fault.place l.size) start l.long;
    })

Cuts-item : (most : ℕ) (file : List ℕ) (limit : Option ℕ) (s t : Source) (r : Record) (under whole : Records) → RecordRead limit s t (nexts.Item r) → Cuts most file t under whole → Cuts most file s (with_first r under) (with_first r whole)
Cuts-item most file limit s t r under whole first cut =
    let place : t.place + length cut.body ≡ s.place + length (first.0 ++ cut.body) = omega (arith, first.2.place, length-append first.0 cut.body) in
    record {
      body = first.0 ++ cut.body;
      rest = cut.rest;
      spelled = (first.0, cut.body, refl, first.1, cut.spelled);
      parts = first.2.parts ∙ ap (λ (x : List ℕ). first.0 ++ x) cut.parts ∙ simp append_assoc;
      others = cut.others;
      records = ap (λ (x : List Record). r ∷ x) cut.records;
      fault = cut.fault;
      end = cut.end;
      long_by = cut.long_by;
      reason = cut.reason;
      begin = cut.begin ∙ place;
      long = subst (λ (k : ℕ). IsLong most file k cut.fault.place cut.long_by) place cut.long;
    }

cuts-step : (most : ℕ) (file : List ℕ) (s : Source) (under whole : Source → Records) → ((t : Source) → AreOctets t.octets → IsOf file t → (under t ≡ whole t) ⊎ Cuts most file t (under t) (whole t))
    → (r : Result (Next × Source) Fault) → ((x : Next) (t : Source) → r ≡ Ok (x, t) → RecordRead None s t x × IsOf file t) → (items_from r under ≡ items_from r whole) ⊎ Cuts most file s (items_from r under) (items_from r whole)
cuts-step most file s under whole rest (Err f) sound = inl refl
cuts-step most file s under whole rest (Ok (nexts.Done stop, t)) sound = inl refl
cuts-step most file s under whole rest (Ok (nexts.Item r, t)) sound = either (rest t first.0.2.fits first.1)
  where
    first : RecordRead None s t (nexts.Item r) × IsOf file t
    first = sound (nexts.Item r) t refl

    either : (under t ≡ whole t) ⊎ Cuts most file t (under t) (whole t) → (with_first r (under t) ≡ with_first r (whole t)) ⊎ Cuts most file s (with_first r (under t)) (with_first r (whole t))
    either (inl e) = inl (ap (with_first r) e)
    either (inr cut) = inr (Cuts-item most file None s t r (under t) (whole t) first.0 cut)

cuts-either : (most : ℕ) (file : List ℕ) (s : Source) (under whole : Source → Records) (r w : Result (Next × Source) Fault) → IsSameOrTooLong (IsLong most file s.place) r w → ((f : Fault) → r ≡ Err f → f.begin ≡ s.place) → (items_from w under ≡ items_from w whole) ⊎ Cuts most file s (items_from w under) (items_from w whole)
    → (items_from r under ≡ items_from w whole) ⊎ Cuts most file s (items_from r under) (items_from w whole)
cuts-either most file s under whole r w (inl e) begins step = subst (λ (x : Result (Next × Source) Fault). (items_from x under ≡ items_from w whole) ⊎ Cuts most file s (items_from x under) (items_from w whole)) (sym e) step
cuts-either most file s under whole r w (inr l) begins step = inr (Cuts-here most file s under (items_from w whole) r l begins)

items-cut : (bound most : ℕ) (file : List ℕ) (s : Source) → AreOctets s.octets → IsOf file s → (items_within bound (Some most) s ≡ items_within bound None s) ⊎ Cuts most file s (items_within bound (Some most) s) (items_within bound None s)
items-cut zero most file s fits is = inl refl
items-cut (suc bound) most file s fits is =
    cuts-either most file s (items_within bound (Some most)) (items_within bound None) (record_at (limited (Some most)) s) (record_at (limited None) s) (next-same most file s.place s.octets is)
    (λ f h. record-begin (limited (Some most)) s.place s.octets f h)
    (cuts-step most file s (items_within bound (Some most)) (items_within bound None) (items-cut bound most file) (record_at (limited None) s) (λ x t h. (record-sound None s.place s.octets t x fits h, next-stays file s.place s.octets t x is h)))

after-version : (most : ℕ) (file : List ℕ) (t : Source) (under whole : Records) → file ≡ 5 ∷ 2 ∷ t.octets → t.place ≡ 2 → (under ≡ whole) ⊎ Cuts most file t under whole → (under ≡ whole) ⊎ AreCut most file under whole
after-version most file t under whole parts place (inl e) = inl e
after-version most file t under whole parts place (inr cut) =
    inr (record {
      size = 2 + length cut.body;
      first = first-of file t under.items cut.body cut.rest parts cut.spelled cut.parts;
      others = cut.others;
      records = cut.records;
      fault = cut.fault;
      end = cut.end;
      octets = cut.long_by;
      reason = cut.reason;
      begin = cut.begin ∙ ap (λ (k : ℕ). k + length cut.body) place;
      long = subst (λ (k : ℕ). IsLong most file (k + length cut.body) cut.fault.place cut.long_by) place cut.long;
    })

pub limits-add : (most : ℕ) (file : List ℕ) → AreOctets file → (items (Some most) file ≡ items None file) ⊎ AreCut most file (items (Some most) file) (items None file)
limits-add most file fits = go (version_at (2 ∷ []) (limited None) (source_of file)) refl
  where
    go : (r : Result (ℕ × Source) Fault) → version_at (2 ∷ []) (limited None) (source_of file) ≡ r
        → (after_version r (items_after (Some most)) ≡ after_version r (items_after None)) ⊎ AreCut most file (after_version r (items_after (Some most))) (after_version r (items_after None))
    go (Err f) e = inl refl
    go (Ok (v, t)) e =
        let opening = version-one 2 (limited None) (source_of file) t v fits (inside_file None 0) e in
        let version = Limited-version file most (λ at size. Unit {0}) None (2 ∷ []) in
        after-version most file t (items_after (Some most) t) (items_after None t) opening.0.parts opening.0.place
        (items-cut (length t.octets) most file t opening.0.fits (version.stays (source_of file) v t (record { octets = refl }) e))
