-- Keytabs that differ in octets of a hole have one listing, but for the hole's line.
use Rattle.std.proofs.Common.{◌≡◌, ℕ, zero, suc, ◌+◌, ◌-◌, ◌^◌, ◌<◌, ◌≤◌, inl, inr, Bool, true, false, negsuc, Option, None, Result, Ok, List, [], ◌∷◌, ◌++◌, length, take, drop, refl, sym, ◌∙◌, ap, ap₂, subst, arith, append_assoc, append-nil, length-append, take-append-drop}
use Rattle.std.specs.Prelude.{◌⊎◌, nat_lt}
use Rattle.std.proofs.Math.Seq.{drop-append-add}
use Rattle.std.proofs.lemmas.Grind.{flat_map-append}
use Rattle.std.specs.Int.{w32}
use Rattle.std.specs.Int.RustNames.{FitsSigned}
use Rattle.std.specs.List.{flat_map}
use Rattle.krb_der.specs.Octets.{when}
use Rattle.krb_file.specs.Fields.{signed, Source, Fault, limited, and_then, with_name, refused, refused_at, begun_at, are_zero}
use Rattle.krb_file.specs.Items.{with_first}
use Rattle.krb_file.specs.declared.field_name.FieldName.TheVariants as fields
use Rattle.krb_source.specs.declared.file_why.FileWhy.TheVariants as why
use Rattle.krb_file.proofs.Fields.{at, Reads-signed}
use Rattle.krb_file_laws.proofs.FileLimits.{bounded}
use Rattle.krb_file_laws.proofs.KeytabKeyOctets.{whole_record_at, record_at-some, Stable-some, items-opened}
use Rattle.krb_file_laws.proofs.Stable.{IsReadBefore, Read, Fails}
use Rattle.krb_keytab.specs.Reading.{Records, items, items_from, items_within, record_at, record_of}
use Rattle.krb_keytab.specs.Spelling.{RecordSpells, RecordsSpell}
use Rattle.krb_keytab.specs.declared.reading.Next.{Next}
use Rattle.krb_keytab.specs.declared.reading.Next.TheVariants as nexts
use Rattle.krb_keytab.specs.declared.value.Record.{Record}
use Rattle.krb_keytab.specs.declared.value.Record.TheVariants as records
use Rattle.krb_keytab.proofs.RecordSpellings.{inside_file, record-again, spelled-some}
use Rattle.krb_file.specs.declared.field_path.FileItem.TheVariants as places
use Rattle.krb_record.specs.Labels.{Label}
use Rattle.krb_run.specs.Records.{end_of}
use Rattle.krb_file_run.specs.Files.{field_limit, keytab_last, keytab_listing, records_listing}
use Rattle.krb_file_run.specs.Lines.{record_line}
use Rattle.krb_tool_laws.specs.Holes.{AreSameButLine, IsUpToHole, hole_line}

-- ---- records that are the same but for one
record DifferInRecord (r other : Record) (one another : Records) : Type 0 where
  before : List Record
  after : List Record
  items : one.items ≡ before ++ r ∷ after
  others : another.items ≡ before ++ other ∷ after
  end : one.end ≡ another.end

abbrev AreButOne : (r other : Record) → (one another : Records) → Type 0
AreButOne r other one another = (one ≡ another) ⊎ DifferInRecord r other one another

but-first : (first r other : Record) (one another : Records) → AreButOne r other one another → AreButOne r other (with_first first one) (with_first first another)
but-first first r other one another (inl e) = inl (ap (with_first first) e)
but-first first r other one another (inr d) = inr (record {
  before = first ∷ d.before;
  after = d.after;
  items = ap (λ (x : List Record). first ∷ x) d.items;
  others = ap (λ (x : List Record). first ∷ x) d.others;
  end = d.end;
})

-- ---- a hole
-- what the octets after the length of a hole are read as
abbrev hole_in : ℕ → List ℕ → Record
hole_in size octets = records.Hole (record { size = size; clean = are_zero (take size octets) })

-- what is read at a hole of n + 1 octets, of which too few may be there
abbrev octets_taken : (n place : ℕ) → (short : Bool) → List ℕ → Result (List ℕ × Source) Fault
octets_taken n place short octets = when short (λ _. refused (at (place + 4) octets) why.Truncated) (λ _. Ok (take (suc n) octets, at (place + 4 + suc n) (drop (suc n) octets)))

abbrev taken : (n place : ℕ) → (short : Bool) → List ℕ → Result (Next × Source) Fault
taken n place short octets =
    begun_at place (and_then (refused_at (with_name fields.Hole) (octets_taken n place short octets)) (λ p. Ok (nexts.Item (records.Hole (record { size = suc n; clean = are_zero p.0 })), p.1)))

hole-read : (limit : Option ℕ) (n place : ℕ) (octets : List ℕ) → suc n ≤ 2 ^ 31 → record_at (limited limit) (at place (signed w32 (negsuc n) ++ octets)) ≡ taken n place (nat_lt (length octets) (suc n)) octets
hole-read limit n place octets le =
    let fits : FitsSigned w32 (negsuc n) = record { sfits = omega (arith, le) } in
    ap (λ r. begun_at place (and_then (refused_at (with_name fields.Length) r) (λ p. record_of p.0 (limited limit) p.1))) (Reads-signed.again (limited None) place octets (negsuc n) fits refl (inside_file None (place + 4)))

module _ (n : ℕ) (le : suc n ≤ 2 ^ 31) (limit : Option ℕ) (octets other : List ℕ) (long : length octets ≡ length other) (after : drop (suc n) octets ≡ drop (suc n) other) where
  -- what is read of these octets is what is read of the others, but for the hole
  abbrev Same : (one another : Records) → Type 0
  Same one another = AreButOne (hole_in (suc n) octets) (hole_in (suc n) other) one another

  same-as : (one another x y : Records) → x ≡ one → y ≡ another → Same one another → Same x y
  same-as one another x y e f h = subst (λ a. Same a y) (sym e) (subst (λ b. Same one b) (sym f) h)

  hole-taken : (place : ℕ) (others : Source → Records) (short : Bool) → Same (items_from (taken n place short octets) others) (items_from (taken n place short other) others)
  hole-taken place others true = inl refl
  hole-taken place others false = inr (record {
    before = [];
    after = (others (at (place + 4 + suc n) (drop (suc n) octets))).items;
    items = refl;
    others = ap (λ rest. hole_in (suc n) other ∷ (others (at (place + 4 + suc n) rest)).items) (sym after);
    end = ap (λ rest. (others (at (place + 4 + suc n) rest)).end) after;
  })

  -- the octets of the file from a place on, up to the hole's octets
  abbrev from : (before : List ℕ) → (rest : List ℕ) → List ℕ
  from before rest = before ++ (signed w32 (negsuc n) ++ rest)

  at-hole : (bound place : ℕ) → Same (items_within bound limit (at place (from [] octets))) (items_within bound limit (at place (from [] other)))
  at-hole zero place = inl refl
  at-hole (suc bound) place =
      let others = items_within bound limit in
      let short : Bool = nat_lt (length octets) (suc n) in
      same-as (items_from (taken n place short octets) others) (items_from (taken n place short other) others) _ _ (ap (λ r. items_from r others) (hole-read limit n place octets le))
      (ap (λ r. items_from r others) (hole-read limit n place other le ∙ ap (λ k. taken n place (nat_lt k (suc n)) other) (sym long))) (hole-taken place others short)

  -- after a record
  one_more : (r : Record) (bound place : ℕ) (body prefix suffix : List ℕ) → body ≡ prefix ++ suffix → RecordSpells r prefix
      → Same (items_within bound limit (at (place + length prefix) (from suffix octets))) (items_within bound limit (at (place + length prefix) (from suffix other)))
      → Same (items_within (suc bound) limit (at place (from body octets))) (items_within (suc bound) limit (at place (from body other)))
  one_more r bound place body prefix suffix parts spelled later = by (Stable-some.stable None limit place prefix (nexts.Item r) (at next []) read)
    where
      next : ℕ
      next = place + length prefix

      others : Source → Records
      others = items_within bound limit

      some : 0 < length prefix
      some = spelled-some r prefix spelled

      read : whole_record_at (limited None) (at place prefix) ≡ Ok (nexts.Item r, at next [])
      read = ap (λ x. whole_record_at (limited None) (at place x)) (sym (append-nil prefix)) ∙ sym (record_at-some (limited None) place prefix [] some) ∙ record-again r prefix place [] spelled

      first : (rest : List ℕ) → items_within (suc bound) limit (at place (body ++ rest)) ≡ items_from (whole_record_at (limited limit) (at place (prefix ++ (suffix ++ rest)))) others
      first rest =
          ap (λ x. items_from (record_at (limited limit) (at place x)) others) (ap (λ x. x ++ rest) parts ∙ append_assoc prefix suffix rest)
          ∙ ap (λ x. items_from x others) (record_at-some (limited limit) place prefix (suffix ++ rest) some)

      by : IsReadBefore whole_record_at (bounded None limit) place prefix (nexts.Item r) (at next []) → Same (items_within (suc bound) limit (at place (from body octets))) (items_within (suc bound) limit (at place (from body other)))
      by (Fails f e) =
          inl (first (from [] octets) ∙ ap (λ x. items_from x others) (e (from suffix octets)) ∙ sym (first (from [] other) ∙ ap (λ x. items_from x others) (e (from suffix other))))
      by (Read e) =
          same-as (with_first r (others (at next (from suffix octets)))) (with_first r (others (at next (from suffix other)))) _ _ (first (from [] octets) ∙ ap (λ x. items_from x others) (e (from suffix octets)))
          (first (from [] other) ∙ ap (λ x. items_from x others) (e (from suffix other)))
          (but-first r (hole_in (suc n) octets) (hole_in (suc n) other) (others (at next (from suffix octets))) (others (at next (from suffix other))) later)

  -- and after records
  after-records : (found : List Record) (bound place : ℕ) (body : List ℕ) → RecordsSpell found body → Same (items_within bound limit (at place (from body octets))) (items_within bound limit (at place (from body other)))
  after-records found zero place body spelled = inl refl
  after-records [] (suc bound) place body spelled =
      subst (λ b. Same (items_within (suc bound) limit (at place (from b octets))) (items_within (suc bound) limit (at place (from b other)))) (sym spelled) (at-hole (suc bound) place)
  after-records (r ∷ found) (suc bound) place body spelled =
      one_more r bound place body spelled.0 spelled.1 spelled.2 spelled.3 (after-records found bound (place + length spelled.0) spelled.1 spelled.4)

-- ---- a file
-- octets that begin with those of a hole, or with a part of them, are as many after it
same-after : (size : ℕ) (hole other after : List ℕ) → length hole ≤ size → length other ≡ length hole → drop size (hole ++ after) ≡ drop size (other ++ after)
same-after size hole other after le len =
    let whole = λ (octets : List ℕ) (same : length octets ≡ length hole).
    ap (λ k. drop k (octets ++ after)) (omega (arith, le, same)) ∙ drop-append-add octets after (size - length hole) in
    whole hole refl ∙ sym (whole other len)

hole-same : (limit : Option ℕ) (before hole other after : List ℕ) (size : ℕ) → IsUpToHole before size → length hole ≤ size → length other ≡ length hole
    → AreButOne (hole_in size (hole ++ after)) (hole_in size (other ++ after)) (items limit (before ++ (hole ++ after))) (items limit (before ++ (other ++ after)))
hole-same limit before hole other after zero up le len = absurd (omega (arith, up.range.0))
hole-same limit before hole other after (suc n) up le len =
    let body : List ℕ = up.first.spelled.0 in
    let before_is : before ≡ 5 ∷ 2 ∷ (body ++ signed w32 (negsuc n)) =
    sym (take-append-drop up.start before) ∙ ap (λ x. x ++ drop up.start before) (up.first.spelled.2 ∙ ap (λ x. 5 ∷ 2 ∷ x) (append-nil body)) ∙ ap (λ x. 5 ∷ 2 ∷ (body ++ x)) up.announced in
    let file = λ (rest : List ℕ).
    ap (λ x. items limit (x ++ rest)) before_is ∙ ap (λ x. items limit (5 ∷ 2 ∷ x)) (append_assoc body (signed w32 (negsuc n)) rest) ∙ items-opened limit (body ++ (signed w32 (negsuc n) ++ rest)) in
    let long : length (hole ++ after) ≡ length (other ++ after) = omega (arith, length-append hole after, length-append other after, len) in
    let counted = λ (rest : List ℕ). length-append body (signed w32 (negsuc n) ++ rest) in
    let bound : length (body ++ (signed w32 (negsuc n) ++ (hole ++ after))) ≡ length (body ++ (signed w32 (negsuc n) ++ (other ++ after))) =
    omega (arith, counted (hole ++ after), counted (other ++ after), length-append (signed w32 (negsuc n)) (hole ++ after), length-append (signed w32 (negsuc n)) (other ++ after), long) in
    same-as n up.range.1 limit (hole ++ after) (other ++ after) long (same-after (suc n) hole other after le len) _ _ _ _ (file (hole ++ after))
    (file (other ++ after) ∙ ap (λ k. items_within k limit (at 2 (body ++ (signed w32 (negsuc n) ++ (other ++ after))))) (sym bound))
    (after-records n up.range.1 limit (hole ++ after) (other ++ after) long (same-after (suc n) hole other after le len) up.records (length (body ++ (signed w32 (negsuc n) ++ (hole ++ after)))) 2 body up.first.spelled.1)

-- ---- its listing
records-listed : (label : Label) (r other : Record) (one another : Records) → AreButOne r other one another → AreSameButLine (record_line label r) (record_line label other) (records_listing label one) (records_listing label another)
records-listed label r other one another (inl e) = inl (ap (records_listing label) e)
records-listed label r other one another (inr d) = inr (record {
  before = flat_map (record_line label) d.before;
  after = flat_map (record_line label) d.after;
  lines = ap (flat_map (record_line label)) d.items ∙ flat_map-append (record_line label) d.before (r ∷ d.after);
  others = ap (flat_map (record_line label)) d.others ∙ flat_map-append (record_line label) d.before (other ∷ d.after);
  last = ap₂ (λ count end. keytab_last label count end) (omega (arith, ap length d.items, ap length d.others, length-append d.before (r ∷ d.after), length-append d.before (other ∷ d.after))) d.end;
  end = ap₂ (λ count end. end_of (places.Record count) end) (omega (arith, ap length d.items, ap length d.others, length-append d.before (r ∷ d.after), length-append d.before (other ∷ d.after))) d.end;
})

pub hole-listed : (label : Label) (before hole other after : List ℕ) (size : ℕ) → IsUpToHole before size → length hole ≤ size → length other ≡ length hole
    → AreSameButLine (hole_line label size (are_zero (take size (hole ++ after)))) (hole_line label size (are_zero (take size (other ++ after)))) (keytab_listing label (before ++ (hole ++ after))) (keytab_listing label (before ++ (other ++ after)))
unfolding keytab_listing
hole-listed label before hole other after size up le len =
    records-listed label (hole_in size (hole ++ after)) (hole_in size (other ++ after)) (items field_limit (before ++ (hole ++ after))) (items field_limit (before ++ (other ++ after))) (hole-same field_limit before hole other after size up le len)
