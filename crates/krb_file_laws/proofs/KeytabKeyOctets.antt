-- Keytabs that differ in octets of a key: all else is read alike.
use Rattle.std.proofs.Common.{◌≡◌, ℕ, zero, suc, ◌+◌, ◌<◌, ◌≤◌, ℤ, pos, negsuc, Option, Some, None, Result, Ok, Err, List, [], ◌∷◌, ◌++◌, length, drop, refl, sym, ◌∙◌, ap, subst, arith, append_assoc, length-append, take-append-drop}
use Rattle.std.proofs.lemmas.List.{append-nil}
use Rattle.std.specs.Int.{w8, w16, w32}
use Rattle.krb_file.specs.Fields.{Source, Fault, Bounds, limited, Reader, and_then, ◌>>=◌, succeed, with_name, refused_at, called, one_part, next_octets_at, number_at, signed_at, counted_at, names_at, rest_at, within, zeros, are_zero}
use Rattle.krb_file.specs.declared.field_name.FieldName.TheVariants as fields
use Rattle.krb_file.proofs.Fields.{at, done, and_then-ok, version-again}
use Rattle.krb_file_laws.proofs.FileLimits.{bounded}
use Rattle.krb_file.proofs.Steps.{signed-shorter}
use Rattle.krb_file_laws.proofs.Stable.{Stable, Stable-then, Stable-succeed, Stable-called, Stable-one_part, Stable-piece, Stable-number, Stable-signed, Stable-counted, Stable-names, Stable-rest, Stable-within, IsAlike, masked_read, alike, alike-then, alike-one_part, IsSame, same-then, same-last, field-alike}
use Rattle.krb_keytab.specs.declared.value.Record.{Record}
use Rattle.krb_keytab.specs.declared.value.Record.TheVariants as records
use Rattle.krb_keytab.specs.declared.reading.Next.{Next}
use Rattle.krb_keytab.specs.declared.reading.Next.TheVariants as nexts
use Rattle.krb_keytab.specs.declared.value.Stop.TheVariants as stops
use Rattle.krb_keytab.specs.declared.value.Entry.{Entry}
use Rattle.krb_keytab.specs.Spelling.{RecordsSpell, masked_record}
use Rattle.krb_file.specs.Items.{no_items, with_first}
use Rattle.krb_keytab.specs.Reading.{entry_at, record_of, record_at, Records, items_from, items_within, items_after, after_version, items}
use Rattle.krb_keytab.specs.Laws.{key_size_at, IsUpToKey, masked_items}
use Rattle.krb_keytab.proofs.RecordSpellings.{record-again, spelled-some}

-- ---- an entry
abbrev masked_entry : Entry → Entry
masked_entry e = record e { key = zeros (length e.key) }

-- what follows the octets of the key
abbrev with_key : (List ℕ → List ℕ → Entry) → List ℕ → Reader Entry
with_key make key = called fields.Rest rest_at >>= λ rest. succeed (make key rest)

rest-same : (make : List ℕ → List ℕ → Entry) → ((v w rest : List ℕ) → length v ≡ length w → masked_entry (make v rest) ≡ masked_entry (make w rest)) → (v w : List ℕ) → length v ≡ length w → IsSame masked_entry (with_key make v) (with_key make w)
rest-same make same v w l = same-then (called fields.Rest rest_at) _ _ (λ rest. same-last (make v rest) (make w rest) (same v w rest l))

entry-alike : (end : Option ℕ) (place : ℕ) (octets : List ℕ) (size : ℕ) (t : Source) (key other after : List ℕ) → key_size_at (bounded end None) (at place octets) ≡ Ok (size, t) → t.octets ≡ [] → length key ≤ size → length other ≡ length key
    → IsAlike masked_entry entry_at end place octets (key ++ after) (other ++ after)
entry-alike end place octets size t key other after e none le len =
    let b = bounded end None in
    let a = and_then-ok (names_at w16 b (at place octets)) _ (size, t) e in
    let c = and_then-ok (called fields.NameType (signed_at w32) b a.0.1) _ (size, t) a.2 in
    let d = and_then-ok (called fields.Timestamp (number_at w32) b c.0.1) _ (size, t) c.2 in
    let f = and_then-ok (called fields.KeyVersion (number_at w8) b d.0.1) _ (size, t) d.2 in
    let g = and_then-ok (called fields.Enctype (number_at w16) b f.0.1) _ (size, t) f.2 in
    alike-then (names_at w16) _ (Stable-names w16) a.0.0 a.0.1 a.1
    (alike-then (called fields.NameType (signed_at w32)) _ (Stable-called fields.NameType (signed_at w32) (Stable-signed w32)) c.0.0 c.0.1 c.1
    (alike-then (called fields.Timestamp (number_at w32)) _ (Stable-called fields.Timestamp (number_at w32) (Stable-number w32)) d.0.0 d.0.1 d.1
    (alike-then (called fields.KeyVersion (number_at w8)) _ (Stable-called fields.KeyVersion (number_at w8) (Stable-number w8)) f.0.0 f.0.1 f.1
    (alike-then (called fields.Enctype (number_at w16)) _ (Stable-called fields.Enctype (number_at w16) (Stable-number w16)) g.0.0 g.0.1 g.1
    (field-alike masked_entry w16 fields.Key (with_key (λ key rest. record { realm = a.0.0.realm; components = a.0.0.components; name_type = c.0.0; time = d.0.0; vno8 = f.0.0; enctype = g.0.0; key = key; rest = rest })) (rest-same _ (λ v w rest l. rw l refl)) end g.0.1.place g.0.1.octets size t key other after g.2 none le len)))))

-- ---- a record
abbrev masked_next : Next → Next
masked_next (nexts.Item r) = nexts.Item (masked_record r)
masked_next (nexts.Done stop) = nexts.Done stop

-- an entry as a record
abbrev entry_next : Result (Entry × Source) Fault → Result (Next × Source) Fault
entry_next r = and_then r (λ p. done (nexts.Item (records.Entry p.0), p.1))

entry_next-masked : (r : Result (Entry × Source) Fault) → masked_read masked_next (entry_next r) ≡ entry_next (masked_read masked_entry r)
entry_next-masked (Ok p) = refl
entry_next-masked (Err f) = refl

within-alike : (content : ℕ) (u : Source) (size : ℕ) (t : Source) (key other after : List ℕ) → within (suc content) key_size_at (limited None) u ≡ Ok (size, t) → t.octets ≡ [] → length key ≤ size → length other ≡ length key
    → IsAlike masked_next (record_of (pos (suc content))) None u.place u.octets (key ++ after) (other ++ after)
within-alike content u size t key other after e none le len = record {
  same = λ limit.
      let entry = entry-alike (Some (u.place + suc content)) u.place u.octets size t key other after e none le len in
      entry_next-masked (entry_at (bounded (Some (u.place + suc content)) limit) (at u.place (u.octets ++ (key ++ after))))
      ∙ ap entry_next (entry.same limit)
      ∙ sym (entry_next-masked (entry_at (bounded (Some (u.place + suc content)) limit) (at u.place (u.octets ++ (other ++ after)))));
}

-- ---- records
-- what is made of the next record, its key masked
abbrev masked_from : Result (Next × Source) Fault → (Source → Records) → Records
masked_from (Err f) others = no_items (Err f)
masked_from (Ok (nexts.Done stop, t)) others = no_items (Ok (stop, t.place))
masked_from (Ok (nexts.Item r, t)) others = with_first r (masked_items (others t))

items_from-masked : (r : Result (Next × Source) Fault) (others : Source → Records) → masked_items (items_from r others) ≡ masked_from (masked_read masked_next r) others
items_from-masked (Err f) others = refl
items_from-masked (Ok (nexts.Done stop, t)) others = refl
items_from-masked (Ok (nexts.Item r, t)) others = refl

-- a record, if there is an octet of it
abbrev pub whole_record_at : Reader Next
whole_record_at = one_part (called fields.Length (signed_at w32) >>= record_of)

pub record_at-some : (bounds : Bounds) (place : ℕ) (octets others : List ℕ) → 0 < length octets → record_at bounds (at place (octets ++ others)) ≡ whole_record_at bounds (at place (octets ++ others))
record_at-some bounds place [] others some = absurd (omega arith)
record_at-some bounds place (octet ∷ octets) others some = refl

Stable-entry : Stable entry_at
Stable-entry =
    Stable-then (names_at w16) _ (Stable-names w16) (λ names.
    Stable-then (called fields.NameType (signed_at w32)) _ (Stable-called fields.NameType (signed_at w32) (Stable-signed w32)) (λ name_type.
    Stable-then (called fields.Timestamp (number_at w32)) _ (Stable-called fields.Timestamp (number_at w32) (Stable-number w32)) (λ time.
    Stable-then (called fields.KeyVersion (number_at w8)) _ (Stable-called fields.KeyVersion (number_at w8) (Stable-number w8)) (λ vno8.
    Stable-then (called fields.Enctype (number_at w16)) _ (Stable-called fields.Enctype (number_at w16) (Stable-number w16)) (λ enctype.
    Stable-then (called fields.Key (counted_at w16)) _ (Stable-called fields.Key (counted_at w16) (Stable-counted w16)) (λ key.
    Stable-then (called fields.Rest rest_at) _ (Stable-called fields.Rest rest_at Stable-rest) (λ rest. Stable-succeed (record { realm = names.realm; components = names.components; name_type = name_type; time = time; vno8 = vno8; enctype = enctype; key = key; rest = rest }))))))))

Stable-record_of : (z : ℤ) → Stable (record_of z)
Stable-record_of (pos zero) = Stable-succeed (nexts.Done stops.Zero)
Stable-record_of (pos (suc n)) = Stable-then (within (suc n) entry_at) _ (Stable-within (suc n) entry_at Stable-entry) (λ entry. Stable-succeed (nexts.Item (records.Entry entry)))
Stable-record_of (negsuc n) = Stable-then (called fields.Hole (next_octets_at None (suc n))) _ (Stable-called fields.Hole (next_octets_at None (suc n)) (Stable-piece (suc n))) (λ octets. Stable-succeed (nexts.Item (records.Hole (record { size = suc n; clean = are_zero octets }))))

pub Stable-some : Stable whole_record_at
Stable-some = Stable-one_part (called fields.Length (signed_at w32) >>= record_of) (Stable-then (called fields.Length (signed_at w32)) record_of (Stable-called fields.Length (signed_at w32) (Stable-signed w32)) Stable-record_of)

-- records, and then one of which octets of the key differ
some-alike : (bound : ℕ) (limit : Option ℕ) (place : ℕ) (octets after other : List ℕ) → 0 < length octets → IsAlike masked_next whole_record_at None place octets after other
    → masked_items (items_within (suc bound) limit (at place (octets ++ after))) ≡ masked_items (items_within (suc bound) limit (at place (octets ++ other)))
some-alike bound limit place octets after other some same =
    let others = items_within bound limit in
    let is = λ (rest : List ℕ). record_at-some (limited limit) place octets rest some in
    items_from-masked (record_at (limited limit) (at place (octets ++ after))) others
    ∙ ap (λ (r : Result (Next × Source) Fault). masked_from (masked_read masked_next r) others) (is after)
    ∙ ap (λ (r : Result (Next × Source) Fault). masked_from r others) (same.same limit)
    ∙ ap (λ (r : Result (Next × Source) Fault). masked_from (masked_read masked_next r) others) (sym (is other))
    ∙ sym (items_from-masked (record_at (limited limit) (at place (octets ++ other))) others)

items-alike : (found : List Record) (bound : ℕ) (limit : Option ℕ) (place : ℕ) (body octets after other : List ℕ) → RecordsSpell found body → 0 < length octets → IsAlike masked_next whole_record_at None (place + length body) octets after other
    → masked_items (items_within bound limit (at place (body ++ (octets ++ after)))) ≡ masked_items (items_within bound limit (at place (body ++ (octets ++ other))))
items-alike found zero limit place body octets after other spelled some same = refl
items-alike [] (suc bound) limit place body octets after other spelled some same =
    let here = subst (λ (k : ℕ). IsAlike masked_next whole_record_at None k octets after other) (omega (arith, ap length spelled)) same in
    subst (λ (b : List ℕ). masked_items (items_within (suc bound) limit (at place (b ++ (octets ++ after)))) ≡ masked_items (items_within (suc bound) limit (at place (b ++ (octets ++ other))))) (sym spelled) (some-alike bound limit place octets after other some here)
items-alike (r ∷ found) (suc bound) limit place body octets after other spelled some same =
    let prefix = spelled.0 in
    let suffix = spelled.1 in
    let there : 0 < length prefix = spelled-some r prefix spelled.3 in
    let others = items_within bound limit in
    let next : ℕ = place + length prefix in
    let parts = λ (rest : List ℕ). ap (λ (x : List ℕ). x ++ (octets ++ rest)) spelled.2 ∙ append_assoc prefix suffix (octets ++ rest) in
    let is = λ (rest : List ℕ). ap (λ (x : List ℕ). record_at (limited limit) (at place x)) (parts rest) ∙ record_at-some (limited limit) place prefix (suffix ++ (octets ++ rest)) there in
    let read : whole_record_at (limited None) (at place prefix) ≡ Ok (nexts.Item r, at next []) =
    ap (λ (x : List ℕ). whole_record_at (limited None) (at place x)) (sym (append-nil prefix)) ∙ sym (record_at-some (limited None) place prefix [] there) ∙ record-again r prefix place [] spelled.3 in
    let length_is : place + length body ≡ next + length suffix = omega (arith, ap length spelled.2, length-append prefix suffix) in
    let later = items-alike found bound limit next suffix octets after other spelled.4 some (subst (λ (k : ℕ). IsAlike masked_next whole_record_at None k octets after other) length_is same) in
    ap (λ (x : Result (Next × Source) Fault). masked_items (items_from x others)) (is after)
    ∙ alike (λ (x : Result (Next × Source) Fault). masked_items (items_from x others)) whole_record_at Stable-some None limit place prefix (nexts.Item r) (at next []) (suffix ++ (octets ++ after)) (suffix ++ (octets ++ other)) read
    (ap (with_first (masked_record r)) later)
    ∙ ap (λ (x : Result (Next × Source) Fault). masked_items (items_from x others)) (sym (is other))

-- ---- a file
pub items-opened : (limit : Option ℕ) (octets : List ℕ) → items limit (5 ∷ 2 ∷ octets) ≡ items_within (length octets) limit (at 2 octets)
items-opened limit octets = ap (λ (r : Result (ℕ × Source) Fault). after_version r (items_after limit)) (version-again (2 ∷ []) (limited limit) octets 2 (omega arith) refl refl)

pub keys-alone : (limit : Option ℕ) (before key other after : List ℕ) (size : ℕ) → IsUpToKey before size → length key ≤ size → length other ≡ length key → masked_items (items limit (before ++ (key ++ after))) ≡ masked_items (items limit (before ++ (other ++ after)))
keys-alone limit before key other after size up le len =
    let body = up.first.spelled.0 in
    let octets = drop up.start before in
    let start : up.start ≡ 2 + length body = omega (arith, ap length up.first.spelled.2, up.first.there, ap length (append-nil body)) in
    let before_is : before ≡ 5 ∷ 2 ∷ (body ++ octets) = sym (take-append-drop up.start before) ∙ ap (λ (x : List ℕ). x ++ octets) (up.first.spelled.2 ∙ ap (λ (x : List ℕ). 5 ∷ 2 ∷ x) (append-nil body)) in
    let file = λ (rest : List ℕ). ap (λ (x : List ℕ). items limit (x ++ rest)) before_is ∙ ap (λ (x : List ℕ). items limit (5 ∷ 2 ∷ x)) (append_assoc body octets rest) ∙ items-opened limit (body ++ (octets ++ rest)) in
    let some : 0 < length octets = omega (arith, signed-shorter (limited None) (at up.start octets) (pos (suc up.content)) up.after up.announced) in
    let size_is : called fields.Length (signed_at w32) (limited None) (at up.start octets) ≡ Ok (pos (suc up.content), up.after) = ap (refused_at (with_name fields.Length)) up.announced in
    let here = alike-one_part (called fields.Length (signed_at w32) >>= record_of) (alike-then (called fields.Length (signed_at w32)) record_of (Stable-called fields.Length (signed_at w32) (Stable-signed w32)) (pos (suc up.content)) up.after size_is (within-alike up.content up.after size up.end key other after up.fields up.all le len)) in
    let there = subst (λ (k : ℕ). IsAlike masked_next whole_record_at None k octets (key ++ after) (other ++ after)) start here in
    let lengths : length (body ++ (octets ++ (key ++ after))) ≡ length (body ++ (octets ++ (other ++ after))) = omega (arith, length-append body (octets ++ (key ++ after)), length-append octets (key ++ after), length-append key after, length-append body (octets ++ (other ++ after)), length-append octets (other ++ after), length-append other after) in
    ap masked_items (file (key ++ after))
    ∙ items-alike up.records (length (body ++ (octets ++ (key ++ after)))) limit 2 body octets (key ++ after) (other ++ after) up.first.spelled.1 some there
    ∙ ap (λ (n : ℕ). masked_items (items_within n limit (at 2 (body ++ (octets ++ (other ++ after)))))) lengths
    ∙ ap masked_items (sym (file (other ++ after)))
