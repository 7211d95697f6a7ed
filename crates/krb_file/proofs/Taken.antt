-- Octets that a reader of fields takes from its source, piece by piece.
use Rattle.std.proofs.Common.{◌≡◌, ℕ, suc, ◌+◌, ◌-◌, ◌<◌, ◌≤◌, Bool, true, false, ◌&&◌, ◌==◌, ltb, Option, Some, None, Result, Ok, List, [], ◌∷◌, ◌++◌, length, take, refl, sym, ◌∙◌, ap, ap₂, subst, arith, append-nil, append_assoc, length-append, length-take, take-take, zero, nat_eq, eqb→eq, le-ltb, lt-ltb, drop_at}
use Rattle.std.proofs.Math.Dec.{eqb-suc-zero}
use Rattle.std.proofs.lemmas.List.{take_at}
use Rattle.std.proofs.lemmas.Slice.{take-put_mid}
use lib.Dec.{T}
use borrow.Rule.Slice.PartMut.{put_mid}
use Rattle.std.specs.Io.KnownBytes.{Consumes, IsAtEnd}
use Rattle.krb_file.specs.Fields.{Source, Fault, Bounds, fault_of, exceeds, and_then, succeed, is_empty, next_octets_at, octets_at, are_zero}
use Rattle.krb_file.specs.FieldReaders.{Cursor, BeginsWith, MayRemain, left_of, HasRead, HasMet, FailsBy, ended_at, skipped_at}
use Rattle.krb_file.specs.inner.Takes.{Takes, FallsShort, FailsTaking, AreNear}
use Rattle.krb_file.specs.declared.fault.FileFault.{FileFault}
use Rattle.krb_file.specs.declared.fault.FileFault.TheVariants as faults
use Rattle.krb_source.specs.declared.file_why.FileWhy.TheVariants as why
use Rattle.krb_file.proofs.FieldReaders.{some_rest, skipped}

pub Takes-none : (cursor : Cursor) → Takes cursor cursor []
Takes-none cursor = record { same_bounds = refl; place = omega arith; from = λ rest there. there }

pub Takes-then : (had now left : Cursor) (x y : List ℕ) → Takes had now x → Takes now left y → Takes had left (x ++ y)
Takes-then had now left x y p q = record {
  same_bounds = q.same_bounds ∙ p.same_bounds;
  place = omega (arith, p.place, q.place, length-append x y);
  from = λ rest there. subst (MayRemain had) (sym (append_assoc x y rest)) (p.from (y ++ rest) (q.from rest there));
}

-- a device returned octets
device_gave : (old new : Option (List ℕ)) (taken rest : List ℕ) → Consumes old new taken → BeginsWith [] new rest → BeginsWith [] old (taken ++ rest)
device_gave None new taken rest c there = (taken ++ rest, refl)
device_gave (Some xs) None taken rest c there = absurd c
device_gave (Some xs) (Some ys) taken rest c there = ap (λ (o : List ℕ). taken ++ o) there ∙ sym c

pub Takes-device : (old new : Option (List ℕ)) (place : ℕ) (bounds : Bounds) (taken : List ℕ) → Consumes old new taken
    → Takes (record { ahead = []; left = old; place = place; bounds = bounds }) (record { ahead = []; left = new; place = place + length taken; bounds = bounds }) taken
Takes-device old new place bounds taken c = record { same_bounds = refl; place = refl; from = λ rest there. device_gave old new taken rest c there }

-- a device is at its end
pub ended_left : (old new : Option (List ℕ)) (taken : List ℕ) → Consumes old new taken → taken ≡ [] → IsAtEnd new → Consumes old (Some []) []
ended_left None new taken c none end = tt
ended_left (Some xs) None taken c none end = absurd c
ended_left (Some xs) (Some ys) taken c none end = c ∙ ap (λ (o : List ℕ). o ++ ys) none ∙ end

-- octets that were fetched ahead
ahead_gave : (taken ahead : List ℕ) (left : Option (List ℕ)) (rest : List ℕ) → BeginsWith ahead left rest → BeginsWith (taken ++ ahead) left (taken ++ rest)
ahead_gave taken ahead None rest there = (there.0, ap (λ (o : List ℕ). taken ++ o) there.1 ∙ sym (append_assoc taken ahead there.0))
ahead_gave taken ahead (Some known) rest there = ap (λ (o : List ℕ). taken ++ o) there ∙ sym (append_assoc taken ahead known)

pub Takes-ahead : (had ahead taken : List ℕ) (left : Option (List ℕ)) (place count : ℕ) (bounds : Bounds) → had ≡ taken ++ ahead → length taken ≡ count
    → Takes (record { ahead = had; left = left; place = place; bounds = bounds }) (record { ahead = ahead; left = left; place = place + count; bounds = bounds }) taken
Takes-ahead had ahead taken left place count bounds is long =
    rw (is, sym long) (record { same_bounds = refl; place = refl; from = λ rest there. ahead_gave taken ahead left rest there })

asked : (old new : Option (List ℕ)) (place count : ℕ) (bounds : Bounds) (buffer : List ℕ) (none : Bool) → nat_eq count 0 ≡ none → count ≤ length buffer → Consumes old new (take count buffer) → (count ≡ 0 → IsAtEnd new)
    → Takes (record { ahead = []; left = old; place = place; bounds = bounds }) (record { ahead = []; left = left_of none new; place = place + count; bounds = bounds }) (take count buffer)
asked old new place count bounds buffer false is few c end =
    subst (λ (k : ℕ). Takes (record { ahead = []; left = old; place = place; bounds = bounds }) (record { ahead = []; left = new; place = place + k; bounds = bounds }) (take count buffer)) (omega (arith, length-take count buffer, few)) (Takes-device old new place bounds (take count buffer) c)
asked old new place count bounds buffer true is few c end =
    let zero : count ≡ 0 = eqb→eq count 0 (subst (λ (b : Bool). T b) (sym is) tt) in
    let nothing : take count buffer ≡ [] = ap (λ (k : ℕ). take k buffer) zero in
    let is_at_end_of = ended_left old new (take count buffer) c nothing (end zero) in
    rw zero (subst (λ (k : ℕ). Takes (record { ahead = []; left = old; place = place; bounds = bounds }) (record { ahead = []; left = Some []; place = k; bounds = bounds }) []) (omega arith) (Takes-device old (Some []) place bounds [] is_at_end_of))

pub Takes-asked : (old new : Option (List ℕ)) (before : Bool) (ahead : List ℕ) (place count : ℕ) (bounds : Bounds) (buffer : List ℕ) → before ≡ false → ahead ≡ [] → count ≤ length buffer → Consumes old new (take count buffer) → (count ≡ 0 → IsAtEnd new)
    → Takes (record { ahead = ahead; left = left_of before old; place = place; bounds = bounds }) (record { ahead = ahead; left = left_of (nat_eq count 0) new; place = place + count; bounds = bounds }) (take count buffer)
Takes-asked old new before ahead place count bounds buffer going none few c end = rw (going, none) (asked old new place count bounds buffer (nat_eq count 0) refl few c end)

-- ---- octets that are fetched ahead of their fields
pub none_long : (xs : List ℕ) → length xs ≡ 0 → xs ≡ []
none_long [] e = refl
none_long (x ∷ xs) e = absurd (omega (arith, e))

no_octet : (xs : List ℕ) (count : ℕ) → count ≡ length xs → nat_eq count 0 ≡ true → xs ≡ []
no_octet xs count is none = none_long xs (sym is ∙ eqb→eq count 0 (subst (λ (b : Bool). T b) (sym none) tt))

seen_so : (old new : Option (List ℕ)) (seen : List ℕ) (none : Bool) (rest : List ℕ) → (none ≡ true → seen ≡ []) → Consumes old new seen → (seen ≡ [] → IsAtEnd new) → BeginsWith seen (left_of none new) rest → BeginsWith [] old rest
seen_so None new seen none rest few c end there = (rest, refl)
seen_so (Some xs) None seen none rest few c end there = absurd c
seen_so (Some xs) (Some ys) seen false rest few c end there = there ∙ sym c
seen_so (Some xs) (Some ys) seen true rest few c end there = there ∙ ap (λ (o : List ℕ). seen ++ o) (sym (end (few refl))) ∙ sym c

pub Takes-seen : (old new : Option (List ℕ)) (before : Bool) (ahead seen : List ℕ) (place count : ℕ) (bounds : Bounds) → before ≡ false → ahead ≡ [] → count ≡ length seen → Consumes old new seen → (seen ≡ [] → IsAtEnd new)
    → Takes (record { ahead = ahead; left = left_of before old; place = place; bounds = bounds }) (record { ahead = seen; left = left_of (nat_eq count 0) new; place = place; bounds = bounds }) []
Takes-seen old new before ahead seen place count bounds going none is c end =
    rw (going, none) (record { same_bounds = refl; place = omega arith; from = λ rest there. seen_so old new seen (nat_eq count 0) rest (no_octet seen count is) c end there })

-- ---- whether any octet is left
is_at_end_of : (octets rest : List ℕ) (left : Option (List ℕ)) (count : ℕ) → count ≡ length octets → (octets ≡ [] → left ≡ Some []) → BeginsWith octets left rest → nat_eq count 0 ≡ is_empty rest
is_at_end_of [] rest left count is end there = let nothing : rest ≡ [] = rw (end refl) at there in rw (is, nothing) refl
is_at_end_of (o ∷ octets) rest None count is end there = rw (is, there.1) (eqb-suc-zero (length octets))
is_at_end_of (o ∷ octets) rest (Some known) count is end there = rw (is, there) (eqb-suc-zero (length octets))

pub empty-read : (old new : Cursor) (count : ℕ) → Takes old new [] → (new.ahead ≡ [] → new.left ≡ Some []) → count ≡ length new.ahead → HasRead ended_at (nat_eq count 0) old new
empty-read old new count same end is = record {
  same_bounds = same.same_bounds;
  from = λ rest there.
      let place : old.place ≡ new.place = omega (arith, same.place) in
      (rest, same.from rest there, rw (place, is_at_end_of new.ahead rest new.left count is end there) refl);
}

-- nothing was read
pub nothing-read : (old new : Cursor) → Takes old new [] → HasRead (succeed (tt {0})) (tt {0}) old new
nothing-read old new same = record {
  same_bounds = same.same_bounds;
  from = λ rest there. let place : old.place ≡ new.place = omega (arith, same.place) in (rest, same.from rest there, rw place refl);
}

-- ---- what the definition reads from the octets that were taken
abbrev bound_by : Cursor → Bounds
bound_by cursor = cursor.bounds

pub piece-read : (limit : Option ℕ) (size : ℕ) (octets : List ℕ) (old new : Cursor) → exceeds (old.place + size) old.bounds.end ≡ false → exceeds size limit ≡ false → Takes old new octets → length octets ≡ size → HasRead (next_octets_at limit size) octets old new
piece-read limit size octets old new inside under taken long = record {
  same_bounds = taken.same_bounds;
  from = λ rest there.
      let enough : ltb (length (octets ++ rest)) size ≡ false = le-ltb _ _ (omega (arith, length-append octets rest)) in
      let place : new.place ≡ old.place + size = omega (arith, taken.place) in
      (octets ++ rest, taken.from rest there, rw (inside, under, enough, take_at octets rest size long, drop_at octets rest size long, place) refl);
}

pub piece-overruns : (limit : Option ℕ) (size : ℕ) (old : Cursor) → exceeds (old.place + size) old.bounds.end ≡ true → HasMet (next_octets_at limit size) (fault_of old.place why.Overrun) old
piece-overruns limit size old past = let a = some_rest old in record { octets = a.rest; there = a.there; refused = rw past refl }

pub piece-too_long : (limit : Option ℕ) (size : ℕ) (old : Cursor) → exceeds (old.place + size) old.bounds.end ≡ false → exceeds size limit ≡ true → HasMet (next_octets_at limit size) (fault_of old.place (why.TooLong size)) old
piece-too_long limit size old inside over = let a = some_rest old in record { octets = a.rest; there = a.there; refused = rw (inside, over) refl }

pub piece-short : (limit : Option ℕ) (size : ℕ) (taken : List ℕ) (old now : Cursor) → exceeds (old.place + size) old.bounds.end ≡ false → exceeds size limit ≡ false → Takes old now taken → MayRemain now [] → length taken < size → HasMet (next_octets_at limit size) (fault_of old.place why.Truncated) old
piece-short limit size taken old now inside under took end short =
    let few : ltb (length taken) size ≡ true = lt-ltb _ _ short in
    record { octets = taken; there = subst (MayRemain old) (append-nil taken) (took.from [] end); refused = rw (inside, under, few) refl }

take_over : (prefix suffix : List ℕ) (m n : ℕ) → m ≡ length prefix + n → take m (prefix ++ suffix) ≡ prefix ++ take n suffix
take_over [] suffix m n is = ap (λ (k : ℕ). take k suffix) (omega (arith, is))
take_over (x ∷ prefix) suffix zero n is = absurd (omega (arith, is))
take_over (x ∷ prefix) suffix (suc m) n is = ap (λ (o : List ℕ). x ∷ o) (take_over prefix suffix m n (omega (arith, is)))

-- a buffer of which more is filled
pub record Fills (had left : Cursor) (octets : List ℕ) (filled : ℕ) : Type 0 where
  pub within : filled ≤ length octets
  pub taken : Takes had left (take filled octets)

pub Fills-more : (had now left : Cursor) (octets piece : List ℕ) (filled count : ℕ) → Fills had now octets filled → length piece ≡ length octets - filled → count ≤ length piece → Takes now left (take count piece) → Fills had left (put_mid filled (length octets - filled) octets piece) (filled + count)
Fills-more had now left octets piece filled count before long few gave =
    let whole = put_mid filled (length octets - filled) octets piece in
    let all : take (filled + length piece) whole ≡ take filled octets ++ piece = take-put_mid filled (length octets - filled) octets piece (filled + length piece) refl before.within in
    let prefix : length (take filled octets) ≡ filled = omega (arith, length-take filled octets, before.within) in
    let same : take (filled + count) whole ≡ take filled octets ++ take count piece =
    sym (take-take (filled + count) (filled + length piece) whole (omega (arith, few))) ∙ ap (take (filled + count)) all ∙ take_over (take filled octets) piece (filled + count) count (omega (arith, prefix)) in
    record {
      within = omega (arith, ap length same, length-take (filled + count) whole, length-append (take filled octets) (take count piece), prefix, length-take count piece, few);
      taken = subst (Takes had left) (sym same) (Takes-then had now left (take filled octets) (take count piece) before.taken gave);
    }

-- no octet came before a buffer was full
pub falls_short : (start filled count size : ℕ) (octets piece : List ℕ) (had now left : Cursor) → Fills had now octets filled → filled < size → Takes now left (take count piece) → count ≡ 0 → (count ≡ 0 → MayRemain left []) → FailsTaking (faults.Refused (fault_of start why.Truncated)) start had left size
falls_short start filled count size octets piece had now left before few gave none end =
    let nothing : take count piece ≡ [] = ap (λ (k : ℕ). take k piece) none in
    let all : take filled octets ++ [] ≡ take filled octets = append-nil (take filled octets) in (
      refl,
      record {
        taken = take filled octets;
        took = subst (Takes had left) all (Takes-then had now left (take filled octets) [] before.taken (subst (Takes now left) nothing gave));
        end = end none;
        short = omega (arith, length-take filled octets, before.within, few);
      },
    )

truncated : (limit : Option ℕ) (size start k : ℕ) (fault : Fault) (taken : List ℕ) (old now left : Cursor) → start ≡ old.place → exceeds (old.place + size) old.bounds.end ≡ false → exceeds size limit ≡ false → Takes old now taken → length taken + k ≤ size
    → fault ≡ fault_of start why.Truncated → FallsShort now left k → HasMet (next_octets_at limit size) fault old
truncated limit size start k fault taken old now left begins inside under took fits is short =
    let whole = Takes-then old now left taken short.taken took short.took in
    rw (is, begins) (piece-short limit size (taken ++ short.taken) old left inside under whole short.end (omega (arith, length-append taken short.taken, short.short, fits)))

pub taking-fails : (e : FileFault) (limit : Option ℕ) (size start k : ℕ) (taken : List ℕ) (old now left : Cursor) → start ≡ old.place → exceeds (old.place + size) old.bounds.end ≡ false → exceeds size limit ≡ false → Takes old now taken → length taken + k ≤ size
    → FailsTaking e start now left k → FailsBy e (next_octets_at limit size) (Unit {0}) old
taking-fails faults.Read limit size start k taken old now left begins inside under took fits fails = tt
taking-fails faults.Memory limit size start k taken old now left begins inside under took fits fails = tt
taking-fails (faults.Refused fault) limit size start k taken old now left begins inside under took fits fails =
    truncated limit size start k fault taken old now left begins inside under took fits fails.0 fails.1

-- ---- the same of a field of octets, under its limit
met : (size : ℕ) (fault : Fault) (old : Cursor) → HasMet (next_octets_at old.bounds.limit size) fault old → HasMet (octets_at size) fault old
met size fault old m = record { octets = m.octets; there = m.there; refused = m.refused }

fails_so : (e : FileFault) (size : ℕ) (old : Cursor) → FailsBy e (next_octets_at old.bounds.limit size) (Unit {0}) old → FailsBy e (octets_at size) (Unit {0}) old
fails_so faults.Read size old f = tt
fails_so faults.Memory size old f = tt
fails_so (faults.Refused fault) size old f = met size fault old f

pub octets-fails : (e : FileFault) (size start k : ℕ) (taken : List ℕ) (old now left : Cursor) → start ≡ old.place → exceeds (old.place + size) old.bounds.end ≡ false → exceeds size old.bounds.limit ≡ false → Takes old now taken → length taken + k ≤ size
    → FailsTaking e start now left k → FailsBy e (octets_at size) (Unit {0}) old
octets-fails e size start k taken old now left begins inside under took fits fails = fails_so e size old (taking-fails e old.bounds.limit size start k taken old now left begins inside under took fits fails)

pub octets-refused : (e : FileFault) (size : ℕ) (most : Option ℕ) (old : Cursor) → old.bounds.limit ≡ most → FailsBy e (next_octets_at most size) (Unit {0}) old → FailsBy e (octets_at size) (Unit {0}) old
octets-refused e size most old is f = fails_so e size old (subst (λ (m : Option ℕ). FailsBy e (next_octets_at m size) (Unit {0}) old) (sym is) f)

pub octets-read : (size : ℕ) (octets : List ℕ) (old new : Cursor) → exceeds (old.place + size) old.bounds.end ≡ false → exceeds size old.bounds.limit ≡ false → Takes old new octets → length octets ≡ size → HasRead (octets_at size) octets old new
octets-read size octets old new inside under taken long =
    let p = piece-read old.bounds.limit size octets old new inside under taken long in
    record { same_bounds = p.same_bounds; from = λ rest there. p.from rest there }

-- ---- octets that are skipped
pub record Passes (had left : Cursor) (zeros : Bool) (rest size : ℕ) : Type 0 where
  pub taken : List ℕ
  pub took : Takes had left taken
  pub are_so : zeros ≡ are_zero taken
  pub counted : length taken + rest ≡ size

are_zero-append : (xs ys : List ℕ) → are_zero (xs ++ ys) ≡ (are_zero xs && are_zero ys)
are_zero-append [] ys = refl
are_zero-append (x ∷ xs) ys = ap (λ (b : Bool). (x == 0) && b) (are_zero-append xs ys) ∙ and-assoc (x == 0) (are_zero xs) (are_zero ys)
  where
    and-assoc : (a b c : Bool) → (a && (b && c)) ≡ ((a && b) && c)
    and-assoc true b c = refl
    and-assoc false b c = refl

pub Passes-start : (had : Cursor) (size : ℕ) → Passes had had true size size
Passes-start had size = record { taken = []; took = Takes-none had; are_so = refl; counted = omega arith }

pub Passes-more : (had now left : Cursor) (zeros more : Bool) (rest part size : ℕ) (piece : List ℕ) → Passes had now zeros rest size → Takes now left piece → length piece ≡ part → part ≤ rest → more ≡ are_zero piece → Passes had left (zeros && more) (rest - part) size
Passes-more had now left zeros more rest part size piece p took long few is = record {
  taken = p.taken ++ piece;
  took = Takes-then had now left p.taken piece p.took took;
  are_so = ap₂ (λ (a b : Bool). a && b) p.are_so is ∙ sym (are_zero-append p.taken piece);
  counted = omega (arith, length-append p.taken piece, long, few, p.counted);
}

pub skip-read : (size rest : ℕ) (zeros : Bool) (old new : Cursor) → exceeds (old.place + size) old.bounds.end ≡ false → Passes old new zeros rest size → rest ≡ 0 → HasRead (skipped_at size) zeros old new
skip-read size rest zeros old new inside p none = skipped size p.taken zeros old new p.are_so (piece-read None size p.taken old new inside refl p.took (omega (arith, p.counted, none)))

skip-met : (size : ℕ) (fault : Fault) (old : Cursor) → HasMet (next_octets_at None size) fault old → HasMet (skipped_at size) fault old
skip-met size fault old m = record { octets = m.octets; there = m.there; refused = ap (λ (r : Result (List ℕ × Source) Fault). and_then r (λ p. given (are_zero p.0, p.1))) m.refused }
  where
    given : Bool × Source → Result (Bool × Source) Fault
    given x = Ok x

pub skip-refused : (e : FileFault) (size : ℕ) (old : Cursor) → FailsBy e (next_octets_at None size) (Unit {0}) old → FailsBy e (skipped_at size) (Unit {0}) old
skip-refused faults.Read size old f = tt
skip-refused faults.Memory size old f = tt
skip-refused (faults.Refused fault) size old f = skip-met size fault old f

pub skip-fails : (e : FileFault) (size start k rest : ℕ) (zeros : Bool) (old now left : Cursor) → start ≡ old.place → exceeds (old.place + size) old.bounds.end ≡ false → Passes old now zeros rest size → k ≤ rest → FailsTaking e start now left k → FailsBy e (skipped_at size) (Unit {0}) old
skip-fails e size start k rest zeros old now left begins inside p few fails = skip-refused e size old (taking-fails e None size start k p.taken old now left begins inside refl p.took (omega (arith, p.counted, few)) fails)

-- ---- fields that were fetched ahead, inside the end and under the limit
pub near-left : (near count ahead rest place : ℕ) (end : Option ℕ) (most : ℕ) → AreNear near ahead place end most → count < near → ahead ≡ count + rest → AreNear (near - count) rest (place + count) end most
near-left near count ahead rest place end most are few is = λ size fewer.
    let at = are (count + size) (omega (arith, few, fewer)) in
    let after : place + (count + size) ≡ place + count + size = omega arith in
    (omega (arith, at.0, is), subst (λ (k : ℕ). exceeds k end ≡ false) after at.1, omega (arith, at.2))

pub near-read : (limit : Option ℕ) (near size count : ℕ) (had ahead octets : List ℕ) (left : Option (List ℕ)) (place : ℕ) (end : Option ℕ) (most : ℕ) → AreNear near (length had) place end most → size < near → exceeds size limit ≡ false → had ≡ octets ++ ahead → length octets ≡ size → length octets ≡ count
    → HasRead (next_octets_at limit size) octets (record { ahead = had; left = left; place = place; bounds = record { end = end; limit = Some most } }) (record { ahead = ahead; left = left; place = place + count; bounds = record { end = end; limit = Some most } })
near-read limit near size count had ahead octets left place end most are few under is long counted =
    let bounds : Bounds = record { end = end; limit = Some most } in
    piece-read limit size octets (record { ahead = had; left = left; place = place; bounds = bounds }) (record { ahead = ahead; left = left; place = place + count; bounds = bounds }) (are size few).1 under (Takes-ahead had ahead octets left place count bounds is counted) long

pub near-octets : (near size : ℕ) (had ahead octets : List ℕ) (left : Option (List ℕ)) (place : ℕ) (end : Option ℕ) (most : ℕ) → AreNear near (length had) place end most → size < near → had ≡ octets ++ ahead → length octets ≡ size
    → HasRead (octets_at size) octets (record { ahead = had; left = left; place = place; bounds = record { end = end; limit = Some most } }) (record { ahead = ahead; left = left; place = place + size; bounds = record { end = end; limit = Some most } })
near-octets near size had ahead octets left place end most are few is long =
    let p = near-read (Some most) near size size had ahead octets left place end most are few (le-ltb _ _ (are size few).2) is long long in
    record { same_bounds = p.same_bounds; from = λ rest there. p.from rest there }
