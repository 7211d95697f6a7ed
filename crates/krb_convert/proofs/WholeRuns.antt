-- A run on one message.
use Rattle.std.proofs.Common.{◌≡◌, ℕ, ◌+◌, ◌-◌, ◌<◌, ◌≤◌, true, false, List, [], ◌++◌, length, take, drop, Option, Some, None, Result, Ok, Err, IfErr, refl, sym, ◌∙◌, ap, subst, arith, append-nil, length-append, length-take, length-drop, take-append-drop}
use Rattle.std.proofs.KnownBytes.{Consumes-trans}
use Rattle.std.specs.Io.KnownBytes.{Consumes, Appends, Keeps}
use Rattle.std.specs.Prelude.{nat_lt}
use Rattle.std.proofs.lemmas.Bool.Decides.{nat_tests}
use Rattle.krb_der.specs.Octets.{when}
use Rattle.krb_der.specs.declared.profile.Profile.{Profile}
use Rattle.krb_der.specs.declared.verdict.Refusal.{Refusal}
use Rattle.krb_der.specs.declared.why.Why.TheVariants.{TooLong}
use Rattle.krb_judge.specs.Parses.{refusal_of}
use Rattle.krb_run.specs.Runs.{StopsInPiece}
use Rattle.krb_convert.specs.Decoding.{Refusing, message_decoded, decoded_whole, DecodesWhole, FailsToDecodeWhole, ReadsMost}
use Rattle.krb_run.specs.Records.{AppendsPrefix}
use Rattle.krb_run.specs.Faults.{IsWrite}
use Rattle.krb_run.specs.Files.{ReadsSome}
use Rattle.krb_run.specs.declared.run.RunFault.{RunFault}
use Rattle.krb_run.specs.declared.run.RunFault.TheVariants as fault
use Rattle.krb_convert.specs.declared.whole_run.MessageLine.{MessageLine}
use Rattle.krb_run.specs.Transfers.{ReturnsOctets}
use Rattle.krb_convert.specs.inner.WholeRuns.{converted_of}

-- ---- a message
-- octets that are too many
pub whole-long : (profile : Profile) (limit : ℕ) (octets : List ℕ) → nat_lt limit (length octets) ≡ true → decoded_whole profile limit octets ≡ record { text = []; end = Refusing 0 (record { place = 0; why = TooLong }) None }
unfolding decoded_whole
whole-long profile limit octets e = λ i. when (e i) (λ _. record { text = []; end = Refusing 0 (record { place = 0; why = TooLong }) None }) (λ _. message_decoded profile octets (refusal_of profile octets))

-- and others
pub whole-short : (profile : Profile) (limit : ℕ) (octets : List ℕ) (found : Option Refusal) → nat_lt limit (length octets) ≡ false → found ≡ refusal_of profile octets → decoded_whole profile limit octets ≡ message_decoded profile octets found
unfolding decoded_whole
whole-short profile limit octets found e f = (λ i. when (e i) (λ _. record { text = []; end = Refusing 0 (record { place = 0; why = TooLong }) None }) (λ _. message_decoded profile octets (sym f i)))

-- ---- what was read
pub some-room : (size : ℕ) → size ≡ 65536 → 0 < size
some-room size e = omega (arith, e)

pub ReadsMost-ended : (had left after : Option (List ℕ)) (octets piece : List ℕ) (most room : ℕ) → Consumes had left octets → ReturnsOctets left after piece room → piece ≡ [] → 0 < room → length octets ≤ most → ReadsMost had after most octets
ReadsMost-ended had left after octets piece most room taken given none some few = record {
  taken = subst (Consumes had after) (ap (λ l. octets ++ l) none ∙ append-nil octets) (Consumes-trans had left after octets piece taken given.taken);
  few = few;
  ended = λ less. given.ended none some;
}

pub ReadsMost-full : (had left : Option (List ℕ)) (octets : List ℕ) (most : ℕ) → Consumes had left octets → length octets ≤ most → most ≤ length octets → ReadsMost had left most octets
ReadsMost-full had left octets most taken few full = record { taken = taken; few = few; ended = λ less. absurd (omega (arith, less, full)) }

pub nothing_few : (most : ℕ) → 0 ≤ most
nothing_few most = omega arith

pub taken_few : (kept piece : List ℕ) (count size most : ℕ) → size ≤ most - length kept → length kept ≤ most → count ≤ size → length (kept ++ take count piece) ≤ most
taken_few kept piece count size most room few within = omega (arith, room, few, within, length-append kept (take count piece), length-take count piece)

-- ---- what a run did
whole-stops : (limit : ℕ) (read : List ℕ) → length read ≤ limit + 1 → StopsInPiece (λ octets. length octets ≤ limit) read
whole-stops limit read few = record {
  prefix = take limit read;
  piece = drop limit read;
  parts = sym (take-append-drop limit read);
  goes_on = omega (arith, length-take limit read);
  short = omega (arith, length-drop limit read, few);
}

pub DecodesWhole-made : (profile : Profile) (limit : ℕ) (had left written_before written_after : Option (List ℕ)) (octets : List ℕ) (line : MessageLine) → ReadsMost had left (limit + 1) octets → Appends written_before written_after line.text.items → converted_of line ≡ decoded_whole profile limit octets → DecodesWhole profile limit had left written_before written_after line.end
DecodesWhole-made profile limit had left written_before written_after octets line r a e = record {
  converts = record {
    read = octets;
    taken = r.taken;
    added = subst (Appends written_before written_after) (ap (λ c. c.text) e) a;
    ended_so = ap (λ c. c.end) e;
    all_read = λ few. r.ended (omega (arith, few));
    stops = whole-stops limit octets r.few;
  };
  few = r.few;
}

-- no write failed, and nothing was written
keeps_written : (written : Option (List ℕ)) → Keeps written written
keeps_written None = tt
keeps_written (Some octets) = refl

pub whole-unwritten : {T : Type 0} (r : Result T RunFault) (profile : Profile) (limit : ℕ) (had left written : Option (List ℕ)) → IfErr r (λ e. IsWrite e → ⊥) → ReadsSome had left → IfErr r (FailsToDecodeWhole profile limit had left written written)
whole-unwritten (Ok x) profile limit had left written never some = tt
whole-unwritten (Err (fault.Read e)) profile limit had left written never some = record { taken = some; kept = keeps_written written }
whole-unwritten (Err (fault.Write e)) profile limit had left written never some = absurd (never tt)
whole-unwritten (Err fault.Memory) profile limit had left written never some = record { taken = some; kept = keeps_written written }

-- out of memory is no failed write, nor is a failed read
pub no_write : {T : Type 0} (r : Result T RunFault) → IfErr r (λ e. e ≡ fault.Memory) → IfErr r (λ e. IsWrite e → ⊥)
no_write (Ok x) memory = tt
no_write (Err e) memory = λ is. subst IsWrite memory is

-- a write failed
pub whole-written : {T : Type 0} (r : Result T RunFault) (profile : Profile) (limit : ℕ) (had left written_before written_after : Option (List ℕ)) (octets : List ℕ) (line : MessageLine) → IfErr r IsWrite → Consumes had left octets → AppendsPrefix written_before written_after line.text.items → converted_of line ≡ decoded_whole profile limit octets → IfErr r (FailsToDecodeWhole profile limit had left written_before written_after)
whole-written (Ok x) profile limit had left written_before written_after octets line is taken f e = tt
whole-written (Err (fault.Read x)) profile limit had left written_before written_after octets line is taken f e = absurd is
whole-written (Err fault.Memory) profile limit had left written_before written_after octets line is taken f e = absurd is
whole-written (Err (fault.Write x)) profile limit had left written_before written_after octets line is taken f e = record {
  read = octets;
  text = line.text.items;
  taken = taken;
  is_text = ap (λ c. c.text) e;
  added = f;
}

-- ---- a refusal
pub is_long : (limit got size : ℕ) → got ≡ limit → got < size → nat_lt limit size ≡ true
is_long limit got size e l = let less : limit < size = omega (arith, e, l) in grind (arith, nat_tests)

pub is_short : (limit got size : ℕ) → got ≡ limit → size ≤ got → nat_lt limit size ≡ false
is_short limit got size e l = let few : size ≤ limit = omega (arith, e, l) in grind (arith, nat_tests)
