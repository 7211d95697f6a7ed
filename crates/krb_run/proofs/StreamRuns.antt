-- A run over a stream, piece by piece, whatever lists it.
use Rattle.std.proofs.Common.{◌≡◌, ℕ, ◌+◌, ◌^◌, ◌<◌, ◌≤◌, inl, inr, Bool, true, false, List, [], ◌++◌, length, take, Option, Result, Ok, Err, IfErr, refl, sym, ◌∙◌, ap, subst, arith, append-nil, append_assoc}
use Rattle.std.proofs.lemmas.List.{take_at}
use Rattle.std.specs.Io.KnownBytes.{Consumes, Appends, Keeps}
use Rattle.std.proofs.KnownBytes.{Consumes-nil, Consumes-trans, Consumes-kept, Appends-nil, Appends-trans}
use Rattle.krb_run.specs.Faults.{IsRead, IsWrite}
use Rattle.krb_run.specs.Records.{AppendsPrefix}
use Rattle.krb_run.specs.Runs.{WritesPrefix}
use Rattle.krb_run.specs.Streams.{Rules, with_piece, with_lines, Listing, IsNew, AcceptsPiece, Feeds, Clears, MayFinish, Finishes, FailsBy, Runs, IsOver, RunsOn, Reads, FailsToRead, ListsBy}
use Rattle.krb_run.specs.Transfers.{ReturnsOctets}
use Rattle.krb_run.specs.declared.run.RunFault.{RunFault}
use Rattle.krb_run.specs.declared.run.RunFault.TheVariants as fault

-- a vector whose slice was written holds what the slice holds
pub written-slice : (n : ℕ) (slice rest now : List ℕ) → now ≡ take n (slice ++ rest) → length slice ≡ n → slice ≡ now
written-slice n slice rest now e l = sym (e ∙ take_at slice rest n l)

-- ---- the beginning of a text
AppendsPrefix-after : (written_before written_after after : Option (List ℕ)) (written text : List ℕ) → Appends written_before written_after written → AppendsPrefix written_after after text → AppendsPrefix written_before after (written ++ text)
AppendsPrefix-after written_before written_after after written text a f = record {
  prefix = written ++ f.prefix;
  rest = f.rest;
  added = Appends-trans written_before written_after after written f.prefix a f.added;
  whole = ap (λ t. written ++ t) f.whole ∙ sym (append_assoc written f.prefix f.rest);
}

AppendsPrefix-longer : (written_before written_after : Option (List ℕ)) (text more : List ℕ) → AppendsPrefix written_before written_after text → AppendsPrefix written_before written_after (text ++ more)
AppendsPrefix-longer written_before written_after text more f = record {
  prefix = f.prefix;
  rest = f.rest ++ more;
  added = f.added;
  whole = ap (λ t. t ++ more) f.whole ∙ append_assoc f.prefix f.rest more;
}

-- ---- which fault it is
failed-memory : {T E : Type 0} (r : Result T RunFault) (rules : Rules E) (had left written_before written_after : Option (List ℕ)) → IfErr r (λ e. e ≡ fault.Memory) → WritesPrefix rules.AreLines had left written_before written_after → IfErr r (FailsBy rules had left written_before written_after)
failed-memory (Ok x) rules had left written_before written_after is p = tt
failed-memory (Err e) rules had left written_before written_after is p = subst (FailsBy rules had left written_before written_after) (sym is) p

failed-write : {T E : Type 0} (r : Result T RunFault) (rules : Rules E) (had left written_before written_after : Option (List ℕ)) → IfErr r IsWrite → WritesPrefix rules.IsListing had left written_before written_after → IfErr r (FailsBy rules had left written_before written_after)
failed-write (Ok x) rules had left written_before written_after is p = tt
failed-write (Err (fault.Write e)) rules had left written_before written_after is p = p
failed-write (Err (fault.Read e)) rules had left written_before written_after is p = absurd is
failed-write (Err fault.Memory) rules had left written_before written_after is p = absurd is

-- ---- lines that are written in part
lines_prefix : {E : Type 0} (rules : Rules E) (had left written_before written_after : Option (List ℕ)) (octets written text : List ℕ) → Consumes had left octets → Appends written_before written_after written → rules.AreLines octets (written ++ text) → WritesPrefix rules.AreLines had left written_before written_after
lines_prefix rules had left written_before written_after octets written text taken added lines = record {
  read = octets;
  text = written ++ text;
  taken = taken;
  is_text = lines;
  added = record { prefix = written; rest = text; added = added; whole = refl };
}

-- ---- a piece is read
module _ {Q E : Type 0} (rules : Q → Rules E) (left left' : Option (List ℕ)) (asks asks' room : ℕ) (piece : List ℕ) (old : Listing Q) (given : ReturnsOctets left left' piece room) (counted : asks' ≡ asks + 1) where
  -- the lister took it
  pub Reads-fed : (new : Listing Q) (goes_on : Bool) → Feeds rules old piece new goes_on → Reads rules left asks old left' asks' new goes_on
  Reads-fed new true fed = λ request had written_before written_after r. record {
    come = with_piece r.come piece;
    taken = Consumes-trans had left left' r.come.octets piece r.taken given.taken;
    added = r.added;
    pieces = ap (λ n. n + 1) r.pieces ∙ sym counted;
    waits = fed request r.come r.waits.waits;
  }
  Reads-fed new false fed = λ request had written_before written_after r.
      let stops = fed request r.come r.waits.waits in
      record {
        come = with_piece r.come piece;
        taken = Consumes-trans had left left' r.come.octets piece r.taken given.taken;
        added = r.added;
        pieces = omega (arith, r.pieces);
        last = inr stops.stops;
        lines = stops.lines;
      }

  -- the reader has ended
  pub Reads-end : piece ≡ [] → 0 < room → Reads rules left asks old left' asks' old false
  Reads-end none some = λ request had written_before written_after r. record {
    come = r.come;
    taken = subst (Consumes had left') (ap (λ l. r.come.octets ++ l) none ∙ append-nil r.come.octets) (Consumes-trans had left left' r.come.octets piece r.taken given.taken);
    added = r.added;
    pieces = omega (arith, r.pieces);
    last = inl (r.waits.waits, given.ended none some);
    lines = subst (λ o. (rules request).AreLines o (r.come.written ++ old.text)) (append-nil r.come.octets) (r.waits.begins.lines []);
  }

  -- memory ran out
  pub FailsToRead-fed : {T : Type 0} (r : Result T RunFault) → IfErr r (λ e. e ≡ fault.Memory) → IfErr r (FailsToRead rules left asks old left')
  FailsToRead-fed (Ok x) is = tt
  FailsToRead-fed (Err e) is = subst (FailsToRead rules left asks old left') (sym is) (λ request had written_before written_after r.
      lines_prefix (rules request) had left' written_before written_after (r.come.octets ++ piece) r.come.written old.text (Consumes-trans had left left' r.come.octets piece r.taken given.taken) r.added (r.waits.begins.lines piece))

-- a read failed, and all lines were written
pub FailsToRead-counted : {T Q E : Type 0} (r : Result T RunFault) (rules : Q → Rules E) (left left' : Option (List ℕ)) (asks : ℕ) (lister : Listing Q) → IfErr r IsRead → Keeps left left' → lister.text ≡ [] → IfErr r (FailsToRead rules left asks lister left')
FailsToRead-counted (Ok x) rules left left' asks lister is kept none = tt
FailsToRead-counted (Err (fault.Read e)) rules left left' asks lister is kept none = λ request had written_before written_after r. record {
  read = r.come.octets;
  text = r.come.written;
  taken = Consumes-kept had left left' r.come.octets r.taken kept;
  is_text = subst ((rules request).AreAllLines r.come.octets) (ap (λ t. r.come.written ++ t) none ∙ append-nil r.come.written) r.waits.begins.all;
  added = r.added;
}
FailsToRead-counted (Err (fault.Write e)) rules left left' asks lister is kept none = absurd is
FailsToRead-counted (Err fault.Memory) rules left left' asks lister is kept none = absurd is

-- ---- the lines of pieces are written
module _ {Q E : Type 0} {rules : Rules E} {request : Q} {had left written_before written_after : Option (List ℕ)} {asks : ℕ} {lister : Listing Q} where
  pub runs_on : (goes_on : Bool) → goes_on ≡ true → RunsOn goes_on rules request had left written_before written_after asks lister → Runs rules request had left written_before written_after asks lister
  runs_on true e r = r
  runs_on false e r = absurd cc

  pub is_over : (goes_on : Bool) → goes_on ≡ false → RunsOn goes_on rules request had left written_before written_after asks lister → IsOver rules request had left written_before written_after asks lister
  is_over true e r = absurd cc
  is_over false e r = r

  pub AcceptsPiece-runs : Runs rules request had left written_before written_after asks lister → asks ≤ 2 ^ 40 → AcceptsPiece lister
  AcceptsPiece-runs r few = record { request = request; taken = r.come; waits = r.waits.waits; few = omega (arith, r.pieces) }

  -- the lines were written
  pub Runs-written : (written_after' : Option (List ℕ)) (new : Listing Q) → Runs rules request had left written_before written_after asks lister → Appends written_after written_after' lister.text → Clears lister new → Runs rules request had left written_before written_after' asks new
  Runs-written written_after' new r a o =
      let same : r.come.written ++ lister.text ≡ (r.come.written ++ lister.text) ++ new.text = sym (append-nil (r.come.written ++ lister.text)) ∙ ap (λ t. (r.come.written ++ lister.text) ++ t) (sym o.none) in
      record {
        come = with_lines r.come lister.text;
        taken = r.taken;
        added = Appends-trans written_before written_after written_after' r.come.written lister.text r.added a;
        pieces = r.pieces;
        waits = record {
          waits = o.waits request r.come r.waits.waits;
          begins = record {
            lines = λ more. subst (rules.AreLines (r.come.octets ++ more)) same (r.waits.begins.lines more);
            all = subst (rules.AreAllLines r.come.octets) same r.waits.begins.all;
            rest = r.waits.begins.rest;
            listing = subst (λ t. rules.IsListing r.come.octets (t ++ r.waits.begins.rest)) same r.waits.begins.listing;
          };
        };
      }

  -- the lines were to be written
  pub Fails-written : {T : Type 0} (r : Result T RunFault) (written_after' : Option (List ℕ)) → Runs rules request had left written_before written_after asks lister → IfErr r IsWrite → AppendsPrefix written_after written_after' lister.text → IfErr r (FailsBy rules had left written_before written_after')
  Fails-written r written_after' runs is f =
      failed-write r rules had left written_before written_after' is
      (record {
        read = runs.come.octets;
        text = (runs.come.written ++ lister.text) ++ runs.waits.begins.rest;
        taken = runs.taken;
        is_text = runs.waits.begins.listing;
        added = AppendsPrefix-longer written_before written_after' (runs.come.written ++ lister.text) runs.waits.begins.rest (AppendsPrefix-after written_before written_after written_after' runs.come.written lister.text runs.added f);
      })

  -- ---- the end
  pub MayFinish-over : IsOver rules request had left written_before written_after asks lister → asks ≤ 2 ^ 40 → MayFinish lister
  MayFinish-over r few = record { request = request; taken = r.come; left = left; last = r.last; few = omega (arith, r.pieces) }

  -- memory ran out
  pub Fails-ended : {T : Type 0} (r : Result T RunFault) → IsOver rules request had left written_before written_after asks lister → IfErr r (λ e. e ≡ fault.Memory) → IfErr r (FailsBy rules had left written_before written_after)
  Fails-ended r over is = failed-memory r rules had left written_before written_after is (lines_prefix rules had left written_before written_after over.come.octets over.come.written lister.text over.taken over.added over.lines)

-- the lines of the end
module _ {Q E : Type 0} (rules : Q → Rules E) {request : Q} {had left written_before written_after : Option (List ℕ)} {asks : ℕ} {lister : Listing Q} where
  -- they were written
  pub Lists-made : (written_after' : Option (List ℕ)) (new : Listing Q) (ended : E) → IsOver (rules request) request had left written_before written_after asks lister → Finishes rules lister new ended → Appends written_after written_after' new.text → ListsBy (rules request) had left written_before written_after' ended
  Lists-made written_after' new ended r f a = record {
    read = r.come.octets;
    written = r.come.written ++ new.text;
    taken = r.taken;
    added = Appends-trans written_before written_after written_after' r.come.written new.text r.added a;
    listing = f request r.come left r.last;
  }

  -- they were to be written
  pub Fails-last : {T : Type 0} (r : Result T RunFault) (written_after' : Option (List ℕ)) (new : Listing Q) (ended : E) → IsOver (rules request) request had left written_before written_after asks lister → Finishes rules lister new ended → IfErr r IsWrite → AppendsPrefix written_after written_after' new.text → IfErr r (FailsBy (rules request) had left written_before written_after')
  Fails-last r written_after' new ended over f is prefix =
      let e = f request over.come left over.last in
      failed-write r (rules request) had left written_before written_after' is
      (record { read = over.come.octets; text = over.come.written ++ new.text; taken = over.taken; is_text = e.listing; added = AppendsPrefix-after written_before written_after written_after' over.come.written new.text over.added prefix })

-- ---- nothing was read
module _ {Q E : Type 0} (rules : Rules E) (request : Q) (had written_before : Option (List ℕ)) (lister : Listing Q) (new : IsNew rules request lister) where
  pub Runs-start : (asks : ℕ) → asks ≡ 0 → Runs rules request had had written_before written_before asks lister
  Runs-start asks none = record {
    come = record { pieces = 0; octets = []; written = [] };
    taken = Consumes-nil had;
    added = Appends-nil written_before;
    pieces = sym none;
    waits = new.waits;
  }

  pub Fails-start : {T : Type 0} (r : Result T RunFault) → IfErr r (λ e. e ≡ fault.Memory) → IfErr r (FailsBy rules had had written_before written_before)
  Fails-start r is = failed-memory r rules had had written_before written_before is (lines_prefix rules had had written_before written_before [] [] lister.text (Consumes-nil had) (Appends-nil written_before) (new.waits.begins.lines []))
