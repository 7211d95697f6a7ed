-- Lines that are read piece by piece, whatever becomes of them.
use Rattle.std.proofs.Common.{◌≡◌, ℕ, ◌+◌, ◌^◌, ◌<◌, ◌≤◌, inl, inr, Bool, true, false, List, [], ◌∷◌, ◌++◌, length, take, drop, Option, refl, sym, ◌∙◌, ap, subst, arith, append-nil, append_assoc, length-take, take-append-drop, take_all}
use Rattle.std.specs.Prelude.{◌==◌}
use Rattle.std.proofs.lemmas.List.Splits.{slice_split_none}
use Rattle.std.specs.Io.KnownBytes.{IsAtEnd}
use Rattle.krb_run.specs.Conversions.{Converted, after_text}
use Rattle.krb_run.specs.TextLines.{parts, without_empty_last, ended_of, last_of, lines_of}
use Rattle.krb_run.specs.Runs.{StopsInPiece}
use Rattle.krb_run.specs.ConversionRules.{IsBeginning}
use Rattle.krb_run.specs.LineReaders.{Adds, EndsLine, EndsText, GoesOn, HasLine, HasRead, IsRight, IsStoppedAfter, LineKind, MayFollow, closed, line_rules, of_ended, reader_kind}
use Rattle.krb_run.specs.Pieces.{Goes, IsFed, IsLastOf, TakesPiece, WaitsAfter, listing_of}
use Rattle.krb_run.specs.Streams.{Begins, Feeds, Finishes, IsLast, IsNew, MayFinish, Taken, with_piece}
use Rattle.krb_run.proofs.ConversionRuns.{after_text-both}
use Rattle.krb_run.proofs.Pieces.{Feeds-made, Finishes-made, IsFed-used, IsNew-made}
use Rattle.krb_run.proofs.SourceLineParts.{Begin, BeginsFirst, HasFirst, ended_of-begins, ended_of-last, ended_of-more, last_of-from, lines-empty, lines-from, lines-last, lines-more, nothing_before, parts_end, parts_grow}

module _ {L : Type 0} (kind : LineKind L) where
  -- ---- octets of a line came
  -- more of it may follow than octets of it
  less_follow : (IsShort : List ℕ → Type 0) (last octets : List ℕ) (lines : List (List ℕ)) → MayFollow IsShort (last ++ octets) lines → MayFollow IsShort last lines
  less_follow IsShort last octets [] (inl none) = inl (nothing_before last octets (sym none))
  less_follow IsShort last octets [] (inr m) = inr (octets ++ m.0, subst IsShort (append_assoc last octets m.0) m.1)
  less_follow IsShort last octets (line ∷ lines) b = record { rest = octets ++ b.rest; parts = b.parts ∙ append_assoc last octets b.rest }

  module _ (old new : L) (octets : List ℕ) where
    abbrev Came : Bool → Type 0
    Came goes_on = Adds kind old octets new goes_on

    -- no line ended
    same_so_far : {stream : List ℕ} → kind.request new ≡ kind.request old → kind.text new ≡ kind.text old → (written : List ℕ) (h : HasRead kind old stream written) → (kind.all (kind.request new) h.ended).text ≡ written ++ kind.text new
    same_so_far request text written h = ap (λ q. (kind.all q h.ended).text) request ∙ h.so_far ∙ ap (λ t. written ++ t) (sym text)

    -- those of a line that has not ended, and may go on
    read-more : Came true → (stream written : List ℕ) → parts octets ≡ octets ∷ [] → HasRead kind old stream written → HasRead kind new (stream ++ octets) written
    read-more a stream written alone h = record {
      ended = h.ended;
      last = h.last ++ octets;
      all = parts_grow stream h.ended h.last h.all octets alone;
      holds = a.holds h.last h.holds;
      so_far = same_so_far a.request a.text written h;
      goes_on = λ lines may.
          ap (λ q. kind.all q (h.ended ++ lines)) a.request
          ∙ h.goes_on lines (less_follow (kind.IsShort (kind.request old)) h.last octets lines (subst (λ q. MayFollow (kind.IsShort q) (h.last ++ octets) lines) a.request may))
          ∙ (λ i. after_text (written ++ sym a.text i) (sym (a.grows.rest lines) i));
    }

    -- those of one that is too long
    too_long : Came false → GoesOn kind old → (stream written : List ℕ) (h : HasRead kind old stream written) (lines : List (List ℕ)) → MayFollow (kind.IsShort (kind.request old)) (h.last ++ octets) lines → kind.all (kind.request old) (h.ended ++ lines) ≡ after_text (written ++ kind.text old) (kind.rest new lines)
    too_long a g stream written h [] (inl none) =
        let before : h.last ≡ [] = nothing_before h.last octets (sym none) in
        let same : (h.last ++ octets) ++ [] ≡ h.last = append-nil (h.last ++ octets) ∙ none ∙ sym before in
        absurd (a.grows.long h.last [] h.holds (subst (kind.IsShort (kind.request old)) (sym same) (g.2 h.last h.holds)))
    too_long a g stream written h [] (inr m) = absurd (a.grows.long h.last m.0 h.holds m.1)
    too_long a g stream written h (line ∷ lines) b =
        h.goes_on (line ∷ lines) (less_follow (kind.IsShort (kind.request old)) h.last octets (line ∷ lines) b)
        ∙ ap (after_text (written ++ kind.text old)) (ap (λ l. kind.rest old (l ∷ lines)) b.parts ∙ a.grows.rest h.last b.rest lines h.holds ∙ sym (a.grows.stopped.rest (line ∷ lines)))

    read-long : Came false → GoesOn kind old → (stream written : List ℕ) → parts octets ≡ octets ∷ [] → HasRead kind old stream written → HasRead kind new (stream ++ octets) written
    read-long a g stream written alone h = record {
      ended = h.ended;
      last = h.last ++ octets;
      all = parts_grow stream h.ended h.last h.all octets alone;
      holds = a.holds h.last h.holds;
      so_far = same_so_far a.request a.text written h;
      goes_on = λ lines may.
          ap (λ q. kind.all q (h.ended ++ lines)) a.request
          ∙ too_long a g stream written h lines (subst (λ q. MayFollow (kind.IsShort q) (h.last ++ octets) lines) a.request may)
          ∙ ap (λ t. after_text (written ++ t) (kind.rest new lines)) (sym a.text);
    }

    grown : (goes_on : Bool) → Came goes_on → GoesOn kind old → (stream written : List ℕ) → parts octets ≡ octets ∷ [] → HasRead kind old stream written → HasRead kind new (stream ++ octets) written
    grown true a g stream written alone h = read-more a stream written alone h
    grown false a g stream written alone h = read-long a g stream written alone h

  -- those of one that has ended
  read-ended : (old full new : L) (goes_on : Bool) (stream written octets : List ℕ) → parts (octets ++ 10 ∷ []) ≡ octets ∷ [] ∷ [] → Adds kind old octets full true → EndsLine kind full new goes_on → HasRead kind old stream written → HasRead kind new (stream ++ (octets ++ 10 ∷ [])) written
  read-ended old full new goes_on stream written octets alone a e h =
      let last : List ℕ = h.last ++ octets in
      let goes_on : (lines : List (List ℕ)) → kind.all (kind.request new) ((h.ended ++ last ∷ []) ++ lines) ≡ after_text (written ++ kind.text new) (kind.rest new lines) =
      λ lines.
      ap (kind.all (kind.request new)) (append_assoc h.ended (last ∷ []) lines)
      ∙ ap (λ q. kind.all q (h.ended ++ last ∷ lines)) (e.request ∙ a.request)
      ∙ h.goes_on (last ∷ lines) (record { rest = octets; parts = refl })
      ∙ (λ i. after_text (written ++ sym a.text i) (sym (a.grows.rest (last ∷ lines)) i))
      ∙ ap (after_text (written ++ kind.text full)) (e.rest last lines (a.holds h.last h.holds))
      ∙ after_text-both (written ++ kind.text full) e.added (kind.rest new lines)
      ∙ ap (λ t. after_text t (kind.rest new lines)) (append_assoc written (kind.text full) e.added ∙ ap (λ t. written ++ t) (sym e.text)) in
      record {
        ended = h.ended ++ (h.last ++ octets) ∷ [];
        last = [];
        all = parts_end stream h.ended h.last h.all octets alone;
        holds = e.holds;
        so_far =
            ap (λ ls. (kind.all (kind.request new) ls).text) (sym (append-nil (h.ended ++ last ∷ [])))
            ∙ ap (λ (c : Converted kind.Seen). c.text) (goes_on [])
            ∙ ap (λ t. (written ++ kind.text new) ++ t) e.none
            ∙ append-nil (written ++ kind.text new);
        goes_on = λ lines may. goes_on lines;
      }

  -- ---- a line of a piece ends
  module _ (old full new : L) (rest : List ℕ) (size : ℕ) (first : HasFirst rest size) (a : Adds kind old (take size rest) full true) where
    listed_ended : (goes_on : Bool) → EndsLine kind full new goes_on → (stream written : List ℕ) → HasRead kind old stream written → HasRead kind new (stream ++ take (size + 1) rest) written
    listed_ended goes_on e stream written h = subst (λ l. HasRead kind new (stream ++ l) written) (sym first.line) (read-ended old full new goes_on stream written (take size rest) first.alone a e h)

    -- and others follow
    pub fed-line : EndsLine kind full new true → IsFed (reader_kind kind) old rest (drop (size + 1) rest) new
    fed-line e = IsFed-used (reader_kind kind) old new rest (size + 1) (omega (arith, first.within)) (e.request ∙ a.request) e.follows (omega (arith, e.few, a.few, length-take size rest, first.within)) (listed_ended true e)

    -- and is at fault
    pub takes-fault : EndsLine kind full new false → TakesPiece (reader_kind kind) old rest new false
    takes-fault e = record {
      used = size + 1;
      within = omega (arith, first.within);
      same = e.request ∙ a.request;
      listed = listed_ended false e;
      few = omega (arith, e.few, a.few, length-take size rest, first.within);
      goes = e.follows;
    }

  -- it can be counted
  pub line_few : (old full : L) (rest : List ℕ) (size : ℕ) → HasFirst rest size → Adds kind old (take size rest) full true → kind.count old + length rest < 2 ^ 64 → kind.count full + 1 < 2 ^ 64
  line_few old full rest size first a few = omega (arith, few, first.within, a.few, length-take size rest)

  -- it is too long
  pub takes-long : (old new : L) (rest : List ℕ) (size : ℕ) → HasFirst rest size → Adds kind old (take size rest) new false → GoesOn kind old → TakesPiece (reader_kind kind) old rest new false
  takes-long old new rest size first a g = record {
    used = size;
    within = omega (arith, first.within);
    same = a.request;
    listed = λ stream written h. grown old new (take size rest) false a g stream written (slice_split_none (λ octet. octet == 10) (take size rest) first.none) h;
    few = omega (arith, a.few, length-take size rest, first.within);
    goes = a.grows.stopped;
  }

  -- the rest of a piece came, in which no line ends
  taken_whole : (old new : L) (rest : List ℕ) (goes_on : Bool) → Adds kind old rest new goes_on → GoesOn kind old → Goes (reader_kind kind) new (length rest) (length rest) goes_on
  taken_whole old new rest true a g = (refl, a.grows.goes_on g)
  taken_whole old new rest false a g = a.grows.stopped

  pub takes-rest : (old new : L) (rest : List ℕ) (goes_on : Bool) → parts rest ≡ rest ∷ [] → Adds kind old rest new goes_on → GoesOn kind old → TakesPiece (reader_kind kind) old rest new goes_on
  takes-rest old new rest goes_on alone a g = record {
    used = length rest;
    within = omega arith;
    same = a.request;
    listed = λ stream written h. subst (λ o. HasRead kind new (stream ++ o) written) (sym (take_all (length rest) rest (omega arith))) (grown old new rest goes_on a g stream written alone h);
    few = a.few;
    goes = taken_whole old new rest goes_on a g;
  }

  -- ---- what was read so far
  -- lines that begin with octets may follow them
  may_begin : (IsShort : List ℕ → Type 0) (last : List ℕ) (lines : List (List ℕ)) → Begin last lines → MayFollow IsShort last lines
  may_begin IsShort last [] none = inl none
  may_begin IsShort last (line ∷ lines) b = b

  -- so may they alone
  itself : (last : List ℕ) → IsBeginning last last
  itself last = record { rest = []; parts = sym (append-nil last) }

  begin_alone : (last : List ℕ) → Begin last (without_empty_last (last ∷ []))
  begin_alone [] = refl
  begin_alone (octet ∷ last) = itself (octet ∷ last)

  module _ (reader : L) (stream written : List ℕ) (h : HasRead kind reader stream written) where
    -- it begins what becomes of any text that begins with the lines that ended
    begins-lines : (text : List ℕ) (others : List (List ℕ)) → lines_of text ≡ h.ended ++ others → Begin h.last others → IsBeginning (written ++ kind.text reader) (kind.all (kind.request reader) (lines_of text)).text
    begins-lines text others l b = record {
      rest = (kind.rest reader others).text;
      parts = ap (λ (c : Converted kind.Seen). c.text) (ap (kind.all (kind.request reader)) l ∙ h.goes_on others (may_begin (kind.IsShort (kind.request reader)) h.last others b));
    }

    -- it is what becomes of the lines that ended, and begins what becomes of those that end in any text that goes on
    all-ended : written ++ kind.text reader ≡ of_ended kind (kind.request reader) stream
    all-ended = sym (ap (λ ls. (kind.all (kind.request reader) ls).text) (ap ended_of h.all ∙ ended_of-last h.ended h.last) ∙ h.so_far)

    begins-ended : (others : List (List ℕ)) → BeginsFirst h.last others → IsBeginning (written ++ kind.text reader) (kind.all (kind.request reader) (h.ended ++ others)).text
    begins-ended [] b = record {
      rest = [];
      parts = ap (λ ls. (kind.all (kind.request reader) ls).text) (append-nil h.ended) ∙ h.so_far ∙ sym (append-nil (written ++ kind.text reader));
    }
    begins-ended (line ∷ lines) b = record { rest = (kind.rest reader (line ∷ lines)).text; parts = ap (λ (c : Converted kind.Seen). c.text) (h.goes_on (line ∷ lines) b) }

    begins-more : (more : List ℕ) → IsBeginning (written ++ kind.text reader) (of_ended kind (kind.request reader) (stream ++ more))
    begins-more more =
        let m = ended_of-begins stream h.ended h.last h.all more in
        subst (λ ls. IsBeginning (written ++ kind.text reader) (kind.all (kind.request reader) ls).text) (sym m.1) (begins-ended m.0 m.2)

    -- none of the lines that ended is at fault, and the last is not too long
    right-read : GoesOn kind reader → IsRight kind (kind.request reader) stream
    right-read g =
        let short : kind.IsShort (kind.request reader) h.last = g.2 h.last h.holds in
        let may : MayFollow (kind.IsShort (kind.request reader)) h.last [] = inr ([], subst (kind.IsShort (kind.request reader)) (sym (append-nil h.last)) short) in
        let ended : ended_of (parts stream) ≡ h.ended = ap ended_of h.all ∙ ended_of-last h.ended h.last in
        let read : kind.all (kind.request reader) (ended_of (parts stream)) ≡ after_text (written ++ kind.text reader) (kind.rest reader []) = ap (kind.all (kind.request reader)) (ended ∙ sym (append-nil h.ended)) ∙ h.goes_on [] may in (
          subst (λ (c : Converted kind.Seen). kind.IsNoFault c.end) (sym read) g.1,
          subst (kind.IsShort (kind.request reader)) (sym (ap last_of h.all ∙ last_of-from h.ended h.last [])) short,
        )

  begins-waiting : (reader : L) (taken : Taken) → WaitsAfter (reader_kind kind) reader taken → Begins (line_rules kind (kind.request reader)) taken (kind.text reader)
  begins-waiting reader taken w =
      let h : HasRead kind reader taken.octets taken.written = w.listed in
      let now : IsBeginning (taken.written ++ kind.text reader) (kind.all (kind.request reader) (lines_of taken.octets)).text = begins-lines reader taken.octets taken.written h taken.octets (without_empty_last (h.last ∷ [])) (ap without_empty_last h.all ∙ lines-from h.ended h.last []) (begin_alone h.last) in
      let closing : List ℕ = (kind.close (kind.request reader) (kind.all (kind.request reader) (lines_of taken.octets)).end).text in
      record {
        lines = begins-more reader taken.octets taken.written h;
        all = all-ended reader taken.octets taken.written h;
        rest = now.rest ++ closing;
        listing = sym (append_assoc (taken.written ++ kind.text reader) now.rest closing) ∙ ap (λ t. t ++ closing) (sym now.parts);
      }

  -- ---- after a line that is at fault
  module _ (reader : L) (taken : Taken) (s : IsStoppedAfter kind reader taken) where
    stopped-all : (others : List (List ℕ)) → MayFollow (kind.IsShort (kind.request reader)) s.read.last others → kind.all (kind.request reader) (s.read.ended ++ others) ≡ record { text = taken.written ++ kind.text reader; end = s.stopped.end }
    stopped-all others may =
        s.read.goes_on others may
        ∙ ap (after_text (taken.written ++ kind.text reader)) (s.stopped.rest others)
        ∙ ap (λ t. record { text = t; end = s.stopped.end }) (append-nil (taken.written ++ kind.text reader))

    stopped-text : kind.all (kind.request reader) (lines_of taken.octets) ≡ record { text = taken.written ++ kind.text reader; end = s.stopped.end }
    stopped-text =
        let m = lines-more s.stream s.read.ended s.read.last s.read.all s.others in
        ap (λ t. kind.all (kind.request reader) (lines_of t)) s.parts_of
        ∙ ap (kind.all (kind.request reader)) m.1
        ∙ stopped-all m.0 (may_begin (kind.IsShort (kind.request reader)) s.read.last m.0 m.2)

    stopped-wrong : IsRight kind (kind.request reader) taken.octets → ⊥
    stopped-wrong right =
        let m = ended_of-more s.stream s.read.ended s.read.last s.read.all s.others in
        let now : IsRight kind (kind.request reader) (s.stream ++ s.others) = subst (IsRight kind (kind.request reader)) s.parts_of right in
        let may : MayFollow (kind.IsShort (kind.request reader)) s.read.last m.0 = m.2 (kind.IsShort (kind.request reader)) now.1 in
        s.stopped.fault (subst (λ (c : Converted kind.Seen). kind.IsNoFault c.end) (ap (kind.all (kind.request reader)) m.1 ∙ stopped-all m.0 may) now.0)

  stops-fault : (old new : L) (piece : List ℕ) (taken : Taken) → length piece ≤ 65536 → WaitsAfter (reader_kind kind) old taken → TakesPiece (reader_kind kind) old piece new false → IsStoppedAfter kind new (with_piece taken piece) × IsBeginning (taken.written ++ kind.text new) (of_ended kind (kind.request new) (taken.octets ++ piece))
  stops-fault old new piece taken short w f =
      let used : List ℕ = take f.used piece in
      let h : HasRead kind new (taken.octets ++ used) taken.written = f.listed taken.octets taken.written w.listed in
      let all : taken.octets ++ piece ≡ (taken.octets ++ used) ++ drop f.used piece = sym (append_assoc taken.octets used (drop f.used piece) ∙ ap (λ l. taken.octets ++ l) (take-append-drop f.used piece)) in (
        record {
          stream = taken.octets ++ used;
          others = drop f.used piece;
          parts_of = all;
          read = h;
          stopped = f.goes;
          stops = record { prefix = taken.octets; piece = piece; parts = refl; goes_on = subst (λ q. IsRight kind q taken.octets) (sym f.same) (right-read old taken.octets taken.written w.listed w.waits); short = short };
        },
        subst (λ o. IsBeginning (taken.written ++ kind.text new) (of_ended kind (kind.request new) o)) (sym all) (begins-more new (taken.octets ++ used) taken.written h (drop f.used piece)),
      )

  -- ---- a reader of a text
  -- nothing came yet
  pub is_new : (reader : L) (request : kind.Request) → kind.request reader ≡ request → kind.text reader ≡ [] → kind.Holds reader [] → (kind.rest reader []).text ≡ [] → ((lines : List (List ℕ)) → kind.all (kind.request reader) lines ≡ after_text (kind.text reader) (kind.rest reader lines)) → GoesOn kind reader → kind.count reader ≡ 0 → IsNew (line_rules kind request) request (listing_of (reader_kind kind) reader)
  is_new reader request e empty holds nothing all g none =
      IsNew-made (reader_kind kind) begins-waiting e empty
      (record {
        listed = record {
          ended = [];
          last = [];
          all = refl;
          holds = holds;
          so_far = ap (λ (c : Converted kind.Seen). c.text) (all []) ∙ ap (λ t. kind.text reader ++ t) nothing ∙ append-nil (kind.text reader);
          goes_on = λ lines may. all lines;
        };
        waits = g;
        few = omega (arith, none);
        short = omega arith;
      })

  -- a piece came
  pub feeds : (old new : L) (piece : List ℕ) (goes_on : Bool) → length piece ≤ 65536 → TakesPiece (reader_kind kind) old piece new goes_on → Feeds (line_rules kind) (listing_of (reader_kind kind) old) piece (listing_of (reader_kind kind) new) goes_on
  feeds old new piece goes_on short t = Feeds-made (reader_kind kind) begins-waiting stops-fault short t

  -- ---- the end
  -- there is no line that has not ended
  pub ends-none : (reader : L) → HasLine kind reader false → EndsText kind reader reader
  ends-none reader none = record { request = refl; all = by }
    where
      by : (taken : Taken) (left : Option (List ℕ)) → IsLastOf (reader_kind kind) reader taken left → kind.all (kind.request reader) (lines_of taken.octets) ≡ after_text (taken.written ++ kind.text reader) (kind.rest reader [])
      by taken left (inl (w, a)) =
          let h : HasRead kind reader taken.octets taken.written = w.listed in
          let empty : h.last ≡ [] = none w.waits.0 h.last h.holds in
          ap (kind.all (kind.request reader)) (ap without_empty_last (h.all ∙ ap (λ l. h.ended ++ l ∷ []) empty) ∙ lines-empty h.ended ∙ sym (append-nil h.ended)) ∙ h.goes_on [] (inl empty)
      by taken left (inr s) =
          stopped-text reader taken s
          ∙ ap (λ t. record { text = t; end = s.stopped.end }) (sym (append-nil (taken.written ++ kind.text reader)))
          ∙ ap (after_text (taken.written ++ kind.text reader)) (sym (s.stopped.rest []))

  -- it ends
  pub ends-line : (old new : L) (goes_on : Bool) → HasLine kind old true → EndsLine kind old new goes_on → EndsText kind old new
  ends-line old new goes_on some e = record { request = e.request; all = by }
    where
      by : (taken : Taken) (left : Option (List ℕ)) → IsLastOf (reader_kind kind) old taken left → kind.all (kind.request old) (lines_of taken.octets) ≡ after_text (taken.written ++ kind.text new) (kind.rest new [])
      by taken left (inl (w, a)) =
          let h : HasRead kind old taken.octets taken.written = w.listed in
          let full : h.last ≡ [] → ⊥ = λ none. some.0 (subst (kind.Holds old) none h.holds) in
          ap (kind.all (kind.request old)) (ap without_empty_last h.all ∙ lines-last h.ended h.last full)
          ∙ h.goes_on (h.last ∷ []) (itself h.last)
          ∙ ap (after_text (taken.written ++ kind.text old)) (e.rest h.last [] h.holds)
          ∙ after_text-both (taken.written ++ kind.text old) e.added (kind.rest new [])
          ∙ ap (λ t. after_text t (kind.rest new [])) (append_assoc taken.written (kind.text old) e.added ∙ ap (λ t. taken.written ++ t) (sym e.text))
      by taken left (inr s) = absurd (some.1 s.stopped)

  -- a line may end, and can be counted
  pub record MayEnd (reader : L) : Type 0 where
    pub is_open : kind.IsOpen reader
    pub few : kind.count reader + 1 < 2 ^ 64

  pub may_end : (reader : L) → HasLine kind reader true → MayFinish (listing_of (reader_kind kind) reader) → MayEnd reader
  may_end reader some m = by m.last
    where
      by : IsLast (listing_of (reader_kind kind) reader) m.request m.taken m.left → MayEnd reader
      by (inl (w, a)) = record { is_open = w.1.waits.0; few = omega (arith, w.1.few, m.few) }
      by (inr s) = absurd (some.1 s.1.stopped)

  -- what was read, and when
  over : (reader : L) (taken : Taken) (left : Option (List ℕ)) → IsLastOf (reader_kind kind) reader taken left → (IsRight kind (kind.request reader) taken.octets → IsAtEnd left) × StopsInPiece (IsRight kind (kind.request reader)) taken.octets
  over reader taken left (inl (w, a)) = (
    λ right. a,
    record { prefix = taken.octets; piece = []; parts = sym (append-nil taken.octets); goes_on = right-read reader taken.octets taken.written w.listed w.waits; short = omega arith },
  )
  over reader taken left (inr s) = (λ right. absurd (stopped-wrong reader taken s right), s.stops)

  -- the text of the end was added
  pub finishes : (old between new : L) (ended : kind.End) → EndsText kind old between → (kind.rest between []).text ≡ [] → kind.text new ≡ kind.text between ++ (kind.close (kind.request between) (kind.rest between []).end).text → kind.ending_of ended ≡ (kind.close (kind.request between) (kind.rest between []).end).end → Finishes (line_rules kind) (listing_of (reader_kind kind) old) (listing_of (reader_kind kind) new) ended
  finishes old between new ended e nothing text is =
      Finishes-made (reader_kind kind) old new ended
      (λ taken left last.
      let all : kind.all (kind.request old) (lines_of taken.octets) ≡ after_text (taken.written ++ kind.text between) (kind.rest between []) = e.all taken left last in
      let o = over old taken left last in
      let so_far : List ℕ = taken.written ++ kind.text between in
      let closing : List ℕ = (kind.close (kind.request old) (kind.rest between []).end).text in
      record {
        listing =
            ap (λ t. taken.written ++ t) (text ∙ ap (λ q. kind.text between ++ (kind.close q (kind.rest between []).end).text) e.request)
            ∙ sym (append_assoc taken.written (kind.text between) closing)
            ∙ ap (λ t. t ++ closing) (sym (ap (λ t. so_far ++ t) nothing ∙ append-nil so_far))
            ∙ sym (ap (λ (c : Converted kind.Seen). (closed kind (kind.request old) c).text) all);
        ends = record { ended_so = is ∙ ap (λ q. (kind.close q (kind.rest between []).end).end) e.request ∙ sym (ap (λ (c : Converted kind.Seen). (closed kind (kind.request old) c).end) all); all_read = o.0; stops = o.1 };
      })
