-- The lines of a stream that is decoded and goes on after what is refused.
use Rattle.std.proofs.Common.{◌≡◌, ℕ, suc, ◌+◌, ◌^◌, ◌<◌, ◌⊎◌, inl, inr, Bool, true, false, List, [], ◌∷◌, ◌++◌, length, map, Option, Result, Ok, Err, refl, sym, ◌∙◌, ap, ap₂, subst, arith, append_assoc, append-nil}
use Rattle.std.specs.Prelude.{◌==◌, ◌&&◌, ◌||◌}
use Rattle.std.specs.Io.KnownBytes.{IsAtEnd}
use Rattle.std.proofs.lemmas.Bool.Decides.{nat_tests}
use Rattle.std.proofs.lemmas.List.{map-append}
use Rattle.krb_der.specs.declared.profile.Profile.{Profile}
use Rattle.krb_der.specs.declared.why.Why.TheVariants.{HighBit}
use Rattle.krb_der.specs.declared.verdict.Refusal.{Refusal}
use Rattle.krb_msg.specs.Grammar.{messages}
use Rattle.krb_msg.specs.Stream.{End, Boundary, Within, Refused}
use Rattle.krb_frame.specs.Decoding.{finish_at, finish_of}
use Rattle.krb_frame.specs.GoingOn.{Entry, entries, entries_size, entry_size, last_entry}
use Rattle.krb_run.specs.Streams.{EndsListing, FailsBy, ListsBy, Taken}
use Rattle.krb_run.specs.declared.run.RunEnd.{RunEnd}
use Rattle.krb_run.specs.declared.run.RunFault.{RunFault}
use Rattle.krb_run.specs.declared.run.RunFault.TheVariants as fault
use Rattle.krb_tool.specs.GoingOn.{EndsUnknown, Faulty, Listed, Whole, counted_run_end, entry_of, is_refused_at_once, messages_in, octets_in, refused_in, refused_line}
use Rattle.krb_tool.specs.Listing.{IsNotRefused}
use Rattle.krb_tool.specs.Paths.{frame_extent, frame_path}
use Rattle.krb_tool.specs.inner.Listers.{Adds, AreListed, FrameLister, HasListed, IsDone, current_end, last_frames, last_of, lister_kind}
use Rattle.krb_tool.proofs.ListedPieces.{IsOver, entries_read, waits-cut, waits-known}
use Rattle.krb_tool.proofs.Listings.{at_once-none, at_once-one}
use Rattle.krb_decode.specs.Streams.{DecodesStream, FailsToDecodeStream, IsDecoded, end_part, named, part_of, parts_after}
use Rattle.krb_decode.specs.declared.stream.StreamParts.{StreamParts}
use Rattle.krb_decode.specs.inner.StreamParts.{AddsEnd, AddsEntry, AddsRefused, HasLines, PutsEnd, at_once_with, last_listed, listed_last, rules_of, stream_parts}

-- ---- lists of frames
messages_in-append : (xs ys : List Listed) → messages_in (xs ++ ys) ≡ messages_in xs + messages_in ys
messages_in-append [] ys = omega arith
messages_in-append (Whole message ∷ xs) ys = omega (arith, messages_in-append xs ys)
messages_in-append (Faulty place reason prefix ∷ xs) ys = messages_in-append xs ys

refused_in-append : (xs ys : List Listed) → refused_in (xs ++ ys) ≡ refused_in xs + refused_in ys
refused_in-append [] ys = omega arith
refused_in-append (Whole message ∷ xs) ys = refused_in-append xs ys
refused_in-append (Faulty place reason prefix ∷ xs) ys = omega (arith, refused_in-append xs ys)

octets_in-append : (xs ys : List Listed) → octets_in (xs ++ ys) ≡ octets_in xs + octets_in ys
octets_in-append [] ys = omega arith
octets_in-append (x ∷ xs) ys = omega (arith, octets_in-append xs ys)

parts_after-append : (profile : Profile) (n offset : ℕ) (xs ys : List Listed) → parts_after profile n offset (xs ++ ys) ≡ parts_after profile n offset xs ++ parts_after profile (n + messages_in xs) (offset + octets_in xs) ys
parts_after-append profile n offset [] ys =
    let e : n ≡ n + 0 = omega arith in
    let o : offset ≡ offset + 0 = omega arith in
    ap₂ (λ k m. parts_after profile k m ys) e o
parts_after-append profile n offset (Whole message ∷ xs) ys =
    let size : ℕ = entry_size (entry_of (Whole message)) in
    let line : List ℕ = part_of (n + 1) message in
    let e : n + 1 + messages_in xs ≡ n + (1 + messages_in xs) = omega arith in
    let o : offset + entry_size (entry_of (Whole message)) + octets_in xs ≡ offset + (entry_size (entry_of (Whole message)) + octets_in xs) = omega arith in
    ap (λ l. line ++ l) (parts_after-append profile (n + 1) (offset + size) xs ys)
    ∙ sym (append_assoc line (parts_after profile (n + 1) (offset + size) xs) (parts_after profile (n + 1 + messages_in xs) (offset + size + octets_in xs) ys))
    ∙ ap₂ (λ k m. (line ++ parts_after profile (n + 1) (offset + size) xs) ++ parts_after profile k m ys) e o
parts_after-append profile n offset (Faulty place reason prefix ∷ xs) ys =
    let size : ℕ = entry_size (entry_of (Faulty place reason prefix)) in
    let line : List ℕ = refused_line named n place reason (frame_path profile prefix) (frame_extent offset prefix) in
    let o : offset + entry_size (entry_of (Faulty place reason prefix)) + octets_in xs ≡ offset + (entry_size (entry_of (Faulty place reason prefix)) + octets_in xs) = omega arith in
    ap (λ l. line ++ l) (parts_after-append profile n (offset + size) xs ys)
    ∙ sym (append_assoc line (parts_after profile n (offset + size) xs) (parts_after profile (n + messages_in xs) (offset + size + octets_in xs) ys))
    ∙ ap (λ m. (line ++ parts_after profile n (offset + size) xs) ++ parts_after profile (n + messages_in xs) m ys) o

one_counted : (x : Listed) → messages_in (x ∷ []) + refused_in (x ∷ []) ≡ 1
one_counted (Whole message) = omega arith
one_counted (Faulty place reason prefix) = omega arith

all_sized : (xs : List Listed) → octets_in xs ≡ entries_size (map entry_of xs)
all_sized [] = refl
all_sized (x ∷ xs) = omega (arith, all_sized xs)

-- ---- whether the first of them is refused, after some that are counted
not_none : (n : ℕ) → (1 + n == 0) ≡ false
not_none n = grind (arith, nat_tests)

at_once-more : (xs ys : List Listed) (flag : Bool) (m r : ℕ) → flag ≡ is_refused_at_once xs → m ≡ messages_in xs → r ≡ refused_in xs → (flag || ((m == 0 && r == 0) && is_refused_at_once ys)) ≡ is_refused_at_once (xs ++ ys)
at_once-more [] ys flag m r f p q = λ i. f i || ((p i == 0 && q i == 0) && is_refused_at_once ys)
at_once-more (Whole message ∷ xs) ys flag m r f p q =
    (λ i. f i || ((p i == 0 && r == 0) && is_refused_at_once ys))
    ∙ ap (λ b. false || ((b && r == 0) && is_refused_at_once ys)) (not_none (messages_in xs))
at_once-more (Faulty place reason prefix ∷ xs) ys flag m r f p q = λ i. f i || ((m == 0 && r == 0) && is_refused_at_once ys)

-- ---- a frame is decoded
adds_entry : (old : StreamParts) (entry : Entry) (new : StreamParts) → AddsEntry old entry new → old.messages + old.refused + 1 < 2 ^ 64 → old.offset + entry_size entry < 2 ^ 64 → Adds stream_parts old entry new
adds_entry old entry new r few small =
    let one : List Listed = r.listed ∷ [] in
    let room : old.messages + 1 < 2 ^ 64 = omega (arith, few) in
    let messages : new.messages ≡ old.messages + messages_in (r.listed ∷ []) = r.messages room in
    let refused : new.refused ≡ old.refused + refused_in (r.listed ∷ []) = r.refused (omega (arith, few)) in
    let offset : new.offset ≡ old.offset + octets_in (r.listed ∷ []) = omega (arith, r.offset small, ap entry_size r.is_entry) in
    record {
      decoded = λ kept. r.decoded;
      lines = λ profile frames written h.
          let m : old.messages ≡ 0 + messages_in h.listed = omega (arith, h.messages) in
          let o : old.offset ≡ 0 + octets_in h.listed = omega (arith, h.offset) in
          record {
            listed = h.listed ++ r.listed ∷ [];
            are = map-append entry_of h.listed (r.listed ∷ []) ∙ ap₂ (λ xs x. xs ++ x ∷ []) h.are r.is_entry;
            same_profile = r.same ∙ h.same_profile;
            text =
                ap (λ t. written ++ t) (r.line room)
                ∙ sym (append_assoc written old.text (parts_after old.profile old.messages old.offset one))
                ∙ ap₂ (λ t q. t ++ parts_after q old.messages old.offset one) h.text h.same_profile
                ∙ ap₂ (λ n k. parts_after profile 0 0 h.listed ++ parts_after profile n k one) m o
                ∙ sym (parts_after-append profile 0 0 h.listed one);
            messages = omega (arith, messages, h.messages, messages_in-append h.listed (r.listed ∷ []));
            refused = omega (arith, refused, h.refused, refused_in-append h.listed (r.listed ∷ []));
            at_once = r.at_once ∙ at_once-more h.listed one old.is_refused_at_once old.messages old.refused h.at_once h.messages h.refused;
            offset = omega (arith, offset, h.offset, octets_in-append h.listed (r.listed ∷ []));
          };
      few = omega (arith, messages, refused, one_counted r.listed);
      small = omega (arith, r.offset small);
      going = refl;
      same = λ profile limit. refl;
    }

-- ---- the end of a stream
-- what is put there
pub AddsEnd-whole : (old : FrameLister StreamParts) (new : StreamParts) (ended : RunEnd) (done : Unit {0}) → finish_of (messages old.decoder.current.profile) old.decoder.current ≡ Ok done → PutsEnd old.lines new ended → AddsEnd old new ended
AddsEnd-whole old new ended done e p =
    let none : listed_last old ≡ [] = ap (λ r. last_listed r old.decoder.current.octets) e in
    let z : old.lines.refused ≡ old.lines.refused + 0 = omega arith in
    record {
      lines =
          p.line
          ∙ ap (λ k. old.lines.text ++ end_part old.lines.messages k) z
          ∙ ap (λ l. old.lines.text ++ (parts_after old.lines.profile old.lines.messages old.lines.offset l ++ end_part old.lines.messages (old.lines.refused + refused_in l))) (sym none);
      ended_so =
          p.ended_so
          ∙ ap₂ counted_run_end (at_once-none old.lines.is_refused_at_once (old.lines.messages == 0 && old.lines.refused == 0)) z
          ∙ ap (λ l. counted_run_end (at_once_with old.lines l) (old.lines.refused + refused_in l)) (sym none);
    }

pub AddsEnd-refused : (old : FrameLister StreamParts) (between new : StreamParts) (ended : RunEnd) (refusal : Refusal) → old.lines.refused + 1 < 2 ^ 64 → finish_of (messages old.decoder.current.profile) old.decoder.current ≡ Err refusal → AddsRefused refusal old.decoder.current.octets old.lines between → PutsEnd between new ended → AddsEnd old new ended
AddsEnd-refused old between new ended refusal few e r p =
    let one : listed_last old ≡ Faulty refusal.place refusal.why old.decoder.current.octets ∷ [] = ap (λ r. last_listed r old.decoder.current.octets) e in
    let z : between.refused ≡ old.lines.refused + (1 + 0) = omega (arith, r.refused few) in
    let line : List ℕ = refused_line named old.lines.messages refusal.place refusal.why (frame_path old.lines.profile old.decoder.current.octets) (frame_extent old.lines.offset old.decoder.current.octets) in
    record {
      lines =
          p.line
          ∙ ap (λ n. between.text ++ end_part n between.refused) r.messages
          ∙ ap₂ (λ t k. t ++ end_part old.lines.messages k) r.line z
          ∙ append_assoc old.lines.text line (end_part old.lines.messages (old.lines.refused + (1 + 0)))
          ∙ ap (λ l. old.lines.text ++ (l ++ end_part old.lines.messages (old.lines.refused + (1 + 0)))) (sym (append-nil line))
          ∙ ap (λ l. old.lines.text ++ (parts_after old.lines.profile old.lines.messages old.lines.offset l ++ end_part old.lines.messages (old.lines.refused + refused_in l))) (sym one);
      ended_so =
          p.ended_so
          ∙ ap₂ counted_run_end (r.at_once ∙ at_once-one old.lines.is_refused_at_once (old.lines.messages == 0 && old.lines.refused == 0)) z
          ∙ ap (λ l. counted_run_end (at_once_with old.lines l) (old.lines.refused + refused_in l)) (sym one);
    }

last_messages : (end : End) (octets : List ℕ) → messages_in (last_listed (finish_at end) octets) ≡ 0
last_messages Boundary octets = refl
last_messages (Within present) octets = refl
last_messages (Refused place reason) octets = refl

last_entries : (finish : Result (Unit {0}) Refusal) (octets : List ℕ) → map entry_of (last_listed finish octets) ≡ last_frames finish octets
last_entries (Ok done) octets = refl
last_entries (Err refusal) octets = refl

-- ---- what a run did
pub decodes : (profile : Profile) (limit : ℕ) (had left written_before written_after : Option (List ℕ)) (ended : RunEnd) → ListsBy (rules_of profile limit) had left written_before written_after ended → DecodesStream profile limit had left written_before written_after ended
decodes profile limit had left written_before written_after ended l = record {
  read = l.read;
  written = l.written;
  taken = l.taken;
  added = l.added;
  decoded = l.listing.listing;
  ended_so = l.listing.ends.ended_so;
  all_read = l.listing.ends.all_read;
  stops = l.listing.ends.stops;
}

pub fails : (profile : Profile) (limit : ℕ) (had left written_before written_after : Option (List ℕ)) (failed : RunFault) → FailsBy (rules_of profile limit) had left written_before written_after failed → FailsToDecodeStream profile limit had left written_before written_after failed
fails profile limit had left written_before written_after (fault.Write error) f = f
fails profile limit had left written_before written_after (fault.Read error) f = f
fails profile limit had left written_before written_after fault.Memory f = f

-- ---- no octet more is looked at
module _ (lister : FrameLister StreamParts) (taken : Taken) (d : IsDone stream_parts lister taken) where
  abbrev profile : Profile
  profile = lister.decoder.current.profile

  abbrev limit : ℕ
  limit = lister.decoder.current.limit

  abbrev h : HasLines lister.decoder.current.profile lister.lines d.frames taken.written
  h = d.lines

  room : ⊥ → ⊥
  room full = full

  -- the lines, and those of the end
  abbrev whole_text : List ℕ
  whole_text = parts_after profile 0 0 h.listed ++ (parts_after profile (messages_in h.listed) (octets_in h.listed) (listed_last lister) ++ end_part (messages_in h.listed) (refused_in h.listed + refused_in (listed_last lister)))

  abbrev last_text : List ℕ
  last_text = parts_after lister.lines.profile lister.lines.messages lister.lines.offset (listed_last lister) ++ end_part lister.lines.messages (lister.lines.refused + refused_in (listed_last lister))

  text-is : taken.written ++ (lister.lines.text ++ last_text) ≡ whole_text
  text-is =
      sym (append_assoc taken.written lister.lines.text last_text)
      ∙ ap (λ l. l ++ last_text) h.text
      ∙ ap (λ q. parts_after profile 0 0 h.listed ++ (parts_after q lister.lines.messages lister.lines.offset (listed_last lister) ++ end_part lister.lines.messages (lister.lines.refused + refused_in (listed_last lister)))) h.same_profile
      ∙ ap₂ (λ n k. parts_after profile 0 0 h.listed ++ (parts_after profile n lister.lines.offset (listed_last lister) ++ end_part n (k + refused_in (listed_last lister)))) h.messages h.refused
      ∙ ap (λ o. parts_after profile 0 0 h.listed ++ (parts_after profile (messages_in h.listed) o (listed_last lister) ++ end_part (messages_in h.listed) (refused_in h.listed + refused_in (listed_last lister)))) h.offset

  counted : (d.end room).others ≡ [] → (text : List ℕ) → text ≡ whole_text → IsDecoded profile limit taken.octets text
  counted none text t =
      let all : List Listed = h.listed ++ listed_last lister in
      let m : messages_in all ≡ messages_in h.listed = omega (arith, messages_in-append h.listed (listed_last lister), last_messages (current_end lister) lister.decoder.current.octets) in
      let z : 0 + messages_in h.listed ≡ messages_in h.listed = omega arith in
      let o : 0 + octets_in h.listed ≡ octets_in h.listed = omega arith in
      let line : List ℕ = end_part (messages_in h.listed) (refused_in h.listed + refused_in (listed_last lister)) in
      record {
        found = h.listed ++ listed_last lister;
        in_frames =
            map-append entry_of h.listed (listed_last lister)
            ∙ ap₂ (λ xs ys. xs ++ ys) h.are (last_entries (finish_of (messages profile) lister.decoder.current) lister.decoder.current.octets ∙ sym (append-nil (last_of lister)) ∙ ap (λ l. last_of lister ++ l) (sym none) ∙ sym (d.end room).parts)
            ∙ sym d.all;
        lines =
            t
            ∙ sym (append_assoc (parts_after profile 0 0 h.listed) (parts_after profile (messages_in h.listed) (octets_in h.listed) (listed_last lister)) line)
            ∙ ap (λ l. l ++ line) (sym (parts_after-append profile 0 0 h.listed (listed_last lister) ∙ ap₂ (λ n k. parts_after profile 0 0 h.listed ++ parts_after profile n k (listed_last lister)) z o))
            ∙ sym (ap₂ (λ n k. parts_after profile 0 0 all ++ end_part n k) m (refused_in-append h.listed (listed_last lister)));
      }

  -- the lines of the end follow
  listing-done : (rest : List ℕ) × IsDecoded profile limit taken.octets ((taken.written ++ lister.lines.text) ++ rest)
  listing-done = (last_text, counted ((d.end room).unknown refl).0 _ (append_assoc taken.written lister.lines.text _ ∙ text-is))

  unknown-read : (left : Option (List ℕ)) → (IsNotRefused (current_end lister) → IsAtEnd left) → (d.end room).others ≡ [] → IsNotRefused (current_end lister) ⊎ (current_end lister ≡ Refused 3 HighBit) → IsAtEnd left ⊎ EndsUnknown (entries (messages profile) limit taken.octets)
  unknown-read left a none (inl n) = inl (a n)
  unknown-read left a none (inr e) = inr (record {
    before = d.frames;
    length_octets = lister.decoder.current.octets;
    parts = d.all ∙ ap (λ l. d.frames ++ l) ((d.end room).parts ∙ ap₂ (λ x o. last_frames (finish_at x) lister.decoder.current.octets ++ o) e none);
  })

  ends-by : (text : List ℕ) (left : Option (List ℕ)) (ended : RunEnd) → (IsNotRefused (current_end lister) → IsAtEnd left) → text ≡ whole_text → ended ≡ counted_run_end (is_refused_at_once (h.listed ++ listed_last lister)) (refused_in h.listed + refused_in (listed_last lister)) → EndsListing (rules_of profile limit) taken.octets text left ended
  unfolding counted
  ends-by text left ended a t e =
      let unknown = (d.end room).unknown refl in
      record {
        listing = counted unknown.0 text t;
        ends = record {
          ended_so = e ∙ ap (counted_run_end (is_refused_at_once (h.listed ++ listed_last lister))) (sym (refused_in-append h.listed (listed_last lister)));
          all_read = unknown-read left a unknown.0 unknown.1;
          stops = d.stops;
        };
      }

-- a lister of these lines
pub stream_listed : AreListed stream_parts
stream_listed = record {
  adds = adds_entry;
  sized = λ profile lines frames written h. omega (arith, h.offset, all_sized h.listed, ap entries_size h.are);
  begins = λ profile limit lines octets written frames others e whole h. record {
    found = h.listed;
    others = others;
    in_frames = e ∙ ap (λ l. l ++ others) (sym h.are);
    lines = h.text;
  };
  all = λ lister octets written h w.
      let cut : List Entry = last_entry (current_end lister) lister.decoder.current.octets in
      record {
        lines = record {
          found = h.lines.listed;
          others = last_entry (current_end lister) lister.decoder.current.octets;
          in_frames = entries_read stream_parts lister octets written h w ∙ ap (λ l. l ++ cut) (sym h.lines.are);
          lines = h.lines.text;
        };
        all = waits-cut stream_parts lister octets written h w;
      };
  asks = λ lister octets written h w. waits-known stream_parts lister octets written h w refl;
  listing = λ lister taken d room. listing-done lister taken d;
}

-- the lines of the end were added
pub ends-listed : (lister : FrameLister StreamParts) (new : StreamParts) (ended : RunEnd) → AddsEnd lister new ended → (taken : Taken) (left : Option (List ℕ)) → IsOver stream_parts stream_listed lister taken left → EndsListing (stream_parts.rules ((lister_kind stream_parts).request lister)) taken.octets (taken.written ++ new.text) left ended
ends-listed lister new ended f taken left o =
    ends-by lister taken o.done (taken.written ++ new.text) left ended (o.read (λ full. full))
    (ap (λ l. taken.written ++ l) f.lines ∙ text-is lister taken o.done)
    (f.ended_so
    ∙ ap₂ counted_run_end
    (at_once-more o.done.lines.listed (listed_last lister) lister.lines.is_refused_at_once lister.lines.messages lister.lines.refused o.done.lines.at_once o.done.lines.messages o.done.lines.refused)
    (ap (λ k. k + refused_in (listed_last lister)) o.done.lines.refused))
