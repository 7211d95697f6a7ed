-- Frames of messages that are listed one after another.
use Rattle.std.proofs.Common.{◌≡◌, ℕ, ◌^◌, Bool, true, false, List, [], ◌∷◌, length, take, refl, ◌∙◌, ap, arith}
use Rattle.std.specs.Prelude.{◌&&◌, nat_le, nat_lt}
use Rattle.std.specs.List.{AllByRecursion}
use Rattle.std.proofs.lemmas.Bool.{lt-leb}
use Rattle.krb_der.specs.Octets.{number}
use Rattle.krb_frame.specs.Deliveries.{DeliversPiece, IsFollowed, Received}
use Rattle.krb_frame.specs.GoingOn.{Entry, Contents, Fault, Skipping}
use Rattle.krb_frame.specs.declared.delivery.Delivered.{Delivered}
use Rattle.krb_frame.specs.declared.delivery.Delivered.TheVariants as delivered
use Rattle.krb_capture.specs.Found.{with_all}
use Rattle.krb_capture.specs.Listed.{ListsEntry}
use Rattle.krb_capture.specs.Streams.{after_entries, entries_found}
use Rattle.krb_capture.specs.Taken.{IsDone}
use Rattle.krb_capture.specs.declared.message_frames.FrameLister.{FrameLister}

pub record ListsEntries (old : FrameLister) (frames : List Entry) (new : FrameLister) : Type 0 where
  pub same : new.listing.ghost_name ≡ old.listing.ghost_name
  pub origin : new.origin ≡ old.origin
  pub profile : new.profile ≡ old.profile
  pub offset : new.offset ≡ after_entries old.offset frames
  pub listed : new.listing.now ≡ with_all old.origin.now (entries_found old.profile old.offset frames) old.listing.now

pub lists-entries : (old : FrameLister) (frames : List Entry) (new : FrameLister) → Received ListsEntry old frames new → ListsEntries old frames new
lists-entries old [] new e = record {
  same = ap (λ (l : FrameLister). l.listing.ghost_name) e;
  origin = ap (λ (l : FrameLister). l.origin) e;
  profile = ap (λ (l : FrameLister). l.profile) e;
  offset = ap (λ (l : FrameLister). l.offset) e;
  listed = ap (λ (l : FrameLister). l.listing.now) e;
}
lists-entries old (x ∷ xs) new (between, first, others) =
    let l : ListsEntries between xs new = lists-entries between xs new others in
    record {
      same = l.same ∙ first.same;
      origin = l.origin ∙ first.origin;
      profile = l.profile ∙ first.profile;
      offset = l.offset ∙ ap (λ n. after_entries n xs) first.offset;
      listed = l.listed ∙ (λ i. with_all (first.origin i).now (entries_found (first.profile i) (first.offset i) xs) (first.listed i));
    }

pub piece-same : (IsFull : FrameLister → Type 0) (old new : Skipping) (octets : List ℕ) (start end : FrameLister) (d : Delivered) → DeliversPiece ListsEntry IsFull true old octets new start end d → end.listing.ghost_name ≡ start.listing.ghost_name
piece-same IsFull old new octets start end (delivered.UpTo rest) l = (lists-entries start l.prefix.delivers.frames end l.prefix.delivers.received).same
piece-same IsFull old new octets start end (delivered.Stopped refusal) l = (lists-entries start l.prefix.delivers.frames end l.prefix.delivers.received).same

-- ---- a frame that others may follow
and_false : (b c : Bool) → c ≡ false → (b && c) ≡ false
and_false true c e = e
and_false false c e = refl

followed_done : (x : Entry) → IsFollowed x → IsDone x
followed_done (Contents contents) f = (refl, refl)
followed_done (Fault place reason prefix) f = (
  lt-leb (length prefix) place (omega (arith, f.0)),
  and_false (nat_lt place (length prefix)) (nat_le (2 ^ 31) (number (take 4 prefix))) (lt-leb (2 ^ 31) (number (take 4 prefix)) f.1),
)

pub all_followed : (xs : List Entry) → AllByRecursion IsFollowed xs → AllByRecursion IsDone xs
all_followed [] f = tt
all_followed (x ∷ xs) f = (followed_done x f.0, all_followed xs f.1)
