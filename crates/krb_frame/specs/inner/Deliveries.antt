-- The contracts of the parts of a delivery.
use Rattle.std.specs.Prelude.{ℕ, ◌≡◌, ◌<◌, ◌≤◌, Bool, true, false, Option, Some, None, List, [], ◌++◌, length, take}
use Rattle.std.specs.List.{AllByRecursion}
use Rattle.krb_msg.specs.Grammar.{messages}
use Rattle.krb_msg.specs.Term.{Term}
use Rattle.krb_frame.specs.Decoding.{Decoding, borrowed}
use Rattle.krb_frame.specs.Deliveries.{IsMessage, Delivers, DeliversBefore, DeliversPrefix, DeliversUpTo, status_in}
use Rattle.krb_frame.specs.Feeds.{Clears, Feeds}
use Rattle.krb_frame.specs.GoingOn.{Entry, Contents, Skipping}
use Rattle.krb_frame.specs.declared.decoder.Status.TheVariants as status
use Rattle.krb_frame.specs.declared.delivery.Next.{Next}
use Rattle.krb_frame.specs.declared.delivery.Next.TheVariants as next

-- ---- a frame of which earlier pieces have some octets
-- A message was received, as if the first octets of a piece had been fed and the frame cleared.
pub record CompletesWith {R : Type 0} (receives : R → Entry → R → Type 0) (messages : List Term) (old : Decoding) (piece : List ℕ) (used : ℕ) (new : Decoding) (before after : R) : Type 0 where
  pub contents : List ℕ
  pub ready : Decoding
  pub feeds : Feeds messages old piece ready (record { used = used; status = status.Ready })
  pub is_ready : borrowed messages ready ≡ Some contents
  pub clears : Clears messages ready (record ready { octets = []; capacity = new.capacity }) true
  pub profile : new.profile ≡ old.profile
  pub limit : new.limit ≡ old.limit
  pub none : new.octets ≡ []
  pub some : 0 < used
  pub received : receives before (Contents contents) after

-- or nothing changed but for the capacity
abbrev pub Completes : {R : Type 0} → (R → Entry → R → Type 0) → List Term → Decoding → List ℕ → Decoding → R → R → Option ℕ → Type 0
Completes receives messages old piece new before after None = (new ≡ record old { capacity = new.capacity }) × (after ≡ before)
Completes receives messages old piece new before after (Some used) = CompletesWith receives messages old piece used new before after

-- one frame was delivered, a message if one does not keep going, and the next one may come
pub record DeliversOne {R : Type 0} (receives : R → Entry → R → Type 0) (keeps_going : Bool) (old : Skipping) (octets : List ℕ) (new : Skipping) (before after : R) : Type 0 where
  pub delivers : Delivers receives old octets new before after
  pub stops : keeps_going ≡ false → AllByRecursion IsMessage delivers.frames
  pub some : 0 < length delivers.frames
  pub waits : status_in new ≡ status.More

abbrev pub CompletesEntry : {R : Type 0} → (R → Entry → R → Type 0) → Skipping → List ℕ → Skipping → R → R → Option ℕ → Type 0
CompletesEntry receives old piece new before after None = (keeps_going : Bool) → DeliversPrefix receives keeps_going old piece piece new before after
CompletesEntry receives old piece new before after (Some used) = (used ≤ length piece) × ((keeps_going : Bool) → DeliversOne receives keeps_going old (take used piece) new before after)

-- ---- what comes next
pub record DeliversFrame {R : Type 0} (receives : R → Entry → R → Type 0) (keeps_going : Bool) (old : Skipping) (piece rest : List ℕ) (new : Skipping) (before after : R) : Type 0 where
  pub used : List ℕ
  pub parts : piece ≡ used ++ rest
  pub one : DeliversOne receives keeps_going old used new before after

abbrev pub DeliversNext : {R : Type 0} → (R → Entry → R → Type 0) → Bool → Skipping → List ℕ → Skipping → R → R → Next → Type 0
DeliversNext receives keeps_going old piece new before after (next.Frame rest) = DeliversFrame receives keeps_going old piece rest.now new before after
DeliversNext receives keeps_going old piece new before after next.Part = DeliversUpTo receives (λ r. ⊥) keeps_going old piece [] new before after
DeliversNext receives keeps_going old piece new before after (next.Stopped refusal) = DeliversBefore receives keeps_going old piece refusal new before after
