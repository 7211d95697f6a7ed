-- Octets of a segment that are not taken are at places below 2^64, and fewer than 2^64.
use Rattle.std.proofs.Common.{ℕ, ◌+◌, ◌-◌, ◌%◌, ◌^◌, ◌<◌, ◌≤◌, nat_lt, ◌&&◌, Bool, true, false, if◌then◌else◌, List, [], ◌∷◌, length, Option, Some, None, IfSome, arith, length-drop}
use Rattle.std.specs.Prelude.{min, slice_get}
use Rattle.std.specs.List.{AllByRecursion}
use Rattle.krb_der.specs.Octets.{when}
use Rattle.krb_packet.specs.declared.contents.Segment.{Segment}
use Rattle.krb_source.specs.declared.unread_why.UnreadWhy.{UnreadWhy}
use Rattle.krb_source.specs.declared.unread_why.UnreadWhy.TheVariants as why
use Rattle.krb_flow.specs.Copies.{differing, old_of}
use Rattle.krb_flow.specs.Directions.{begins, distance_to, first_number, is_copy_of, is_far, passes_all, start}
use Rattle.krb_flow.specs.Progress.{Progress}
use Rattle.krb_flow.specs.Serial.{behind}
use Rattle.krb_flow.specs.Unread.{before_first, differs_after, differs_in, distance_after, if_any, is_keep_alive, is_keep_alive_after, nothing, octets_in, of_before, of_differing, of_far, of_reset, place_in, untaken_at, untaken_copy, untaken_in, untaken_near, untaken_of}
use Rattle.krb_flow.specs.Window.{recent, stream_at}
use Rattle.krb_flow.specs.declared.direction.State.{State}
use Rattle.krb_flow.specs.declared.direction.State.TheVariants.{Fresh, Open, Ended}
use Rattle.krb_flow.specs.declared.had.Had.{Had}
use Rattle.krb_flow.specs.declared.unread.Unread.{Unread}
use Rattle.krb_flow.specs.declared.unread.Untaken.{Untaken}
use Rattle.krb_flow.proofs.Differences.{few_differing}
use Rattle.krb_tool_laws.proofs.CaptureParts.{HasOctets, either_has, either_if}
use Rattle.krb_tool_laws.proofs.FlowOctets.{IsHad, IsPlace, IsPlaceIf, IsProgress, IsState, begun_state, behind_small, start_small}
use Rattle.krb_tool_laws.proofs.FragmentOctets.{one_at}

-- ---- where they are, and how many
pub record IsUnread (octets : Unread) : Type 0 where
  pub place : IsPlaceIf octets.place
  pub few : octets.octets < 2 ^ 64

abbrev IsUnreadIf : Option Unread → Type 0
IsUnreadIf octets = IfSome octets IsUnread

pub record IsUntaken (untaken : Untaken) : Type 0 where
  pub apart : IfSome untaken.apart IsUnread
  pub old : IfSome untaken.old IsUnread
  pub differs : IfSome untaken.differs IsUnread

any_is : (place : Option ℕ) (octets : ℕ) (reason : UnreadWhy) → IsPlaceIf place → octets < 2 ^ 64 → IsUnreadIf (if_any place octets reason)
any_is place octets reason a b = either_if IsUnread (nat_lt 0 octets) (λ _. Some (record { place = place; octets = octets; why = reason })) (λ _. None) (record { place = a; few = b }) tt

pub nothing_is : IsUntaken nothing
nothing_is = record { apart = tt; old = tt; differs = tt }

apart_is : (octets : Option Unread) → IsUnreadIf octets → IsUntaken (record nothing { apart = octets })
apart_is octets is = record { apart = is; old = tt; differs = tt }

reset_is : (segment : Segment) → HasOctets segment.payload → IsUnreadIf (of_reset segment)
reset_is segment is = either_if IsUnread segment.rst (λ _. if_any None (length segment.payload.octets) why.Reset) (λ _. None) (any_is None (length segment.payload.octets) why.Reset tt (omega (arith, is.fits, is.small))) tt

pub reset_untaken : (segment : Segment) → HasOctets segment.payload → IsUntaken (record nothing { apart = of_reset segment })
reset_untaken segment is = apart_is (of_reset segment) (reset_is segment is)

-- ---- copies
differing_before : (differs : ℕ → ℕ → Bool) (most place : ℕ) (octets : List ℕ) → place + length octets ≤ most → AllByRecursion (λ other. other < most) (differing differs place octets)
differing_before differs most place [] few = tt
differing_before differs most place (octet ∷ octets) few = by (differing_before differs most (place + 1) octets (omega (arith, few))) (differs place octet)
  where
    by : AllByRecursion (λ other. other < most) (differing differs (place + 1) octets) → (is : Bool) → AllByRecursion (λ other. other < most) (if is then place ∷ differing differs (place + 1) octets else differing differs (place + 1) octets)
    by others true = (omega (arith, few), others)
    by others false = others

differing_is : (differs : ℕ → ℕ → Bool) (place : ℕ) (octets : List ℕ) → place + length octets ≤ 2 ^ 64 → length octets < 2 ^ 64 → IsUnreadIf (of_differing (differing differs place octets))
differing_is differs place octets few small =
    any_is (slice_get (differing differs place octets) 0) (length (differing differs place octets)) why.Differs (one_at IsPlace (differing differs place octets) 0 (differing_before differs (2 ^ 64) place octets few)) (omega (arith, few_differing differs place octets, small))

old_few : (kept : List ℕ) (expected place : ℕ) (octets : List ℕ) → length octets < 2 ^ 64 → old_of kept expected place octets < 2 ^ 64
old_few kept expected place octets few = omega (arith, few)

-- ---- a direction that is open
module _ (progress : Progress) (segment : Segment) (are : IsProgress progress) (is : HasOctets segment.payload) where
  back : behind (distance_to progress segment) < 2 ^ 32
  back = behind_small ((progress.first + progress.expected % 2 ^ 32) % 2 ^ 32) (first_number segment)

  far_is : IsUnreadIf (of_far progress segment)
  far_is = any_is (Some (start progress.expected (distance_to progress segment))) (length segment.payload.octets) why.Ahead (omega (arith, start_small progress segment are)) (omega (arith, is.fits, is.small))

  before_is : IsUnreadIf (of_before progress segment)
  before_is = any_is (Some (before_first progress segment)) (min (before_first progress segment) (length segment.payload.octets)) why.Before (omega (arith, back)) (omega (arith, back))

  near_is : (kept : List ℕ) → IsUntaken (untaken_near kept progress segment)
  near_is kept =
      let few : length (octets_in progress segment) < 2 ^ 32 = omega (arith, length-drop (before_first progress segment) segment.payload.octets, is.fits, is.small) in
      let low : place_in progress segment < 2 ^ 63 + 2 ^ 32 = omega (arith, start_small progress segment are) in
      either_has IsUntaken (is_keep_alive (distance_to progress segment) segment.payload) (λ _. nothing)
      (λ _. record {
        apart = of_before progress segment;
        old = if_any (Some (place_in progress segment)) (old_of kept progress.expected (place_in progress segment) (octets_in progress segment)) why.Old;
        differs = of_differing (differing (differs_in kept progress) (place_in progress segment) (octets_in progress segment));
      })
      nothing_is
      (record {
        apart = before_is;
        old = any_is (Some (place_in progress segment)) (old_of kept progress.expected (place_in progress segment) (octets_in progress segment)) why.Old (omega (arith, low)) (old_few kept progress.expected (place_in progress segment) (octets_in progress segment) (omega (arith, few)));
        differs = differing_is (differs_in kept progress) (place_in progress segment) (octets_in progress segment) (omega (arith, low, few)) (omega (arith, few));
      })

  open_is : (kept : List ℕ) → IsUntaken (untaken_in kept progress segment)
  open_is kept =
      either_has IsUntaken (passes_all progress segment) (λ _. nothing) (λ _. when (is_far progress segment) (λ _. record nothing { apart = of_far progress segment }) (λ _. untaken_near kept progress segment)) nothing_is
      (either_has IsUntaken (is_far progress segment) (λ _. record nothing { apart = of_far progress segment }) (λ _. untaken_near kept progress segment) (apart_is (of_far progress segment) far_is) (near_is kept))

-- ---- one that ended
copy_is : (kept : List ℕ) (had : Had) (segment : Segment) → IsHad had → HasOctets segment.payload → IsUntaken (untaken_copy kept had segment)
copy_is kept had segment are is =
    let place : ℕ = had.expected - behind (distance_after had segment) in
    either_has IsUntaken (is_keep_alive_after had (distance_after had segment) segment.payload) (λ _. nothing)
    (λ _. record {
      apart = None;
      old = if_any (Some place) (old_of kept had.expected place segment.payload.octets) why.Old;
      differs = of_differing (differing (differs_after kept had) place segment.payload.octets);
    })
    nothing_is
    (record {
      apart = tt;
      old = any_is (Some place) (old_of kept had.expected place segment.payload.octets) why.Old (omega (arith, are)) (old_few kept had.expected place segment.payload.octets (omega (arith, is.fits, is.small)));
      differs = differing_is (differs_after kept had) place segment.payload.octets (omega (arith, are, is.fits, is.small)) (omega (arith, is.fits, is.small));
    })

-- ---- a direction
at_is : (state : State) (kept : List ℕ) (segment : Segment) → IsState state → HasOctets segment.payload → IsUntaken (untaken_at state kept segment)
at_is Fresh kept segment are is = nothing_is
at_is (Open progress) kept segment are is = open_is progress segment are is kept
at_is (Ended had) kept segment are is =
    either_has IsUntaken (is_copy_of had segment && nat_lt 0 segment.payload.size) (λ _. untaken_copy kept had segment) (λ _. nothing) (copy_is kept had segment are is) nothing_is

pub untaken_is : (state : State) (stream : List ℕ) (segment : Segment) → IsState state → HasOctets segment.payload → IsUntaken (untaken_of state stream segment)
untaken_is state stream segment are is =
    either_has IsUntaken segment.rst (λ _. record nothing { apart = of_reset segment })
    (λ _. untaken_at (begins state segment).2 (recent (begins state segment).2 (stream_at (begins state segment).1 stream)) segment) (reset_untaken segment is)
    (at_is (begins state segment).2 (recent (begins state segment).2 (stream_at (begins state segment).1 stream)) segment (begun_state state segment are) is)
