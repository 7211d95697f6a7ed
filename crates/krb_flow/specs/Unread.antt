-- Octets of a segment that were captured and are not delivered, and are no copies of others.
use Rattle.std.specs.Prelude.{ℕ, ◌+◌, ◌-◌, ◌%◌, ◌^◌, min, nat_lt, if◌then◌else◌, Bool, true, false, ◌&&◌, ◌||◌, ◌==◌, Option, Some, None, List, [], ◌∷◌, length, drop, slice_get}
use Rattle.krb_der.specs.Octets.{when}
use Rattle.krb_packet.specs.Payloads.{Captured}
use Rattle.krb_packet.specs.declared.contents.Segment.{Segment}
use Rattle.krb_source.specs.declared.unread_why.UnreadWhy.{UnreadWhy}
use Rattle.krb_source.specs.declared.unread_why.UnreadWhy.TheVariants as why
use Rattle.krb_flow.specs.Copies.{differing, differs_taken, differs_waiting, old_of}
use Rattle.krb_flow.specs.Serial.{ahead, behind, distance}
use Rattle.krb_flow.specs.Progress.{Progress}
use Rattle.krb_flow.specs.Directions.{begins, distance_to, first_number, is_copy_of, is_far, passes_all, start}
use Rattle.krb_flow.specs.Window.{recent, stream_at}
use Rattle.krb_flow.specs.declared.direction.State.{State}
use Rattle.krb_flow.specs.declared.direction.State.TheVariants.{Fresh, Open, Ended}
use Rattle.krb_flow.specs.declared.had.Had.{Had}
use Rattle.krb_flow.specs.declared.serial.Distance.{Distance}
use Rattle.krb_flow.specs.declared.unread.Unread.{Unread}
use Rattle.krb_flow.specs.declared.unread.Untaken.{Untaken}

-- octets from a place on, if there are any
abbrev pub if_any : Option ℕ → ℕ → UnreadWhy → Option Unread
if_any place octets reason = when (nat_lt 0 octets) (λ _. Some (record { place = place; octets = octets; why = reason })) (λ _. None)

-- those at the places at which copies differ, from the first of them on
abbrev pub of_differing : List ℕ → Option Unread
of_differing places = if_any (slice_get places 0) (length places) why.Differs

abbrev pub nothing : Untaken
nothing = record { apart = None; old = None; differs = None }

-- ---- octets that are not compared with others

-- those of a RST: it ends the direction whatever its number is, so they have no place
abbrev pub of_reset : Segment → Option Unread
of_reset segment = when segment.rst (λ _. if_any None (length segment.payload.octets) why.Reset) (λ _. None)

-- those of a segment that begins too far ahead
abbrev pub of_far : Progress → Segment → Option Unread
of_far progress segment = if_any (Some (start progress.expected (distance_to progress segment))) (length segment.payload.octets) why.Ahead

-- how many places before octet 0 a segment begins
abbrev pub before_first : Progress → Segment → ℕ
before_first progress segment = behind (distance_to progress segment) - progress.expected

-- those before octet 0
abbrev pub of_before : Progress → Segment → Option Unread
of_before progress segment = if_any (Some (before_first progress segment)) (min (before_first progress segment) (length segment.payload.octets)) why.Before

-- ---- keep-alives
abbrev pub is_zero : Option ℕ → Bool
is_zero None = false
is_zero (Some octet) = octet == 0

-- one octet 00
abbrev pub is_one_zero : Captured → Bool
is_one_zero payload = payload.size == 1 && is_zero (slice_get payload.octets 0)

-- right before the one that is due (RFC 9293, 3.8.4)
abbrev pub is_keep_alive : Distance → Captured → Bool
is_keep_alive distance payload = behind distance == 1 && is_one_zero payload

-- or, of a direction that ended, at the place of its FIN, if that was due
abbrev pub is_keep_alive_after : Had → Distance → Captured → Bool
is_keep_alive_after had distance payload = is_keep_alive distance payload || ((behind distance == 0 && had.at_fin) && is_one_zero payload)

-- ---- a direction that is open, with the last octets that it took

-- whether an octet at a place is not the one that was taken there, or that waits there
abbrev pub differs_in : List ℕ → Progress → ℕ → ℕ → Bool
differs_in kept progress place octet = if nat_lt place progress.expected then differs_taken kept progress.expected place octet else differs_waiting progress.waiting place octet

-- the place of a segment's first octet that is not before octet 0, and these octets
abbrev pub place_in : Progress → Segment → ℕ
place_in progress segment = start progress.expected (distance_to progress segment) - behind (distance_to progress segment)

abbrev pub octets_in : Progress → Segment → List ℕ
octets_in progress segment = drop (before_first progress segment) segment.payload.octets

-- of a segment that does not begin too far ahead
abbrev pub untaken_near : List ℕ → Progress → Segment → Untaken
untaken_near kept progress segment =
    let place = place_in progress segment in
    let octets = octets_in progress segment in
    when (is_keep_alive (distance_to progress segment) segment.payload) (λ _. nothing) (λ _. record {
      apart = of_before progress segment;
      old = if_any (Some place) (old_of kept progress.expected place octets) why.Old;
      differs = of_differing (differing (differs_in kept progress) place octets);
    })

abbrev pub untaken_in : List ℕ → Progress → Segment → Untaken
untaken_in kept progress segment =
    when (passes_all progress segment) (λ _. nothing) (λ _.
    when (is_far progress segment) (λ _. record nothing { apart = of_far progress segment }) (λ _.
    untaken_near kept progress segment))

-- ---- a direction that ended

-- the distance of a segment from the octet that was due then
abbrev pub distance_after : Had → Segment → Distance
distance_after had segment = distance ((had.first + had.expected % 2 ^ 32) % 2 ^ 32) (first_number segment)

-- none was taken at the place of its FIN
abbrev pub differs_after : List ℕ → Had → ℕ → ℕ → Bool
differs_after kept had place octet = if nat_lt place had.expected then differs_taken kept had.expected place octet else true

abbrev pub untaken_copy : List ℕ → Had → Segment → Untaken
untaken_copy kept had segment =
    let place = had.expected - behind (distance_after had segment) in
    when (is_keep_alive_after had (distance_after had segment) segment.payload) (λ _. nothing) (λ _. record {
      apart = None;
      old = if_any (Some place) (old_of kept had.expected place segment.payload.octets) why.Old;
      differs = of_differing (differing (differs_after kept had) place segment.payload.octets);
    })

-- a segment with data that is a copy of octets that it had is compared with them
abbrev pub untaken_after : List ℕ → Had → Segment → Untaken
untaken_after kept had segment = when (is_copy_of had segment && nat_lt 0 segment.payload.size) (λ _. untaken_copy kept had segment) (λ _. nothing)

-- ---- a direction

abbrev pub untaken_at : State → List ℕ → Segment → Untaken
untaken_at Fresh kept segment = nothing
untaken_at (Open progress) kept segment = untaken_in kept progress segment
untaken_at (Ended had) kept segment = untaken_after kept had segment

-- with a segment, after the octets that were taken since it began: its RST comes first, and it may begin the direction
abbrev pub untaken_of : State → List ℕ → Segment → Untaken
untaken_of state stream segment =
    when segment.rst (λ _. record nothing { apart = of_reset segment }) (λ _.
    let begun = begins state segment in untaken_at begun.2 (recent begun.2 (stream_at begun.1 stream)) segment)
