-- A direction of a TCP connection: the outcome of each of its segments, in the order in which they were captured (RFC 9293, 3.4 and 3.10).
use Rattle.std.specs.Prelude.{ℕ, ◌+◌, ◌-◌, ◌%◌, ◌^◌, max, min, Bool, true, false, not, ◌&&◌, ◌||◌, ◌==◌, nat_lt, nat_le, Option, Some, None, List, [], ◌∷◌, ◌++◌, length, drop}
use Rattle.std.specs.Int.{from_bool}
use Rattle.krb_der.specs.Octets.{when}
use Rattle.krb_packet.specs.declared.contents.Segment.{Segment}
use Rattle.krb_flow.specs.Serial.{ahead, behind, distance}
use Rattle.krb_flow.specs.Waiting.{Waiting, keep, ready, early}
use Rattle.krb_flow.specs.Progress.{Progress, begun}
use Rattle.krb_flow.specs.declared.serial.Distance.{Distance}
use Rattle.krb_flow.specs.declared.stream.TheConstants.{MOST_AHEAD, MOST_OCTETS, MOST_WAITING}
use Rattle.krb_flow.specs.declared.stream.End.{End}
use Rattle.krb_flow.specs.declared.stream.End.TheVariants as ends
use Rattle.krb_flow.specs.declared.direction.Beginning.{Beginning}
use Rattle.krb_flow.specs.declared.direction.Beginning.TheVariants as beginnings
use Rattle.krb_flow.specs.declared.direction.Taken.{Taken}
use Rattle.krb_flow.specs.declared.had.Had.{Had}
use Rattle.krb_flow.specs.declared.direction.State.{State}
use Rattle.krb_flow.specs.declared.direction.State.TheVariants.{Fresh, Open, Ended}

-- ---- the places of the octets of a segment

-- the sequence number of the first octet; that of a SYN is the one before
abbrev pub first_number : Segment → ℕ
first_number segment = (segment.sequence + from_bool segment.syn) % 2 ^ 32

-- its distance from that of the next octet expected
abbrev pub distance_to : Progress → Segment → Distance
distance_to progress segment = distance ((progress.first + progress.expected % 2 ^ 32) % 2 ^ 32) (first_number segment)

-- the place of the first octet that is not before the one expected
abbrev pub start : ℕ → Distance → ℕ
start expected distance = expected + ahead distance

-- the place after the last octet on the wire, unless that is before octet 0
abbrev pub end_place : ℕ → Distance → ℕ → Option ℕ
end_place expected distance size = when (nat_lt (start expected distance + size) (behind distance)) (λ _. None) (λ _. Some (start expected distance + size - behind distance))

-- ---- a segment is delivered

-- whether a segment would pass the greatest place
abbrev pub passes_all : Progress → Segment → Bool
passes_all progress segment = nat_le MOST_OCTETS (progress.expected + segment.payload.size)

-- whether it begins too far ahead
abbrev pub is_far : Progress → Segment → Bool
is_far progress segment = nat_lt MOST_AHEAD (ahead (distance_to progress segment))

-- either is skipped
abbrev pub is_skipped : Progress → Segment → Bool
is_skipped progress segment = is_far progress segment || passes_all progress segment

-- the octets that wait, with those of the segment; its octets before the one expected are copies of delivered ones
abbrev pub kept : Progress → Segment → Waiting
kept progress segment =
    let distance = distance_to progress segment in
    keep (start progress.expected distance) (drop (behind distance) segment.payload.octets) progress.waiting

-- the octets that are delivered with a segment: an octet is delivered once all before it are
abbrev pub delivered : Progress → Segment → List ℕ
delivered progress segment = ready progress.expected (kept progress segment)

abbrev pub later : Option ℕ → ℕ → ℕ
later None place = place
later (Some other) place = max place other

abbrev pub earlier : Option ℕ → Option ℕ → Option ℕ
earlier None place = place
earlier (Some other) None = Some other
earlier (Some other) (Some place) = Some (min place other)

abbrev pub seen_with : Progress → Segment → ℕ
seen_with progress segment =
    when (nat_lt 0 segment.payload.size || segment.fin) (λ _. later (end_place progress.expected (distance_to progress segment) segment.payload.size) progress.seen) (λ _. progress.seen)

-- a place that is before the octet expected is old
abbrev pub unless_old : ℕ → Option ℕ → Option ℕ
unless_old expected None = None
unless_old expected (Some place) = when (nat_lt place expected) (λ _. None) (λ _. Some place)

-- the place of the FIN, which follows the octets of its segment; an old one is passed over, as a receiver drops it (RFC 9293, 3.10.7.4)
abbrev pub fin_with : Progress → Segment → Option ℕ
fin_with progress segment =
    when segment.fin (λ _. earlier (unless_old progress.expected (end_place progress.expected (distance_to progress segment) segment.payload.size)) progress.fin) (λ _. progress.fin)

abbrev pub advanced : Progress → Segment → Progress
advanced progress segment = record progress {
  expected = progress.expected + length (delivered progress segment);
  waiting = early progress.expected (kept progress segment);
  seen = seen_with progress segment;
  fin = fin_with progress segment;
}

-- what is known of a segment that begins too far ahead: where its octets end, and the place of the first one if that was captured
abbrev pub far_with : Progress → Segment → Option ℕ
far_with progress segment =
    when (nat_lt 0 (length segment.payload.octets)) (λ _. earlier (Some (start progress.expected (distance_to progress segment))) progress.far) (λ _. progress.far)

abbrev pub glimpsed : Progress → Segment → Progress
glimpsed progress segment = record progress { seen = seen_with progress segment; far = far_with progress segment }

-- the octets that are delivered with a segment, and the progress then
abbrev pub deliver : Progress → Segment → List ℕ × Progress
deliver progress segment =
    when (passes_all progress segment) (λ _. ([], progress)) (λ _.
    when (is_far progress segment) (λ _. ([], glimpsed progress segment)) (λ _.
    (delivered progress segment, advanced progress segment)))

-- ---- the end

-- whether all octets before the FIN were delivered, or too many wait
abbrev pub is_reached : Option ℕ → ℕ → Bool
is_reached None expected = false
is_reached (Some fin) expected = nat_le fin expected

abbrev pub is_over : Progress → Bool
is_over progress = is_reached progress.fin progress.expected || nat_lt MOST_WAITING (length progress.waiting)

-- The octets that are known to be missing are those before the next one that was captured: the first one that waits, or that began too far ahead. If there is none, they are those up to the last one that was seen.
abbrev pub first_place : Waiting → Option ℕ
first_place [] = None
first_place (entry ∷ entries) = Some entry.0

abbrev pub if_later : ℕ → Option ℕ → Option ℕ
if_later expected None = None
if_later expected (Some place) = when (nat_lt expected place) (λ _. Some place) (λ _. None)

abbrev pub or_seen : ℕ → Option ℕ → ℕ
or_seen seen None = seen
or_seen seen (Some place) = place

abbrev pub next_place : Progress → ℕ
next_place progress = or_seen progress.seen (earlier (first_place progress.waiting) (if_later progress.expected progress.far))

abbrev pub missing : ℕ → ℕ → End
missing expected place = when (nat_lt expected place) (λ _. ends.Lost (record { place = expected; octets = place - expected })) (λ _. ends.Complete)

abbrev pub ending : Progress → End
ending progress = missing progress.expected (next_place progress)

-- ---- a direction that ended

-- whether a FIN is at a place
abbrev pub is_fin_at : ℕ → Option ℕ → Bool
is_fin_at place None = false
is_fin_at place (Some fin) = fin == place

-- what it had: the number of its octet 0, the place of the octet that was due then, and whether its FIN was due there
abbrev pub had : Progress → Had
had progress = record { first = progress.first; expected = progress.expected; at_fin = is_fin_at progress.expected progress.fin }

-- whether octets are all among those that a direction had, or at the place of its FIN. Keep-alives have one octet there.
abbrev pub is_among : Had → Distance → ℕ → Bool
is_among had distance size = nat_le (behind distance) had.expected && nat_le (ahead distance + size) (behind distance + from_bool had.at_fin)

abbrev pub is_copy_of : Had → Segment → Bool
is_copy_of had segment = is_among had (distance ((had.first + had.expected % 2 ^ 32) % 2 ^ 32) (first_number segment)) segment.payload.size

-- ---- a direction, which may begin again

abbrev pub end_of : State → Option End
end_of (Open progress) = Some (ending progress)
end_of Fresh = None
end_of (Ended had) = None

abbrev pub ended : State → State
ended Fresh = Fresh
ended (Open progress) = Ended (had progress)
ended (Ended had) = Ended had

-- what a direction had that ended
abbrev pub had_of : State → Option Had
had_of Fresh = None
had_of (Open progress) = None
had_of (Ended had) = Some had

-- whether an octet is octet 0 of the direction, by its number; a SYN before that is a copy
abbrev pub is_first : State → ℕ → Bool
is_first Fresh number = false
is_first (Open progress) number = progress.first == number
is_first (Ended had) number = had.first == number

-- whether data begin the direction: if nothing came, or if it ended and these are no copies
abbrev pub may_join : State → Segment → Bool
may_join Fresh segment = true
may_join (Open progress) segment = false
may_join (Ended had) segment = not (is_copy_of had segment)

-- how the direction before ended, how this one began, and the state then
abbrev pub Begun : Type 0
Begun = Option End × Option Beginning × State

-- data begin the direction at their first octet
abbrev pub at_data : State → Segment → Begun
at_data state segment = when (may_join state segment && nat_lt 0 segment.payload.size) (λ _. (None, Some beginnings.Joined, Open (begun (first_number segment)))) (λ _. (None, None, state))

-- a SYN that is no copy begins the direction again; octet 0 has the sequence number after that of the SYN
abbrev pub begins : State → Segment → Begun
begins state segment = when (segment.syn && not (is_first state (first_number segment))) (λ _. (end_of state, Some beginnings.Syn, Open (begun (first_number segment)))) (λ _. at_data state segment)

-- the octets that are delivered, how the direction ended with them, and the state then
abbrev pub Delivery : Type 0
Delivery = List ℕ × Option End × State

abbrev pub unless_over : List ℕ × Progress → Delivery
unless_over went = when (is_over went.1) (λ _. (went.0, Some (ending went.1), Ended (had went.1))) (λ _. (went.0, None, Open went.1))

abbrev pub goes_on : State → Segment → Delivery
goes_on Fresh segment = ([], None, Fresh)
goes_on (Open progress) segment = unless_over (deliver progress segment)
goes_on (Ended had) segment = ([], None, Ended had)

-- The outcome of a segment: how the direction before a SYN ended, how this one began, the octets that are delivered, and how it ended.
pub record Outcome : Type 0 where
  pub before : Option End
  pub begins : Option Beginning
  pub octets : List ℕ
  pub end : Option End

-- the outcome that a function returns: the octets borrowed from the segment, and those that waited
abbrev pub outcome_of : Taken → List ℕ → Outcome
outcome_of delivered waited = record { before = delivered.before; begins = delivered.begins; octets = delivered.octets.now ++ waited; end = delivered.end }

abbrev pub joined : Begun → Delivery → Outcome × State
joined begun gone = (record { before = begun.0; begins = begun.1; octets = gone.0; end = gone.1 }, gone.2)

-- the outcome of a segment, and the state then; a RST ends the direction
abbrev pub step : State → Segment → Outcome × State
step state segment =
    when segment.rst (λ _. (record { before = None; begins = None; octets = []; end = end_of state }, ended state)) (λ _.
    let begun = begins state segment in joined begun (goes_on begun.2 segment))

-- the outcomes of all segments, and the state after them
abbrev pub outcomes : State → List Segment → List Outcome
outcomes state [] = []
outcomes state (segment ∷ segments) = (step state segment).0 ∷ outcomes (step state segment).1 segments

abbrev pub after : State → List Segment → State
after state [] = state
after state (segment ∷ segments) = after (step state segment).1 segments
