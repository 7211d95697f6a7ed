-- What is told of the octets of a segment that begins nothing where a direction ended.
use Rattle.std.proofs.Common.{◌≡◌, ℕ, Bool, true, false, List, [], length, Some, None, refl, ◌∙◌, ap}
use Rattle.std.specs.Prelude.{not, ◌&&◌, ◌||◌, is_some, nat_lt}
use Rattle.std.proofs.lemmas.Bool.{true≢false}
use Rattle.krb_der.specs.Octets.{when}
use Rattle.krb_packet.specs.declared.contents.Segment.{Segment}
use Rattle.krb_source.specs.declared.unread_why.UnreadWhy.TheVariants as why
use Rattle.krb_flow.specs.Directions.{Begun, Outcome, end_of, ended, first_number, goes_on, is_copy_of, is_first, joined, may_join}
use Rattle.krb_flow.specs.Progress.{begun}
use Rattle.krb_flow.specs.Unread.{if_any, nothing, of_reset, untaken_after, untaken_at, untaken_copy, untaken_of}
use Rattle.krb_flow.specs.Window.{last, recent, stream_at}
use Rattle.krb_flow.specs.declared.direction.Beginning.TheVariants as beginnings
use Rattle.krb_flow.specs.declared.direction.State.{State}
use Rattle.krb_flow.specs.declared.direction.State.TheVariants as states
use Rattle.krb_flow.specs.declared.had.Had.{Had}
use Rattle.krb_flow.specs.declared.unread.Untaken.{Untaken}
use Rattle.krb_capture.specs.Directions.{begins}
use Rattle.krb_capture.specs.Sending.{step_of}

module _ (had : Had) (stream : List ℕ) (segment : Segment) where
  abbrev begun_by : Bool → Bool → Begun
  begun_by syn joins = when syn (λ _. (end_of (states.Ended had), Some beginnings.Syn, states.Open (begun (first_number segment)))) (λ _. when joins (λ _. (None, Some beginnings.Joined, states.Open (begun (first_number segment)))) (λ _. (None, None, states.Ended had)))

  abbrev stepped_by : Bool → Bool → Bool → Outcome × State
  stepped_by rst syn joins = when rst (λ _. (record { before = None; begins = None; octets = []; end = end_of (states.Ended had) }, ended (states.Ended had))) (λ _. joined (begun_by syn joins) (goes_on (begun_by syn joins).2 segment))

  abbrev reset_by : Bool → Untaken
  reset_by rst = record nothing { apart = when rst (λ _. if_any None (length segment.payload.octets) why.Reset) (λ _. None) }

  abbrev untaken_by : Bool → Bool → Bool → Untaken
  untaken_by rst syn joins = when rst (λ _. reset_by rst) (λ _. untaken_at (begun_by syn joins).2 (recent (begun_by syn joins).2 (stream_at (begun_by syn joins).1 stream)) segment)

  abbrev passed_by : Bool → Untaken
  passed_by rst = when rst (λ _. reset_by rst) (λ _. untaken_after (last 4096 stream) had segment)

  by_tests : (r s j : Bool) → is_some (stepped_by r s j).0.begins ≡ false → untaken_by r s j ≡ passed_by r
  by_tests true s j e = refl
  by_tests false true j e = absurd (true≢false e)
  by_tests false false true e = absurd (true≢false e)
  by_tests false false false e = refl

  -- its octets are those of a RST, or copies
  pub untaken-passed : (step_of (states.Ended had) segment).began ≡ false → untaken_of (states.Ended had) stream segment ≡ passed_by segment.rst
  untaken-passed e = by_tests segment.rst (segment.syn && not (is_first (states.Ended had) (first_number segment))) (may_join (states.Ended had) segment && nat_lt 0 segment.payload.size) e

  pub untaken-copied : segment.rst ≡ false → (step_of (states.Ended had) segment).began ≡ false → untaken_of (states.Ended had) stream segment ≡ untaken_after (last 4096 stream) had segment
  untaken-copied r e = untaken-passed e ∙ ap passed_by r

  -- of one without data there are none
  and-false : (b : Bool) → (b && false) ≡ false
  and-false true = refl
  and-false false = refl

  pub untaken-none : (step_of (states.Ended had) segment).began ≡ false → begins segment ≡ false → untaken_of (states.Ended had) stream segment ≡ record nothing { apart = of_reset segment }
  untaken-none e b = untaken-passed e ∙ by segment.rst segment.syn (nat_lt 0 segment.payload.size) refl b
    where
      by : (r s n : Bool) → nat_lt 0 segment.payload.size ≡ n → (not r && (s || n)) ≡ false → passed_by r ≡ reset_by r
      by true s n en b = refl
      by false true n en b = absurd (true≢false b)
      by false false true en b = absurd (true≢false b)
      by false false false en b =
          ap (λ (x : Bool). when (is_copy_of had segment && x) (λ _. untaken_copy (last 4096 stream) had segment) (λ _. nothing)) en
          ∙ ap (λ (x : Bool). when x (λ _. untaken_copy (last 4096 stream) had segment) (λ _. nothing)) (and-false (is_copy_of had segment))
