-- What is found in a direction is what is found in its stream.
use Rattle.std.proofs.Common.{◌≡◌, ℕ, ◌^◌, ◌<◌, ◌≤◌, ◌⊎◌, inl, inr, Bool, false, List, [], ◌∷◌, ◌++◌, length, drop, Option, Some, None, refl, sym, ◌∙◌, ap, ap₂, append_assoc, append-nil}
use Rattle.std.proofs.Math.ListN.{drop_of_length-le}
use Rattle.krb_packet.specs.declared.contents.Segment.{Segment}
use Rattle.krb_flow.specs.Arrivals.{AllCaptured, AreSegmentsOf, BeginsWith}
use Rattle.krb_flow.specs.Directions.{Outcome, ending, first_number, step}
use Rattle.krb_flow.specs.Laws.{Piece, IsCaptured, segments_of}
use Rattle.krb_flow.specs.Progress.{Progress}
use Rattle.krb_flow.specs.Unread.{untaken_of}
use Rattle.krb_flow.specs.Window.{stream_at}
use Rattle.krb_flow.specs.declared.direction.Beginning.{Beginning}
use Rattle.krb_flow.specs.declared.direction.State.{State}
use Rattle.krb_flow.specs.declared.direction.State.TheVariants.{Fresh, Open, Ended}
use Rattle.krb_flow.specs.declared.stream.End.{End}
use Rattle.krb_flow.specs.declared.stream.End.TheVariants.{Complete}
use Rattle.krb_flow.specs.declared.had.Had.{Had}
use Rattle.krb_capture_laws.proofs.Arriving.{Holds, HadAll, Comes, Goes, Ends, outcome, all_taken, is_complete, comes_next, comes_first, passes_over, still_all}
use Rattle.krb_capture.proofs.Read.{beginning_read, end_read, none_left_of, read_same, unread_parts, with_read}
use Rattle.krb_capture.specs.Found.{Found}
use Rattle.krb_capture.specs.Laws.{RecordsAreOfTheStream, but_unread, compared, direction_found, found_if, still}
use Rattle.krb_capture.specs.Sending.{Sent, after_segment, beginning_found, end_if, nothing_sent, outcome_found, untaken_found}
use Rattle.krb_capture.specs.Streams.{end_found, found_with}
use Rattle.krb_capture.specs.declared.flow.Flow.{Flow}
use Rattle.krb_capture.specs.declared.flow.Service.{Service}
use Rattle.krb_capture.proofs.Prefixes.{all_found, found_with-all, found_with-both, found_with-none}

-- the segments that begin the direction of a stream
captured_on : (place : ℕ) (before pieces : List Piece) (piece : Piece) → IsCaptured place before ⊎ IsCaptured place (piece ∷ pieces) → IsCaptured place (piece ∷ before) ⊎ IsCaptured place pieces
captured_on place before pieces piece (inl old) = inl (inr old)
captured_on place before pieces piece (inr (inl here)) = inl (inl here)
captured_on place before pieces piece (inr (inr later)) = inr later

captured_none : (place : ℕ) (before : List Piece) → IsCaptured place before ⊎ IsCaptured place [] → IsCaptured place before
captured_none place before (inl old) = old
captured_none place before (inr later) = absurd later

module _ (limit : ℕ) (flow : Flow) (service : Service) where
  abbrev sent_at : State → List ℕ → Sent
  sent_at state stream = record { flow = flow; service = service; state = state; stream = stream }

  -- what is found in it, but for octets that no message has
  abbrev direction_read : Sent → List Bool → List Segment → List Found
  direction_read sent kept segments = but_unread (direction_found limit sent kept segments)

  -- a segment with which the direction goes on, or ends
  module _ (state next : State) (held taken octets : List ℕ) (how : Option Beginning) (end : Option End) (segment : Segment) (kept : List Bool) (is : step state segment ≡ outcome how octets end next) (at : stream_at how held ≡ taken) where
    abbrev told : List Found
    told = untaken_found (untaken_of state (compared (still kept) state held) segment)

    abbrev frames : List Found
    frames = found_with service limit taken octets ++ end_if service limit (taken ++ octets) end

    with_segment : found_if limit (sent_at state held) (still kept) segment ≡ beginning_found how ++ (told ++ frames)
    with_segment =
        ap (λ (went : Outcome × State). outcome_found service limit held (untaken_of state (compared (still kept) state held) segment) went.0) is
        ∙ ap (λ (stream : List ℕ). beginning_found how ++ (told ++ (found_with service limit stream octets ++ end_if service limit (stream ++ octets) end))) at

    frames_read : but_unread frames ≡ frames
    frames_read =
        unread_parts (found_with service limit taken octets) (end_if service limit (taken ++ octets) end)
        ∙ ap₂ (λ (x y : List Found). x ++ y) (read_same (found_with service limit taken octets) (with_read service limit taken octets)) (read_same (end_if service limit (taken ++ octets) end) (end_read service limit (taken ++ octets) end))

    -- without the octets that no message has
    segment_read : but_unread (found_if limit (sent_at state held) (still kept) segment) ≡ beginning_found how ++ frames
    segment_read =
        ap but_unread with_segment
        ∙ unread_parts (beginning_found how) (told ++ frames)
        ∙ ap₂ (λ (x y : List Found). x ++ y) (read_same (beginning_found how) (beginning_read how)) (unread_parts told frames ∙ ap₂ (λ (x y : List Found). x ++ y) (none_left_of (untaken_of state (compared (still kept) state held) segment)) frames_read)

    sent_after : after_segment (sent_at state held) segment ≡ sent_at next (taken ++ octets)
    sent_after =
        ap (λ (went : Outcome × State). sent_at went.1 (stream_at went.0.begins held ++ went.0.octets)) is
        ∙ ap (λ (stream : List ℕ). sent_at next (stream ++ octets)) at

    found_after : (segments : List Segment) → direction_read (sent_at state held) kept (segment ∷ segments) ≡ beginning_found how ++ (frames ++ direction_read (sent_at next (taken ++ octets)) (drop 1 kept) segments)
    found_after segments =
        unread_parts (found_if limit (sent_at state held) (still kept) segment) (direction_found limit (after_segment (sent_at state held) segment) (drop 1 kept) segments)
        ∙ ap₂ (λ (found : List Found) (sent : Sent). found ++ direction_read sent (drop 1 kept) segments) segment_read sent_after
        ∙ append_assoc (beginning_found how) frames (direction_read (sent_at next (taken ++ octets)) (drop 1 kept) segments)

  -- after the end
  none_after : (stream : List ℕ) (first : ℕ) (before pieces : List Piece) (had : Had) (held : List ℕ) (kept : List Bool) → HadAll stream first before had → AreSegmentsOf stream first before pieces → direction_read (sent_at (Ended had) held) kept (segments_of pieces) ≡ []
  none_after stream first before [] had held kept all of = refl
  none_after stream first before (piece ∷ pieces) had held kept all of =
      found_after (Ended had) (Ended had) held held [] None None piece.1 kept (passes_over stream first before had all piece of.0) refl (segments_of pieces)
      ∙ ap₂ (λ (found rest : List Found). (found ++ []) ++ rest) (found_with-none service limit held) (none_after stream first (piece ∷ before) pieces had (held ++ []) (drop 1 kept) (still_all stream first before had all piece of.0) of.1)

  -- ---- of a stream
  module _ (stream : List ℕ) (short : length stream < 2 ^ 61) (first : ℕ) where
    abbrev end : List Found
    end = end_found service limit stream Complete

    module _ (taken left octets : List ℕ) (parts : taken ++ left ≡ stream) where
      -- more octets are to come
      goes : (after : List ℕ) (rest : List Found) → left ≡ octets ++ after → rest ≡ found_with service limit (taken ++ octets) after ++ end → (found_with service limit taken octets ++ []) ++ rest ≡ found_with service limit taken left ++ end
      goes after rest e r =
          ap₂ (λ (x y : List Found). x ++ y) (append-nil (found_with service limit taken octets)) r
          ∙ sym (append_assoc (found_with service limit taken octets) (found_with service limit (taken ++ octets) after) end)
          ∙ ap (λ (l : List Found). l ++ end)
          (sym (found_with-both service limit taken octets after) ∙ ap (found_with service limit taken) (sym e))

      -- none are
      stops : (rest : List Found) → left ≡ octets → rest ≡ [] → (found_with service limit taken octets ++ end_found service limit (taken ++ octets) Complete) ++ rest ≡ found_with service limit taken left ++ end
      stops rest e r =
          ap (λ (l : List Found). (found_with service limit taken octets ++ end_found service limit (taken ++ octets) Complete) ++ l) r
          ∙ append-nil (found_with service limit taken octets ++ end_found service limit (taken ++ octets) Complete)
          ∙ ap (λ (l : List ℕ). found_with service limit taken l ++ end_found service limit (taken ++ l) Complete) (sym e)
          ∙ ap (λ (l : List ℕ). found_with service limit taken left ++ end_found service limit l Complete) parts

    parts_after : (taken left octets after : List ℕ) → taken ++ left ≡ stream → left ≡ octets ++ after → (taken ++ octets) ++ after ≡ stream
    parts_after taken left octets after parts e = append_assoc taken octets after ∙ ap (λ (l : List ℕ). taken ++ l) (sym e) ∙ parts

    -- at the end of the capture
    at_end : (before : List Piece) (progress : Progress) (taken : List ℕ) → Holds stream first before progress → taken ++ drop progress.expected stream ≡ stream → AllCaptured stream before → but_unread (end_found service limit taken (ending progress)) ≡ found_with service limit taken (drop progress.expected stream) ++ end
    at_end before progress taken h parts all =
        let full : length stream ≤ progress.expected = all_taken stream first before progress h all in
        let none : drop progress.expected stream ≡ [] = drop_of_length-le stream full in
        read_same (end_found service limit taken (ending progress)) (end_read service limit taken (Some (ending progress)))
        ∙ ap₂ (λ (s : List ℕ) (e : End). end_found service limit s e) (sym (append-nil taken) ∙ ap (λ (l : List ℕ). taken ++ l) (sym none) ∙ parts) (is_complete stream first before progress h full)
        ∙ ap (λ (l : List Found). l ++ end) (sym (ap (found_with service limit taken) none ∙ found_with-none service limit taken))

    -- the octets before a place were taken, and those after it are found with a segment and later
    with_piece : (state : State) (held taken : List ℕ) (how : Option Beginning) (due : ℕ) (before pieces : List Piece) (piece : Piece) (kept : List Bool) → stream_at how held ≡ taken → taken ++ drop due stream ≡ stream → AreSegmentsOf stream first (piece ∷ before) pieces → Comes stream first (piece ∷ before) due how (step state piece.1) → ((next : Progress) (taken : List ℕ) → Holds stream first (piece ∷ before) next → taken ++ drop next.expected stream ≡ stream → direction_read (sent_at (Open next) taken) (drop 1 kept) (segments_of pieces) ≡ found_with service limit taken (drop next.expected stream) ++ end) → direction_read (sent_at state held) kept (piece.1 ∷ segments_of pieces) ≡ beginning_found how ++ (found_with service limit taken (drop due stream) ++ end)
    with_piece state held taken how due before pieces piece kept at parts of comes later = by (step state piece.1) refl comes
      where
        by : (went : Outcome × State) → step state piece.1 ≡ went → Comes stream first (piece ∷ before) due how went → direction_read (sent_at state held) kept (piece.1 ∷ segments_of pieces) ≡ beginning_found how ++ (found_with service limit taken (drop due stream) ++ end_found service limit stream Complete)
        by went is (Goes octets next e prefix more) =
            found_after state (Open next) held taken octets how None piece.1 kept (is ∙ e) at (segments_of pieces)
            ∙ ap (λ (l : List Found). beginning_found how ++ l)
            (goes taken (drop due stream) octets parts (drop next.expected stream) (direction_read (sent_at (Open next) (taken ++ octets)) (drop 1 kept) (segments_of pieces)) prefix
            (later next (taken ++ octets) more (parts_after taken (drop due stream) octets (drop next.expected stream) parts prefix)))
        by went is (Ends octets had e prefix all) =
            found_after state (Ended had) held taken octets how (Some Complete) piece.1 kept (is ∙ e) at (segments_of pieces)
            ∙ ap (λ (l : List Found). beginning_found how ++ l)
            (stops taken (drop due stream) octets parts (direction_read (sent_at (Ended had) (taken ++ octets)) (drop 1 kept) (segments_of pieces)) prefix (none_after stream first (piece ∷ before) pieces had (taken ++ octets) (drop 1 kept) all of))

    open_found : (pieces before : List Piece) (progress : Progress) (taken : List ℕ) (kept : List Bool) → Holds stream first before progress → taken ++ drop progress.expected stream ≡ stream → AreSegmentsOf stream first before pieces → ((place : ℕ) → place < length stream → IsCaptured place before ⊎ IsCaptured place pieces) → direction_read (sent_at (Open progress) taken) kept (segments_of pieces) ≡ found_with service limit taken (drop progress.expected stream) ++ end
    open_found [] before progress taken kept h parts of all = at_end before progress taken h parts (λ place within. captured_none place before (all place within))
    open_found (piece ∷ pieces) before progress taken kept h parts of all =
        with_piece (Open progress) taken taken None progress.expected before pieces piece kept refl parts of.1 (comes_next stream short first before progress h piece of.0)
        (λ next taken h parts. open_found pieces (piece ∷ before) next taken (drop 1 kept) h parts of.1 (λ place within. captured_on place before pieces piece (all place within)))

  -- from the first segment on
  first_found : (stream : List ℕ) (how : Beginning) (pieces : List Piece) (piece : Piece) (kept : List Bool) → length stream < 2 ^ 61 → BeginsWith how piece → piece.1.rst ≡ false → AreSegmentsOf stream (first_number piece.1) [] (piece ∷ pieces) → AllCaptured stream (piece ∷ pieces) → direction_read (nothing_sent flow service) kept (piece.1 ∷ segments_of pieces) ≡ beginning_found (Some how) ++ (found_with service limit [] stream ++ end_found service limit stream Complete)
  first_found stream how pieces piece kept short begins no_reset of all =
      with_piece stream short (first_number piece.1) Fresh [] [] (Some how) 0 [] pieces piece kept refl refl of.1 (comes_first stream short how piece begins no_reset of.0)
      (λ next taken h parts. open_found stream short (first_number piece.1) pieces (piece ∷ []) next taken (drop 1 kept) h parts of.1 (λ place within. captured_on place [] pieces piece (inr (all place within))))

pub records_are_of_the_stream : RecordsAreOfTheStream
records_are_of_the_stream limit flow service stream how [] kept of = absurd of.segments
records_are_of_the_stream limit flow service stream how (piece ∷ pieces) kept of =
    first_found limit flow service stream how pieces piece kept of.short of.segments.0 of.segments.1 of.segments.2 of.all
    ∙ ap (λ (l : List Found). beginning_found (Some how) ++ l)
    (ap (λ (l : List Found). l ++ end_found service limit stream Complete) (found_with-all service limit stream)
    ∙ all_found service limit stream)
