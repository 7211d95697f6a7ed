-- A flow among others: what is kept of it, and what is found in it, are those of its segments alone.
use Rattle.std.proofs.Common.{◌≡◌, ℕ, zero, suc, ◌+◌, ◌<◌, ◌≤◌, ◌⊎◌, inl, inr, Bool, true, false, List, [], ◌∷◌, ◌++◌, length, Option, Some, None, refl, sym, ◌∙◌, ap, subst, arith}
use Rattle.std.specs.Prelude.{if◌then◌else◌, nat_lt, slice_get}
use Rattle.std.specs.declared.cmp.Ordering.{Ordering}
use Rattle.std.specs.declared.cmp.Ordering.TheVariants.{Less, Equal, Greater}
use Rattle.std.specs.Ordering.{is_eq, nat_cmp}
use Rattle.std.specs.Cmp.{IsTotalOrder}
use Rattle.std.specs.Map.{keys_of, lookup, remove_entry}
use Rattle.std.specs.BTreeMap.{insert_entry, is_at}
use Rattle.std.proofs.lemmas.Bool.{true≢false}
use Rattle.std.proofs.lemmas.Option.{get_or_from_slice_get, none-some, same_Some}
use Rattle.std.proofs.lemmas.Cmp.{nat_cmp_total, tied_itself}
use Rattle.std.proofs.lemmas.Map.Lookups.{exact_unsigned}
use Rattle.krb_packet.specs.declared.contents.Segment.{Segment}
use Rattle.krb_flow.specs.Directions.{end_of, had_of}
use Rattle.krb_flow.specs.Unread.{nothing as no_octets, of_reset, untaken_of}
use Rattle.krb_flow.specs.declared.unread.Untaken.{Untaken}
use Rattle.krb_flow.specs.declared.direction.State.{State}
use Rattle.krb_flow.specs.declared.direction.State.TheVariants as states
use Rattle.krb_flow.specs.declared.had.Had.{Had}
use Rattle.krb_capture.specs.contracts.flow.FlowOrd.TheImpl.Laws as flow_laws
use Rattle.krb_capture.specs.Directions.{Followed, Table, active_with, after_found, begins, begun, by_number, copied, ended_with, flow_cmp, flow_of, followed, gone_on, in_flow, kept, nothing_found, of_ended, of_known, passed_over, streams_with, with_one_less, with_room}
use Rattle.krb_capture.specs.Laws.{compared, found_if}
use Rattle.krb_capture.specs.Recent.{still_kept}
use Rattle.krb_capture.specs.Flows.{flow_between}
use Rattle.krb_capture.specs.Found.{Found}
use Rattle.krb_capture.specs.Sending.{Sent, after_segment, segment_found, sent_from, step_of, untaken_found}
use Rattle.krb_capture.specs.declared.directions.Gone.{Gone}
use Rattle.krb_capture.specs.declared.flow.Flow.{Flow}
use Rattle.krb_capture.specs.declared.flow.Service.{Service}
use Rattle.krb_capture.specs.declared.sending.Step.{Step}
use Rattle.krb_capture_laws.proofs.Flows.{exact}
use Rattle.krb_capture.proofs.Maps.{Ascend, Ascend-inserted, Ascend-removed, lookup-inserted, lookup-inserted_other, lookup-removed, lookup-removed_other}
use Rattle.krb_capture.proofs.Tables.{began-first}
use Rattle.krb_capture_laws.proofs.Steps.{Same, Ended-from_had_of, begins_anew, found_kept, passed-found, passed-state, passed-stream, passes_ended, passes_fresh, untaken_fresh}

pub flow_total : IsTotalOrder flow_cmp
flow_total = flow_laws.total-law

-- ---- flows and numbers that are the same or apart
pub same_or_apart : (f g : Flow) → (f ≡ g) ⊎ (is_eq (flow_cmp f g) ≡ false)
same_or_apart f g = by (is_eq (flow_cmp f g)) refl
  where
    by : (b : Bool) → is_eq (flow_cmp f g) ≡ b → (f ≡ g) ⊎ (b ≡ false)
    by true e = inl (exact f g e)
    by false e = inr refl

pub same_number : (n m : ℕ) → (n ≡ m) ⊎ (is_eq (nat_cmp n m) ≡ false)
same_number n m = by (nat_cmp n m) refl
  where
    by : (c : Ordering) → nat_cmp n m ≡ c → (n ≡ m) ⊎ (is_eq c ≡ false)
    by Less e = inr refl
    by Equal e = inl (exact_unsigned n m e)
    by Greater e = inr refl

not_itself : (f g : Flow) → is_eq (flow_cmp f g) ≡ false → f ≡ g → ⊥
not_itself f g n e = true≢false (sym (ap is_eq (tied_itself flow_total f)) ∙ ap (λ x. is_eq (flow_cmp f x)) e ∙ n)

pub below_apart : (n m : ℕ) → n < m → is_eq (nat_cmp n m) ≡ false
below_apart n m l = by (same_number n m)
  where
    by : (n ≡ m) ⊎ (is_eq (nat_cmp n m) ≡ false) → is_eq (nat_cmp n m) ≡ false
    by (inl e) = absurd (omega arith)
    by (inr a) = a

-- ---- the table, by flows and numbers
abbrev pub number_of : Flow → Table → Option ℕ
number_of flow table = lookup (is_at (flow_cmp flow)) table.numbers

abbrev pub at : {X : Type 0} → ℕ → List (ℕ × X) → Option X
at number entries = lookup (is_at (nat_cmp number)) entries

-- its ports are those of its ends
abbrev pub IsBetween : Flow → Type 0
IsBetween flow = flow ≡ flow_between flow.source flow.target

-- The packets up to one came: each direction has the number of one of these, and no two have the same.
pub record Sound (bound : ℕ) (table : Table) : Type 0 where
  pub numbers_ascend : Ascend flow_cmp (keys_of table.numbers)
  pub active_ascend : Ascend nat_cmp (keys_of table.active)
  pub within : (flow : Flow) (n : ℕ) → number_of flow table ≡ Some n → n ≤ bound
  pub none_later : (n : ℕ) → bound < n → at n table.active ≡ None
  pub apart : (f g : Flow) (n : ℕ) → number_of f table ≡ Some n → number_of g table ≡ Some n → f ≡ g
  pub owned : (n : ℕ) (sent : Sent) → at n table.active ≡ Some sent → number_of sent.flow table ≡ Some n
  pub between : (n : ℕ) (sent : Sent) → at n table.active ≡ Some sent → IsBetween sent.flow

abbrev pub active_after : Option Had → Sent → Option Sent
active_after None sent = Some sent
active_after (Some had) sent = None

-- A direction is kept by a new number or by its old one: nothing else changes.
pub record Changed (flow : Flow) (new : ℕ) (ended : Option Had) (sent : Sent) (old table : Table) : Type 0 where
  pub numbers_ascend : Ascend flow_cmp (keys_of table.numbers)
  pub active_ascend : Ascend nat_cmp (keys_of table.active)
  pub here : number_of flow table ≡ Some new
  pub others : (f : Flow) → is_eq (flow_cmp f flow) ≡ false → number_of f table ≡ number_of f old
  pub active_here : at new table.active ≡ active_after ended sent
  pub ended_here : (had : Had) → ended ≡ Some had → at new table.ended ≡ Some (record { flow = flow; had = had; nth = length old.streams })
  pub streams : table.streams ≡ streams_with ended sent.stream old.streams
  pub active_others : (n : ℕ) → is_eq (nat_cmp n new) ≡ false → (number_of flow old ≡ Some n → ⊥) → at n table.active ≡ at n old.active
  pub ended_others : (n : ℕ) → is_eq (nat_cmp n new) ≡ false → (number_of flow old ≡ Some n → ⊥) → at n table.ended ≡ at n old.ended
  pub left : (n : ℕ) → number_of flow old ≡ Some n → is_eq (nat_cmp n new) ≡ false → at n table.active ≡ None

module _ (flow : Flow) (new : ℕ) (step : Step) (sent : Sent) (old : Table) (active : List (ℕ × Sent)) (ended : List (ℕ × Gone)) where
  abbrev numbers_with : Bool → List (Flow × ℕ)
  numbers_with b = if b then insert_entry flow_cmp old.numbers flow new else old.numbers

  -- it is kept in a table without it
  pub kept-changed : Ascend flow_cmp (keys_of old.numbers) → Ascend nat_cmp (keys_of active) → (step.began ≡ false → number_of flow old ≡ Some new) → at new active ≡ None → ((n : ℕ) → number_of flow old ≡ Some n → at n active ≡ None) → ((n : ℕ) → (number_of flow old ≡ Some n → ⊥) → at n active ≡ at n old.active) → ((n : ℕ) → (number_of flow old ≡ Some n → ⊥) → at n ended ≡ at n old.ended) → Changed flow new step.ended sent old (kept flow new step sent (record old { active = active; ended = ended }))
  kept-changed numbers_ascend active_ascend known free gone active_others ended_others = record {
    numbers_ascend = numbers step.began;
    active_ascend = in_order step.ended;
    here = here step.began refl;
    others = λ f a. others f a step.began;
    active_here = active_here step.ended;
    ended_here = ended_here step.ended;
    streams = refl;
    active_others = λ n a o. active_other n a step.ended ∙ active_others n o;
    ended_others = λ n a o. ended_other n a step.ended ∙ ended_others n o;
    left = λ n o a. active_other n a step.ended ∙ gone n o;
  }
    where
      numbers : (b : Bool) → Ascend flow_cmp (keys_of (numbers_with b))
      numbers true = Ascend-inserted flow_total flow new old.numbers numbers_ascend
      numbers false = numbers_ascend

      in_order : (o : Option Had) → Ascend nat_cmp (keys_of (active_with o new sent active))
      in_order None = Ascend-inserted nat_cmp_total new sent active active_ascend
      in_order (Some had) = active_ascend

      here : (b : Bool) → step.began ≡ b → lookup (is_at (flow_cmp flow)) (numbers_with b) ≡ Some new
      here true e = lookup-inserted flow_total flow new old.numbers
      here false e = known e

      others : (f : Flow) → is_eq (flow_cmp f flow) ≡ false → (b : Bool) → lookup (is_at (flow_cmp f)) (numbers_with b) ≡ lookup (is_at (flow_cmp f)) old.numbers
      others f a true = lookup-inserted_other flow_total f flow new old.numbers a
      others f a false = refl

      active_here : (o : Option Had) → at new (active_with o new sent active) ≡ active_after o sent
      active_here None = lookup-inserted nat_cmp_total new sent active
      active_here (Some had) = free

      ended_here : (o : Option Had) (had : Had) → o ≡ Some had → at new (ended_with o new flow (length old.streams) ended) ≡ Some (record { flow = flow; had = had; nth = length old.streams })
      ended_here None had e = absurd cc
      ended_here (Some h) had e =
          let same : h ≡ had = cc in
          lookup-inserted nat_cmp_total new (record { flow = flow; had = h; nth = length old.streams }) ended ∙ ap (λ (x : Had). Some (record { flow = flow; had = x; nth = length old.streams })) same

      active_other : (n : ℕ) → is_eq (nat_cmp n new) ≡ false → (o : Option Had) → at n (active_with o new sent active) ≡ at n active
      active_other n a None = lookup-inserted_other nat_cmp_total n new sent active a
      active_other n a (Some had) = refl

      ended_other : (n : ℕ) → is_eq (nat_cmp n new) ≡ false → (o : Option Had) → at n (ended_with o new flow (length old.streams) ended) ≡ at n ended
      ended_other n a None = refl
      ended_other n a (Some had) = lookup-inserted_other nat_cmp_total n new (record { flow = flow; had = had; nth = length old.streams }) ended a

-- ---- what directions that ended took
stays : {X : Type 0} (xs ys : List X) (n : ℕ) (y : X) → slice_get xs n ≡ Some y → slice_get (xs ++ ys) n ≡ Some y
stays [] ys n y e = absurd cc
stays (x ∷ xs) ys zero y e = e
stays (x ∷ xs) ys (suc n) y e = stays xs ys n y e

comes_last : {X : Type 0} (xs : List X) (y : X) → slice_get (xs ++ y ∷ []) (length xs) ≡ Some y
comes_last [] y = refl
comes_last (x ∷ xs) y = comes_last xs y

stays_with : (ended : Option Had) (stream : List ℕ) (streams : List (List ℕ)) (n : ℕ) (one : List ℕ) → slice_get streams n ≡ Some one → slice_get (streams_with ended stream streams) n ≡ Some one
stays_with None stream streams n one e = e
stays_with (Some had) stream streams n one e = stays streams (stream ∷ []) n one e

-- ---- what is kept of a flow, as that of its segments alone
abbrev pub KeptAt : List (List ℕ) → Option Sent → Option Gone → Sent → Type 0
KeptAt streams (Some sent) ended own = sent ≡ own
KeptAt streams None (Some gone) own = (own.state ≡ states.Ended gone.had) × (slice_get streams gone.nth ≡ Some own.stream)
KeptAt streams None None own = ⊥

kept_longer : (ended : Option Had) (stream : List ℕ) (streams : List (List ℕ)) (active : Option Sent) (gone : Option Gone) (own : Sent) → KeptAt streams active gone own → KeptAt (streams_with ended stream streams) active gone own
kept_longer ended stream streams (Some sent) _ own k = k
kept_longer ended stream streams None (Some gone) own k = (k.0, stays_with ended stream streams gone.nth own.stream k.1)
kept_longer ended stream streams None None own k = k

abbrev pub KeptBy : Option ℕ → Table → Sent → Type 0
KeptBy None table own = own.state ≡ states.Fresh
KeptBy (Some n) table own = KeptAt table.streams (at n table.active) (at n table.ended) own

abbrev pub Keeps : Flow → Table → Sent → Type 0
Keeps flow table own = KeptBy (number_of flow table) table own

-- What a segment comes to: nothing, or that its direction goes on.
pub data Went (limit packet : ℕ) (service : Service) (segment : Segment) (table : Table) (followed : Followed) : Type 0 where
  Passes : (told : Untaken) (still_there : Bool) → followed ≡ record { found = in_flow (flow_of segment) (untaken_found told); table = table } → ((own : Sent) → Keeps (flow_of segment) table own → (found_if limit own still_there segment ≡ untaken_found told) × Keeps (flow_of segment) table (after_segment own segment)) → Went limit packet service segment table followed
  Goes : (new : ℕ) (sent : Sent) → (new ≡ packet) ⊎ (number_of (flow_of segment) table ≡ Some new) → sent.flow ≡ flow_of segment → followed.found ≡ in_flow (flow_of segment) (segment_found limit sent segment) → Changed (flow_of segment) new (had_of (after_segment sent segment).state) (after_segment sent segment) table followed.table → ((own : Sent) → own.flow ≡ flow_of segment → own.service ≡ service → Keeps (flow_of segment) table own → Same limit sent own segment) → Went limit packet service segment table followed

module _ (limit packet : ℕ) (service : Service) (segment : Segment) (bound : ℕ) (table : Table) (sound : Sound bound table) (later : bound < packet) where
  -- a number that is not that of the flow
  another : (number : ℕ) → number_of (flow_of segment) table ≡ Some number → (n : ℕ) → (number_of (flow_of segment) table ≡ Some n → ⊥) → is_eq (nat_cmp n number) ≡ false
  another number known n o = by (same_number n number)
    where
      by : (n ≡ number) ⊎ (is_eq (nat_cmp n number) ≡ false) → is_eq (nat_cmp n number) ≡ false
      by (inl e) = absurd (o (known ∙ ap Some (sym e)))
      by (inr a) = a

  -- one that begins, of which nothing is kept that has not ended
  begun-went : (state : State) (ended : List (ℕ × Gone)) → end_of state ≡ None → (step_of state segment).began ≡ true → ((n : ℕ) → number_of (flow_of segment) table ≡ Some n → at n table.active ≡ None) → ((n : ℕ) → (number_of (flow_of segment) table ≡ Some n → ⊥) → at n ended ≡ at n table.ended) → ((own : Sent) → Keeps (flow_of segment) table own → own.state ≡ state) → Went limit packet service segment table (begun limit packet service state segment (record table { ended = ended }))
  begun-went state ended none began gone others is =
      Goes packet (sent_from (flow_of segment) service state) (inl refl) refl refl
      (kept-changed (flow_of segment) packet (step_of state segment) (after_segment (sent_from (flow_of segment) service state) segment) table table.active ended sound.numbers_ascend sound.active_ascend (λ e. absurd (true≢false (sym began ∙ e))) (sound.none_later packet later) gone (λ n o. refl) others)
      (λ own f s k. begins_anew limit (flow_of segment) service state own segment f s (is own k) none began)

  -- one that has not ended
  active-went : (number : ℕ) (sent : Sent) → number_of (flow_of segment) table ≡ Some number → at number table.active ≡ Some sent → Went limit packet service segment table (gone_on limit packet number sent segment table)
  active-went number sent known is =
      let flow : sent.flow ≡ flow_of segment = sound.apart sent.flow (flow_of segment) number (sound.owned number sent is) known in
      let new : ℕ = if (step_of sent.state segment).began then packet else number in
      let left : List (ℕ × Sent) = remove_entry (is_at (nat_cmp number)) table.active in
      let removed : at number left ≡ None = lookup-removed nat_cmp_total number table.active sound.active_ascend in
      let within : number ≤ bound = sound.within (flow_of segment) number known in
      Goes new sent (by_new (step_of sent.state segment).began) flow (ap (λ (f : Flow). in_flow f (segment_found limit sent segment)) flow)
      (subst (λ (f : Flow). Changed (flow_of segment) new (had_of (after_segment sent segment).state) (after_segment sent segment) table (kept f new (step_of sent.state segment) (after_segment sent segment) (record table { active = left }))) (sym flow)
      (kept-changed (flow_of segment) new (step_of sent.state segment) (after_segment sent segment) table left table.ended sound.numbers_ascend (Ascend-removed nat_cmp_total (is_at (nat_cmp number)) table.active sound.active_ascend)
      (λ e. known ∙ ap (λ b. Some (if b then packet else number)) (sym e))
      (free (step_of sent.state segment).began within removed)
      (λ n o. subst (λ m. at m left ≡ None) (same_Some number n (sym known ∙ o)) removed)
      (λ n o. lookup-removed_other nat_cmp_total n number table.active (another number known n o))
      (λ n o. refl)))
      (λ own f s k. same_sent own (subst (λ o. KeptBy o table own) known k))
    where
      by_new : (b : Bool) → ((if b then packet else number) ≡ packet) ⊎ (number_of (flow_of segment) table ≡ Some (if b then packet else number))
      by_new true = inl refl
      by_new false = inr known

      free : (b : Bool) → number ≤ bound → at number (remove_entry (is_at (nat_cmp number)) table.active) ≡ None → at (if b then packet else number) (remove_entry (is_at (nat_cmp number)) table.active) ≡ None
      free true within removed = lookup-removed_other nat_cmp_total packet number table.active (apart (same_number packet number)) ∙ sound.none_later packet later
        where
          apart : (packet ≡ number) ⊎ (is_eq (nat_cmp packet number) ≡ false) → is_eq (nat_cmp packet number) ≡ false
          apart (inl e) = absurd (omega arith)
          apart (inr a) = a
      free false within removed = removed

      same_sent : (own : Sent) → KeptAt table.streams (at number table.active) (at number table.ended) own → Same limit sent own segment
      same_sent own k =
          let e : sent ≡ own = subst (λ o. KeptAt table.streams o (at number table.ended) own) is k in
          record { found = ap (λ (x : Sent). segment_found limit x segment) e ∙ sym (found_kept limit own segment); after = ap (λ (x : Sent). after_segment x segment) e }

  -- one that ended
  ended-went : (number : ℕ) → number_of (flow_of segment) table ≡ Some number → at number table.active ≡ None → Went limit packet service segment table (of_ended limit packet number (at number table.ended) service segment table)
  ended-went number known none = by (at number table.ended) refl
    where
      -- what is kept then
      is : (own : Sent) → Keeps (flow_of segment) table own → KeptAt table.streams None (at number table.ended) own
      is own k = subst (λ o. KeptAt table.streams o (at number table.ended) own) none (subst (λ o. KeptBy o table own) known k)

      again : (gone : Gone) → at number table.ended ≡ Some gone → (b : Bool) → (step_of (states.Ended gone.had) segment).began ≡ b → Went limit packet service segment table (if b then begun limit packet service (states.Ended gone.had) segment (record table { ended = remove_entry (is_at (nat_cmp number)) table.ended }) else copied gone segment table)
      again gone e true b =
          begun-went (states.Ended gone.had) (remove_entry (is_at (nat_cmp number)) table.ended) refl b
          (λ n o. subst (λ m. at m table.active ≡ None) (same_Some number n (sym known ∙ o)) none)
          (λ n o. lookup-removed_other nat_cmp_total n number table.ended (another number known n o))
          (λ own k. (subst (λ o. KeptAt table.streams None o own) e (is own k)).0)
      again gone e false b =
          Passes (untaken_of (states.Ended gone.had) (still_kept table.streams gone.nth) segment) (nat_lt (length table.streams) (gone.nth + 4097)) refl (λ own k.
          let here = subst (λ o. KeptAt table.streams None o own) e (is own k) in
          let passes = passes_ended gone.had segment b in
          let left : Bool = nat_lt (length table.streams) (gone.nth + 4097) in
          let told =
          ap (λ (x : State). untaken_of x (compared left x own.stream) segment) here.0
          ∙ ap (λ (l : List ℕ). untaken_of (states.Ended gone.had) (if left then l else []) segment) (sym (get_or_from_slice_get table.streams gone.nth own.stream [] here.1)) in (
            passed-found limit (states.Ended gone.had) own segment here.0 passes left (untaken_of (states.Ended gone.had) (still_kept table.streams gone.nth) segment) told,
            subst (λ o. KeptBy o table (after_segment own segment)) (sym known) (subst (λ o. KeptAt table.streams o (at number table.ended) (after_segment own segment)) (sym none) (subst (λ o. KeptAt table.streams None o (after_segment own segment)) (sym e) (passed-state limit (states.Ended gone.had) own segment here.0 passes, here.1 ∙ ap Some (sym (passed-stream limit (states.Ended gone.had) own segment here.0 passes))))),
          ))

      by : (o : Option Gone) → at number table.ended ≡ o → Went limit packet service segment table (of_ended limit packet number o service segment table)
      by None e = Passes (record no_octets { apart = of_reset segment }) true refl (λ own k. absurd (subst (λ o. KeptAt table.streams None o own) e (is own k)))
      by (Some gone) e = again gone e (step_of (states.Ended gone.had) segment).began refl

  known-went : (number : ℕ) → number_of (flow_of segment) table ≡ Some number → (o : Option Sent) → at number table.active ≡ o → Went limit packet service segment table (of_known limit packet number o service segment table)
  known-went number known (Some sent) e = active-went number sent known e
  known-went number known None e = ended-went number known e

  -- one that has not begun
  module _ (room : number_of (flow_of segment) table ≡ None → nat_lt (length table.numbers) 65536 ≡ true) where
    new-went : number_of (flow_of segment) table ≡ None → (b : Bool) → begins segment ≡ b → Went limit packet service segment table (if b then after_found (with_room limit table).found (begun limit packet service states.Fresh segment (with_room limit table).table) else passed_over segment table)
    new-went none true b =
        let has_room : with_room limit table ≡ nothing_found table = ap (λ x. if x then nothing_found table else with_one_less limit table.ended table.active table) (room none) in
        subst (λ (r : Followed). Went limit packet service segment table (after_found r.found (begun limit packet service states.Fresh segment r.table))) (sym has_room)
        (begun-went states.Fresh table.ended refl (began-first segment b) (λ n o. absurd (none-some n (sym none ∙ o))) (λ n o. refl) (λ own k. subst (λ o. KeptBy o table own) none k))
    new-went none false b =
        Passes (record no_octets { apart = of_reset segment }) true refl (λ own k.
        let t : own.state ≡ states.Fresh = subst (λ o. KeptBy o table own) none k in
        let passes = passes_fresh segment b in
        let told = ap (λ (x : State). untaken_of x (compared true x own.stream) segment) t ∙ untaken_fresh own.stream segment b in
        (passed-found limit states.Fresh own segment t passes true (record no_octets { apart = of_reset segment }) told, subst (λ o. KeptBy o table (after_segment own segment)) (sym none) (passed-state limit states.Fresh own segment t passes)))

    pub followed-went : Went limit packet service segment table (followed limit packet service segment table)
    unfolding followed
    followed-went = by (number_of (flow_of segment) table) refl
      where
        by : (o : Option ℕ) → number_of (flow_of segment) table ≡ o → Went limit packet service segment table (by_number limit packet o service segment table)
        by None e = new-went e (begins segment) refl
        by (Some number) e = known-went number e (at number table.active) refl

-- packets may come of which nothing is kept
pub later-sound : (bound packet : ℕ) (table : Table) → Sound bound table → bound < packet → Sound packet table
later-sound bound packet table sound later = record {
  numbers_ascend = sound.numbers_ascend;
  active_ascend = sound.active_ascend;
  within = λ f n e. let within = sound.within f n e in omega arith;
  none_later = λ n l. sound.none_later n (omega arith);
  apart = sound.apart;
  owned = sound.owned;
  between = sound.between;
}

-- ---- what is kept after a segment
module _ (limit packet : ℕ) (service : Service) (segment : Segment) (bound : ℕ) (table : Table) (sound : Sound bound table) (later : bound < packet) (followed : Followed) where
  -- of its own flow
  pub record Own (own : Sent) : Type 0 where
    pub still_there : Bool
    pub found : followed.found ≡ in_flow (flow_of segment) (found_if limit own still_there segment)
    pub keeps : Keeps (flow_of segment) followed.table (after_segment own segment)

  pub went-own : Went limit packet service segment table followed → (own : Sent) → own.flow ≡ flow_of segment → own.service ≡ service → Keeps (flow_of segment) table own → Own own
  went-own (Passes told there is passes) own f s k = record {
    still_there = there;
    found = ap (λ (x : Followed). x.found) is ∙ ap (in_flow (flow_of segment)) (sym (passes own k).0);
    keeps = subst (λ (x : Followed). Keeps (flow_of segment) x.table (after_segment own segment)) (sym is) (passes own k).1;
  }
  went-own (Goes new sent at_new flow found changed same) own f s k = record {
    still_there = true;
    found = found ∙ ap (in_flow (flow_of segment)) (same own f s k).found;
    keeps = subst (λ o. KeptBy o followed.table (after_segment own segment)) (sym changed.here) (by (had_of (after_segment sent segment).state) refl changed.active_here);
  }
    where
      by : (o : Option Had) → had_of (after_segment sent segment).state ≡ o → at new followed.table.active ≡ active_after o (after_segment sent segment) → KeptAt followed.table.streams (at new followed.table.active) (at new followed.table.ended) (after_segment own segment)
      by None e active = subst (λ a. KeptAt followed.table.streams a (at new followed.table.ended) (after_segment own segment)) (sym active) (same own f s k).after
      by (Some had) e active =
          subst (λ a. KeptAt followed.table.streams a (at new followed.table.ended) (after_segment own segment)) (sym active)
          (subst (λ g. KeptAt followed.table.streams None g (after_segment own segment)) (sym (changed.ended_here had e)) (
            ap (λ (x : Sent). x.state) (sym (same own f s k).after) ∙ Ended-from_had_of (after_segment sent segment).state had e,
            ap (λ (l : List (List ℕ)). slice_get l (length table.streams)) (changed.streams ∙ ap (λ (o : Option Had). streams_with o (after_segment sent segment).stream table.streams) e)
                ∙ comes_last table.streams (after_segment sent segment).stream
                ∙ ap (λ (x : Sent). Some x.stream) (same own f s k).after,
          ))

  -- of another flow
  pub went-other : Went limit packet service segment table followed → (f : Flow) (own : Sent) → is_eq (flow_cmp f (flow_of segment)) ≡ false → Keeps f table own → Keeps f followed.table own
  went-other (Passes told there is passes) f own a k = subst (λ (x : Followed). Keeps f x.table own) (sym is) k
  went-other (Goes new sent at_new flow found changed same) f own a k = subst (λ o. KeptBy o followed.table own) (sym (changed.others f a)) (by (number_of f table) refl k)
    where
      not_old : (n : ℕ) → number_of f table ≡ Some n → number_of (flow_of segment) table ≡ Some n → ⊥
      not_old n e o = not_itself f (flow_of segment) a (sound.apart f (flow_of segment) n e o)

      not_new : (n : ℕ) → number_of f table ≡ Some n → (new ≡ packet) ⊎ (number_of (flow_of segment) table ≡ Some new) → is_eq (nat_cmp n new) ≡ false
      not_new n e (inl is) = let within = sound.within f n e in below_apart n new (omega arith)
      not_new n e (inr old) = apart (same_number n new)
        where
          apart : (n ≡ new) ⊎ (is_eq (nat_cmp n new) ≡ false) → is_eq (nat_cmp n new) ≡ false
          apart (inl is) = absurd (not_old n e (old ∙ ap Some (sym is)))
          apart (inr a) = a

      by : (o : Option ℕ) → number_of f table ≡ o → KeptBy o table own → KeptBy o followed.table own
      by None e k = k
      by (Some n) e k =
          subst (λ l. KeptAt l (at n followed.table.active) (at n followed.table.ended) own) (sym changed.streams)
          (kept_longer (had_of (after_segment sent segment).state) (after_segment sent segment).stream table.streams (at n followed.table.active) (at n followed.table.ended) own
          (subst (λ x. KeptAt table.streams x (at n followed.table.ended) own) (sym (changed.active_others n (not_new n e at_new) (not_old n e)))
          (subst (λ x. KeptAt table.streams (at n table.active) x own) (sym (changed.ended_others n (not_new n e at_new) (not_old n e))) k)))

  -- the numbers stay those of packets
  pub went-known : Went limit packet service segment table followed → (f : Flow) (n : ℕ) → number_of f followed.table ≡ Some n → (f ≡ flow_of segment) ⊎ (number_of f table ≡ Some n)
  went-known (Passes told there is passes) f n e = inr (ap (λ (x : Followed). number_of f x.table) (sym is) ∙ e)
  went-known (Goes new sent at_new flow found changed same) f n e = by (same_or_apart f (flow_of segment))
    where
      by : (f ≡ flow_of segment) ⊎ (is_eq (flow_cmp f (flow_of segment)) ≡ false) → (f ≡ flow_of segment) ⊎ (number_of f table ≡ Some n)
      by (inl is) = inl is
      by (inr a) = inr (sym (changed.others f a) ∙ e)

  pub went-sound : Went limit packet service segment table followed → Sound packet followed.table
  went-sound (Passes told there is passes) = subst (λ (x : Followed). Sound packet x.table) (sym is) (later-sound bound packet table sound later)
  went-sound (Goes new sent at_new flow found changed same) = record {
    numbers_ascend = changed.numbers_ascend;
    active_ascend = changed.active_ascend;
    within = λ f n e. within f n e (same_or_apart f (flow_of segment));
    none_later = λ n l. changed.active_others n (not_new n l (same_number n new)) (not_old n l) ∙ sound.none_later n (omega arith);
    apart = λ f g n e h. apart f g n e h (same_or_apart f (flow_of segment)) (same_or_apart g (flow_of segment));
    owned = λ n s e. owned n s e (same_number n new);
    between = λ n s e. between n s e (same_number n new);
  }
    where
      is_new : (n : ℕ) → number_of (flow_of segment) followed.table ≡ Some n → n ≡ new
      is_new n e = same_Some n new (sym e ∙ changed.here)

      new_within : (new ≡ packet) ⊎ (number_of (flow_of segment) table ≡ Some new) → new ≤ packet
      new_within (inl is) = omega arith
      new_within (inr old) = let within = sound.within (flow_of segment) new old in omega arith

      within : (f : Flow) (n : ℕ) → number_of f followed.table ≡ Some n → (f ≡ flow_of segment) ⊎ (is_eq (flow_cmp f (flow_of segment)) ≡ false) → n ≤ packet
      within f n e (inl is) =
          let n_new = is_new n (ap (λ x. number_of x followed.table) (sym is) ∙ e) in
          let new_within = new_within at_new in
          omega arith
      within f n e (inr a) = let within = sound.within f n (sym (changed.others f a) ∙ e) in omega arith

      not_old : (n : ℕ) → packet < n → number_of (flow_of segment) table ≡ Some n → ⊥
      not_old n l o = let within = sound.within (flow_of segment) n o in omega arith

      not_new : (n : ℕ) → packet < n → (n ≡ new) ⊎ (is_eq (nat_cmp n new) ≡ false) → is_eq (nat_cmp n new) ≡ false
      not_new n l (inl is) = let new_within = new_within at_new in absurd (omega arith)
      not_new n l (inr a) = a

      -- another flow does not have the new number
      mixed : (f : Flow) (n : ℕ) → is_eq (flow_cmp f (flow_of segment)) ≡ false → number_of f followed.table ≡ Some n → n ≡ new → (new ≡ packet) ⊎ (number_of (flow_of segment) table ≡ Some new) → ⊥
      mixed f n a e is (inl p) = let within = sound.within f n (sym (changed.others f a) ∙ e) in omega arith
      mixed f n a e is (inr old) = not_itself f (flow_of segment) a (sound.apart f (flow_of segment) n (sym (changed.others f a) ∙ e) (old ∙ ap Some (sym is)))

      apart : (f g : Flow) (n : ℕ) → number_of f followed.table ≡ Some n → number_of g followed.table ≡ Some n → (f ≡ flow_of segment) ⊎ (is_eq (flow_cmp f (flow_of segment)) ≡ false) → (g ≡ flow_of segment) ⊎ (is_eq (flow_cmp g (flow_of segment)) ≡ false) → f ≡ g
      apart f g n e h (inl is) (inl also) = is ∙ sym also
      apart f g n e h (inl is) (inr b) = absurd (mixed g n b h (is_new n (ap (λ x. number_of x followed.table) (sym is) ∙ e)) at_new)
      apart f g n e h (inr a) (inl also) = absurd (mixed f n a e (is_new n (ap (λ x. number_of x followed.table) (sym also) ∙ h)) at_new)
      apart f g n e h (inr a) (inr b) = sound.apart f g n (sym (changed.others f a) ∙ e) (sym (changed.others g b) ∙ h)

      here : (o : Option Had) (s : Sent) → at new followed.table.active ≡ active_after o (after_segment sent segment) → at new followed.table.active ≡ Some s → s.flow ≡ flow_of segment
      here None s a e = ap (λ (x : Sent). x.flow) (sym (same_Some (after_segment sent segment) s (sym a ∙ e))) ∙ flow
      here (Some had) s a e = absurd (none-some s (sym a ∙ e))

      -- one that has another number was there before
      there : (n : ℕ) (s : Sent) → at n followed.table.active ≡ Some s → is_eq (nat_cmp n new) ≡ false → (number_of (flow_of segment) table ≡ Some n → ⊥) × (at n table.active ≡ Some s)
      there n s e a = (not_old, sym (changed.active_others n a not_old) ∙ e)
        where
          not_old : number_of (flow_of segment) table ≡ Some n → ⊥
          not_old o = none-some s (sym (changed.left n o a) ∙ e)

      owned : (n : ℕ) (s : Sent) → at n followed.table.active ≡ Some s → (n ≡ new) ⊎ (is_eq (nat_cmp n new) ≡ false) → number_of s.flow followed.table ≡ Some n
      owned n s e (inl is) =
          ap (λ x. number_of x followed.table) (here (had_of (after_segment sent segment).state) s changed.active_here (ap (λ m. at m followed.table.active) (sym is) ∙ e))
          ∙ changed.here
          ∙ ap Some (sym is)
      owned n s e (inr a) =
          let was = there n s e a in
          let old : number_of s.flow table ≡ Some n = sound.owned n s was.1 in
          changed.others s.flow (other was.0 (same_or_apart s.flow (flow_of segment)) old) ∙ old
        where
          other : (number_of (flow_of segment) table ≡ Some n → ⊥) → (s.flow ≡ flow_of segment) ⊎ (is_eq (flow_cmp s.flow (flow_of segment)) ≡ false) → number_of s.flow table ≡ Some n → is_eq (flow_cmp s.flow (flow_of segment)) ≡ false
          other not_old (inl is) old = absurd (not_old (ap (λ x. number_of x table) (sym is) ∙ old))
          other not_old (inr b) old = b

      between : (n : ℕ) (s : Sent) → at n followed.table.active ≡ Some s → (n ≡ new) ⊎ (is_eq (nat_cmp n new) ≡ false) → IsBetween s.flow
      between n s e (inl is) = subst IsBetween (sym (here (had_of (after_segment sent segment).state) s changed.active_here (ap (λ m. at m followed.table.active) (sym is) ∙ e))) refl
      between n s e (inr a) = sound.between n s (there n s e a).1

  -- what is found is of its flow
  pub record OfFlow : Type 0 where
    pub all : List Found
    pub is : followed.found ≡ in_flow (flow_of segment) all

  pub went-found : Went limit packet service segment table followed → OfFlow
  went-found (Passes told there is passes) = record { all = untaken_found told; is = ap (λ (x : Followed). x.found) is }
  went-found (Goes new sent at_new flow found changed same) = record { all = segment_found limit sent segment; is = found }
