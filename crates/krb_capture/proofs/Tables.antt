-- Directions that are kept by their numbers, and the table that they represent.
use Rattle.std.proofs.Common.{◌≡◌, ℕ, Bool, true, false, List, [], ◌∷◌, length, Option, Some, None, Box, refl, sym, ◌∙◌, ap, ap₂, subst}
use Rattle.std.specs.Prelude.{cond, not, ◌&&◌, ◌||◌, if◌then◌else◌, nat_lt}
use Rattle.std.specs.declared.alloc.Global.{Global}
use Rattle.std.specs.declared.cmp.Ordering.{Ordering}
use Rattle.std.specs.declared.cmp.Ordering.TheVariants.{Less, Equal, Greater}
use Rattle.std.specs.Ordering.{eq_by_cmp, is_eq, match_ordering, nat_cmp}
use Rattle.std.proofs.lemmas.Cmp.{nat_cmp_total, tied_itself}
use Rattle.krb_capture.specs.contracts.flow.FlowOrd.TheImpl.Laws as flow_laws
use Rattle.std.specs.Map.{lookup, remove_entry}
use Rattle.std.specs.BTreeMap.{insert_entry, is_at}
use Rattle.krb_capture.specs.Directions.{AllRepresented, HoldsMaps, HoldsTable, HoldsWith, IsAmong, IsKnown, Table, after_found, begins, begun, by_number, flow_cmp, flow_of, followed, forgotten, active_with, ended_with, gone_on, in_flow, kept, last_of, nothing_found, of_ended, of_known, copied, passed_over, streams_with, with_one_less, with_room, without, Followed}
use Rattle.krb_capture.specs.Sending.{Sent, Represents, last_found, sent_from, step_of, untaken_found}
use Rattle.krb_capture.specs.Recent.{Remembers, still_kept}
use Rattle.krb_der.specs.Octets.{when}
use Rattle.krb_source.specs.declared.unread_why.UnreadWhy.TheVariants as why
use Rattle.krb_flow.specs.Unread.{if_any, nothing}
use Rattle.krb_flow.specs.Window.{last}
use Rattle.krb_flow.specs.declared.direction.State.{State}
use Rattle.krb_flow.specs.declared.direction.State.TheVariants as states
use Rattle.krb_flow.specs.declared.had.Had.{Had}
use Rattle.krb_packet.specs.declared.contents.Segment.{Segment}
use Rattle.krb_record.specs.declared.flow.Transport.TheVariants as transports
use Rattle.krb_capture.specs.Captures.{over_tcp, with_each}
use Rattle.krb_capture.specs.Flows.{origin_of}
use Rattle.krb_capture.specs.Found.{Written, with_all}
use Rattle.krb_capture.specs.declared.flow.Due.{Due}
use Rattle.krb_flow.specs.declared.unread.Untaken.{Untaken}
use Rattle.krb_capture.proofs.Untaken.{untaken-none}
use Rattle.krb_capture.proofs.Maps.{lookup-inserted, lookup-tied, tied}
use Rattle.krb_capture.proofs.Written.{flow-found, over_tcp-append, with_each-append}
use Rattle.krb_capture.specs.declared.directions.Directions.{Directions}
use Rattle.krb_capture.specs.declared.directions.Gone.{Gone}
use Rattle.krb_capture.specs.declared.directions.Last.{Last}
use Rattle.krb_capture.specs.declared.flow.Flow.{Flow}
use Rattle.krb_capture.specs.declared.flow.Service.{Service}
use Rattle.krb_capture.specs.declared.sending.Sending.{Sending}
use Rattle.krb_capture.specs.declared.sending.Step.{Step}

pub no-true : false ≡ true → ⊥
no-true e = cc

-- a direction that is kept
abbrev pub Kept : Type 0
Kept = Box Sending Global

abbrev pub BothStand : ℕ → Option Kept → Option Sent → Type 0
BothStand limit None None = Unit {0}
BothStand limit (Some kept) (Some sent) = Represents kept.value limit sent
BothStand limit (Some kept) None = ⊥
BothStand limit None (Some sent) = ⊥

pub represented-lookup : (limit : ℕ) (test : ℕ → Bool) (ks : List (ℕ × Kept)) (ss : List (ℕ × Sent)) → AllRepresented limit ks ss → BothStand limit (lookup test ks) (lookup test ss)
represented-lookup limit test [] [] a = tt
represented-lookup limit test [] (s ∷ ss) a = absurd a
represented-lookup limit test (k ∷ ks) [] a = absurd a
represented-lookup limit test (k ∷ ks) (s ∷ ss) a =
    subst (λ b. BothStand limit (cond b (Some k.1) (lookup test ks)) (cond (test s.0) (Some s.1) (lookup test ss))) (sym (ap test a.0)) (by (test s.0) (represented-lookup limit test ks ss a.2))
  where
    by : (b : Bool) → BothStand limit (lookup test ks) (lookup test ss) → BothStand limit (cond b (Some k.1) (lookup test ks)) (cond b (Some s.1) (lookup test ss))
    by true rest = a.1
    by false rest = rest

pub represented-remove : (limit : ℕ) (test : ℕ → Bool) (ks : List (ℕ × Kept)) (ss : List (ℕ × Sent)) → AllRepresented limit ks ss → AllRepresented limit (remove_entry test ks) (remove_entry test ss)
represented-remove limit test [] [] a = tt
represented-remove limit test [] (s ∷ ss) a = absurd a
represented-remove limit test (k ∷ ks) [] a = absurd a
represented-remove limit test (k ∷ ks) (s ∷ ss) a =
    subst (λ b. AllRepresented limit (cond b ks (k ∷ remove_entry test ks)) (cond (test s.0) ss (s ∷ remove_entry test ss))) (sym (ap test a.0)) (by (test s.0) (represented-remove limit test ks ss a.2))
  where
    by : (b : Bool) → AllRepresented limit (remove_entry test ks) (remove_entry test ss) → AllRepresented limit (cond b ks (k ∷ remove_entry test ks)) (cond b ss (s ∷ remove_entry test ss))
    by true rest = a.2
    by false rest = (a.0, a.1, rest)

pub represented-insert : (limit number : ℕ) (ks : List (ℕ × Kept)) (ss : List (ℕ × Sent)) (kept : Kept) (sent : Sent) → Represents kept.value limit sent → AllRepresented limit ks ss → AllRepresented limit (insert_entry nat_cmp ks number kept) (insert_entry nat_cmp ss number sent)
represented-insert limit number [] [] kept sent one a = (refl, one, tt)
represented-insert limit number [] (s ∷ ss) kept sent one a = absurd a
represented-insert limit number (k ∷ ks) [] kept sent one a = absurd a
represented-insert limit number (k ∷ ks) (s ∷ ss) kept sent one a =
    subst (λ o. AllRepresented limit (match_ordering o ((number, kept) ∷ k ∷ ks) ((k.0, kept) ∷ ks) (k ∷ insert_entry nat_cmp ks number kept)) (match_ordering (nat_cmp number s.0) ((number, sent) ∷ s ∷ ss) ((s.0, sent) ∷ ss) (s ∷ insert_entry nat_cmp ss number sent))) (sym (ap (nat_cmp number) a.0)) (by (nat_cmp number s.0) (represented-insert limit number ks ss kept sent one a.2))
  where
    by : (o : Ordering) → AllRepresented limit (insert_entry nat_cmp ks number kept) (insert_entry nat_cmp ss number sent) → AllRepresented limit (match_ordering o ((number, kept) ∷ k ∷ ks) ((k.0, kept) ∷ ks) (k ∷ insert_entry nat_cmp ks number kept)) (match_ordering o ((number, sent) ∷ s ∷ ss) ((s.0, sent) ∷ ss) (s ∷ insert_entry nat_cmp ss number sent))
    by Less rest = (refl, one, a)
    by Equal rest = (a.0, one, a.2)
    by Greater rest = (a.0, a.1, rest)

-- a direction is kept by its number, or what it had if it ended
abbrev pub kept_with : Option Had → ℕ → Kept → List (ℕ × Kept) → List (ℕ × Kept)
kept_with None number one active = insert_entry nat_cmp active number one
kept_with (Some had) number one active = active

pub HoldsMaps-kept : (old new : Directions) (limit number : ℕ) (flow : Flow) (step : Step) (table : Table) (one : Kept) (sent : Sent) → HoldsMaps old limit table → Represents one.value limit sent → new.limit ≡ old.limit → new.numbers.entries ≡ (if step.began then insert_entry flow_cmp old.numbers.entries flow number else old.numbers.entries) → new.active.entries ≡ kept_with step.ended number one old.active.entries → new.ended.entries ≡ ended_with step.ended number flow old.recent.count old.ended.entries → Remembers new.recent (streams_with step.ended sent.stream table.streams) → HoldsMaps new limit (kept flow number step sent table)
HoldsMaps-kept old new limit number flow step table one sent h s l n a d r = record {
  limit_is = l ∙ h.limit_is;
  numbers = n ∙ ap (λ es. if step.began then insert_entry flow_cmp es flow number else es) h.numbers;
  active = subst (λ es. AllRepresented limit es (active_with step.ended number sent table.active)) (sym a) (by step.ended);
  ended = d ∙ ap₂ (λ (k : ℕ) (es : List (ℕ × Gone)). ended_with step.ended number flow k es) h.recent.count h.ended;
  recent = r;
}
  where
    by : (o : Option Had) → AllRepresented limit (kept_with o number one old.active.entries) (active_with o number sent table.active)
    by (Some had) = h.active
    by None = represented-insert limit number old.active.entries table.active one sent s h.active

-- ---- the last direction

-- there is none, or it is put back
pub holds-none : (d : Directions) (limit : ℕ) (table : Table) → d.last ≡ None → HoldsMaps d limit table → HoldsTable d limit table
holds-none d limit table e m = subst (λ o. HoldsWith o d limit table) (sym e) m

pub is-among : (d : Directions) (limit : ℕ) (table : Table) (last : Last) → d.last ≡ Some last → HoldsTable d limit table → IsAmong last d limit table
is-among d limit table last e h = subst (λ o. HoldsWith o d limit table) e h

pub maps-back : (old new : Directions) (limit : ℕ) (table : Table) (last : Last) → IsAmong last old limit table → new.limit ≡ old.limit → new.numbers.entries ≡ old.numbers.entries → new.active.entries ≡ insert_entry nat_cmp old.active.entries last.number last.sending → new.ended.entries ≡ old.ended.entries → new.recent ≡ old.recent → HoldsMaps new limit table
maps-back old new limit table last h l n a d r = record {
  limit_is = l ∙ h.maps.limit_is;
  numbers = n ∙ h.maps.numbers;
  active = subst (λ es. AllRepresented limit es table.active) (sym a) (subst (λ ss. AllRepresented limit (insert_entry nat_cmp old.active.entries last.number last.sending) ss) (sym h.active) (represented-insert limit last.number old.active.entries h.others last.sending h.sent h.represents h.maps.active));
  ended = d ∙ h.maps.ended;
  recent = subst (λ x. Remembers x table.streams) (sym r) h.maps.recent;
}

-- it is found again
some_is_none : {X : Type 0} (x : X) → Some x ≡ None → ⊥
some_is_none x e = cc

module _ {X : Type 0} (n : ℕ) (v : X) where
  pub remove-inserted : (es : List (ℕ × X)) → lookup (is_at (nat_cmp n)) es ≡ None → remove_entry (is_at (nat_cmp n)) (insert_entry nat_cmp es n v) ≡ es
  remove-inserted [] h = ap (λ o. cond (is_eq o) [] ((n, v) ∷ [])) (tied_itself nat_cmp_total n)
  remove-inserted (e ∷ es) h = by (nat_cmp n e.0) refl (remove-inserted es)
    where
      by : (o : Ordering) → nat_cmp n e.0 ≡ o → (lookup (is_at (nat_cmp n)) es ≡ None → remove_entry (is_at (nat_cmp n)) (insert_entry nat_cmp es n v) ≡ es) → remove_entry (is_at (nat_cmp n)) (match_ordering o ((n, v) ∷ e ∷ es) ((e.0, v) ∷ es) (e ∷ insert_entry nat_cmp es n v)) ≡ e ∷ es
      by Less q rest = ap (λ o. cond (is_eq o) (e ∷ es) ((n, v) ∷ remove_entry (is_at (nat_cmp n)) (e ∷ es))) (tied_itself nat_cmp_total n)
      by Equal q rest = absurd (some_is_none e.1 (sym (ap (λ o. cond (is_eq o) (Some e.1) (lookup (is_at (nat_cmp n)) es)) q) ∙ h))
      by Greater q rest =
          ap (λ o. cond (is_eq o) (insert_entry nat_cmp es n v) (e ∷ remove_entry (is_at (nat_cmp n)) (insert_entry nat_cmp es n v))) q
          ∙ ap (λ l. e ∷ l) (rest (sym (ap (λ o. cond (is_eq o) (Some e.1) (lookup (is_at (nat_cmp n)) es)) q) ∙ h))

-- ---- a direction that is looked up
pub both-none : (limit : ℕ) (m : Option Sent) → BothStand limit None m → m ≡ None
both-none limit None b = refl
both-none limit (Some s) b = absurd b

-- a direction that was found
pub record IsFound (limit : ℕ) (one : Kept) (m : Option Sent) : Type 0 where
  pub sent : Sent
  pub is : m ≡ Some sent
  pub represents : Represents one.value limit sent

pub is-found : (limit : ℕ) (l : Option Kept) (m : Option Sent) (one : Kept) → BothStand limit l m → l ≡ Some one → IsFound limit one m
is-found limit None m one b e = absurd cc
is-found limit (Some k) None one b e = absurd b
is-found limit (Some k) (Some s) one b e =
    let k' : k ≡ one = cc in
    record { sent = s; is = refl; represents = subst (λ (x : Kept). Represents x.value limit s) k' b }

-- ---- one that begins
pub began-first : (segment : Segment) → begins segment ≡ true → (step_of states.Fresh segment).began ≡ true
began-first segment = by segment.rst segment.syn (nat_lt 0 segment.payload.size) refl refl refl
  where
    by : (r s n : Bool) → segment.rst ≡ r → segment.syn ≡ s → nat_lt 0 segment.payload.size ≡ n → (not r && (s || n)) ≡ true → (step_of states.Fresh segment).began ≡ true
    by true s n er es en b = absurd (no-true b)
    by false true n er es en b = rw (er, es) refl
    by false false true er es en b = rw (er, es, en) refl
    by false false false er es en b = absurd (no-true b)

and-false : (b : Bool) → (b && false) ≡ false
and-false true = refl
and-false false = refl

not-begun : (had : Had) (segment : Segment) → begins segment ≡ false → (step_of (states.Ended had) segment).began ≡ false
not-begun had segment = by segment.rst segment.syn (nat_lt 0 segment.payload.size) refl refl refl
  where
    by : (r s n : Bool) → segment.rst ≡ r → segment.syn ≡ s → nat_lt 0 segment.payload.size ≡ n → (not r && (s || n)) ≡ false → (step_of (states.Ended had) segment).began ≡ false
    by true s n er es en b = rw er refl
    by false true n er es en b = absurd cc
    by false false true er es en b = absurd cc
    by false false false er es en b = rw (er, es, en, and-false _) refl

pub represents-begun : (one : Sending) (limit limit' : ℕ) (flow flow' : Flow) (service : Service) (state : State) → Represents one limit (sent_from flow service state) → limit ≡ limit' → flow ≡ flow' → Represents one limit' (sent_from flow' service state)
represents-begun one limit limit' flow flow' service state s l f =
    subst (λ x. Represents one limit' (sent_from x service state)) f (subst (λ x. Represents one x (sent_from flow service state)) l s)

-- ---- room for one more
pub record HasFirst (limit : ℕ) (table : Table) (first : ℕ × Kept) (others : List (ℕ × Kept)) : Type 0 where
  pub sent : ℕ × Sent
  pub rest : List (ℕ × Sent)
  pub is : table.active ≡ sent ∷ rest
  pub represents : Represents first.1.value limit sent.1
  pub all : AllRepresented limit others rest

pub has-first : (limit : ℕ) (table : Table) (ks : List (ℕ × Kept)) (first : ℕ × Kept) (others : List (ℕ × Kept)) → AllRepresented limit ks table.active → ks ≡ first ∷ others → HasFirst limit table first others
has-first limit table ks first others a e = by table.active refl (subst (λ l. AllRepresented limit l table.active) e a)
  where
    by : (ss : List (ℕ × Sent)) → table.active ≡ ss → AllRepresented limit (first ∷ others) ss → HasFirst limit table first others
    by [] e a = absurd a
    by (s ∷ ss) e a = record { sent = s; rest = ss; is = e; represents = a.1; all = a.2 }

-- if none has ended the one that began first ends
pub room-first : (limit : ℕ) (table : Table) (s : ℕ × Sent) (ss : List (ℕ × Sent)) → nat_lt (length table.numbers) 65536 ≡ false → table.ended ≡ [] → table.active ≡ s ∷ ss → with_room limit table ≡ record { found = in_flow s.1.flow (last_found limit s.1); table = forgotten s.1.flow (record table { active = ss }) }
room-first limit table s ss n d a = rw (n, d, a) refl

-- ---- a segment that begins nothing
pub not_rst : (r s : Bool) → (not r && s) ≡ true → r ≡ false
not_rst true s e = absurd (no-true e)
not_rst false s e = refl

-- one that might begin a direction has no RST
pub passes-none : (segment : Segment) (table : Table) → begins segment ≡ true → passed_over segment table ≡ nothing_found table
passes-none segment table b =
    ap (λ (r : Bool). record { found = in_flow (flow_of segment) (untaken_found (record nothing { apart = when r (λ _. if_any None (length segment.payload.octets) why.Reset) (λ _. None) })); table = table })
    (not_rst segment.rst (segment.syn || nat_lt 0 segment.payload.size) b)

-- ---- what is found with a segment, by what is known of its flow
module _ (limit packet : ℕ) (service : Service) (segment : Segment) (table : Table) where
  pub followed-known : (number : ℕ) → lookup (is_at (flow_cmp (flow_of segment))) table.numbers ≡ Some number → followed limit packet service segment table ≡ of_known limit packet number (lookup (is_at (nat_cmp number)) table.active) service segment table
  unfolding followed
  followed-known number e = ap (λ o. by_number limit packet o service segment table) e

  pub followed-begins : lookup (is_at (flow_cmp (flow_of segment))) table.numbers ≡ None → begins segment ≡ true → followed limit packet service segment table ≡ after_found (with_room limit table).found (begun limit packet service states.Fresh segment (with_room limit table).table)
  unfolding followed
  followed-begins e b = ap (λ o. by_number limit packet o service segment table) e ∙ ap (λ x. if x then after_found (with_room limit table).found (begun limit packet service states.Fresh segment (with_room limit table).table) else passed_over segment table) b

  -- there is room for it
  pub followed-room : lookup (is_at (flow_cmp (flow_of segment))) table.numbers ≡ None → begins segment ≡ true → nat_lt (length table.numbers) 65536 ≡ true → followed limit packet service segment table ≡ begun limit packet service states.Fresh segment table
  followed-room e b n =
      followed-begins e b
      ∙ ap (λ room. after_found room.found (begun limit packet service states.Fresh segment room.table)) (ap (λ x. if x then nothing_found table else with_one_less limit table.ended table.active table) n)

  pub followed-passed : lookup (is_at (flow_cmp (flow_of segment))) table.numbers ≡ None → begins segment ≡ false → followed limit packet service segment table ≡ passed_over segment table
  unfolding followed
  followed-passed e b = ap (λ o. by_number limit packet o service segment table) e ∙ ap (λ x. if x then after_found (with_room limit table).found (begun limit packet service states.Fresh segment (with_room limit table).table) else passed_over segment table) b

  abbrev begun_again : ℕ → Had → Followed
  begun_again number had = begun limit packet service (states.Ended had) segment (record table { ended = remove_entry (is_at (nat_cmp number)) table.ended })

  -- one that ended, by what is kept of it
  pub ended-begins : (number : ℕ) (gone : Gone) → (step_of (states.Ended gone.had) segment).began ≡ true → of_ended limit packet number (Some gone) service segment table ≡ begun_again number gone.had
  ended-begins number gone b = ap (λ x. if x then begun_again number gone.had else copied gone segment table) b

  -- copies, and neither a SYN nor data
  pub ended-stays : (number : ℕ) (gone : Gone) → (step_of (states.Ended gone.had) segment).began ≡ false → of_ended limit packet number (Some gone) service segment table ≡ copied gone segment table
  ended-stays number gone b = ap (λ x. if x then begun_again number gone.had else copied gone segment table) b

  pub ended-passed : (number : ℕ) (found : Option Gone) → begins segment ≡ false → of_ended limit packet number found service segment table ≡ passed_over segment table
  ended-passed number None b = refl
  ended-passed number (Some gone) b = ended-stays number gone (not-begun gone.had segment b) ∙ ap (λ (x : Untaken). record { found = in_flow (flow_of segment) (untaken_found x); table = table }) (untaken-none gone.had (still_kept table.streams gone.nth) segment (not-begun gone.had segment b) b)

-- ---- the last direction, by its flow
pub same-lookup : (f g : Flow) (es : List (Flow × ℕ)) → eq_by_cmp flow_cmp f g ≡ true → lookup (is_at (flow_cmp f)) es ≡ lookup (is_at (flow_cmp g)) es
same-lookup f g es e = lookup-tied flow_laws.total-law f g es (tied (flow_cmp f g) e)

-- it is found, and without it the others are there
pub record TakesLast (last : Last) (d : Directions) (limit packet : ℕ) (service : Service) (segment : Segment) (table : Table) : Type 0 where
  pub sent : Sent
  pub represents : Represents last.sending.value limit sent
  pub known : lookup (is_at (flow_cmp last.flow)) d.numbers.entries ≡ Some last.number
  pub maps : HoldsMaps d limit (without last.number table)
  pub followed_is : followed limit packet service segment table ≡ gone_on limit packet last.number sent segment table

pub takes-last : (last : Last) (d : Directions) (limit packet : ℕ) (service : Service) (segment : Segment) (table : Table) → IsAmong last d limit table → eq_by_cmp flow_cmp last.flow (flow_of segment) ≡ true → TakesLast last d limit packet service segment table
takes-last last d limit packet service segment table h e = record {
  sent = h.sent;
  represents = h.represents;
  known = h.known;
  maps = subst (λ ss. HoldsMaps d limit (record table { active = ss })) (sym (ap (remove_entry (is_at (nat_cmp last.number))) h.active ∙ remove-inserted last.number h.sent h.others none)) h.maps;
  followed_is =
      followed-known limit packet service segment table last.number (sym (same-lookup last.flow (flow_of segment) table.numbers e) ∙ ap (λ es. lookup (is_at (flow_cmp last.flow)) es) (sym h.maps.numbers) ∙ h.known)
      ∙ ap (λ m. of_known limit packet last.number m service segment table) (ap (λ es. lookup (is_at (nat_cmp last.number)) es) h.active ∙ lookup-inserted nat_cmp_total last.number h.sent h.others);
}
  where
    none : lookup (is_at (nat_cmp last.number)) h.others ≡ None
    none = both-none limit (lookup (is_at (nat_cmp last.number)) h.others) (subst (λ m. BothStand limit m (lookup (is_at (nat_cmp last.number)) h.others)) h.alone (represented-lookup limit (is_at (nat_cmp last.number)) d.active.entries h.others h.maps.active))

-- one that goes on is known
pub known-after : (step : Step) (flow : Flow) (last kept : Last) (packet : ℕ) (numbers : List (Flow × ℕ)) → kept.flow ≡ (if step.began then flow else last.flow) → kept.number ≡ (if step.began then packet else last.number) → lookup (is_at (flow_cmp last.flow)) numbers ≡ Some last.number → IsKnown step.began flow kept numbers
known-after step flow last kept packet numbers f n k = by step.began f n
  where
    by : (b : Bool) → kept.flow ≡ (if b then flow else last.flow) → kept.number ≡ (if b then packet else last.number) → IsKnown b flow kept numbers
    by true f n = f
    by false f n = ap (λ x. lookup (is_at (flow_cmp x)) numbers) f ∙ k ∙ ap Some (sym n)

-- ---- the directions that are left at the end
pub record Left (limit : ℕ) (table : Table) (due : Due) (initial : Written) (now : Directions) (written : Written) : Type 0 where
  pub rest : List (ℕ × Sent)
  pub all : AllRepresented limit now.active.entries rest
  pub listed : with_each (over_tcp due (last_of limit rest)) written ≡ with_each (over_tcp due (last_of limit table.active)) initial

-- those that ended are listed
pub record EndsSome (old : Directions) (due : Due) (initial : Written) (now : Directions) (written : Written) : Type 0 where
  pub ends : (limit : ℕ) (table : Table) → HoldsMaps old limit table → Left limit table due initial now written

pub EndsSome-start : (old : Directions) (due : Due) (initial : Written) → EndsSome old due initial old initial
EndsSome-start old due initial = record { ends = λ limit table h. record { rest = table.active; all = h.active; listed = refl } }

pub EndsSome-next : (old now next : Directions) (due : Due) (initial written more : Written) (number : ℕ) (one : Kept) → EndsSome old due initial now written → now.active.entries ≡ (number, one) ∷ next.active.entries → ((limit : ℕ) (sent : Sent) → Represents one.value limit sent → more ≡ with_all (origin_of due transports.Tcp one.value.flow.source one.value.flow.target) (last_found limit sent) written) → EndsSome old due initial next more
EndsSome-next old now next due initial written more number one e first found = record {
  ends = λ limit table h.
      let left = e.ends limit table h in
      let one_less = has-first limit (record table { active = left.rest }) now.active.entries (number, one) next.active.entries left.all first in
      record {
        rest = one_less.rest;
        all = one_less.all;
        listed =
            ap (λ l. with_each (over_tcp due (last_of limit one_less.rest)) l) (flow-found due one.value.flow one_less.sent.1.flow (last_found limit one_less.sent.1) more written (found limit one_less.sent.1 one_less.represents) one_less.represents.flow)
            ∙ sym (with_each-append (over_tcp due (in_flow one_less.sent.1.flow (last_found limit one_less.sent.1))) (over_tcp due (last_of limit one_less.rest)) written)
            ∙ ap (λ l. with_each l written) (sym (over_tcp-append due (in_flow one_less.sent.1.flow (last_found limit one_less.sent.1)) (last_of limit one_less.rest)))
            ∙ ap (λ l. with_each (over_tcp due (last_of limit l)) written) (sym one_less.is)
            ∙ left.listed;
      };
}
