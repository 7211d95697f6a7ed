-- Directions of which one has a segment that is not listed to its end.
use Rattle.std.proofs.Common.{◌≡◌, ℕ, Bool, true, false, List, [], ◌∷◌, ◌++◌, length, Option, Some, None, Box, Result, Ok, Err, IfOk, refl, sym, ◌∙◌, ap, subst, append_assoc, append-nil}
use Rattle.std.specs.declared.alloc.Global.{Global}
use Rattle.std.specs.BTreeMap.{insert_entry, is_at}
use Rattle.std.specs.Prelude.{if◌then◌else◌, is_some}
use Rattle.std.specs.Map.{lookup}
use Rattle.std.proofs.lemmas.List.{map-append}
use Rattle.krb_packet.specs.declared.contents.Segment.{Segment}
use Rattle.krb_flow.specs.Unread.{nothing, of_reset}
use Rattle.krb_flow.specs.declared.unread.Untaken.{Untaken}
use Rattle.krb_record.specs.declared.flow.Transport.TheVariants as transports
use Rattle.krb_capture.specs.Captures.{Finding, over_tcp, with_each}
use Rattle.krb_capture.specs.Directions.{Followed, HoldsMaps, IsKnown, Table, active_with, after_found, ended_with, flow_cmp, flow_of, in_flow, kept, nothing_found, passed_over, streams_with}
use Rattle.krb_capture.specs.Flows.{origin_of}
use Rattle.krb_capture.specs.Found.{Found, IsFullIf, Written, with_all, with_found}
use Rattle.krb_capture.specs.Rests.{Follows, HoldsSome, RepresentsBut, Sends, TookSome}
use Rattle.krb_capture.specs.Sending.{Sent, Represents, untaken_found}
use Rattle.krb_capture.specs.Unlisted.{Unlisted}
use Rattle.krb_capture.specs.declared.directions.Directions.{Directions}
use Rattle.krb_capture.specs.declared.directions.Last.{Last}
use Rattle.krb_capture.specs.declared.directions.Rest.{Rest}
use Rattle.krb_capture.specs.declared.flow.Due.{Due}
use Rattle.krb_capture.specs.declared.flow.Flow.{Flow}
use Rattle.krb_capture.specs.declared.sending.Sending.{Sending}
use Rattle.krb_capture.specs.declared.sending.Step.{Step}
use Rattle.krb_capture.proofs.Tables.{holds-none}
use Rattle.krb_capture.proofs.Written.{flow-found, over_tcp-append, with_each-append, with_each-flow}

-- ---- a direction that is kept
pub kept-same : (d : Directions) (limit : ℕ) (due : Due) (rest : Option (Box Rest Global)) (left : List Finding) (flow flow' : Flow) (number number' : ℕ) (step step' : Step) (sent : Sent) (table : Table) → flow ≡ flow' → number ≡ number' → step ≡ step' → HoldsSome d limit (kept flow number step sent table) due rest left → HoldsSome d limit (kept flow' number' step' sent table) due rest left
kept-same d limit due rest left flow flow' number number' step step' sent table f n e h =
    subst (λ x. HoldsSome d limit (kept flow' number' x sent table) due rest left) e
    (subst (λ x. HoldsSome d limit (kept flow' x step sent table) due rest left) n
    (subst (λ x. HoldsSome d limit (kept x number step sent table) due rest left) f h))

-- its flow had its number before
pub kept-begun : (d : Directions) (limit : ℕ) (due : Due) (rest : Option (Box Rest Global)) (left : List Finding) (flow flow' : Flow) (number : ℕ) (step step' : Step) (sent : Sent) (table : Table) → flow ≡ flow' → step ≡ step' → step'.began ≡ true → HoldsSome d limit (kept flow number (record { began = false; ended = step.ended }) sent (record table { numbers = insert_entry flow_cmp table.numbers flow number })) due rest left → HoldsSome d limit (kept flow' number step' sent table) due rest left
kept-begun d limit due rest left flow flow' number step step' sent table f e b h =
    kept-same d limit due rest left flow flow' number number step step' sent table f refl e
    (subst (λ x. HoldsSome d limit (record { numbers = if x then insert_entry flow_cmp table.numbers flow number else table.numbers; active = active_with step.ended number sent table.active; ended = ended_with step.ended number flow (length table.streams) table.ended; streams = streams_with step.ended sent.stream table.streams }) due rest left) (sym (ap (λ s. s.began) e ∙ b)) h)

-- nothing is left of its octets
pub represents-all : (one : Sending) (limit : ℕ) (sent : Sent) (octets : Option Unlisted) (left : List Found) → octets ≡ None → RepresentsBut one limit sent octets left → Represents one limit sent × (left ≡ [])
represents-all one limit sent octets left e r =
    let took = subst (λ o. TookSome one.frames limit sent.stream o left) e r.took in
    (record { limit_is = r.limit_is; flow = r.flow; service = r.service; frames = r.frames; state = r.state; keeps = r.keeps; took = took.0 }, took.1)

-- what is known of it is by its flow and number
pub known-same : (b : Bool) (flow : Flow) (one other : Last) (numbers numbers' : List (Flow × ℕ)) → one.flow ≡ other.flow → one.number ≡ other.number → numbers ≡ numbers' → IsKnown b flow one numbers → IsKnown b flow other numbers'
known-same true flow one other numbers numbers' f n e k = sym f ∙ k
known-same false flow one other numbers numbers' f n e k = ap (λ es. lookup (is_at (flow_cmp other.flow)) es) (sym e) ∙ ap (λ x. lookup (is_at (flow_cmp x)) numbers) (sym f) ∙ k ∙ ap Some n

pub both-ok : {T E : Type 0} (P Q : T → Type 0) (r : Result T E) → IfOk r P → IfOk r Q → IfOk r (λ x. P x × Q x)
both-ok P Q (Ok x) p q = (p, q)
both-ok P Q (Err e) p q = p

-- ---- the text is full if anything is left
pub full-same : {X Y : Type 0} (one : Option X) (other : Option Y) (text : List ℕ) → is_some one ≡ is_some other → IsFullIf other text → IsFullIf one text
full-same None other text e f = tt
full-same (Some x) None text e f = absurd cc
full-same (Some x) (Some y) text e f = f

-- ---- what is found in one flow
flow-append : (due : Due) (flow : Flow) (xs ys : List Found) → over_tcp due (in_flow flow (xs ++ ys)) ≡ over_tcp due (in_flow flow xs) ++ over_tcp due (in_flow flow ys)
flow-append due flow xs ys = ap (over_tcp due) (map-append (λ one. (flow, one)) xs ys) ∙ over_tcp-append due (in_flow flow xs) (in_flow flow ys)

pub follows-kept : (d : Directions) (limit : ℕ) (due : Due) (rest : Option (Box Rest Global)) (one : Sending) (sent : Sent) (table : Table) (octets : Option Unlisted) (flow : Flow) (found : List Found) (before after : Written) → flow ≡ sent.flow → (s : Sends one limit sent octets (origin_of due transports.Tcp flow.source flow.target) found before after) → is_some rest ≡ is_some octets → HoldsSome d limit table due rest (over_tcp due (in_flow sent.flow s.left)) → Follows d limit table due rest (over_tcp due (in_flow sent.flow found)) before after
follows-kept d limit due rest one sent table octets flow found before after f s w h = record {
  listed = over_tcp due (in_flow sent.flow s.listed);
  left = over_tcp due (in_flow sent.flow s.left);
  parts = ap (λ x. over_tcp due (in_flow sent.flow x)) s.parts ∙ flow-append due sent.flow s.listed s.left;
  written = flow-found due flow sent.flow s.listed after before s.written f;
  holds = h;
  full = full-same rest octets after.text w s.full;
}

-- ---- nothing is found
pub follows-none : (d : Directions) (limit : ℕ) (due : Due) (followed : Followed) (table : Table) (written : Written) → followed ≡ nothing_found table → d.last ≡ None → HoldsMaps d limit table → Follows d limit followed.table due None (over_tcp due followed.found) written written
follows-none d limit due followed table written e n h =
    subst (λ f. Follows d limit f.table due None (over_tcp due f.found) written written) (sym e)
    (record { listed = []; left = []; parts = refl; written = refl; holds = (holds-none d limit table n h, refl); full = tt })

-- or octets of a segment that are not taken
pub follows-untaken : (d : Directions) (limit : ℕ) (due : Due) (followed : Followed) (segment : Segment) (untaken : Untaken) (table : Table) (before after : Written) → followed ≡ record { found = in_flow (flow_of segment) (untaken_found untaken); table = table } → d.last ≡ None → HoldsMaps d limit table → after ≡ with_all (origin_of due transports.Tcp segment.source segment.target) (untaken_found untaken) before → Follows d limit followed.table due None (over_tcp due followed.found) before after
follows-untaken d limit due followed segment untaken table before after e n h w =
    subst (λ f. Follows d limit f.table due None (over_tcp due f.found) before after) (sym e)
    (record {
      listed = over_tcp due (in_flow (flow_of segment) (untaken_found untaken));
      left = [];
      parts = sym (append-nil (over_tcp due (in_flow (flow_of segment) (untaken_found untaken))));
      written = w ∙ sym (with_each-flow due (flow_of segment) (untaken_found untaken) before);
      holds = (holds-none d limit table n h, refl);
      full = tt;
    })

-- if it begins nothing
pub follows-passed : (d : Directions) (limit : ℕ) (due : Due) (followed : Followed) (segment : Segment) (table : Table) (before after : Written) → followed ≡ passed_over segment table → d.last ≡ None → HoldsMaps d limit table → after ≡ with_all (origin_of due transports.Tcp segment.source segment.target) (untaken_found (record nothing { apart = of_reset segment })) before → Follows d limit followed.table due None (over_tcp due followed.found) before after
follows-passed d limit due followed segment table before after e n h w = follows-untaken d limit due followed segment (record nothing { apart = of_reset segment }) table before after e n h w

-- ---- after what was found before
pub follows-after : (d : Directions) (limit : ℕ) (due : Due) (rest : Option (Box Rest Global)) (room : List (Flow × Found)) (begun : Followed) (l0 l1 l2 : Written) → l1 ≡ with_each (over_tcp due room) l0 → Follows d limit begun.table due rest (over_tcp due begun.found) l1 l2 → Follows d limit (after_found room begun).table due rest (over_tcp due (after_found room begun).found) l0 l2
follows-after d limit due rest room begun l0 l1 l2 e f = record {
  listed = over_tcp due room ++ f.listed;
  left = f.left;
  parts = over_tcp-append due room begun.found ∙ ap (λ z. over_tcp due room ++ z) f.parts ∙ sym (append_assoc (over_tcp due room) f.listed f.left);
  written = f.written ∙ ap (λ l. with_each f.listed l) e ∙ sym (with_each-append (over_tcp due room) f.listed l0);
  holds = f.holds;
  full = f.full;
}

-- after one finding
pub follows-one : (d : Directions) (limit : ℕ) (due : Due) (table : Table) (rest : Option (Box Rest Global)) (first : Finding) (found : List Finding) (l0 l1 l2 : Written) → l1 ≡ with_found first.0 first.1 l0 → Follows d limit table due rest found l1 l2 → Follows d limit table due rest (first ∷ found) l0 l2
follows-one d limit due table rest first found l0 l1 l2 e f = record {
  listed = first ∷ f.listed;
  left = f.left;
  parts = ap (λ l. first ∷ l) f.parts;
  written = f.written ∙ ap (λ l. with_each f.listed l) e;
  holds = f.holds;
  full = f.full;
}
