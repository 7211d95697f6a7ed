-- Records that are told one after another: those of a direction that begins, and those of the end.
use Rattle.std.proofs.Common.{◌≡◌, ℕ, ◌<◌, arith, Bool, true, false, if◌then◌else◌, cond, List, [], ◌∷◌, ◌++◌, length, filter, map, Option, Some, None, refl, sym, ◌∙◌, ap, ap₂, subst, append_assoc, append-nil}
use Rattle.krb_exchange.specs.Happened.{begun, ended_if, in_state, is_open_request}
use Rattle.krb_exchange.specs.declared.sending.Moment.{Moment}
use Rattle.krb_exchange.specs.declared.sending.Sending.{Sending}
use Rattle.krb_exchange.specs.declared.sending.State.TheVariants as states
use Rattle.krb_record.specs.declared.capture_origin.CaptureOrigin.{CaptureOrigin}
use Rattle.krb_capture.specs.Labels.{Label}
use Rattle.krb_record.specs.declared.flow.Flow.{Flow}
use Rattle.krb_record.specs.declared.told.ToldCounts.{ToldCounts}
use Rattle.krb_capture.specs.Ends.{IsEnded, told_in}
use Rattle.krb_capture.specs.Found.{Begun, Written, with_found}
use Rattle.krb_capture.specs.Happened.{begun_heard, each_counted, end_counts, end_lines, end_news, moment_of, news_counted, news_line, news_lines}
use Rattle.krb_capture.specs.Told.{HaveSameCounts, TakesBegun, TakesEnded, begun_left, begun_news, open_news, with_news}
use Rattle.krb_capture.specs.declared.happened.Happened.{Happened}
use Rattle.krb_capture.specs.declared.happened.News.{News}
use Rattle.krb_capture.specs.declared.happened.News.TheVariants as news

-- ---- a direction that begins
-- what has ended is told no more
ended-told : (flow : Flow) (xs : List Sending) → (begun flow (begun flow xs).window).told ≡ []
ended-told flow [] = refl
ended-told flow (x ∷ xs) = by (is_open_request flow (λ _. true) x) refl (ended-told flow xs)
  where
    by : (b : Bool) → is_open_request flow (λ _. true) x ≡ b → (begun flow (begun flow xs).window).told ≡ [] → filter (is_open_request flow (λ _. true)) ((if b then in_state states.Ended x else x) ∷ ended_if (is_open_request flow (λ _. true)) xs) ≡ []
    by true e others = others
    by false e others = ap (λ c. cond c (x ∷ (begun flow (begun flow xs).window).told) (begun flow (begun flow xs).window).told) e ∙ others

abbrev with_counts : ToldCounts → Option Happened → Option Happened
with_counts counts None = None
with_counts counts (Some happened) = Some (record happened { counts = counts })

pub begun-step : (origin : CaptureOrigin) (one : News) (before taken new : Written) → TakesBegun (Some one) origin before taken → new ≡ with_news one (moment_of origin) taken → with_found origin Begun new ≡ with_found origin Begun before
begun-step origin one before taken new t n = ap (with_found origin Begun) (n ∙ ap (with_news one (moment_of origin)) t.same) ∙ by before.happened taken.happened t.counts t.next t.left
  where
    by : (was next_is : Option Happened) → HaveSameCounts was next_is → one ∷ begun_news origin next_is ≡ begun_news origin was → begun_left origin next_is ≡ begun_left origin was → with_found origin Begun (with_news one (moment_of origin) (record before { happened = next_is })) ≡ with_found origin Begun (record before { happened = was })
    by None None s e l = absurd cc
    by None (Some b) s e l = absurd s
    by (Some a) None s e l = absurd s
    by (Some a) (Some b) s e l =
        ap₂ (λ x h. record before { text = x; happened = h })
        (append_assoc before.text (news_line before.label (moment_of origin) one) (news_lines before.label (moment_of origin) (begun_heard origin b).news) ∙ ap (λ xs. before.text ++ news_lines before.label (moment_of origin) xs) e)
        (ap (with_counts (each_counted (begun_heard origin b).news (news_counted one b.counts))) l
        ∙ ap (λ c. Some (record (begun_heard origin a).happened { counts = c }))
        (ap (λ (x : Happened). each_counted (begun_heard origin b).news (news_counted one x.counts)) s ∙ ap (λ xs. each_counted xs a.counts) e))

pub begun-none : (origin : CaptureOrigin) (before new : Written) → TakesBegun None origin before new → new ≡ with_found origin Begun before
begun-none origin before new t = t.same ∙ by before.happened new.happened t.next t.last
  where
    by : (was now : Option Happened) → begun_news origin now ≡ begun_news origin was → now ≡ begun_left origin was → record before { happened = now } ≡ with_found origin Begun (record before { happened = was })
    by None now e l = ap (λ h. record before { happened = h }) l ∙ ap (λ x. record before { text = x; happened = None }) (sym (append-nil before.text))
    by (Some a) now e l =
        let none : (begun_heard origin a).news ≡ [] = sym e ∙ ap (begun_news origin) l ∙ ap (λ xs. map (λ sending. news.Missed sending) xs) (ended-told origin.flow a.sendings) in
        ap (λ h. record before { happened = h }) l
        ∙ ap (λ x. record before { text = x; happened = begun_left origin (Some a) }) (sym (append-nil before.text))
        ∙ ap (λ xs. record before { text = before.text ++ news_lines before.label (moment_of origin) xs; happened = Some (record (begun_heard origin a).happened { counts = each_counted xs a.counts }) }) (sym none)

-- each time there is one less to tell
begun-kept : (origin : CaptureOrigin) (one : News) (now : Moment) (w : Written) → begun_news origin (with_news one now w).happened ≡ begun_news origin w.happened
begun-kept origin one now w = by w.happened
  where
    by : (h : Option Happened) → begun_news origin (with_news one now (record w { happened = h })).happened ≡ begun_news origin h
    by None = refl
    by (Some a) = refl

pub begun-less : (origin : CaptureOrigin) (one : News) (now : Moment) (before taken new : Written) → TakesBegun (Some one) origin before taken → new ≡ with_news one now taken → length (begun_news origin new.happened) < length (begun_news origin before.happened)
begun-less origin one now before taken new t n =
    let left : begun_news origin new.happened ≡ begun_news origin taken.happened = ap (λ w. begun_news origin w.happened) n ∙ begun-kept origin one now taken in
    subst (λ xs. length (begun_news origin new.happened) < length xs) t.next (rw left (omega arith))

-- ---- the end
-- what is told and counted up to the end is the same, however much of it was told before
pub record Ends (now : Moment) (old w : Written) : Type 0 where
  pub same : w ≡ record old { text = w.text; happened = w.happened }
  pub lines : w.text ++ end_lines old.label now w.happened ≡ old.text ++ end_lines old.label now old.happened
  pub counts : end_counts w.happened ≡ end_counts old.happened

pub ends-start : (now : Moment) (old : Written) → Ends now old old
ends-start now old = record { same = refl; lines = refl; counts = refl }

lines-open : (now : Moment) (old : Written) (h : Option Happened) → news_lines old.label now (open_news h) ≡ end_lines old.label now h
lines-open now old None = refl
lines-open now old (Some a) = refl

counts-open : (h : Option Happened) → each_counted (open_news h) (told_in h) ≡ end_counts h
counts-open None = refl
counts-open (Some a) = refl

same-told : (was now : Option Happened) → HaveSameCounts was now → told_in now ≡ told_in was
same-told None None s = refl
same-told None (Some b) s = absurd s
same-told (Some a) None s = absurd s
same-told (Some a) (Some b) s = ap (λ (x : Happened). x.counts) s

lines-step : (now : Moment) (one : News) (label label' : Label) (text : List ℕ) (less more : List News) → label ≡ label' → one ∷ less ≡ more → (text ++ news_line label now one) ++ news_lines label' now less ≡ text ++ news_lines label' now more
lines-step now one label label' text less more same e =
    append_assoc text (news_line label now one) (news_lines label' now less)
    ∙ ap (λ x. text ++ (news_line x now one ++ news_lines label' now less)) same
    ∙ ap (λ xs. text ++ news_lines label' now xs) e

pub ends-step : (now : Moment) (one : News) (old w taken new : Written) → Ends now old w → TakesEnded (Some one) w taken → new ≡ with_news one now taken → Ends now old new
ends-step now one old w taken new i t n = subst (Ends now old) (sym (n ∙ ap (with_news one now) t.same)) (by w.happened taken.happened t.counts t.next i.counts i.lines)
  where
    by : (was next_is : Option Happened) → HaveSameCounts was next_is → one ∷ open_news next_is ≡ open_news was → end_counts was ≡ end_counts old.happened → w.text ++ end_lines old.label now was ≡ old.text ++ end_lines old.label now old.happened → Ends now old (with_news one now (record w { happened = next_is }))
    by None None s e c l = absurd cc
    by None (Some b) s e c l = absurd s
    by (Some a) None s e c l = absurd s
    by (Some a) (Some b) s e c l = record {
      same = ap (λ (x : Written). record x { text = w.text ++ news_line w.label now one; happened = Some (record b { counts = news_counted one b.counts }) }) i.same;
      lines = lines-step now one w.label old.label w.text (end_news b) (end_news a) (ap (λ (x : Written). x.label) i.same) e ∙ l;
      counts = ap (λ (x : Happened). each_counted (end_news b) (news_counted one x.counts)) s ∙ ap (λ xs. each_counted xs a.counts) e ∙ c;
    }

pub ends-done : (now : Moment) (old w new : Written) → Ends now old w → TakesEnded None w new → IsEnded now old new
ends-done now old w new i t = record {
  same =
      t.same
      ∙ ap (λ (x : Written). record x { happened = new.happened }) i.same
      ∙ ap {A = List ℕ} (λ x. record old { text = x; happened = new.happened })
      (sym (append-nil w.text) ∙ ap (λ xs. w.text ++ news_lines old.label now xs) (sym t.last) ∙ ap (λ x. w.text ++ x) (lines-open now old w.happened) ∙ i.lines);
  told = same-told w.happened new.happened t.counts ∙ ap (λ xs. each_counted xs (told_in w.happened)) (sym t.last) ∙ counts-open w.happened ∙ i.counts;
}

open-kept : (one : News) (now : Moment) (w : Written) → open_news (with_news one now w).happened ≡ open_news w.happened
open-kept one now w = by w.happened
  where
    by : (h : Option Happened) → open_news (with_news one now (record w { happened = h })).happened ≡ open_news h
    by None = refl
    by (Some a) = refl

pub ends-less : (one : News) (now : Moment) (before taken new : Written) → TakesEnded (Some one) before taken → new ≡ with_news one now taken → length (open_news new.happened) < length (open_news before.happened)
ends-less one now before taken new t n =
    let left : open_news new.happened ≡ open_news taken.happened = ap (λ (w : Written). open_news w.happened) n ∙ open-kept one now taken in
    subst (λ xs. length (open_news new.happened) < length xs) t.next (rw left (omega arith))
