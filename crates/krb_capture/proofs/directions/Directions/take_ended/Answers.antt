use Rattle.std.proofs.Common.{◌≡◌, ℕ, List, true, false, Some, None, sym, ◌∙◌, ap, ap₂, subst}
use Rattle.std.proofs.lemmas.Result.{IfOk-weaker}
use Rattle.std.specs.BTreeMap.{insert_entry, is_at}
use Rattle.std.specs.Map.{lookup, remove_entry}
use Rattle.std.specs.Ordering.{nat_cmp}
use Rattle.krb_flow.specs.declared.direction.State.TheVariants as states
use Rattle.krb_flow.specs.Unread.{untaken_after, untaken_of}
use Rattle.krb_flow.specs.declared.unread.Untaken.{Untaken}
use Rattle.krb_record.specs.declared.capture_origin.CaptureOrigin.{CaptureOrigin}
use Rattle.krb_capture.specs.Found.{with_all}
use Rattle.krb_capture.specs.Recent.{still_kept}
use Rattle.krb_capture.specs.Captures.{over_tcp}
use Rattle.krb_capture.specs.Directions.{flow_cmp, of_ended}
use Rattle.krb_capture.specs.Rests.{Follows}
use Rattle.krb_capture.specs.Sending.{step_of, untaken_found}
use Rattle.krb_capture.proofs.Follows.{follows-none, follows-passed, follows-untaken}
use Rattle.krb_capture.proofs.Tables.{ended-begins, ended-passed, ended-stays, not_rst, passes-none}
use Rattle.krb_capture.proofs.Untaken.{untaken-copied}
use Rattle.krb_capture.proofs.directions.Directions.take_ended.Goals as goal

pub returns : goal.returns
returns c = IfOk-weaker c.begin.result _ _
    (λ rest k limit table h.
    let test = is_at (nat_cmp c.args.number) in
    let there : lookup test table.ended ≡ Some c.in-Some.gone = ap (λ es. lookup test es) (sym h.ended) ∙ sym c.get.ensures ∙ c.in-Some.is in
    let began : (step_of (states.Ended c.in-Some.gone.had) c.args.segment.now).began ≡ true = sym c.is_followed_by.ensures ∙ c.if-not-is_followed_by.false in
    let left = record table { ended = remove_entry test table.ended } in
    let whole = ap (λ o. of_ended limit c.args.due.packet c.args.number o c.args.service c.args.segment.now table) there ∙ ended-begins limit c.args.due.packet c.args.service c.args.segment.now table c.args.number c.in-Some.gone began in
    subst (λ f. Follows c.begin.new.self limit f.table c.args.due rest (over_tcp c.args.due f.found) c.args.listing.now c.begin.new.listing) (sym whole)
    (k limit left (record { limit_is = h.limit_is; numbers = c.in_ok-insert.ensures.entries ∙ ap (λ es. insert_entry flow_cmp es c.args.flow c.args.due.packet) h.numbers; active = h.active; ended = c.remove.ensures ∙ ap (λ es. remove_entry test es) h.ended; recent = h.recent })))
    c.begin.ensures

pub returns-then-not-begins : goal.returns-then-not-begins
returns-then-not-begins c = λ limit table h.
    let found = lookup (is_at (nat_cmp c.args.number)) table.ended in
    follows-passed c.args.self.now limit c.args.due (of_ended limit c.args.due.packet c.args.number found c.args.service c.args.segment.now table) c.args.segment.now table c.args.listing.now _
    (ended-passed limit c.args.due.packet c.args.service c.args.segment.now table c.args.number found (sym c.begins.ensures ∙ c.if-not-begins.true)) c.requires.none h c.in_ok-list_passed_over.ensures

pub returns-in_default : goal.returns-in_default
returns-in_default c = λ limit table h.
    let test = is_at (nat_cmp c.args.number) in
    let none : lookup test table.ended ≡ None = ap (λ es. lookup test es) (sym h.ended) ∙ sym c.get.ensures ∙ c.in_default.is in
    follows-none c.args.self.now limit c.args.due (of_ended limit c.args.due.packet c.args.number (lookup test table.ended) c.args.service c.args.segment.now table) table c.args.listing.now
    (ap (λ o. of_ended limit c.args.due.packet c.args.number o c.args.service c.args.segment.now table) none ∙ passes-none c.args.segment.now table (sym c.begins.ensures ∙ c.if-not-begins.false)) c.requires.none h

pub returns-then-not-is_followed_by : goal.returns-then-not-is_followed_by
returns-then-not-is_followed_by c = λ limit table h.
    let test = is_at (nat_cmp c.args.number) in
    let gone = c.in-Some.gone in
    let there : lookup test table.ended ≡ Some gone = ap (λ es. lookup test es) (sym h.ended) ∙ sym c.get.ensures ∙ c.in-Some.is in
    let passed : (step_of (states.Ended gone.had) c.args.segment.now).began ≡ false = sym c.is_followed_by.ensures ∙ c.if-not-is_followed_by.true in
    let stream = still_kept table.streams gone.nth in
    let kept = c.get-then-not-is_followed_by.ensures table.streams h.recent in
    let untaken = untaken-copied gone.had stream c.args.segment.now (not_rst c.args.segment.now.rst _ (sym c.begins.ensures ∙ c.if-not-begins.false)) passed ∙ ap (λ (l : List ℕ). untaken_after l gone.had c.args.segment.now) (sym kept) ∙ sym c.untaken-untaken.ensures in
    follows-untaken c.args.self.now limit c.args.due (of_ended limit c.args.due.packet c.args.number (lookup test table.ended) c.args.service c.args.segment.now table) c.args.segment.now (untaken_of (states.Ended gone.had) stream c.args.segment.now) table c.args.listing.now _
    (ap (λ o. of_ended limit c.args.due.packet c.args.number o c.args.service c.args.segment.now table) there ∙ ended-stays limit c.args.due.packet c.args.service c.args.segment.now table c.args.number gone passed) c.requires.none h
    (c.in_ok-list_untaken.ensures ∙ ap₂ (λ (o : CaptureOrigin) (u : Untaken). with_all o (untaken_found u) c.args.listing.now) c.over-origin.ensures (sym untaken))
