use Rattle.std.proofs.Common.{◌∙◌, ◌^◌, ◌≤◌, refl, subst, arith, rules}
use Rattle.std.specs.Io.KnownBytes.{Appends}
use Rattle.std.proofs.lemmas.Result.{err_from_is_err_and}
use Rattle.krb_run.specs.Records.{AppendsPrefix}
use Rattle.krb_run.proofs.StreamRuns.{runs_on, is_over, AcceptsPiece-runs, Runs-written, Fails-written, MayFinish-over, Fails-ended, Lists-made, Fails-last, Runs-start, Fails-start}
use Rattle.krb_run.proofs.stream_run.list_all.Goals as goal

pub returns-in_err-buffer-clause-fault : goal.returns-in_err-buffer-clause-fault
returns-in_err-buffer-clause-fault g c = Fails-start _ _ _ _ _ c.new-lister.ensures _ (search rules)

pub pieces-init : goal.pieces-init
pieces-init g c = record {
  size = (c.in_ok-buffer.buffer.ok.0 ∙ c.in_ok-buffer.ensures);
  opens = c.requires.open;
  same_reader = refl;
  none = c.new-lister.ensures.none;
  runs = Runs-start _ _ _ _ _ c.new-lister.ensures _ c.requires.none;
}

pub feed_next-requires-clause-none : goal.feed_next-requires-clause-none
feed_next-requires-clause-none g c = c.pieces.invariant.none

pub feed_next-requires-clause-waits : goal.feed_next-requires-clause-waits
feed_next-requires-clause-waits g c = AcceptsPiece-runs c.pieces.invariant.runs c.pieces.counted.few

pub returns-in_err-feed_next-clause-fault : goal.returns-in_err-feed_next-clause-fault
returns-in_err-feed_next-clause-fault g c =
    let p = err_from_is_err_and c.from_residual-in_err-feed_next.result c.from_residual-in_err-feed_next.ensures.1 in
    rw (p.1, p.2) (c.in_err-feed_next.ensures.fault _ _ _ _ c.pieces.invariant.runs)

pub returns-in_err-write_all-clause-fault : goal.returns-in_err-write_all-clause-fault
returns-in_err-write_all-clause-fault g c =
    let runs = runs_on _ c.if-branch.true (c.in_ok-feed_next.ensures.fed _ _ _ _ c.pieces.invariant.runs) in
    let prefix = subst (AppendsPrefix _ _) c.text.ensures c.in_err-write_all.ensures.prefix in
    Fails-written _ _ runs (search rules) prefix

pub pieces-smaller : goal.pieces-smaller
pieces-smaller g c =
    let few : c.feed_next.new.counted.made ≤ 2 ^ 40 = c.feed_next.new.counted.few in
    omega (arith, c.in_ok-feed_next.ensures.counted)

pub pieces-preserved : goal.pieces-preserved
pieces-preserved g c =
    let runs = runs_on _ c.if-branch.true (c.in_ok-feed_next.ensures.fed _ _ _ _ c.pieces.invariant.runs) in
    let written = subst (Appends _ _) c.text.ensures c.in_ok-write_all.ensures.all in
    record {
      size = c.pieces.invariant.size;
      opens = c.in_ok-feed_next.ensures.open c.if-branch.true;
      same_reader = c.feed_next.ensures.same_reader ∙ c.pieces.invariant.same_reader;
      none = c.clear_text.ensures.none;
      runs = Runs-written _ _ runs written c.clear_text.ensures;
    }

-- ---- the end
pub finish-requires : goal.finish-requires
finish-requires g c = MayFinish-over (is_over _ c.if-branch.false (c.in_ok-feed_next.ensures.fed _ _ _ _ c.pieces.invariant.runs)) c.feed_next.new.counted.few

pub returns-in_err-ended-clause-fault : goal.returns-in_err-ended-clause-fault
returns-in_err-ended-clause-fault g c =
    let over = is_over _ c.if-branch.false (c.in_ok-feed_next.ensures.fed _ _ _ _ c.pieces.invariant.runs) in
    Fails-ended _ over (search rules)

pub returns-in_err-write_all-2-clause-fault : goal.returns-in_err-write_all-2-clause-fault
returns-in_err-write_all-2-clause-fault g c =
    let over = is_over _ c.if-branch.false (c.in_ok-feed_next.ensures.fed _ _ _ _ c.pieces.invariant.runs) in
    let prefix = subst (AppendsPrefix _ _) c.text-2.ensures c.in_err-write_all-2.ensures.prefix in
    Fails-last g.L.ListStream.rules _ _ (g.L.ListStream.listing c.finish.new.self) _ over c.in_ok-ended.ensures.finished (search rules) prefix

pub returns-clause-listed : goal.returns-clause-listed
returns-clause-listed g c =
    let over = is_over _ c.if-branch.false (c.in_ok-feed_next.ensures.fed _ _ _ _ c.pieces.invariant.runs) in
    let written = subst (Appends _ _) c.text-2.ensures c.in_ok-write_all-2.ensures.all in
    Lists-made g.L.ListStream.rules _ (g.L.ListStream.listing c.finish.new.self) _ over c.in_ok-ended.ensures.finished written
