use Rattle.std.proofs.Common.{◌≡◌, ◌+◌, ◌++◌, length, take, ◌∙◌, ap, sym, subst, arith}
use Rattle.krb_scan.specs.Machine.{profile_of}
use Rattle.krb_frame.specs.inner.Phases.{IsEarly}
use Rattle.krb_frame.proofs.FrameContents.{extended, took, took-cut, took-at, took-early, took-taken, not_memory}
use Rattle.krb_frame.proofs.contents.take_contents.Goals as goal

pub status_after-requires : goal.status_after-requires
status_after-requires c =
    let r = c.requires in
    let e = c.take-used.ensures in
    let t = took (profile_of c.args.machine.now) c.args.size c.min-count.result c.take-used.result c.args.contents.now.items c.args.piece.now c.take-used.new.self r.some r.present (omega arith) r.undecided e.within (e.at _ _ _ r.scanned) e.all (λ k. e.sooner _ _ _ k r.scanned) in
    subst IsEarly (sym c.verdict.ensures) (took-early _ _ _ _ _ _ _ t r.short)

pub returns : goal.returns
returns c =
    let held = extended c.extend_from_slice.result _ _ _ c.extend_from_slice.ensures.items c.if-is_err.ensures.value in
    let r = c.requires in
    let e = c.take-used.ensures in
    let t = took (profile_of c.args.machine.now) c.args.size c.min-count.result c.take-used.result c.args.contents.now.items c.args.piece.now c.take-used.new.self r.some r.present (omega arith) r.undecided e.within (e.at _ _ _ r.scanned) e.all (λ k. e.sooner _ _ _ k r.scanned) in
    let before : c.len-before.result ≡ length c.args.contents.now.items = omega arith in
    let cut : c.truncate.new.self.items ≡ c.args.contents.now.items ++ take c.take-used.result c.args.piece.now =
    c.truncate.ensures.items ∙ ap (λ n. take (n + c.take-used.result) c.extend_from_slice.new.self.items) before ∙ took-cut _ _ _ _ _ _ _ t c.extend_from_slice.new.self.items held in
    rw (cut, c.status_after.ensures, c.verdict.ensures) (record { taken = took-taken _ _ _ _ _ _ _ t; scanned = took-at _ _ _ _ _ _ _ t; profile = e.profile; looks = e.ledger; capacity = omega (arith, c.extend_from_slice.ensures.capacity, c.truncate.ensures.capacity); enough = λ octets. not_memory _ })
