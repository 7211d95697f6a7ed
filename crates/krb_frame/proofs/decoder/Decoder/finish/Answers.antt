use Rattle.krb_msg.specs.Grammar.{messages}
use Rattle.krb_scan.specs.Machine.{ledger_of, profile_of}
use Rattle.std.specs.Prelude.{vec_capacity}
use Rattle.std.proofs.Common.{◌≡◌, ◌+◌, length, sym, ◌∙◌, ap, arith}
use Rattle.krb_frame.specs.Decoding.{finish_at}
use Rattle.krb_frame.specs.inner.Phases.{end_after}
use Rattle.krb_frame.proofs.DecoderFrames.{frames_at, finish-at, end-some}
use Rattle.krb_frame.proofs.decoder.Decoder.finish.Goals as goal

pub returns-in-Length : goal.returns-in-Length
returns-in-Length c =
    let d = c.self.inside in
    rw (← c.self.view_is) (c.ended.ensures ∙ sym (finish-at (messages (profile_of d.machine)) (profile_of d.machine) d.limit (ledger_of d.machine) (vec_capacity d.contents) d.length d.contents.items d.phase c.self.invariant.0 ∙ ap (λ p. finish_at (frames_at p d.contents.items).end) c.in-Length.is))

pub returns-in-Contents : goal.returns-in-Contents
returns-in-Contents c =
    let d = c.self.inside in
    let n : 4 + c.len.result ≡ 4 + length d.contents.items = omega arith in
    rw (← c.self.view_is) (c.ended-in-Contents.ensures ∙ ap (λ k. finish_at (end_after k)) n ∙ ap finish_at (end-some (4 + length d.contents.items) (omega arith)) ∙ sym (finish-at (messages (profile_of d.machine)) (profile_of d.machine) d.limit (ledger_of d.machine) (vec_capacity d.contents) d.length d.contents.items d.phase c.self.invariant.0 ∙ ap (λ p. finish_at (frames_at p d.contents.items).end) c.in-Contents.is))

pub returns-in-Ready : goal.returns-in-Ready
returns-in-Ready c =
    let d = c.self.inside in
    rw (← c.self.view_is) (sym (finish-at (messages (profile_of d.machine)) (profile_of d.machine) d.limit (ledger_of d.machine) (vec_capacity d.contents) d.length d.contents.items d.phase c.self.invariant.0 ∙ ap (λ p. finish_at (frames_at p d.contents.items).end) c.in-Ready.is))

pub returns-in-Refused : goal.returns-in-Refused
returns-in-Refused c =
    let d = c.self.inside in
    rw (← c.self.view_is) (sym (finish-at (messages (profile_of d.machine)) (profile_of d.machine) d.limit (ledger_of d.machine) (vec_capacity d.contents) d.length d.contents.items d.phase c.self.invariant.0 ∙ ap (λ p. finish_at (frames_at p d.contents.items).end) c.in-Refused.is))
