use Rattle.std.proofs.Common.{◌+◌, ◌^◌, ◌<◌, sym, ◌∙◌, subst, arith}
use Rattle.std.proofs.lemmas.Result.{IfOk-weaker}
use Rattle.krb_der.specs.declared.verdict.Refusal.{Refusal}
use Rattle.krb_frame.specs.Decoding.{Decoding}
use Rattle.krb_decode.specs.declared.stream.StreamParts.{StreamParts}
use Rattle.krb_tool.specs.inner.Listers.{FrameLister}
use Rattle.krb_decode.specs.inner.StreamParts.{AddsRefused, PutsEnd, stream_parts}
use Rattle.krb_tool.proofs.ListedPieces.{count_few, finishes}
use Rattle.krb_decode.proofs.StreamParts.{AddsEnd-whole, AddsEnd-refused, ends-listed, stream_listed}
use Rattle.krb_decode.proofs.stream.StreamListerListStream.finish.Goals as goal
use Rattle.krb_decode.proofs.stream.StreamListerListStream.finish.Goals.{in-Err+in_ok-put_refusal, in_default}

pub returns-clause-finished : goal.returns-clause-finished
returns-clause-finished c =
    let old : FrameLister StreamParts = record { decoder = c.args.self.now.decoder; lines = c.args.self.now.parts } in
    let lines : StreamParts = c.put_closing.new.self in
    let new : FrameLister StreamParts = record { decoder = c.match-finish.self.decoder; lines = lines } in
    elim c.match-finish.branch [
      | in-Err+in_ok-put_refusal w ↦
          let between : StreamParts = w.put_refusal.new.self in
          let refusal : Refusal = w.in-Err.refusal in
          let few : old.lines.refused + 1 < 2 ^ 64 = omega (arith, count_few stream_parts old c.requires) in
          let refused = subst (λ (d : Decoding). AddsRefused refusal d.octets old.lines between) w.decoder.ensures w.in_ok-put_refusal.ensures in
          IfOk-weaker c.put_closing.result _ _ (λ ended p. finishes stream_parts stream_listed old new ended (ends-listed old lines ended (AddsEnd-refused old between lines ended refusal few (sym c.finish.ensures ∙ w.in-Err.is) refused (subst (λ l. PutsEnd l.parts lines ended) w.self-is p)))) c.put_closing.ensures.put
      | in_default w ↦
          IfOk-weaker c.put_closing.result _ _ (λ ended p. finishes stream_parts stream_listed old new ended (ends-listed old lines ended (AddsEnd-whole old lines ended _ (sym c.finish.ensures ∙ w.in_default.is) (subst (λ l. PutsEnd l.parts lines ended) w.self-is p)))) c.put_closing.ensures.put
    ]
