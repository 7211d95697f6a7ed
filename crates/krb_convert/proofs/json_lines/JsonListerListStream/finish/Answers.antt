use Rattle.std.proofs.Common.{◌≡◌, refl, sym, ◌∙◌, subst}
use Rattle.krb_msg.specs.Grammar.{messages}
use Rattle.krb_frame.specs.Decoding.{Decoding, found}
use Rattle.krb_convert.specs.Decoding.{ending_at, ending_of}
use Rattle.krb_tool.specs.Paths.{frame_path}
use Rattle.krb_convert.specs.declared.json_lines.JsonLines.{JsonLines}
use Rattle.krb_convert.specs.inner.JsonLines.{json_lines}
use Rattle.krb_tool.specs.inner.Listers.{FrameLister}
use Rattle.krb_convert.proofs.DecodedFrames.{ends-encrypted, ends-unencrypted, json_listed}
use Rattle.krb_tool.proofs.ListedPieces.{finishes}
use Rattle.krb_convert.proofs.json_lines.JsonListerListStream.finish.Goals as goal

pub returns-in-Some-clause-finished : goal.returns-in-Some-clause-finished
returns-in-Some-clause-finished c =
    let old : FrameLister JsonLines = record { decoder = c.args.self.now.decoder; lines = c.args.self.now.lines } in
    let new : JsonLines = record old.lines { unencrypted = c.take.new.self } in
    finishes json_lines json_listed old (record { decoder = old.decoder; lines = new }) _
    (λ taken left o. ends-unencrypted old new taken left o refl c.in-Some.path (sym c.take.ensures.value ∙ c.in-Some.is))

pub returns-in_ok-stream_end-in-None-clause-finished : goal.returns-in_ok-stream_end-in-None-clause-finished
returns-in_ok-stream_end-in-None-clause-finished c =
    let old : FrameLister JsonLines = record { decoder = c.args.self.now.decoder; lines = c.args.self.now.lines } in
    let new : JsonLines = record old.lines { unencrypted = c.take.new.self } in
    let ended = c.in_ok-stream_end-in-None.field-0 in
    let is = subst (λ (d : Decoding). ending_of ended ≡ ending_at old.lines.messages (found (messages d.profile) d).end (frame_path d.profile d.octets)) c.decoder.ensures c.in_ok-stream_end-in-None.ensures in
    finishes json_lines json_listed old (record { decoder = old.decoder; lines = new }) ended
    (λ taken left o. ends-encrypted old new taken left o refl ended (sym c.take.ensures.value ∙ c.in-None.is) is)
