use Rattle.std.proofs.Common.{◌∙◌, subst}
use Rattle.krb_ccache.specs.Streaming.{credentials}
use Rattle.krb_decode.specs.Caches.{decoded_cache, field_limit}
use Rattle.krb_decode.specs.Decoded.{Decoded}
use Rattle.krb_decode.specs.Runs.{DecodesCache}
use Rattle.krb_decode.proofs.CacheRuns.{begun, unstarted}
use Rattle.krb_decode.proofs.cache.run_decode_ccache.Goals as goal

pub returns-in-Ok : goal.returns-in-Ok
returns-in-Ok g c = record {
  decoded = λ file known.
      let reads = c.in-Ok.ensures.begins file (c.in_ok-reader.ensures.same file known) in
      subst (λ (whole : Decoded). DecodesCache whole (g.W.Write.contents c.args.writer.now) (g.W.Write.contents c.decode_credentials-ended.new.writer) c.decode_credentials-ended.new.parts.said c.decode_credentials-ended.result)
      (begun file _ _ _ reads) (c.decode_credentials-ended.ensures.decoded file reads);
}

pub returns-in-Err : goal.returns-in-Err
returns-in-Err g c = record {
  decoded = λ file known.
      unstarted file _ c.none-label.ensures c.in-Err.fault (c.in-Err.ensures.fault file (c.in_ok-reader.ensures.same file known)) _ _ c.clear.ensures c.put_fault.result c.put_fault.ensures.refused (g.W.Write.contents c.args.writer.now);
}
