use Rattle.std.specs.Prelude.{ℕ, List}
use Rattle.krb_ccache.specs.Streaming.{Reads, credentials}
use Rattle.krb_decode.specs.Caches.{field_limit}
use Rattle.krb_decode.proofs.CacheRuns.{AreDecoded}
use Rattle.krb_decode.proofs.cache.decode_credentials.Given as goal

-- the credentials that were read are decoded
abbrev pub invariant-entries : goal.invariant-entries
invariant-entries g l = (file : List ℕ) → Reads field_limit l.fn.cache.reader l.fn.cache.start l.fn.cache.state file 0
    → Reads field_limit l.cache.reader l.cache.start l.cache.state file l.index × AreDecoded (credentials field_limit file) l.index (g.W.Write.contents l.fn.writer) (g.W.Write.contents l.writer) l.parts
