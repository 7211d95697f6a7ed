use Rattle.std.specs.Option.{is_some}
use Rattle.krb_ccache.specs.Reading.{next_at, one_enctype}
use Rattle.krb_c.specs.FileSpans.{ccache_spans}
use Rattle.krb_c.proofs.Items.{AreAdded}
use Rattle.krb_c.proofs.file_spans.put_ccache.Given as goal

-- the credentials so far
abbrev pub invariant-credentials : goal.invariant-credentials
invariant-credentials l = AreAdded (next_at one_enctype l.version) is_some 0 l.all (ccache_spans l.file) l._index l.reader l.fn.spans l.spans
