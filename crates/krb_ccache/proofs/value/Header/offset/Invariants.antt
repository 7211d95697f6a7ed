use Rattle.std.proofs.Common.{◌≡◌, drop}
use Rattle.krb_ccache.specs.Spelling.{offset_of}
use Rattle.krb_ccache.proofs.value.Header.offset.Given as goal

abbrev pub invariant-loop-field : goal.invariant-loop-field
invariant-loop-field l = offset_of (drop l.field-index l.self.fields) ≡ offset_of l.self.fields
