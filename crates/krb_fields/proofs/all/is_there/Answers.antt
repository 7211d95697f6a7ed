use Rattle.std.proofs.Common.{◌∙◌, string_bytes, sym}
use Rattle.std.specs.Str.{bytes_eq}
use Rattle.krb_fields.proofs.Anys.{any_map, seen}
use Rattle.krb_fields.proofs.all.is_there.Goals as goal

pub returns : goal.returns
returns c =
    seen (λ other. bytes_eq c.args.text.now (string_bytes other)) c.args.others.now c.loop-other.other-index c.loop-other.found c.loop-other-test.false c.loop-other.invariant
    ∙ sym (any_map (bytes_eq c.args.text.now) string_bytes c.args.others.now)
