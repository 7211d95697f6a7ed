use Rattle.std.proofs.Common.{◌∙◌, ap}
use Rattle.krb_c.specs.Turned.{told_end}
use Rattle.krb_c.proofs.Sorted.{all-sorted, none-left}
use Rattle.krb_c.proofs.turning.sorted.Goals as goal

pub returns : goal.returns
returns c =
    all-sorted c.args.text.now c.octets.begun c.octets.rest.now c.octets.lines.items c.octets.said.items c.args.end c.told_end-end.result c.octets.invariant (none-left c.octets.rest.now c.in_default.len_below)
    (c.told_end-end.ensures ∙ ap (told_end c.args.end) c.as_slice.ensures.value)
