use Rattle.std.proofs.Common.{◌≡◌, ◌<◌, ◌∙◌, true, false, length, Err, ap, arith}
use Rattle.std.proofs.lemmas.Result.{err_from_is_err_and}
use Rattle.krb_der.specs.Octets.{begins_with}
use Rattle.krb_token.specs.Items.{simple_tag}
use Rattle.krb_token.specs.Opened.{fault_in}
use Rattle.krb_token.specs.Seen.{fault_of, item_of, part_of, path_text}
use Rattle.krb_token.proofs.Walks.{items_read, items_fault, items_of_another_tag}
use Rattle.krb_token.proofs.spnego.read_items.Goals as goal

pub returns-then-not-begins : goal.returns-then-not-begins
returns-then-not-begins c =
    let t : begins_with (simple_tag c.args.simple) c.items.rest.octets.now ≡ false = cc in
    let some : 0 < length c.items.rest.octets.now = grind arith in
    let f : fault_in c.args.path.now c.items.rest.place _ ≡ fault_of c.fault.result = cc in
    c.items.invariant.2 ∙ items_of_another_tag c.args.simple c.args.path.now (length c.args.part.octets.now) c.items.index (part_of c.items.rest) t some c.items.invariant.1 ∙ ap Err f

pub returns-in_err-rest : goal.returns-in_err-rest
returns-in_err-rest c =
    let t : begins_with (simple_tag c.args.simple) c.items.rest.octets.now ≡ true = cc in
    let p = err_from_is_err_and c.from_residual.result c.from_residual.ensures.1 in
    rw p.1 (rw p.2 (c.items.invariant.2 ∙ items_fault c.args.simple c.args.path.now (path_text c.item.result) (length c.args.part.octets.now) c.items.index (part_of c.items.rest) (fault_of c.in_err-rest.field-0.0) t c.items.invariant.1 c.item.ensures c.in_err-rest.ensures.item))

pub items-preserved : goal.items-preserved
items-preserved c =
    let t : begins_with (simple_tag c.args.simple) c.items.rest.octets.now ≡ true = cc in
    let w = c.in_ok-rest.ensures.within in (
      omega (arith, w.rest, c.items.invariant.0),
      omega (arith, w.header, w.contents, w.rest, c.items.invariant.1),
      c.items.invariant.2 ∙ items_read c.args.simple c.args.path.now (path_text c.item.result) (length c.args.part.octets.now) c.items.index (part_of c.items.rest) (item_of c.in_ok-rest.field-0) t c.items.invariant.1 c.item.ensures c.in_ok-rest.ensures.item,
    )
