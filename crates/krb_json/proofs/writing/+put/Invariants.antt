use Rattle.std.proofs.Common.{◌≡◌, ◌+◌, ◌*◌, ◌^◌, ◌<◌, length}
use Rattle.krb_msg.specs.Nodes.{nodes, term_at}
use Rattle.krb_msg.specs.Table.{fields_from}
use Rattle.krb_json.specs.inner.Sizes.{size, size_of_fields}
use Rattle.krb_json.proofs.Walks.{ArePassed}
use Rattle.krb_json.proofs.writing.+put.Given as goal

abbrev pub decreases-put_contents : goal.decreases-put_contents
decreases-put_contents l = 2 * size (term_at l.node)

abbrev pub decreases-put_items : goal.decreases-put_items
decreases-put_items l = 2 * size (term_at l.node) + 1

abbrev pub decreases-put_fields : goal.decreases-put_fields
decreases-put_fields l = 2 * size_of_fields (fields_from nodes l.slots.now)

abbrev pub invariant-put_items-loop-contents : goal.invariant-put_items-loop-contents
invariant-put_items-loop-contents l =
    (l.out.before ≡ l.initial.out.before)
    × (length l.rest < 2 ^ 31)
    × ArePassed (term_at l.node) l.names l.octets l.rest l.initial.out.tokens l.out.tokens

abbrev pub decreases-put_items-loop-contents : goal.decreases-put_items-loop-contents
decreases-put_items-loop-contents l = length l.rest
