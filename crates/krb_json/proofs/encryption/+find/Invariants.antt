use Rattle.std.proofs.Common.{◌+◌, ◌*◌, ◌≤◌, length}
use Rattle.krb_msg.specs.Nodes.{nodes, term_at}
use Rattle.krb_msg.specs.Table.{fields_from}
use Rattle.krb_json.specs.inner.Sizes.{size, size_of_fields}
use Rattle.krb_json.proofs.Searches.{AreSearched}
use Rattle.krb_json.proofs.encryption.+find.Given as goal

abbrev pub decreases-find : goal.decreases-find
decreases-find l = 2 * size (term_at l.node)

abbrev pub decreases-find_in_items : goal.decreases-find_in_items
decreases-find_in_items l = 2 * size (term_at l.node) + 1

abbrev pub decreases-find_in_fields : goal.decreases-find_in_fields
decreases-find_in_fields l = 2 * size_of_fields (fields_from nodes l.slots.now)

abbrev pub invariant-find_in_items-loop-contents : goal.invariant-find_in_items-loop-contents
invariant-find_in_items-loop-contents l = (l.index + length l.rest ≤ length l.octets) × AreSearched (term_at l.node) l.names l.octets l.rest l.index

abbrev pub decreases-find_in_items-loop-contents : goal.decreases-find_in_items-loop-contents
decreases-find_in_items-loop-contents l = length l.rest
