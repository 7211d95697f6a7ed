use Rattle.std.proofs.Common.{◌+◌, ◌*◌, drop}
use Rattle.json.specs.Value.{items_view}
use Rattle.krb_msg.specs.Nodes.{nodes, term_at}
use Rattle.krb_msg.specs.Table.{fields_from}
use Rattle.krb_msg.specs.Term.{der}
use Rattle.krb_json.specs.Spelled.{spelled}
use Rattle.krb_json.specs.inner.Sizes.{size, size_of_fields}
use Rattle.krb_json.specs.inner.Writing.{slot_node}
use Rattle.krb_json.proofs.ReadLists.{AreReadTo}
use Rattle.krb_json.proofs.reading.+read.Given as goal

abbrev pub decreases-read_item : goal.decreases-read_item
decreases-read_item l = 4 * size (term_at l.node) + 1

abbrev pub decreases-read_contents : goal.decreases-read_contents
decreases-read_contents l = 4 * size (term_at l.node)

abbrev pub decreases-read_list : goal.decreases-read_list
decreases-read_list l = 4 * size (term_at l.node) + 3

abbrev pub decreases-read_items : goal.decreases-read_items
decreases-read_items l = 4 * size (term_at l.node) + 2

abbrev pub decreases-read_sequence : goal.decreases-read_sequence
decreases-read_sequence l = 4 * size_of_fields (fields_from nodes l.slots.now) + 1

abbrev pub decreases-read_fields : goal.decreases-read_fields
decreases-read_fields l = 4 * size_of_fields (fields_from nodes l.slots.now)

abbrev pub decreases-read_field : goal.decreases-read_field
decreases-read_field l = 4 * size (term_at (slot_node l.slot)) + 2

abbrev pub invariant-read_items-loop-index : goal.invariant-read_items-loop-index
invariant-read_items-loop-index l = AreReadTo (spelled (term_at l.node) l.names) (der (term_at l.node)) (items_view l.items) (items_view (drop l.index l.items)) l.index l.initial.out.items l.out.items
