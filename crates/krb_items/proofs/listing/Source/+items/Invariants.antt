use Rattle.std.proofs.Common.{◌≡◌, ◌+◌, ◌-◌, ◌*◌, ◌≤◌, length}
use Rattle.krb_items.specs.Items.{element_items, item_items}
use Rattle.krb_items.specs.Records.{Lists}
use Rattle.krb_items.specs.Seen.{context_of, here_of, limits_of}
use Rattle.krb_items.specs.Shapes.{type_of}
use Rattle.krb_items.specs.declared.listing.End.{End}
use Rattle.krb_items.specs.declared.listing.Listed.{Listed}
use Rattle.krb_items.proofs.listing.Source.+items.Given as goal

-- how deep items may still nest, and how many fields are left; a SEQUENCE has thirteen at most
abbrev pub decreases-item : goal.decreases-item
decreases-item l = 32 * l.levels

abbrev pub decreases-message : goal.decreases-message
decreases-message l = 32 * l.levels + 2

abbrev pub decreases-token_message : goal.decreases-token_message
decreases-token_message l = 32 * l.levels + 3

abbrev pub decreases-kerberos_message : goal.decreases-kerberos_message
decreases-kerberos_message l = 32 * l.levels + 4

abbrev pub decreases-identified_message : goal.decreases-identified_message
decreases-identified_message l = 32 * l.levels + 5

abbrev pub decreases-kerberos : goal.decreases-kerberos
decreases-kerberos l = 32 * l.levels + 6

abbrev pub decreases-spnego : goal.decreases-spnego
decreases-spnego l = 32 * l.levels + 13

abbrev pub decreases-spnego_in_gss : goal.decreases-spnego_in_gss
decreases-spnego_in_gss l = 32 * l.levels + 14

abbrev pub decreases-mechanism : goal.decreases-mechanism
decreases-mechanism l = 32 * l.levels + 15

abbrev pub decreases-identified : goal.decreases-identified
decreases-identified l = 32 * l.levels + 16

abbrev pub decreases-gss : goal.decreases-gss
decreases-gss l = 32 * l.levels + 17

abbrev pub decreases-token_in : goal.decreases-token_in
decreases-token_in l = 32 * l.levels + 18

abbrev pub decreases-token : goal.decreases-token
decreases-token l = 32 * l.levels + 19

abbrev pub decreases-hints : goal.decreases-hints
decreases-hints l = 32 * l.levels + 15

abbrev pub decreases-opened : goal.decreases-opened
decreases-opened l = 32 * l.levels + 2

abbrev pub decreases-leaf : goal.decreases-leaf
decreases-leaf l = 32 * l.levels + 3

abbrev pub decreases-contents : goal.decreases-contents
decreases-contents l = 32 * l.levels + 20

abbrev pub decreases-fields : goal.decreases-fields
decreases-fields l = 32 * l.levels + length l.fields.now

abbrev pub decreases-elements : goal.decreases-elements
decreases-elements l = 32 * l.levels + 1

-- the items that are left
abbrev pub invariant-elements-elements : goal.invariant-elements-elements
invariant-elements-elements l =
    (l.next.place + length l.rest.octets.now ≡ l.fn.here.place + length l.fn.contents.octets.now)
    × (l.next.depth ≡ l.fn.here.depth)
    × (l.next.name.now ≡ l.fn.here.name.now)
    × (l.index ≤ length l.fn.contents.octets.now)
    × ((new : Listed) (end : End) →
    Lists (context_of l.self) (element_items (item_items l.levels (limits_of l.self)) (type_of l.of) (length l.fn.contents.octets.now - l.index) l.index (here_of l.next) l.rest.room l.rest.octets.now) l.out new end
    → Lists (context_of l.self) (element_items (item_items l.levels (limits_of l.self)) (type_of l.of) (length l.fn.contents.octets.now) 0 (here_of l.fn.here) l.fn.contents.room l.fn.contents.octets.now) l.fn.out new end)

abbrev pub decreases-elements-elements : goal.decreases-elements-elements
decreases-elements-elements l = length l.fn.contents.octets.now - l.index

abbrev pub decreases-sequence : goal.decreases-sequence
decreases-sequence l = 32 * l.levels + 14
