use Rattle.std.proofs.Common.{[], ◌+◌, ◌-◌, Some, not, ◌&&◌, sym, ap, subst, ◌∙◌, arith}
use Rattle.std.specs.List.{flat_map}
use Rattle.std.proofs.lemmas.Result.{err_from_is_err_and}
use Rattle.json.specs.Find.{as_array}
use Rattle.json.specs.Value.{items_view, value_view}
use Rattle.json.proofs.Numbered.{HasNumbers-get}
use Rattle.json.proofs.Trees.{view-Array}
use Rattle.krb_msg.specs.Nodes.{nodes, term_at}
use Rattle.krb_msg.specs.Table.{IsFormOf, fields_from}
use Rattle.krb_msg.specs.Term.{der, der_of_fields}
use Rattle.krb_msg.specs.inner.Values.{contents}
use Rattle.std.specs.Vec.{vec_len}
use Rattle.krb_judge.specs.Named.{named}
use Rattle.krb_judge.specs.Paths.{field_path, element_path}
use Rattle.krb_json.specs.Spelled.{fields_spelled, is_field, members_spelled, spelled}
use Rattle.krb_json.specs.inner.Reading.{Reads}
use Rattle.krb_json.specs.inner.Sizes.{size}
use Rattle.krb_json.proofs.Measures.{inner-node, inner-size, items-node, items-size, fields-known, fields-size, first-known}
use Rattle.krb_json.proofs.ReadLemmas.{has-head, integer-read-as, text-read, octets-read, time-read, bits-read, inner-read, list-read, sequence-read, headed, there-read, field-read, element-read, no-fields, more-fields, stopped-fields, size-slots, length-slots, slots-known, after-step}
use Rattle.krb_json.proofs.ReadLists.{array-read, empty-view, members-of, get-member, item-read, item-fault, item-numbers-at}
use Rattle.krb_json.proofs.reading.+read.Goals as goal

pub read_contents-returns-in-Integer : goal.read_contents-returns-in-Integer
read_contents-returns-in-Integer t c =
    integer-read-as c.args.names (value_view c.args.value.now) c.args.out.now.items c.read_integer.new.out.items c.read_integer.result c.in-Integer.low c.in-Integer.high c.in-Integer.widest (term_at c.args.node) c.in-Integer.ensures c.read_integer.ensures

pub read_contents-returns-in-Text : goal.read_contents-returns-in-Text
read_contents-returns-in-Text t c = text-read c.args.names (value_view c.args.value.now) c.args.out.now.items c.read_text.new.out.items c.read_text.result c.in-Text.greatest (term_at c.args.node) c.in-Text.ensures c.read_text.ensures

pub read_contents-returns-in-Octets : goal.read_contents-returns-in-Octets
read_contents-returns-in-Octets t c =
    octets-read c.args.names (value_view c.args.value.now) c.args.out.now.items c.read_octets.new.out.items c.read_octets.result (term_at c.args.node) (subst (λ it. IsFormOf nodes it (term_at c.args.node)) c.in-Octets.is c.form_of.ensures) c.read_octets.ensures

pub read_contents-returns-in-Time : goal.read_contents-returns-in-Time
read_contents-returns-in-Time t c =
    time-read c.args.names (value_view c.args.value.now) c.args.out.now.items c.read_time.new.out.items c.read_time.result (term_at c.args.node) (subst (λ it. IsFormOf nodes it (term_at c.args.node)) c.in-Time.is c.form_of.ensures) c.read_time.ensures

pub read_contents-returns-in-Bits : goal.read_contents-returns-in-Bits
read_contents-returns-in-Bits t c = bits-read c.args.names (value_view c.args.value.now) c.args.out.now.items c.read_bits.new.out.items c.read_bits.result c.in-Bits.least (term_at c.args.node) c.in-Bits.ensures c.read_bits.ensures

pub read_contents-returns-in-Item : goal.read_contents-returns-in-Item
read_contents-returns-in-Item t c = inner-read c.args.names (value_view c.args.value.now) c.args.out.now.items c.read_item.new.out.items c.read_item.result c.in-Item.node (term_at c.args.node) c.in-Item.ensures c.read_item.ensures

pub read_contents-returns-in-Items : goal.read_contents-returns-in-Items
read_contents-returns-in-Items t c = list-read c.args.names (value_view c.args.value.now) c.args.out.now.items c.read_list.new.out.items c.read_list.result c.in-Items.node c.in-Items.empty (term_at c.args.node) c.in-Items.ensures c.read_list.ensures

pub read_contents-returns-in-Fields : goal.read_contents-returns-in-Fields
read_contents-returns-in-Fields t c = sequence-read c.args.names (value_view c.args.value.now) c.args.out.now.items c.read_sequence.new.out.items c.read_sequence.result c.in-Fields.fields (term_at c.args.node) c.in-Fields.ensures c.read_sequence.ensures

pub read_field-read_item-read-requires : goal.read_field-read_item-read-requires
read_field-read_item-read-requires t c = (
  omega (arith, c.decreases, ap (λ n. size (term_at n)) c.node_of.ensures.node),
  (c.node_of.ensures.known, HasNumbers-get c.args.field.name.now (value_view c.args.object.now) (value_view c.in-Some.value.now) c.requires.numbers c.in-Some.ensures),
)

pub read_field-returns-in-Some : goal.read_field-returns-in-Some
read_field-returns-in-Some t c members is =
    there-read c.args.slot (named c.args.field) members (value_view c.in-Some.value.now) c.args.out.now.items c.read_item-read.new.out.items c.in_field.result
    (sym (get-member c.args.field.name.now (value_view c.args.object.now) members is) ∙ sym c.in-Some.ensures)
    (subst (λ node. Reads (λ path. spelled (term_at node) c.args.field.inside (field_path path c.args.field.name.now) (value_view c.in-Some.value.now)) (der (term_at node)) c.args.out.now.items c.read_item-read.new.out.items c.in_field.result) c.node_of.ensures.node
    (field-read (λ path. spelled (term_at c.node_of.result) c.args.field.inside path (value_view c.in-Some.value.now)) (der (term_at c.node_of.result)) c.args.out.now.items c.read_item-read.new.out.items c.args.field.name.now c.read_item-read.result c.in_field.result c.in_field.ensures c.read_item-read.ensures))

pub read_fields-returns-in_default : goal.read_fields-returns-in_default
read_fields-returns-in_default t c members is = no-fields c.args.slots.now c.args.names c.args.index members c.args.out.now.items (omega (arith, c.in_default.len_below))

pub read_fields-returns-in_err-read_field : goal.read_fields-returns-in_err-read_field
read_fields-returns-in_err-read_field t c given is =
    let p = err_from_is_err_and c.from_residual.result c.from_residual.ensures.1 in
    rw (p.1, p.2)
    (stopped-fields c.args.slots.now c.args.names c.args.index (named c.field.result) given c.args.out.now.items c.read_field.new.out.items c.read_field.new.out.items c.in_err-read_field.field-0.0 c.in-len1-up.len_at_least c.field.ensures
    (c.in_err-read_field.ensures given is))

pub read_fields-read_fields-requires : goal.read_fields-read_fields-requires
read_fields-read_fields-requires t c = (
  omega (arith, c.decreases, size-slots c.args.slots.now c.in-len1-up.len_at_least),
  (slots-known c.args.slots.now c.in-len1-up.len_at_least c.requires.known, (c.requires.numbers, omega (arith, c.requires.few, length-slots c.args.slots.now c.in-len1-up.len_at_least))),
)

pub read_fields-returns : goal.read_fields-returns
read_fields-returns t c members is =
    more-fields c.args.slots.now c.args.names c.args.index (named c.field.result) members c.args.out.now.items c.read_field.new.out.items c.read_fields.new.out.items c.read_fields.result c.in-len1-up.len_at_least c.field.ensures
    (c.in_ok-read_field.ensures members is) (c.read_fields.ensures members is)

pub read_item-end_item-requires : goal.read_item-end_item-requires
read_item-end_item-requires t c =
    let head = has-head (λ path. spelled (term_at c.args.node) c.args.names path (value_view c.args.value.now)) (contents (term_at c.args.node)) c.args.out.now.items c.begin_item.new.out.items c.read_contents.new.out.items c.len-start.result c.tag_of.result (omega (arith, c.len-start.ensures, c.args.out.now.ok.0)) c.in_ok-begin_item.ensures c.in_ok-read_contents.ensures in
    omega (arith, head, c.read_contents.new.out.ok.0)

pub read_item-returns : goal.read_item-returns
read_item-returns t c =
    headed (term_at c.args.node) (λ path. spelled (term_at c.args.node) c.args.names path (value_view c.args.value.now)) c.args.out.now.items c.begin_item.new.out.items c.read_contents.new.out.items c.end_item.new.out.items c.len-start.result (vec_len c.read_contents.new.out - (c.len-start.result + 2)) c.tag_of.result
    (omega (arith, c.len-start.ensures, c.args.out.now.ok.0)) (omega (arith, c.read_contents.new.out.ok.0)) c.tag_of.ensures c.in_ok-begin_item.ensures c.in_ok-end_item.ensures c.in_ok-read_contents.ensures

pub read_items-read_item-requires : goal.read_items-read_item-requires
read_items-read_item-requires t c = (
  omega (arith, c.decreases),
  (
    c.requires.known,
    item-numbers-at (spelled (term_at c.args.node) c.args.names) (der (term_at c.args.node)) c.args.items.now c.loop-index.index c.index-items-index.result c.loop-index-test.true c.index-items-index.is c.args.out.now.items c.loop-index.out.items c.loop-index.invariant c.requires.numbers,
  ),
)

pub read_items-returns-in_err-in_item : goal.read_items-returns-in_err-in_item
read_items-returns-in_err-in_item t c =
    let p = err_from_is_err_and c.from_residual.result c.from_residual.ensures.1 in
    rw (p.1, p.2)
    (item-fault (spelled (term_at c.args.node) c.args.names) (der (term_at c.args.node)) c.args.items.now c.loop-index.index c.index-items-index.result c.loop-index-test.true c.index-items-index.is c.args.out.now.items c.loop-index.out.items c.loop-index.invariant
    c.args.out.now.items c.read_item.new.out.items c.read_item.new.out.items c.in_err-in_item.field-0.0
    (subst (Reads (λ path. spelled (term_at c.args.node) c.args.names (element_path path c.loop-index.index) (value_view c.index-items-index.result)) (der (term_at c.args.node)) c.loop-index.out.items c.read_item.new.out.items) c.in_err-in_item.was
    (element-read (λ path. spelled (term_at c.args.node) c.args.names path (value_view c.index-items-index.result)) (der (term_at c.args.node)) c.loop-index.out.items c.read_item.new.out.items c.loop-index.index c.read_item.result c.in_item.result c.in_item.ensures c.read_item.ensures)))

pub read_items-loop-index-preserved : goal.read_items-loop-index-preserved
read_items-loop-index-preserved t c =
    item-read (spelled (term_at c.args.node) c.args.names) (der (term_at c.args.node)) c.args.items.now c.loop-index.index c.index-items-index.result c.loop-index-test.true c.index-items-index.is c.args.out.now.items c.loop-index.out.items c.loop-index.invariant
    c.read_item.new.out.items
    (subst (Reads (λ path. spelled (term_at c.args.node) c.args.names (element_path path c.loop-index.index) (value_view c.index-items-index.result)) (der (term_at c.args.node)) c.loop-index.out.items c.read_item.new.out.items) c.in_ok-in_item.was
    (element-read (λ path. spelled (term_at c.args.node) c.args.names path (value_view c.index-items-index.result)) (der (term_at c.args.node)) c.loop-index.out.items c.read_item.new.out.items c.loop-index.index c.read_item.result c.in_item.result c.in_item.ensures c.read_item.ensures))

pub read_list-returns : goal.read_list-returns
read_list-returns t c =
    array-read c.args.empty (spelled (term_at c.args.node) c.args.names) (flat_map (der (term_at c.args.node))) (value_view c.args.value.now) (items_view c.as_slice-items.result.now) c.args.out.now.items c.read_items.new.out.items
    (ap (λ v. as_array (value_view v)) c.in-Array.is ∙ ap as_array (view-Array c.in-Array.items) ∙ ap (λ l. Some (items_view l)) (sym c.as_slice-items.ensures.value))
    c.read_items.result (ap (λ b. not c.args.empty && b) (empty-view c.as_slice-items.result.now) ∙ sym c.lacks_items.ensures ∙ c.if-lacks_items.false) c.read_items.ensures

pub read_sequence-returns : goal.read_sequence-returns
read_sequence-returns t c =
    let r = c.in_ok-check_members.ensures in
    after-step (λ path. members_spelled (is_field c.args.names) path (value_view c.args.value.now)) (λ path. fields_spelled (fields_from nodes c.args.slots.now) c.args.names path 0) (der_of_fields (fields_from nodes c.args.slots.now)) c.args.out.now.items c.read_fields.new.out.items c.read_fields.result r.value r.spelled
    (c.read_fields.ensures r.value (members-of (is_field c.args.names) [] (value_view c.args.value.now) r.value (r.spelled [])))

pub read_contents-read_item-requires : goal.read_contents-read_item-requires
read_contents-read_item-requires t c = (
  omega (arith, c.decreases, inner-size c.in-Item.node (term_at c.args.node) c.in-Item.ensures),
  (inner-node c.in-Item.node (term_at c.args.node) c.in-Item.ensures, c.requires.numbers),
)

pub read_contents-read_list-requires : goal.read_contents-read_list-requires
read_contents-read_list-requires t c = (
  omega (arith, c.decreases, items-size c.in-Items.node c.in-Items.empty (term_at c.args.node) c.in-Items.ensures),
  (items-node c.in-Items.node c.in-Items.empty (term_at c.args.node) c.in-Items.ensures, c.requires.numbers),
)

pub read_contents-read_sequence-requires : goal.read_contents-read_sequence-requires
read_contents-read_sequence-requires t c = (
  omega (arith, c.decreases, fields-size c.in-Fields.fields (term_at c.args.node) c.in-Fields.ensures),
  (fields-known c.in-Fields.fields (term_at c.args.node) c.in-Fields.ensures, c.requires.numbers),
)

pub read_fields-read_field-requires : goal.read_fields-read_field-requires
read_fields-read_field-requires t c = (
  omega (arith, c.decreases, size-slots c.args.slots.now c.in-len1-up.len_at_least),
  (first-known c.args.slots.now c.in-len1-up.len_at_least c.requires.known, c.requires.numbers),
)
