use Rattle.std.proofs.Common.{◌≡◌, true, ◌++◌, ap, sym, subst, ◌∙◌, arith}
use Rattle.krb_der.specs.Octets.{item}
use Rattle.krb_msg.specs.Nodes.{nodes, term_at}
use Rattle.krb_msg.specs.Shape.{is_unambiguous}
use Rattle.krb_msg.specs.Table.{IsFormOf}
use Rattle.krb_msg.specs.Viewed.{HasNoItem}
use Rattle.krb_msg.proofs.ItemViews.{passed_smaller}
use Rattle.krb_json.specs.inner.Sizes.{size}
use Rattle.krb_json.proofs.Measures.{inner-node, inner-size, inner-unambiguous, items-node, items-size, items-unambiguous, both-unambiguous, own-shorter}
use Rattle.krb_json.proofs.ReadLemmas.{size-slots, length-slots, slots-known}
use Rattle.krb_json.proofs.Walks.{on-ok, on-ok-if, puts-integer, puts-text, puts-octets, puts-time, puts-bits, puts-list, puts-sequence, puts-tagged, puts-no_item, some-member, none-member, one-passed, all-passed}
use Rattle.krb_json.proofs.writing.+put.Goals as goal

pub put_contents-returns-in-Integer-clause-written : goal.put_contents-returns-in-Integer-clause-written
put_contents-returns-in-Integer-clause-written t c =
    on-ok-if c.put_number.result (puts-integer c.args.names c.args.contents.now c.args.out.now.tokens c.put_number.new.out.tokens c.in-Integer.low c.in-Integer.high c.in-Integer.widest (term_at c.args.node) c.in-Integer.ensures) c.put_number.ensures.written

pub put_contents-returns-in-Text-clause-written : goal.put_contents-returns-in-Text-clause-written
put_contents-returns-in-Text-clause-written t c =
    on-ok c.put_shown.result (puts-text c.args.names c.args.contents.now c.args.out.now.tokens c.put_shown.new.out.tokens c.in-Text.greatest (term_at c.args.node) c.in-Text.ensures) c.put_shown.ensures.written

pub put_contents-returns-in-Octets-clause-written : goal.put_contents-returns-in-Octets-clause-written
put_contents-returns-in-Octets-clause-written t c =
    on-ok c.put_hex.result (puts-octets c.args.names c.args.contents.now c.args.out.now.tokens c.put_hex.new.out.tokens (term_at c.args.node) (subst (λ it. IsFormOf nodes it (term_at c.args.node)) c.in-Octets.is c.form_of.ensures)) c.put_hex.ensures.written

pub put_contents-returns-in-Time-clause-written : goal.put_contents-returns-in-Time-clause-written
put_contents-returns-in-Time-clause-written t c =
    on-ok-if c.put_ascii.result (puts-time c.args.names c.args.contents.now c.args.out.now.tokens c.put_ascii.new.out.tokens (term_at c.args.node) (subst (λ it. IsFormOf nodes it (term_at c.args.node)) c.in-Time.is c.form_of.ensures)) c.put_ascii.ensures.written

pub put_contents-returns-in-Bits-clause-written : goal.put_contents-returns-in-Bits-clause-written
put_contents-returns-in-Bits-clause-written t c =
    on-ok c.put_bits.result (puts-bits c.args.names c.args.contents.now c.args.out.now.tokens c.put_bits.new.out.tokens c.in-Bits.least (term_at c.args.node) c.in-Bits.ensures) c.put_bits.ensures.written

pub put_contents-returns-in_ok-begin_array-in-Items-clause-written : goal.put_contents-returns-in_ok-begin_array-in-Items-clause-written
put_contents-returns-in_ok-begin_array-in-Items-clause-written t c =
    on-ok c.put_items.result
    (puts-list c.args.names c.args.contents.now c.args.out.now.tokens c.put_items.new.out.tokens c.in-Items.node c.in-Items.empty (term_at c.args.node) c.begin_array.new.self.tokens c.in-Items.ensures c.in_ok-begin_array-in-Items.ensures.ok)
    c.put_items.ensures.written

pub put_contents-returns-in-Some-clause-written : goal.put_contents-returns-in-Some-clause-written
put_contents-returns-in-Some-clause-written t c =
    on-ok c.put_contents.result
    (puts-tagged c.args.names c.args.contents.now c.args.out.now.tokens c.put_contents.new.out.tokens c.in-Item.node (term_at c.args.node) c.in-Some.inner.now c.in-Some._rest.now c.in-Item.ensures
    (c.in-Some.ensures ∙ ap (λ tag. item tag c.in-Some.inner.now ++ c.in-Some._rest.now) c.tag_of.ensures))
    c.put_contents.ensures.written

pub put_contents-returns-in-None-clause-written : goal.put_contents-returns-in-None-clause-written
put_contents-returns-in-None-clause-written t c =
    puts-no_item c.args.names c.args.contents.now c.args.out.now.tokens c.args.out.now.tokens c.in-Item.node (term_at c.args.node) c.in-Item.ensures (subst (λ tag. HasNoItem tag c.args.contents.now) c.tag_of.ensures c.in-None.ensures)

pub put_contents-returns-in_ok-begin_object-in-Fields-clause-written : goal.put_contents-returns-in_ok-begin_object-in-Fields-clause-written
put_contents-returns-in_ok-begin_object-in-Fields-clause-written t c =
    on-ok c.put_fields.result
    (puts-sequence c.args.names c.args.contents.now c.args.out.now.tokens c.put_fields.new.out.tokens c.in-Fields.fields (term_at c.args.node) c.begin_object.new.self.tokens c.in-Fields.ensures c.in_ok-begin_object-in-Fields.ensures.ok)
    c.put_fields.ensures.written

pub put_fields-returns-in_ok-put_contents-in-Some-clause-written : goal.put_fields-returns-in_ok-put_contents-in-Some-clause-written
put_fields-returns-in_ok-put_contents-in-Some-clause-written t c =
    on-ok c.put_fields.result
    (some-member c.args.slots.now c.args.names c.args.index c.args.octets.now c.in-Some.contents.now c.in-Some.rest.now c.args.out.now.tokens c.key.new.self.tokens c.put_contents.new.out.tokens c.put_fields.new.out.tokens c.node_of-node.result c.tag_of.result _
    c.in-len1-up.len_at_least c.node_of-node.ensures.node c.tag_of.ensures c.field-field.ensures c.requires.unambiguous c.in-Some.ensures c.in_ok-key-in-Some.ensures.ok c.in_ok-put_contents-in-Some.ensures.written)
    c.put_fields.ensures.written

pub put_fields-returns-in-None-clause-written : goal.put_fields-returns-in-None-clause-written
put_fields-returns-in-None-clause-written t c =
    on-ok c.put_fields-in-None.result
    (none-member c.args.slots.now c.args.names c.args.index c.args.octets.now c.args.out.now.tokens c.put_fields-in-None.new.out.tokens c.node_of-node.result c.tag_of.result c.in-len1-up.len_at_least c.node_of-node.ensures.node c.tag_of.ensures c.in-None.ensures)
    c.put_fields-in-None.ensures.written

pub put_items-loop-contents-preserved : goal.put_items-loop-contents-preserved
put_items-loop-contents-preserved t c =
    let inv = c.loop-contents.invariant in
    let parts = c.in-Some.ensures ∙ ap (λ tag. item tag c.in-Some.contents.now ++ c.in-Some.others.now) c.tag_of.ensures in (
      c.in_ok-put_contents.ensures.before ∙ inv.0,
      omega (arith, inv.1, passed_smaller c.tag_of.result c.loop-contents.rest.now c.in-Some.contents.now c.in-Some.others.now c.in-Some.ensures),
      one-passed (term_at c.args.node) c.args.names c.args.octets.now c.loop-contents.rest.now c.in-Some.contents.now c.in-Some.others.now c.args.out.now.tokens c.loop-contents.out.tokens c.put_contents.new.out.tokens parts c.in_ok-put_contents.ensures.written inv.2,
    )

pub put_items-returns-clause-written : goal.put_items-returns-clause-written
put_items-returns-clause-written t c =
    on-ok c.end_array.result
    (all-passed (term_at c.args.node) c.args.names c.args.octets.now c.loop-contents.rest.now c.args.out.now.tokens c.loop-contents.out.tokens c.end_array.new.self.tokens (subst (λ tag. HasNoItem tag c.loop-contents.rest.now) c.tag_of.ensures c.in_default.ensures) c.loop-contents.invariant.2)
    c.end_array.ensures.ok

pub put_contents-put_contents-requires : goal.put_contents-put_contents-requires
put_contents-put_contents-requires t c = (
  omega (arith, c.decreases, inner-size c.in-Item.node (term_at c.args.node) c.in-Item.ensures),
  (inner-node c.in-Item.node (term_at c.args.node) c.in-Item.ensures, (inner-unambiguous c.in-Item.node (term_at c.args.node) c.in-Item.ensures c.requires.unambiguous, omega (arith, c.requires.short, own-shorter c.tag_of.result c.args.contents.now c.in-Some.inner.now c.in-Some._rest.now c.in-Some.ensures))),
)

pub put_contents-put_items-requires : goal.put_contents-put_items-requires
put_contents-put_items-requires t c = (
  omega (arith, c.decreases, items-size c.in-Items.node c.in-Items.empty (term_at c.args.node) c.in-Items.ensures),
  (items-node c.in-Items.node c.in-Items.empty (term_at c.args.node) c.in-Items.ensures, (items-unambiguous c.in-Items.node c.in-Items.empty (term_at c.args.node) c.in-Items.ensures c.requires.unambiguous, c.requires.short)),
)

pub put_fields-put_contents-requires : goal.put_fields-put_contents-requires
put_fields-put_contents-requires t c = (
  omega (arith, c.decreases, size-slots c.args.slots.now c.in-len1-up.len_at_least, ap (λ n. size (term_at n)) c.node_of-node.ensures.node),
  (c.node_of-node.ensures.known, (subst (λ n. is_unambiguous (term_at n) ≡ true) (sym c.node_of-node.ensures.node) (both-unambiguous c.args.slots.now c.in-len1-up.len_at_least c.requires.unambiguous).0, omega (arith, c.requires.short, own-shorter c.tag_of.result c.args.octets.now c.in-Some.contents.now c.in-Some.rest.now c.in-Some.ensures))),
)

pub put_fields-put_fields-requires : goal.put_fields-put_fields-requires
put_fields-put_fields-requires t c = (
  omega (arith, c.decreases, size-slots c.args.slots.now c.in-len1-up.len_at_least),
  (slots-known c.args.slots.now c.in-len1-up.len_at_least c.requires.known, ((both-unambiguous c.args.slots.now c.in-len1-up.len_at_least c.requires.unambiguous).1, (omega (arith, c.requires.few, length-slots c.args.slots.now c.in-len1-up.len_at_least), omega (arith, c.requires.short, passed_smaller c.tag_of.result c.args.octets.now c.in-Some.contents.now c.in-Some.rest.now c.in-Some.ensures)))),
)

pub put_fields-put_fields-requires-in-None : goal.put_fields-put_fields-requires-in-None
put_fields-put_fields-requires-in-None t c = (
  omega (arith, c.decreases, size-slots c.args.slots.now c.in-len1-up.len_at_least),
  (slots-known c.args.slots.now c.in-len1-up.len_at_least c.requires.known, ((both-unambiguous c.args.slots.now c.in-len1-up.len_at_least c.requires.unambiguous).1, (omega (arith, c.requires.few, length-slots c.args.slots.now c.in-len1-up.len_at_least), c.requires.short))),
)
