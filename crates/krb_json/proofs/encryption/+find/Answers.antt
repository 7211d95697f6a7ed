use Rattle.std.proofs.Common.{◌≡◌, true, ◌++◌, Some, None, option_map, sym, ap, subst, ◌∙◌, arith}
use Rattle.std.specs.Prelude.{string_bytes}
use Rattle.krb_der.specs.Octets.{item}
use Rattle.krb_msg.specs.Nodes.{term_at}
use Rattle.krb_msg.specs.Shape.{is_unambiguous}
use Rattle.krb_msg.specs.Viewed.{HasNoItem}
use Rattle.krb_json.specs.inner.Searching.{Finds}
use Rattle.krb_json.specs.inner.Sizes.{size}
use Rattle.krb_json.proofs.Measures.{inner-node, inner-size, inner-unambiguous, items-node, items-size, items-unambiguous, both-unambiguous, own-shorter}
use Rattle.krb_json.proofs.ReadLemmas.{size-slots, length-slots, slots-known}
use Rattle.krb_json.proofs.Searches.{if-ok, finds-here, finds-inside, finds-list, finds-tagged, finds-no_item, no-first, found-first, none-first, one-searched, one-found, none-left}
use Rattle.krb_msg.proofs.ItemViews.{passed_smaller}
use Rattle.krb_json.proofs.encryption.+find.Goals as goal

pub find-returns-then-is_unencrypted : goal.find-returns-then-is_unencrypted
find-returns-then-is_unencrypted t c value a path =
    finds-here c.args.names c.args.contents.now c.in-Fields.fields (term_at c.args.node) c.is_unencrypted.result c.in-Fields.ensures c.is_unencrypted.ensures c.if-is_unencrypted.true value a path
    ∙ ap (λ m. Some (path ++ m)) (sym c.new.ensures.bytes)

pub find-returns-else-is_unencrypted : goal.find-returns-else-is_unencrypted
find-returns-else-is_unencrypted t c =
    if-ok c.find_in_fields.result
    (λ more f. finds-inside c.args.names c.args.contents.now c.in-Fields.fields (term_at c.args.node) c.is_unencrypted.result (option_map string_bytes more) c.in-Fields.ensures c.is_unencrypted.ensures c.if-is_unencrypted.false f)
    c.find_in_fields.ensures

pub find-returns-in-Items : goal.find-returns-in-Items
find-returns-in-Items t c = if-ok c.find_in_items.result (λ more f. finds-list c.args.names c.args.contents.now c.in-Items.node c.in-Items.empty (term_at c.args.node) (option_map string_bytes more) c.in-Items.ensures f) c.find_in_items.ensures

pub find-returns-in-Some : goal.find-returns-in-Some
find-returns-in-Some t c =
    if-ok c.find.result
    (λ more f. finds-tagged c.args.names c.args.contents.now c.in-Item.node (term_at c.args.node) c.in-Some.inner.now c.in-Some._rest.now (option_map string_bytes more) c.in-Item.ensures
    (c.in-Some.ensures ∙ ap (λ tag. item tag c.in-Some.inner.now ++ c.in-Some._rest.now) c.tag_of.ensures) f)
    c.find.ensures

pub find-returns-in-None : goal.find-returns-in-None
find-returns-in-None t c = finds-no_item c.args.names c.args.contents.now c.in-Item.node (term_at c.args.node) None c.in-Item.ensures (subst (λ tag. HasNoItem tag c.args.contents.now) c.tag_of.ensures c.in-None.ensures)

pub find_in_fields-returns-in_default-first_item : goal.find_in_fields-returns-in_default-first_item
find_in_fields-returns-in_default-first_item t c =
    if-ok c.find_in_fields.result
    (λ more f. no-first c.args.slots.now c.args.names c.args.index c.args.octets.now c.node_of-node.result c.tag_of.result c.in-len1-up.len_at_least c.node_of-node.ensures.node c.tag_of.ensures (option_map string_bytes more) c.in_default-first_item.ensures f)
    c.find_in_fields.ensures

pub find_in_fields-returns-in_ok-after_name-in-Some-2 : goal.find_in_fields-returns-in_ok-after_name-in-Some-2
find_in_fields-returns-in_ok-after_name-in-Some-2 t c values a path =
    found-first c.args.slots.now c.args.names c.args.index c.args.octets.now c.node_of-node.result c.tag_of.result c.in-len1-up.len_at_least c.node_of-node.ensures.node c.tag_of.ensures c.in-Some.contents.now c.in-Some.rest.now (string_bytes c.in-Some-2.more) _ c.field-field.ensures c.requires.unambiguous c.in-Some.ensures
    (subst (λ o. Finds (term_at c.node_of-node.result) c.field-field.result.inside c.in-Some.contents.now (option_map string_bytes o)) c.in-Some-2.is c.in_ok-more.ensures) values a path
    ∙ ap (λ m. Some (path ++ m)) (sym c.in_ok-after_name-in-Some-2.ensures)

pub find_in_fields-returns-in-None : goal.find_in_fields-returns-in-None
find_in_fields-returns-in-None t c =
    if-ok c.find_in_fields-in-None.result
    (λ more f. none-first c.args.slots.now c.args.names c.args.index c.args.octets.now c.node_of-node.result c.tag_of.result c.in-len1-up.len_at_least c.node_of-node.ensures.node c.tag_of.ensures c.in-Some.contents.now c.in-Some.rest.now (option_map string_bytes more) _ c.field-field.ensures c.requires.unambiguous c.in-Some.ensures
    (subst (λ o. Finds (term_at c.node_of-node.result) c.field-field.result.inside c.in-Some.contents.now (option_map string_bytes o)) c.in-None.is c.in_ok-more.ensures) f)
    c.find_in_fields-in-None.ensures

pub find_in_items-returns-in-Some-2 : goal.find_in_items-returns-in-Some-2
find_in_items-returns-in-Some-2 t c values fit form path =
    one-found (term_at c.args.node) c.args.names c.args.octets.now c.loop-contents.rest.now c.in-Some.contents.now c.in-Some.others.now c.loop-contents.index
    (c.in-Some.ensures ∙ ap (λ tag. item tag c.in-Some.contents.now ++ c.in-Some.others.now) c.tag_of.ensures) c.loop-contents.invariant.1 (string_bytes c.in-Some-2.more)
    (subst (λ o. Finds (term_at c.args.node) c.args.names c.in-Some.contents.now (option_map string_bytes o)) c.in-Some-2.is c.in_ok-more.ensures) values fit form path
    ∙ ap (λ l. Some (path ++ l)) (sym c.in_ok-after_index.ensures)

pub find_in_items-loop-contents-preserved : goal.find_in_items-loop-contents-preserved
find_in_items-loop-contents-preserved t c = (
  omega (arith, c.loop-contents.invariant.0, passed_smaller c.tag_of.result c.loop-contents.rest.now c.in-Some.contents.now c.in-Some.others.now c.in-Some.ensures),
  one-searched (term_at c.args.node) c.args.names c.args.octets.now c.loop-contents.rest.now c.in-Some.contents.now c.in-Some.others.now c.loop-contents.index
      (c.in-Some.ensures ∙ ap (λ tag. item tag c.in-Some.contents.now ++ c.in-Some.others.now) c.tag_of.ensures) c.loop-contents.invariant.1
      (subst (λ o. Finds (term_at c.args.node) c.args.names c.in-Some.contents.now (option_map string_bytes o)) c.in_default-2.is c.in_ok-more.ensures),
)

pub find_in_items-returns : goal.find_in_items-returns
find_in_items-returns t c = none-left (term_at c.args.node) c.args.names c.args.octets.now c.loop-contents.rest.now c.loop-contents.index (subst (λ tag. HasNoItem tag c.loop-contents.rest.now) c.tag_of.ensures c.in_default.ensures) c.loop-contents.invariant.1

pub find-find-requires : goal.find-find-requires
find-find-requires t c = (
  omega (arith, c.decreases, inner-size c.in-Item.node (term_at c.args.node) c.in-Item.ensures),
  (inner-node c.in-Item.node (term_at c.args.node) c.in-Item.ensures, (inner-unambiguous c.in-Item.node (term_at c.args.node) c.in-Item.ensures c.requires.unambiguous, omega (arith, c.requires.short, own-shorter c.tag_of.result c.args.contents.now c.in-Some.inner.now c.in-Some._rest.now c.in-Some.ensures))),
)

pub find-find_in_items-requires : goal.find-find_in_items-requires
find-find_in_items-requires t c = (
  omega (arith, c.decreases, items-size c.in-Items.node c.in-Items.empty (term_at c.args.node) c.in-Items.ensures),
  (items-node c.in-Items.node c.in-Items.empty (term_at c.args.node) c.in-Items.ensures, (items-unambiguous c.in-Items.node c.in-Items.empty (term_at c.args.node) c.in-Items.ensures c.requires.unambiguous, c.requires.short)),
)

pub find_in_fields-find-requires : goal.find_in_fields-find-requires
find_in_fields-find-requires t c = (
  omega (arith, c.decreases, size-slots c.args.slots.now c.in-len1-up.len_at_least, ap (λ n. size (term_at n)) c.node_of-node.ensures.node),
  (c.node_of-node.ensures.known, (subst (λ n. is_unambiguous (term_at n) ≡ true) (sym c.node_of-node.ensures.node) (both-unambiguous c.args.slots.now c.in-len1-up.len_at_least c.requires.unambiguous).0, omega (arith, c.requires.short, own-shorter c.tag_of.result c.args.octets.now c.in-Some.contents.now c.in-Some.rest.now c.in-Some.ensures))),
)

pub find_in_fields-find_in_fields-requires : goal.find_in_fields-find_in_fields-requires
find_in_fields-find_in_fields-requires t c = (
  omega (arith, c.decreases, size-slots c.args.slots.now c.in-len1-up.len_at_least),
  (slots-known c.args.slots.now c.in-len1-up.len_at_least c.requires.known, ((both-unambiguous c.args.slots.now c.in-len1-up.len_at_least c.requires.unambiguous).1, (omega (arith, c.requires.few, length-slots c.args.slots.now c.in-len1-up.len_at_least), c.requires.short))),
)

pub find_in_fields-find_in_fields-requires-in-None : goal.find_in_fields-find_in_fields-requires-in-None
find_in_fields-find_in_fields-requires-in-None t c = (
  omega (arith, c.decreases, size-slots c.args.slots.now c.in-len1-up.len_at_least),
  (slots-known c.args.slots.now c.in-len1-up.len_at_least c.requires.known, ((both-unambiguous c.args.slots.now c.in-len1-up.len_at_least c.requires.unambiguous).1, (omega (arith, c.requires.few, length-slots c.args.slots.now c.in-len1-up.len_at_least), omega (arith, c.requires.short, passed_smaller c.tag_of.result c.args.octets.now c.in-Some.contents.now c.in-Some.rest.now c.in-Some.ensures)))),
)

pub find_in_items-find-requires : goal.find_in_items-find-requires
find_in_items-find-requires t c = (
  omega (arith, c.decreases),
  (c.requires.known, (c.requires.unambiguous, omega (arith, c.requires.short, c.loop-contents.invariant.0, own-shorter c.tag_of.result c.loop-contents.rest.now c.in-Some.contents.now c.in-Some.others.now c.in-Some.ensures))),
)
