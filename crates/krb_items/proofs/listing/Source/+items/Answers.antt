use Rattle.std.proofs.Common.{◌≡◌, ◌+◌, ◌-◌, ℕ, true, List, Option, length, take, drop, map, sym, ap, ◌∙◌, arith, length-drop}
use Rattle.std.specs.Option.{option_map}
use denote.Ref.{Bor}
use Rattle.std.proofs.lemmas.Result.{IfOk-weaker}
use Rattle.krb_der.specs.Octets.{begins_with}
use Rattle.krb_items.specs.Heads.{Begun, contents_in, headed, octet_of}
use Rattle.krb_items.specs.Items.{Here, field_items, item_items, named}
use Rattle.krb_items.specs.Names.{element_path}
use Rattle.krb_items.specs.Seen.{begun_of, context_of, headed_of, here_of, limits_of}
use Rattle.krb_items.specs.Shapes.{ItemType, field_of, type_of}
use Rattle.krb_items.specs.declared.tag.Tag.TheVariants as tags
use Rattle.krb_items.proofs.Walks.{element-bound, element-cut, element-none, element-then, fields-cut, fields-then, identified-then, item-goes, listed-cut, listed-so, lists-same}
use Rattle.krb_items.proofs.listing.Source.+items.Goals as goal
use Rattle.krb_items.proofs.listing.Source.+items.Goals.{elements-then-elements-test+else-begin_as, elements-else-elements-test, fields-in-Cut, fields-in-Whole}

-- the path of an item
own-at : (own next : Here) (name text path : List ℕ) (in_path : List ℕ → List ℕ) → own ≡ named next name → name ≡ text → text ≡ in_path path → next.name ≡ path → own ≡ named next (in_path next.name)
own-at own next name text path in_path is named-is made-is same = is ∙ ap (λ (n : List ℕ). named next n) (named-is ∙ made-is ∙ ap in_path (sym same))

pub elements-returns-in_default : goal.elements-returns-in_default
elements-returns-in_default t c =
    let size = length c.args.contents.octets.now in
    let next = here_of c.elements.next in
    c.elements.invariant.4 c.item.new.out _
    (element-cut (context_of c.args.self) (item_items c.args.levels (limits_of c.args.self)) (type_of c.args.of) (size - c.elements.index) (size - (c.elements.index + 1)) c.elements.index next (here_of c.named-own.result) c.elements.rest.room c.elements.rest.octets.now c.elements.out c.item.new.out c.in_ok-item.field-0
    (omega arith)
    (sym c.begin_as.ensures ∙ c.if-begin_as.true)
    (own-at (here_of c.named-own.result) next _ _ c.args.here.name.now (λ path. element_path path c.elements.index) c.named-own.ensures c.as_str.ensures.value c.in_ok-name.ensures c.elements.invariant.2)
    c.in_ok-item.ensures
    c.in_default.is)

pub elements-elements-preserved : goal.elements-elements-preserved
elements-elements-preserved t c =
    let size = length c.args.contents.octets.now in
    let next = here_of c.elements.next in (
      omega (arith, ap (λ (h : Here). h.place) c.after-next.ensures, ap length c.after-rest.ensures.octets, length-drop c.count_of-count.result c.elements.rest.octets.now),
      ap (λ (h : Here). h.depth) c.after-next.ensures ∙ c.elements.invariant.1,
      ap (λ (h : Here). h.name) c.after-next.ensures ∙ c.elements.invariant.2,
      omega arith,
      λ new end listed. c.elements.invariant.4 new end
          (element-then (context_of c.args.self) (item_items c.args.levels (limits_of c.args.self)) (type_of c.args.of) (size - c.elements.index) (size - (c.elements.index + 1)) c.elements.index c.count_of-count.result next (here_of c.named-own.result) (here_of c.after-next.result) c.elements.rest.room c.after-rest.result.room c.elements.rest.octets.now c.after-rest.result.octets.now c.elements.out c.item.new.out new c.in_ok-item.field-0 end
          (omega arith)
          (sym c.begin_as.ensures ∙ c.if-begin_as.true)
          (own-at (here_of c.named-own.result) next _ _ c.args.here.name.now (λ path. element_path path c.elements.index) c.named-own.ensures c.as_str.ensures.value c.in_ok-name.ensures c.elements.invariant.2)
          c.in_ok-item.ensures
          c.in-Whole.is
          c.count_of-count.ensures.count
          c.after-next.ensures
          c.after-rest.ensures.room
          c.after-rest.ensures.octets
          listed),
    )

pub elements-returns : goal.elements-returns
elements-returns t c =
    let item = item_items c.args.levels (limits_of c.args.self) in
    let left = length c.args.contents.octets.now - c.elements.index in
    elim c.elements-test.branch [
      | elements-then-elements-test+else-begin_as w ↦ IfOk-weaker c.ended.result _ _
          (λ end listed. c.elements.invariant.4 c.ended.new.out end
          (lists-same (context_of c.args.self) _ _ c.elements.out c.ended.new.out end (element-none item (type_of c.args.of) left c.elements.index (here_of c.elements.next) c.elements.rest.room c.elements.rest.octets.now (sym w.begin_as.ensures ∙ w.if-begin_as.false)) listed))
          c.ended.ensures
      | elements-else-elements-test w ↦ IfOk-weaker c.ended.result _ _
          (λ end listed. c.elements.invariant.4 c.ended.new.out end
          (lists-same (context_of c.args.self) _ _ c.elements.out c.ended.new.out end (element-bound item (type_of c.args.of) left c.elements.index (here_of c.elements.next) c.elements.rest.room c.elements.rest.octets.now (omega arith)) listed))
          c.ended.ensures
    ]

pub fields-returns-then-begin_as : goal.fields-returns-then-begin_as
fields-returns-then-begin_as t c =
    let item = item_items c.args.levels (limits_of c.args.self) in
    let here = here_of c.args.here in
    elim c.match-branch-3.branch [
      | fields-in-Cut w ↦ listed-cut (context_of c.args.self) _ c.args.out.now c.item.new.out c.match-branch-3.out c.match-branch-3.result w.out-is w.result-is
          (fields-cut (context_of c.args.self) item c.args.fields.now _ here (here_of c.named-own.result) c.args.rest.room c.args.rest.octets.now c.args.out.now c.item.new.out c.in_ok-item.field-0
          c.in-len1-up.len_at_least
          (sym c.begin_as.ensures ∙ c.if-begin_as.true)
          (c.named-own.ensures ∙ ap (λ (n : List ℕ). named here n) (c.as_str.ensures.value ∙ c.in_ok-name.ensures))
          c.in_ok-item.ensures
          w.in-Cut.is)
      | fields-in-Whole w ↦ listed-so (context_of c.args.self) (field_items item (here_of w.after-next.result) (map field_of (take (length c.args.fields.now - 1) (drop 1 c.args.fields.now))) w.after.result.room w.after.result.octets.now) _ c.args.out.now c.item.new.out w.fields.new.out c.match-branch-3.out w.fields.result c.match-branch-3.result w.out-is w.result-is w.fields.ensures
          (λ end listed. fields-then (context_of c.args.self) item c.args.fields.now _ w.count_of-count.result w.number_after-number.result here (here_of c.named-own.result) (here_of w.after-next.result) c.args.rest.room w.after.result.room c.args.rest.octets.now w.after.result.octets.now c.args.out.now c.item.new.out w.fields.new.out c.in_ok-item.field-0 end
          c.in-len1-up.len_at_least
          (sym c.begin_as.ensures ∙ c.if-begin_as.true)
          (c.named-own.ensures ∙ ap (λ (n : List ℕ). named here n) (c.as_str.ensures.value ∙ c.in_ok-name.ensures))
          c.in_ok-item.ensures
          w.in-Whole.is
          w.count_of-count.ensures.count
          w.number_after-number.ensures
          w.after-next.ensures
          w.after.ensures.room
          w.after.ensures.octets
          listed)
    ]

pub item-contents-requires : goal.item-contents-requires
item-contents-requires t c = (omega arith, (c.in_ok-read.ensures.near, (omega (arith, rw c.in-Some.is at c.in_ok-read.ensures.within), omega (arith, c.in_ok-read.ensures.depth, c.new-begun.ensures.depth))))

pub item-returns-in-Some : goal.item-returns-in-Some
item-returns-in-Some t c = IfOk-weaker c.contents.result _ _
    (λ end listed. item-goes (context_of c.args.self) c.args.levels (c.args.levels - 1) (limits_of c.args.self) (here_of c.args.here) (type_of c.args.of) c.args.octets.now c.in-Some.contents.now (begun_of c.read.new.self) c.args.out.now c.contents.new.out end
    (omega arith)
    (ap (λ (b : Begun). headed c.args.self.limit b c.args.of.tags.now c.args.octets.now) (sym c.new-begun.ensures.begun) ∙ c.in_ok-read.ensures.headed
    ∙ ap (λ (o : Option (Bor (List ℕ))). headed_of c.read.new.self (option_map (λ contents. contents.now) o)) c.in-Some.is)
    listed)
    c.contents.ensures

pub identified-returns : goal.identified-returns
identified-returns t c =
    let begins : begins_with (octet_of tags.ObjectIdentifier) c.args.rest.octets.now ≡ true = cc in
    IfOk-weaker c.mechanism.result _ _
    (λ end listed. identified-then (context_of c.args.self) (item_items c.args.levels (limits_of c.args.self)) (limits_of c.args.self) (here_of c.args.here) (here_of c.named-own.result) (here_of c.after-next.result) (type_of c.identifier_type-of.result) c.args.rest.room c.after.result.room c.args.rest.octets.now c.contents_in-identifier.result.now c.after.result.octets.now c.count_of-count.result c.args.out.now c.item.new.out c.mechanism.new.out c.in_ok-item.field-0 end
    begins
    (c.named-own.ensures ∙ ap (λ (n : List ℕ). named (here_of c.args.here) n) (c.as_str.ensures.value ∙ c.in_ok-name.ensures))
    c.identifier_type-of.ensures
    c.in_ok-item.ensures
    c.in-Whole.is
    c.count_of-count.ensures.count
    c.after-next.ensures
    (c.contents_in-identifier.ensures ∙ ap (λ (o : ItemType). contents_in o.tags c.args.rest.octets.now) c.identifier_type-of.ensures)
    c.after.ensures.room
    c.after.ensures.octets
    listed)
    c.mechanism.ensures
