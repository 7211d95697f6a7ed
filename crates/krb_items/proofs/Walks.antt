-- The steps of a walk.
use Rattle.std.proofs.Common.{◌≡◌, ℕ, ℤ, zero, suc, ◌+◌, ◌-◌, ◌≤◌, true, false, List, [], ◌∷◌, length, get_or, take, take_all, drop, map, codes, Option, Some, None, Ok, Result, IfOk, refl, sym, ap, ◌∙◌, subst, arith}
use Rattle.std.specs.List.{slice_get}
use Rattle.std.proofs.lemmas.Result.{IfOk-weaker}
use Rattle.krb_der.specs.Octets.{begins_with}
use Rattle.krb_items.specs.Heads.{Begun, Headed, contents_in, count_in, headed, octet_of}
use Rattle.krb_items.specs.Held.{number_after}
use Rattle.krb_items.specs.Items.{Here, Items, Limits, begins_as, begun_here, contents_items, element_items, ended, field_items, here_at, identified_items, item_items, kind_items, mechanism_items, message_items, named, of_headed, passed}
use Rattle.krb_items.specs.Names.{element_path, field_path}
use Rattle.krb_items.specs.Records.{Context, Lists}
use Rattle.krb_items.specs.Shapes.{Field, ItemType, field_of, identifier_type, message_of, type_of}
use Rattle.krb_items.specs.declared.tag.Tag.TheVariants as tags
use Rattle.krb_msg.specs.Views.{kind_name, kind_with_tag}
use Rattle.krb_msg.specs.declared.message.Kind.{Kind}
use Rattle.krb_items.specs.declared.listing.End.{End}
use Rattle.krb_items.specs.declared.listing.End.TheVariants as ends
use Rattle.krb_items.specs.declared.listing.Listed.{Listed}
use Rattle.krb_items.specs.declared.shape.Field.{Field as FieldOfCode}
use Rattle.krb_items.proofs.Listings.{lists-then, lists-cut}

-- what is listed of equal items
pub lists-same : (context : Context) (a b : Items) (old new : Listed) (end : End) → a ≡ b → Lists context b old new end → Lists context a old new end
lists-same context a b old new end same listed = subst (λ (items : Items). Lists context items old new end) (sym same) listed

-- what is listed of an item at equal places, with equal ends
lists-at : (context : Context) (item : Here → ItemType → List ℕ → Items) (of : ItemType) (octets : List ℕ) (own here : Here) (old new : Listed) (end known : End) →
    own ≡ here → end ≡ known → Lists context (item own of octets) old new end → Lists context (item here of octets) old new known
lists-at context item of octets own here old new end known same ends listed =
    subst (λ (h : Here). Lists context (item h of octets) old new known) same (subst (λ (e : End). Lists context (item own of octets) old new e) ends listed)

-- what is listed after an item of so many octets
lists-left : (context : Context) (items : Here → ℕ → List ℕ → Items) (here : Here) (number : Option ℤ) (count : ℕ) (octets : List ℕ) (after : Here) (room after-room : ℕ) (after-octets : List ℕ) (old new : Listed) (end : End) →
    count ≡ count_in octets → after ≡ passed here count number → after-room ≡ room - count → after-octets ≡ drop count octets
    → Lists context (items after after-room after-octets) old new end
    → Lists context (items (passed here (count_in octets) number) (room - count_in octets) (drop (count_in octets) octets)) old new end
lists-left context items here number count octets after room after-room after-octets old new end count-is after-is room-is octets-is listed =
    subst (λ (n : ℕ). Lists context (items (passed here n number) (room - n) (drop n octets)) old new end) count-is
    (subst (λ (h : Here). Lists context (items h (room - count) (drop count octets)) old new end) after-is
    (subst (λ (n : ℕ). Lists context (items after n (drop count octets)) old new end) room-is
    (subst (λ (o : List ℕ). Lists context (items after after-room o) old new end) octets-is listed)))

-- what a branch has listed
pub listed-cut : {E : Type 0} (context : Context) (items : Items) (old mid new : Listed) (result : Result End E) → new ≡ mid → result ≡ Ok ends.Cut → Lists context items old mid ends.Cut → IfOk result (Lists context items old new)
listed-cut context items old mid new result same is listed = rw (is, same) listed

pub listed-so : {E : Type 0} (context : Context) (before items : Items) (old mid new made : Listed) (result found : Result End E) → made ≡ new → found ≡ result → IfOk result (Lists context before mid new)
    → ((end : End) → Lists context before mid new end → Lists context items old new end) → IfOk found (Lists context items old made)
listed-so context before items old mid new made result found same is listed goes =
    rw (is, same) (IfOk-weaker result (Lists context before mid new) (Lists context items old new) goes listed)

-- ---- an item
-- an item by its heads
item-by : (levels left : ℕ) (limits : Limits) (here : Here) (of : ItemType) (octets : List ℕ) (h : Headed) → levels ≡ suc left → headed limits.limit (begun_here here) of.tags octets ≡ h
    → item_items levels limits here of octets ≡ of_headed here.name h (contents_items (item_items left limits) limits here of.shape)
item-by levels left limits here of octets h is e =
    ap (λ n. item_items n limits here of octets) is ∙ ap (λ h. of_headed here.name h (contents_items (item_items left limits) limits here of.shape)) e

pub item-goes : (context : Context) (levels left : ℕ) (limits : Limits) (here : Here) (of : ItemType) (octets contents : List ℕ) (begun : Begun) (old new : Listed) (end : End) → levels ≡ suc left
    → headed limits.limit (begun_here here) of.tags octets ≡ record { begun = begun; contents = Some contents }
    → Lists context (contents_items (item_items left limits) limits here of.shape begun contents) old new end → Lists context (item_items levels limits here of octets) old new end
item-goes context levels left limits here of octets contents begun old new end is e listed =
    lists-same context _ _ old new end (item-by levels left limits here of octets (record { begun = begun; contents = Some contents }) is e) listed

-- ---- the fields of a SEQUENCE
field-then : (context : Context) (item : Here → ItemType → List ℕ → Items) (here : Here) (field : Field) (fields : List Field) (room : ℕ) (octets : List ℕ) (old mid new : Listed) (end : End) →
    begins_as field.of.tags octets ≡ true → Lists context (item (named here (field_path here.name field.name)) field.of octets) old mid ends.Whole
    → Lists context (field_items item (passed here (count_in octets) (number_after field.of octets here.number)) fields (room - count_in octets) (drop (count_in octets) octets)) mid new end
    → Lists context (field_items item here (field ∷ fields) room octets) old new end
field-then context item here field fields room octets old mid new end begin first others = rw begin (lists-then context _ _ old mid new end first others)

field-cut : (context : Context) (item : Here → ItemType → List ℕ → Items) (here : Here) (field : Field) (fields : List Field) (room : ℕ) (octets : List ℕ) (old new : Listed) →
    begins_as field.of.tags octets ≡ true → Lists context (item (named here (field_path here.name field.name)) field.of octets) old new ends.Cut
    → Lists context (field_items item here (field ∷ fields) room octets) old new ends.Cut
field-cut context item here field fields room octets old new begin first = rw begin (lists-cut context _ _ old new first)

-- the first of the fields that are left, and those after it
pub fields-then : (context : Context) (item : Here → ItemType → List ℕ → Items) (fields : List FieldOfCode) (default : FieldOfCode) (count : ℕ) (number : Option ℤ) (here own after : Here) (room after-room : ℕ) (octets after-octets : List ℕ) (old mid new : Listed) (first end : End) →
    1 ≤ length fields → begins_as (get_or fields 0 default).of.tags.now octets ≡ true → own ≡ named here (field_path here.name (get_or fields 0 default).name.now)
    → Lists context (item own (type_of (get_or fields 0 default).of) octets) old mid first → first ≡ ends.Whole
    → count ≡ count_in octets → number ≡ number_after (type_of (get_or fields 0 default).of) octets here.number → after ≡ passed here count number → after-room ≡ room - count → after-octets ≡ drop count octets
    → Lists context (field_items item after (map field_of (take (length fields - 1) (drop 1 fields))) after-room after-octets) mid new end
    → Lists context (field_items item here (map field_of fields) room octets) old new end
fields-then context item [] default count number here own after room after-room octets after-octets old mid new first end some begin own-is listed whole count-is number-is after-is room-is octets-is others = absurd (omega arith)
fields-then context item (field ∷ fields) default count number here own after room after-room octets after-octets old mid new first end some begin own-is listed whole count-is number-is after-is room-is octets-is others =
    field-then context item here (field_of field) (map field_of fields) room octets old mid new end begin
    (lists-at context item (type_of field.of) octets own _ old mid first ends.Whole own-is whole listed)
    (lists-left context (λ here room octets. field_items item here (map field_of fields) room octets) here (number_after (type_of field.of) octets here.number) count octets after room after-room after-octets mid new end count-is (after-is ∙ ap (passed here count) number-is) room-is octets-is
    (subst (λ (left : List FieldOfCode). Lists context (field_items item after (map field_of left) after-room after-octets) mid new end) (take_all (length (field ∷ fields) - 1) fields (omega arith)) others))

pub fields-cut : (context : Context) (item : Here → ItemType → List ℕ → Items) (fields : List FieldOfCode) (default : FieldOfCode) (here own : Here) (room : ℕ) (octets : List ℕ) (old new : Listed) (end : End) →
    1 ≤ length fields → begins_as (get_or fields 0 default).of.tags.now octets ≡ true → own ≡ named here (field_path here.name (get_or fields 0 default).name.now)
    → Lists context (item own (type_of (get_or fields 0 default).of) octets) old new end → end ≡ ends.Cut
    → Lists context (field_items item here (map field_of fields) room octets) old new ends.Cut
fields-cut context item [] default here own room octets old new end some begin own-is listed cut = absurd (omega arith)
fields-cut context item (field ∷ fields) default here own room octets old new end some begin own-is listed cut =
    field-cut context item here (field_of field) (map field_of fields) room octets old new begin (lists-at context item (type_of field.of) octets own _ old new end ends.Cut own-is cut listed)

-- ---- the items of a SEQUENCE OF
-- one item, and those after it
pub element-then : (context : Context) (item : Here → ItemType → List ℕ → Items) (of : ItemType) (bound left index count : ℕ) (here own after : Here) (room after-room : ℕ) (octets after-octets : List ℕ) (old mid new : Listed) (first end : End) →
    bound ≡ suc left → begins_as of.tags octets ≡ true → own ≡ named here (element_path here.name index) → Lists context (item own of octets) old mid first → first ≡ ends.Whole
    → count ≡ count_in octets → after ≡ passed here count here.number → after-room ≡ room - count → after-octets ≡ drop count octets
    → Lists context (element_items item of left (index + 1) after after-room after-octets) mid new end
    → Lists context (element_items item of bound index here room octets) old new end
element-then context item of bound left index count here own after room after-room octets after-octets old mid new first end is begin own-is listed whole count-is after-is room-is octets-is others =
    rw is (rw begin (lists-then context _ _ old mid new end
    (lists-at context item of octets own _ old mid first ends.Whole own-is whole listed)
    (lists-left context (λ here room octets. element_items item of left (index + 1) here room octets) here here.number count octets after room after-room after-octets mid new end count-is after-is room-is octets-is others)))

pub element-cut : (context : Context) (item : Here → ItemType → List ℕ → Items) (of : ItemType) (bound left index : ℕ) (here own : Here) (room : ℕ) (octets : List ℕ) (old new : Listed) (end : End) →
    bound ≡ suc left → begins_as of.tags octets ≡ true → own ≡ named here (element_path here.name index) → Lists context (item own of octets) old new end → end ≡ ends.Cut
    → Lists context (element_items item of bound index here room octets) old new ends.Cut
element-cut context item of bound left index here own room octets old new end is begin own-is listed cut =
    rw is (rw begin (lists-cut context _ _ old new (lists-at context item of octets own _ old new end ends.Cut own-is cut listed)))

-- no item is left
pub element-none : (item : Here → ItemType → List ℕ → Items) (of : ItemType) (bound index : ℕ) (here : Here) (room : ℕ) (octets : List ℕ) → begins_as of.tags octets ≡ false → element_items item of bound index here room octets ≡ ended here room octets
element-none item of zero index here room octets none = refl
element-none item of (suc bound) index here room octets none = rw none refl

pub element-bound : (item : Here → ItemType → List ℕ → Items) (of : ItemType) (bound index : ℕ) (here : Here) (room : ℕ) (octets : List ℕ) → bound ≡ 0 → element_items item of bound index here room octets ≡ ended here room octets
element-bound item of bound index here room octets none = rw none refl

-- ---- a message
first-is : (octet : ℕ) (octets : List ℕ) (first : ℕ) → Some first ≡ slice_get (octet ∷ octets) 0 → first ≡ octet
first-is octet octets first some = cc

pub message-goes : (item : Here → ItemType → List ℕ → Items) (here : Here) (octets : List ℕ) (first : ℕ) (kind : Kind) (own : Here) (name : List ℕ) (of : ItemType) → Some first ≡ slice_get octets 0 → kind_with_tag first ≡ Some kind
    → own ≡ here_at here.layers name here.place here.depth → name ≡ kind_name kind → of ≡ message_of kind → message_items item here octets ≡ item own of octets
message-goes item here [] first kind own name of some tag own-is name-is of-is = absurd cc
message-goes item here (octet ∷ octets) first kind own name of some tag own-is name-is of-is =
    let found : kind_with_tag octet ≡ Some kind = ap kind_with_tag (sym (first-is octet octets first some)) ∙ tag in
    ap (λ (k : Option Kind). kind_items item k here (octet ∷ octets)) found
    ∙ ap (λ (n : List ℕ). item (here_at here.layers n here.place here.depth) (message_of kind) (octet ∷ octets)) (sym name-is)
    ∙ ap (λ (h : Here). item h (message_of kind) (octet ∷ octets)) (sym own-is)
    ∙ ap (λ (o : ItemType). item own o (octet ∷ octets)) (sym of-is)

-- ---- a layer
-- the identifier of a mechanism, and what follows it
pub identified-then : (context : Context) (item : Here → ItemType → List ℕ → Items) (limits : Limits) (here own after : Here) (of : ItemType) (room after-room : ℕ) (octets identifier after-octets : List ℕ) (count : ℕ) (old mid new : Listed) (first end : End) →
    begins_with (octet_of tags.ObjectIdentifier) octets ≡ true → own ≡ named here (field_path here.name (codes "oid")) → of ≡ identifier_type → Lists context (item own of octets) old mid first → first ≡ ends.Whole
    → count ≡ count_in octets → after ≡ passed here count None → identifier ≡ contents_in (tags.ObjectIdentifier ∷ []) octets → after-room ≡ room - count → after-octets ≡ drop count octets
    → Lists context (mechanism_items item limits after identifier after-room after-octets) mid new end → Lists context (identified_items item limits here room octets) old new end
identified-then context item limits here own after of room after-room octets identifier after-octets count old mid new first end begin own-is of-is listed whole count-is after-is identifier-is room-is octets-is others =
    rw begin (lists-then context _ _ old mid new end
    (lists-at context item identifier_type octets own _ old mid first ends.Whole own-is whole (subst (λ (o : ItemType). Lists context (item own o octets) old mid first) of-is listed))
    (lists-left context (λ here room octets-left. mechanism_items item limits here (contents_in (tags.ObjectIdentifier ∷ []) octets) room octets-left) here None count octets after room after-room after-octets mid new end count-is after-is room-is octets-is
    (subst (λ (i : List ℕ). Lists context (mechanism_items item limits after i after-room after-octets) mid new end) identifier-is others)))

-- an item of a type, at a place
pub item-listed : {E : Type 0} (context : Context) (item : Here → ItemType → List ℕ → Items) (here own : Here) (of made : ItemType) (octets : List ℕ) (old new : Listed) (result : Result End E) → own ≡ here → made ≡ of
    → IfOk result (Lists context (item own made octets) old new) → IfOk result (Lists context (item here of octets) old new)
item-listed context item here own of made octets old new result own-is made-is listed =
    subst (λ (h : Here). IfOk result (Lists context (item h of octets) old new)) own-is (subst (λ (o : ItemType). IfOk result (Lists context (item own o octets) old new)) made-is listed)
