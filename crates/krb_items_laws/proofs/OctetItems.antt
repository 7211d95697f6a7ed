-- The items of octets have octets: in their heads, in what is shown of them, and in their paths.
use Rattle.std.proofs.Common.{◌≡◌, ℕ, zero, suc, ◌+◌, ◌-◌, Bool, true, false, ◌==◌, nat_lt, List, [], ◌∷◌, ◌++◌, length, take, drop, codes, bytes_eq, Option, Some, None, IfSome, refl, cond}
use Rattle.std.proofs.lemmas.Bool.{and_parts}
use Rattle.std.specs.List.{AllByRecursion, list_all}
use Rattle.krb_der.specs.Octets.{AreOctets, begins_with, when}
use Rattle.krb_der.specs.inner.Numbers.{AreOctets-drop, AreOctets-take}
use Rattle.krb_der.specs.declared.verdict.Refusal.{Refusal}
use Rattle.krb_msg.specs.Views.{kind_name, kind_with_tag}
use Rattle.krb_msg.specs.declared.message.Kind.{Kind}
use Rattle.krb_msg.specs.declared.message.Kind.TheVariants as kinds
use Rattle.krb_record.specs.Text.{AllAreOctets}
use Rattle.krb_record.proofs.Printable.{Prints, is_printable, join, word}
use Rattle.krb_text_laws.proofs.Printable.{number as number_prints}
use Rattle.krb_source.specs.declared.layer.Layer.TheVariants as layers
use Rattle.krb_token.specs.Gss.{negotiation}
use Rattle.krb_items.specs.Heads.{Begun, Headed, begun_at, contents_in, count_in, head_in, headed, headed_by, octet_of, size_of, with_head, with_octets, with_unknown}
use Rattle.krb_items.specs.Held.{held_name, leaf_after, number_after, opened}
use Rattle.krb_items.specs.Items.{Here, Item, Items, Limits, Part, after_item, all_items, begins_as, begun_here, container, contents_items, cut_in, element_items, ended, field_items, followed_by, frame_by, frame_size, goes_on, gss_in, gss_items, here_at, here_in, hints_items, identified_items, identified_message, is_counted, is_gone_into, item_items, kerberos_items, kerberos_message, kind_items, leaf_items, left_out, mechanism_items, message_items, missing, most_levels, named, not_identified, not_there, of_contents, of_headed, opened_items, passed, right_of, sequence_items, spnego_in_gss, spnego_items, token_in, token_items, token_message, unknown, whole}
use Rattle.krb_items.specs.Names.{element_path, field_path}
use Rattle.krb_items.specs.Reached.{items_as}
use Rattle.krb_items.specs.Shapes.{Field, ItemType, fields_of, held_type, identifier_type, item_of, message_of, neg_name, neg_type, ticket}
use Rattle.krb_items.specs.declared.reaching.Lies.{Lies}
use Rattle.krb_items.specs.declared.reaching.Lies.TheVariants as lies
use Rattle.krb_items.specs.declared.shape.Held.{Held}
use Rattle.krb_items.specs.declared.shape.Held.TheVariants as helds
use Rattle.krb_items.specs.declared.shape.Leaf.{Leaf}
use Rattle.krb_items.specs.declared.shape.Leaf.TheVariants as leaves
use Rattle.krb_items.specs.declared.shape.NegToken.{NegToken}
use Rattle.krb_items.specs.declared.shape.NegToken.TheVariants as negs
use Rattle.krb_items.specs.declared.shape.Sequence.{Sequence}
use Rattle.krb_items.specs.declared.shape.Sequence.TheVariants as sequences
use Rattle.krb_items.specs.declared.shape.Shape.{Shape}
use Rattle.krb_items.specs.declared.shape.Shape.TheVariants as shapes
use Rattle.krb_items.specs.declared.tag.Tag.{Tag}
use Rattle.krb_items.specs.declared.tag.Tag.TheVariants as tags

-- ---- what is of octets
abbrev pub ShownOctets : Option (Leaf × List ℕ) → Type 0
ShownOctets None = Unit {0}
ShownOctets (Some shown) = AreOctets shown.1

pub record IsPlain (item : Item) : Type 0 where
  pub name : Prints item.name
  pub heads : AllAreOctets item.begun.heads
  pub shown : ShownOctets item.shown

abbrev pub NamePrints : Option (List ℕ) → Type 0
NamePrints None = Unit {0}
NamePrints (Some name) = Prints name

pub record IsPlainPart (part : Part) : Type 0 where
  pub name : NamePrints part.name
  pub heads : AllAreOctets part.begun.heads

abbrev pub CutPlain : Option Part → Type 0
CutPlain None = Unit {0}
CutPlain (Some part) = IsPlainPart part

pub record ArePlain (items : Items) : Type 0 where
  pub items_plain : AllByRecursion IsPlain items.items
  pub cut_plain : CutPlain items.cut

all-append : (items others : List Item) → AllByRecursion IsPlain items → AllByRecursion IsPlain others → AllByRecursion IsPlain (items ++ others)
all-append [] others a b = b
all-append (item ∷ items) others a b = (a.0, all-append items others a.1 b)

lists-append : (lists others : List (List ℕ)) → AllAreOctets lists → AllAreOctets others → AllAreOctets (lists ++ others)
lists-append [] others a b = b
lists-append (list ∷ lists) others a b = (a.0, lists-append lists others a.1 b)

nothing : ArePlain (whole [])
nothing = record { items_plain = tt; cut_plain = tt }

plain-cut : (name : Option (List ℕ)) (begun : Begun) (counted : Bool) → NamePrints name → AllAreOctets begun.heads → ArePlain (cut_in name begun counted)
plain-cut name begun counted n h = record { items_plain = tt; cut_plain = record { name = n; heads = h } }

plain-after : (item : Item) (others : Items) → IsPlain item → ArePlain others → ArePlain (after_item item others)
plain-after item others i o = record { items_plain = (i, o.items_plain); cut_plain = o.cut_plain }

goes-on : (items : List Item) (cut : Option Part) (next : Unit {0} → Items) → AllByRecursion IsPlain items → CutPlain cut → ArePlain (next tt) → ArePlain (goes_on items cut next)
goes-on items None next a c n = record { items_plain = all-append items (next tt).items a n.items_plain; cut_plain = n.cut_plain }
goes-on items (Some part) next a c n = record { items_plain = a; cut_plain = c }

plain-then : (first : Items) (next : Unit {0} → Items) → ArePlain first → ArePlain (next tt) → ArePlain (followed_by first next)
plain-then first next f n = goes-on first.items first.cut next f.items_plain f.cut_plain n

plain-when : (b : Bool) (chosen other : Unit {0} → Items) → ArePlain (chosen tt) → ArePlain (other tt) → ArePlain (when b chosen other)
plain-when true chosen other c o = c
plain-when false chosen other c o = o

plain-if : (b : Bool) (chosen other : Items) → ArePlain chosen → ArePlain other → ArePlain (cond b chosen other)
plain-if true chosen other c o = c
plain-if false chosen other c o = o

-- ---- heads
pub record HeadsPlain (h : Headed) : Type 0 where
  pub heads : AllAreOctets h.begun.heads
  pub contents : IfSome h.contents AreOctets

heads-when : (b : Bool) (chosen other : Unit {0} → Headed) → HeadsPlain (chosen tt) → HeadsPlain (other tt) → HeadsPlain (when b chosen other)
heads-when true chosen other c o = c
heads-when false chosen other c o = o

one-more : (begun : Begun) (octets : List ℕ) → AllAreOctets begun.heads → AreOctets octets → AllAreOctets (begun.heads ++ octets ∷ [])
one-more begun octets h a = lists-append begun.heads (octets ∷ []) h (a, tt)

unknown-heads : (begun : Begun) (octets : List ℕ) → AllAreOctets begun.heads → AreOctets octets → AllAreOctets (with_unknown begun octets).heads
unknown-heads begun [] h a = h
unknown-heads begun (octet ∷ octets) h a = one-more begun (octet ∷ []) h (a.0, tt)

heads-by : (limit : ℕ) (begun : Begun) (tag : Tag) (octets other : List ℕ) (next : Begun → List ℕ → Headed) → AllAreOctets begun.heads → AreOctets octets → ((begun : Begun) (octets : List ℕ) → AllAreOctets begun.heads → AreOctets octets → HeadsPlain (next begun octets))
    → HeadsPlain (headed_by limit begun tag octets (head_in other) next)
heads-by limit begun tag octets other next h a then =
    elim (head_in other) as (λ found. HeadsPlain (headed_by limit begun tag octets found next)) [
      | None ↦ record { heads = one-more begun octets h a; contents = tt }
      | Some head ↦
          let taken : AllAreOctets (begun.heads ++ take head.header octets ∷ []) = one-more begun (take head.header octets) h (AreOctets-take head.header octets a) in
          heads-when (nat_lt limit (begun.next + length (take head.header octets))) _ _ (record { heads = taken; contents = tt })
          (then (with_head begun tag (take head.header octets) (Some head.size)) (take head.size (drop head.header octets)) taken (AreOctets-take head.size (drop head.header octets) (AreOctets-drop head.header octets a)))
    ]

heads-plain : (limit : ℕ) (begun : Begun) (wanted : List Tag) (octets : List ℕ) → AllAreOctets begun.heads → AreOctets octets → HeadsPlain (headed limit begun wanted octets)
heads-plain limit begun [] octets h a = record { heads = h; contents = a }
heads-plain limit begun (tag ∷ wanted) octets h a =
    heads-when (begins_with (octet_of tag) octets) _ _
    (heads-by limit begun tag octets octets (λ next rest. headed limit next wanted rest) h a (λ next rest h a. heads-plain limit next wanted rest h a))
    (record { heads = unknown-heads begun octets h a; contents = tt })

of-contents : (name : List ℕ) (begun : Begun) (found : Option (List ℕ)) (next : Begun → List ℕ → Items) → Prints name → AllAreOctets begun.heads → IfSome found AreOctets → ((octets : List ℕ) → AreOctets octets → ArePlain (next begun octets)) → ArePlain (of_contents name begun found next)
of-contents name begun None next n h a then = plain-cut (Some name) begun false n h
of-contents name begun (Some octets) next n h a then = then octets a

of-headed : (name : List ℕ) (h : Headed) (next : Begun → List ℕ → Items) → Prints name → HeadsPlain h → ((begun : Begun) (octets : List ℕ) → AllAreOctets begun.heads → AreOctets octets → ArePlain (next begun octets)) → ArePlain (of_headed name h next)
of-headed name h next n p then = of-contents name h.begun h.contents next n p.heads p.contents (λ octets a. then h.begun octets p.heads a)

-- ---- names
field-prints : (path name : List ℕ) → Prints path → Prints name → Prints (field_path path name)
field-prints path name p n = join (join p (word (codes ".") refl)) n

element-prints : (path : List ℕ) (index : ℕ) → Prints path → Prints (element_path path index)
element-prints path index p = join (join (join p (word (codes "[") refl)) (number_prints index)) (word (codes "]") refl)

held-prints : (held : Held) → Prints (held_name held)
unfolding held_name
held-prints held = word (held_name held) (printable held)
  where
    printable : (held : Held) → list_all is_printable (held_name held) ≡ true
    printable helds.TgsReq = refl
    printable other = refl

kind-prints : (kind : Kind) → Prints (kind_name kind)
kind-prints kind = word (kind_name kind) (printable kind)
  where
    printable : (kind : Kind) → list_all is_printable (kind_name kind) ≡ true
    printable kinds.AsReq = refl
    printable other = refl

neg-prints : (neg : NegToken) → Prints (neg_name neg)
neg-prints negs.Init = word (codes "mechToken") refl
neg-prints negs.Response = word (codes "responseToken") refl

abbrev are_named : List Field → Bool
are_named fields = list_all (λ field. list_all is_printable field.name) fields

fields-named : (sequence : Sequence) → are_named (fields_of sequence) ≡ true
fields-named sequences.Ticket = refl
fields-named other = refl

-- ---- what is not there
unknown-plain : (name : Option (List ℕ)) (here : Here) (octets : List ℕ) → NamePrints name → AreOctets octets → ArePlain (unknown name here octets)
unknown-plain name here octets n a = plain-cut name (with_unknown (begun_here here) octets) false n (unknown-heads (begun_here here) octets tt a)

ended-plain : (here : Here) (room : ℕ) (octets : List ℕ) → Prints here.name → AreOctets octets → ArePlain (ended here room octets)
ended-plain here zero octets n a = nothing
ended-plain here (suc room) octets n a = unknown-plain (Some here.name) here octets n a

missing-plain : (here : Here) (name : List ℕ) → Prints here.name → Prints name → ArePlain (missing here name)
missing-plain here name h n = plain-cut (Some (field_path here.name name)) (begun_here here) false (field-prints here.name name h n) tt

not-there : (field : Field) (here : Here) (room : ℕ) (octets : List ℕ) (next : Unit {0} → Items) → Prints here.name → Prints field.name → AreOctets octets → ArePlain (next tt) → ArePlain (not_there field here room octets next)
not-there field here zero octets next h n a then = plain-if field.required (missing here field.name) (next tt) (missing-plain here field.name h n) then
not-there field here (suc room) [] next h n a then = ended-plain here (suc room) [] h tt
not-there field here (suc room) (octet ∷ octets) next h n a then = plain-if field.required (ended here (suc room) (octet ∷ octets)) (next tt) (ended-plain here (suc room) (octet ∷ octets) h a) then

-- ---- items, by the items of one
abbrev pub Plains : (Here → ItemType → List ℕ → Items) → Type 0
Plains item = (here : Here) (of : ItemType) (octets : List ℕ) → Prints here.name → AreOctets octets → ArePlain (item here of octets)

module _ (item : Here → ItemType → List ℕ → Items) (plains : Plains item) where
  opened-plain : (name : List ℕ) (begun : Begun) (leaf : Leaf) (octets : List ℕ) (found : Option Held) → Prints name → AllAreOctets begun.heads → AreOctets octets → ArePlain (opened_items item name begun leaf octets found)
  opened-plain name begun leaf octets None n h a = record { items_plain = (record { name = n; heads = h; shown = a }, tt); cut_plain = tt }
  opened-plain name begun leaf octets (Some held) n h a =
      plain-after (record { name = name; begun = begun; shown = Some (leaves.Opened, octets) }) _ (record { name = n; heads = h; shown = a })
      (plains (here_in (field_path name (held_name held)) begun) (held_type held) octets (field-prints name (held_name held) n (held-prints held)) a)

  leaf-plain : (limits : Limits) (here : Here) (begun : Begun) (leaf : Leaf) (octets : List ℕ) → Prints here.name → AllAreOctets begun.heads → AreOctets octets → ArePlain (leaf_items item limits here begun leaf octets)
  leaf-plain limits here begun leaf octets n h a =
      plain-if (nat_lt limits.limit (begun.next + size_of begun.size)) _ _ (plain-cut (Some here.name) begun (is_counted (leaf_after here.number leaf)) n h)
      (opened-plain here.name begun (leaf_after here.number leaf) octets (opened here.number leaf octets) n h a)

  container-plain : (name : List ℕ) (begun : Begun) (others : Items) → Prints name → AllAreOctets begun.heads → ArePlain others → ArePlain (after_item (container name begun) others)
  container-plain name begun others n h o = plain-after (container name begun) others (record { name = n; heads = h; shown = tt }) o

  fields-plain : (here : Here) (fields : List Field) (room : ℕ) (octets : List ℕ) → are_named fields ≡ true → Prints here.name → AreOctets octets → ArePlain (field_items item here fields room octets)
  fields-plain here [] room octets f n a = ended-plain here room octets n a
  fields-plain here (field ∷ fields) room octets f n a =
      let names = and_parts (list_all is_printable field.name) (are_named fields) f in
      plain-when (begins_as field.of.tags octets) _ _
      (plain-then (item (named here (field_path here.name field.name)) field.of octets) _ (plains (named here (field_path here.name field.name)) field.of octets (field-prints here.name field.name n (word field.name names.0)) a)
      (fields-plain (passed here (count_in octets) (number_after field.of octets here.number)) fields (room - count_in octets) (drop (count_in octets) octets) names.1 n (AreOctets-drop (count_in octets) octets a)))
      (not-there field here room octets (λ _. field_items item here fields room octets) n (word field.name names.0) a (fields-plain here fields room octets names.1 n a))

  elements-plain : (of : ItemType) (bound index : ℕ) (here : Here) (room : ℕ) (octets : List ℕ) → Prints here.name → AreOctets octets → ArePlain (element_items item of bound index here room octets)
  elements-plain of zero index here room octets n a = ended-plain here room octets n a
  elements-plain of (suc bound) index here room octets n a =
      plain-when (begins_as of.tags octets) _ _
      (plain-then (item (named here (element_path here.name index)) of octets) _ (plains (named here (element_path here.name index)) of octets (element-prints here.name index n) a)
      (elements-plain of bound (index + 1) (passed here (count_in octets) here.number) (room - count_in octets) (drop (count_in octets) octets) n (AreOctets-drop (count_in octets) octets a)))
      (ended-plain here room octets n a)

  kind-plain : (found : Option Kind) (here : Here) (octets : List ℕ) → AreOctets octets → ArePlain (kind_items item found here octets)
  kind-plain None here octets a = unknown-plain None here octets tt a
  kind-plain (Some kind) here octets a = plains (here_at here.layers (kind_name kind) here.place here.depth) (message_of kind) octets (kind-prints kind) a

  pub message-plain : (here : Here) (octets : List ℕ) → AreOctets octets → ArePlain (message_items item here octets)
  message-plain here [] a = unknown-plain None here [] tt a
  message-plain here (tag ∷ octets) a = kind-plain (kind_with_tag tag) here (tag ∷ octets) a

  -- ---- tokens
  token-message : (limits : Limits) (name : Option (List ℕ)) (here : Here) (octets : List ℕ) → NamePrints name → AreOctets octets → ArePlain (token_message item limits name here octets)
  token-message limits name here octets n a = plain-if (nat_lt here.place limits.limit) _ _ (message-plain here octets a) (unknown-plain name here octets n a)

  kerberos-message : (limits : Limits) (here : Here) (room : ℕ) (octets : List ℕ) → Prints here.name → AreOctets octets → ArePlain (kerberos_message item limits here room octets)
  kerberos-message limits here zero octets n a = missing-plain here (codes "message") n (word (codes "message") refl)
  kerberos-message limits here (suc room) [] n a = unknown-plain (Some here.name) here [] n a
  kerberos-message limits here (suc room) (octet ∷ octets) n a = token-message limits None here (octet ∷ octets) tt a

  identified-message : (limits : Limits) (here : Here) (room : ℕ) (octets : List ℕ) → Prints here.name → AreOctets octets → ArePlain (identified_message item limits here room octets)
  identified-message limits here room octets n a =
      plain-if (nat_lt (right_of limits here octets) 2) _ _ (missing-plain here (codes "token-id") n (word (codes "token-id") refl))
      (plain-after (record { name = field_path here.name (codes "token-id"); begun = with_octets (begun_here here) tags.Octets 2; shown = Some (leaves.Octets, take 2 octets) }) _
      (record { name = field-prints here.name (codes "token-id") n (word (codes "token-id") refl); heads = tt; shown = AreOctets-take 2 octets a })
      (kerberos-message limits (passed here 2 None) (room - 2) (drop 2 octets) n (AreOctets-drop 2 octets a)))

  kerberos-plain : (limits : Limits) (here : Here) (room : ℕ) (octets : List ℕ) → Prints here.name → AreOctets octets → ArePlain (kerberos_items item limits here room octets)
  kerberos-plain limits here zero octets n a = identified-message limits here zero octets n a
  kerberos-plain limits here (suc room) [] n a = unknown-plain (Some here.name) here [] n a
  kerberos-plain limits here (suc room) (octet ∷ octets) n a = identified-message limits here (suc room) (octet ∷ octets) n a

  left-out : (fault : Option Refusal) (neg : NegToken) (here : Here) → Prints here.name → ArePlain (left_out fault neg here)
  left-out None neg here n = nothing
  left-out (Some refusal) neg here n = missing-plain here (neg_name neg) n (neg-prints neg)

  pub spnego-plain : (limits : Limits) (neg : NegToken) (here : Here) (octets : List ℕ) → Prints here.name → AreOctets octets → ArePlain (spnego_items item limits neg here octets)
  spnego-plain limits neg here octets n a =
      plain-then (item here (neg_type neg) octets) _ (plains here (neg_type neg) octets n a) (left-out limits.fault neg (here_at here.layers here.name (here.place + count_in octets) (here.depth + 1)) n)

  spnego-in-gss : (limits : Limits) (here : Here) (room : ℕ) (octets : List ℕ) → Prints here.name → AreOctets octets → ArePlain (spnego_in_gss item limits here room octets)
  spnego-in-gss limits here zero octets n a = plain-cut (Some (codes "SPNEGO")) (begun_here here) false (word (codes "SPNEGO") refl) tt
  spnego-in-gss limits here (suc room) [] n a = unknown-plain (Some here.name) here [] n a
  spnego-in-gss limits here (suc room) (octet ∷ octets) n a =
      plain-if (nat_lt here.place limits.limit) _ _
      (spnego-plain limits negs.Init (here_at (layers.Gss ∷ layers.Spnego ∷ []) (codes "SPNEGO") here.place here.depth) (octet ∷ octets) (word (codes "SPNEGO") refl) a)
      (unknown-plain None (here_at (layers.Gss ∷ layers.Spnego ∷ []) (codes "SPNEGO") here.place here.depth) (octet ∷ octets) tt a)

  mechanism-plain : (limits : Limits) (here : Here) (identifier : List ℕ) (room : ℕ) (octets : List ℕ) → Prints here.name → AreOctets octets → ArePlain (mechanism_items item limits here identifier room octets)
  mechanism-plain limits here identifier room octets n a = plain-when (bytes_eq identifier negotiation) _ _ (spnego-in-gss limits here room octets n a) (kerberos-plain limits here room octets n a)

  not-identified : (here : Here) (room : ℕ) (octets : List ℕ) → Prints here.name → AreOctets octets → ArePlain (not_identified here room octets)
  not-identified here zero octets n a = missing-plain here (codes "oid") n (word (codes "oid") refl)
  not-identified here (suc room) octets n a = unknown-plain (Some here.name) here octets n a

  identified-plain : (limits : Limits) (here : Here) (room : ℕ) (octets : List ℕ) → Prints here.name → AreOctets octets → ArePlain (identified_items item limits here room octets)
  identified-plain limits here room octets n a =
      plain-when (begins_with (octet_of tags.ObjectIdentifier) octets) _ _
      (plain-then (item (named here (field_path here.name (codes "oid"))) identifier_type octets) _ (plains (named here (field_path here.name (codes "oid"))) identifier_type octets (field-prints here.name (codes "oid") n (word (codes "oid") refl)) a)
      (mechanism-plain limits (passed here (count_in octets) None) (contents_in (tags.ObjectIdentifier ∷ []) octets) (room - count_in octets) (drop (count_in octets) octets) n (AreOctets-drop (count_in octets) octets a)))
      (not-identified here room octets n a)

  pub gss-plain : (limits : Limits) (here : Here) (octets : List ℕ) → Prints here.name → AreOctets octets → ArePlain (gss_items item limits here octets)
  gss-plain limits here octets n a =
      of-headed here.name (headed limits.limit (begun_here here) (tags.Application 0 ∷ []) octets) _ n (heads-plain limits.limit (begun_here here) (tags.Application 0 ∷ []) octets tt a)
      (λ begun inner h b. container-plain here.name begun (identified_items item limits (here_in here.name begun) (size_of begun.size) inner) n h (identified-plain limits (here_in here.name begun) (size_of begun.size) inner n b))

  token-in : (limits : Limits) (here : Here) (octets : List ℕ) → Prints here.name → AreOctets octets → ArePlain (token_in item limits here octets)
  token-in limits here [] n a = unknown-plain (Some here.name) here [] n a
  token-in limits here (tag ∷ octets) n a =
      plain-when (tag == 0x60) _ _ (gss-plain limits (here_at (gss_in here.layers) (codes "GSS") here.place here.depth) (tag ∷ octets) (word (codes "GSS") refl) a)
      (token-message limits (Some here.name) here (tag ∷ octets) n a)

  token-plain : (limits : Limits) (here : Here) (begun : Begun) (octets : List ℕ) → Prints here.name → AllAreOctets begun.heads → AreOctets octets → ArePlain (token_items item limits here begun octets)
  token-plain limits here begun octets n h a =
      plain-when (is_gone_into limits.fault begun.next (size_of begun.size) octets) _ _
      (plain-after (record { name = here.name; begun = begun; shown = Some (leaves.Counted (size_of begun.size), []) }) _ (record { name = n; heads = h; shown = tt }) (token-in limits (here_in here.name begun) octets n a))
      (leaf-plain limits here begun leaves.Hidden octets n h a)

  sequence-plain : (here : Here) (sequence : Sequence) (begun : Begun) (octets : List ℕ) → Prints here.name → AllAreOctets begun.heads → AreOctets octets → ArePlain (sequence_items item here sequence begun octets)
  sequence-plain here sequence begun octets n h a = container-plain here.name begun _ n h (fields-plain (here_in here.name begun) (fields_of sequence) (size_of begun.size) octets (fields-named sequence) n a)

  hints-plain : (limits : Limits) (here : Here) (begun : Begun) (octets : List ℕ) → Prints here.name → AllAreOctets begun.heads → AreOctets octets → ArePlain (hints_items item limits here begun octets)
  hints-plain limits here begun octets n h a =
      plain-when (begins_with (octet_of tags.Sequence) octets) _ _
      (of-headed here.name (headed limits.limit begun (tags.Sequence ∷ []) octets) _ n (heads-plain limits.limit begun (tags.Sequence ∷ []) octets h a) (λ begun inner h b. sequence-plain here sequences.NegHints begun inner n h b))
      (of-headed here.name (headed limits.limit begun (tags.OctetString ∷ []) octets) _ n (heads-plain limits.limit begun (tags.OctetString ∷ []) octets h a) (λ begun inner h b. leaf-plain limits here begun leaves.Hidden inner n h b))

  pub contents-plain : (limits : Limits) (here : Here) (shape : Shape) (begun : Begun) (octets : List ℕ) → Prints here.name → AllAreOctets begun.heads → AreOctets octets → ArePlain (contents_items item limits here shape begun octets)
  contents-plain limits here (shapes.Leaf leaf) begun octets n h a = leaf-plain limits here begun leaf octets n h a
  contents-plain limits here shapes.Token begun octets n h a = token-plain limits here begun octets n h a
  contents-plain limits here shapes.Hints begun octets n h a = hints-plain limits here begun octets n h a
  contents-plain limits here (shapes.Sequence sequence) begun octets n h a = sequence-plain here sequence begun octets n h a
  contents-plain limits here (shapes.List list) begun octets n h a =
      container-plain here.name begun _ n h (elements-plain (item_of list) (length octets) 0 (here_in here.name begun) (size_of begun.size) octets n a)

-- ---- all
pub item-plain : (levels : ℕ) (limits : Limits) → Plains (item_items levels limits)
item-plain zero limits = λ here of octets n a. nothing
item-plain (suc levels) limits = λ here of octets n a.
    of-headed here.name (headed limits.limit (begun_here here) of.tags octets) _ n (heads-plain limits.limit (begun_here here) of.tags octets tt a)
    (λ begun inner h b. contents-plain (item_items levels limits) (item-plain levels limits) limits here of.shape begun inner n h b)

all-plain : (limits : Limits) → Plains (all_items limits)
all-plain limits = item-plain most_levels limits

frame-plain : (limits : Limits) (begun : Begun) (size : Option ℕ) (octets : List ℕ) → AllAreOctets begun.heads → AreOctets octets → ArePlain (frame_by limits begun size octets)
frame-plain limits begun None octets h a = plain-cut None begun false tt h
frame-plain limits begun (Some size) octets h a =
    plain-if (nat_lt limits.limit begun.next) _ _ (plain-cut None begun false tt h)
    (plain-after (container (codes "frame") begun) _ (record { name = word (codes "frame") refl; heads = h; shown = tt })
    (message-plain (all_items limits) (all-plain limits) (here_at (layers.Frame ∷ []) [] 4 1) (drop 4 octets) (AreOctets-drop 4 octets a)))

-- the items of octets, whatever they are
pub items-plain : (lies : Lies) (limits : Limits) (octets : List ℕ) → AreOctets octets → ArePlain (items_as lies limits octets)
items-plain lies.Alone limits octets a = message-plain (all_items limits) (all-plain limits) (here_at [] [] 0 0) octets a
items-plain lies.Ticket limits octets a = all-plain limits (here_at [] (codes "Ticket") 0 0) ticket octets (word (codes "Ticket") refl) a
items-plain lies.Framed limits octets a = frame-plain limits (with_head (begun_at (layers.Frame ∷ []) 0 0) tags.Frame (take 4 octets) (frame_size octets)) (frame_size octets) octets (AreOctets-take 4 octets a, tt) a
items-plain lies.Gss limits octets a = gss-plain (all_items limits) (all-plain limits) limits (here_at (layers.Gss ∷ []) (codes "GSS") 0 0) octets (word (codes "GSS") refl) a
items-plain (lies.Spnego neg) limits octets a = spnego-plain (all_items limits) (all-plain limits) limits neg (here_at (layers.Spnego ∷ []) (codes "SPNEGO") 0 0) octets (word (codes "SPNEGO") refl) a
