-- The fields of a SEQUENCE as they are read of a part, and as X.690 has them.
use Rattle.std.proofs.Common.{◌≡◌, ℕ, zero, suc, ◌+◌, ◌-◌, ◌^◌, ◌<◌, ◌≤◌, ◌⊎◌, inl, inr, ◌==◌, if◌then◌else◌, Bool, true, false, List, [], ◌∷◌, ◌++◌, length, Option, Some, None, Result, Ok, Err, refl, sym, ◌∙◌, ap, subst, arith, length-append, append-nil}
use Rattle.std.specs.List.{flat_map, AllByRecursion}
use Rattle.std.proofs.lemmas.Bool.{cases_Bool, eq-eqb, ne_eqb}
use Rattle.std.proofs.lemmas.List.{nil_from_length}
use Rattle.krb_der.specs.Octets.{AreOctets, item, begins_with}
use Rattle.krb_der.specs.inner.Items.{length-item}
use Rattle.krb_der.specs.inner.Numbers.{when-true, when-false}
use Rattle.krb_der.specs.declared.verdict.Refusal.{Refusal}
use Rattle.krb_der.specs.declared.why.Why.TheVariants as why
use Rattle.krb_laws.proofs.TokenContents.{AreJudged, contents_form, contents_back}
use Rattle.krb_laws.proofs.TokenItems.{IsRead, entered_item, entered_back, octets_of_contents, small_contents, placed, begins_alone, alone_back}
use Rattle.krb_token.proofs.Walks.{field_absent, field_read}
use Rattle.krb_token.specs.Items.{Item, entered, judged, refusal_in, simple_contents, simple_has_size, simple_item, simple_items, simple_tag}
use Rattle.krb_token.specs.Opened.{Part, Fault, and_then, fault_in}
use Rattle.krb_judge.specs.Paths.{element_path}
use Rattle.krb_token.specs.Spnego.{Holds, Fields, One, Many, Token, OctetsOr, End, Field, held, fields_read, ended}
use Rattle.krb_laws.specs.Opened.{IsItem, BeginsWithItem, IsContents, IsOne, IsHeld, AreFields}
use Rattle.krb_token.specs.declared.simple.Simple.{Simple}
use Rattle.krb_token.specs.declared.simple.Simple.TheVariants as simple

-- ---- what was read, if nothing was at fault
pub record IsThen {A B : Type 0} (read : Result A Fault) (next : A → Result B Fault) (found : B) : Type 0 where
  pub first : A
  pub read_first : read ≡ Ok first
  pub read_next : next first ≡ Ok found

pub then_back : {A B : Type 0} (read : Result A Fault) (next : A → Result B Fault) (found : B) → and_then read next ≡ Ok found → IsThen read next found
then_back (Ok first) next found e = record { first = first; read_first = refl; read_next = e }
then_back (Err fault) next found e = absurd cc

-- ---- octets of items
begins : (tag : ℕ) (octets contents rest : List ℕ) → octets ≡ item tag contents ++ rest → begins_with tag octets ≡ true
begins tag octets contents rest e = rw e (eq-eqb tag tag refl)

begins_otherwise : (tag other : ℕ) (octets contents rest : List ℕ) → octets ≡ item other contents ++ rest → (other ≡ tag → ⊥) → begins_with tag octets ≡ false
begins_otherwise tag other octets contents rest e d = rw e (ne_eqb other tag d)

-- ---- simple types
pub simple_form : (type : Simple) (path : List ℕ) (sole : Bool) (part contents rest : Part) → BeginsWithItem (simple_tag type) part contents rest → AreJudged type contents.octets → length part.octets < 2 ^ 32 → (sole ≡ true → rest.octets ≡ []) →
    simple_item type path sole part ≡ Ok (record { contents = contents; rest = rest })
simple_form type path sole part contents rest is has small fill = rw (entered_item path (simple_tag type) sole part contents rest is small fill, has.has_size, has.unrefused) refl

pub record IsSimple (type : Simple) (sole : Bool) (part : Part) (found : Item) : Type 0 where
  pub read : IsRead (simple_tag type) sole part found
  pub has : IsContents type found.contents.octets

pub simple_back : (type : Simple) (path : List ℕ) (sole : Bool) (part : Part) (found : Item) → AreOctets part.octets → simple_item type path sole part ≡ Ok found → IsSimple type sole part found
simple_back type path sole part found a e =
    let b = then_back (entered path (simple_tag type) sole part) (λ item. if simple_has_size type (length item.contents.octets) then judged path item (refusal_in (simple_contents type item.contents.octets)) else Err (fault_in path (item.contents.place - 1) why.Size)) found e in
    sized b.first (entered_back path (simple_tag type) sole part b.first a b.read_first) b.read_next (cases_Bool (simple_has_size type (length b.first.contents.octets)))
  where
    unrefused : (first : Item) (refusal : Option Refusal) → IsRead (simple_tag type) sole part first → simple_has_size type (length first.contents.octets) ≡ true → refusal_in (simple_contents type first.contents.octets) ≡ refusal → judged path first refusal ≡ Ok found → IsSimple type sole part found
    unrefused first None is size r e = let f : first ≡ found = cc in subst (IsSimple type sole part) f (record { read = is; has = contents_back type first.contents.octets (record { has_size = size; unrefused = r }) })
    unrefused first (Some refusal) is size r e = absurd cc

    sized : (first : Item) → IsRead (simple_tag type) sole part first → (if simple_has_size type (length first.contents.octets) then judged path first (refusal_in (simple_contents type first.contents.octets)) else Err (fault_in path (first.contents.place - 1) why.Size)) ≡ Ok found → (simple_has_size type (length first.contents.octets) ≡ true) ⊎ (simple_has_size type (length first.contents.octets) ≡ false) → IsSimple type sole part found
    sized first is e (inl t) = unrefused first (refusal_in (simple_contents type first.contents.octets)) is t refl (rw t at e)
    sized first is e (inr t) = let f : Err (fault_in path (first.contents.place - 1) why.Size) ≡ Ok found = rw t at e in absurd cc

-- a part that is one value
one_form : (type : Simple) (path : List ℕ) (part : Part) → IsOne type part.octets → length part.octets < 2 ^ 32 → (it : Item) × (simple_item type path true part ≡ Ok it)
one_form type path part is small = (_, simple_form type path true part _ _ (placed (simple_tag type) part is.0 [] (is.1 ∙ sym (append-nil (item (simple_tag type) is.0)))) (contents_form type is.0 is.2) small (λ t. refl))

one_back : (type : Simple) (part : Part) (found : Item) → IsSimple type true part found → IsOne type part.octets
one_back type part found is = (found.contents.octets, (alone_back (simple_tag type) part found is.read).form, is.has)

-- ---- a SEQUENCE OF
items_step : (type : Simple) (path : List ℕ) (bound index : ℕ) (part : Part) (octets : List ℕ) → begins_with (simple_tag type) octets ≡ true →
    simple_items type path (suc bound) index part octets ≡ and_then (simple_item type (element_path path index) false part) (λ item. simple_items type path bound (index + 1) item.rest item.rest.octets)
items_step type path bound index part [] t = absurd cc
items_step type path bound index part (octet ∷ octets) t = rw t refl

many_form : (type : Simple) (path : List ℕ) (bound index : ℕ) (part : Part) (items : List (List ℕ)) → part.octets ≡ flat_map (item (simple_tag type)) items → AllByRecursion (IsContents type) items → length part.octets < 2 ^ 32 → length part.octets ≤ bound →
    simple_items type path bound index part part.octets ≡ Ok tt
many_form type path bound index part [] e all small fits = rw e refl
many_form type path zero index part (first ∷ items) e all small fits = absurd (omega (arith, ap length e, length-append (item (simple_tag type) first) (flat_map (item (simple_tag type)) items), length-item (simple_tag type) first))
many_form type path (suc bound) index part (first ∷ items) e all small fits =
    let rest : List ℕ = flat_map (item (simple_tag type)) items in
    let l : length part.octets ≡ length (item (simple_tag type) first) + length rest = ap length e ∙ length-append (item (simple_tag type) first) rest in
    let is = placed (simple_tag type) part first rest e in
    items_step type path bound index part part.octets (begins (simple_tag type) part.octets first rest e)
    ∙ ap (λ read. and_then read (λ item. simple_items type path bound (index + 1) item.rest item.rest.octets)) (simple_form type (element_path path index) false part _ _ is (contents_form type first all.0) small (λ t. absurd cc))
    ∙ many_form type path bound (index + 1) _ items refl all.1 (omega (arith, l)) (omega (arith, l, length-item (simple_tag type) first))

-- the items that are left of a SEQUENCE OF
abbrev Items : Simple → List ℕ → Type 0
Items type octets = (items : List (List ℕ)) × (octets ≡ flat_map (item (simple_tag type)) items) × AllByRecursion (IsContents type) items

many_first : (type : Simple) (path : List ℕ) (bound index : ℕ) (part : Part) → AreOctets part.octets → simple_items type path (suc bound) index part part.octets ≡ Ok tt →
    (part.octets ≡ []) ⊎ ((first : Item) × IsSimple type false part first × (simple_items type path bound (index + 1) first.rest first.rest.octets ≡ Ok tt))
many_first type path bound index part a e = go part.octets refl e
  where
    go : (octets : List ℕ) → part.octets ≡ octets → simple_items type path (suc bound) index part octets ≡ Ok tt → (part.octets ≡ []) ⊎ ((first : Item) × IsSimple type false part first × (simple_items type path bound (index + 1) first.rest first.rest.octets ≡ Ok tt))
    go [] same e = inl same
    go (octet ∷ octets) same e = tagged (cases_Bool (octet == simple_tag type))
      where
        tagged : ((octet == simple_tag type) ≡ true) ⊎ ((octet == simple_tag type) ≡ false) → (part.octets ≡ []) ⊎ ((first : Item) × IsSimple type false part first × (simple_items type path bound (index + 1) first.rest first.rest.octets ≡ Ok tt))
        tagged (inl t) =
            let f = then_back (simple_item type (element_path path index) false part) (λ found. simple_items type path bound (index + 1) found.rest found.rest.octets) tt (rw t at e) in
            inr (f.first, simple_back type (element_path path index) false part f.first a f.read_first, f.read_next)
        tagged (inr t) = let f : Err (fault_in path part.place why.Tag) ≡ Ok tt = rw t at e in absurd cc

shorter_rest : (tag : ℕ) (part contents rest : Part) → BeginsWithItem tag part contents rest → length rest.octets < length part.octets
shorter_rest tag part contents rest is = omega (arith, ap length is.form, length-append (item tag contents.octets) rest.octets, length-item tag contents.octets)

many_back : (type : Simple) (path : List ℕ) (bound index : ℕ) (part : Part) → AreOctets part.octets → length part.octets ≤ bound → simple_items type path bound index part part.octets ≡ Ok tt → Items type part.octets
many_back type path zero index part a fits e = ([], nil_from_length part.octets (omega arith), tt)
many_back type path (suc bound) index part a fits e =
    elim (many_first type path bound index part a e) [
      | inl none ↦ ([], none, tt)
      | inr more ↦
          let begins : BeginsWithItem (simple_tag type) part more.0.contents more.0.rest = more.1.read.begins in
          let rest : Items type more.0.rest.octets = many_back type path bound (index + 1) more.0.rest (octets_of_contents (simple_tag type) part more.0.contents more.0.rest begins a).1 (omega (arith, shorter_rest (simple_tag type) part more.0.contents more.0.rest begins)) more.2 in
          (more.0.contents.octets ∷ rest.0, begins.form ∙ ap (λ o. item (simple_tag type) more.0.contents.octets ++ o) rest.1, (more.1.has, rest.2))
    ]

-- ---- fields that are distinguished by their tags, which rise
abbrev mutual
  pub IsRising : Holds → Type 0
  IsRising (One type) = Unit {0}
  IsRising (Many type) = Unit {0}
  IsRising Token = Unit {0}
  IsRising (OctetsOr fields) = AreRising 0 fields

  pub AreRising : (least : ℕ) → Fields → Type 0
  AreRising least End = Unit {0}
  AreRising least (Field tag path holds fields) = (least ≤ tag) × IsRising holds × AreRising (suc tag) fields

other_tag : (tag least : ℕ) (fields : Fields) (before found : Option Part) (part : Part) → AreFields fields before found part → AreRising least fields → tag < least → begins_with tag part.octets ≡ false
other_tag tag least End before found part are rising below = rw are.0 refl
other_tag tag least (Field own path holds fields) before found part (inl are) rising below = other_tag tag (suc own) fields before found part are rising.2 (omega (arith, rising.0))
other_tag tag least (Field own path holds fields) before found part (inr are) rising below = begins_otherwise tag own part.octets are.contents.octets are.rest.octets are.begins.form (λ e. omega (arith, rising.0, e))

-- ---- from X.690
one_held : (type : Simple) (path : List ℕ) (before found : Option Part) (part : Part) → IsHeld (One type) before found part → length part.octets < 2 ^ 32 → held (One type) path before part ≡ Ok found
one_held type path before found part is small = rw ((one_form type path part is.0 small).1, is.1) refl

many_held : (type : Simple) (path : List ℕ) (before found : Option Part) (part : Part) → IsHeld (Many type) before found part → length part.octets < 2 ^ 32 → held (Many type) path before part ≡ Ok found
many_held type path before found part is small =
    let items : List ℕ = flat_map (item (simple_tag type)) is.0.0 in
    let begins = placed 0x30 part items [] (is.0.1 ∙ sym (append-nil (item 0x30 items))) in
    ap (λ read. and_then {B = Option Part} read (λ list. and_then (simple_items type path (length list.contents.octets) 0 list.contents list.contents.octets) (λ _. Ok before))) (entered_item path 0x30 true part _ _ begins small (λ t. refl))
    ∙ ap (λ read. and_then {B = Option Part} read (λ _. Ok before)) (many_form type path (length items) 0 _ is.0.0 refl is.0.2 (small_contents 0x30 part _ _ begins small).0 (omega arith))
    ∙ ap Ok (sym is.1)

token_held : (path : List ℕ) (before found : Option Part) (part : Part) → IsHeld Token before found part → length part.octets < 2 ^ 32 → held Token path before part ≡ Ok found
token_held path before found part is small =
    ap (λ read. and_then {B = Option Part} read (λ token. Ok (Some token.contents))) (simple_form simple.Octets path true part is.0 _ (begins_alone 0x04 part is.0 is.1) (contents_form simple.Octets is.0.octets tt) small (λ t. refl))
    ∙ ap Ok (sym is.2)

or_octets : (fields : Fields) (path : List ℕ) (before found : Option Part) (part : Part) → IsOne simple.Octets part.octets × (found ≡ before) → length part.octets < 2 ^ 32 → held (OctetsOr fields) path before part ≡ Ok found
or_octets fields path before found part is small =
    when-false (begins_with 0x30 part.octets) _ _ (begins_otherwise 0x30 0x04 part.octets is.0.0 [] (is.0.1 ∙ sym (append-nil (item 0x04 is.0.0))) (λ e. omega (arith, e)))
    ∙ one_held simple.Octets path before found part is small

or_sequence : (fields : Fields) (path : List ℕ) (before found : Option Part) (part contents : Part) → IsItem 0x30 part contents → length part.octets < 2 ^ 32 → fields_read fields path before contents ≡ Ok found → held (OctetsOr fields) path before part ≡ Ok found
or_sequence fields path before found part contents is small e =
    when-true (begins_with 0x30 part.octets) _ _ (begins 0x30 part.octets contents.octets [] (is.form ∙ sym (append-nil (item 0x30 contents.octets))))
    ∙ ap (λ read. and_then {B = Option Part} read (λ list. fields_read fields path before list.contents)) (entered_item path 0x30 true part contents _ (begins_alone 0x30 part contents is) small (λ t. refl))
    ∙ e

mutual
  held_form : (holds : Holds) (path : List ℕ) (before found : Option Part) (part : Part) → IsHeld holds before found part → IsRising holds → length part.octets < 2 ^ 32 → held holds path before part ≡ Ok found
  held_form (One type) path before found part is rising small = one_held type path before found part is small
  held_form (Many type) path before found part is rising small = many_held type path before found part is small
  held_form Token path before found part is rising small = token_held path before found part is small
  held_form (OctetsOr fields) path before found part is rising small =
      elim is [
        | inl octets ↦ or_octets fields path before found part octets small
        | inr sequence ↦
            or_sequence fields path before found part sequence.0 sequence.1 small
            (fields_form fields path 0 before found sequence.0 sequence.2 rising (small_contents 0x30 part sequence.0 _ (begins_alone 0x30 part sequence.0 sequence.1) small).0)
      ]

  pub fields_form : (fields : Fields) (path : List ℕ) (least : ℕ) (before found : Option Part) (part : Part) → AreFields fields before found part → AreRising least fields → length part.octets < 2 ^ 32 → fields_read fields path before part ≡ Ok found
  fields_form End path least before found part are rising small = rw (are.0, are.1) refl
  fields_form (Field tag own holds fields) path least before found part are rising small =
      elim are [
        | inl are ↦
            field_absent tag own holds fields path before part (other_tag tag (suc tag) fields before found part are rising.2 (omega arith))
            ∙ fields_form fields path (suc tag) before found part are rising.2 small
        | inr has ↦
            field_read tag own holds fields path before has.between part (record { contents = has.contents; rest = has.rest }) (begins tag part.octets has.contents.octets has.rest.octets has.begins.form)
            (entered_item own tag false part has.contents has.rest has.begins small (λ t. absurd cc))
            (held_form holds own before has.between has.contents has.held rising.1 (small_contents tag part has.contents has.rest has.begins small).0)
            ∙ fields_form fields path (suc tag) has.between found has.rest has.left rising.2 (small_contents tag part has.contents has.rest has.begins small).1
      ]

-- ---- back to X.690
one_back_held : (type : Simple) (path : List ℕ) (before found : Option Part) (part : Part) → AreOctets part.octets → held (One type) path before part ≡ Ok found → IsHeld (One type) before found part
one_back_held type path before found part a e =
    let f = then_back (simple_item type path true part) (λ _. Ok before) found e in
    (one_back type part f.first (simple_back type path true part f.first a f.read_first), cc)

many_back_held : (type : Simple) (path : List ℕ) (before found : Option Part) (part : Part) → AreOctets part.octets → held (Many type) path before part ≡ Ok found → IsHeld (Many type) before found part
many_back_held type path before found part a e =
    let f = then_back (entered path 0x30 true part) (λ list. and_then (simple_items type path (length list.contents.octets) 0 list.contents list.contents.octets) (λ _. Ok before)) found e in
    let is : IsItem 0x30 part f.first.contents = alone_back 0x30 part f.first (entered_back path 0x30 true part f.first a f.read_first) in
    let g = then_back (simple_items type path (length f.first.contents.octets) 0 f.first.contents f.first.contents.octets) (λ _. Ok before) found f.read_next in
    let octets : AreOctets f.first.contents.octets = (octets_of_contents 0x30 part f.first.contents _ (begins_alone 0x30 part f.first.contents is) a).0 in
    let items : Items type f.first.contents.octets = many_back type path (length f.first.contents.octets) 0 f.first.contents octets (omega arith) g.read_first in
    ((items.0, is.form ∙ ap (item 0x30) items.1, items.2), cc)

token_back_held : (path : List ℕ) (before found : Option Part) (part : Part) → AreOctets part.octets → held Token path before part ≡ Ok found → IsHeld Token before found part
token_back_held path before found part a e =
    let f = then_back (simple_item simple.Octets path true part) (λ token. Ok (Some token.contents)) found e in
    (f.first.contents, alone_back 0x04 part f.first (simple_back simple.Octets path true part f.first a f.read_first).read, cc)

ended_back : (path : List ℕ) (before found : Option Part) (place : ℕ) (octets : List ℕ) → ended path before place octets ≡ Ok found → (octets ≡ []) × (found ≡ before)
ended_back path before found place [] e = (refl, cc)
ended_back path before found place (octet ∷ octets) e = absurd cc

mutual
  held_back : (holds : Holds) (path : List ℕ) (before found : Option Part) (part : Part) → AreOctets part.octets → held holds path before part ≡ Ok found → IsHeld holds before found part
  held_back (One type) path before found part a e = one_back_held type path before found part a e
  held_back (Many type) path before found part a e = many_back_held type path before found part a e
  held_back Token path before found part a e = token_back_held path before found part a e
  held_back (OctetsOr fields) path before found part a e =
      elim (cases_Bool (begins_with 0x30 part.octets)) [
        | inl t ↦
            let f = then_back (entered path 0x30 true part) (λ list. fields_read fields path before list.contents) found (rw t at e) in
            let is : IsItem 0x30 part f.first.contents = alone_back 0x30 part f.first (entered_back path 0x30 true part f.first a f.read_first) in
            inr (f.first.contents, is, fields_back fields path before found f.first.contents (octets_of_contents 0x30 part f.first.contents _ (begins_alone 0x30 part f.first.contents is) a).0 f.read_next)
        | inr t ↦ inl (one_back_held simple.Octets path before found part a (rw t at e))
      ]

  pub fields_back : (fields : Fields) (path : List ℕ) (before found : Option Part) (part : Part) → AreOctets part.octets → fields_read fields path before part ≡ Ok found → AreFields fields before found part
  fields_back End path before found part a e = ended_back path before found part.place part.octets e
  fields_back (Field tag own holds fields) path before found part a e =
      elim (cases_Bool (begins_with tag part.octets)) [
        | inl t ↦
            let f = then_back (entered own tag false part) (λ item. and_then (held holds own before item.contents) (λ between. fields_read fields path between item.rest)) found (rw t at e) in
            let g = then_back (held holds own before f.first.contents) (λ between. fields_read fields path between f.first.rest) found f.read_next in
            let is : BeginsWithItem tag part f.first.contents f.first.rest = (entered_back own tag false part f.first a f.read_first).begins in
            let octets : AreOctets f.first.contents.octets × AreOctets f.first.rest.octets = octets_of_contents tag part f.first.contents f.first.rest is a in
            inr (record {
              contents = f.first.contents;
              rest = f.first.rest;
              between = g.first;
              begins = is;
              held = held_back holds own before g.first f.first.contents octets.0 g.read_first;
              left = fields_back fields path g.first found f.first.rest octets.1 g.read_next;
            })
        | inr t ↦ inl (fields_back fields path before found part a (rw t at e))
      ]

-- ---- what holds of all parts of octets holds of the token that was found
abbrev pub IsOfParts : (List ℕ → Type 0) → Type 0
IsOfParts Holding = (tag : ℕ) (part contents rest : Part) → BeginsWithItem tag part contents rest → Holding part.octets → Holding contents.octets × Holding rest.octets

abbrev pub OfToken : (List ℕ → Type 0) → Option Part → Type 0
OfToken Holding None = Unit {0}
OfToken Holding (Some token) = Holding token.octets

mutual
  of_held : (Holding : List ℕ → Type 0) → IsOfParts Holding → (holds : Holds) (before found : Option Part) (part : Part) → IsHeld holds before found part → Holding part.octets → OfToken Holding before → OfToken Holding found
  of_held Holding parts Token before found part is h b = subst (OfToken Holding) (sym is.2) (parts 0x04 part is.0 _ (begins_alone 0x04 part is.0 is.1) h).0
  of_held Holding parts (OctetsOr fields) before found part is h b =
      elim is [
        | inl octets ↦ subst (OfToken Holding) (sym octets.1) b
        | inr sequence ↦ of_token Holding parts fields before found sequence.0 sequence.2 (parts 0x30 part sequence.0 _ (begins_alone 0x30 part sequence.0 sequence.1) h).0 b
      ]
  of_held Holding parts other before found part is h b = subst (OfToken Holding) (sym is.1) b

  pub of_token : (Holding : List ℕ → Type 0) → IsOfParts Holding → (fields : Fields) (before found : Option Part) (part : Part) → AreFields fields before found part → Holding part.octets → OfToken Holding before → OfToken Holding found
  of_token Holding parts End before found part are h b = subst (OfToken Holding) (sym are.1) b
  of_token Holding parts (Field tag path holds fields) before found part are h b =
      elim are [
        | inl are ↦ of_token Holding parts fields before found part are h b
        | inr has ↦
            let of : Holding has.contents.octets × Holding has.rest.octets = parts tag part has.contents has.rest has.begins h in
            of_token Holding parts fields has.between found has.rest has.left of.1 (of_held Holding parts holds before has.between has.contents has.held of.0 b)
      ]
