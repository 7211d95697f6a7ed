-- Octets of two lists from the same place on, and the heads that they begin with.
use Rattle.std.proofs.Common.{◌≡◌, ℕ, ◌+◌, ◌<◌, ◌≤◌, min, false, nat_lt, List, [], ◌∷◌, length, take, drop, get_or, Some, refl, sym, ◌∙◌, ap, subst, arith}
use Rattle.std.proofs.lemmas.List.{get_or-drop, get_or-take, length-take, length-drop}
use Rattle.krb_der.specs.Octets.{begins_with}
use Rattle.krb_items.specs.Heads.{Begun, Headed, contents_by, contents_in, count_by, count_in, head_in, headed, octet_of, size_of, with_head}
use Rattle.krb_items.specs.Items.{begins_as}
use Rattle.krb_items.specs.declared.tag.Tag.{Tag}
use Rattle.krb_items_laws.specs.Masked.{AreSame}
use Rattle.krb_items_laws.proofs.MaskedHeads.{Head, Step, head-facts, head-same, same-lists, step-is, step-of}

-- the first octets are the same
abbrev pub AreFirst : List ℕ → List ℕ → Type 0
AreFirst octets others = take 1 octets ≡ take 1 others

pub begins-first : (octet : ℕ) (octets others : List ℕ) → AreFirst octets others → begins_with octet octets ≡ begins_with octet others
begins-first octet [] [] e = refl
begins-first octet [] (b ∷ others) e = absurd cc
begins-first octet (a ∷ octets) [] e = absurd cc
begins-first octet (a ∷ octets) (b ∷ others) e =
    let first : a ≡ b = ap (λ (o : List ℕ). get_or o 0 0) e in
    subst (λ (b : ℕ). begins_with octet (a ∷ octets) ≡ begins_with octet (b ∷ others)) first refl

pub begins-as-first : (tags : List Tag) (octets others : List ℕ) → AreFirst octets others → begins_as tags octets ≡ begins_as tags others
begins-as-first [] octets others e = refl
begins-as-first (tag ∷ tags) octets others e = begins-first (octet_of tag) octets others e

-- an item whose heads are read, and what is in them
abbrev pub AreRead : (limit : ℕ) → Begun → List Tag → List ℕ → Begun → List ℕ → Type 0
AreRead limit begun tags octets done contents = headed limit begun tags octets ≡ record { begun = done; contents = Some contents }

module _ (all more : List ℕ) where
  -- octets of the two lists from a place on, which are the same where the lists are
  pub record Slice (place : ℕ) (octets others : List ℕ) : Type 0 where
    pub as_many : length octets ≡ length others
    pub points : (i : ℕ) → i < length octets → get_or all (place + i) 0 ≡ get_or more (place + i) 0 → get_or octets i 0 ≡ get_or others i 0

  pub slice-drop : (place count : ℕ) (octets others : List ℕ) → Slice place octets others → Slice (place + count) (drop count octets) (drop count others)
  slice-drop place count octets others s = record {
    as_many = omega (arith, length-drop count octets, length-drop count others, s.as_many);
    points = λ i h e.
        get_or-drop count octets i 0
        ∙ s.points (count + i) (omega (arith, length-drop count octets, h)) (subst (λ (p : ℕ). get_or all p 0 ≡ get_or more p 0) (omega arith) e)
        ∙ sym (get_or-drop count others i 0);
  }

  pub slice-take : (place count : ℕ) (octets others : List ℕ) → Slice place octets others → Slice place (take count octets) (take count others)
  slice-take place count octets others s = record {
    as_many = omega (arith, length-take count octets, length-take count others, s.as_many);
    points = λ i h e.
        get_or-take count octets i 0 (omega (arith, length-take count octets, h))
        ∙ s.points i (omega (arith, length-take count octets, h)) e
        ∙ sym (get_or-take count others i 0 (omega (arith, length-take count octets, h)));
  }

  pub slice-same : (place end : ℕ) (octets others : List ℕ) → Slice place octets others → place + length octets ≤ end → AreSame all more place end → octets ≡ others
  slice-same place end octets others s within same = same-lists octets others s.as_many (λ i h. s.points i h (same (place + i) (omega arith) (omega (arith, within, h))))

  pub slice-taken : (place end count : ℕ) (octets others : List ℕ) → Slice place octets others → place + count ≤ end → AreSame all more place end → take count octets ≡ take count others
  slice-taken place end count octets others s within same = slice-same place end (take count octets) (take count others) (slice-take place count octets others s) (omega (arith, length-take count octets, within)) same

  -- ---- heads
  -- where heads end, and what is in the last
  pub record Ends (begun done : Begun) : Type 0 where
    pub next : begun.next ≤ done.next
    pub at : done.at ≡ begun.at

  pub read-step : (limit : ℕ) (begun : Begun) (tag : Tag) (tags : List Tag) (octets : List ℕ) (done : Begun) (contents : List ℕ) → AreRead limit begun (tag ∷ tags) octets done contents → Step limit begun tag tags octets
  read-step limit begun tag tags octets done contents e = step-of limit begun tag tags octets contents (ap (λ (h : Headed). h.contents) e)

  pub read-ends : (limit : ℕ) (begun : Begun) (tags : List Tag) (octets : List ℕ) (done : Begun) (contents : List ℕ) → AreRead limit begun tags octets done contents → Ends begun done
  read-ends limit begun [] octets done contents e = let b : begun ≡ done = ap (λ (h : Headed). h.begun) e in subst (λ (d : Begun). Ends begun d) b (record { next = omega arith; at = refl })
  read-ends limit begun (tag ∷ tags) octets done contents e =
      let s : Step limit begun tag tags octets = read-step limit begun tag tags octets done contents e in
      let r : Ends (with_head begun tag (take s.head.header octets) (Some s.head.size)) done = read-ends limit (with_head begun tag (take s.head.header octets) (Some s.head.size)) tags (take s.head.size (drop s.head.header octets)) done contents (sym (step-is limit begun tag tags octets s) ∙ e) in
      record { next = omega (arith, r.next); at = r.at }

  -- the contents are as many octets as the last length says, or less
  pub read-size : (limit : ℕ) (begun : Begun) (tag : Tag) (tags : List Tag) (octets : List ℕ) (done : Begun) (contents : List ℕ) → AreRead limit begun (tag ∷ tags) octets done contents → length contents ≤ size_of done.size
  read-size limit begun tag [] octets done contents e =
      let s : Step limit begun tag [] octets = read-step limit begun tag [] octets done contents e in
      let rest : AreRead limit (with_head begun tag (take s.head.header octets) (Some s.head.size)) [] (take s.head.size (drop s.head.header octets)) done contents = sym (step-is limit begun tag [] octets s) ∙ e in
      let b : with_head begun tag (take s.head.header octets) (Some s.head.size) ≡ done = ap (λ (h : Headed). h.begun) rest in
      let c : Some (take s.head.size (drop s.head.header octets)) ≡ Some contents = ap (λ (h : Headed). h.contents) rest in
      let t : take s.head.size (drop s.head.header octets) ≡ contents = cc in
      omega (arith, ap length t, length-take s.head.size (drop s.head.header octets), ap (λ (d : Begun). size_of d.size) b)
  read-size limit begun tag (other ∷ tags) octets done contents e =
      let s : Step limit begun tag (other ∷ tags) octets = read-step limit begun tag (other ∷ tags) octets done contents e in
      read-size limit (with_head begun tag (take s.head.header octets) (Some s.head.size)) other tags (take s.head.size (drop s.head.header octets)) done contents (sym (step-is limit begun tag (other ∷ tags) octets s) ∙ e)

  pub read-contents : (limit : ℕ) (begun : Begun) (tags : List Tag) (octets : List ℕ) (done : Begun) (contents : List ℕ) → AreRead limit begun tags octets done contents → contents_in tags octets ≡ contents
  read-contents limit begun [] octets done contents e = let c : Some octets ≡ Some contents = ap (λ (h : Headed). h.contents) e in cc
  read-contents limit begun (tag ∷ tags) octets done contents e =
      let s : Step limit begun tag tags octets = read-step limit begun tag tags octets done contents e in
      ap (λ f. contents_in tags (contents_by f octets)) s.is
      ∙ read-contents limit (with_head begun tag (take s.head.header octets) (Some s.head.size)) tags (take s.head.size (drop s.head.header octets)) done contents (sym (step-is limit begun tag tags octets s) ∙ e)

  -- the other octets have the same heads
  pub record ReadSame (limit : ℕ) (begun : Begun) (tags : List Tag) (others : List ℕ) (done : Begun) (contents : List ℕ) : Type 0 where
    pub inside : List ℕ
    pub is : AreRead limit begun tags others done inside
    pub slice : Slice done.next contents inside

  -- one head of the two
  pub record OneSame (limit : ℕ) (begun : Begun) (tag : Tag) (tags : List Tag) (octets others : List ℕ) (h : Head) : Type 0 where
    pub taken : take h.header octets ≡ take h.header others
    pub first : AreFirst octets others
    pub is : head_in others ≡ Some h
    pub step : headed limit begun (tag ∷ tags) others ≡ headed limit (with_head begun tag (take h.header octets) (Some h.size)) tags (take h.size (drop h.header others))
    pub slice : Slice (begun.next + length (take h.header octets)) (take h.size (drop h.header octets)) (take h.size (drop h.header others))

  pub one-same : (limit : ℕ) (begun : Begun) (tag : Tag) (tags : List Tag) (octets others : List ℕ) (s : Step limit begun tag tags octets) (end : ℕ) → Slice begun.next octets others → begun.next + length (take s.head.header octets) ≤ end → AreSame all more begun.next end
      → OneSame limit begun tag tags octets others s.head
  one-same limit begun tag tags octets others s end slice within same =
      let f : (1 < s.head.header) × (s.head.header ≤ length octets) = head-facts octets s.head s.is in
      let count : length (take s.head.header octets) ≡ s.head.header = omega (arith, length-take s.head.header octets, f.1) in
      let t : take s.head.header octets ≡ take s.head.header others = slice-taken begun.next end s.head.header octets others slice (omega (arith, within, count)) same in
      let first : take 1 octets ≡ take 1 others = slice-taken begun.next end 1 octets others slice (omega (arith, within, count, f.0)) same in
      let is : head_in others ≡ Some s.head = head-same octets others s.head s.is slice.as_many t in
      let other : Step limit begun tag tags others = record {
        head = s.head;
        begins = sym (begins-first (octet_of tag) octets others first) ∙ s.begins;
        is = is;
        within = subst (λ (o : List ℕ). nat_lt limit (begun.next + length o) ≡ false) t s.within;
      } in
      record {
        taken = t;
        first = first;
        is = is;
        step = step-is limit begun tag tags others other ∙ ap (λ o. headed limit (with_head begun tag o (Some s.head.size)) tags (take s.head.size (drop s.head.header others))) (sym t);
        slice = subst (λ (n : ℕ). Slice (begun.next + n) (take s.head.size (drop s.head.header octets)) (take s.head.size (drop s.head.header others))) (sym count)
            (slice-take (begun.next + s.head.header) s.head.size (drop s.head.header octets) (drop s.head.header others) (slice-drop begun.next s.head.header octets others slice));
      }

  pub heads-same : (limit : ℕ) (begun : Begun) (tags : List Tag) (octets others : List ℕ) (done : Begun) (contents : List ℕ) → AreRead limit begun tags octets done contents → Slice begun.next octets others → AreSame all more begun.next done.next
      → ReadSame limit begun tags others done contents
  heads-same limit begun [] octets others done contents e slice same =
      let b : begun ≡ done = ap (λ (h : Headed). h.begun) e in
      let c : Some octets ≡ Some contents = ap (λ (h : Headed). h.contents) e in
      let t : octets ≡ contents = cc in
      record { inside = others; is = λ i. record { begun = b i; contents = Some others }; slice = subst (λ (c : List ℕ). Slice done.next c others) t (subst (λ (d : Begun). Slice d.next octets others) b slice) }
  heads-same limit begun (tag ∷ tags) octets others done contents e slice same =
      let s : Step limit begun tag tags octets = read-step limit begun tag tags octets done contents e in
      let next : Begun = with_head begun tag (take s.head.header octets) (Some s.head.size) in
      let rest : AreRead limit next tags (take s.head.size (drop s.head.header octets)) done contents = sym (step-is limit begun tag tags octets s) ∙ e in
      let ends : Ends next done = read-ends limit next tags (take s.head.size (drop s.head.header octets)) done contents rest in
      let one : OneSame limit begun tag tags octets others s.head = one-same limit begun tag tags octets others s done.next slice ends.next same in
      let r : ReadSame limit next tags (take s.head.size (drop s.head.header others)) done contents =
      heads-same limit next tags (take s.head.size (drop s.head.header octets)) (take s.head.size (drop s.head.header others)) done contents rest one.slice (λ place a b. same place (omega (arith, a)) b) in
      record { inside = r.inside; is = one.step ∙ r.is; slice = r.slice }

  -- the other octets begin with the same one, and their first item has as many
  pub record FirstSame (octets others : List ℕ) : Type 0 where
    pub first : AreFirst octets others
    pub count : count_in octets ≡ count_in others

  pub first-same : (limit : ℕ) (begun : Begun) (tag : Tag) (tags : List Tag) (octets others : List ℕ) (done : Begun) (contents : List ℕ) → AreRead limit begun (tag ∷ tags) octets done contents → Slice begun.next octets others → AreSame all more begun.next done.next → FirstSame octets others
  first-same limit begun tag tags octets others done contents e slice same =
      let s : Step limit begun tag tags octets = read-step limit begun tag tags octets done contents e in
      let next : Begun = with_head begun tag (take s.head.header octets) (Some s.head.size) in
      let ends : Ends next done = read-ends limit next tags (take s.head.size (drop s.head.header octets)) done contents (sym (step-is limit begun tag tags octets s) ∙ e) in
      let one : OneSame limit begun tag tags octets others s.head = one-same limit begun tag tags octets others s done.next slice ends.next same in
      record {
        first = one.first;
        count = ap (λ f. count_by f octets) s.is ∙ ap (λ n. min n (s.head.header + s.head.size)) slice.as_many ∙ sym (ap (λ f. count_by f others) one.is);
      }
