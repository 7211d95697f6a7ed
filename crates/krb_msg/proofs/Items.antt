-- An item with any judgement of its contents.
use Rattle.std.proofs.Common.{◌≡◌, ℕ, zero, suc, ◌+◌, ◌-◌, ◌^◌, ◌<◌, ◌≤◌, ◌⊎◌, inl, inr, Bool, true, false, cond, ◌&&◌, ltb, eqb, List, [], ◌∷◌, ◌++◌, length, take, drop, refl, sym, ◌∙◌, ap, arith, append_assoc, length-append, length-take, take-append-drop, le-ltb, eq-eqb, ne_eqb, drop_at, one-add}
use Rattle.std.proofs.lemmas.Bool.{cases_lt, cases_Bool}
use Rattle.std.proofs.lemmas.Bool.Decides.{nat_tests}
use Rattle.std.proofs.lemmas.List.{take_at, take_all, take-append-le}
use Rattle.krb_der.specs.Octets.{length_octets, item}
use Rattle.krb_der.specs.declared.why.Why.TheVariants as why
use Rattle.krb_der.specs.inner.Items.{same_from_cons, length-item, item-append, length-length_octets}
use Rattle.krb_msg.specs.Term.{Term, tag_of}
use Rattle.krb_msg.specs.Judgement.{Outcome, Open, Bad, Done, Head, Partial, Refused, Got, head, has_size, of_head, item_with}
use Rattle.krb_msg.proofs.Stable.{need, IsDecided, Shown, IsStable, IsStable-refusal, refusal, not_open, length_parts, take-append_right}
use Rattle.krb_msg.proofs.Heads.{HeadShown, HeadShown-head, head-length_octets, head-decided, head-within, head-positive}

-- ---- a judgement that goes by the first octet
module _ (room before : ℕ) (judge : List ℕ → Outcome) (empty : judge [] ≡ Open) where
  Shown-first : (other : List ℕ → Outcome) (octet : ℕ) (octets : List ℕ) (outcome : Outcome) → other [] ≡ Open → ((rest : List ℕ) → judge (octet ∷ rest) ≡ other (octet ∷ rest)) → IsDecided outcome → Shown room before other (octet ∷ octets) outcome → Shown room before judge (octet ∷ octets) outcome
  Shown-first other octet octets outcome n f d s = go s.prefix s.parts s.reached s.same s.sooner
    where
      go : (prefix : List ℕ) → octet ∷ octets ≡ prefix ++ s.suffix → need outcome ≡ before + length prefix → ((rest : List ℕ) → length (prefix ++ rest) ≤ room → other (prefix ++ rest) ≡ outcome) → ((k : ℕ) → k < length prefix → other (take k prefix) ≡ Open) → Shown room before judge (octet ∷ octets) outcome
      go [] parts reached same sooner = absurd (not_open outcome (sym n ∙ same [] (omega arith)) d)
      go (first ∷ prefix) parts reached same sooner =
          let e : octet ≡ first = (same_from_cons octet first octets (prefix ++ s.suffix) parts).0 in
          record {
            prefix = first ∷ prefix;
            suffix = s.suffix;
            parts = parts;
            reached = reached;
            same = λ rest h. rw (← e) (f (prefix ++ rest) ∙ rw e (same rest h));
            sooner = λ k h. earlier k e (sooner k h);
          }
        where
          earlier : (k : ℕ) → octet ≡ first → other (take k (first ∷ prefix)) ≡ Open → judge (take k (first ∷ prefix)) ≡ Open
          earlier zero e h = empty
          earlier (suc k) e h = rw (← e) (f (take k prefix) ∙ rw e h)

  pub IsStable-first : ((octet : ℕ) → (other : List ℕ → Outcome) × (IsStable room before other) × (other [] ≡ Open) × ((rest : List ℕ) → judge (octet ∷ rest) ≡ other (octet ∷ rest))) → IsStable room before judge
  IsStable-first others [] outcome fits e d = absurd (not_open outcome (sym empty ∙ e) d)
  IsStable-first others (octet ∷ octets) outcome fits e d =
      let o : (other : List ℕ → Outcome) × (IsStable room before other) × (other [] ≡ Open) × ((rest : List ℕ) → judge (octet ∷ rest) ≡ other (octet ∷ rest)) = others octet in
      Shown-first o.0 octet octets outcome o.2 o.3 d (o.1 (octet ∷ octets) outcome fits (sym (o.3 octets) ∙ e) d)

-- ---- an item after its tag
module _ (contents_of : ℕ → ℕ → List ℕ → Outcome) (term : Term) (room : ℕ) (sole : Bool) where
  -- after an accepted head
  abbrev accepted : ℕ → ℕ → List ℕ → Outcome
  accepted header contents suffix =
      cond (sole && ltb (header + contents) room) (Bad (header - 1) why.Loose)
      (cond (has_size term contents) (contents_of header contents (take contents suffix)) (Bad (header - 1) why.Size))

  abbrev headed : List ℕ → Outcome
  headed octets = of_head term (head room octets) room sole octets contents_of

  headed-got : (octets : List ℕ) (header contents : ℕ) (s : HeadShown room octets (Got header contents)) (rest : List ℕ) → headed (s.prefix ++ rest) ≡ accepted header contents rest
  headed-got octets header contents s rest = rw (s.same rest, drop_at s.prefix rest header (sym s.reached))

  -- the head alone decides what is refused after it
  Shown-head : (octets : List ℕ) (found : Head) (outcome : Outcome) (s : HeadShown room octets found) → need outcome ≡ length s.prefix → ((rest : List ℕ) → headed (s.prefix ++ rest) ≡ outcome) → Shown room 0 headed octets outcome
  Shown-head octets found outcome s n same = record {
    prefix = s.prefix;
    suffix = s.suffix;
    parts = s.parts;
    reached = omega (arith, n);
    same = λ rest h. same rest;
    sooner = λ k h. rw (s.sooner k h);
  }

  -- the head and a prefix of the contents decide the rest
  Shown-contents : (octets : List ℕ) (header contents : ℕ) (outcome : Outcome) (s : HeadShown room octets (Got header contents)) → ((rest : List ℕ) → accepted header contents rest ≡ contents_of header contents (take contents rest)) → Shown contents header (contents_of header contents) (take contents s.suffix) outcome → Shown room 0 headed octets outcome
  Shown-contents octets header contents outcome s a r = record {
    prefix = s.prefix ++ r.prefix;
    suffix = r.suffix ++ drop contents s.suffix;
    parts = s.parts ∙ ap (λ l. s.prefix ++ l) (sym (take-append-drop contents s.suffix) ∙ ap (λ l. l ++ drop contents s.suffix) r.parts) ∙ simp append_assoc;
    reached = rw length-append (omega (arith, s.reached, r.reached));
    same = same;
    sooner = sooner;
  }
    where
      within : length r.prefix ≤ contents
      within = omega (arith, length_parts (take contents s.suffix) contents header r, length-take contents s.suffix)

      same : (rest : List ℕ) → length ((s.prefix ++ r.prefix) ++ rest) ≤ room → headed ((s.prefix ++ r.prefix) ++ rest) ≡ outcome
      same rest h =
          rw (append_assoc s.prefix r.prefix rest)
          (headed-got octets header contents s (r.prefix ++ rest) ∙ a (r.prefix ++ rest)
          ∙ rw (take-append_right r.prefix rest contents within) (r.same (take (contents - length r.prefix) rest) (rw (length-append, length-take) (omega (arith, within)))))

      sooner : (k : ℕ) → k < length (s.prefix ++ r.prefix) → headed (take k (s.prefix ++ r.prefix)) ≡ Open
      sooner k h =
          elim (cases_lt k (length s.prefix)) [
            | inl l ↦ rw (take-append-le k s.prefix r.prefix (omega arith), s.sooner k l)
            | inr l ↦
                rw (take-append_right s.prefix r.prefix k l)
                (headed-got octets header contents s (take (k - length s.prefix) r.prefix) ∙ a (take (k - length s.prefix) r.prefix)
                ∙ rw (take_all contents (take (k - length s.prefix) r.prefix) (rw length-take (omega (arith, within)))) (r.sooner (k - length s.prefix) (omega (arith, length-append s.prefix r.prefix))))
          ]

  abbrev StableContents : Type 0
  StableContents = (header contents : ℕ) → 0 < header → has_size term contents ≡ true → IsStable contents header (contents_of header contents)

  IsStable-headed : StableContents → IsStable room 0 headed
  IsStable-headed stable octets outcome fits e d = go (head room octets) refl
    where
      got : (header contents : ℕ) → 0 < header → (s : HeadShown room octets (Got header contents)) → headed (s.prefix ++ s.suffix) ≡ outcome → (sole && ltb (header + contents) room ≡ true) ⊎ (sole && ltb (header + contents) room ≡ false) → (has_size term contents ≡ true) ⊎ (has_size term contents ≡ false) → Shown room 0 headed octets outcome
      got header contents p s f (inl t) c =
          let g : (rest : List ℕ) → accepted header contents rest ≡ Bad (header - 1) why.Loose = λ rest. rw t in
          let h : Bad (header - 1) why.Loose ≡ outcome = sym (headed-got octets header contents s s.suffix ∙ g s.suffix) ∙ f in
          Shown-head octets (Got header contents) outcome s (ap need (sym h) ∙ omega (arith, s.reached)) (λ rest. headed-got octets header contents s rest ∙ g rest ∙ h)
      got header contents p s f (inr t) (inr u) =
          let g : (rest : List ℕ) → accepted header contents rest ≡ Bad (header - 1) why.Size = λ rest. rw (t, u) in
          let h : Bad (header - 1) why.Size ≡ outcome = sym (headed-got octets header contents s s.suffix ∙ g s.suffix) ∙ f in
          Shown-head octets (Got header contents) outcome s (ap need (sym h) ∙ omega (arith, s.reached)) (λ rest. headed-got octets header contents s rest ∙ g rest ∙ h)
      got header contents p s f (inr t) (inl u) =
          let g : (rest : List ℕ) → accepted header contents rest ≡ contents_of header contents (take contents rest) = λ rest. rw (t, u) in
          Shown-contents octets header contents outcome s g
          (stable header contents p u (take contents s.suffix) outcome (rw length-take (omega arith)) (sym (headed-got octets header contents s s.suffix ∙ g s.suffix) ∙ f) d)

      go : (found : Head) → head room octets ≡ found → Shown room 0 headed octets outcome
      go Partial f = absurd (not_open outcome (rw f at e) d)
      go (Refused offset reason) f =
          let s : HeadShown room octets (Refused offset reason) = HeadShown-head room octets (Refused offset reason) f (λ g. cc) in
          let g : Bad offset reason ≡ outcome = rw f at e in
          Shown-head octets (Refused offset reason) outcome s (ap need (sym g) ∙ s.reached) (λ rest. rw (s.same rest) g)
      go (Got header contents) f =
          let s : HeadShown room octets (Got header contents) = HeadShown-head room octets (Got header contents) f (λ g. cc) in
          got header contents (head-positive room octets header contents f) s (ap headed (sym s.parts) ∙ e) (cases_Bool (sole && ltb (header + contents) room)) (cases_Bool (has_size term contents))

  abbrev item_of : List ℕ → Outcome
  item_of = item_with contents_of term room sole

  item-headed : (octet : ℕ) (rest : List ℕ) → eqb octet (tag_of term) ≡ true → eqb room 1 ≡ false → item_of (octet ∷ rest) ≡ headed (octet ∷ rest)
  item-headed octet rest t u = rw (t, u)

  item-overrun : (octet : ℕ) (rest : List ℕ) → eqb octet (tag_of term) ≡ true → eqb room 1 ≡ true → item_of (octet ∷ rest) ≡ Bad 0 why.Overrun
  item-overrun octet rest t u = rw (t, u)

  pub item-tag : (octet : ℕ) (rest : List ℕ) → eqb octet (tag_of term) ≡ false → item_of (octet ∷ rest) ≡ Bad 0 why.Tag
  item-tag octet rest t = rw t

  -- ---- stable
  pub IsStable-item : StableContents → IsStable room 0 item_of
  IsStable-item stable = IsStable-first room 0 item_of refl others
    where
      by : (octet : ℕ) → (eqb octet (tag_of term) ≡ true) ⊎ (eqb octet (tag_of term) ≡ false) → (eqb room 1 ≡ true) ⊎ (eqb room 1 ≡ false) → (other : List ℕ → Outcome) × (IsStable room 0 other) × (other [] ≡ Open) × ((rest : List ℕ) → item_of (octet ∷ rest) ≡ other (octet ∷ rest))
      by octet (inr t) c = (refusal 0 why.Tag, IsStable-refusal room 0 why.Tag, refl, λ rest. item-tag octet rest t)
      by octet (inl t) (inl u) = (refusal 0 why.Overrun, IsStable-refusal room 0 why.Overrun, refl, λ rest. item-overrun octet rest t u)
      by octet (inl t) (inr u) = (headed, IsStable-headed stable, refl, λ rest. item-headed octet rest t u)

      others : (octet : ℕ) → (other : List ℕ → Outcome) × (IsStable room 0 other) × (other [] ≡ Open) × ((rest : List ℕ) → item_of (octet ∷ rest) ≡ other (octet ∷ rest))
      others octet = by octet (cases_Bool (eqb octet (tag_of term))) (cases_Bool (eqb room 1))

  -- ---- what follows from an outcome of an item
  -- an item that is done
  pub record ItemDone (octets : List ℕ) (count : ℕ) : Type 0 where
    pub rest : List ℕ
    pub parts : octets ≡ tag_of term ∷ rest
    pub header : ℕ
    pub contents : ℕ
    pub found : head room octets ≡ Got header contents
    pub fills : sole ≡ true → header + contents ≡ room
    pub sized : has_size term contents ≡ true
    pub inner : contents_of header contents (take contents (drop header octets)) ≡ Done count

  -- an item of which more octets are needed
  pub record ItemOpen (octets : List ℕ) : Type 0 where
    pub header : ℕ
    pub contents : ℕ
    pub found : head room octets ≡ Got header contents
    pub sized : has_size term contents ≡ true
    pub inner : contents_of header contents (take contents (drop header octets)) ≡ Open

  not_loose : (header contents : ℕ) → header + contents ≤ room → (sole && ltb (header + contents) room) ≡ false → sole ≡ true → header + contents ≡ room
  not_loose header contents h t s = grind (arith, nat_tests)

  pub item_done : (octets : List ℕ) (count : ℕ) → item_of octets ≡ Done count → ItemDone octets count
  item_done [] count e = absurd cc
  item_done (octet ∷ rest) count e = by_head (head room (octet ∷ rest)) refl
    where
      t : octet ≡ tag_of term
      t = grind (arith, nat_tests)

      by_head : (found : Head) → head room (octet ∷ rest) ≡ found → ItemDone (octet ∷ rest) count
      by_head (Got header contents) f =
          let w : header + contents ≤ room = head-within room (octet ∷ rest) header contents f in
          record {
            rest = rest;
            parts = ap (λ m. m ∷ rest) t;
            header = header;
            contents = contents;
            found = f;
            fills = λ s. grind (arith, nat_tests);
            sized = grind (arith, nat_tests);
            inner = grind (arith, nat_tests);
          }
      by_head other f = absurd (grind (arith, nat_tests))

  pub item_open : (octets : List ℕ) → 0 < room → length octets ≡ room → item_of octets ≡ Open → ItemOpen octets
  item_open [] p l e = absurd (omega arith)
  item_open (octet ∷ rest) p l e = by_head (head room (octet ∷ rest)) refl
    where
      two : 2 ≤ room
      two = grind (arith, nat_tests)

      by_head : (found : Head) → head room (octet ∷ rest) ≡ found → ItemOpen (octet ∷ rest)
      by_head Partial f = absurd (head-decided room (octet ∷ rest) two l f)
      by_head (Refused offset reason) f = absurd (grind (arith, nat_tests))
      by_head (Got header contents) f = record { header = header; contents = contents; found = f; sized = grind (arith, nat_tests); inner = grind (arith, nat_tests) }

  -- ---- an item of contents that fit
  pub item-accepts : (contents rest : List ℕ) → length contents < 2 ^ 32 → length (item (tag_of term) contents) ≤ room → (sole ≡ true → length (item (tag_of term) contents) ≡ room) → has_size term (length contents) ≡ true → item_of (item (tag_of term) contents ++ rest) ≡ contents_of (1 + length (length_octets (length contents))) (length contents) contents
  item-accepts contents rest small fits fills sized =
      rw (item-append (tag_of term) contents rest)
      (item-headed (tag_of term) (length_octets (length contents) ++ (contents ++ rest)) (eq-eqb (tag_of term) (tag_of term) refl) (ne_eqb room 1 (omega (arith, l, length-length_octets (length contents) small)))
      ∙ rw (head-length_octets room (tag_of term) (length contents) (contents ++ rest) small (omega (arith, l)), dropped, not_loose_from (cases_Bool sole), sized, take_at contents rest (length contents) refl))
    where
      l : length (item (tag_of term) contents) ≡ 1 + length (length_octets (length contents)) + length contents
      l = length-item (tag_of term) contents

      dropped : drop (1 + length (length_octets (length contents))) (tag_of term ∷ (length_octets (length contents) ++ (contents ++ rest))) ≡ contents ++ rest
      dropped = rw (one-add (length (length_octets (length contents)))) (drop_at (length_octets (length contents)) (contents ++ rest) (length (length_octets (length contents))) refl)

      not_loose_from : (sole ≡ true) ⊎ (sole ≡ false) → (sole && ltb (1 + length (length_octets (length contents)) + length contents) room) ≡ false
      not_loose_from (inl s) = rw (s, le-ltb (1 + length (length_octets (length contents)) + length contents) room (omega (arith, l, fills s)))
      not_loose_from (inr s) = rw s
