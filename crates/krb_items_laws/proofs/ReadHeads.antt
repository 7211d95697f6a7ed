-- The heads of an item of DER are read, with all of its contents.
use Rattle.std.proofs.Common.{◌≡◌, ℕ, ◌+◌, ◌^◌, ◌<◌, ◌≤◌, List, [], ◌∷◌, ◌++◌, length, take, drop, Some, refl, sym, ◌∙◌, ap, arith, le-ltb, eq-eqb, append_assoc, append-nil, length-append, take_at, drop_at, flat_map}
use Rattle.krb_der.specs.Octets.{item, length_octets}
use Rattle.krb_der.specs.inner.Items.{item-append, length-item}
use Rattle.krb_items.specs.Heads.{Begun, Headed, headed, headed_by, head_in, octet_of, with_head, count_in, count_by}
use Rattle.krb_items.specs.declared.tag.Tag.{Tag}
use Rattle.krb_items_laws.proofs.FirstHeads.{IsHead, head-of-length}

-- the octets of a head
abbrev pub head_of : (tag size : ℕ) → List ℕ
head_of tag size = tag ∷ length_octets size

abbrev pub flat : List (List ℕ) → List ℕ
flat lists = flat_map (λ octets. octets) lists

pub flat-append : (lists others : List (List ℕ)) → flat (lists ++ others) ≡ flat lists ++ flat others
flat-append [] others = refl
flat-append (octets ∷ lists) others = ap (λ l. octets ++ l) (flat-append lists others) ∙ sym (append_assoc octets (flat lists) (flat others))

-- ---- one head
by-got : (limit : ℕ) (begun : Begun) (tag : Tag) (octets head rest : List ℕ) (header size : ℕ) (next : Begun → List ℕ → Headed) →
    IsHead octets header size → take header octets ≡ head → drop header octets ≡ rest → begun.next + length head ≤ limit
    → headed_by limit begun tag octets (head_in octets) next ≡ next (with_head begun tag head (Some size)) (take size rest)
by-got limit begun tag octets head rest header size next is t d within =
    rw is (rw (t, d, le-ltb limit (begun.next + length head) within) refl)

head-step : (limit : ℕ) (begun : Begun) (tag : Tag) (tags : List Tag) (contents more : List ℕ) → length contents < 2 ^ 32 → begun.next + length (head_of (octet_of tag) (length contents)) ≤ limit
    → headed limit begun (tag ∷ tags) (item (octet_of tag) contents ++ more) ≡ headed limit (with_head begun tag (head_of (octet_of tag) (length contents)) (Some (length contents))) tags contents
head-step limit begun tag tags contents more short within =
    let octets : List ℕ = head_of (octet_of tag) (length contents) ++ (contents ++ more) in
    let parts : item (octet_of tag) contents ++ more ≡ head_of (octet_of tag) (length contents) ++ (contents ++ more) = item-append (octet_of tag) contents more in
    ap (headed limit begun (tag ∷ tags)) parts
    ∙ rw (eq-eqb (octet_of tag) (octet_of tag) refl)
    (by-got limit begun tag (head_of (octet_of tag) (length contents) ++ (contents ++ more)) (head_of (octet_of tag) (length contents)) (contents ++ more) (1 + length (length_octets (length contents))) (length contents) (λ next rest. headed limit next tags rest)
    (head-of-length (octet_of tag) (length contents) (contents ++ more) short)
    (take_at (head_of (octet_of tag) (length contents)) (contents ++ more) (1 + length (length_octets (length contents))) (omega arith))
    (drop_at (head_of (octet_of tag) (length contents)) (contents ++ more) (1 + length (length_octets (length contents))) (omega arith))
    within
    ∙ ap (headed limit (with_head begun tag (head_of (octet_of tag) (length contents)) (Some (length contents))) tags) (take_at contents more (length contents) refl))

-- ---- all heads of an item
-- the heads of an item of these octets are read, and its contents are these
pub record Reads (limit : ℕ) (begun : Begun) (tags : List Tag) (own more contents : List ℕ) : Type 0 where
  pub done : Begun
  pub is : headed limit begun tags (own ++ more) ≡ record { begun = done; contents = Some contents }
  pub heads : List (List ℕ)
  pub added : done.heads ≡ begun.heads ++ heads
  pub form : own ≡ flat heads ++ contents
  pub next : done.next ≡ begun.next + length (flat heads)
  pub size : done.size ≡ Some (length contents)
  pub at : done.at ≡ begun.at
  pub depth : done.depth ≡ begun.depth
  pub layers : done.layers ≡ begun.layers

pub reads-last : (limit : ℕ) (begun : Begun) (tag : Tag) (contents more : List ℕ) → length contents < 2 ^ 32 → begun.next + length (item (octet_of tag) contents) ≤ limit → Reads limit begun (tag ∷ []) (item (octet_of tag) contents) more contents
reads-last limit begun tag contents more short within = record {
  done = with_head begun tag (head_of (octet_of tag) (length contents)) (Some (length contents));
  is = head-step limit begun tag [] contents more short (omega (arith, length-item (octet_of tag) contents));
  heads = head_of (octet_of tag) (length contents) ∷ [];
  added = refl;
  form = ap (λ l. l ++ contents) (sym (append-nil (head_of (octet_of tag) (length contents))));
  next = ap (λ l. begun.next + length l) (sym (append-nil (head_of (octet_of tag) (length contents))));
  size = refl;
  at = refl;
  depth = refl;
  layers = refl;
}

pub reads-more : (limit : ℕ) (begun : Begun) (tag : Tag) (tags : List Tag) (own more contents : List ℕ) → length own < 2 ^ 32 → begun.next + length (item (octet_of tag) own) ≤ limit
    → Reads limit (with_head begun tag (head_of (octet_of tag) (length own)) (Some (length own))) tags own [] contents → Reads limit begun (tag ∷ tags) (item (octet_of tag) own) more contents
reads-more limit begun tag tags own more contents short within inner = record {
  done = inner.done;
  is = head-step limit begun tag tags own more short (omega (arith, length-item (octet_of tag) own)) ∙ ap (headed limit (with_head begun tag (head_of (octet_of tag) (length own)) (Some (length own))) tags) (sym (append-nil own)) ∙ inner.is;
  heads = head_of (octet_of tag) (length own) ∷ inner.heads;
  added = inner.added ∙ append_assoc begun.heads (head_of (octet_of tag) (length own) ∷ []) inner.heads;
  form = ap (λ l. head_of (octet_of tag) (length own) ++ l) inner.form ∙ sym (append_assoc (head_of (octet_of tag) (length own)) (flat inner.heads) contents);
  next = inner.next ∙ omega (arith, length-append (head_of (octet_of tag) (length own)) (flat inner.heads));
  size = inner.size;
  at = inner.at;
  depth = inner.depth;
  layers = inner.layers;
}

-- ---- how many octets an item has
pub count-item : (tag : ℕ) (contents more : List ℕ) → length contents < 2 ^ 32 → count_in (item tag contents ++ more) ≡ length (item tag contents)
count-item tag contents more short =
    ap (λ f. count_by f (item tag contents ++ more)) (ap head_in (item-append tag contents more) ∙ head-of-length tag (length contents) (contents ++ more) short)
    ∙ omega (arith, length-item tag contents, length-append (item tag contents) more)
