-- What follows a beginning of a text, and the texts that begin so.
use Rattle.std.proofs.Common.{ℕ, Bor, IfSome, ◌≡◌, ◌∙◌, ◌++◌, ◌&&◌, ◌||◌, Bool, true, false, List, [], ◌∷◌, Option, Some, None, ap, ap₂, codes, drop, if◌then◌else◌, length, map, refl, sym, take}
use Rattle.std.proofs.Math.Seq.{drop-append_seam, take-append_seam}
use Rattle.std.proofs.lemmas.Bool.Decides.{Decides-eqb}
use Rattle.std.proofs.lemmas.List.{append_assoc, take-append-drop}
use Rattle.std.proofs.lemmas.Option.{none-some}
use Rattle.std.proofs.lemmas.Slice.Eq.{bytes_eq-Decides}
use Rattle.std.specs.Str.{bytes_eq}
use Rattle.krb_fields.specs.Names.{is_among, name_text}
use Rattle.krb_fields.specs.declared.found.Name.{Name}
use Rattle.krb_fields.specs.inner.Stripped.{after, after_dot, after_kind}
use Rattle.krb_fields.proofs.Anys.{any_map}

pub after_is : (b w t : List ℕ) → after b w ≡ Some t → b ++ t ≡ w
after_is b w t = by (bytes_eq (take (length b) w) b) refl
  where
    by : (same : Bool) → bytes_eq (take (length b) w) b ≡ same → (if same then Some (drop (length b) w) else None) ≡ Some t → b ++ t ≡ w
    by true same is =
        let rest : drop (length b) w ≡ t = cc in
        ap₂ (λ x y. x ++ y) (sym ((bytes_eq-Decides (take (length b) w) b).0 same)) (sym rest) ∙ take-append-drop (length b) w
    by false same is = absurd cc

pub after_itself : (b t : List ℕ) → after b (b ++ t) ≡ Some t
after_itself b t =
    ap₂ (λ x y. if bytes_eq x b then Some y else None) (take-append_seam b t) (drop-append_seam b t)
    ∙ ap (λ same. if same then Some t else None) ((bytes_eq-Decides b b).1 refl)

differs : (b w t : List ℕ) → after b w ≡ None → bytes_eq w (b ++ t) ≡ false
differs b w t none = by (bytes_eq w (b ++ t)) refl
  where
    by : (same : Bool) → bytes_eq w (b ++ t) ≡ same → bytes_eq w (b ++ t) ≡ false
    by true same = absurd (none-some t (sym none ∙ ap (after b) ((bytes_eq-Decides w (b ++ t)).0 same) ∙ after_itself b t))
    by false same = same

-- a text that does not begin so is none of those that do
pub after_none : (b w : List ℕ) → (texts : List (List ℕ)) → after b w ≡ None → is_among w (map (λ t. b ++ t) texts) ≡ false
after_none b w [] none = refl
after_none b w (t ∷ texts) none = ap₂ (λ x y. x || y) (differs b w t none) (after_none b w texts none)

same_after : (b t other : List ℕ) → bytes_eq (b ++ t) (b ++ other) ≡ bytes_eq t other
same_after [] t other = refl
same_after (octet ∷ b) t other = ap (λ same. same && bytes_eq (b ++ t) (b ++ other)) ((Decides-eqb octet octet).1 refl) ∙ same_after b t other

-- and one that does is one of them if what follows is one of what follows them
pub after_some : (b t : List ℕ) → (texts : List (List ℕ)) → is_among (b ++ t) (map (λ t. b ++ t) texts) ≡ is_among t texts
after_some b t [] = refl
after_some b t (other ∷ texts) = ap₂ (λ x y. x || y) (same_after b t other) (after_some b t texts)

pub after_among : (b w t : List ℕ) → (texts : List (List ℕ)) → after b w ≡ Some t → is_among w (map (λ t. b ++ t) texts) ≡ is_among t texts
after_among b w t texts is = ap (λ text. is_among text (map (λ t. b ++ t) texts)) (sym (after_is b w t is)) ∙ after_some b t texts

-- ---- a kind and a dot
within : (k : List ℕ) → (w : List ℕ) → (names : List (List ℕ)) → is_among w (map (λ name. k ++ (codes "." ++ name)) names) ≡ is_among w (map (λ t. k ++ t) (map (λ t. codes "." ++ t) names))
within k w names =
    any_map (bytes_eq w) (λ name. k ++ (codes "." ++ name)) names
    ∙ sym (any_map (λ t. bytes_eq w (k ++ t)) (λ t. codes "." ++ t) names)
    ∙ sym (any_map (bytes_eq w) (λ t. k ++ t) (map (λ t. codes "." ++ t) names))

pub kind_is : (k w t : List ℕ) → after_kind k w ≡ Some t → k ++ (codes "." ++ t) ≡ w
kind_is k w t = by (after k w) refl
  where
    by : (rest : Option (List ℕ)) → after k w ≡ rest → after_dot rest ≡ Some t → k ++ (codes "." ++ t) ≡ w
    by None first second = absurd cc
    by (Some rest) first second = ap (λ r. k ++ r) (after_is (codes ".") rest t second) ∙ after_is k w rest first

pub kind_none : (k w : List ℕ) → (names : List (List ℕ)) → after_kind k w ≡ None → is_among w (map (λ name. k ++ (codes "." ++ name)) names) ≡ false
kind_none k w names none = within k w names ∙ by (after k w) refl none
  where
    by : (rest : Option (List ℕ)) → after k w ≡ rest → after_dot rest ≡ None → is_among w (map (λ t. k ++ t) (map (λ t. codes "." ++ t) names)) ≡ false
    by None first second = after_none k w (map (λ t. codes "." ++ t) names) first
    by (Some rest) first second = after_among k w rest (map (λ t. codes "." ++ t) names) first ∙ after_none (codes ".") rest names second

pub kind_among : (k w t : List ℕ) → (names : List (List ℕ)) → after_kind k w ≡ Some t → is_among w (map (λ name. k ++ (codes "." ++ name)) names) ≡ is_among t names
kind_among k w t names is = within k w names ∙ by (after k w) refl is
  where
    by : (rest : Option (List ℕ)) → after k w ≡ rest → after_dot rest ≡ Some t → is_among w (map (λ t. k ++ t) (map (λ t. codes "." ++ t) names)) ≡ is_among t names
    by None first second = absurd cc
    by (Some rest) first second = after_among k w rest (map (λ t. codes "." ++ t) names) first ∙ after_among (codes ".") rest t names second

-- ---- what is found
pub ending_text : (ending : Option (Bor (List ℕ))) → (b w t : List ℕ) → IfSome ending (λ e. e.now ≡ t) → after b w ≡ Some t → IfSome ending (λ e. b ++ e.now ≡ w)
ending_text None b w t same found = tt
ending_text (Some e) b w t same found = ap (λ rest. b ++ rest) same ∙ after_is b w t found

pub within_text_is : (name : Option Name) → (k w t : List ℕ) → IfSome name (λ n. name_text n ≡ k ++ codes "." ++ t) → after_kind k w ≡ Some t → IfSome name (λ n. name_text n ≡ w)
within_text_is None k w t same found = tt
within_text_is (Some n) k w t same found = same ∙ append_assoc k (codes ".") t ∙ kind_is k w t found
