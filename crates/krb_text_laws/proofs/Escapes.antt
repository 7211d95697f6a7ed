-- A principal's text determines its components and its realm.
use Rattle.std.proofs.Common.{◌≡◌, ℕ, ◌+◌, ◌/◌, ◌%◌, ◌<◌, ◌≤◌, ◌⊎◌, inl, inr, Bool, true, false, List, [], ◌∷◌, ◌++◌, refl, sym, ◌∙◌, ap, arith, append_assoc, codes}
use Rattle.std.proofs.lemmas.Bool.{cases_lt}
use Rattle.std.proofs.lemmas.Bool.Decides.{nat_tests}
use Rattle.std.specs.List.{flat_map, AllByRecursion}
use Rattle.std.specs.Fmt.{digit_glyph}
use Rattle.krb_der.specs.Octets.{AreOctets}
use Rattle.krb_record.specs.Text.{is_plain, two_hex, escape_octet, escape, principal_text}
use Rattle.krb_record.proofs.Escapes.{plain, plain-range}

-- ---- digits
glyph-small : (d : ℕ) → d < 10 → digit_glyph false d ≡ 48 + d
glyph-small d h = grind (arith, nat_tests)

glyph-large : (d : ℕ) → 10 ≤ d → digit_glyph false d ≡ 87 + d
glyph-large d h = grind (arith, nat_tests)

same_glyph : (d e : ℕ) → d < 16 → e < 16 → digit_glyph false d ≡ digit_glyph false e → d ≡ e
same_glyph d e h k same =
    elim (cases_lt d 10) [
      | inl a ↦ elim (cases_lt e 10) [
        | inl b ↦ omega (arith, glyph-small d a, glyph-small e b)
        | inr b ↦ omega (arith, glyph-small d a, glyph-large e b)
      ]
      | inr a ↦ elim (cases_lt e 10) [
        | inl b ↦ omega (arith, glyph-large d a, glyph-small e b)
        | inr b ↦ omega (arith, glyph-large d a, glyph-large e b)
      ]
    ]

-- ---- an octet
-- what follows an escaped text: nothing, or `/` or `@`
abbrev Stops : List ℕ → Type 0
Stops [] = Unit {0}
Stops (next ∷ rest) = (next ≡ 47) ⊎ (next ≡ 64)

hidden : (o : ℕ) → is_plain o ≡ false → escape_octet o ≡ 92 ∷ 120 ∷ two_hex o
hidden o e = rw e

plain-slash : (o : ℕ) → is_plain o ≡ true → o ≡ 47 → ⊥
plain-slash o e h = grind (arith, nat_tests)

plain-at : (o : ℕ) → is_plain o ≡ true → o ≡ 64 → ⊥
plain-at o e h = grind (arith, nat_tests)

plain-backslash : (o : ℕ) → is_plain o ≡ true → o ≡ 92 → ⊥
plain-backslash o e h = grind (arith, nat_tests)

-- ---- two escaped texts
head-same : (x y : ℕ) (xs ys : List ℕ) → x ∷ xs ≡ y ∷ ys → x ≡ y
head-same x y xs ys e = cc

tail-same : (x y : ℕ) (xs ys : List ℕ) → x ∷ xs ≡ y ∷ ys → xs ≡ ys
tail-same x y xs ys e = cc

same_octet_by : (x y : ℕ) (xs ys : List ℕ) → x < 256 → y < 256 → (p q : Bool) → is_plain x ≡ p → is_plain y ≡ q → escape_octet x ++ xs ≡ escape_octet y ++ ys → (x ≡ y) × (xs ≡ ys)
same_octet_by x y xs ys h k true true p q e =
    let f : x ∷ xs ≡ y ∷ ys = rw (plain x p, plain y q) at e in
    (head-same _ _ _ _ f, tail-same _ _ _ _ f)
same_octet_by x y xs ys h k true false p q e =
    let f : x ∷ xs ≡ 92 ∷ 120 ∷ (two_hex y ++ ys) = rw (plain x p, hidden y q) at e in
    absurd (plain-backslash x p (head-same _ _ _ _ f))
same_octet_by x y xs ys h k false true p q e =
    let f : 92 ∷ 120 ∷ (two_hex x ++ xs) ≡ y ∷ ys = rw (hidden x p, plain y q) at e in
    absurd (plain-backslash y q (sym (head-same _ _ _ _ f)))
same_octet_by x y xs ys h k false false p q e =
    let f : 92 ∷ 120 ∷ (two_hex x ++ xs) ≡ 92 ∷ 120 ∷ (two_hex y ++ ys) = rw (hidden x p, hidden y q) at e in
    let g = tail-same _ _ _ _ (tail-same _ _ _ _ f) in
    let high = same_glyph (x / 16) (y / 16) (omega arith) (omega arith) (head-same _ _ _ _ g) in
    let r = tail-same _ _ _ _ g in
    let low = same_glyph (x % 16) (y % 16) (omega arith) (omega arith) (head-same _ _ _ _ r) in
    (omega arith, tail-same _ _ _ _ r)

same_octet : (x y : ℕ) (xs ys : List ℕ) → x < 256 → y < 256 → escape_octet x ++ xs ≡ escape_octet y ++ ys → (x ≡ y) × (xs ≡ ys)
same_octet x y xs ys h k e = same_octet_by x y xs ys h k (is_plain x) (is_plain y) refl refl e

-- no escaped octet begins what stops
goes_on_by : (x : ℕ) (xs rest : List ℕ) → (p : Bool) → is_plain x ≡ p → Stops rest → rest ≡ escape_octet x ++ xs → ⊥
goes_on_by x xs [] true p s e = let f : [] ≡ x ∷ xs = rw (plain x p) at e in cc
goes_on_by x xs [] false p s e = let f : [] ≡ 92 ∷ 120 ∷ (two_hex x ++ xs) = rw (hidden x p) at e in cc
goes_on_by x xs (next ∷ rest) true p (inl s) e = let f : next ∷ rest ≡ x ∷ xs = rw (plain x p) at e in plain-slash x p (sym (head-same _ _ _ _ f) ∙ s)
goes_on_by x xs (next ∷ rest) true p (inr s) e = let f : next ∷ rest ≡ x ∷ xs = rw (plain x p) at e in plain-at x p (sym (head-same _ _ _ _ f) ∙ s)
goes_on_by x xs (next ∷ rest) false p (inl s) e = let f : next ∷ rest ≡ 92 ∷ 120 ∷ (two_hex x ++ xs) = rw (hidden x p) at e in absurd (omega (arith, head-same _ _ _ _ f))
goes_on_by x xs (next ∷ rest) false p (inr s) e = let f : next ∷ rest ≡ 92 ∷ 120 ∷ (two_hex x ++ xs) = rw (hidden x p) at e in absurd (omega (arith, head-same _ _ _ _ f))

goes_on : (x : ℕ) (xs rest : List ℕ) → Stops rest → rest ≡ escape_octet x ++ xs → ⊥
goes_on x xs rest s e = goes_on_by x xs rest (is_plain x) refl s e

-- ---- an escaped text is read back up to where it stops
pub same_escaped : (xs ys rest others : List ℕ) → AreOctets xs → AreOctets ys → Stops rest → Stops others → escape xs ++ rest ≡ escape ys ++ others → (xs ≡ ys) × (rest ≡ others)
same_escaped [] [] rest others h k s t e = (refl, e)
same_escaped [] (y ∷ ys) rest others h k s t e = absurd (goes_on y (escape ys ++ others) rest s (e ∙ append_assoc (escape_octet y) (escape ys) others))
same_escaped (x ∷ xs) [] rest others h k s t e = absurd (goes_on x (escape xs ++ rest) others t (sym e ∙ append_assoc (escape_octet x) (escape xs) rest))
same_escaped (x ∷ xs) (y ∷ ys) rest others h k s t e =
    let f = sym (append_assoc (escape_octet x) (escape xs) rest) ∙ e ∙ append_assoc (escape_octet y) (escape ys) others in
    let first = same_octet x y (escape xs ++ rest) (escape ys ++ others) h.0 k.0 f in
    let more = same_escaped xs ys rest others h.1 k.1 s t first.1 in
    (rw (first.0, more.0) refl, more.1)

append-nil : (xs : List ℕ) → xs ++ [] ≡ xs
append-nil [] = refl
append-nil (x ∷ xs) = ap (λ l. x ∷ l) (append-nil xs)

pub escape-injective : (xs ys : List ℕ) → AreOctets xs → AreOctets ys → escape xs ≡ escape ys → xs ≡ ys
escape-injective xs ys h k e =
    (same_escaped xs ys [] [] h k tt tt (append-nil (escape xs) ∙ e ∙ sym (append-nil (escape ys)))).0

-- ---- a principal
abbrev AllAreOctets : List (List ℕ) → Type 0
AllAreOctets lists = AllByRecursion AreOctets lists

abbrev others_text : List (List ℕ) → List ℕ
others_text others = flat_map (λ other. codes "/" ++ escape other) others

stops-others : (others : List (List ℕ)) (realm : List ℕ) → Stops (others_text others ++ (64 ∷ escape realm))
stops-others [] realm = inr refl
stops-others (other ∷ others) realm = inl refl

same_others : (os ps : List (List ℕ)) (r s : List ℕ) → AllAreOctets os → AllAreOctets ps → AreOctets r → AreOctets s → others_text os ++ (64 ∷ escape r) ≡ others_text ps ++ (64 ∷ escape s) → (os ≡ ps) × (r ≡ s)
same_others [] [] r s h k hr ks e = (refl, escape-injective r s hr ks (tail-same _ _ _ _ e))
same_others (o ∷ os) (p ∷ ps) r s h k hr ks e =
    let f = sym (append_assoc (escape o) (others_text os) (64 ∷ escape r)) ∙ tail-same _ _ _ _ e ∙ append_assoc (escape p) (others_text ps) (64 ∷ escape s) in
    let first = same_escaped o p _ _ h.0 k.0 (stops-others os r) (stops-others ps s) f in
    let more = same_others os ps r s h.1 k.1 hr ks first.1 in
    (rw (first.0, more.0) refl, more.1)
same_others other another r s h k hr ks e = absurd (omega (arith, head-same _ _ _ _ e))

-- no component's text begins with `\-`
no_dash_by : (x : ℕ) (xs rest : List ℕ) → (p : Bool) → is_plain x ≡ p → escape_octet x ++ xs ≡ 92 ∷ 45 ∷ rest → ⊥
no_dash_by x xs rest true p e = let f : x ∷ xs ≡ 92 ∷ 45 ∷ rest = rw (plain x p) at e in plain-backslash x p (head-same _ _ _ _ f)
no_dash_by x xs rest false p e = let f : 92 ∷ 120 ∷ (two_hex x ++ xs) ≡ 92 ∷ 45 ∷ rest = rw (hidden x p) at e in absurd (omega (arith, head-same _ _ _ _ (tail-same _ _ _ _ f)))

no_dash : (o after rest : List ℕ) → Stops after → escape o ++ after ≡ 92 ∷ 45 ∷ rest → ⊥
no_dash [] [] rest s e = cc
no_dash [] (next ∷ after) rest (inl s) e = absurd (omega (arith, head-same _ _ _ _ e))
no_dash [] (next ∷ after) rest (inr s) e = absurd (omega (arith, head-same _ _ _ _ e))
no_dash (x ∷ xs) after rest s e = no_dash_by x (escape xs ++ after) rest (is_plain x) refl (sym (append_assoc (escape_octet x) (escape xs) after) ∙ e)

principal-cons : (c : List ℕ) (cs : List (List ℕ)) (r : List ℕ) → principal_text (c ∷ cs) r ≡ escape c ++ (others_text cs ++ (64 ∷ escape r))
unfolding principal_text
principal-cons c cs r = simp append_assoc

-- different components or realms have different texts
pub principal_text-injective : (cs ds : List (List ℕ)) (r s : List ℕ) → AllAreOctets cs → AllAreOctets ds → AreOctets r → AreOctets s → principal_text cs r ≡ principal_text ds s → (cs ≡ ds) × (r ≡ s)
unfolding principal_text
principal_text-injective [] [] r s h k hr ks e = (refl, escape-injective r s hr ks (tail-same _ _ _ _ (tail-same _ _ _ _ (tail-same _ _ _ _ e))))
principal_text-injective [] (d ∷ ds) r s h k hr ks e = absurd (no_dash d _ _ (stops-others ds s) (sym (principal-cons d ds s) ∙ sym e))
principal_text-injective (c ∷ cs) [] r s h k hr ks e = absurd (no_dash c _ _ (stops-others cs r) (sym (principal-cons c cs r) ∙ e))
principal_text-injective (c ∷ cs) (d ∷ ds) r s h k hr ks e =
    let f = sym (principal-cons c cs r) ∙ e ∙ principal-cons d ds s in
    let first = same_escaped c d _ _ h.0 k.0 (stops-others cs r) (stops-others ds s) f in
    let more = same_others cs ds r s h.1 k.1 hr ks first.1 in
    (rw (first.0, more.0) refl, more.1)

-- ---- an escaped text prints only 21 to 7E
abbrev pub IsGraphic : List ℕ → Type 0
IsGraphic text = AllByRecursion (λ c. (33 ≤ c) × (c ≤ 126)) text

pub glyph-range : (d : ℕ) → d < 16 → (33 ≤ digit_glyph false d) × (digit_glyph false d ≤ 126)
glyph-range d h =
    elim (cases_lt d 10) [
      | inl a ↦ omega (arith, glyph-small d a)
      | inr a ↦ omega (arith, glyph-large d a)
    ]

pub IsGraphic-append : (xs ys : List ℕ) → IsGraphic xs → IsGraphic ys → IsGraphic (xs ++ ys)
IsGraphic-append [] ys h k = k
IsGraphic-append (x ∷ xs) ys h k = (h.0, IsGraphic-append xs ys h.1 k)

IsGraphic-octet_by : (o : ℕ) → o < 256 → (p : Bool) → is_plain o ≡ p → IsGraphic (escape_octet o)
IsGraphic-octet_by o h true p = rw (plain o p) (plain-range o p, tt)
IsGraphic-octet_by o h false p = rw (hidden o p) (omega arith, (omega arith, (glyph-range (o / 16) (omega arith), (glyph-range (o % 16) (omega arith), tt))))

pub IsGraphic-escape : (octets : List ℕ) → AreOctets octets → IsGraphic (escape octets)
IsGraphic-escape [] h = tt
IsGraphic-escape (o ∷ octets) h = IsGraphic-append (escape_octet o) (escape octets) (IsGraphic-octet_by o h.0 (is_plain o) refl) (IsGraphic-escape octets h.1)
