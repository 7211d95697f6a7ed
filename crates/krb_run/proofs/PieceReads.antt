-- Octets that are read into a piece, and given.
use Rattle.std.proofs.Common.{◌≡◌, ℕ, ◌+◌, ◌-◌, ◌≤◌, List, [], ◌∷◌, ◌++◌, length, take, drop, Option, Some, None, Result, refl, sym, ◌∙◌, ap, ap₂, subst, arith, append_assoc, length-append, length-take, length-drop, take-append-drop}
use Rattle.std.specs.Io.KnownBytes.{Consumes, IsAtEnd, ReadConsumes, prepend_known}
use Rattle.std.proofs.KnownBytes.{prepend_known-nil}
use Rattle.std.proofs.Math.Seq.{take-append-add}
use Rattle.std.proofs.lemmas.List.{drop-drop, drop_all, take-append-le, take_at}
use borrow.Rule.Slice.PartMut.{post_of}

-- octets come after those that are there
filled-by : (room buffer : List ℕ) (filled count : ℕ) → filled ≤ length room → count ≤ length buffer → take (filled + count) (take filled room ++ (buffer ++ post_of filled (length room - filled) room)) ≡ take filled room ++ take count buffer
filled-by room buffer filled count inside few =
    let rest = post_of filled (length room - filled) room in
    let long : filled ≡ length (take filled room) = omega (arith, inside, length-take filled room) in
    ap (λ n. take (n + count) (take filled room ++ (buffer ++ rest))) long
    ∙ take-append-add (take filled room) (buffer ++ rest) count
    ∙ ap (λ l. take filled room ++ l) (take-append-le count buffer rest few)

pub reads-after : (items room buffer : List ℕ) (given filled count : ℕ) → given ≡ 0 → items ≡ take filled room ++ (buffer ++ post_of filled (length room - filled) room) → filled ≤ length room → count ≤ length buffer → drop given (take (filled + count) items) ≡ take filled room ++ take count buffer
reads-after items room buffer given filled count none is inside few =
    ap₂ (λ n l. drop n (take (filled + count) l)) none is
    ∙ filled-by room buffer filled count inside few

pub filled-length : (room buffer : List ℕ) (filled : ℕ) → filled ≤ length room → length buffer ≡ length room - filled → length (take filled room ++ (buffer ++ post_of filled (length room - filled) room)) ≡ length room
filled-length room buffer filled inside size =
    let rest = post_of filled (length room - filled) room in
    let none : rest ≡ [] = drop_all (length room - filled) (drop filled room) (omega (arith, length-drop filled room)) in
    omega (arith, inside, size, ap (λ (l : List ℕ). length l) none, length-append (take filled room) (buffer ++ rest), length-append buffer rest, length-take filled room)

-- octets are given from the first on
pub given-first : (octets buffer copied : List ℕ) (given n : ℕ) → copied ≡ take n (drop given octets) → length copied ≡ n → drop given octets ≡ take n (copied ++ drop n buffer) ++ drop (given + n) octets
given-first octets buffer copied given n is size =
    sym (take-append-drop n (drop given octets))
    ∙ ap₂ (λ a b. a ++ b) (sym is ∙ sym (take_at copied (drop n buffer) n size)) (drop-drop n given octets)

-- what was read is given before what is left
pub reads-front : (had left : Option (List ℕ)) (all front rest : List ℕ) → Consumes had left all → all ≡ front ++ rest → Consumes had (prepend_known rest left) front
reads-front None left all front rest c e = tt
reads-front (Some xs) None all front rest c e = absurd c
reads-front (Some xs) (Some ys) all front rest c e = c ∙ ap (λ l. l ++ ys) e ∙ append_assoc front rest ys

pub gives-front : (all front rest : List ℕ) (others : Option (List ℕ)) → all ≡ front ++ rest → Consumes (prepend_known all others) (prepend_known rest others) front
gives-front all front rest None e = tt
gives-front all front rest (Some xs) e = ap (λ l. l ++ xs) e ∙ append_assoc front rest xs

pub none-left : (all front rest : List ℕ) → all ≡ front ++ rest → length all ≡ 0 → rest ≡ []
none-left all front [] e none = refl
none-left all front (x ∷ rest) e none = absurd (omega (arith, none, ap (λ (l : List ℕ). length l) e, length-append front (x ∷ rest)))

pub ends-at : (rest : List ℕ) (left : Option (List ℕ)) → rest ≡ [] → IsAtEnd left → IsAtEnd (prepend_known rest left)
ends-at rest left none end = subst (λ l. IsAtEnd (prepend_known l left)) (sym none) (subst IsAtEnd (sym (prepend_known-nil left)) end)

-- nothing was there
pub nothing-before : (octets : List ℕ) (others : Option (List ℕ)) → octets ≡ [] → prepend_known octets others ≡ others
nothing-before octets others none = ap (λ l. prepend_known l others) none ∙ prepend_known-nil others

pub empty-read : {E : Type 0} (a b : List ℕ) (old new : Option (List ℕ)) (read : Result ℕ E) (buffer : List ℕ) → a ≡ [] → b ≡ [] → ReadConsumes old new read buffer → ReadConsumes (prepend_known a old) (prepend_known b new) read buffer
empty-read a b old new read buffer p q r =
    subst (λ l. ReadConsumes (prepend_known a old) l read buffer) (sym (nothing-before b new q)) (subst (λ h. ReadConsumes h new read buffer) (sym (nothing-before a old p)) r)
