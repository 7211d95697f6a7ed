-- The path of a refused message leads to the refused octet.
use Rattle.std.proofs.Common.{◌≡◌, ℕ, ◌≤◌, true, Option, Some, None, List, [], ◌∷◌, length, refl, sym, ◌∙◌, subst, arith}
use Rattle.std.specs.Option.{option_map}
use Rattle.krb_der.specs.declared.profile.Profile.{Profile}
use Rattle.krb_der.specs.declared.profile.Profile.TheVariants.{Lenient, Strict}
use Rattle.krb_der.specs.declared.verdict.Refusal.{Refusal}
use Rattle.krb_msg.specs.Grammar.{messages}
use Rattle.krb_msg.specs.Judgement.{Outcome, Open, Bad, item_outcome, message_outcome}
use Rattle.krb_msg.specs.Views.{kind_with_tag, kind_name, kind_tag, kind_term_in}
use Rattle.krb_msg.specs.declared.message.Kind.{Kind}
use Rattle.krb_msg.specs.declared.message.Kind.TheVariants as kind
use Rattle.krb_msg.proofs.Grammars.{refused_outcome, open_outcome}
use Rattle.krb_msg.proofs.KindLaws.{kind_from_tag}
use Rattle.krb_judge.specs.FieldNames.{names_of_kind}
use Rattle.krb_judge.specs.Laws.{IsPathOf, PathsLeadToRefusals, PathsGoOnToTheLast, PathsLeadToEnds}
use Rattle.krb_judge.specs.Located.{LiesIn, LiesInMessage, BeginsPath}
use Rattle.krb_judge.specs.Paths.{item_path}
use Rattle.krb_message_laws.proofs.Lies.{Stops, Missed, contents-lie, known-lies}
use Rattle.krb_message_laws.proofs.Deepest.{contents-begin, contents-deep, item-deep}

-- octets that begin with the tag of a kind are judged by its term
judged-by : (profile : Profile) (k : Kind) (n : ℕ) (octets : List ℕ) → message_outcome (messages profile) n (kind_tag k ∷ octets) ≡ item_outcome (kind_term_in profile k) n true (kind_tag k ∷ octets)
judged-by Lenient kind.AsReq n octets = refl
judged-by Strict kind.AsReq n octets = refl
judged-by other another n octets = refl

some_is : (x y : List ℕ) → Some x ≡ Some y → x ≡ y
some_is x y e = cc

-- what is known of a message whose first octet is the tag of a kind
record OfKind (profile : Profile) (n tag : ℕ) (octets : List ℕ) (o : Outcome) (path : List ℕ) : Type 0 where
  kind : Kind
  is : kind_with_tag tag ≡ Some kind
  judged : item_outcome (kind_term_in profile kind) n true (tag ∷ octets) ≡ o
  path_is : item_path (kind_term_in profile kind) (names_of_kind kind) (kind_name kind) n true (tag ∷ octets) ≡ path

by_kind : (profile : Profile) (n tag : ℕ) (octets : List ℕ) (o : Outcome) (path : List ℕ) (found : Option Kind) → kind_with_tag tag ≡ found → message_outcome (messages profile) n (tag ∷ octets) ≡ o
    → option_map (λ k. item_path (kind_term_in profile k) (names_of_kind k) (kind_name k) n true (tag ∷ octets)) found ≡ Some path → OfKind profile n tag octets o path
by_kind profile n tag octets o path None is e named = absurd cc
by_kind profile n tag octets o path (Some k) is e named =
    let term = kind_term_in profile k in
    let by_term = subst (λ (t : ℕ). message_outcome (messages profile) n (t ∷ octets) ≡ item_outcome term n true (t ∷ octets)) (kind_from_tag k tag is) (judged-by profile k n octets) in
    record { kind = k; is = is; judged = sym by_term ∙ e; path_is = some_is (item_path term (names_of_kind k) (kind_name k) n true (tag ∷ octets)) path named }

refused-kind : (profile : Profile) (n tag : ℕ) (octets : List ℕ) (r : Refusal) (path : List ℕ) → IsPathOf profile n (tag ∷ octets) r path → OfKind profile n tag octets (Bad r.place r.why) path
refused-kind profile n tag octets r path p = by_kind profile n tag octets (Bad r.place r.why) path (kind_with_tag tag) refl (refused_outcome (message_outcome (messages profile) n (tag ∷ octets)) r.place r.why p.refused) p.found

-- where the judgement stops
kind-lies : (profile : Profile) (n tag : ℕ) (octets : List ℕ) (o : Outcome) (path : List ℕ) (offset : ℕ) → OfKind profile n tag octets o path → length (tag ∷ octets) ≤ n → Stops o (length (tag ∷ octets)) offset → LiesInMessage (Missed o) profile n (tag ∷ octets) offset path
kind-lies profile n tag octets o path offset k fits stop =
    let term = kind_term_in profile k.kind in
    let lie = known-lies term (contents-lie term) (names_of_kind k.kind) (kind_name k.kind) n true (tag ∷ octets) offset o k.judged fits stop in
    (k.kind, k.is, subst (λ (x : List ℕ). LiesIn (Missed o) term (names_of_kind k.kind) (kind_name k.kind) n (tag ∷ octets) offset x) k.path_is lie)

pub paths-lead : PathsLeadToRefusals
paths-lead profile n [] r path p = absurd (omega (arith, p.last))
paths-lead profile n (tag ∷ octets) r path p = kind-lies profile n tag octets (Bad r.place r.why) path r.place (refused-kind profile n tag octets r path p) p.fits (refl, p.last)

-- and of octets that decide nothing
pub paths-end : PathsLeadToEnds
paths-end profile n [] path fits e named = absurd (let none : None ≡ Some path = named in cc)
paths-end profile n (tag ∷ octets) path fits e named =
    let k = by_kind profile n tag octets Open path (kind_with_tag tag) refl (open_outcome (message_outcome (messages profile) n (tag ∷ octets)) e) named in
    kind-lies profile n tag octets Open path (length (tag ∷ octets)) k fits refl

kind_is : (a b : Kind) → Some a ≡ Some b → a ≡ b
kind_is a b e = cc

pub paths-last : PathsGoOnToTheLast
paths-last profile n [] r path other p present lie = absurd lie
paths-last profile n (tag ∷ octets) r path other p present lie =
    let k = refused-kind profile n tag octets r path p in
    let term = kind_term_in profile k.kind in
    let here = subst (λ (x : Kind). LiesIn ⊥ (kind_term_in profile x) (names_of_kind x) (kind_name x) n (tag ∷ octets) r.place other) (kind_is lie.0 k.kind (sym lie.1 ∙ k.is)) lie.2 in
    subst (BeginsPath other) k.path_is (item-deep term (contents-begin term) (contents-deep term) (names_of_kind k.kind) (kind_name k.kind) n true (tag ∷ octets) r.place r.why present p.fits p.last k.judged other here)
