-- What an OCTET STRING holds is filled by its items, and so is each item, however deep it nests.
use Rattle.std.proofs.Common.{◌≡◌, ℕ, zero, suc, ◌+◌, ◌^◌, ◌<◌, ◌≤◌, Bool, true, false, ◌==◌, nat_lt, nat_eq, List, [], ◌∷◌, length, Option, Some, None, is_none, is_some, refl, sym, ◌∙◌, ap, subst, arith, append-nil, cond, eqb-true}
use Rattle.std.proofs.lemmas.Bool.{and_parts}
use Rattle.std.proofs.lemmas.Bool.Decides.{nat_tests}
use Rattle.std.specs.Cmp.Lexicographic.{pointwise}
use Rattle.krb_der.specs.Octets.{AreOctets, item}
use Rattle.krb_der.specs.declared.verdict.Verdict.{Verdict}
use Rattle.krb_der.specs.declared.verdict.Verdict.TheVariants as verdict
use Rattle.krb_der.specs.declared.why.Why.TheVariants as why
use Rattle.krb_judge.specs.Parses.{refusal_by, refused}
use Rattle.krb_msg.specs.Der.{IsDer}
use Rattle.krb_msg.specs.Grammar.{ap_req, encrypted_data, method_data}
use Rattle.krb_msg.specs.Judgement.{term_judgement}
use Rattle.krb_msg.specs.Shape.{is_unambiguous}
use Rattle.krb_msg.specs.Term.{Term, der}
use Rattle.krb_msg.proofs.Grammars.{value_is_decided, whole_is_value}
use Rattle.krb_padata.specs.Grammar.{etype_info, etype_info2, pa_for_user, pa_fx_fast_reply, pa_fx_fast_request, pa_pac_options}
use Rattle.krb_padata.specs.PacRequest.{boolean_octet, pac_request, pac_request_in}
use Rattle.krb_items.specs.Heads.{with_head}
use Rattle.krb_items.specs.Held.{is_all_of, is_held}
use Rattle.krb_items.specs.Items.{Here, begun_here, field_items, here_in, item_items}
use Rattle.krb_items.specs.Shapes.{ItemType, fields_of, held_type, in_tag, truth}
use Rattle.krb_items.specs.Terms.{is_of}
use Rattle.krb_items.specs.declared.shape.Held.TheVariants as helds
use Rattle.krb_items.specs.declared.shape.Leaf.TheVariants as leaves
use Rattle.krb_items.specs.declared.shape.Sequence.TheVariants as sequences
use Rattle.krb_items.specs.declared.tag.Tag.TheVariants as tags
use Rattle.krb_items_laws.proofs.Covering.{Fill, FillHeld, all_of, container-fill, fill-item, inner-at, leaf-enough, reads-fill}
use Rattle.krb_items_laws.proofs.Filling.{AreAt, Fills, at-within, fills-leaf, fills-none, fills-of, fills-same, fills-then}
use Rattle.krb_items_laws.proofs.ReadHeads.{Reads, head_of, reads-last, reads-more}
use Rattle.krb_items_laws.proofs.Types.{nests}

-- ---- what is accepted
-- octets of which a judgement refuses none
pub record IsAccepted (judge : ℕ → List ℕ → Verdict) (octets : List ℕ) : Type 0 where
  pub short : length octets < 2 ^ 31
  pub some : 0 < length octets
  pub judged : refused (judge (length octets) octets) ≡ None

pub accepted : (judge : ℕ → List ℕ → Verdict) (octets : List ℕ) → refusal_by judge octets ≡ None → IsAccepted judge octets
accepted judge octets e = by (nat_lt 2147483647 (length octets)) (length octets == 0) refl refl e
  where
    by : (long empty : Bool) → nat_lt 2147483647 (length octets) ≡ long → (length octets == 0) ≡ empty
        → cond long (Some (record { place = 0; why = why.TooLong })) (cond empty (Some (record { place = 0; why = why.Empty })) (refused (judge (length octets) octets))) ≡ None → IsAccepted judge octets
    by true empty l z e = absurd cc
    by false true l z e = absurd cc
    by false false l z e = record { short = grind (arith, nat_tests); some = grind (arith, nat_tests); judged = e }

pub whole-verdict : (found : Verdict) → refused found ≡ None → (found ≡ verdict.Open → ⊥) → found ≡ verdict.Whole
whole-verdict verdict.Open e undecided = absurd (undecided refl)
whole-verdict verdict.Whole e undecided = refl
whole-verdict (verdict.Refused refusal) e undecided = absurd cc

pub accepted-value : (term : Term) (octets : List ℕ) → AreOctets octets → IsAccepted (term_judgement term) octets → IsDer term octets
accepted-value term octets a is = whole_is_value term octets a (whole-verdict (term_judgement term (length octets) octets) is.judged (value_is_decided term octets is.some))

none-is : {A : Type 0} (found : Option A) → is_none found ≡ true → found ≡ None
none-is None e = refl
none-is (Some a) e = absurd cc

-- ---- what is held
-- octets that are all of one item of a term
of-term : (all : List ℕ) (levels : ℕ) (fill : Fill all levels) (here : Here) (of : ItemType) (term : Term) (octets : List ℕ) → is_of of.tags of.shape None term ≡ true → is_unambiguous term ≡ true → nests levels of ≡ true → AreOctets octets → is_all_of term octets ≡ true → AreAt all here.place octets
    → Fills all here.place here.depth octets (item_items levels (all_of all) here of octets)
of-term all levels fill here of term octets is clear n a h at =
    by (accepted-value term octets a (accepted (term_judgement term) octets (none-is (refusal_by (term_judgement term) octets) h)))
  where
    by : IsDer term octets → Fills all here.place here.depth octets (item_items levels (all_of all) here of octets)
    by d =
        fills-of all here.place here.depth octets _ _ d.form
        (fills-same all here.place here.depth _ _ _ (ap (item_items levels (all_of all) here of) (d.form ∙ sym (append-nil (der term d.value))))
        (fill here of None term d.value [] n is clear d.fits (subst (AreAt all here.place) d.form at)))

-- ---- PA-PAC-REQUEST
same-octets : (octets others : List ℕ) → pointwise nat_eq octets others ≡ true → octets ≡ others
same-octets [] [] e = refl
same-octets (octet ∷ octets) (other ∷ others) e =
    let p = and_parts (nat_eq octet other) (pointwise nat_eq octets others) e in
    (λ i. eqb-true octet other p.0 i ∷ same-octets octets others p.1 i)
same-octets octets others e = absurd cc

a-request : (octets : List ℕ) → is_some (pac_request_in octets) ≡ true → (include : Bool) × (octets ≡ pac_request include)
a-request octets e = by (pointwise nat_eq octets (pac_request true)) (pointwise nat_eq octets (pac_request false)) refl refl e
  where
    by : (first second : Bool) → pointwise nat_eq octets (pac_request true) ≡ first → pointwise nat_eq octets (pac_request false) ≡ second → is_some (cond first (Some true) (cond second (Some false) None)) ≡ true → (include : Bool) × (octets ≡ pac_request include)
    by true second f s e = (true, same-octets octets (pac_request true) f)
    by false true f s e = (false, same-octets octets (pac_request false) s)
    by false false f s e = absurd cc

-- include-pac
abbrev flag-octets : ℕ → List ℕ
flag-octets octet = item 0xA0 (item 0x01 (octet ∷ []))

flag-fill : (all : List ℕ) (levels : ℕ) → length all < 2 ^ 32 → (here : Here) (octet : ℕ) → AreAt all here.place (flag-octets octet)
    → Fills all here.place here.depth (flag-octets octet) (item_items (suc levels) (all_of all) here (in_tag 0 truth) (flag-octets octet))
flag-fill all levels short here octet at =
    let within : here.place + 5 ≤ length all = at-within all here.place (flag-octets octet) at in
    let inner : Reads (length all) (with_head (begun_here here) (tags.Context 0) (head_of 0xA0 3) (Some 3)) (tags.Boolean ∷ []) (item 0x01 (octet ∷ [])) [] (octet ∷ []) =
    reads-last (length all) (with_head (begun_here here) (tags.Context 0) (head_of 0xA0 3) (Some 3)) tags.Boolean (octet ∷ []) [] (omega arith) (omega (arith, within)) in
    let reads : Reads (length all) (begun_here here) (tags.Context 0 ∷ tags.Boolean ∷ []) (flag-octets octet) [] (octet ∷ []) =
    reads-more (length all) (begun_here here) (tags.Context 0) (tags.Boolean ∷ []) (item 0x01 (octet ∷ [])) [] (octet ∷ []) (omega arith) (omega (arith, within)) inner in
    reads-fill all levels here (in_tag 0 truth) (flag-octets octet) [] (octet ∷ []) reads at
    (λ h. fills-same all here.place here.depth _ _ _ (leaf-enough all levels here reads.done leaves.Truth (octet ∷ []) h)
    (fills-leaf all here.place here.depth (octet ∷ []) (record { name = here.name; begun = reads.done; shown = Some (leaves.Truth, octet ∷ []) }) h))

abbrev request-octets : ℕ → List ℕ
request-octets octet = item 0x30 (flag-octets octet)

request-fill : (all : List ℕ) (levels : ℕ) → length all < 2 ^ 32 → (here : Here) (octet : ℕ) → AreAt all here.place (request-octets octet)
    → Fills all here.place here.depth (request-octets octet) (item_items (suc (suc levels)) (all_of all) here (held_type helds.PacRequest) (request-octets octet))
request-fill all levels short here octet at =
    let within : here.place + 7 ≤ length all = at-within all here.place (request-octets octet) at in
    let reads : Reads (length all) (begun_here here) (tags.Sequence ∷ []) (request-octets octet) [] (flag-octets octet) =
    reads-last (length all) (begun_here here) tags.Sequence (flag-octets octet) [] (omega arith) (omega (arith, within)) in
    reads-fill all (suc levels) here (held_type helds.PacRequest) (request-octets octet) [] (flag-octets octet) reads at
    (λ h. container-fill all here reads.done (flag-octets octet) (λ room. field_items (item_items (suc levels) (all_of all)) (here_in here.name reads.done) (fields_of sequences.PacRequest) room (flag-octets octet)) h
    (fills-then all reads.done.next (reads.done.depth + 1) (flag-octets octet) [] _ _
    (flag-fill all levels short (record { layers = (here_in here.name reads.done).layers; name = _; place = reads.done.next; depth = reads.done.depth + 1; number = None }) octet (inner-at all here reads.done (flag-octets octet) h))
    (fills-none all (reads.done.next + 5) (reads.done.depth + 1))))

pac-fill : (all : List ℕ) (levels : ℕ) → length all < 2 ^ 32 → (here : Here) (octets : List ℕ) → nests levels (held_type helds.PacRequest) ≡ true → is_some (pac_request_in octets) ≡ true → AreAt all here.place octets
    → Fills all here.place here.depth octets (item_items levels (all_of all) here (held_type helds.PacRequest) octets)
pac-fill all zero short here octets n e at = absurd cc
pac-fill all (suc zero) short here octets n e at = absurd cc
pac-fill all (suc (suc levels)) short here octets n e at = by (a-request octets e)
  where
    by : (include : Bool) × (octets ≡ pac_request include) → Fills all here.place here.depth octets (item_items (suc (suc levels)) (all_of all) here (held_type helds.PacRequest) octets)
    by (include, same) =
        subst (λ (o : List ℕ). Fills all here.place here.depth o (item_items (suc (suc levels)) (all_of all) here (held_type helds.PacRequest) o)) (sym same)
        (request-fill all levels short here (boolean_octet include) (subst (AreAt all here.place) same at))

-- ---- all
held-fill : (all : List ℕ) (levels : ℕ) → length all < 2 ^ 32 → Fill all levels → FillHeld all levels
unfolding is_held
held-fill all levels short fill here helds.TgsReq octets n a h at = of-term all levels fill here (held_type helds.TgsReq) ap_req octets refl refl n a h at
held-fill all levels short fill here helds.EncTimestamp octets n a h at = of-term all levels fill here (held_type helds.EncTimestamp) encrypted_data octets refl refl n a h at
held-fill all levels short fill here helds.Salt octets n a h at = absurd cc
held-fill all levels short fill here helds.EtypeInfo octets n a h at = of-term all levels fill here (held_type helds.EtypeInfo) etype_info octets refl refl n a h at
held-fill all levels short fill here helds.EtypeInfo2 octets n a h at = of-term all levels fill here (held_type helds.EtypeInfo2) etype_info2 octets refl refl n a h at
held-fill all levels short fill here helds.PacRequest octets n a h at = pac-fill all levels short here octets n h at
held-fill all levels short fill here helds.ForUser octets n a h at = of-term all levels fill here (held_type helds.ForUser) pa_for_user octets refl refl n a h at
held-fill all levels short fill here helds.FastRequest octets n a h at = of-term all levels fill here (held_type helds.FastRequest) pa_fx_fast_request octets refl refl n a h at
held-fill all levels short fill here helds.FastReply octets n a h at = of-term all levels fill here (held_type helds.FastReply) pa_fx_fast_reply octets refl refl n a h at
held-fill all levels short fill here helds.EncryptedChallenge octets n a h at = of-term all levels fill here (held_type helds.EncryptedChallenge) encrypted_data octets refl refl n a h at
held-fill all levels short fill here helds.PacOptions octets n a h at = of-term all levels fill here (held_type helds.PacOptions) pa_pac_options octets refl refl n a h at
held-fill all levels short fill here helds.MethodData octets n a h at = of-term all levels fill here (held_type helds.MethodData) method_data octets refl refl n a h at
held-fill all levels short fill here helds.ApReq octets n a h at = of-term all levels fill here (held_type helds.ApReq) ap_req octets refl refl n a h at

pub fills : (all : List ℕ) → length all < 2 ^ 32 → (levels : ℕ) → Fill all levels
fills all short zero = λ here of names term value more n is clear f at. absurd cc
fills all short (suc levels) = fill-item all levels short (fills all short levels) (held-fill all levels short (fills all short levels))
