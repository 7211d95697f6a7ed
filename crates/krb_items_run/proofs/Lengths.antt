-- A length that is believed: how great it is, where octets of it are refused, and what is listed of them.
use Rattle.std.proofs.Common.{◌≡◌, ℕ, ◌+◌, ◌-◌, ◌^◌, ◌<◌, ◌≤◌, Bool, true, false, ◌&&◌, ◌==◌, if◌then◌else◌, List, ◌++◌, min, length, drop, take, Option, Some, None, refl, sym, ap, ◌∙◌, arith, length-drop}
use Rattle.std.specs.Prelude.{nat_le}
use Rattle.std.proofs.lemmas.Bool.{leb-true}
use Rattle.krb_der.specs.declared.profile.Profile.{Profile}
use Rattle.krb_der.specs.declared.verdict.Refusal.{Refusal}
use Rattle.krb_der.specs.declared.verdict.Verdict.TheVariants as verdict
use Rattle.krb_msg.specs.Grammar.{messages}
use Rattle.krb_msg.specs.Judgement.{judgement}
use Rattle.krb_msg.proofs.Grammars.{refusal_is_final}
use Rattle.krb_record.specs.Labels.{Label, line_of}
use Rattle.krb_run.proofs.FirstOctets.{take-few}
use Rattle.krb_items.specs.Reached.{announced, believed, believed_by, is_of_length}
use Rattle.krb_items.specs.declared.listing.Listed.{Listed}
use Rattle.krb_items.specs.declared.reaching.Lies.{Lies}
use Rattle.krb_items.specs.declared.reaching.Lies.TheVariants as lies
use Rattle.krb_items_run.specs.Items.{Listable, believed_record, believed_text, front_listable, front_verdict, reached_of, start_of}

-- ---- how great it is
chosen-small : (is_length ends fits : Bool) (all size : ℕ) → (fits ≡ true → all < 2 ^ 31) → Some size ≡ (if is_length && ends && fits then Some all else None) → size < 2 ^ 31
chosen-small true true true all size small e = let same : size ≡ all = cc in omega (arith, small refl)
chosen-small true true false all size small e = cc
chosen-small true false fits all size small e = cc
chosen-small false ends fits all size small e = cc

small-by : (refusal : Refusal) (first : _) (size : ℕ) → Some size ≡ believed_by refusal first → size < 2 ^ 31
small-by refusal None size e = cc
small-by refusal (Some first) size e =
    chosen-small (is_of_length refusal.why) (first.header == refusal.place + 1) (nat_le first.all 2147483647) first.all size
    (λ fits. let few = leb-true first.all 2147483647 fits in omega (arith, few)) e

pub believed-small : (lies : Lies) (octets : List ℕ) (refusal : Refusal) (size : ℕ) → Some size ≡ believed lies octets refusal → size < 2 ^ 31
believed-small lies octets refusal size = small-by refusal (announced lies octets) size

-- ---- what is refused of that length
message-within : (profile : Profile) (size : ℕ) (octets : List ℕ) (refusal : Refusal) → length octets ≤ size → verdict.Refused refusal ≡ judgement profile size octets → refusal.place < length octets
message-within profile size octets refusal few e = (refusal_is_final (messages profile) size octets refusal.place refusal.why few (sym e)).within

-- its place after the length of a frame has a number, too
pub start-fits : (profile : Profile) (lying : Lies) (size : ℕ) (octets : List ℕ) (refusal : Refusal) → length octets ≤ size → size < 2 ^ 31 → refusal.place < 2 ^ 32 → verdict.Refused refusal ≡ front_verdict profile lying size octets → start_of lying + refusal.place < 2 ^ 32
start-fits profile lies.Framed size octets refusal few small is e =
    let left : length (drop 4 octets) ≤ size - 4 = omega (arith, length-drop 4 octets, few) in
    let within = message-within profile (size - 4) (drop 4 octets) refusal left e in
    omega (arith, within, left, small)
start-fits profile lies.Ticket size octets refusal few small is e = omega (arith, is)
start-fits profile lies.Alone size octets refusal few small is e = omega (arith, is)
start-fits profile lies.Gss size octets refusal few small is e = omega (arith, is)
start-fits profile (lies.Spnego neg) size octets refusal few small is e = omega (arith, is)

-- ---- what is listed of that length
first-few : (octets : List ℕ) (size count : ℕ) → count ≡ min (length octets) size → take count octets ≡ take size octets
first-few octets size count is =
    let least : count ≡ min size (length octets) = omega (arith, is) in
    ap (λ n. take n octets) least ∙ take-few size octets

pub believed-listed : (label : Label) (profile : Profile) (lying : Lies) (octets text : List ℕ) (believing : Option ℕ) (size count : ℕ) (listed : Listed) (after : List ℕ) (found : Listable) → Some size ≡ believing → count ≡ min (length octets) size
    → after ≡ text ++ line_of label (believed_record size (length octets)) → found ≡ front_listable profile lying size (take count octets) → listed ≡ reached_of label after found (take count octets)
    → listed.text ≡ believed_text label profile lying octets text believing
unfolding believed_text
believed-listed label profile lying octets text believing size count listed after found some least put judged made =
    let before : List ℕ = text ++ line_of label (believed_record size (length octets)) in
    ap (λ (l : Listed). l.text) made
    ∙ ap (λ a. (reached_of label a found (take count octets)).text) put
    ∙ ap (λ f. (reached_of label before f (take count octets)).text) judged
    ∙ ap (λ front. (reached_of label before (front_listable profile lying size front) front).text) (first-few octets size count least)
    ∙ ap (λ b. believed_text label profile lying octets text b) some
