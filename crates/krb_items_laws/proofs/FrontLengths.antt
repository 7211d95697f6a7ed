-- The first length of octets that are accepted and were cut is believed.
use Rattle.std.proofs.Common.{◌++◌, ◌≡◌, ℕ, zero, suc, ◌+◌, ◌-◌, ◌^◌, ◌<◌, ◌≤◌, ◌⊎◌, inl, inr, Bool, true, false, ◌&&◌, ◌||◌, ◌==◌, nat_lt, eqb, List, [], ◌∷◌, length, take, Some, None, refl, sym, ◌∙◌, ap, subst, arith, length-take, lt-ltb, le-ltb, eq-eqb, ne_eqb}
use Rattle.std.proofs.lemmas.Bool.{cases_lt, le-leb}
use Rattle.std.proofs.lemmas.Bool.Decides.{nat_tests}
use Rattle.std.proofs.lemmas.List.{take_all}
use Rattle.krb_der.specs.Octets.{AreOctets, item, length_octets, number}
use Rattle.krb_der.specs.inner.Items.{length-item}
use Rattle.krb_der.specs.declared.profile.Profile.{Profile}
use Rattle.krb_der.specs.declared.profile.Profile.TheVariants as profiles
use Rattle.krb_der.specs.declared.verdict.Refusal.{Refusal}
use Rattle.krb_der.specs.declared.verdict.Verdict.{Verdict}
use Rattle.krb_der.specs.declared.verdict.Verdict.TheVariants as verdict
use Rattle.krb_der.specs.declared.why.Why.{Why}
use Rattle.krb_der.specs.declared.why.Why.TheVariants as why
use Rattle.krb_judge.specs.Parses.{refusal_by, refusal_of, ticket_refusal}
use Rattle.krb_msg.specs.Grammar.{messages, ticket as ticket_term}
use Rattle.krb_msg.specs.Judgement.{Bad, Done, Refused, fitting, head, item_outcome, judgement, message_outcome, term_judgement, verdict_of}
use Rattle.krb_msg.specs.Profiles.{profile_term}
use Rattle.krb_msg.specs.Term.{Term, tag_of}
use Rattle.krb_msg.specs.Views.{kind_term_in}
use Rattle.krb_msg.specs.declared.message.Kind.{Kind}
use Rattle.krb_msg.specs.declared.message.Kind.TheVariants as kinds
use Rattle.krb_msg.specs.inner.Values.{contents, der_is}
use Rattle.krb_msg.proofs.Grammars.{all_is_decided, value_is_decided, whole_outcome}
use Rattle.krb_msg.proofs.KindLaws.{kind_of_one_of}
use Rattle.krb_msg.proofs.Laws.{IsWhole, IsWhole-done}
use Rattle.krb_msg.proofs.Messages.{Choice, IsChosen, choice, one_of_chosen}
use Rattle.krb_source.specs.declared.layer.Layer.TheVariants.{Frame}
use Rattle.krb_token.specs.Opened.{Ticket, message_under, refused_bare, under}
use Rattle.krb_token.specs.Tokens.{frame_of_length, opened}
use Rattle.krb_items.specs.Heads.{head_in}
use Rattle.krb_items.specs.Reached.{announced_by, announced_frame, believed_by}
use Rattle.krb_items.specs.declared.reaching.Lies.TheVariants as lies
use Rattle.krb_items_run.specs.Items.{listable, opened_listable}
use Rattle.krb_items_laws.specs.Fronts.{AreListedAsCut, CutFramesAreBelieved, CutMessagesAreBelieved, CutTicketsAreBelieved}
use Rattle.krb_items_laws.proofs.FirstHeads.{IsHead, head-of-length}
use Rattle.krb_items_laws.proofs.FrontHeads.{HeadKept, head-front}
use Rattle.krb_items_laws.proofs.Holding.{IsAccepted, accepted, whole-verdict}

-- ---- the first head
from-some : {A : Type 0} (a b : A) → Some a ≡ Some b → a ≡ b
from-some a b e = cc

same-head : (octets : List ℕ) (header size other more : ℕ) → IsHead octets header size → IsHead octets other more → (header ≡ other) × (size ≡ more)
same-head octets header size other more a b = let g = from-some _ _ (sym a ∙ b) in (λ i. (g i).header, λ i. (g i).size)

no-head : (octets : List ℕ) (header size : ℕ) → head_in octets ≡ None → IsHead octets header size → ⊥
no-head octets header size a b = let g : None ≡ Some _ = sym a ∙ b in cc

-- a head that is there is judged by whether its contents fit in the room
head-of-in : (room : ℕ) (octets : List ℕ) (header size : ℕ) → IsHead octets header size → header ≤ room → head room octets ≡ fitting room header size
head-of-in room [] header size e w = absurd (no-head [] header size refl e)
head-of-in room (tag ∷ []) header size e w = absurd (no-head (tag ∷ []) header size refl e)
head-of-in room (tag ∷ first ∷ []) header size e w = by (cases_lt first 128)
  where
    by : (first < 128) ⊎ (128 ≤ first) → head room (tag ∷ first ∷ []) ≡ fitting room header size
    by (inl h) =
        let g = same-head (tag ∷ first ∷ []) 2 first header size (rw (lt-ltb first 128 h) refl) e in
        rw (lt-ltb first 128 h) (λ i. fitting room (g.0 i) (g.1 i))
    by (inr h) = absurd (no-head (tag ∷ first ∷ []) header size (rw (le-ltb first 128 h) refl) e)
head-of-in room (tag ∷ first ∷ second ∷ rest) header size e w = by (cases_lt first 128) (((first - 128) == 0) || nat_lt 4 (first - 128) || nat_lt (length (second ∷ rest)) (first - 128)) ((second == 0) || (((first - 128) == 1) && nat_lt second 128)) refl refl
  where
    by : (first < 128) ⊎ (128 ≤ first) → (wide loose : Bool) → (((first - 128) == 0) || nat_lt 4 (first - 128) || nat_lt (length (second ∷ rest)) (first - 128)) ≡ wide → ((second == 0) || (((first - 128) == 1) && nat_lt second 128)) ≡ loose
        → head room (tag ∷ first ∷ second ∷ rest) ≡ fitting room header size
    by (inl h) wide loose x y =
        let g = same-head (tag ∷ first ∷ second ∷ rest) 2 first header size (rw (lt-ltb first 128 h) refl) e in
        rw (lt-ltb first 128 h) (λ i. fitting room (g.0 i) (g.1 i))
    by (inr h) true loose x y = absurd (no-head (tag ∷ first ∷ second ∷ rest) header size (rw (le-ltb first 128 h, x) refl) e)
    by (inr h) false true x y = absurd (no-head (tag ∷ first ∷ second ∷ rest) header size (rw (le-ltb first 128 h, x, y) refl) e)
    by (inr h) false false x y =
        let g = same-head (tag ∷ first ∷ second ∷ rest) (2 + (first - 128)) (number (take (first - 128) (second ∷ rest))) header size (rw (le-ltb first 128 h, x, y) refl) e in
        let some : 0 < first - 128 = grind (arith, nat_tests) in
        let few : first - 128 ≤ 4 = grind (arith, nat_tests) in
        let there : first - 128 ≤ length (second ∷ rest) = grind (arith, nat_tests) in
        rw (le-ltb first 128 h, ne_eqb first 128 (omega (arith, some)), le-ltb 132 first (omega (arith, few)), le-ltb room (2 + (first - 128)) (omega (arith, g.0, w)), y, le-ltb (length (second ∷ rest)) (first - 128) there)
        (λ i. fitting room (g.0 i) (g.1 i))

-- ---- an item that is cut
-- what is there of it is refused at the last octet of its first head, which says how many octets there are
record Overruns (term : Term) (count : ℕ) (octets : List ℕ) : Type 0 where
  header : ℕ
  size : ℕ
  first : head_in (take count octets) ≡ Some (record { header = header; size = size })
  some : 0 < header
  fits : header ≤ count
  all : header + size ≡ length octets
  refused : item_outcome term count true (take count octets) ≡ Bad (header - 1) why.Overrun

head-refused : (term : Term) (room octet : ℕ) (rest : List ℕ) (offset : ℕ) (reason : Why) → eqb octet (tag_of term) ≡ true → eqb room 1 ≡ false → head room (octet ∷ rest) ≡ Refused offset reason → item_outcome term room true (octet ∷ rest) ≡ Bad offset reason
head-refused term room octet rest offset reason t u h = rw (t, u, h) refl

item-overruns : (term : Term) (inner : List ℕ) (count : ℕ) → length (item (tag_of term) inner) < 2 ^ 32 → count < length (item (tag_of term) inner) → HeadKept count (item (tag_of term) inner) → Overruns term count (item (tag_of term) inner)
item-overruns term inner zero short less k = absurd (no-head [] k.header k.size refl k.front)
item-overruns term inner (suc zero) short less k = absurd (no-head (tag_of term ∷ []) k.header k.size refl k.front)
item-overruns term inner (suc (suc count)) short less k =
    let same = same-head (item (tag_of term) inner) k.header k.size (1 + length (length_octets (length inner))) (length inner) k.all
    (head-of-length (tag_of term) (length inner) inner (omega (arith, short, length-item (tag_of term) inner))) in
    let all : k.header + k.size ≡ length (item (tag_of term) inner) = omega (arith, same.0, same.1, length-item (tag_of term) inner) in
    let over : fitting (suc (suc count)) k.header k.size ≡ Refused (k.header - 1) why.Overrun = rw (lt-ltb (suc (suc count)) (k.header + k.size) (omega (arith, all, less))) refl in
    record {
      header = k.header;
      size = k.size;
      first = k.front;
      some = omega (arith, same.0);
      fits = k.fits;
      all = all;
      refused = head-refused term (suc (suc count)) (tag_of term) (take (suc count) (length_octets (length inner) ++ inner)) (k.header - 1) why.Overrun (eq-eqb (tag_of term) (tag_of term) refl) (ne_eqb (suc (suc count)) 1 (omega arith))
          (head-of-in (suc (suc count)) (take (suc (suc count)) (item (tag_of term) inner)) k.header k.size k.front k.fits ∙ over);
    }

done-overruns : (term : Term) (octets : List ℕ) (count n : ℕ) → AreOctets octets → item_outcome term (length octets) true octets ≡ Done n → length octets < 2 ^ 31 → count < length octets → (announced_by (head_in (take count octets)) ≡ None → ⊥) → Overruns term count octets
done-overruns term octets count n a done short less is = by (head-front count octets) (IsWhole-done term (length octets) true octets n a done)
  where
    of-item : (others : List ℕ) → octets ≡ others → (length others < 2 ^ 32 → count < length others → HeadKept count others → Overruns term count others) → HeadKept count octets → Overruns term count octets
    of-item others same next k = subst (Overruns term count) (sym same) (next (omega (arith, short, ap length same)) (omega (arith, less, ap length same)) (subst (HeadKept count) same k))

    by : (head_in (take count octets) ≡ None) ⊎ HeadKept count octets → IsWhole term (length octets) true octets n → Overruns term count octets
    by (inl e) w = absurd (is (ap announced_by e))
    by (inr k) w =
        let form : octets ≡ item (tag_of term) (contents term w.value) = sym (take_all n octets (omega (arith, w.fills refl))) ∙ w.form ∙ der_is term w.value in
        of-item (item (tag_of term) (contents term w.value)) form (item-overruns term (contents term w.value) count) k

-- ---- what is believed
by-first : (octets : List ℕ) (header size : ℕ) → 0 < header → header + size < 2 ^ 31 → head_in octets ≡ Some (record { header = header; size = size })
    → believed_by (record { place = header - 1; why = why.Overrun }) (announced_by (head_in octets)) ≡ Some (header + size)
by-first octets header size some small e = rw (e, eq-eqb header (header - 1 + 1) (omega (arith, some)), le-leb (header + size) 2147483647 (omega (arith, small))) refl

refused-by : (judge : ℕ → List ℕ → Verdict) (octets : List ℕ) (refusal : Refusal) → 0 < length octets → length octets < 2 ^ 31 → judge (length octets) octets ≡ verdict.Refused refusal → refusal_by judge octets ≡ Some refusal
refused-by judge octets refusal some small e = rw (le-ltb 2147483647 (length octets) (omega (arith, small)), ne_eqb (length octets) 0 (omega (arith, some)), e) refl

-- it is refused, by a judgement that refuses it as an item of the term
cut-refused : (judge : ℕ → List ℕ → Verdict) (term : Term) (count : ℕ) (octets : List ℕ) (o : Overruns term count octets) → count < length octets → length octets < 2 ^ 31
    → judge count (take count octets) ≡ verdict.Refused (record { place = o.header - 1; why = why.Overrun }) → refusal_by judge (take count octets) ≡ Some (record { place = o.header - 1; why = why.Overrun })
cut-refused judge term count octets o less short e =
    let size : length (take count octets) ≡ count = omega (arith, length-take count octets, less) in
    refused-by judge (take count octets) (record { place = o.header - 1; why = why.Overrun }) (omega (arith, size, o.some, o.fits)) (omega (arith, size, less, short)) (ap (λ n. judge n (take count octets)) size ∙ e)

cut-believed : (term : Term) (count : ℕ) (octets : List ℕ) (o : Overruns term count octets) → length octets < 2 ^ 31 → believed_by (record { place = o.header - 1; why = why.Overrun }) (announced_by (head_in (take count octets))) ≡ Some (length octets)
cut-believed term count octets o short = by-first (take count octets) o.header o.size o.some (omega (arith, o.all, short)) o.first ∙ ap Some o.all

-- ---- what octets are taken for
-- a message by itself, by its first octet
opened-kind : (profile : Profile) (k : Kind) (rest : List ℕ) → opened (tag_of (kind_term_in profile k) ∷ rest) ≡ message_under [] 0 (tag_of (kind_term_in profile k) ∷ rest)
opened-kind profiles.Lenient kinds.AsReq rest = refl
opened-kind profiles.Lenient kinds.AsRep rest = refl
opened-kind profiles.Lenient kinds.TgsReq rest = refl
opened-kind profiles.Lenient kinds.TgsRep rest = refl
opened-kind profiles.Lenient kinds.ApReq rest = refl
opened-kind profiles.Lenient kinds.ApRep rest = refl
opened-kind profiles.Lenient kinds.KrbSafe rest = refl
opened-kind profiles.Lenient kinds.KrbPriv rest = refl
opened-kind profiles.Lenient kinds.KrbCred rest = refl
opened-kind profiles.Lenient kinds.KrbError rest = refl
opened-kind profiles.Strict kinds.AsReq rest = refl
opened-kind profiles.Strict kinds.AsRep rest = refl
opened-kind profiles.Strict kinds.TgsReq rest = refl
opened-kind profiles.Strict kinds.TgsRep rest = refl
opened-kind profiles.Strict kinds.ApReq rest = refl
opened-kind profiles.Strict kinds.ApRep rest = refl
opened-kind profiles.Strict kinds.KrbSafe rest = refl
opened-kind profiles.Strict kinds.KrbPriv rest = refl
opened-kind profiles.Strict kinds.KrbCred rest = refl
opened-kind profiles.Strict kinds.KrbError rest = refl

opened-message : (profile : Profile) (term : Term) (octet : ℕ) (rest : List ℕ) → IsChosen term (messages profile) → octet ≡ tag_of term → opened (octet ∷ rest) ≡ message_under [] 0 (octet ∷ rest)
opened-message profile term octet rest c t = by (kind_of_one_of profile term (one_of_chosen (messages profile) term c))
  where
    by : (k : Kind) × (term ≡ kind_term_in profile k) → opened (octet ∷ rest) ≡ message_under [] 0 (octet ∷ rest)
    by k = subst (λ (o : ℕ). opened (o ∷ rest) ≡ message_under [] 0 (o ∷ rest)) (sym (t ∙ ap tag_of k.1)) (opened-kind profile k.0 rest)

listed-message : (profile : Profile) (octets : List ℕ) (place : ℕ) (reason : Why) → opened octets ≡ message_under [] 0 octets → refusal_of profile octets ≡ Some (record { place = place; why = reason })
    → listable profile octets ≡ Some (record { lies = lies.Alone; fault = Some (record { place = place; why = reason }); ntlm = None })
listed-message profile octets place reason o e =
    let same : 0 + place ≡ place = omega arith in
    ap (opened_listable profile octets) o ∙ rw e (λ i. Some (record { lies = lies.Alone; fault = Some (record { place = same i; why = reason }); ntlm = None }))

opened-ticket : (profile : Profile) (rest : List ℕ) → opened (tag_of (profile_term profile false ticket_term) ∷ rest) ≡ under [] Ticket
opened-ticket profiles.Lenient rest = refl
opened-ticket profiles.Strict rest = refl

listed-ticket : (profile : Profile) (octets : List ℕ) (refusal : Refusal) → opened octets ≡ under [] Ticket → ticket_refusal profile octets ≡ Some refusal → listable profile octets ≡ Some (record { lies = lies.Ticket; fault = Some refusal; ntlm = None })
listed-ticket profile octets refusal o e = ap (opened_listable profile octets) o ∙ (λ i. Some (record { lies = lies.Ticket; fault = e i; ntlm = None }))

-- ---- messages and Tickets that were cut
pub cut-messages-are-believed : CutMessagesAreBelieved
cut-messages-are-believed profile octets count a e less is = by octets a (accepted (judgement profile) octets e) count less is
  where
    by : (octets : List ℕ) → AreOctets octets → IsAccepted (judgement profile) octets → (count : ℕ) → count < length octets → (announced_by (head_in (take count octets)) ≡ None → ⊥) → AreListedAsCut profile lies.Alone (take count octets) (length octets)
    by [] a found count less is = absurd (omega (arith, less))
    by (octet ∷ rest) a found zero less is = absurd (is refl)
    by (octet ∷ rest) a found (suc count) less is =
        of-choice (choice (messages profile) octet)
        (whole_outcome (message_outcome (messages profile) (length (octet ∷ rest)) (octet ∷ rest))
        (whole-verdict (judgement profile (length (octet ∷ rest)) (octet ∷ rest)) found.judged (all_is_decided (messages profile) (length (octet ∷ rest)) (octet ∷ rest) found.some refl)))
      where
        of-choice : Choice (messages profile) octet → (n : ℕ) × (message_outcome (messages profile) (length (octet ∷ rest)) (octet ∷ rest) ≡ Done n) → AreListedAsCut profile lies.Alone (take (suc count) (octet ∷ rest)) (length (octet ∷ rest))
        of-choice (inl c) d = let f : Bad 0 why.Tag ≡ Done d.0 = sym (c (length (octet ∷ rest)) rest) ∙ d.1 in absurd cc
        of-choice (inr c) d =
            let o : Overruns c.0 (suc count) (octet ∷ rest) = done-overruns c.0 (octet ∷ rest) (suc count) d.0 a (sym (c.3 (length (octet ∷ rest)) rest) ∙ d.1) found.short less is in
            record {
              refusal = record { place = o.header - 1; why = why.Overrun };
              is = listed-message profile (octet ∷ take count rest) (o.header - 1) why.Overrun (opened-message profile c.0 octet (take count rest) c.1 c.2)
                  (cut-refused (judgement profile) c.0 (suc count) (octet ∷ rest) o less found.short (ap verdict_of (c.3 (suc count) (take count rest) ∙ o.refused)));
              believed = cut-believed c.0 (suc count) (octet ∷ rest) o found.short;
            }

-- a Ticket is by its first octet
ticket-tag : (profile : Profile) (octets : List ℕ) (count : ℕ) (inner : List ℕ) → octets ≡ item (tag_of (profile_term profile false ticket_term)) inner → 0 < count → opened (take count octets) ≡ under [] Ticket
ticket-tag profile octets zero inner form p = absurd (omega (arith, p))
ticket-tag profile octets (suc count) inner form p = ap (λ o. opened (take (suc count) o)) form ∙ opened-ticket profile _

pub cut-tickets-are-believed : CutTicketsAreBelieved
cut-tickets-are-believed profile octets count a e less is =
    let term : Term = profile_term profile false ticket_term in
    let found = accepted (term_judgement term) octets e in
    let d = whole_outcome (item_outcome term (length octets) true octets) (whole-verdict (term_judgement term (length octets) octets) found.judged (value_is_decided term octets found.some)) in
    let w = IsWhole-done term (length octets) true octets d.0 a d.1 in
    let form : octets ≡ item (tag_of term) (contents term w.value) = sym (take_all d.0 octets (omega (arith, w.fills refl))) ∙ w.form ∙ der_is term w.value in
    let o : Overruns term count octets = done-overruns term octets count d.0 a d.1 found.short less is in
    record {
      refusal = record { place = o.header - 1; why = why.Overrun };
      is = listed-ticket profile (take count octets) (record { place = o.header - 1; why = why.Overrun }) (ticket-tag profile octets count (contents term w.value) form (omega (arith, o.some, o.fits)))
          (cut-refused (term_judgement term) term count octets o less found.short (ap verdict_of o.refused));
      believed = cut-believed term count octets o found.short;
    }

-- ---- frames that were cut
frame-over : (announced : ℕ) (message : List ℕ) → 0 < announced → length message < announced → frame_of_length announced message ≡ refused_bare (Frame ∷ []) 3 why.Overrun
frame-over announced message some more = rw (ne_eqb announced 0 (omega (arith, some)), lt-ltb (length message) announced more) refl

by-frame : (size : ℕ) → 4 + size < 2 ^ 31 → believed_by (record { place = 3; why = why.Overrun }) (announced_frame (Some size)) ≡ Some (4 + size)
by-frame size small = rw (le-leb (4 + size) 2147483647 (omega (arith, small))) refl

pub cut-frames-are-believed : CutFramesAreBelieved
cut-frames-are-believed profile b c d message zero e size small less is = absurd (is refl)
cut-frames-are-believed profile b c d message (suc zero) e size small less is = absurd (is refl)
cut-frames-are-believed profile b c d message (suc (suc zero)) e size small less is = absurd (is refl)
cut-frames-are-believed profile b c d message (suc (suc (suc zero))) e size small less is = absurd (is refl)
cut-frames-are-believed profile b c d message (suc (suc (suc (suc count)))) e size small less is =
    let some : 0 < length message = (accepted (judgement profile) message e).some in
    record {
      refusal = record { place = 3; why = why.Overrun };
      is = ap (opened_listable profile (take (suc (suc (suc (suc count)))) (0 ∷ b ∷ c ∷ d ∷ message)))
          (frame-over (number (0 ∷ b ∷ c ∷ d ∷ [])) (take count message) (omega (arith, size, some)) (omega (arith, size, length-take count message, less)));
      believed = by-frame (number (0 ∷ b ∷ c ∷ d ∷ [])) (omega (arith, size, small)) ∙ ap Some (omega (arith, size));
    }
