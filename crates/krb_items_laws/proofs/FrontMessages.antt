-- What is listed of messages, Tickets and frames that were cut is the first of what is listed of all of their octets.
use Rattle.std.proofs.Common.{◌≡◌, ℕ, zero, suc, ◌+◌, ◌-◌, ◌<◌, ◌≤◌, true, false, List, [], ◌∷◌, length, take, drop, codes, Option, Some, None, refl, sym, ◌∙◌, ap, subst, arith, append-nil, length-take, lt-ltb, le-ltb}
use Rattle.std.proofs.lemmas.List.{take_all}
use Rattle.krb_der.specs.Octets.{AreOctets, number}
use Rattle.krb_der.specs.declared.profile.Profile.{Profile}
use Rattle.krb_der.specs.declared.verdict.Refusal.{Refusal}
use Rattle.krb_der.specs.declared.verdict.Verdict.TheVariants as verdict
use Rattle.krb_der.specs.declared.why.Why.TheVariants as why
use Rattle.krb_judge.specs.Parses.{refusal_of}
use Rattle.krb_msg.specs.Grammar.{messages, ticket as ticket_term}
use Rattle.krb_msg.specs.Judgement.{Done, item_outcome, judgement, message_outcome, term_judgement, verdict_of}
use Rattle.krb_msg.specs.Profiles.{profile_term}
use Rattle.krb_msg.specs.Term.{Term}
use Rattle.krb_msg.specs.Views.{kind_name, kind_with_tag}
use Rattle.krb_msg.specs.declared.message.Kind.{Kind}
use Rattle.krb_msg.specs.declared.message.Kind.TheVariants as kinds
use Rattle.krb_msg.proofs.Grammars.{all_is_decided, value_is_decided, whole_outcome}
use Rattle.krb_msg.proofs.Laws.{IsWhole-done, Settles-item_outcome}
use Rattle.krb_msg.proofs.Messages.{IsWhole-message, Settles-message_outcome}
use Rattle.krb_source.specs.declared.layer.Layer.TheVariants.{Frame}
use Rattle.krb_items.specs.Heads.{begun_at, with_head, with_unknown}
use Rattle.krb_items.specs.Items.{Here, Items, all_items, begun_here, container, here_at, kind_items, message_items, most_levels}
use Rattle.krb_items.specs.Reached.{items_as}
use Rattle.krb_items.specs.Shapes.{message_of, ticket}
use Rattle.krb_items.specs.declared.reaching.Lies.{Lies}
use Rattle.krb_items.specs.declared.reaching.Lies.TheVariants as lies
use Rattle.krb_items.specs.declared.tag.Tag.TheVariants as tags
use Rattle.krb_items_run.specs.Items.{front_verdict}
use Rattle.krb_items_laws.specs.Covers.{whole_items}
use Rattle.krb_items_laws.specs.Fronts.{AreFirst, FrameFrontsAreFirst, MessageFrontsAreFirst, TicketFrontsAreFirst, front_items}
use Rattle.krb_items_laws.proofs.FrontItems.{items-front}
use Rattle.krb_items_laws.proofs.FrontHeads.{Cut, Front, Same, cut_at, front-after, front-cut, fronts}
use Rattle.krb_items_laws.proofs.Holding.{IsAccepted, accepted, whole-verdict}

-- ---- items of octets that are cut
kind-fronts : (kind : Kind) → fronts most_levels (message_of kind) ≡ true
kind-fronts kinds.AsReq = refl
kind-fronts kinds.AsRep = refl
kind-fronts kinds.TgsReq = refl
kind-fronts kinds.TgsRep = refl
kind-fronts kinds.ApReq = refl
kind-fronts kinds.ApRep = refl
kind-fronts kinds.KrbSafe = refl
kind-fronts kinds.KrbPriv = refl
kind-fronts kinds.KrbCred = refl
kind-fronts kinds.KrbError = refl

module _ (limit all : ℕ) (fault other : Option Refusal) (less : limit ≤ all) where
  -- as many octets as there are up to the limit
  message-front : (here : Here) (k : ℕ) (octets : List ℕ) → here.place ≤ limit → limit - here.place ≡ k → Front (message_items (all_items (cut_at limit fault)) here (take k octets)) (message_items (all_items (cut_at all other)) here octets)
  message-front here zero octets w e = front-cut None (begun_here here) false _
  message-front here (suc k) [] w e = front-cut None (begun_here here) false _
  message-front here (suc k) (tag ∷ octets) w e = of-kind (kind_with_tag tag)
    where
      of-kind : (found : Option Kind) → Front (kind_items (all_items (cut_at limit fault)) found here (tag ∷ take k octets)) (kind_items (all_items (cut_at all other)) found here (tag ∷ octets))
      of-kind None = front-cut None (with_unknown (begun_here here) (tag ∷ take k octets)) false _
      of-kind (Some kind) =
          subst (λ (n : ℕ). Front (all_items (cut_at limit fault) (here_at here.layers (kind_name kind) here.place here.depth) (message_of kind) (take n (tag ∷ octets))) (all_items (cut_at all other) (here_at here.layers (kind_name kind) here.place here.depth) (message_of kind) (tag ∷ octets))) e
          (items-front limit all fault other less most_levels (here_at here.layers (kind_name kind) here.place here.depth) (message_of kind) (tag ∷ octets) (kind-fronts kind) w)

  alone-front : (octets : List ℕ) → Front (items_as lies.Alone (cut_at limit fault) (take limit octets)) (items_as lies.Alone (cut_at all other) octets)
  alone-front octets = message-front (here_at [] [] 0 0) limit octets (omega arith) (omega arith)

  ticket-front : (octets : List ℕ) → Front (items_as lies.Ticket (cut_at limit fault) (take limit octets)) (items_as lies.Ticket (cut_at all other) octets)
  ticket-front octets =
      let e : limit - 0 ≡ limit = omega arith in
      subst (λ (n : ℕ). Front (all_items (cut_at limit fault) (here_at [] (codes "Ticket") 0 0) ticket (take n octets)) (all_items (cut_at all other) (here_at [] (codes "Ticket") 0 0) ticket octets)) e
      (items-front limit all fault other less most_levels (here_at [] (codes "Ticket") 0 0) ticket octets refl (omega arith))

frame-front : (limit all : ℕ) (fault other : Option Refusal) (a b c d : ℕ) (message : List ℕ) → limit ≤ all → Front (items_as lies.Framed (cut_at limit fault) (take limit (a ∷ b ∷ c ∷ d ∷ message))) (items_as lies.Framed (cut_at all other) (a ∷ b ∷ c ∷ d ∷ message))
frame-front zero all fault other a b c d message less = front-cut None _ false _
frame-front (suc zero) all fault other a b c d message less = front-cut None _ false _
frame-front (suc (suc zero)) all fault other a b c d message less = front-cut None _ false _
frame-front (suc (suc (suc zero))) all fault other a b c d message less = front-cut None _ false _
frame-front (suc (suc (suc (suc m)))) all fault other a b c d message less =
    rw (le-ltb (suc (suc (suc (suc m)))) 4 (omega arith), le-ltb all 4 (omega (arith, less)))
    (front-after (container (codes "frame") (with_head (begun_at (Frame ∷ []) 0 0) tags.Frame (a ∷ b ∷ c ∷ d ∷ []) (Some (number (a ∷ b ∷ c ∷ d ∷ []))))) _ _
    (message-front (suc (suc (suc (suc m)))) all fault other less (here_at (Frame ∷ []) [] 4 1) m message (omega arith) (omega arith)))

-- ---- what is decided of octets that are cut
open-message : (profile : Profile) (octets : List ℕ) (count : ℕ) → AreOctets octets → refusal_of profile octets ≡ None → count < length octets → judgement profile (length octets) (take count octets) ≡ verdict.Open
open-message profile octets count a e less =
    let is : IsAccepted (judgement profile) octets = accepted (judgement profile) octets e in
    let found = whole_outcome (message_outcome (messages profile) (length octets) octets)
    (whole-verdict (judgement profile (length octets) octets) is.judged (all_is_decided (messages profile) (length octets) octets is.some refl)) in
    let chosen = IsWhole-message (messages profile) (length octets) octets found.0 a found.1 in
    let all : found.0 ≡ length octets = chosen.2.fills refl in
    let settles = Settles-message_outcome (messages profile) (length octets) octets (Done found.0) (omega arith) found.1 tt in
    ap verdict_of (settles.sooner count (omega (arith, all, less)))

open-item : (term : Term) (octets : List ℕ) (count : ℕ) → AreOctets octets → IsAccepted (term_judgement term) octets → count < length octets → term_judgement term (length octets) (take count octets) ≡ verdict.Open
open-item term octets count a is less =
    let found = whole_outcome (item_outcome term (length octets) true octets)
    (whole-verdict (term_judgement term (length octets) octets) is.judged (value_is_decided term octets is.some)) in
    let all : found.0 ≡ length octets = (IsWhole-done term (length octets) true octets found.0 a found.1).fills refl in
    let settles = Settles-item_outcome term (length octets) true octets (Done found.0) (omega arith) found.1 tt in
    ap verdict_of (settles.sooner count (omega (arith, all, less)))

-- ---- what is listed
listed-cut : (profile : Profile) (lies : Lies) (count : ℕ) (octets : List ℕ) → count < length octets → front_verdict profile lies (length octets) (take count octets) ≡ verdict.Open
    → front_items profile lies count octets ≡ items_as lies (cut_at count (Some (record { place = count; why = why.Truncated }))) (take count octets)
listed-cut profile lies count octets less undecided =
    let size : length (take count octets) ≡ count = omega (arith, length-take count octets, less) in
    rw (lt-ltb (length (take count octets)) (length octets) (omega (arith, size, less)), undecided, size)
    (ap (items_as lies (cut_at count (Some (record { place = count; why = why.Truncated })))) (take_all (count + 1) (take count octets) (omega (arith, size))))

are-first : (items others : Items) → Front items others → AreFirst items.items others.items
are-first items others (Same w e) = ([], ap (λ (i : Items). i.items) (sym e) ∙ sym (append-nil items.items))
are-first items others (Cut c p) = p

first-listed : (profile : Profile) (lies : Lies) (count : ℕ) (octets : List ℕ) → count < length octets → front_verdict profile lies (length octets) (take count octets) ≡ verdict.Open
    → Front (items_as lies (cut_at count (Some (record { place = count; why = why.Truncated }))) (take count octets)) (whole_items lies octets) → AreFirst (front_items profile lies count octets).items (whole_items lies octets).items
first-listed profile lies count octets less undecided front =
    subst (λ (i : Items). AreFirst i.items (whole_items lies octets).items) (sym (listed-cut profile lies count octets less undecided)) (are-first _ _ front)

pub message-fronts-are-first : MessageFrontsAreFirst
message-fronts-are-first profile octets count a e less =
    first-listed profile lies.Alone count octets less (open-message profile octets count a e less) (alone-front count (length octets) (Some (record { place = count; why = why.Truncated })) None (omega (arith, less)) octets)

pub ticket-fronts-are-first : TicketFrontsAreFirst
ticket-fronts-are-first profile octets count a e less =
    first-listed profile lies.Ticket count octets less
    (open-item (profile_term profile false ticket_term) octets count a (accepted (term_judgement (profile_term profile false ticket_term)) octets e) less) (ticket-front count (length octets) (Some (record { place = count; why = why.Truncated })) None (omega (arith, less)) octets)

-- the message in a frame that is cut
drop-four : (count a b c d : ℕ) (message : List ℕ) → drop 4 (take count (a ∷ b ∷ c ∷ d ∷ message)) ≡ take (count - 4) message
drop-four zero a b c d message = refl
drop-four (suc zero) a b c d message = refl
drop-four (suc (suc zero)) a b c d message = refl
drop-four (suc (suc (suc zero))) a b c d message = refl
drop-four (suc (suc (suc (suc count)))) a b c d message = ap (λ n. take n message) (omega arith)

pub frame-fronts-are-first : FrameFrontsAreFirst
frame-fronts-are-first profile a b c d message count octets e less =
    let size : length (a ∷ b ∷ c ∷ d ∷ message) - 4 ≡ length message = omega arith in
    let some : 0 < length message = (accepted (judgement profile) message e).some in
    first-listed profile lies.Framed count (a ∷ b ∷ c ∷ d ∷ message) less
    ((λ i. judgement profile (size i) (drop-four count a b c d message i)) ∙ open-message profile message (count - 4) octets e (omega (arith, some, less)))
    (frame-front count (length (a ∷ b ∷ c ∷ d ∷ message)) (Some (record { place = count; why = why.Truncated })) None a b c d message (omega (arith, less)))
