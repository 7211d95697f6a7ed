-- A message as it is viewed: its first octet chooses the term by which it is judged.
use Rattle.std.proofs.Common.{◌≡◌, ℕ, ◌^◌, ◌<◌, List, [], ◌∷◌, length, get_or, Bool, true, false, Some, None, sym, ◌∙◌, ap, subst, arith}
use Rattle.krb_der.specs.Octets.{AreOctets}
use Rattle.krb_der.specs.declared.profile.Profile.{Profile}
use Rattle.krb_der.specs.declared.profile.Profile.TheVariants as profile
use Rattle.krb_der.specs.declared.verdict.Verdict.TheVariants as verdict
use Rattle.krb_msg.specs.declared.message.Kind.{Kind}
use Rattle.krb_msg.specs.declared.message.Message.{Message}
use Rattle.krb_msg.specs.Judgement.{judgement, term_judgement}
use Rattle.krb_msg.specs.Laws.{AreMessage}
use Rattle.krb_msg.specs.Views.{message_of_der, message_of_kind, kind_of, kind_of_tag, kind_tag, kind_term, kind_with_tag, message_der, message_of, message_value, IsInProfile}
use Rattle.krb_msg.specs.Term.{Value}
use Rattle.krb_msg.proofs.Judged.{lenient_whole, whole_is_message}
use Rattle.krb_msg.proofs.KindLaws.{chosen, kind_from_tag, kind_tags}
use Rattle.krb_msg.proofs.KindSteps.{some_is_none}
use Rattle.krb_msg.specs.inner.Values.{der_is}
use Rattle.krb_msg.proofs.MessageOfDer.{message_of_der_is_message}
use Rattle.krb_msg.specs.Viewed.{IfElse, IsViewOf, IsNotWhole}
use Rattle.krb_msg.specs.ViewValues.{BeginAs, IsMessageView, IsNoMessage, IsValidMessage, message_of_view}
use Rattle.krb_msg.specs.declared.message_view.MessageView.{MessageView}

-- ---- octets of a kind
pub judged_as : (k : Kind) (octets : List ℕ) → 0 < length octets → get_or octets 0 0 ≡ kind_tag k → judgement profile.Lenient (length octets) octets ≡ term_judgement (kind_term k) (length octets) octets
judged_as k [] some first = absurd (omega (arith, some))
judged_as k (octet ∷ rest) some first =
    subst (λ o. judgement profile.Lenient (length (octet ∷ rest)) (o ∷ rest) ≡ term_judgement (kind_term k) (length (octet ∷ rest)) (o ∷ rest)) (sym first) (chosen k (length (octet ∷ rest)) rest)

pub kind_not_whole : (k : Kind) (octets : List ℕ) → 0 < length octets → get_or octets 0 0 ≡ kind_tag k → IsNotWhole (kind_term k) octets → judgement profile.Lenient (length octets) octets ≡ verdict.Whole → ⊥
kind_not_whole k octets some first none e = none (sym (judged_as k octets some first) ∙ e)

-- the message of the octets of a kind
read_as : (k : Kind) (octets : List ℕ) → 0 < length octets → get_or octets 0 0 ≡ kind_tag k → message_of_der octets ≡ message_of_kind k octets
read_as k [] some first = absurd (omega (arith, some))
read_as k (octet ∷ rest) some first = ap (λ other. message_of_kind other (octet ∷ rest)) (ap kind_of_tag first ∙ (kind_tags k).1)

-- the octets of a view of a message
pub record IsMessageOf (octets : List ℕ) (m : Message) : Type 0 where
  pub whole : judgement profile.Lenient (length octets) octets ≡ verdict.Whole
  pub in_profile : IsInProfile profile.Lenient m
  pub form : message_der m ≡ octets
  pub read : m ≡ message_of_der octets

pub read_message : (octets : List ℕ) → AreOctets octets → length octets < 2 ^ 31 → judgement profile.Lenient (length octets) octets ≡ verdict.Whole → IsMessageOf octets (message_of_der octets)
read_message octets a small e = by (whole_is_message profile.Lenient (length octets) octets small a (omega arith) e)
  where
    by : AreMessage profile.Lenient (length octets) octets → IsMessageOf octets (message_of_der octets)
    by w =
        let same : w.message ≡ message_of_der octets = sym (message_of_der_is_message profile.Lenient w.message w.in_profile) ∙ ap message_of_der w.form in
        subst (IsMessageOf octets) same (record { whole = e; in_profile = w.in_profile; form = w.form; read = same })

pub message_viewed : (k : Kind) (octets : List ℕ) (value : Value (kind_term k)) → AreOctets octets → length octets < 2 ^ 31 → 0 < length octets → get_or octets 0 0 ≡ kind_tag k → IsViewOf (kind_term k) octets value → IsMessageOf octets (message_of k value)
message_viewed k octets value a small some first v =
    subst (IsMessageOf octets) (read_as k octets some first ∙ ap (message_of k) (sym v.read)) (read_message octets a small (judged_as k octets some first ∙ v.whole))

pub none_of_kind : (k : Kind) (octets : List ℕ) → BeginAs k octets → IsNotWhole (kind_term k) octets → IsNoMessage octets
none_of_kind k octets b none short = kind_not_whole k octets b.some b.first none

-- a view of a type, as that of a message of a kind
pub made_as : {Seen : Type 0} (k : Kind) (octets : List ℕ) (as_message : Seen → MessageView) (value : Seen → Value (kind_term k)) → ((seen : Seen) → message_of k (value seen) ≡ message_of_view (as_message seen)) → AreOctets octets → BeginAs k octets → (made : Bool) (seen : Seen) → IfElse made (IsViewOf (kind_term k) octets (value seen) × IsValidMessage (as_message seen)) (IsNotWhole (kind_term k) octets) → IfElse made (IsMessageView octets (as_message seen)) (IsNoMessage octets)
made_as k octets as_message value same a b true seen v =
    let o : IsMessageOf octets (message_of_view (as_message seen)) = subst (IsMessageOf octets) (same seen) (message_viewed k octets (value seen) a b.short b.some b.first v.0) in
    record { whole = o.whole; in_profile = o.in_profile; form = o.form; read = o.read; lists = v.1 }
made_as k octets as_message value same a b false seen none = none_of_kind k octets b none

-- the kind that the first octet chooses, if it chooses one
pub begin_as : (k : Kind) (octets : List ℕ) → length octets < 2 ^ 31 → 0 < length octets → kind_with_tag (get_or octets 0 0) ≡ Some k → BeginAs k octets
begin_as k octets short some e = record { short = short; some = some; first = sym (kind_from_tag k (get_or octets 0 0) e) }

pub none_of_any_kind : (octets : List ℕ) → AreOctets octets → kind_with_tag (get_or octets 0 0) ≡ None → IsNoMessage octets
none_of_any_kind octets a none short e =
    let w = whole_is_message profile.Lenient (length octets) octets short a (omega arith) e in
    let k = kind_of w.message in
    let first : get_or octets 0 0 ≡ kind_tag k = ap (λ (l : List ℕ). get_or l 0 0) (sym w.form ∙ der_is (kind_term k) (message_value w.message)) ∙ (kind_tags k).2 in
    some_is_none k (sym (kind_tags k).0 ∙ ap kind_with_tag (sym first) ∙ none)

-- octets that are judged whole are the DER of their message
pub whole_form : (p : Profile) (octets : List ℕ) → AreOctets octets → length octets < 2 ^ 31 → judgement p (length octets) octets ≡ verdict.Whole → message_der (message_of_der octets) ≡ octets
whole_form p octets a short e = (read_message octets a short (lenient_whole p (length octets) octets short a (omega arith) e)).form
