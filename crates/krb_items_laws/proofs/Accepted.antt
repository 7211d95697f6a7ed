-- The items of messages and Tickets that are accepted are all of their octets.
use Rattle.std.proofs.Common.{◌≡◌, ℕ, ◌^◌, ◌<◌, true, false, List, [], ◌∷◌, length, Some, None, codes, refl, sym, ◌∙◌, ap, subst, arith, append-nil, le-ltb}
use Rattle.krb_der.specs.Octets.{AreOctets, item as item-of, number}
use Rattle.krb_der.specs.declared.profile.Profile.{Profile}
use Rattle.krb_der.specs.declared.profile.Profile.TheVariants as profiles
use Rattle.krb_judge.specs.Parses.{refusal_of}
use Rattle.krb_msg.specs.Der.{IsDer}
use Rattle.krb_msg.specs.Grammar.{messages, ticket as ticket_term}
use Rattle.krb_msg.specs.Judgement.{judgement, term_judgement}
use Rattle.krb_msg.specs.Laws.{AreOneOf}
use Rattle.krb_msg.specs.Profiles.{profile_term}
use Rattle.krb_msg.specs.Shape.{is_unambiguous}
use Rattle.krb_msg.specs.Term.{Term, der, tag_of}
use Rattle.krb_msg.specs.Views.{kind_name, kind_term_in, kind_with_tag}
use Rattle.krb_msg.specs.declared.message.Kind.{Kind}
use Rattle.krb_msg.specs.declared.message.Kind.TheVariants as kind
use Rattle.krb_msg.specs.inner.Values.{contents, der_is}
use Rattle.krb_msg.proofs.Grammars.{all_is_decided, whole_is_one_of}
use Rattle.krb_msg.proofs.KindLaws.{kind_of_one_of}
use Rattle.krb_source.specs.declared.layer.Layer.TheVariants.{Frame}
use Rattle.krb_items.specs.Heads.{Begun, begun_at, with_head}
use Rattle.krb_items.specs.Items.{Here, Items, all_items, container, here_at, kind_items, message_items, most_levels}
use Rattle.krb_items.specs.Shapes.{ItemType, message_of, ticket}
use Rattle.krb_items.specs.Terms.{is_of}
use Rattle.krb_items.specs.declared.reaching.Lies.TheVariants as lies
use Rattle.krb_items.specs.declared.tag.Tag.TheVariants as tags
use Rattle.krb_items_laws.specs.Covers.{AreInOrder, Covers, FramesAreCovered, MessagesAreCovered, TicketsAreCovered, whole_items}
use Rattle.krb_items_laws.proofs.Covering.{all_of}
use Rattle.krb_items_laws.proofs.Filling.{AreAt, Fills, at-rest, covered-rest, fills-item, fills-of, fills-same}
use Rattle.krb_items_laws.proofs.Holding.{IsAccepted, accepted, accepted-value, fills, whole-verdict}
use Rattle.krb_items_laws.proofs.Types.{nests}

-- ---- items that fill all octets
pub all-at : (octets : List ℕ) → AreAt octets 0 octets
all-at octets = record { before = []; after = []; parts = sym (append-nil octets); counted = refl }

pub covers : (octets : List ℕ) (items : Items) → Fills octets 0 0 octets items → Covers octets items
covers octets items f =
    let places : AreInOrder octets 0 items.items = subst (AreInOrder octets 0) (append-nil items.items) (f.follows [] tt (omega arith)) in
    record { whole = f.whole; places = places; parts = covered-rest octets items.items 0 places }

-- ---- an item of a term, which may be narrowed
pub der-fill : (all : List ℕ) → length all < 2 ^ 32 → (here : Here) (of : ItemType) (term : Term) (octets : List ℕ) → nests most_levels of ≡ true → is_of of.tags of.shape None term ≡ true → is_unambiguous term ≡ true → IsDer term octets → AreAt all here.place octets
    → Fills all here.place here.depth octets (all_items (all_of all) here of octets)
der-fill all short here of term octets n is clear d at =
    fills-of all here.place here.depth octets _ _ d.form
    (fills-same all here.place here.depth _ _ _ (ap (all_items (all_of all) here of) (d.form ∙ sym (append-nil (der term d.value))))
    (fills all short most_levels here of None term d.value [] n is clear d.fits (subst (AreAt all here.place) d.form at)))

-- ---- messages
-- the messages of a kind, in each profile
record OfKind (profile : Profile) (k : Kind) : Type 0 where
  nested : nests most_levels (message_of k) ≡ true
  is : is_of (message_of k).tags (message_of k).shape None (kind_term_in profile k) ≡ true
  clear : is_unambiguous (kind_term_in profile k) ≡ true
  tag : kind_with_tag (tag_of (kind_term_in profile k)) ≡ Some k

of-kind : (profile : Profile) (k : Kind) → OfKind profile k
of-kind profiles.Lenient kind.AsReq = record { nested = refl; is = refl; clear = refl; tag = refl }
of-kind profiles.Lenient kind.AsRep = record { nested = refl; is = refl; clear = refl; tag = refl }
of-kind profiles.Lenient kind.TgsReq = record { nested = refl; is = refl; clear = refl; tag = refl }
of-kind profiles.Lenient kind.TgsRep = record { nested = refl; is = refl; clear = refl; tag = refl }
of-kind profiles.Lenient kind.ApReq = record { nested = refl; is = refl; clear = refl; tag = refl }
of-kind profiles.Lenient kind.ApRep = record { nested = refl; is = refl; clear = refl; tag = refl }
of-kind profiles.Lenient kind.KrbSafe = record { nested = refl; is = refl; clear = refl; tag = refl }
of-kind profiles.Lenient kind.KrbPriv = record { nested = refl; is = refl; clear = refl; tag = refl }
of-kind profiles.Lenient kind.KrbCred = record { nested = refl; is = refl; clear = refl; tag = refl }
of-kind profiles.Lenient kind.KrbError = record { nested = refl; is = refl; clear = refl; tag = refl }
of-kind profiles.Strict kind.AsReq = record { nested = refl; is = refl; clear = refl; tag = refl }
of-kind profiles.Strict kind.AsRep = record { nested = refl; is = refl; clear = refl; tag = refl }
of-kind profiles.Strict kind.TgsReq = record { nested = refl; is = refl; clear = refl; tag = refl }
of-kind profiles.Strict kind.TgsRep = record { nested = refl; is = refl; clear = refl; tag = refl }
of-kind profiles.Strict kind.ApReq = record { nested = refl; is = refl; clear = refl; tag = refl }
of-kind profiles.Strict kind.ApRep = record { nested = refl; is = refl; clear = refl; tag = refl }
of-kind profiles.Strict kind.KrbSafe = record { nested = refl; is = refl; clear = refl; tag = refl }
of-kind profiles.Strict kind.KrbPriv = record { nested = refl; is = refl; clear = refl; tag = refl }
of-kind profiles.Strict kind.KrbCred = record { nested = refl; is = refl; clear = refl; tag = refl }
of-kind profiles.Strict kind.KrbError = record { nested = refl; is = refl; clear = refl; tag = refl }

-- the items of a message by its first octet
by-tag : (item : Here → ItemType → List ℕ → Items) (here : Here) (k : Kind) (tag : ℕ) (octets inner : List ℕ) → octets ≡ item-of tag inner → kind_with_tag tag ≡ Some k → message_items item here octets ≡ item (here_at here.layers (kind_name k) here.place here.depth) (message_of k) octets
by-tag item here k tag octets inner form is =
    subst (λ (o : List ℕ). message_items item here o ≡ item (here_at here.layers (kind_name k) here.place here.depth) (message_of k) o) (sym form)
    (ap (λ found. kind_items item found here (item-of tag inner)) is)

pub message-fill : (all : List ℕ) → length all < 2 ^ 32 → (profile : Profile) (here : Here) (octets : List ℕ) → AreOctets octets → refusal_of profile octets ≡ None → AreAt all here.place octets
    → Fills all here.place here.depth octets (message_items (all_items (all_of all)) here octets)
message-fill all short profile here octets a e at = of-accepted (accepted (judgement profile) octets e)
  where
    of-value : (k : Kind) → IsDer (kind_term_in profile k) octets → Fills all here.place here.depth octets (message_items (all_items (all_of all)) here octets)
    of-value k d =
        let o : OfKind profile k = of-kind profile k in
        fills-same all here.place here.depth octets _ _
        (by-tag (all_items (all_of all)) here k (tag_of (kind_term_in profile k)) octets (contents (kind_term_in profile k) d.value) (d.form ∙ der_is (kind_term_in profile k) d.value) o.tag)
        (der-fill all short (here_at here.layers (kind_name k) here.place here.depth) (message_of k) (kind_term_in profile k) octets o.nested o.is o.clear d at)

    of-one : AreOneOf (messages profile) (length octets) octets → Fills all here.place here.depth octets (message_items (all_items (all_of all)) here octets)
    of-one m =
        let k : (k : Kind) × (m.term ≡ kind_term_in profile k) = kind_of_one_of profile m.term m.one_of in
        of-value k.0 (subst (λ (t : Term). IsDer t octets) k.1 m.is_der)

    of-accepted : IsAccepted (judgement profile) octets → Fills all here.place here.depth octets (message_items (all_items (all_of all)) here octets)
    of-accepted is =
        of-one (whole_is_one_of (messages profile) (length octets) octets a (omega arith)
        (whole-verdict (judgement profile (length octets) octets) is.judged (all_is_decided (messages profile) (length octets) octets is.some refl)))

pub messages-are-covered : MessagesAreCovered
messages-are-covered profile octets a e =
    covers octets (whole_items lies.Alone octets)
    (message-fill octets (omega (arith, (accepted (judgement profile) octets e).short)) profile (here_at [] [] 0 0) octets a e (all-at octets))

-- ---- Tickets
ticket-of : (profile : Profile) → (is_of ticket.tags ticket.shape None (profile_term profile false ticket_term) ≡ true) × (is_unambiguous (profile_term profile false ticket_term) ≡ true)
ticket-of profiles.Lenient = (refl, refl)
ticket-of profiles.Strict = (refl, refl)

pub tickets-are-covered : TicketsAreCovered
tickets-are-covered profile octets a e =
    let is : IsAccepted (term_judgement (profile_term profile false ticket_term)) octets = accepted (term_judgement (profile_term profile false ticket_term)) octets e in
    covers octets (whole_items lies.Ticket octets)
    (der-fill octets (omega (arith, is.short)) (here_at [] (codes "Ticket") 0 0) ticket (profile_term profile false ticket_term) octets refl (ticket-of profile).0 (ticket-of profile).1
    (accepted-value (profile_term profile false ticket_term) octets a is) (all-at octets))

-- ---- frames
abbrev frame-begun : (four : List ℕ) (size : ℕ) → Begun
frame-begun four size = with_head (begun_at (Frame ∷ []) 0 0) tags.Frame four (Some size)

pub frames-are-covered : FramesAreCovered
frames-are-covered profile a b c d message octets size e =
    covers (a ∷ b ∷ c ∷ d ∷ message) (whole_items lies.Framed (a ∷ b ∷ c ∷ d ∷ message))
    (fills-same (a ∷ b ∷ c ∷ d ∷ message) 0 0 (a ∷ b ∷ c ∷ d ∷ message) _ _ (rw (le-ltb (length (a ∷ b ∷ c ∷ d ∷ message)) 4 (omega arith)) refl)
    (fills-item (a ∷ b ∷ c ∷ d ∷ message) 0 0 message (container (codes "frame") (frame-begun (a ∷ b ∷ c ∷ d ∷ []) (number (a ∷ b ∷ c ∷ d ∷ [])))) _
    (record { at = refl; depth_is = refl; next = refl; size = ap Some size; lie = all-at (a ∷ b ∷ c ∷ d ∷ message) })
    (message-fill (a ∷ b ∷ c ∷ d ∷ message) (omega (arith, (accepted (judgement profile) message e).short)) profile (here_at (Frame ∷ []) [] 4 1) message octets e
    (at-rest (a ∷ b ∷ c ∷ d ∷ message) 0 (a ∷ b ∷ c ∷ d ∷ []) message (all-at (a ∷ b ∷ c ∷ d ∷ message))))))
