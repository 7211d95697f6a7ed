-- No message's DER begins another's, and different messages have different DER.
use Rattle.std.proofs.Common.{◌≡◌, ℕ, ◌<◌, List, ◌++◌, length, sym, ◌∙◌, ap, subst}
use Rattle.krb_der.specs.inner.Items.{same_from_cons}
use Rattle.krb_msg.specs.declared.message.Message.{Message}
use Rattle.krb_msg.specs.declared.message.Kind.{Kind}
use Rattle.krb_msg.specs.Term.{Value, tag_of, der}
use Rattle.krb_msg.specs.inner.Kinds.{kind_of_tag-tag, kind_unambiguous, message_round_trips}
use Rattle.krb_msg.specs.inner.Values.{der_begins, der-append, same_from_der}
use Rattle.krb_msg.specs.Views.{kind_of, kind_term, kind_of_tag, message_value, message_of, message_der}

-- ---- kinds
same_kind : (k l : Kind) → tag_of (kind_term k) ≡ tag_of (kind_term l) → k ≡ l
same_kind k l e = sym (kind_of_tag-tag k) ∙ ap kind_of_tag e ∙ kind_of_tag-tag l

-- ---- the DER of messages
pub message_begins : (m : Message) → 0 < length (message_der m)
message_begins m = der_begins (kind_term (kind_of m)) (message_value m)

-- octets that begin with a message's DER and with the DER of a value of a kind have the same message and the same rest
abbrev SameIfOfKind : (m : Message) (x y : List ℕ) → Kind → Type 0
SameIfOfKind m x y k = (v : Value (kind_term k)) → message_der m ++ x ≡ der (kind_term k) v ++ y → (message_of (kind_of m) (message_value m) ≡ message_of k v) × (x ≡ y)

pub der_is_prefix_free : (m other : Message) (x y : List ℕ) → message_der m ++ x ≡ message_der other ++ y → (m ≡ other) × (x ≡ y)
der_is_prefix_free m other x y e =
    let p : (message_of (kind_of m) (message_value m) ≡ message_of (kind_of other) (message_value other)) × (x ≡ y) = at_kind (kind_of other) (same_kind (kind_of m) (kind_of other) tags) (message_value other) e in
    (sym (message_round_trips m) ∙ p.0 ∙ message_round_trips other, p.1)
  where
    tags : tag_of (kind_term (kind_of m)) ≡ tag_of (kind_term (kind_of other))
    tags = (same_from_cons _ _ _ _ (sym (der-append (kind_term (kind_of m)) (message_value m) x) ∙ e ∙ der-append (kind_term (kind_of other)) (message_value other) y)).0

    at_same : SameIfOfKind m x y (kind_of m)
    at_same v e = let s : (message_value m ≡ v) × (x ≡ y) = same_from_der (kind_term (kind_of m)) (kind_unambiguous (kind_of m)) (message_value m) v x y e in (ap (message_of (kind_of m)) s.0, s.1)

    at_kind : (k : Kind) → kind_of m ≡ k → SameIfOfKind m x y k
    at_kind k same = subst (SameIfOfKind m x y) same at_same
