-- The first octet of a message, which tells its kind.
use Rattle.std.proofs.Common.{◌≡◌, ℕ, ◌<◌, List, ◌∷◌, length, get_or, Some, refl, sym, ◌∙◌, ap, arith}
use Rattle.krb_msg.specs.Kinds.{kind_tag, kind_with_tag}
use Rattle.krb_msg.specs.Term.{Value, der}
use Rattle.krb_msg.specs.Views.{kind_of, kind_term, message_value, message_der}
use Rattle.krb_msg.specs.declared.message.Kind.{Kind}
use Rattle.krb_msg.specs.declared.message.Kind.TheVariants as kinds
use Rattle.krb_msg.specs.declared.message.Message.{Message}

first_of : (kind : Kind) (value : Value (kind_term kind)) → (rest : List ℕ) × (der (kind_term kind) value ≡ kind_tag kind ∷ rest)
first_of kinds.AsReq value = (_, refl)
first_of kinds.AsRep value = (_, refl)
first_of kinds.TgsReq value = (_, refl)
first_of kinds.TgsRep value = (_, refl)
first_of kinds.ApReq value = (_, refl)
first_of kinds.ApRep value = (_, refl)
first_of kinds.KrbSafe value = (_, refl)
first_of kinds.KrbPriv value = (_, refl)
first_of kinds.KrbCred value = (_, refl)
first_of kinds.KrbError value = (_, refl)

kind_with-tag : (kind : Kind) → kind_with_tag (kind_tag kind) ≡ Some kind
kind_with-tag kinds.AsReq = refl
kind_with-tag kinds.AsRep = refl
kind_with-tag kinds.TgsReq = refl
kind_with-tag kinds.TgsRep = refl
kind_with-tag kinds.ApReq = refl
kind_with-tag kinds.ApRep = refl
kind_with-tag kinds.KrbSafe = refl
kind_with-tag kinds.KrbPriv = refl
kind_with-tag kinds.KrbCred = refl
kind_with-tag kinds.KrbError = refl

pub has_first : (octets : List ℕ) (m : Message) → message_der m ≡ octets → length octets < 1 → ⊥
has_first octets m form short =
    let first = first_of (kind_of m) (message_value m) in
    omega (arith, short, ap length (sym form ∙ first.1))

pub first_tells_kind : (octets : List ℕ) (m : Message) → message_der m ≡ octets → kind_with_tag (get_or octets 0 0) ≡ Some (kind_of m)
first_tells_kind octets m form =
    let first = first_of (kind_of m) (message_value m) in
    ap (λ (those : List ℕ). kind_with_tag (get_or those 0 0)) (sym form ∙ first.1) ∙ kind_with-tag (kind_of m)
