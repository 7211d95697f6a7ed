-- What the laws about each kind of messages have in common: the message of a value, and the kind that a tag chooses.
use Rattle.std.proofs.Common.{◌≡◌, ℕ, ◌⊎◌, inl, inr, false, true, if◌then◌else◌, eqb, eqb-true, Option, Some, None, sym, ◌∙◌, ap, subst}
use Rattle.std.specs.Option.{unwrap_or}
use Rattle.std.proofs.lemmas.Bool.{cases_Bool}
use Rattle.krb_der.specs.declared.profile.Profile.{Profile}
use Rattle.krb_msg.specs.Profiles.{profile_term, profile_value}
use Rattle.krb_msg.specs.Term.{Term, Value, der, Fits}
use Rattle.krb_msg.specs.Views.{kind_of, kind_tag, kind_term, kind_term_in, message_value, message_value_in, message_der}
use Rattle.krb_msg.specs.declared.message.Kind.{Kind}
use Rattle.krb_msg.specs.declared.message.Message.{Message}

-- the message with this value, which is in each profile that the value is in
pub record IsValueOfMessage (term : Term) (value : Value term) : Type 0 where
  pub message : Message
  pub fits_in : (profile : Profile) → Fits (profile_term profile false term) (profile_value profile false term value) → Fits (kind_term_in profile (kind_of message)) (message_value_in profile message)
  pub form : message_der message ≡ der term value

-- a message whose value is this
pub IsValueOfMessage-same : (m : Message) (value : Value (kind_term (kind_of m))) → message_value m ≡ value → IsValueOfMessage (kind_term (kind_of m)) value
IsValueOfMessage-same m value e = record {
  message = m;
  fits_in = λ profile f. subst (λ v. Fits (kind_term_in profile (kind_of m)) (profile_value profile false (kind_term (kind_of m)) v)) (sym e) f;
  form = ap (der (kind_term (kind_of m))) e;
}

pub some_is_none : (k : Kind) → Some k ≡ None → ⊥
some_is_none k e = cc

some_kind : (j k : Kind) → Some j ≡ Some k → j ≡ k
some_kind j k e = ap (λ (o : Option Kind). unwrap_or o j) e

-- one of the choices of a kind by its tag, and those after it
pub first_choice : (tag : ℕ) (j k : Kind) (others : Option Kind) → (others ≡ Some k → kind_tag k ≡ tag) → (if eqb tag (kind_tag j) then Some j else others) ≡ Some k → kind_tag k ≡ tag
first_choice tag j k others next e = by (cases_Bool (eqb tag (kind_tag j)))
  where
    by : (eqb tag (kind_tag j) ≡ true) ⊎ (eqb tag (kind_tag j) ≡ false) → kind_tag k ≡ tag
    by (inl t) =
        let f : Some j ≡ Some k = ap (λ b. if b then Some j else others) (sym t) ∙ e in
        ap kind_tag (sym (some_kind j k f)) ∙ sym (eqb-true tag (kind_tag j) t)
    by (inr t) = next (ap (λ b. if b then Some j else others) (sym t) ∙ e)
