-- Why the laws ask for a grammar: two terms whose optional fields are not distinguished by their tags, and two messages with one tag.
use Rattle.std.proofs.Common.{◌≡◌, List, [], ◌∷◌, Some, None, true, false, refl}
use Rattle.krb_der.specs.declared.why.Why.TheVariants as why
use Rattle.krb_msg.specs.Term.{Term, Text, Octets, Application, Sequence, End, Required, Optional, der}
use Rattle.krb_msg.specs.Shape.{is_unambiguous, have_own_tags}
use Rattle.krb_msg.specs.Judgement.{Bad, item_outcome, message_outcome}

abbrev text_or_two : Term
text_or_two = Sequence (Optional (Text 255) (Required (Text 255) End))

abbrev two_options : Term
two_options = Sequence (Optional (Text 255) (Optional (Text 255) End))

text_or_two-ambiguous : is_unambiguous text_or_two ≡ false
text_or_two-ambiguous = refl

-- a value that fits, whose octets are refused
refused_value : item_outcome text_or_two 5 true (der text_or_two (None, (65 ∷ [], tt))) ≡ Bad 4 why.Missing
refused_value = refl

-- two values with the same octets
same_octets : der two_options (Some (65 ∷ []), (None, tt)) ≡ der two_options (None, (Some (65 ∷ []), tt))
same_octets = refl

-- ---- why the messages of a grammar have tags of their own
abbrev two_messages : List Term
two_messages = Application 1 (Text 255) ∷ Application 1 Octets ∷ []

two_messages-same_tag : have_own_tags two_messages ≡ false
two_messages-same_tag = refl

-- a value of the second that fits, whose octets are refused
refused_message : message_outcome two_messages 5 (der (Application 1 Octets) (65 ∷ [])) ≡ Bad 2 why.Tag
refused_message = refl
