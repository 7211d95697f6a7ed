-- Each message and each Ticket is spelled in each form.
use Rattle.std.proofs.Common.{ℕ, ◌==◌, ◌≡◌, ◌||◌, not, true, false, List, ◌∷◌, sym, subst, ap, arith}
use Rattle.std.proofs.lemmas.Bool.{or_left, or_right}
use Rattle.std.proofs.lemmas.Bool.Decides.{nat_tests}
use Rattle.std.specs.Option.{is_some}
use Rattle.krb_der.specs.Octets.{AreOctets}
use Rattle.krb_input.specs.Characters.{is_text}
use Rattle.krb_input.specs.Inputs.{is_first}
use Rattle.krb_input.specs.Octets.{begin_message, begins_with_all, first_no_text, is_tag, ntlm}
use Rattle.krb_laws.specs.Spelled.{AreSpelledInEachForm, MessagesAreSpelled}
use Rattle.krb_laws.proofs.InEachForm.{AreApart, in_each_form}
use Rattle.krb_laws.proofs.Nested.{IsHead, headed, nested_no_text, whole_nested}
use Rattle.krb_laws.proofs.Unfit.{headed_unfit}

-- ---- tags
tag_no_zero : (tag : ℕ) → is_tag tag ≡ true → (tag == 0x00) ≡ false
tag_no_zero tag is = grind (arith, nat_tests)

tag_no_mark : (tag : ℕ) → is_tag tag ≡ true → (tag == 0xEF) ≡ false
tag_no_mark tag is = grind (arith, nat_tests)

tag_first : (tag : ℕ) → is_tag tag ≡ true → is_first tag ≡ true
tag_first tag is = ap (λ b. b || tag == 0x00 || tag == 0xA0 || tag == 0xA1 || tag == 0x4E) is

tag_begins : (tag : ℕ) (octets : List ℕ) → is_tag tag ≡ true → begin_message (tag ∷ octets) ≡ true
tag_begins tag octets is = or_left (not (is_text tag) || is_tag tag) (begins_with_all ntlm (tag ∷ octets)) (or_right (not (is_text tag)) (is_tag tag) is)

-- ---- messages and Tickets
headed_apart : (first second third : ℕ) (others : List ℕ) → AreOctets (first ∷ second ∷ third ∷ others) → is_tag first ≡ true → IsHead second third → is_some (first_no_text (first ∷ second ∷ third ∷ others)) ≡ true → AreApart first (second ∷ third ∷ others)
headed_apart first second third others are is head no_text = record {
  no_zero = tag_no_zero first is;
  no_mark = tag_no_mark first is;
  is_first = tag_first first is;
  begins = tag_begins first (second ∷ third ∷ others) is;
  no_text = no_text;
  unfit = headed_unfit first second third others are.1.0 are.1.1.0 head;
}

pub messages_are_spelled : MessagesAreSpelled
messages_are_spelled profile octets are short is =
    let nested = whole_nested profile octets are is in
    let head = headed octets nested short in
    let all = subst AreOctets head.form are in
    let no_text = subst (λ o. is_some (first_no_text o) ≡ true) head.form (nested_no_text octets nested) in
    let apart = headed_apart head.first head.second head.third head.others all head.is_tag head.is_head no_text in
    subst AreSpelledInEachForm (sym head.form) (in_each_form head.first (head.second ∷ head.third ∷ head.others) all apart)
