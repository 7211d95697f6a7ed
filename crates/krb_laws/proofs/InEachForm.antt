-- Octets that are spelled in each form, by their first octet, one that is no text, and a character of their base64.
use Rattle.std.proofs.Common.{ℕ, ◌==◌, ◌≡◌, true, false, List, ◌∷◌, arith}
use Rattle.std.specs.List.{list_any}
use Rattle.std.specs.Option.{is_some}
use Rattle.krb_der.specs.Octets.{AreOctets}
use Rattle.krb_input.specs.Inputs.{is_first}
use Rattle.krb_input.specs.Octets.{begin_message, first_no_text}
use Rattle.krb_laws.specs.Spelled.{AreSpelledInEachForm}
use Rattle.krb_laws.specs.Written.{base64_text}
use Rattle.krb_laws.proofs.Base64Alone.{base64_is_spelled}
use Rattle.krb_laws.proofs.Dumps.{dumps_are_spelled}
use Rattle.krb_laws.proofs.Hexadecimal.{digits_are_spelled, hexadecimal_is_no_dump, hexadecimal_is_spelled}
use Rattle.krb_laws.proofs.Inputs.{no_mark}
use Rattle.krb_laws.proofs.Octets.{octets_are_spelled}
use Rattle.krb_laws.proofs.Unfit.{is_unfit, unfit_text}

-- a first octet and others of which each form is read by its own rule
pub record AreApart (first : ℕ) (others : List ℕ) : Type 0 where
  pub no_zero : (first == 0x00) ≡ false
  pub no_mark : (first == 0xEF) ≡ false
  pub is_first : is_first first ≡ true
  pub begins : begin_message (first ∷ others) ≡ true
  pub no_text : is_some (first_no_text (first ∷ others)) ≡ true
  pub unfit : list_any is_unfit (base64_text (first ∷ others)) ≡ true

pub in_each_form : (first : ℕ) (others : List ℕ) → AreOctets (first ∷ others) → AreApart first others → AreSpelledInEachForm (first ∷ others)
in_each_form first others are apart = record {
  by_themselves = octets_are_spelled (first ∷ others) (no_mark (first ∷ others) apart.no_mark) apart.begins apart.no_text;
  by_digits = digits_are_spelled (first ∷ others) are;
  by_hexadecimal = λ text given. hexadecimal_is_spelled text (first ∷ others) given (hexadecimal_is_no_dump text (first ∷ others) given apart.no_zero);
  by_base64 = λ text given. base64_is_spelled text first others are apart.is_first given (unfit_text text (first ∷ others) given apart.unfit);
  by_dump = λ layout is few. dumps_are_spelled layout (first ∷ others) is are (omega arith) few;
}
