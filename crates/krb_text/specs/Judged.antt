-- Octets inside of a message that are judged as an item of a term by themselves, and the METHOD-DATA of errors.
use Rattle.std.specs.Prelude.{ℕ, ℤ, pos, negsuc, ◌==◌, ◌&&◌, nat_lt, Bool, true, false, List, length, Option, Some, None, if◌then◌else◌}
use Rattle.std.specs.List.{list_all}
use Rattle.krb_der.specs.declared.verdict.Verdict.{Verdict}
use Rattle.krb_der.specs.declared.verdict.Verdict.TheVariants as verdict
use Rattle.krb_msg.specs.Grammar.{method_data}
use Rattle.krb_msg.specs.Judgement.{term_judgement}
use Rattle.krb_msg.specs.Term.{Term, Value}
use Rattle.krb_msg.specs.ValueOfDer.{value_of_der}

-- the value of octets, if they are judged to be whole
abbrev pub if_whole : Verdict → (term : Term) → List ℕ → Option (Value term)
if_whole verdict.Whole term octets = Some (value_of_der term octets)
if_whole verdict.Open term octets = None
if_whole (verdict.Refused refusal) term octets = None

-- whether they are octets, and fewer than 2147483648, which is more than a message has
abbrev pub are_octets : List ℕ → Bool
are_octets octets = nat_lt (length octets) 2147483648 && list_all (λ octet. nat_lt octet 256) octets

-- the value of an item that octets are all of, if they are judged to be one
abbrev pub judged_if : Bool → (term : Term) → List ℕ → Option (Value term)
judged_if false term octets = None
judged_if true term octets = if_whole (term_judgement term (length octets) octets) term octets

unfoldable pub judged : (term : Term) → List ℕ → Option (Value term)
judged term octets = judged_if (are_octets octets) term octets

-- whether an error asks for pre-authentication (RFC 4120, 7.5.9)
abbrev pub asks_for_preauth : ℤ → Bool
asks_for_preauth (pos code) = code == 25
asks_for_preauth (negsuc code) = false

-- the METHOD-DATA in the data of an error that asks for pre-authentication (RFC 4120, 5.9.1)
abbrev pub methods_in : ℤ → Option (List ℕ) → Option (Value method_data)
methods_in code None = None
methods_in code (Some octets) = if asks_for_preauth code then judged method_data octets else None
