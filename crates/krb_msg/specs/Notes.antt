-- The notes on a message. A note holds of a value if it holds of any part of it, Tickets inside included; the octets of an OCTET STRING are no part.
use Rattle.std.specs.Prelude.{ℕ, ℤ, negsuc, ◌-◌, ◌*◌, Bool, true, false, not, ◌&&◌, ◌||◌, ◌==◌, nat_lt, List, [], length, Option, Some, None, if◌then◌else◌}
use Rattle.std.specs.List.{list_any}
use Rattle.krb_msg.specs.Term.{Term, Fields, Integer, Text, Octets, Time, Bits, Sequence, SequenceOf, Tagged, Application, End, Required, Optional, Value, Values}
use Rattle.krb_msg.specs.Profiles.{is_unsigned}
use Rattle.krb_msg.specs.Views.{kind_of, kind_term, message_value}
use Rattle.krb_msg.specs.declared.message.Message.{Message}
use Rattle.krb_msg.specs.declared.notes.Notes.{Notes}
use Rattle.krb_msg.specs.declared.ticket.Ticket.{Ticket}
use Rattle.krb_msg.specs.Grammar.{ticket}
use Rattle.krb_msg.specs.Types.{ticket_value}

pub data Note : Type 0 where
  HighOctet : Note
  FewFlags : Note
  Negative : Note
  EmptyList : Note

-- a string has an octet above 7F
abbrev pub text_has : Note → List ℕ → Bool
text_has HighOctet octets = list_any (λ octet. nat_lt 0x7F octet) octets
text_has other octets = false

-- there are fewer than 32 flags
abbrev pub flags_have : Note → ℕ × List ℕ → Bool
flags_have FewFlags bits = nat_lt (8 * length bits.1 - bits.0) 32
flags_have other bits = false

-- a number of the type of kvno, nonce and seq-number is negative
abbrev pub number_has : Note → ℤ → Bool
number_has Negative (negsuc number) = true
number_has other number = false

-- a list is empty, which deserves a note if it is an OPTIONAL field: padata, addresses, additional-tickets
abbrev pub list_has : {A : Type 0} → Note → List A → Bool
list_has EmptyList [] = true
list_has other values = false

-- whether a value is an empty list under its tag
abbrev pub is_list_that_has : Note → (term : Term) → Value term → Bool
is_list_that_has note (SequenceOf empty term) values = list_has note values
is_list_that_has note (Tagged index term) value = is_list_that_has note term value
is_list_that_has note other value = false

abbrev pub option_any : {A : Type 0} → (A → Bool) → Option A → Bool
option_any test None = false
option_any test (Some value) = test value

abbrev mutual
  -- whether a note holds of a value
  pub has : Note → (term : Term) → Value term → Bool
  has note (Integer low high) number = is_unsigned high && number_has note number
  has note (Text greatest) octets = text_has note octets
  has note Octets octets = false
  has note Time octets = false
  has note (Bits least) bits = flags_have note bits
  has note (Sequence fields) values = any_has note fields values
  has note (SequenceOf empty term) values = list_any (has note term) values
  has note (Tagged index term) value = has note term value
  has note (Application number term) value = has note term value

  pub any_has : Note → (fields : Fields) → Values fields → Bool
  any_has note End values = false
  any_has note (Required term fields) values = has note term values.0 || any_has note fields values.1
  any_has note (Optional term fields) values = option_any (λ value. is_list_that_has note term value || has note term value) values.0 || any_has note fields values.1

-- the notes that pass a test
abbrev pub notes_by : (Note → Bool) → Notes
notes_by test = record { high_octet = test HighOctet; few_flags = test FewFlags; negative = test Negative; empty_list = test EmptyList }

-- the notes of one or the other
abbrev pub either : Notes → Notes → Notes
either notes other = record { high_octet = notes.high_octet || other.high_octet; few_flags = notes.few_flags || other.few_flags; negative = notes.negative || other.negative; empty_list = notes.empty_list || other.empty_list }

-- whether a note holds of a message
abbrev pub message_has : Note → Message → Bool
message_has note m = has note (kind_term (kind_of m)) (message_value m)

abbrev pub notes_of : Message → Notes
notes_of m = notes_by (λ note. message_has note m)

-- whether none of them holds
abbrev pub are_none : Notes → Bool
are_none notes = not (((notes.high_octet || notes.few_flags) || notes.negative) || notes.empty_list)

-- whether a message keeps the strict rules: no note holds of it
abbrev pub is_strict : Message → Bool
is_strict m = are_none (notes_of m)

-- the notes on a Ticket alone
abbrev pub notes_of_ticket : Ticket → Notes
notes_of_ticket t = notes_by (λ note. has note ticket (ticket_value t))

-- whether the note of this number holds
abbrev pub notes_have : Notes → ℕ → Bool
notes_have notes number =
    if number == 1 then notes.high_octet
    else if number == 2 then notes.few_flags
    else if number == 3 then notes.negative
    else if number == 4 then notes.empty_list
    else false

-- the note on an empty list alone, if there is one
abbrev pub empty_list_note : Bool → Notes
empty_list_note empty = record { high_octet = false; few_flags = false; negative = false; empty_list = empty }
