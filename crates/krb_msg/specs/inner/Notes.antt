-- What is known of notes on parts.
use Rattle.std.specs.Prelude.{◌≡◌, Bool, false, true}
use Rattle.krb_msg.specs.Term.{Term, SequenceOf, Tagged, Value}
use Rattle.krb_msg.specs.Notes.{Note, has}

-- no note holds of any value of a term
abbrev pub HasNoNotes : Term → Type 0
HasNoNotes term = (note : Note) (value : Value term) → has note term value ≡ false

-- whether the values of a term are lists
abbrev pub is_list : Term → Bool
is_list (SequenceOf empty term) = true
is_list (Tagged index term) = is_list term
is_list other = false
