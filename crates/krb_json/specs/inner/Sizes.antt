-- How large terms are, by which the walks over them end.
use Rattle.std.specs.Prelude.{ℕ, ◌+◌}
use Rattle.krb_msg.specs.Term.{Term, Fields, Integer, Text, Octets, Time, Bits, Sequence, SequenceOf, Tagged, Application, End, Required, Optional}

abbrev mutual
  -- how many terms there are in a term, each counted once for each place that it has
  pub size : Term → ℕ
  size (Integer low high) = 1
  size (Text greatest) = 1
  size Octets = 1
  size Time = 1
  size (Bits least) = 1
  size (Sequence fields) = 1 + size_of_fields fields
  size (SequenceOf empty term) = 1 + size term
  size (Tagged index term) = 1 + size term
  size (Application number term) = 1 + size term

  pub size_of_fields : Fields → ℕ
  size_of_fields End = 1
  size_of_fields (Required term fields) = 1 + size term + size_of_fields fields
  size_of_fields (Optional term fields) = 1 + size term + size_of_fields fields
