-- The basic types of RFC 4120, 5.2, as terms, and how a SEQUENCE is written. The terms are those of the lenient profile: a string has any octets, flags are of any number, a list may be empty.
use Rattle.std.specs.Prelude.{ℕ, ℤ, pos, negsuc, true, List}
use Prim.Native.String.{String}
use Rattle.krb_msg.specs.Term.{Term, Fields, Integer, Text, Octets, Time, Bits, SequenceOf, Tagged, Required, Optional}
use Rattle.krb_msg.specs.declared.view.scalars.FlagsView.{FlagsView}

-- writes the fields of a SEQUENCE one after another
infixr 5 ◌⨟◌
abbrev pub ◌⨟◌ : (Fields → Fields) → Fields → Fields
field ⨟ fields = field fields

-- a field [index] of a SEQUENCE, and one that is OPTIONAL; its name is for the reader alone
abbrev pub field : ℕ → String → Term → Fields → Fields
field index name term fields = Required (Tagged index term) fields

abbrev pub optional : ℕ → String → Term → Fields → Fields
optional index name term fields = Optional (Tagged index term) fields

-- an INTEGER (n)
abbrev pub exactly : ℕ → Term
exactly n = Integer (pos n) (pos n)

-- the protocol's version, 5
abbrev pub version : Term
version = exactly 5

abbrev pub int32 : Term
int32 = Integer (negsuc 2147483647) (pos 2147483647)

-- a UInt32, which deployed senders also write as the Int32 of the same 32 bits
abbrev pub wide32 : Term
wide32 = Integer (negsuc 2147483647) (pos 4294967295)

abbrev pub microseconds : Term
microseconds = Integer (pos 0) (pos 999999)

abbrev pub kerberos_string : Term
kerberos_string = Text 255

abbrev pub octet_string : Term
octet_string = Octets

abbrev pub kerberos_time : Term
kerberos_time = Time

abbrev pub kerberos_flags : Term
kerberos_flags = Bits 0

abbrev pub sequence_of : Term → Term
sequence_of term = SequenceOf true term

-- ---- values of these
-- microseconds, which are not negative
abbrev pub micros_of : ℤ → ℕ
micros_of (pos number) = number
micros_of (negsuc number) = 0

abbrev pub flags_of_view : FlagsView → ℕ × List ℕ
flags_of_view flags = (flags.unused, flags.octets.now)
