-- Messages as values of the terms of their kinds, with their DER, and what a message of a profile is. The numbers that a message fixes are in the value and not in the type.
use Rattle.std.specs.Prelude.{ℕ, ◌≡◌, ◌^◌, ◌<◌, false, List, length}
use Rattle.std.specs.Option.{unwrap_or}
use Rattle.krb_msg.specs.declared.message.Message.{Message}
use Rattle.krb_msg.specs.declared.message.Kind.{Kind}
use Rattle.krb_msg.specs.declared.message.Kind.TheVariants as kind
use Rattle.krb_der.specs.declared.profile.Profile.{Profile}
use Rattle.krb_msg.specs.Profiles.{profile_term, profile_value}
use Rattle.krb_msg.specs.Term.{Term, Value, der, Fits}
use Rattle.krb_msg.specs.ValueOfDer.{first_or_zero, value_of_der}
pub use Rattle.krb_msg.specs.Kinds.{kind_of, kind_number, kind_tag, kind_name, kind_with_tag, kind_term, message_value, message_of}

-- the kind whose messages begin with a tag, and any if none do
abbrev pub kind_of_tag : ℕ → Kind
kind_of_tag tag = unwrap_or (kind_with_tag tag) kind.KrbError

-- the one DER form of a message
abbrev pub message_der : Message → List ℕ
message_der m = der (kind_term (kind_of m)) (message_value m)

-- the message whose DER octets are
abbrev pub message_of_kind : Kind → List ℕ → Message
message_of_kind kind octets = message_of kind (value_of_der (kind_term kind) octets)

abbrev pub message_of_der : List ℕ → Message
message_of_der octets = message_of_kind (kind_of_tag (first_or_zero octets)) octets

-- the messages of a kind in a profile, and one of them as its value
abbrev pub kind_term_in : Profile → Kind → Term
kind_term_in profile kind = profile_term profile false (kind_term kind)

abbrev pub message_value_in : (profile : Profile) (m : Message) → Value (kind_term_in profile (kind_of m))
message_value_in profile m = profile_value profile false (kind_term (kind_of m)) (message_value m)

-- A message of a profile: its numbers are in range, its times and bit strings have their shape, its strings, flags and lists are as the profile has them, and its octets fit a frame.
pub record IsInProfile (profile : Profile) (m : Message) : Type 0 where
  pub fits : Fits (kind_term_in profile (kind_of m)) (message_value_in profile m)
  pub short : length (message_der m) < 2 ^ 31

-- the octets are those of some message of a profile, of this kind
pub record AreOfKind (profile : Profile) (octets : List ℕ) (kind : Kind) : Type 0 where
  pub message : Message
  pub in_profile : IsInProfile profile message
  pub form : message_der message ≡ octets
  pub same_kind : kind_of message ≡ kind
