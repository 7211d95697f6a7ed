-- The realm that a message is of (RFC 4120, 5.2.2): that in the body of a request (5.4.1), that of the client in a reply (5.4.2), that of the ticket in an AP-REQ (5.5.1), and that of the server in an error (5.9.1); the other messages have none.
use Rattle.std.specs.Prelude.{ℕ, ◌≡◌, List, Option}
use Rattle.krb_der.specs.declared.profile.Profile.{Profile}
use Rattle.krb_msg.specs.declared.message.Message.{Message}
use Rattle.krb_msg.specs.Views.{message_der, IsInProfile}
pub use Rattle.krb_msg.specs.Kinds.{realm_of}

-- the octets are those of some message of a profile, of this realm
pub record AreOfRealm (profile : Profile) (octets : List ℕ) (realm : Option (List ℕ)) : Type 0 where
  pub message : Message
  pub in_profile : IsInProfile profile message
  pub form : message_der message ≡ octets
  pub same_realm : realm_of message ≡ realm
