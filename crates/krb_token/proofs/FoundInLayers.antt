-- What is found in a layer.
use Rattle.std.proofs.Common.{List, ℕ}
use Rattle.krb_token.specs.Seen.{IsAll, IsInLayer, IsShortFound}
use Rattle.krb_token.specs.declared.opening.Found.{Found}
use Rattle.krb_token.specs.declared.opening.Found.TheVariants as found

pub short_in_layer : (it : Found) → IsInLayer it → IsShortFound it
short_in_layer (found.Message place octets) h = h
short_in_layer (found.Ticket octets) h = absurd h
short_in_layer other h = tt

pub all_in_layer : (octets : List ℕ) (it : Found) → IsInLayer it → IsAll octets it
all_in_layer octets (found.Ticket ticket) h = absurd h
all_in_layer octets other h = tt
