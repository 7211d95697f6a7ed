-- Octets that are one message, whole or cut by the capture.
use Rattle.std.specs.Prelude.{ℕ, ◌+◌, ◌-◌, nat_lt, if◌then◌else◌, List, length, take, Option, Some, None}
use Rattle.krb_der.specs.declared.profile.Profile.{Profile}
use Rattle.krb_der.specs.declared.verdict.Refusal.{Refusal}
use Rattle.krb_der.specs.declared.why.Why.TheVariants as why
use Rattle.krb_msg.specs.Judgement.{judgement}
use Rattle.krb_judge.specs.Parses.{refused, refusal_of}
use Rattle.krb_judge.specs.Paths.{message_path}
use Rattle.krb_record.specs.declared.extent.Extent.{Extent}
use Rattle.krb_capture.specs.Found.{Found, Whole, Faulty, Missing}

-- the greatest number of octets of a message
abbrev pub most_octets : ℕ
most_octets = 2147483647

-- the path of the field that has the last of these octets of a message of n octets
unfoldable pub path_of : Profile → ℕ → List ℕ → Option (List ℕ)
path_of profile size prefix = if nat_lt most_octets size then None else message_path profile size prefix

-- a message of n octets that follows others of a frame or a datagram, and of which these are present, is refused
abbrev pub refused_found : Profile → Extent → ℕ → ℕ → List ℕ → Refusal → Found
refused_found profile extent before size octets refusal =
    Faulty (record { place = before + refusal.place; why = refusal.why }) (path_of profile size (take (refusal.place + 1) octets)) extent

abbrev pub found_unless : Profile → Option Refusal → Extent → ℕ → List ℕ → Found
found_unless profile None extent before octets = Whole octets
found_unless profile (Some refusal) extent before octets = refused_found profile extent before (length octets) octets refusal

-- octets that are all there, after others of a frame or a datagram
unfoldable pub message_found : Profile → Extent → ℕ → List ℕ → Found
message_found profile extent before octets = found_unless profile (refusal_of profile octets) extent before octets

-- why the first octets of a message of n octets are refused, if they are
abbrev pub prefix_refusal : Profile → ℕ → List ℕ → Option Refusal
prefix_refusal profile size octets =
    if nat_lt most_octets size then Some (record { place = 0; why = why.TooLong }) else refused (judgement profile size octets)

abbrev pub missing_unless : Profile → Option Refusal → Extent → ℕ → List ℕ → Found
missing_unless profile None extent size octets = Missing (length octets) (size - length octets) (path_of profile size octets)
missing_unless profile (Some refusal) extent size octets = refused_found profile extent 0 size octets refusal

-- the first octets of a datagram that is a message of n octets, of which the others are not in the capture
unfoldable pub cut_found : Profile → Extent → ℕ → List ℕ → Found
cut_found profile extent size octets = missing_unless profile (prefix_refusal profile size octets) extent size octets
