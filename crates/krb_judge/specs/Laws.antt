-- The laws of the refusals of all slices, and of the names of fields. Each is the contract of a function of the module `law`.
use Rattle.std.specs.Prelude.{ℕ, suc, ◌≡◌, ◌<◌, ◌≤◌, true, List, length, map, Option, Some}
use Rattle.std.specs.List.{AllByRecursion, IsDistinct}
use Rattle.std.specs.Str.{bytes_eq}
use Rattle.krb_der.specs.declared.profile.Profile.{Profile}
use Rattle.krb_der.specs.declared.verdict.Refusal.{Refusal}
use Rattle.krb_msg.specs.Views.{kind_term}
use Rattle.krb_msg.specs.declared.message.Kind.{Kind}
use Rattle.krb_judge.specs.FieldNames.{Named, fields_of, are_named, names_of_kind}
use Rattle.krb_judge.specs.declared.locating.names.Names.{Names}
use Rattle.krb_msg.specs.Judgement.{judgement}
use Rattle.krb_der.specs.declared.verdict.Verdict.TheVariants as verdict
use Rattle.krb_der.specs.declared.why.Why.TheVariants as why
use Rattle.krb_judge.specs.Located.{LiesInMessage, BeginsPath}
use Rattle.krb_judge.specs.Paths.{message_path}
use Rattle.krb_judge.specs.Parses.{refusal_of, ticket_refusal, method_data_refusal}

-- A refusal of octets, if there are any, is at one of them.
abbrev pub IsInside : (List ℕ → Option Refusal) → Type 0
IsInside refusal = (octets : List ℕ) (r : Refusal) → 0 < length octets → refusal octets ≡ Some r → r.place < length octets

pub record RefusalsAreInside : Type 0 where
  pub of_message : (profile : Profile) → IsInside (refusal_of profile)
  pub of_ticket : (profile : Profile) → IsInside (ticket_refusal profile)
  pub of_method_data : IsInside method_data_refusal

-- Each field of each message has a name: the fields are those of the grammar.
abbrev pub FieldsHaveNames : Type 0
FieldsHaveNames = (kind : Kind) → are_named (kind_term kind) (names_of_kind kind) ≡ true

-- Fields have names, each its own.
pub record HaveOwnNames (fields : List Named) : Type 0 where
  pub some : AllByRecursion (λ field. 0 < length field.name) fields
  pub distinct : IsDistinct bytes_eq (map (λ field. field.name) fields)

-- The fields of each type have names of their own.
abbrev pub NamesAreOwn : Type 0
NamesAreOwn = (names : Names) → HaveOwnNames (fields_of names)

-- A message of n octets is refused at the last of these octets, and this is the path of its field at fault.
pub record IsPathOf (profile : Profile) (n : ℕ) (octets : List ℕ) (r : Refusal) (path : List ℕ) : Type 0 where
  pub fits : length octets ≤ n
  pub last : length octets ≡ suc r.place
  pub refused : judgement profile n octets ≡ verdict.Refused r
  pub found : message_path profile n octets ≡ Some path

-- The path names an item that the refused octet lies in or, if something is missing, a field that is to be there and is not.
abbrev pub PathsLeadToRefusals : Type 0
PathsLeadToRefusals = (profile : Profile) (n : ℕ) (octets : List ℕ) (r : Refusal) (path : List ℕ) → IsPathOf profile n octets r path → LiesInMessage (r.why ≡ why.Missing) profile n octets r.place path

-- Unless something is missing, the path goes on to the last such item: the path of any other begins it.
abbrev pub PathsGoOnToTheLast : Type 0
PathsGoOnToTheLast = (profile : Profile) (n : ℕ) (octets : List ℕ) (r : Refusal) (path other : List ℕ) → IsPathOf profile n octets r path → (r.why ≡ why.Missing → ⊥) → LiesInMessage ⊥ profile n octets r.place other → BeginsPath other path

-- The path of a message that is cut, by the octets that are there, names an item in which the next octet would lie.
abbrev pub PathsLeadToEnds : Type 0
PathsLeadToEnds = (profile : Profile) (n : ℕ) (octets path : List ℕ) → length octets ≤ n → judgement profile n octets ≡ verdict.Open → message_path profile n octets ≡ Some path → LiesInMessage ⊥ profile n octets (length octets) path
