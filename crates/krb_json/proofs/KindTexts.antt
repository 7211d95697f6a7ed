-- The kinds of messages and the types, one by one, for the laws about texts. asn1/generate wrote this from asn1/krb5.asn1
use Rattle.std.proofs.Common.{◌≡◌, ℕ, true, ◌&&◌, Bool, List, Some, refl}
use Rattle.std.specs.Prelude.{nat_le}
use Rattle.std.specs.List.{list_all}
use Rattle.krb_der.specs.declared.profile.Profile.{Profile}
use Rattle.krb_der.specs.declared.profile.Profile.TheVariants as profiles
use Rattle.krb_msg.specs.Shape as shape
use Rattle.krb_msg.specs.Views.{kind_name, kind_term, kind_term_in}
use Rattle.krb_msg.specs.declared.message.Kind.{Kind}
use Rattle.krb_msg.specs.declared.message.Kind.TheVariants as kind
use Rattle.krb_judge.specs.FieldNames.{fields_of, names_of_kind}
use Rattle.krb_judge.specs.declared.locating.names.Names.{Names}
use Rattle.krb_judge.specs.declared.locating.names.Names.TheVariants as names
use Rattle.krb_json.specs.Laws.{is_named}
use Rattle.krb_json.specs.Lines.{kind_named}

-- ---- names
pub named : (profile : Profile) (k : Kind) → is_named (kind_term_in profile k) (names_of_kind k) ≡ true
named profiles.Lenient kind.AsReq = refl
named profiles.Strict kind.AsReq = refl
named other another = refl

pub kind-back : (k : Kind) → kind_named (kind_name k) ≡ Some k
kind-back kind.AsReq = refl
kind-back other = refl

-- octets 20 to 7E
abbrev pub is_printable : List ℕ → Bool
is_printable text = list_all (λ c. nat_le 32 c && nat_le c 126) text

pub all-kinds : (k : Kind) → is_printable (kind_name k) ≡ true
all-kinds kind.AsReq = refl
all-kinds other = refl

pub all-names : (n : Names) → list_all (λ field. is_printable field.name) (fields_of n) ≡ true
all-names names.Basic = refl
all-names other = refl

-- ---- depths
pub shallow : (k : Kind) → nat_le (shape.depth (kind_term k)) 127 ≡ true
shallow kind.AsReq = refl
shallow other = refl

pub depth-in : (profile : Profile) (k : Kind) → shape.depth (kind_term_in profile k) ≡ shape.depth (kind_term k)
depth-in profiles.Lenient k = refl
depth-in profiles.Strict kind.AsReq = refl
depth-in profiles.Strict other = refl
