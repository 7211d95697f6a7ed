-- The fault of a keytab or of a cache of fewer than 2^64 octets has a small place and extent.
use Rattle.std.proofs.Common.{◌≡◌, ℕ, zero, suc, ◌^◌, ◌<◌, ◌≤◌, ◌==◌, Bool, true, false, ℤ, pos, negsuc, List, [], ◌∷◌, length, Option, None, Result, Ok, Err, refl, arith}
use Rattle.std.specs.Int.{w16, w32, w8}
use Rattle.krb_der.specs.Octets.{AreOctets, when}
use Rattle.krb_file.specs.Fields.{Fault, Source, ◌>>=◌, called, counted_at, in_part, is_at_end, is_empty, limited, names_at, next_octets_at, number_at, rest_at, signed_at, source_of, succeed, version_at, within}
use Rattle.krb_file.specs.declared.field_name.FieldName.{FieldName}
use Rattle.krb_file.specs.declared.field_name.FieldName.TheVariants as fields
use Rattle.krb_file.specs.declared.field_name.FilePart.{FilePart}
use Rattle.krb_file.specs.declared.field_name.FilePart.TheVariants as parts
use Rattle.krb_file.proofs.Fields.{wide16, wide32, wide8}
use Rattle.krb_keytab.specs.Reading.{Records, after_version, entry_at, items as keytab_records, items_after, items_from, items_within, next_record_at, record_at, record_of}
use Rattle.krb_keytab.specs.declared.reading.Next.{Next}
use Rattle.krb_keytab.specs.declared.reading.Next.TheVariants as nexts
use Rattle.krb_keytab.proofs.Faults.{items-fault}
use Rattle.krb_ccache.specs.Reading.{CacheItems, again_at, credential_at, credential_fields_at, credential_from, header_at, header_field_at, header_fields_at, header_in, item_and, items_after as cache_items_after, items_within as cache_items_within, one_enctype, principal_at, principal_in, start_at, typed_at, typed_list_at}
use Rattle.krb_ccache.specs.Streaming.{credentials, credentials_of, file_start}
use Rattle.krb_ccache.specs.declared.reading.Start.{Start}
use Rattle.krb_ccache.specs.declared.value.Credential.{Credential}
use Rattle.krb_ccache.specs.declared.value.FilePrincipal.{FilePrincipal}
use Rattle.krb_ccache.proofs.Faults.{Steps-credential, Steps-start}
use Rattle.krb_ccache.proofs.Items.{items_after-fault}
use Rattle.krb_tool_laws.proofs.FileReaders.{AreAtMost, Anything, Gives, IsBelow, IsFault, IsRead, IsSigned, IsSmallFault, IsSource, any_gives, called_gives, counted_gives, either_gives, either_read, gives, names_give, number_gives, one_gives, part_gives, piece_gives, rest_gives, signed_gives, small_fault, then_gives, times_give, version_gives, within_gives}

-- ---- fields
number8_gives : (name : FieldName) → Gives (IsBelow w8) (called name (number_at w8))
number8_gives name = called_gives (IsBelow w8) name (number_at w8) (number_gives w8 wide8)

number16_gives : (name : FieldName) → Gives (IsBelow w16) (called name (number_at w16))
number16_gives name = called_gives (IsBelow w16) name (number_at w16) (number_gives w16 wide16)

number32_gives : (name : FieldName) → Gives (IsBelow w32) (called name (number_at w32))
number32_gives name = called_gives (IsBelow w32) name (number_at w32) (number_gives w32 wide32)

counted16_gives : (name : FieldName) → Gives Anything (called name (counted_at w16))
counted16_gives name = called_gives Anything name (counted_at w16) (counted_gives w16 wide16 (λ n small. omega (arith, small)))

counted32_gives : (name : FieldName) → Gives Anything (called name (counted_at w32))
counted32_gives name = called_gives Anything name (counted_at w32) (counted_gives w32 wide32 (λ n small. omega (arith, small)))

type_gives : (name : FieldName) → Gives IsSigned (called name (signed_at w32))
type_gives name = called_gives IsSigned name (signed_at w32) signed_gives

-- the end of what is read: a fault, if there is one
abbrev EndsWell : {E : Type 0} → Result E Fault → Type 0
EndsWell (Ok end) = Unit {0}
EndsWell (Err fault) = IsFault fault

-- ---- keytabs
entry_gives : Gives Anything entry_at
entry_gives =
    then_gives Anything Anything (names_at w16) _ (names_give w16 wide16 (λ n small. omega (arith, small))) (λ names _.
    then_gives IsSigned Anything (called fields.NameType (signed_at w32)) _ (type_gives fields.NameType) (λ name_type _.
    then_gives (IsBelow w32) Anything (called fields.Timestamp (number_at w32)) _ (number32_gives fields.Timestamp) (λ time _.
    then_gives (IsBelow w8) Anything (called fields.KeyVersion (number_at w8)) _ (number8_gives fields.KeyVersion) (λ vno8 _.
    then_gives (IsBelow w16) Anything (called fields.Enctype (number_at w16)) _ (number16_gives fields.Enctype) (λ enctype _.
    then_gives Anything Anything (called fields.Key (counted_at w16)) _ (counted16_gives fields.Key) (λ key _.
    then_gives Anything Anything (called fields.Rest rest_at) _ (called_gives Anything fields.Rest rest_at rest_gives) (λ rest _.
    gives Anything _ tt)))))))

record_of_gives : (z : ℤ) → IsSigned z → Gives Anything (record_of z)
record_of_gives (pos zero) small = gives Anything _ tt
record_of_gives (pos (suc n)) small = then_gives Anything Anything (within (suc n) entry_at) _ (within_gives Anything (suc n) entry_at (omega (arith, small)) entry_gives) (λ entry _. gives Anything _ tt)
record_of_gives (negsuc n) small =
    then_gives (AreAtMost (suc n)) Anything (called fields.Hole (next_octets_at None (suc n))) _ (called_gives (AreAtMost (suc n)) fields.Hole (next_octets_at None (suc n)) (piece_gives (suc n))) (λ octets _. gives Anything _ tt)

record_gives : Gives Anything record_at
record_gives = one_gives Anything next_record_at (record {
  each = λ bounds source near are.
      either_read Anything (is_empty source.octets) _ (λ _. (called fields.Length (signed_at w32) >>= record_of) bounds source) (tt, are)
      ((then_gives IsSigned Anything (called fields.Length (signed_at w32)) record_of (type_gives fields.Length) record_of_gives).each bounds source near are);
})

records_end : (read : Result (Next × Source) Fault) (others : Source → Records) → IsRead Anything read → ((t : Source) → IsSource t → EndsWell (others t).end) → EndsWell (items_from read others).end
records_end (Err fault) others is rest = is
records_end (Ok (nexts.Done stop, t)) others is rest = tt
records_end (Ok (nexts.Item r, t)) others is rest = rest t is.1

within_end : (bound : ℕ) (limit : Option ℕ) (source : Source) → IsSource source → EndsWell (items_within bound limit source).end
within_end zero limit source are = tt
within_end (suc bound) limit source are = records_end (record_at (limited limit) source) (items_within bound limit) (record_gives.each (limited limit) source tt are) (within_end bound limit)

version_end : (read : Result (ℕ × Source) Fault) (others : Source → Records) → IsRead Anything read → ((t : Source) → IsSource t → EndsWell (others t).end) → EndsWell (after_version read others).end
version_end (Err fault) others is rest = is
version_end (Ok read) others is rest = rest read.1 is.1

file_source : (file : List ℕ) → AreOctets file → length file < 2 ^ 64 → IsSource (source_of file)
file_source file are few = record { octets = are; few = omega (arith, few) }

keytab_end : (limit : Option ℕ) (file : List ℕ) → AreOctets file → length file < 2 ^ 64 → EndsWell (keytab_records limit file).end
keytab_end limit file are few =
    version_end (version_at (2 ∷ []) (limited limit) (source_of file)) (items_after limit) ((version_gives (2 ∷ [])).each (limited limit) (source_of file) tt (file_source file are few)) (λ t. within_end (length t.octets) limit t)

-- what is at fault in the end of what was read
abbrev pub EndsSmall : {E : Type 0} → Result E Fault → Type 0
EndsSmall (Ok end) = Unit {0}
EndsSmall (Err fault) = IsSmallFault fault

ends_small : {E : Type 0} (end : Result E Fault) → ((f : Fault) → end ≡ Err f → f.place < 2 ^ 64) → EndsWell end → EndsSmall end
ends_small (Ok end) near is = tt
ends_small (Err fault) near is = small_fault fault (near fault refl) is

pub keytab_fault : (limit : Option ℕ) (file : List ℕ) → AreOctets file → length file < 2 ^ 64 → EndsSmall (keytab_records limit file).end
keytab_fault limit file are few = ends_small (keytab_records limit file).end (λ f e. omega (arith, (items-fault limit file f e).upto, few)) (keytab_end limit file are few)

-- ---- caches
principal_gives : Gives Anything principal_at
principal_gives =
    then_gives IsSigned Anything (called fields.NameType (signed_at w32)) _ (type_gives fields.NameType) (λ name_type _.
    then_gives Anything Anything (names_at w32) _ (names_give w32 wide32 (λ n small. omega (arith, small))) (λ names _.
    gives Anything _ tt))

principal_in_gives : (part : FilePart) → Gives Anything (principal_in part)
principal_in_gives part = part_gives Anything part principal_at principal_gives

typed_gives : Gives Anything typed_at
typed_gives =
    then_gives (IsBelow w16) Anything (called fields.Type (number_at w16)) _ (number16_gives fields.Type) (λ kind _.
    then_gives Anything Anything (called fields.Octets (counted_at w32)) _ (counted32_gives fields.Octets) (λ octets _.
    gives Anything _ tt))

typed_list_gives : (name : FieldName) (part : ℕ → FilePart) → Gives Anything (typed_list_at name part)
typed_list_gives name part =
    then_gives (IsBelow w32) Anything (called name (number_at w32)) _ (number32_gives name) (λ count _. times_give (λ index. in_part (part index) typed_at) (λ index. part_gives Anything (part index) typed_at typed_gives) count)

from_key_gives : (client server : FilePrincipal) (enctype : ℕ) → Gives Anything (credential_from client server enctype)
from_key_gives client server enctype =
    then_gives Anything Anything (called fields.Key (counted_at w32)) _ (counted32_gives fields.Key) (λ key _.
    then_gives (IsBelow w32) Anything (called fields.AuthTime (number_at w32)) _ (number32_gives fields.AuthTime) (λ authtime _.
    then_gives (IsBelow w32) Anything (called fields.StartTime (number_at w32)) _ (number32_gives fields.StartTime) (λ starttime _.
    then_gives (IsBelow w32) Anything (called fields.EndTime (number_at w32)) _ (number32_gives fields.EndTime) (λ endtime _.
    then_gives (IsBelow w32) Anything (called fields.RenewTill (number_at w32)) _ (number32_gives fields.RenewTill) (λ renew_till _.
    then_gives (IsBelow w8) Anything (called fields.IsSkey (number_at w8)) _ (number8_gives fields.IsSkey) (λ is_skey _.
    then_gives (IsBelow w32) Anything (called fields.TicketFlags (number_at w32)) _ (number32_gives fields.TicketFlags) (λ flags _.
    then_gives Anything Anything (typed_list_at fields.AddressCount parts.Address) _ (typed_list_gives fields.AddressCount parts.Address) (λ addresses _.
    then_gives Anything Anything (typed_list_at fields.AuthdataCount parts.Authdata) _ (typed_list_gives fields.AuthdataCount parts.Authdata) (λ authdata _.
    then_gives Anything Anything (called fields.Ticket (counted_at w32)) _ (counted32_gives fields.Ticket) (λ ticket _.
    then_gives Anything Anything (called fields.SecondTicket (counted_at w32)) _ (counted32_gives fields.SecondTicket) (λ second_ticket _.
    gives Anything _ tt)))))))))))

again_gives : (version enctype : ℕ) → Gives Anything (again_at version enctype)
again_gives version enctype = either_gives Anything (version == 3) _ _ (any_gives (IsBelow w16) (called fields.Enctype (number_at w16)) (number16_gives fields.Enctype)) (gives Anything enctype tt)

credential_gives : (version : ℕ) → Gives Anything (credential_at one_enctype version)
credential_gives version =
    one_gives Anything (credential_fields_at one_enctype version)
    (then_gives Anything Anything (principal_in parts.Client) _ (principal_in_gives parts.Client) (λ client _.
    then_gives Anything Anything (principal_in parts.Server) _ (principal_in_gives parts.Server) (λ server _.
    then_gives (IsBelow w16) Anything (called fields.Enctype (number_at w16)) _ (number16_gives fields.Enctype) (λ enctype _.
    then_gives Anything Anything (again_at version enctype) _ (again_gives version enctype) (λ again _.
    then_gives Anything Anything (credential_from client server enctype) _ (from_key_gives client server enctype) (λ credential _.
    gives Anything _ tt))))))

header_field_gives : Gives Anything header_field_at
header_field_gives =
    then_gives (IsBelow w16) Anything (called fields.Tag (number_at w16)) _ (number16_gives fields.Tag) (λ tag _.
    then_gives Anything Anything (called fields.Value (counted_at w16)) _ (counted16_gives fields.Value) (λ value _.
    gives Anything _ tt))

header_fields_give : (bound before : ℕ) → Gives Anything (header_fields_at bound before)
header_fields_give zero before = gives Anything [] tt
header_fields_give (suc bound) before = record {
  each = λ bounds source near are.
      either_read Anything (is_at_end bounds source) (λ _. Ok ([], source)) _ (tt, are)
      ((then_gives Anything Anything (in_part (parts.Header before) header_field_at) (λ first. header_fields_at bound (suc before) >>= λ others. succeed (first ∷ others))
      (part_gives Anything (parts.Header before) header_field_at header_field_gives) (λ first _.
      then_gives Anything Anything (header_fields_at bound (suc before)) (λ others. succeed (first ∷ others)) (header_fields_give bound (suc before)) (λ others _. gives Anything (first ∷ others) tt))).each bounds source near are);
}

header_gives : Gives Anything header_at
header_gives =
    then_gives (IsBelow w16) Anything (called fields.HeaderLength (number_at w16)) _ (number16_gives fields.HeaderLength) (λ size small.
    then_gives Anything Anything (within size (header_fields_at size 0)) _ (within_gives Anything size (header_fields_at size 0) (omega (arith, small)) (header_fields_give size 0)) (λ found _.
    gives Anything _ tt))

start_gives : (versions : List ℕ) → Gives Anything (start_at versions)
start_gives versions =
    then_gives Anything Anything (version_at versions) _ (version_gives versions) (λ version _.
    then_gives Anything Anything (header_in version) _ (either_gives Anything (version == 3) _ _ (gives Anything _ tt) header_gives) (λ header _.
    then_gives Anything Anything (principal_in parts.Principal) _ (principal_in_gives parts.Principal) (λ principal _.
    gives Anything _ tt)))

item_end : (read : Result (Credential × Source) Fault) (others : Source → CacheItems Credential) → IsRead Anything read → ((t : Source) → IsSource t → EndsWell (others t).end) → EndsWell (item_and read others).end
item_end (Err fault) others is rest = is
item_end (Ok read) others is rest = rest read.1 is.1

cache_items_end : (version bound : ℕ) (limit : Option ℕ) (source : Source) → IsSource source → EndsWell (cache_items_within bound (credential_at one_enctype version) limit source).end
cache_items_end version zero limit source are = tt
cache_items_end version (suc bound) limit source are =
    by (is_empty source.octets)
    (item_end (credential_at one_enctype version (limited limit) source) (cache_items_within bound (credential_at one_enctype version) limit) ((credential_gives version).each (limited limit) source tt are) (cache_items_end version bound limit))
  where
    more : CacheItems Credential
    more = item_and (credential_at one_enctype version (limited limit) source) (cache_items_within bound (credential_at one_enctype version) limit)

    by : (empty : Bool) → EndsWell more.end → EndsWell (when empty (λ _. let it : CacheItems Credential = record { items = []; end = Ok source.place } in it) (λ _. more)).end
    by true is = tt
    by false is = is

start_is : (limit : Option ℕ) (file : List ℕ) → AreOctets file → length file < 2 ^ 64 → IsRead Anything (file_start limit file)
start_is limit file are few = (start_gives (3 ∷ 4 ∷ [])).each (limited limit) (source_of file) tt (file_source file are few)

start_place : (limit : Option ℕ) (file : List ℕ) (f : Fault) → file_start limit file ≡ Err f → f.place ≤ length file
start_place limit file f e = omega (arith, ((Steps-start (3 ∷ 4 ∷ [])).faults (limited limit) (source_of file) f e).upto)

items_place : (limit : Option ℕ) (file : List ℕ) (start : Start) (after : Source) (f : Fault) → file_start limit file ≡ Ok (start, after) → (cache_items_after (credential_at one_enctype start.version) limit after).end ≡ Err f → f.place ≤ length file
items_place limit file start after f begins e =
    omega (arith, ((Steps-start (3 ∷ 4 ∷ [])).moves (limited limit) (source_of file) start after begins).same, (items_after-fault (credential_at one_enctype start.version) (Steps-credential one_enctype start.version) limit after f e).upto)

-- the fault of what is before the credentials, and of the credentials
pub record AreSmall (start : Result (Start × Source) Fault) (found : CacheItems Credential) : Type 0 where
  pub start_small : EndsSmall start
  pub end_small : EndsSmall found.end

pub cache_fault : (limit : Option ℕ) (file : List ℕ) → AreOctets file → length file < 2 ^ 64 → AreSmall (file_start limit file) (credentials limit file)
cache_fault limit file are few = by (file_start limit file) refl (start_is limit file are few)
  where
    by : (start : Result (Start × Source) Fault) → file_start limit file ≡ start → IsRead Anything start → AreSmall start (credentials_of limit start)
    by (Err fault) e is = let small : IsSmallFault fault = small_fault fault (omega (arith, start_place limit file fault e, few)) is in record { start_small = small; end_small = small }
    by (Ok (start, after)) e is = record {
      start_small = tt;
      end_small = ends_small (cache_items_after (credential_at one_enctype start.version) limit after).end (λ f found. omega (arith, items_place limit file start after f e found, few)) (cache_items_end start.version (length after.octets) limit after is.1);
    }
