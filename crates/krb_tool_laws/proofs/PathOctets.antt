-- Paths of fields are octets.
use Rattle.std.proofs.Common.{◌≡◌, ℕ, zero, suc, ◌+◌, ◌-◌, ◌&&◌, nat_lt, Bool, true, false, List, [], ◌∷◌, ◌++◌, length, take, drop, get_or, Option, Some, None, IfSome, codes, refl, arith}
use Rattle.std.proofs.lemmas.Bool.{and_parts, ltb-true}
use Rattle.std.specs.Fmt.{decimal}
use Rattle.std.specs.List.{list_all}
use Rattle.std.specs.Option.{option_map}
use Rattle.krb_der.specs.Octets.{AreOctets, begins_with, when}
use Rattle.krb_der.specs.inner.Numbers.{AreOctets-append}
use Rattle.krb_der.specs.declared.profile.Profile.{Profile}
use Rattle.krb_msg.specs.Grammar.{ticket}
use Rattle.krb_msg.specs.Judgement.{Bad, Done, Got, Head, Open, Outcome, Partial, Refused, head, item_outcome}
use Rattle.krb_msg.specs.Profiles.{profile_term}
use Rattle.krb_msg.specs.Term.{Application, Bits, End, Fields, Integer, Octets, Optional, Required, Sequence, SequenceOf, Tagged, Term, Text, Time, tag_of}
use Rattle.krb_msg.specs.Views.{kind_name, kind_term_in, kind_with_tag}
use Rattle.krb_msg.specs.declared.message.Kind.{Kind}
use Rattle.krb_msg.specs.declared.message.Kind.TheVariants as kinds
use Rattle.krb_judge.specs.FieldNames.{Named, field_at, fields_of, names_of_kind, no_field}
use Rattle.krb_judge.specs.Paths.{after_done, contents_path, element_path, elements_path, field_path, fields_path, first_item, item_path, message_path, ticket_path, within, within_head}
use Rattle.krb_judge.specs.declared.locating.names.Names.{Names}
use Rattle.krb_judge.specs.declared.locating.names.Names.TheVariants as names
use Rattle.krb_record.specs.Text.{IsPrintable}
use Rattle.krb_text_laws.proofs.Printable.{number}
use Rattle.krb_tool.specs.Paths.{frame_path}

-- ---- octets of texts
pub printed_octets : (text : List ℕ) → IsPrintable text → AreOctets text
printed_octets [] are = tt
printed_octets (c ∷ text) are = (omega (arith, are.0.1), printed_octets text are.1)

abbrev pub are_octets : List ℕ → Bool
are_octets text = list_all (λ c. nat_lt c 256) text

pub octets_of : (text : List ℕ) → are_octets text ≡ true → AreOctets text
octets_of [] e = tt
octets_of (c ∷ text) e = let both = and_parts (nat_lt c 256) (list_all (λ c. nat_lt c 256) text) e in (ltb-true c 256 both.0, octets_of text both.1)

pub index_octets : (index : ℕ) → AreOctets (decimal index)
index_octets index = printed_octets (decimal index) (number index).all

-- ---- the names of fields
table_octets : (of : Names) → list_all (λ (n : Named). are_octets n.name) (fields_of of) ≡ true
table_octets names.Basic = refl
table_octets other = refl

named_octets : (table : List Named) (index : ℕ) → list_all (λ (n : Named). are_octets n.name) table ≡ true → AreOctets (get_or table index no_field).name
named_octets [] index e = tt
named_octets (first ∷ others) zero e = octets_of first.name (and_parts (are_octets first.name) (list_all (λ (n : Named). are_octets n.name) others) e).0
named_octets (first ∷ others) (suc index) e = named_octets others index (and_parts (are_octets first.name) (list_all (λ (n : Named). are_octets n.name) others) e).1

field_octets : (path : List ℕ) (of : Names) (index : ℕ) → AreOctets path → AreOctets (field_path path (field_at of index).name)
field_octets path of index are =
    AreOctets-append (path ++ codes ".") (field_at of index).name (AreOctets-append path (codes ".") are (octets_of (codes ".") refl)) (named_octets (fields_of of) index (table_octets of))

pub element_octets : (path : List ℕ) (index : ℕ) → AreOctets path → AreOctets (element_path path index)
element_octets path index are =
    AreOctets-append ((path ++ codes "[") ++ decimal index) (codes "]") (AreOctets-append (path ++ codes "[") (decimal index) (AreOctets-append path (codes "[") are (octets_of (codes "[") refl)) (index_octets index)) (octets_of (codes "]") refl)

-- ---- the path in an item
abbrev AreEach : (ℕ → List ℕ → List ℕ) → Type 0
AreEach paths = (room : ℕ) (octets : List ℕ) → AreOctets (paths room octets)

either : (test : Bool) (one other : Unit {0} → List ℕ) → AreOctets (one tt) → AreOctets (other tt) → AreOctets (when test one other)
either true one other a b = a
either false one other a b = b

headed : (h : Head) (path : List ℕ) (room : ℕ) (sole : Bool) (octets : List ℕ) (inside : ℕ → List ℕ → List ℕ) → AreOctets path → AreEach inside → AreOctets (within_head h path room sole octets inside)
headed Partial path room sole octets inside are each = are
headed (Refused offset reason) path room sole octets inside are each = are
headed (Got header contents) path room sole octets inside are each = either (sole && nat_lt (header + contents) room) (λ _. path) (λ _. inside contents (take contents (drop header octets))) are (each contents (take contents (drop header octets)))

in_item : (term : Term) (path : List ℕ) (room : ℕ) (sole : Bool) (octets : List ℕ) (inside : ℕ → List ℕ → List ℕ) → AreOctets path → AreEach inside → AreOctets (within term path room sole octets inside)
in_item term path room sole octets inside are each =
    either (begins_with (tag_of term) octets) (λ _. within_head (head room octets) path room sole octets inside) (λ _. path) (headed (head room octets) path room sole octets inside are each) are

done : (o : Outcome) (after : ℕ → List ℕ) (into : Unit {0} → List ℕ) → ((count : ℕ) → AreOctets (after count)) → AreOctets (into tt) → AreOctets (after_done o after into)
done Open after into a b = b
done (Bad offset reason) after into a b = b
done (Done count) after into a b = a count

first_octets : (term : Term) (path : List ℕ) (room : ℕ) (octets : List ℕ) (inside after : ℕ → List ℕ → List ℕ) → AreOctets path → AreEach inside → AreEach after → AreOctets (first_item term path room octets inside after)
first_octets term path room octets inside after are each others =
    done (item_outcome term room false octets) (λ count. after (room - count) (drop count octets)) (λ _. within term path room false octets inside) (λ count. others (room - count) (drop count octets)) (in_item term path room false octets inside are each)

items_octets : (inside : List ℕ → ℕ → List ℕ → List ℕ) (term : Term) (path : List ℕ) (bound index : ℕ) → ((p : List ℕ) → AreOctets p → AreEach (inside p)) → AreOctets path → AreEach (elements_path inside term path bound index)
items_octets inside term path zero index each are room octets = are
items_octets inside term path (suc bound) index each are room octets =
    let here = element_octets path index are in
    either (begins_with (tag_of term) octets) (λ _. first_item term (element_path path index) room octets (inside (element_path path index)) (elements_path inside term path bound (index + 1))) (λ _. path)
    (first_octets term (element_path path index) room octets (inside (element_path path index)) (elements_path inside term path bound (index + 1)) here (each (element_path path index) here) (items_octets inside term path bound (index + 1) each are))
    are

mutual
  contents_octets : (term : Term) (of : Names) (path : List ℕ) → AreOctets path → AreEach (contents_path term of path)
  contents_octets (Integer low high) of path are room octets = are
  contents_octets (Text greatest) of path are room octets = are
  contents_octets Octets of path are room octets = are
  contents_octets Time of path are room octets = are
  contents_octets (Bits least) of path are room octets = are
  contents_octets (Sequence fields) of path are room octets = fields_octets fields of path 0 are room octets
  contents_octets (SequenceOf empty term) of path are room octets = items_octets (contents_path term of) term path (length octets) 0 (contents_octets term of) are room octets
  contents_octets (Tagged index term) of path are room octets = in_item term path room true octets (contents_path term of path) are (contents_octets term of path are)
  contents_octets (Application number term) of path are room octets = in_item term path room true octets (contents_path term of path) are (contents_octets term of path are)

  fields_octets : (fields : Fields) (of : Names) (path : List ℕ) (index : ℕ) → AreOctets path → AreEach (fields_path fields of path index)
  fields_octets End of path index are room octets = are
  fields_octets (Required term fields) of path index are zero octets = field_octets path of index are
  fields_octets (Required term fields) of path index are (suc room) octets =
      let name : List ℕ = field_path path (field_at of index).name in
      let here = field_octets path of index are in
      either (begins_with (tag_of term) octets) (λ _. first_item term name (suc room) octets (contents_path term (field_at of index).inside name) (fields_path fields of path (index + 1))) (λ _. path)
      (first_octets term name (suc room) octets (contents_path term (field_at of index).inside name) (fields_path fields of path (index + 1)) here (contents_octets term (field_at of index).inside name here) (fields_octets fields of path (index + 1) are))
      are
  fields_octets (Optional term fields) of path index are room octets =
      let name : List ℕ = field_path path (field_at of index).name in
      let here = field_octets path of index are in
      either (begins_with (tag_of term) octets) (λ _. first_item term name room octets (contents_path term (field_at of index).inside name) (fields_path fields of path (index + 1))) (λ _. fields_path fields of path (index + 1) room octets)
      (first_octets term name room octets (contents_path term (field_at of index).inside name) (fields_path fields of path (index + 1)) here (contents_octets term (field_at of index).inside name here) (fields_octets fields of path (index + 1) are))
      (fields_octets fields of path (index + 1) are room octets)

item_octets : (term : Term) (of : Names) (path : List ℕ) (room : ℕ) (sole : Bool) (octets : List ℕ) → AreOctets path → AreOctets (item_path term of path room sole octets)
item_octets term of path room sole octets are = in_item term path room sole octets (contents_path term of path) are (contents_octets term of path are)

-- ---- the paths in messages and frames
kind_octets : (kind : Kind) → AreOctets (kind_name kind)
kind_octets kinds.AsReq = octets_of (kind_name kinds.AsReq) refl
kind_octets other = octets_of (kind_name other) refl

pub message_octets : (profile : Profile) (n : ℕ) (octets : List ℕ) → IfSome (message_path profile n octets) AreOctets
message_octets profile n [] = tt
message_octets profile n (tag ∷ octets) = by (kind_with_tag tag)
  where
    by : (found : Option Kind) → IfSome (option_map (λ kind. item_path (kind_term_in profile kind) (names_of_kind kind) (kind_name kind) n true (tag ∷ octets)) found) AreOctets
    by None = tt
    by (Some kind) = item_octets (kind_term_in profile kind) (names_of_kind kind) (kind_name kind) n true (tag ∷ octets) (kind_octets kind)

pub ticket_octets : (profile : Profile) (n : ℕ) (octets : List ℕ) → AreOctets (ticket_path profile n octets)
ticket_octets profile n octets = item_octets (profile_term profile false ticket) names.Ticket (codes "Ticket") n true octets (octets_of (codes "Ticket") refl)

pub frame_octets : (profile : Profile) (octets : List ℕ) → IfSome (frame_path profile octets) AreOctets
unfolding frame_path
frame_octets profile octets = message_octets profile _ (drop 4 octets)
