-- What is read of the items of tokens is octets inside of what they are read of, and a fault is inside, too.
use Rattle.std.proofs.Common.{◌≡◌, ℕ, zero, suc, ◌+◌, ◌-◌, ◌≤◌, ◌==◌, ◌&&◌, ◌||◌, ◌%◌, ◌*◌, ◌^◌, ℤ, pos, nat_lt, if◌then◌else◌, Bool, true, false, List, [], ◌∷◌, length, drop, Option, IfSome, Result, Ok, Err, refl, ap, arith, length-append, length-drop, length-take}
use Rattle.std.proofs.lemmas.Bool.{cond_both}
use Rattle.krb_der.specs.Octets.{AreOctets, begins_with, integer_value, last_or_zero, when}
use Rattle.krb_der.specs.inner.Numbers.{AreOctets-drop, AreOctets-take}
use Rattle.krb_der.specs.declared.why.Why.{Why}
use Rattle.krb_der.specs.declared.why.Why.TheVariants as why
use Rattle.krb_judge.specs.Paths.{element_path}
use Rattle.krb_msg.specs.Judgement.{Bad, Done, Got, Head, Open, Outcome, Partial, Refused, any_contents, bits_contents, head, int_le, integer_contents, is_padded}
use Rattle.krb_msg.proofs.Heads.{HeadShown-head, head-within}
use Rattle.krb_token.specs.Items.{Item, entered, expected, identifier_contents, item_after, item_in, item_of_head, judged, refusal_in, simple_contents, simple_has_size, simple_item, simple_items, simple_tag}
use Rattle.krb_token.specs.Opened.{Fault, Part, and_then, fault_in}
use Rattle.krb_token.specs.Spnego.{End, Field, Fields, Holds, Many, OctetsOr, One, Token, ended, fields_read, held}
use Rattle.krb_token.specs.declared.simple.Simple.{Simple}
use Rattle.krb_token.specs.declared.simple.Simple.TheVariants as simple
use Rattle.krb_tool_laws.proofs.PathOctets.{element_octets}

-- ---- heads and contents
-- among so many octets
abbrev IsHeadIn : ℕ → Head → Type 0
IsHeadIn size Partial = Unit {0}
IsHeadIn size (Refused offset reason) = offset ≤ size
IsHeadIn size (Got header contents) = header + contents ≤ size

head_in : (octets : List ℕ) → IsHeadIn (length octets) (head (length octets) octets)
head_in octets = by (head (length octets) octets) refl
  where
    by : (found : Head) → head (length octets) octets ≡ found → IsHeadIn (length octets) found
    by Partial e = tt
    by (Refused offset reason) e = let shown = HeadShown-head (length octets) octets (Refused offset reason) e (λ p. absurd cc) in omega (arith, shown.reached, ap length shown.parts, length-append shown.prefix shown.suffix)
    by (Got header contents) e = head-within (length octets) octets header contents e

abbrev IsIn : ℕ → Outcome → Type 0
IsIn size Open = Unit {0}
IsIn size (Bad offset reason) = offset ≤ size
IsIn size (Done count) = Unit {0}

in_more : (few size : ℕ) (o : Outcome) → few ≤ size → IsIn few o → IsIn size o
in_more few size Open less is = tt
in_more few size (Bad offset reason) less is = omega (arith, less, is)
in_more few size (Done count) less is = tt

either_in : (size : ℕ) (test : Bool) (one other : Unit {0} → Outcome) → IsIn size (one tt) → IsIn size (other tt) → IsIn size (when test one other)
either_in size true one other a b = a
either_in size false one other a b = b

identifier_in : (begins : Bool) (place : ℕ) (octets : List ℕ) → IsIn (place + length octets) (identifier_contents begins place octets)
identifier_in true place [] = tt
identifier_in false place [] = omega arith
identifier_in begins place (octet ∷ octets) =
    either_in (place + length (octet ∷ octets)) (begins && (octet == 0x80)) _ (λ _. identifier_contents (nat_lt octet 0x80) (place + 1) octets) (omega arith)
    (in_more (place + 1 + length octets) (place + length (octet ∷ octets)) (identifier_contents (nat_lt octet 0x80) (place + 1) octets) (omega arith) (identifier_in (nat_lt octet 0x80) (place + 1) octets))

any_in : (size contents : ℕ) (octets : List ℕ) → IsIn size (any_contents contents octets)
any_in size contents octets = cond_both {A = Outcome} (nat_lt (length octets) contents) _ _ (λ o. IsIn size o) (λ t. tt) (λ t. tt)

bits_in : (least : ℕ) (octets : List ℕ) → IsIn (length octets) (bits_contents least (length octets) octets)
bits_in least [] = tt
bits_in least (unused ∷ octets) =
    cond_both {A = Outcome} (nat_lt 7 unused || nat_lt (8 * (length (unused ∷ octets) - 1)) (least + unused)) _ _ (λ o. IsIn (length (unused ∷ octets)) o) (λ t. omega arith)
    (λ t. cond_both {A = Outcome} (nat_lt (length (unused ∷ octets)) (length (unused ∷ octets))) _ _ (λ o. IsIn (length (unused ∷ octets)) o) (λ t. tt)
    (λ t. cond_both {A = Outcome} (last_or_zero octets % 2 ^ unused == 0) _ _ (λ o. IsIn (length (unused ∷ octets)) o) (λ t. tt) (λ t. omega arith)))

range_in : (low high : ℤ) (octets : List ℕ) → IsIn (length octets) (if int_le low (integer_value octets) && int_le (integer_value octets) high then Done (length octets) else Bad (length octets - 1) why.Range)
range_in low high octets = cond_both {A = Outcome} (int_le low (integer_value octets) && int_le (integer_value octets) high) _ _ (λ o. IsIn (length octets) o) (λ t. tt) (λ t. omega arith)

open_in : (low high : ℤ) (octets : List ℕ) → IsIn (length octets) (if nat_lt (length octets) (length octets) then Open else if int_le low (integer_value octets) && int_le (integer_value octets) high then Done (length octets) else Bad (length octets - 1) why.Range)
open_in low high octets = cond_both {A = Outcome} (nat_lt (length octets) (length octets)) _ _ (λ o. IsIn (length octets) o) (λ t. tt) (λ t. range_in low high octets)

integer_in : (low high : ℤ) (octets : List ℕ) → IsIn (length octets) (integer_contents low high (length octets) octets)
integer_in low high [] = open_in low high []
integer_in low high (first ∷ octets) = cond_both {A = Outcome} (is_padded (first ∷ octets)) _ _ (λ o. IsIn (length (first ∷ octets)) o) (λ t. omega arith) (λ t. open_in low high (first ∷ octets))

simple_in : (type : Simple) (octets : List ℕ) → IsIn (length octets) (simple_contents type octets)
simple_in simple.Identifier octets = in_more (0 + length octets) (length octets) (identifier_contents true 0 octets) (omega arith) (identifier_in true 0 octets)
simple_in simple.Text octets = any_in (length octets) (length octets) octets
simple_in simple.Flags octets = bits_in 0 octets
simple_in simple.State octets = integer_in (pos 0) (pos 3) octets
simple_in simple.Octets octets = any_in (length octets) (length octets) octets

-- ---- the paths of fields are octets
abbrev mutual
  pub HasPaths : Holds → Type 0
  HasPaths (OctetsOr fields) = HavePaths fields
  HasPaths holds = Unit {0}

  pub HavePaths : Fields → Type 0
  HavePaths End = Unit {0}
  HavePaths (Field tag own holds fields) = AreOctets own × HasPaths holds × HavePaths fields

-- ---- inside of so many octets
module _ (n : ℕ) where
  pub record IsPart (part : Part) : Type 0 where
    pub octets : AreOctets part.octets
    pub inside : part.place + length part.octets ≤ n

  pub record IsFault (fault : Fault) : Type 0 where
    pub place : fault.place ≤ n
    pub path : IfSome fault.path AreOctets

  pub record IsItem (item : Item) : Type 0 where
    pub contents : IsPart item.contents
    pub rest : IsPart item.rest

  abbrev pub IsRead : {A : Type 0} → (A → Type 0) → Result A Fault → Type 0
  IsRead P (Ok it) = P it
  IsRead P (Err fault) = IsFault fault

  pub a_fault : (path : List ℕ) (place : ℕ) (reason : Why) → AreOctets path → place ≤ n → IsFault (fault_in path place reason)
  a_fault path place reason are inside = record { place = inside; path = are }

  pub then_read : {A B : Type 0} (P : A → Type 0) (Q : B → Type 0) (read : Result A Fault) (next : A → Result B Fault) → IsRead P read → ((a : A) → P a → IsRead Q (next a)) → IsRead Q (and_then read next)
  then_read P Q (Ok a) next is each = each a is
  then_read P Q (Err fault) next is each = is

  either_read : {A : Type 0} (P : A → Type 0) (test : Bool) (one other : Unit {0} → Result A Fault) → IsRead P (one tt) → IsRead P (other tt) → IsRead P (when test one other)
  either_read P true one other a b = a
  either_read P false one other a b = b

  -- ---- items
  item_is : (header size : ℕ) (part : Part) → IsPart part → header + size ≤ length part.octets → IsItem (item_after header size part)
  item_is header size part is fits = record {
    contents = record {
      octets = AreOctets-take size (drop header part.octets) (AreOctets-drop header part.octets is.octets);
      inside = omega (arith, is.inside, fits, length-take size (drop header part.octets), length-drop header part.octets);
    };
    rest = record { octets = AreOctets-drop (header + size) part.octets is.octets; inside = omega (arith, is.inside, fits, length-drop (header + size) part.octets) };
  }

  headed_is : (path : List ℕ) (sole : Bool) (part : Part) (found : Head) → AreOctets path → IsPart part → IsHeadIn (length part.octets) found → IsRead IsItem (item_of_head path sole part found)
  headed_is path sole part Partial are is fits = a_fault path part.place why.Overrun are (omega (arith, is.inside))
  headed_is path sole part (Refused offset reason) are is fits = a_fault path (part.place + offset) reason are (omega (arith, is.inside, fits))
  headed_is path sole part (Got header size) are is fits =
      cond_both {A = Result Item Fault} (sole && nat_lt (header + size) (length part.octets)) _ _ (λ r. IsRead IsItem r) (λ t. a_fault path (part.place + (header - 1)) why.Loose are (omega (arith, is.inside, fits)))
      (λ t. item_is header size part is fits)

  in_is : (path : List ℕ) (tag : ℕ) (sole : Bool) (part : Part) (octets : List ℕ) → AreOctets path → IsPart part → IsRead IsItem (item_in path tag sole part octets)
  in_is path tag sole part [] are is = a_fault path (part.place - 1) why.Missing are (omega (arith, is.inside))
  in_is path tag sole part (octet ∷ octets) are is =
      either_read IsItem (octet == tag) (λ _. item_of_head path sole part (head (length part.octets) part.octets)) _ (headed_is path sole part (head (length part.octets) part.octets) are is (head_in part.octets))
      (a_fault path part.place why.Tag are (omega (arith, is.inside)))

  pub entered_is : (path : List ℕ) (tag : ℕ) (sole : Bool) (part : Part) → AreOctets path → IsPart part → IsRead IsItem (entered path tag sole part)
  entered_is path tag sole part are is = in_is path tag sole part part.octets are is

  abbrev pub IsUnit : Unit {0} → Type 0
  IsUnit it = Unit {0}

  pub expected_is : (path : List ℕ) (tag place : ℕ) (octets : List ℕ) → AreOctets path → place ≤ n → IsRead IsUnit (expected path tag place octets)
  expected_is path tag place [] are inside = tt
  expected_is path tag place (octet ∷ octets) are inside = either_read IsUnit (octet == tag) _ _ tt (a_fault path place why.Tag are inside)

  judged_is : (path : List ℕ) (item : Item) (o : Outcome) → AreOctets path → IsItem item → IsIn (length item.contents.octets) o → IsRead IsItem (judged path item (refusal_in o))
  judged_is path item Open are is fits = is
  judged_is path item (Bad offset reason) are is fits = a_fault path (item.contents.place + offset) reason are (omega (arith, is.contents.inside, fits))
  judged_is path item (Done count) are is fits = is

  pub simple_is : (type : Simple) (path : List ℕ) (sole : Bool) (part : Part) → AreOctets path → IsPart part → IsRead IsItem (simple_item type path sole part)
  simple_is type path sole part are is =
      then_read IsItem IsItem (entered path (simple_tag type) sole part) _ (entered_is path (simple_tag type) sole part are is)
      (λ item its. cond_both {A = Result Item Fault} (simple_has_size type (length item.contents.octets)) _ _ (λ r. IsRead IsItem r)
      (λ t. judged_is path item (simple_contents type item.contents.octets) are its (simple_in type item.contents.octets))
      (λ t. a_fault path (item.contents.place - 1) why.Size are (omega (arith, its.contents.inside))))

  items_are : (type : Simple) (path : List ℕ) (bound index : ℕ) (part : Part) (octets : List ℕ) → AreOctets path → IsPart part → IsRead IsUnit (simple_items type path bound index part octets)
  items_are type path bound index part [] are is = tt
  items_are type path zero index part (octet ∷ octets) are is = tt
  items_are type path (suc bound) index part (octet ∷ octets) are is =
      then_read IsUnit IsUnit (expected path (simple_tag type) part.place (octet ∷ octets)) _ (expected_is path (simple_tag type) part.place (octet ∷ octets) are (omega (arith, is.inside)))
      (λ _ _. then_read IsItem IsUnit (simple_item type (element_path path index) false part) _ (simple_is type (element_path path index) false part (element_octets path index are) is)
      (λ item its. items_are type path bound (index + 1) item.rest item.rest.octets are its.rest))

  -- ---- fields
  abbrev pub IsToken : Option Part → Type 0
  IsToken token = IfSome token IsPart

  ended_is : (path : List ℕ) (token : Option Part) (place : ℕ) (octets : List ℕ) → AreOctets path → IsToken token → place ≤ n → IsRead IsToken (ended path token place octets)
  ended_is path token place [] are its inside = its
  ended_is path token place (octet ∷ octets) are its inside = a_fault path place why.Tag are inside

  mutual
    held_is : (holds : Holds) (path : List ℕ) (token : Option Part) (part : Part) → HasPaths holds → AreOctets path → IsToken token → IsPart part → IsRead IsToken (held holds path token part)
    held_is (One type) path token part has are its is = then_read IsItem IsToken (simple_item type path true part) _ (simple_is type path true part are is) (λ item read. its)
    held_is (Many type) path token part has are its is =
        then_read IsItem IsToken (entered path 0x30 true part) _ (entered_is path 0x30 true part are is)
        (λ item read. then_read IsUnit IsToken (simple_items type path (length item.contents.octets) 0 item.contents item.contents.octets) _ (items_are type path (length item.contents.octets) 0 item.contents item.contents.octets are read.contents) (λ _ _. its))
    held_is Token path token part has are its is = then_read IsItem IsToken (simple_item simple.Octets path true part) _ (simple_is simple.Octets path true part are is) (λ item read. read.contents)
    held_is (OctetsOr fields) path token part has are its is =
        either_read IsToken (begins_with 0x30 part.octets) (λ _. and_then (entered path 0x30 true part) (λ item. fields_read fields path token item.contents)) (λ _. and_then (simple_item simple.Octets path true part) (λ item. Ok token))
        (then_read IsItem IsToken (entered path 0x30 true part) (λ item. fields_read fields path token item.contents) (entered_is path 0x30 true part are is) (λ item read. fields_are fields path token item.contents has are its read.contents))
        (then_read IsItem IsToken (simple_item simple.Octets path true part) (λ item. Ok token) (simple_is simple.Octets path true part are is) (λ item read. its))

    pub fields_are : (fields : Fields) (path : List ℕ) (token : Option Part) (part : Part) → HavePaths fields → AreOctets path → IsToken token → IsPart part → IsRead IsToken (fields_read fields path token part)
    fields_are End path token part have are its is = ended_is path token part.place part.octets are its (omega (arith, is.inside))
    fields_are (Field tag own holds fields) path token part have are its is =
        either_read IsToken (begins_with tag part.octets) (λ _. and_then (entered own tag false part) (λ item. and_then (held holds own token item.contents) (λ found. fields_read fields path found item.rest))) (λ _. fields_read fields path token part)
        (then_read IsItem IsToken (entered own tag false part) (λ item. and_then (held holds own token item.contents) (λ found. fields_read fields path found item.rest)) (entered_is own tag false part have.0 is)
        (λ item read. then_read IsToken IsToken (held holds own token item.contents) (λ found. fields_read fields path found item.rest) (held_is holds own token item.contents have.1 have.0 its read.contents)
        (λ found good. fields_are fields path found item.rest have.2 are good read.rest)))
        (fields_are fields path token part have.2 are its is)
