-- What the parts of a scalar that is read from JSON give.
use Rattle.std.specs.Prelude.{ℕ, ◌≡◌, ⊤, nat_lt, ◌==◌, ◌||◌, Bool, true, false, List, ◌∷◌, ◌++◌, Option, Some, None, Result, Ok, Err, string_bytes}
use Rattle.std.specs.List.{list_any}
use Rattle.std.specs.Option.{option_map}
use Rattle.std.specs.Borrow.{Bor}
use Rattle.hex.specs.Hex.{decode_of}
use Rattle.json.specs.Json.{Json}
use Rattle.json.specs.Find.{get}
use Rattle.krb_judge.specs.Paths.{field_path}
use Rattle.krb_json.specs.Faults.{Fault, fault, ◌>>=◌}
use Rattle.krb_json.specs.Spelled.{or_fault}
use Rattle.krb_json.specs.Spelling.{unshown, is_time_from}
use Rattle.krb_json.specs.declared.value_fault.ValueFault.{ValueFault}
use Rattle.krb_json.specs.declared.value_fault.ValueFault.TheVariants.{At, Memory}
use Rattle.krb_json.specs.declared.wrong.Wrong.TheVariants.{Missing}

-- what is returned is what is spelled, or its fault, whose path follows that of the value; nothing is said if it is out of memory
abbrev pub Gives : {R A : Type 0} → (view : R → A) → (read : (path : List ℕ) → Result A Fault) → Result R ValueFault → Type 0
Gives view read (Ok value) = (path : List ℕ) → read path ≡ Ok (view value)
Gives view read (Err (At found)) = (path : List ℕ) → read path ≡ fault (path ++ string_bytes found.path) found.wrong
Gives view read (Err Memory) = ⊤

-- what a member that has to be there spells
abbrev pub member_spelled : {A : Type 0} → (read : (path : List ℕ) → Json → Result A Fault) → (name : List ℕ) → Json → (path : List ℕ) → Result A Fault
member_spelled read name j path = or_fault (field_path path name) Missing (get name j) >>= read (field_path path name)

-- whether an octet of a number begins its fraction or its exponent
abbrev pub is_mark : ℕ → Bool
is_mark c = c == 0x2E || c == 0x65 || c == 0x45

-- whether an octet is above the greatest
abbrev pub has_octet_above : (greatest : ℕ) → List ℕ → Bool
has_octet_above greatest octets = list_any (λ octet. nat_lt greatest octet) octets

-- the first octet that a text shows, and the text after what shows it
abbrev pub IsFirstShown : List ℕ → Option (ℕ × Bor (List ℕ)) → Type 0
IsFirstShown text None = unshown text ≡ None
IsFirstShown text (Some first) = unshown text ≡ option_map (λ octets. first.0 ∷ octets) (unshown first.1.now)

-- the time that a text is, if it is one
abbrev pub IsTimeOf : List ℕ → Option (List ℕ) → Type 0
IsTimeOf text None = is_time_from 14 text ≡ false
IsTimeOf text (Some time) = (is_time_from 14 text ≡ true) × (time ≡ text)

-- The octets of a text of digits were appended, or it is no such text.
pub record AreDecoded (text old new : List ℕ) : Type 0 where
  pub octets : List ℕ
  pub decoded : decode_of text ≡ Ok octets
  pub appended : new ≡ old ++ octets

abbrev pub Decodes : (text old new : List ℕ) → Bool → Type 0
Decodes text old new true = AreDecoded text old new
Decodes text old new false = (octets : List ℕ) → decode_of text ≡ Ok octets → ⊥
