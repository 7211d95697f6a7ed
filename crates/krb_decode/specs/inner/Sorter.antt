-- What the parts of a writer that sorts a text of lines promise each other.
use Rattle.std.specs.Prelude.{ℕ, ◌≡◌, ◌<◌, ◌==◌, ◌&&◌, ◌||◌, not, Bool, true, false, if◌then◌else◌, List, [], ◌∷◌, ◌++◌, length, get_or, take, All, Option, Some, None, Result, Ok, Err}
use Rattle.std.specs.Coded.{Coded-set, Unit-prop, ×_prop, coded_ℕ, coded_bool, coded_list}
use Rattle.std.specs.Io.KnownBytes.{Appends}
use Rattle.std.proofs.Math.Logic.{∥∥₁_prop}
use Rattle.krb_decode.specs.Sorted.{begun_after, is_any, is_of_message, message_lines, told_lines}

-- ---- lines
-- no octet is a line feed
abbrev pub HasNoFeed : List ℕ → Type 0
HasNoFeed octets = (k : ℕ) → k < length octets → (get_or octets k 0 == 10) ≡ false

-- octets are a line, or all but the end of one
abbrev pub IsLine : (has_ended : Bool) → List ℕ → Type 0
IsLine true octets = (line : List ℕ) × HasNoFeed line × (octets ≡ line ++ 10 ∷ [])
IsLine false octets = HasNoFeed octets

-- octets are of lines of messages, of which the first may have begun
abbrev pub are_of_messages : (is_within : Bool) → List ℕ → Bool
are_of_messages is_within [] = true
are_of_messages is_within (octet ∷ others) = (is_within || octet == 0x7B) && are_of_messages (not (octet == 10)) others

-- a line has begun after octets, and not ended
abbrev pub within_after : (is_within : Bool) → List ℕ → Bool
within_after is_within [] = is_within
within_after is_within (octet ∷ others) = within_after (not (octet == 10)) others

-- the first line of a text is of a message: one has begun, or it begins so, if none that is told has begun
abbrev is_none : List ℕ → Bool
is_none [] = true
is_none (octet ∷ others) = false

abbrev pub goes_to_message : (is_within : Bool) → (begun : List ℕ) → List ℕ → Bool
goes_to_message is_within begun text = is_within || (is_none begun && is_of_message text)

-- ---- a writer that was given a text
-- what it has of a line that is to be told
abbrev pub told_begun : List ℕ → List ℕ
told_begun begun = if is_of_message begun then [] else begun

-- The lines of messages were appended to what is written, each other line that has ended was told, and this is known of the one that has not.
abbrev pub Sorts : (IsTold : List ℕ → Type 0) → (written_before written_after : Option (List ℕ)) → (given : List ℕ) → (is_within : Bool) → (begun : List ℕ) → (has_told : Bool) → Type 0
Sorts IsTold written_before written_after given is_within begun has_told =
    Appends written_before written_after (message_lines given)
    × (∥ All IsTold (told_lines given) ∥₁
    × ((is_within ≡ is_of_message (begun_after [] given))
    × ((begun ≡ told_begun (begun_after [] given))
    × (has_told ≡ is_any (told_lines given)))))

-- so many of some octets were taken, and none if that failed
abbrev pub taken : {E : Type 0} → Result ℕ E → List ℕ → List ℕ
taken (Ok count) octets = take count octets
taken (Err error) octets = []

pub Appends-prop : (written_before written_after : Option (List ℕ)) (text : List ℕ) → IsProp (Appends written_before written_after text)
Appends-prop None after text = Unit-prop
Appends-prop (Some xs) None text = λ x y. absurd x
Appends-prop (Some xs) (Some ys) text = Coded-set (coded_list coded_ℕ) ys (xs ++ text)

pub Sorts-prop : (IsTold : List ℕ → Type 0) (written_before written_after : Option (List ℕ)) (given : List ℕ) (is_within : Bool) (begun : List ℕ) (has_told : Bool) → IsProp (Sorts IsTold written_before written_after given is_within begun has_told)
Sorts-prop IsTold written_before written_after given is_within begun has_told =
    ×_prop (Appends-prop written_before written_after (message_lines given))
    (×_prop ∥∥₁_prop
    (×_prop (Coded-set coded_bool is_within (is_of_message (begun_after [] given)))
    (×_prop (Coded-set (coded_list coded_ℕ) begun (told_begun (begun_after [] given))) (Coded-set coded_bool has_told (is_any (told_lines given))))))
