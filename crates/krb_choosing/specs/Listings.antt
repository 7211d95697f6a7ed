-- Listings with marks: what a choice writes of their records, and what it tells of the last one.
use Rattle.std.specs.Prelude.{ℕ, ◌≡◌, ◌<◌, ◌==◌, ◌&&◌, Bool, false, not, get_or, length, List, [], ◌∷◌, ◌++◌, Option, Some, None, bytes_eq, codes, if◌then◌else◌}
use Rattle.std.specs.List.{flat_map}
use Rattle.krb_record.specs.Text.{line_feed}
use Rattle.krb_choice.specs.Choices.{Choice, is_kept, is_there}
use Rattle.krb_choice.specs.Marked.{aside_of, pieces, read_record, written}

-- ---- the records of a text: what is before each line feed; some octets begin the first of them
abbrev pub records_after : (begun : List ℕ) → List ℕ → List (List ℕ)
records_after begun [] = []
records_after begun (c ∷ others) = if c == 10 then begun ∷ records_after [] others else records_after (begun ++ c ∷ []) others

-- what is after the last line feed
abbrev pub begun_after : (begun : List ℕ) → List ℕ → List ℕ
begun_after begun [] = begun
begun_after begun (c ∷ others) = if c == 10 then begun_after [] others else begun_after (begun ++ c ∷ []) others

-- no octet is a line feed
abbrev pub HasNoFeed : List ℕ → Type 0
HasNoFeed octets = (k : ℕ) → k < length octets → (get_or octets k 0 == 10) ≡ false

-- ---- a record may be the last one if a line tells of it, unless it is a refusal after which the listing goes on
abbrev pub is_last : (goes_on : Bool) → List ℕ → Bool
is_last goes_on record_text = is_there (aside_of (pieces record_text)) && not (goes_on && bytes_eq (read_record record_text).kind (codes "refused"))

-- what is written of it
abbrev pub chosen_of : Choice → (goes_on : Bool) → List ℕ → List ℕ
chosen_of c goes_on record_text = written c (is_last goes_on record_text) record_text

-- what is told of it if it is the last one: the line that tells of it, if it is not kept
abbrev pub told_if : (is_kept : Bool) → Option (List ℕ) → List ℕ
told_if is_kept None = []
told_if is_kept (Some line) = if is_kept then [] else line ++ line_feed

abbrev pub told_of : Choice → (goes_on : Bool) → List ℕ → List ℕ
told_of c goes_on record_text = told_if (is_kept c (is_last goes_on record_text) (read_record record_text)) (aside_of (pieces record_text))

-- ---- all records
abbrev pub chosen_after : Choice → (goes_on : Bool) → (begun : List ℕ) → List ℕ → List ℕ
chosen_after c goes_on begun text = flat_map (chosen_of c goes_on) (records_after begun text)

abbrev pub told_after : Choice → (goes_on : Bool) → (told : List ℕ) → List (List ℕ) → List ℕ
told_after c goes_on told [] = told
told_after c goes_on told (record_text ∷ others) = told_after c goes_on (told_of c goes_on record_text) others

-- what is written of a listing: what is chosen of each record, in order
unfoldable pub chosen_listing : Choice → (goes_on : Bool) → List ℕ → List ℕ
chosen_listing c goes_on text = chosen_after c goes_on [] text

-- and what is told of its last record
unfoldable pub told_listing : Choice → (goes_on : Bool) → List ℕ → List ℕ
told_listing c goes_on text = told_after c goes_on [] (records_after [] text)
