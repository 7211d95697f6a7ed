-- What the octets of a hole of a keytab, which may be those of an old key, change of its listing.
use Rattle.std.specs.Prelude.{ℕ, ◌≡◌, ◌⊎◌, ◌≤◌, Bool, List, ◌++◌, length, take, drop}
use Rattle.std.specs.Int.{w32}
use Rattle.krb_file.specs.Fields.{are_zero, signed}
use Rattle.krb_keytab.specs.Holes.{IsHoleSize}
use Rattle.krb_keytab.specs.Laws.{AreFirst}
use Rattle.krb_keytab.specs.Spelling.{negated}
use Rattle.krb_keytab.specs.declared.value.Record.{Record}
use Rattle.krb_keytab.specs.declared.value.Record.TheVariants as records
use Rattle.krb_record.specs.Labels.{Label}
use Rattle.krb_run.specs.Records.{RecordListing}
use Rattle.krb_file_run.specs.Files.{keytab_listing}
use Rattle.krb_file_run.specs.Lines.{record_line}

-- Octets end before the first octet of a hole, of which there are to be `size`: they are the version and records up to `start`, and then the size, negated.
pub record IsUpToHole (octets : List ℕ) (size : ℕ) : Type 0 where
  pub records : List Record
  pub start : ℕ
  pub first : AreFirst octets records start
  pub range : IsHoleSize size
  pub announced : drop start octets ≡ signed w32 (negated size)

-- the line of a hole: how many octets it has, and whether all of them are 00
abbrev pub hole_line : Label → (size : ℕ) → (clean : Bool) → List ℕ
hole_line label size clean = record_line label (records.Hole (record { size = size; clean = clean }))

-- Listings are the same but for one line.
pub record DifferInLine (line other : List ℕ) (one another : RecordListing) : Type 0 where
  pub before : List ℕ
  pub after : List ℕ
  pub lines : one.lines ≡ before ++ (line ++ after)
  pub others : another.lines ≡ before ++ (other ++ after)
  pub last : one.last ≡ another.last
  pub end : one.end ≡ another.end

abbrev pub AreSameButLine : (line other : List ℕ) → (one another : RecordListing) → Type 0
AreSameButLine line other one another = (one ≡ another) ⊎ DifferInLine line other one another

-- Two keytabs that differ in octets of one hole alone have one listing, but for the hole's line: that has the size, and whether all octets of the hole are 00.
abbrev pub HolesAreNotListed : Type 0
HolesAreNotListed =
    (label : Label) (before hole other after : List ℕ) (size : ℕ) → IsUpToHole before size → length hole ≤ size → length other ≡ length hole
    → AreSameButLine (hole_line label size (are_zero (take size (hole ++ after)))) (hole_line label size (are_zero (take size (other ++ after)))) (keytab_listing label (before ++ (hole ++ after))) (keytab_listing label (before ++ (other ++ after)))
