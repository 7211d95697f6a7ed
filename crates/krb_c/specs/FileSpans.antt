-- Where the octets lie of the records of a keytab, and of a credential cache.
use Rattle.std.specs.Prelude.{ℕ, suc, zero, ◌+◌, ◌*◌, ◌==◌, if◌then◌else◌, Bool, true, false, List, [], ◌∷◌, length, Result, Ok, Err}
use Rattle.std.specs.Option.{is_some}
use Rattle.krb_ccache.specs.Reading.{next_at, one_enctype}
use Rattle.krb_ccache.specs.Streaming.{file_start}
use Rattle.krb_ccache.specs.declared.reading.Start.{Start}
use Rattle.krb_file.specs.Fields.{Fault, Reader, Source, limited, source_of, version_at}
use Rattle.krb_file_run.specs.Files.{field_limit}
use Rattle.krb_keytab.specs.Reading.{record_at}
use Rattle.krb_keytab.specs.declared.reading.Next.{Next}
use Rattle.krb_keytab.specs.declared.reading.Next.TheVariants as nexts
use Rattle.krb_c.specs.Spans.{Spanned, both, nothing, refused_up_to, up_to}

-- ---- items that are read one after another
-- the octets of an item, and what follows it; or, if it is none, where the items end
abbrev pub item_and : (is_item : Bool) → (begin end : ℕ) → (others : Spanned) → Spanned
item_and true begin end others = both (up_to begin end) others
item_and false begin end others = up_to end end

-- what is refused: from where the part of the file begins that is at fault up to the end of the file
abbrev pub read_and : {A : Type 0} → (is_item : A → Bool) → (begin all : ℕ) → Result (A × Source) Fault → (next : Source → Spanned) → Spanned
read_and is_item begin all (Err fault) next = refused_up_to fault.begin all
read_and is_item begin all (Ok read) next = item_and (is_item read.0) begin read.1.place (next read.1)

-- an item lies after some octets, as those of its length; the first number bounds how many items there are
abbrev pub items_from : (bound : ℕ) → {A : Type 0} → Reader A → (is_item : A → Bool) → (after all : ℕ) → Source → Spanned
items_from zero reader is_item after all source = nothing
items_from (suc bound) reader is_item after all source = read_and is_item (source.place + after) all (reader (limited field_limit) source) (items_from bound reader is_item after all)

-- ---- a keytab: its entries and holes, each after the four octets of its length
abbrev pub is_record : Next → Bool
is_record (nexts.Item item) = true
is_record (nexts.Done stop) = false

abbrev pub after_version : (all : ℕ) → Result (ℕ × Source) Fault → Spanned
after_version all (Err fault) = refused_up_to fault.begin all
after_version all (Ok read) = items_from (all + 1) record_at is_record 4 all read.1

unfoldable pub keytab_spans : (file : List ℕ) → Spanned
keytab_spans file = after_version (length file) (version_at (2 ∷ []) (limited field_limit) (source_of file))

-- ---- a credential cache: its default principal, and its credentials
-- the principal is after the version, and in version 4 after a header, before which is its number of octets
abbrev pub principal_place : (version : ℕ) → (file : List ℕ) → ℕ
principal_place version (five ∷ four ∷ high ∷ low ∷ others) = if version == 4 then 4 + (256 * high + low) else 2
principal_place version _ = 2

abbrev pub after_start : (file : List ℕ) → (all : ℕ) → Result (Start × Source) Fault → Spanned
after_start file all (Err fault) = refused_up_to fault.begin all
after_start file all (Ok read) = both (up_to (principal_place read.0.version file) read.1.place) (items_from (all + 1) (next_at one_enctype read.0.version) is_some 0 all read.1)

unfoldable pub ccache_spans : (file : List ℕ) → Spanned
ccache_spans file = after_start file (length file) (file_start field_limit file)
