-- What the words choose: kinds by `--only`, and names by `--fields`, with a first row by `--header`; and what is said of those that choose nothing.
use Rattle.std.specs.Prelude.{ℕ, ◌≡◌, ◌≢◌, ◌⊎◌, ◌==◌, ◌&&◌, ◌||◌, not, Bool, true, false, List, [], ◌∷◌, ◌++◌, map, Option, Some, None, codes, string_bytes, if◌then◌else◌}
use Rattle.std.specs.List.{filter, list_all, slice_split}
use Rattle.std.specs.Option.{option_copied, option_map}
use Rattle.std.specs.Str.{bytes_eq}
use Rattle.clap.specs.Words.{Text}
use Rattle.krb_record.specs.Text.{joined}
use Rattle.krb_record.specs.declared.form.Base.{Base}
use Rattle.krb_record.specs.declared.form.Base.TheVariants as base
use Rattle.krb_record.specs.declared.form.Form.{Form}
use Rattle.krb_record.specs.declared.form.Form.TheVariants as form
use Rattle.krb_record.specs.declared.path.Path.{Path}
use Rattle.krb_record.specs.declared.path.Path.TheVariants as path
use Rattle.krb_choice.specs.Choices.{Choice, Column, Inside, Kind, Member, Rows, Whole}
use Rattle.krb_fields.specs.Names.{all_kinds, all_names, chooses, each_once, is_among, kinds_with, name_text}
use Rattle.krb_fields.specs.Near.{AreNear}
use Rattle.krb_fields.specs.declared.found.Name.{Name}
use Rattle.krb_fields.specs.declared.shape.Listing.{Listing}
use Rattle.krb_fields.specs.declared.shape.Listing.TheVariants as listing
use Rattle.krb_words.specs.Names.{named}
use Rattle.krb_words.specs.declared.words.WordsFault.{WordsFault}
use Rattle.krb_words.specs.declared.words.WordsFault.TheVariants as fault
use Rattle.krb_words.specs.declared.words.Naming.{Naming}
use Rattle.krb_words.specs.declared.words.Naming.TheVariants as naming

-- ---- words
-- the words of a text, with commas between them
abbrev pub words_of : Text → List Text
words_of text = slice_split (λ octet. octet == 0x2C) text

-- those of an option, if it is given
abbrev pub words_if : Option Text → List Text
words_if None = []
words_if (Some text) = words_of text

-- what a command lists
abbrev pub listings_of : Text → List Listing
listings_of command =
    if bytes_eq command (codes "stream") then listing.Stream ∷ []
    else (if bytes_eq command (codes "message") then listing.Message ∷ []
    else (if bytes_eq command (codes "keytab") then listing.Keytab ∷ []
    else (if bytes_eq command (codes "ccache") then listing.Ccache ∷ []
    else (if bytes_eq command (codes "capture") then listing.Capture ∷ []
    else (if bytes_eq command (codes "list") then listing.Stream ∷ listing.Message ∷ listing.Keytab ∷ listing.Ccache ∷ listing.Capture ∷ []
    else [])))))

-- ---- columns
-- the path of a member, by what follows the name of its field
abbrev pub path_of : Text → Path
path_of ending =
    if bytes_eq ending (codes "_name") then path.Name
    else (if bytes_eq ending (codes "_names") || bytes_eq ending (codes ".names") then path.Names
    else (if bytes_eq ending (codes ".text") then path.Text
    else (if bytes_eq ending (codes ".type") then path.Type
    else (if bytes_eq ending (codes ".type_name") then path.TypeName
    else (if bytes_eq ending (codes ".components") then path.Components
    else (if bytes_eq ending (codes ".realm") then path.Realm
    else (if bytes_eq ending (codes ".etype") then path.Etype
    else (if bytes_eq ending (codes ".etype_name") then path.EtypeName
    else (if bytes_eq ending (codes ".kvno") then path.Kvno
    else (if bytes_eq ending (codes ".size") then path.Size
    else (if bytes_eq ending (codes ".bits") then path.Bits
    else (if bytes_eq ending (codes ".hex") then path.Hex
    else (if bytes_eq ending (codes ".seconds") then path.Seconds
    else (if bytes_eq ending (codes ".microseconds") then path.Microseconds
    else (if bytes_eq ending (codes ".refused.place") then path.Place
    else (if bytes_eq ending (codes ".refused.why") then path.Why
    else (if bytes_eq ending (codes ".refused.why_name") then path.WhyName
    else (if bytes_eq ending (codes ".over") then path.Over
    else (if bytes_eq ending (codes ".source") then path.Source
    else (if bytes_eq ending (codes ".source.address") then path.SourceAddress
    else (if bytes_eq ending (codes ".source.port") then path.SourcePort
    else (if bytes_eq ending (codes ".target") then path.Target
    else (if bytes_eq ending (codes ".target.address") then path.TargetAddress
    else (if bytes_eq ending (codes ".target.port") then path.TargetPort
    else path.Whole))))))))))))))))))))))))

-- what the column of a name shows, and of what
abbrev pub column_of : Name → Column
column_of name =
    if bytes_eq name.field.now (codes "kind") then record { within = option_copied name.within; shows = Kind }
    else (if bytes_eq name.field.now (codes "inside") then record { within = None; shows = Inside }
    else record { within = option_copied name.within; shows = Member name.field.now (path_of name.ending.now) })

-- with `-H` the file is before the others
abbrev pub file_column : Naming → List Column
file_column naming.Before = []
file_column naming.Each = record { within = None; shows = Member (codes "file") path.Whole } ∷ []

abbrev pub file_name : Naming → List Text
file_name naming.Before = []
file_name naming.Each = codes "file" ∷ []

-- ---- kinds
-- the records before and after others
abbrev pub is_between : Text → Bool
is_between kind = not (bytes_eq kind (codes "file")) && not (bytes_eq kind (codes "end"))

-- by the names that choose: the kinds that have all of these, or, if there is none, each but those
abbrev pub kinds_by : List Listing → List Name → List Text
kinds_by listings [] = filter is_between (each_once (kinds_with listings []))
kinds_by listings (first ∷ others) = each_once (kinds_with listings (first ∷ others))

abbrev pub kinds_chosen : List Listing → List Name → List Text
kinds_chosen listings names = kinds_by listings (filter (chooses listings) names)

-- records of a kind are told, and so are in no line without names
abbrev pub is_told : Text → Bool
is_told kind = bytes_eq kind (codes "unanswered") || bytes_eq kind (codes "unreachable")

abbrev pub base_of : Form → Base
base_of form.Json = base.Json
base_of form.NamedLines = base.NamedLines
base_of _ = base.Lines

-- ---- the choice
-- what the options of a command say: the values of `--only` and `--fields`, whether `--header` is given, the form that is asked for, and which records name their file
pub record Options : Type 0 where
  pub listings : List Listing
  pub only : Option Text
  pub fields : Option Text
  pub has_header : Bool
  pub form : Form
  pub naming : Naming

-- the first word that is not among those that there are
abbrev pub first_unknown : List Text → List Text → Option Text
first_unknown known [] = None
first_unknown known (word ∷ words) = if is_among word known then first_unknown known words else Some word

-- the names that words are
abbrev pub AreNames : List Listing → List Text → List Name → Type 0
AreNames listings words names = (map name_text names ≡ words) × (first_unknown (all_names listings) words ≡ None)

-- rows of records of the kinds of `--only`, or of those that names choose
abbrev pub rows_by : Option (List Text) → List Listing → List Name → List Column → Choice
rows_by None listings names columns = record { by_kind = false; kinds = kinds_chosen listings names; print = Rows columns }
rows_by (Some kinds) listings names columns = record { by_kind = true; kinds = kinds; print = Rows columns }

abbrev pub first_row : Bool → Naming → List Text → Option Text
first_row false naming words = None
first_row true naming words = Some (joined [] (codes "\t") (λ word. word) (file_name naming ++ words))

-- by the words of names: rows, and the first row
abbrev pub IsRowsBy : Options → (kinds : Option (List Text)) → Text → Option Choice → Option Text → Type 0
IsRowsBy options kinds words choice header =
    (names : List Name) × AreNames options.listings (words_of words) names
    × (choice ≡ Some (rows_by kinds options.listings names (file_column options.naming ++ map column_of names)))
    × (header ≡ first_row options.has_header options.naming (words_of words))

-- The choice and the first row by the options.
abbrev pub IsChosenBy : Options → (kinds : Option (List Text)) → (fields : Option Text) → Option Choice → Option Text → Type 0
IsChosenBy options None None choice header = (choice ≡ None) × (header ≡ None)
IsChosenBy options (Some kinds) None choice header =
    (choice ≡ Some (record { by_kind = true; kinds = kinds; print = Whole (base_of options.form) })) × (header ≡ None)
IsChosenBy options kinds (Some words) choice header = IsRowsBy options kinds words choice header

abbrev pub IsChosen : Options → Option Choice → Option Text → Type 0
IsChosen options choice header = IsChosenBy options (option_map words_of options.only) options.fields choice header

-- the rows of the names that a text has, of which the kinds have all
abbrev pub AreRowsOf : List Listing → Text → Choice → Type 0
AreRowsOf listings words choice = (names : List Name) × AreNames listings (words_of words) names × (choice ≡ rows_by None listings names (map column_of names))

-- ---- what is said of words that are wrong
abbrev pub error_text : Text → Text
error_text text = codes "error: " ++ text ++ codes "\n\nFor more information, try '--help'.\n"

abbrev pub listed : List Text → Text
listed words = joined [] (codes ", ") (λ word. word) words

abbrev pub near_or_all : List Text → List Text → Text
near_or_all [] all = codes "; there are: " ++ listed all
near_or_all (first ∷ others) all = codes "; near it: " ++ listed (first ∷ others)

abbrev pub near_or_none : List Text → Text
near_or_none [] = []
near_or_none (first ∷ others) = codes "; near it: " ++ listed (first ∷ others)

abbrev pub kind_fault : Text → List Text → List Text → Text
kind_fault word near all = codes "invalid value '" ++ word ++ codes "' for '--only <KIND,..>': no such kind" ++ near_or_all near all

abbrev pub name_fault : Text → List Text → Text
name_fault word near = codes "invalid value '" ++ word ++ codes "' for '--fields <NAME,..>': no such field" ++ near_or_none near

-- of a word that is no kind, or no name: those near it; a word is near by the octets that it shows
pub record SaysKind (listings : List Listing) (word text : Text) : Type 0 where
  pub near : List Text
  pub are_near : AreNear (named word) (each_once (all_kinds listings)) near
  pub says : text ≡ kind_fault word near (each_once (all_kinds listings))

pub record SaysName (listings : List Listing) (word text : Text) : Type 0 where
  pub near : List Text
  pub are_near : AreNear (named word) (each_once (all_names listings)) near
  pub says : text ≡ name_fault word near

abbrev pub none_text : List Text → Text
none_text names = codes "no kind of record has all of these fields: " ++ listed names ++ codes "; with --only KIND,.. each record of the kinds has a row"

abbrev pub objects_text : Text
objects_text = codes "the argument '--json' cannot be used with '--fields <NAME,..>'"

abbrev pub no_names_text : Text
no_names_text = codes "the following required arguments were not provided:\n  --fields <NAME,..>"

abbrev pub told_text : Text → Text
told_text kind = kind ++ codes " is shown with --names, --json or --fields"

-- some names choose, and no kind has all of these
abbrev pub HaveNone : List Listing → List Name → Type 0
HaveNone listings names = (filter (chooses listings) names ≢ []) × (kinds_chosen listings names ≡ [])

-- all kinds are told
abbrev pub SaysTold : List Text → Text → Type 0
SaysTold [] text = ⊥
SaysTold (first ∷ others) text = (list_all is_told (first ∷ others) ≡ true) × (text ≡ told_text first)

abbrev pub SaysNone : List Listing → List Name → Text → Type 0
SaysNone listings names text = HaveNone listings names × (text ≡ none_text (map name_text (filter (chooses listings) names)))

abbrev pub SaysObjects : Form → Text → Type 0
SaysObjects listed text = (listed ≡ form.Json) × (text ≡ objects_text)

abbrev pub SaysNoNames : Bool → Text → Type 0
SaysNoNames has_header text = (has_header ≡ true) × (text ≡ no_names_text)

-- The first of these that holds, where each word is a kind, or a name: no kind has all names, objects have no columns, there is no name for a first row, or all kinds are told.
abbrev pub SaysRest : Options → (kinds : Option (List Text)) → (fields : Option Text) → Text → Type 0
SaysRest options None (Some words) text =
    (names : List Name) × AreNames options.listings (words_of words) names
    × (SaysNone options.listings names text ⊎ ((HaveNone options.listings names → ⊥) × SaysObjects options.form text))
SaysRest options (Some kinds) (Some words) text = SaysObjects options.form text
SaysRest options None None text = SaysNoNames options.has_header text
SaysRest options (Some kinds) None text =
    SaysNoNames options.has_header text ⊎ ((options.has_header ≡ false) × (options.form ≡ form.Lines) × SaysTold kinds text)

abbrev pub SaysNames : Options → (kinds : Option (List Text)) → (fields unknown : Option Text) → Text → Type 0
SaysNames options kinds fields None text = SaysRest options kinds fields text
SaysNames options kinds fields (Some word) text = SaysName options.listings word text

abbrev pub SaysKinds : Options → (unknown : Option Text) → Text → Type 0
SaysKinds options None text = SaysNames options (option_map words_of options.only) options.fields (first_unknown (all_names options.listings) (words_if options.fields)) text
SaysKinds options (Some word) text = SaysKind options.listings word text

-- what is wrong with options that choose nothing
abbrev pub IsChoiceFault : Options → Text → Type 0
IsChoiceFault options text = SaysKinds options (first_unknown (all_kinds options.listings) (words_if options.only)) text

-- what is wrong with names that have no rows: the first word that is none, or that no kind has all of them
abbrev pub SaysNoRowsBy : List Listing → (words : Text) → (unknown : Option Text) → Text → Type 0
SaysNoRowsBy listings words None text = (names : List Name) × AreNames listings (words_of words) names × SaysNone listings names text
SaysNoRowsBy listings words (Some word) text = SaysName listings word text

abbrev pub SaysNoRows : List Listing → (words : Text) → Text → Type 0
SaysNoRows listings words text = SaysNoRowsBy listings words (first_unknown (all_names listings) (words_of words)) text

-- the text of an error that says what is wrong
abbrev pub IsErrorOf : (Text → Type 0) → Text → Type 0
IsErrorOf IsSaid text = (said : Text) × IsSaid said × (text ≡ error_text said)

-- a fact of the text that says why words are wrong
abbrev pub IfSaid : WordsFault → (Text → Type 0) → Type 0
IfSaid (fault.Wrong text) P = P (string_bytes text)
IfSaid fault.Memory P = Unit {0}
