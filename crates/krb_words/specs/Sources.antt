-- The sources that a command line names, and where they lie.
use Rattle.std.specs.Prelude.{Bool, false, not, ◌&&◌, ◌||◌, List, [], ◌∷◌, ◌++◌, length, map, take, drop, Option, Some, None, codes, unwrap_or, if◌then◌else◌}
use Rattle.std.specs.Option.{option_map_or}
use Rattle.std.specs.Str.{bytes_eq}
use Rattle.clap.specs.Words.{Row, Text, all_of, first_of}
use Rattle.krb_words.specs.Names.{named}
use Rattle.krb_words.specs.declared.sources.Source.{Source}
use Rattle.krb_words.specs.declared.sources.Source.TheVariants as source

-- the standard input, the file of a path, or each cache of the directory of a path; a path has the name that was given for it
pub data Place : Type 0 where
  Input : Place
  File : (name path : Text) → Place
  Directory : (name path : Text) → Place

abbrev pub place_of : Source → Place
place_of source.Input = Input
place_of (source.File file) = File file.name.items file.path.items
place_of (source.Directory directory) = Directory directory.name.items directory.path.items

-- ---- names
-- the names of `decode` are those of caches, but where a file is one message without its length
abbrev pub is_true : Option Text → Bool
is_true None = false
is_true (Some value) = bytes_eq value (codes "true")

abbrev pub names_like : Text → List Row → Text
names_like command rows = if bytes_eq command (codes "decode") && not (is_true (first_of (codes "unframed") rows)) then codes "ccache" else command

-- what follows a prefix
abbrev pub after : Text → Text → Option Text
after prefix name = if bytes_eq (take (length prefix) name) prefix then Some (drop (length prefix) name) else None

abbrev pub files_path : Text → Text
files_path name = unwrap_or (after (codes "FILE:") name) (unwrap_or (after (codes "WRFILE:") name) name)

abbrev pub cache_place : Text → Place
cache_place name =
    option_map_or (File name) (after (codes "DIR::") name)
    (option_map_or (Directory name) (after (codes "DIR:") name) (File name (files_path name)))

-- a name of a command: keytabs and caches may have a prefix
abbrev pub name_place : Text → Text → Place
name_place command name =
    if bytes_eq command (codes "keytab") then File name (files_path name)
    else (if bytes_eq command (codes "ccache") || bytes_eq command (codes "list") then cache_place name
    else File name name)

-- ---- words
-- the value of `--file` is a name, whatever it is; a word is one unless it is `-`
abbrev pub given_place : Text → Text → Place
given_place command word = name_place command (named word)

abbrev pub word_place : Text → Text → Place
word_place command word = if bytes_eq word (codes "-") then Input else given_place command word

abbrev pub file_place : Text → Option Text → List Place
file_place command None = []
file_place command (Some word) = given_place command word ∷ []

abbrev pub words_of : Option (List Text) → List Text
words_of None = []
words_of (Some words) = words

-- the standard input if nothing is named, but for `list`
abbrev pub or_input : Text → List Place → List Place
or_input command [] = if bytes_eq command (codes "list") then [] else Input ∷ []
or_input command (first ∷ others) = first ∷ others

-- the file of `--file`, and then those that words name
abbrev pub sources_of : Text → List Row → List Place
sources_of command rows = or_input command (file_place (names_like command rows) (first_of (codes "file") rows) ++ map (word_place (names_like command rows)) (words_of (all_of (codes "file names") rows)))
