-- What is said of sources that are not decoded, and may help.
use Rattle.std.specs.Prelude.{ℕ, ◌++◌, List, Some, codes}
use Rattle.krb_input.specs.Hints as listed
use Rattle.krb_input.specs.declared.hint.Hint.{Hint}
use Rattle.krb_input.specs.declared.hint.Hint.TheVariants as hint

-- A keytab has keys, and no messages.
abbrev pub keytab_text : (file : List ℕ) → List ℕ
keytab_text file = codes "this is a keytab, which has no messages: krbls keytab " ++ file

abbrev pub converted_text : (words file : List ℕ) → List ℕ
converted_text words file = words ++ codes ": editcap -F pcap " ++ file ++ codes " - | krbls decode -"

-- what a hint says where a source was to be listed, but that its command decodes
abbrev pub hint_text : Hint → (file : List ℕ) → List ℕ
hint_text hint.ModifiedPcap file = converted_text (codes "this is a modified pcap") file
hint_text hint.Snoop file = converted_text (codes "this is a snoop capture") file
hint_text hint.Primary file = codes "this may be the primary file of a collection: krbls decode DIR:DIRECTORY"
hint_text other file = listed.hint_text other (Some (codes "decode")) file
