-- The names of the spellings of octets.
use Rattle.std.specs.Prelude.{List, ℕ, codes}
use Rattle.krb_source.specs.declared.spelling.Spelling.{Spelling}
use Rattle.krb_source.specs.declared.spelling.Spelling.TheVariants as spellings

abbrev pub spelling_name : Spelling → List ℕ
spelling_name spellings.Octets = codes "octets"
spelling_name spellings.Hex = codes "hex"
spelling_name spellings.Dump = codes "dump"
spelling_name spellings.Base64 = codes "base64"
