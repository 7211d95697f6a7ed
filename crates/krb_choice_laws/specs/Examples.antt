-- What cells say of members, computed.
use Rattle.std.specs.Prelude.{◌≡◌, pos, true, false, [], ◌∷◌, None, Some, codes, refl}
use Rattle.std.specs.Fmt.{digits}
use Rattle.json.specs.Json.{array, item, no_items, null, string}
use Rattle.krb_registry.specs.Rows.{name_in, name_of, rows}
use Rattle.krb_registry.specs.declared.registry.Registry.TheVariants as registries
use Rattle.krb_record.specs.Forms.{value_text}
use Rattle.krb_record.specs.Values.{Encrypted, FileName, Named, Numbers, the}
use Rattle.krb_record.specs.declared.path.Path.TheVariants as paths
use Rattle.krb_laws.specs.Json.{json_of_value, names_of_value}
use Rattle.krb_choice_laws.specs.Cells.{is_word, member_at, object_with, said, said_of}

-- what is absent, a string that could be taken for it, and one of no octets
absent : said [] null ≡ codes "-"
absent = refl

a_dash : said [] (string (codes "-")) ≡ codes "\\x2d"
a_dash = refl

empty : said [] (string []) ≡ codes "\"\""
empty = refl

-- a comma in a list is escaped, and one null alone is in brackets
a_comma : said [] (array (item (string (codes "a,b")) (item null no_items))) ≡ codes "a\\x2cb,-"
a_comma = refl

one_null : said [] (array (item null no_items)) ≡ codes "[-]"
one_null = refl

none : said [] (array no_items) ≡ codes "[]"
none = refl

-- the name of a number is beside it, and so are those of numbers
a_name : member_at paths.Name (codes "etype") (object_with (the (codes "etype") (Named registries.EncryptionTypes (pos 18)))) ≡ string (codes "aes256-cts-hmac-sha1-96")
unfolding digits json_of_value names_of_value rows name_in name_of
a_name = refl

names : said [] (member_at paths.Names (codes "etypes") (object_with (the (codes "etypes") (Numbers registries.EncryptionTypes (pos 18 ∷ pos 999 ∷ []))))) ≡ codes "aes256-cts-hmac-sha1-96,-"
unfolding digits json_of_value names_of_value rows name_in name_of
names = refl

-- an object has the text of a line with names, and its members have their own
ticket : said_of (Encrypted (pos 18) (Some (pos 1)) 321) paths.Whole (member_at paths.Whole (codes "ticket") (object_with (the (codes "ticket") (Encrypted (pos 18) (Some (pos 1)) 321)))) ≡ codes "18:aes256-cts-hmac-sha1-96:1:321"
unfolding digits json_of_value names_of_value value_text rows name_in name_of
ticket = refl

no_version : said_of (Encrypted (pos 18) None 321) paths.Kvno (member_at paths.Kvno (codes "ticket") (object_with (the (codes "ticket") (Encrypted (pos 18) None 321)))) ≡ codes "-"
unfolding digits json_of_value names_of_value rows name_in name_of
no_version = refl

-- the name of a file is never escaped so
standard_input : said_of (FileName (codes "-")) paths.Whole (string (codes "-")) ≡ codes "-"
standard_input = refl

a_word : is_word (codes "20251125105552Z") ≡ true
a_word = refl

no_word : is_word (codes "a\\b") ≡ false
no_word = refl
