-- The objects of records, computed.
use Rattle.std.specs.Prelude.{pos, true, ◌≡◌, [], ◌∷◌, Some, refl, codes}
use Rattle.std.specs.Fmt.{digits}
use Rattle.json.specs.Json.{array, boolean, item, member, no_items, no_members, null, number, object, string}
use Rattle.krb_registry.specs.Rows.{name_in, name_of, rows}
use Rattle.krb_registry.specs.declared.registry.Registry.TheVariants as registries
use Rattle.krb_record.specs.Streams.{counted_end_record}
use Rattle.krb_record.specs.Values.{Absent, Named, Numbers, Status, String, YesNo, Number, part, printed, the, with_inside, with_origin}
use Rattle.krb_laws.specs.Json.{json_of, json_of_value, names_of_value}

end_of_stream : json_of (counted_end_record 8 0) ≡ object (member (codes "kind") (string (codes "end")) (member (codes "messages") (number (codes "8")) (member (codes "refused") (number (codes "0")) no_members)))
unfolding digits json_of json_of_value names_of_value
end_of_stream = refl

-- a number that has a name, and two of which the second has none
named : json_of (printed (codes "K") (the (codes "t") (Named registries.NameTypes (pos 1)) ∷ the (codes "e") (Numbers registries.EncryptionTypes (pos 18 ∷ pos 999 ∷ [])) ∷ []))
    ≡ object (member (codes "kind") (string (codes "K")) (member (codes "t") (number (codes "1")) (member (codes "t_name") (string (codes "NT-PRINCIPAL"))
    (member (codes "e") (array (item (number (codes "18")) (item (number (codes "999")) no_items)))
    (member (codes "e_names") (array (item (string (codes "aes256-cts-hmac-sha1-96")) (item null no_items))) no_members)))))
unfolding digits json_of json_of_value names_of_value rows name_in name_of
named = refl

-- a status is its digits, and its name
a_status : json_of (printed (codes "K") (the (codes "s") (Status 0xC0000072) ∷ []))
    ≡ object (member (codes "kind") (string (codes "K")) (member (codes "s") (string (codes "c0000072")) (member (codes "s_name") (string (codes "STATUS_ACCOUNT_DISABLED")) no_members)))
unfolding json_of json_of_value names_of_value rows name_in name_of
a_status = refl

-- an origin comes after the kind; an octet that is no character is `\x` and its digits, and what is absent is null
with_a_line : json_of (with_origin (the (codes "line") (Number (pos 3)) ∷ []) (printed (codes "K") (the (codes "a") (String (0x22 ∷ 0x0A ∷ [])) ∷ the (codes "b") Absent ∷ [])))
    ≡ object (member (codes "kind") (string (codes "K")) (member (codes "line") (number (codes "3")) (member (codes "a") (string (codes "\"\\x0a")) (member (codes "b") null no_members))))
unfolding digits json_of json_of_value names_of_value
with_a_line = refl

-- what is inside is objects in an array
with_a_part : json_of (with_inside (Some (part (codes "P") (the (codes "a") (YesNo true) ∷ []) ∷ [])) (printed (codes "K") []))
    ≡ object (member (codes "kind") (string (codes "K")) (member (codes "inside") (array (item (object (member (codes "kind") (string (codes "P")) (member (codes "a") (boolean true) no_members))) no_items)) no_members))
unfolding json_of json_of_value names_of_value
with_a_part = refl
