use Rattle.std.proofs.Common.{◌≡◌, ◌++◌, codes, true, length, map}
use Rattle.std.specs.List.{flat_map}
use Rattle.krb_registry.specs.Rows.{number_and_name}
use Rattle.krb_record.specs.inner.Flags.{are_plain, name_item, names_set}
use Rattle.krb_record.proofs.flags.put_other_names.Given as goal

-- the text so far, and that of the rows that are left
abbrev pub invariant-others : goal.invariant-others
invariant-others l =
    (are_plain (map number_and_name l.others) ≡ true)
    × (l.text ++ flat_map (λ name. codes "," ++ name_item l.form name) (names_set l.octets (map number_and_name l.others))
    ≡ l.initial.text ++ flat_map (λ name. codes "," ++ name_item l.form name) (names_set l.octets (map number_and_name l.initial.others)))

abbrev pub decreases-others : goal.decreases-others
decreases-others l = length (names_set l.octets (map number_and_name l.others))
