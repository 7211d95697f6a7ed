-- The parts of an entry, in the order of their spelling.
use Rattle.std.proofs.Common.{◌≡◌, ℕ, List, ◌++◌, length, append_assoc}
use Rattle.std.specs.List.{flat_map}
use Rattle.std.specs.Int.{w8, w16, w32, to_be_bytes}
use Rattle.krb_file.specs.Fields.{signed, counted}
use Rattle.krb_keytab.specs.declared.value.Entry.{Entry}
use Rattle.krb_keytab.specs.Spelling.{entry}

regroup : (a b c d e f g h i : List ℕ) → (a ++ (b ++ c)) ++ (d ++ (e ++ (f ++ (g ++ (h ++ i))))) ≡ (a ++ b ++ c) ++ d ++ e ++ f ++ g ++ h ++ i
regroup a b c d e f g h i = simp append_assoc

pub entry_octets : (e : Entry) (components : List (List ℕ)) (realm key rest : List ℕ) → components ≡ e.components → realm ≡ e.realm → key ≡ e.key → rest ≡ e.rest →
    (to_be_bytes w16 (length components) ++ (counted w16 realm ++ flat_map (counted w16) components))
    ++ (signed w32 e.name_type
    ++ (to_be_bytes w32 e.time
    ++ (to_be_bytes w8 e.vno8
    ++ (to_be_bytes w16 e.enctype
    ++ (counted w16 key
    ++ rest))))) ≡ entry e
entry_octets e components realm key rest p q r s =
    rw (p, q, r, s)
    (regroup (to_be_bytes w16 (length e.components)) (counted w16 e.realm) (flat_map (counted w16) e.components) (signed w32 e.name_type) (to_be_bytes w32 e.time) (to_be_bytes w8 e.vno8) (to_be_bytes w16 e.enctype) (counted w16 e.key) e.rest)
