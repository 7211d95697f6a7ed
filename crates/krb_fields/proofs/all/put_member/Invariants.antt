use Rattle.std.proofs.Common.{◌≡◌, ◌++◌, map, string_bytes, take}
use Rattle.krb_fields.specs.Names.{with_all, within_text}
use Rattle.krb_fields.proofs.all.put_member.Given as goal

-- the names so far are there
abbrev pub invariant-loop-ending : goal.invariant-loop-ending
invariant-loop-ending l = map string_bytes l.names.items ≡ with_all (map string_bytes l.initial.names.items) (map (λ ending. within_text l.within ++ l.field.name.now ++ ending.now) (take l.ending-index l.ending-items))
