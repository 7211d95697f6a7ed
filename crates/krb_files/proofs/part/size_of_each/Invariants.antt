use Rattle.std.proofs.Common.{◌≡◌, false, length, take}
use Rattle.std.specs.List.{flat_map, list_any, AllByRecursion}
use Rattle.krb_files.specs.Parts.{capped}
use Rattle.krb_files.proofs.part.size_of_each.Given as goal

abbrev pub invariant-loop-item : goal.invariant-loop-item
invariant-loop-item g l = record {
  none : list_any g.K.Spelled.is_long (take l.item-index l.items) ≡ false;
  some : l.size ≡ capped (length (flat_map g.K.Spelled.octets (take l.item-index l.items)));
  fits : AllByRecursion g.K.Spelled.Fits (take l.item-index l.items);
}
