-- Octets of strings, as the code writes them in cells.
use Rattle.std.specs.Prelude.{ℕ, List}
use Rattle.krb_record.specs.declared.cell.Whereabouts.{Whereabouts}
use Rattle.krb_record.specs.declared.cell.Whereabouts.TheVariants as places
use Rattle.krb_record.specs.Forms.{item_octet, shown_octet}

abbrev pub octet_at : Whereabouts → ℕ → List ℕ
octet_at places.Alone octet = shown_octet octet
octet_at places.InList octet = item_octet octet
