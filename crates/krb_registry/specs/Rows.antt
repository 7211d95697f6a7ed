-- The rows of the registries, and the name of a number.
use Rattle.std.specs.Prelude.{[], ℕ, ℤ, List, Option}
use Rattle.std.specs.List.{find}
use Rattle.std.specs.Option.{option_map}
use Rattle.std.specs.Ordering.{int_eq}
use Rattle.krb_registry.specs.declared.registry.Registry.{Registry}
use Rattle.krb_registry.specs.declared.registry.Registry.TheVariants as registry
use Rattle.krb_registry.specs.declared.row.Row.{Row}
use Rattle.krb_registry.specs.EncryptionTypes.{encryption_types}
use Rattle.krb_registry.specs.ChecksumTypes.{checksum_types}
use Rattle.krb_registry.specs.PreAuthenticationData.{pre_authentication_data}
use Rattle.krb_registry.specs.ErrorCodes.{error_codes}
use Rattle.krb_registry.specs.ErrorDataTypes.{error_data_types}
use Rattle.krb_registry.specs.Statuses.{statuses}
use Rattle.krb_registry.specs.KdcOptions.{kdc_options}
use Rattle.krb_registry.specs.ApOptions.{ap_options}
use Rattle.krb_registry.specs.PacOptions.{pac_options}
use Rattle.krb_registry.specs.TicketFlags.{ticket_flags}
use Rattle.krb_registry.specs.NameTypes.{name_types}
use Rattle.krb_registry.specs.AddressTypes.{address_types}
use Rattle.krb_registry.specs.Notes.{notes}

-- the rows of a registry, in order of number
unfoldable pub rows : Registry → List (ℤ × List ℕ)
rows registry.EncryptionTypes = encryption_types
rows registry.ChecksumTypes = checksum_types
rows registry.PreAuthenticationData = pre_authentication_data
rows registry.ErrorCodes = error_codes
rows registry.ErrorDataTypes = error_data_types
rows registry.Statuses = statuses
rows registry.KdcOptions = kdc_options
rows registry.ApOptions = ap_options
rows registry.PacOptions = pac_options
rows registry.ContextFlags = []
rows registry.TicketFlags = ticket_flags
rows registry.NameTypes = name_types
rows registry.AddressTypes = address_types
rows registry.Notes = notes

-- the name in the first row that has the number, if there is one
unfoldable pub name_in : List (ℤ × List ℕ) → ℤ → Option (List ℕ)
name_in rows number = option_map (λ row. row.1) (find (λ row. int_eq row.0 number) rows)

-- the name of a number in a registry, if it has one
unfoldable pub name_of : Registry → ℤ → Option (List ℕ)
name_of registry number = name_in (rows registry) number

-- a row, as a pair of its number and its name
abbrev pub number_and_name : Row → ℤ × List ℕ
number_and_name row = (row.number, row.name.now)
