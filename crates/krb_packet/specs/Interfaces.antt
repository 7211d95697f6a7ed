-- The interfaces of a pcapng and the times of their packets (draft-ietf-opsawg-pcapng, 3.5 and 4.2).
use Rattle.std.specs.Prelude.{ℕ, zero, suc, ℤ, pos, ◌+◌, ◌-◌, ◌*◌, ◌/◌, ◌%◌, ◌^◌, ◌&&◌, ◌==◌, nat_lt, int_lt, unsigned_abs, Option, Some, None}
use Rattle.std.specs.Option.{unwrap_or}
use Rattle.std.specs.Int.{w8, w16, w32, w64, cast_signed}
use Rattle.krb_der.specs.Octets.{when}
use Rattle.krb_file.specs.Fields.{Reader, ◌>>=◌, succeed, called, next_octets_at, number_at, is_at_end, octets_to_end}
use Rattle.krb_file.specs.FieldReaders.{skipped_at}
use Rattle.krb_file.specs.declared.field_name.FieldName.TheVariants as fields
use Rattle.krb_packet.specs.declared.order.ByteOrder.{ByteOrder}
use Rattle.krb_source.specs.declared.timestamp.Timestamp.{Timestamp}
use Rattle.krb_packet.specs.declared.interface.Interface.{Interface}
use Rattle.krb_packet.specs.declared.interface.Clock.{Clock}
use Rattle.krb_packet.specs.declared.interface.Options.{Options}
use Rattle.krb_packet.specs.declared.interface.Setting.{Setting}
use Rattle.krb_packet.specs.declared.interface.Setting.TheVariants as settings
use Rattle.krb_packet.specs.Numbers.{in_order, number_in, field_in, from_here, refused_at}
use Rattle.krb_packet.specs.Values.{link_type, time_at}

-- ---- options: a code, the size of a value, the value, and padding up to a multiple of four octets

abbrev pub padded : ℕ → ℕ
padded size = (size + 3) / 4 * 4

-- if_tsresol (9) has one octet, and if_tsoffset (14) eight; an option of another size is not read
abbrev pub value_at : ByteOrder → ℕ → ℕ → Reader Setting
value_at order code size =
    when (code == 9 && size == 1) (λ _. number_at w8 >>= λ octet. skipped_at 3 >>= λ zeros. succeed (settings.Resolution octet)) (λ _.
    when (code == 14 && size == 8) (λ _. next_octets_at None 8 >>= λ octets. succeed (settings.Offset (cast_signed w64 (in_order w64 order octets)))) (λ _.
    skipped_at (padded size) >>= λ zeros. succeed settings.Other))

-- code 0 ends the options
abbrev pub setting_at : ByteOrder → Reader (Option Setting)
setting_at order = do
  code ← number_in w16 order
  size ← number_in w16 order
  when (code == 0) (λ _. succeed None) (λ _. value_at order code size >>= λ setting. succeed (Some setting))

-- an option is one field
abbrev pub option_at : ByteOrder → Reader (Option Setting)
option_at order = from_here (λ place. refused_at place (called fields.Options (setting_at order)))

-- of several options of one code, the first counts
abbrev pub first : {A : Type 0} → Option A → A → Option A
first None value = Some value
first (Some before) value = Some before

abbrev pub with_setting : Setting → Options → Options
with_setting (settings.Resolution octet) found = record found { resolution = first found.resolution octet }
with_setting (settings.Offset seconds) found = record found { offset = first found.offset seconds }
with_setting settings.Other found = found

abbrev pub no_options : Options
no_options = record { resolution = None; offset = None }

abbrev pub after_setting : Options → Option Setting → (Options → Reader Options) → Reader Options
after_setting found None others = succeed found
after_setting found (Some setting) others = others (with_setting setting found)

-- up to the option that ends them, or up to the end of the body; at most as many as the first number
abbrev pub options_within : ℕ → ByteOrder → Options → Reader Options
options_within zero order found = succeed found
options_within (suc bound) order found = λ bounds source.
    (when (is_at_end bounds source) (λ _. succeed found) (λ _. option_at order >>= λ setting. after_setting found setting (options_within bound order))) bounds source

abbrev pub options_at : ByteOrder → Reader Options
options_at order = λ bounds source. options_within (octets_to_end bounds.end source.place) order no_options bounds source

-- ---- an interface

-- microseconds from 1970 on, unless the options say something else
abbrev pub clock_of : Options → Clock
clock_of options = record { resolution = unwrap_or options.resolution 6; offset = unwrap_or options.offset (pos 0) }

abbrev pub interface_at : ByteOrder → Reader Interface
interface_at order = do
  link ← field_in fields.LinkType w16 order
  reserved ← field_in fields.Reserved w16 order
  snaplen ← field_in fields.SnapLen w32 order
  options ← options_at order
  succeed (record { link = link_type link; snaplen = snaplen; clock = clock_of options })

-- ---- times

-- if the highest bit of the octet is set, a power of 2, else one of 10
abbrev pub units_in_second : ℕ → ℕ
units_in_second octet = when (nat_lt octet 128) (λ _. 10 ^ octet) (λ _. 2 ^ (octet - 128))

abbrev pub nanoseconds : ℕ → ℕ → ℕ
nanoseconds resolution units = units * 10 ^ 9 / units_in_second resolution

-- 0 for seconds before 1970
abbrev pub seconds_after : ℤ → ℕ → ℕ
seconds_after offset seconds = when (int_lt offset (pos 0)) (λ _. seconds - unsigned_abs offset) (λ _. seconds + unsigned_abs offset)

abbrev pub clock_time : Clock → ℕ → Option Timestamp
clock_time clock units =
    let after = nanoseconds clock.resolution units in
    time_at (seconds_after clock.offset (after / 10 ^ 9)) (after % 10 ^ 9)
