-- PA-PAC-OPTIONS (MS-KILE, 2.2.10): values of the type and of views of it, as values of its term, and back. asn1/generate wrote this from asn1/padata.asn1
use Rattle.std.specs.Prelude.{⊤}
use Rattle.krb_msg.specs.Term.{Value}
use Rattle.krb_msg.specs.Basic.{flags_of_view}
use Rattle.krb_padata.specs.Grammar.{pa_pac_options}
use Rattle.krb_padata.specs.declared.pa_pac_options.PaPacOptions.{PaPacOptions}
use Rattle.krb_padata.specs.declared.pa_pac_options.PaPacOptionsView.{PaPacOptionsView}

abbrev pub pa_pac_options_value : PaPacOptions → Value pa_pac_options
pa_pac_options_value p = (p.flags, tt)

abbrev pub pa_pac_options_of : Value pa_pac_options → PaPacOptions
pa_pac_options_of v = record { flags = v.0 }

-- ---- a view of it: as a value of its term, as a value of the type, and what is known of it
abbrev pub pa_pac_options_view_value : PaPacOptionsView → Value pa_pac_options
pa_pac_options_view_value p = (flags_of_view p.flags, tt)

abbrev pub pa_pac_options_of_view : PaPacOptionsView → PaPacOptions
pa_pac_options_of_view p = pa_pac_options_of (pa_pac_options_view_value p)

abbrev pub IsValidPaPacOptions : PaPacOptionsView → Type 0
IsValidPaPacOptions p = ⊤
