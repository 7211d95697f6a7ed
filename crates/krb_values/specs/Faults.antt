-- The text of a fault of a parse.
use Rattle.std.specs.Prelude.{ℕ, List, codes}
use Rattle.krb_der.specs.Reasons.{refusal_text}
use Rattle.krb_values.specs.declared.parsing.ParseFault.{ParseFault}
use Rattle.krb_values.specs.declared.parsing.ParseFault.TheVariants.{Refused, Memory}

abbrev pub parse_fault_text : ParseFault → List ℕ
parse_fault_text (Refused refusal) = refusal_text refusal
parse_fault_text Memory = codes "out of memory"
