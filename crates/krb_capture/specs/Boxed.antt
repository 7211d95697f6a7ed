-- What happened, as a capture keeps it.
use Rattle.std.specs.Prelude.{Option, Some, None, Box}
use Rattle.std.specs.declared.alloc.Global.{Global}
use Rattle.krb_capture.specs.declared.happened.Happened.{Happened}

-- if it is told
abbrev pub happened_in : Option (Box Happened Global) → Option Happened
happened_in None = None
happened_in (Some boxed) = Some boxed.value
