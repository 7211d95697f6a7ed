use Rattle.std.proofs.Common.{◌≡◌, ◌==◌, ◌++◌, take}
use Rattle.std.specs.Int.RustNames.{bit_and}
use Rattle.std.specs.List.{filter}
use Rattle.krb_record.specs.TicketFlags.{named_flags, flag_name}
use Rattle.krb_record.proofs.Listed.{listed, separator_after}
use Rattle.krb_record.proofs.ticket_flags.put_names.Given as goal

-- the names so far of flags that are set, and what precedes the next
abbrev pub invariant-loop-flag : goal.invariant-loop-flag
invariant-loop-flag l =
    (l.line ≡ l.initial.line ++ listed flag_name (filter (λ flag. bit_and l.flags.0 flag == flag) (take l.flag-index named_flags)))
    × (l.separator ≡ separator_after (filter (λ flag. bit_and l.flags.0 flag == flag) (take l.flag-index named_flags)))
