use Rattle.std.proofs.Common.{◌≡◌, false, map, take}
use Rattle.std.specs.List.{list_any}
use Rattle.std.specs.Str.{bytes_eq}
use Rattle.krb_choice.specs.Wanted.{messages}
use Rattle.krb_choice.proofs.choice.may_be_inside.Given as goal

-- the kind is none of the messages so far
abbrev pub invariant-loop-message : goal.invariant-loop-message
invariant-loop-message l =
    (map (λ message. message.now) l.message-items ≡ messages)
    × (list_any (λ message. bytes_eq message.now l.kind) (take l.message-index l.message-items) ≡ false)
