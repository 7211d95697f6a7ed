use Rattle.std.proofs.Common.{◌≡◌, ◌≤◌, length, drop, IfSome}
use Rattle.krb_token.specs.Seen.{IsShort, fields_of, part_of, token_of}
use Rattle.krb_token.specs.Spnego.{fields_read}
use Rattle.krb_token.proofs.spnego.+fields.Given as goal

-- the octets in which fields and what they hold lie
abbrev pub decreases-read_fields : goal.decreases-read_fields
decreases-read_fields l = length l.part.octets.now

abbrev pub decreases-read_held : goal.decreases-read_held
decreases-read_held l = length l.part.octets.now

-- the fields that are left
abbrev pub invariant-read_fields-loop-field : goal.invariant-read_fields-loop-field
invariant-read_fields-loop-field l =
    IsShort l.rest
    × IfSome l.found IsShort
    × (length l.rest.octets.now ≤ length l.part.octets.now)
    × (fields_read (fields_of l.fields) l.path (token_of l.token) (part_of l.part) ≡ fields_read (fields_of (drop l.field-index l.fields)) l.path (token_of l.found) (part_of l.rest))
