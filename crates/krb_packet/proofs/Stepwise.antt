-- The packets of a file, one step at a time: those that follow depend only on what is left of the file.
use Rattle.std.proofs.Common.{◌≡◌, ℕ, suc, ◌+◌, Some, Result, Ok, Err, length, refl, ap, arith}
use Rattle.krb_file.specs.Fields.{Source, Fault, limited}
use Rattle.krb_file.specs.Items.{with_first}
use Rattle.krb_file.proofs.Items.{unrolls}
use Rattle.krb_packet.specs.declared.packet.Packet.{Packet}
use Rattle.krb_packet.specs.declared.format.Format.{Format}
use Rattle.krb_packet.specs.declared.format.Next.{Next}
use Rattle.krb_packet.specs.declared.format.Next.TheVariants as nexts
use Rattle.krb_packet.specs.Pcaps.{most_captured}
use Rattle.krb_packet.specs.Captures.{next_in, Packets, packets_from, packets_within, packets_after}
use Rattle.krb_packet.proofs.Steps.{step_advances}

abbrev step : Format → ℕ → Source → Result (Next × Source) Fault
step format count source = next_in format count (limited (Some most_captured)) source

packets_from-same : (count : ℕ) (r : Result (Next × Source) Fault) (f g : Format → ℕ → Source → Packets)
    → ((packet : Packet) (after : Format) (t : Source) → r ≡ Ok (nexts.Packet packet after, t) → f after (count + 1) t ≡ g after (count + 1) t)
    → ((after : Format) (t : Source) → r ≡ Ok (nexts.NoPacket after, t) → f after count t ≡ g after count t)
    → packets_from count r f ≡ packets_from count r g
packets_from-same count (Err e) f g one two = refl
packets_from-same count (Ok (nexts.End, t)) f g one two = refl
packets_from-same count (Ok (nexts.Packet packet after, t)) f g one two = ap (with_first packet) (one packet after t refl)
packets_from-same count (Ok (nexts.NoPacket after, t)) f g one two = two after t refl

-- what is left after a step, and the law of steps
abbrev pub after_read : ℕ → Result (Next × Source) Fault → Packets
after_read count read = packets_from count read packets_after

pub after-step : (format : Format) (count : ℕ) (s : Source) → packets_after format count s ≡ after_read count (step format count s)
after-step format count s =
    unrolls {P = Format × ℕ × Source} (λ bound p. packets_within bound p.0 p.1 p.2) (λ p others. packets_from p.1 (step p.0 p.1 p.2) (λ after n t. others (after, n, t))) (λ p. suc (length p.2.octets)) (λ bound p. refl)
    (λ bound p none. absurd (omega (arith, none)))
    (λ p f g same.
    packets_from-same p.1 (step p.0 p.1 p.2) (λ after n t. f (after, n, t)) (λ after n t. g (after, n, t))
    (λ packet after t e. same (after, p.1 + 1, t) (let goes = step_advances p.0 p.1 (limited (Some most_captured)) p.2 (nexts.Packet packet after) t e in omega (arith, goes.on, goes.same)))
    (λ after t e. same (after, p.1, t) (let goes = step_advances p.0 p.1 (limited (Some most_captured)) p.2 (nexts.NoPacket after) t e in omega (arith, goes.on, goes.same))))
    (format, count, s)
