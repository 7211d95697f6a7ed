-- Headers that are skipped one after another by a loop.
use Rattle.std.proofs.Common.{◌≡◌, ℕ, suc, ◌+◌, ◌-◌, ◌<◌, Bool, true, Option, Some, refl, arith}
use Rattle.krb_packet.specs.Payloads.{Captured}
use Rattle.krb_packet.specs.Contents.{skip_headers, step, walk}
use Rattle.krb_packet.specs.declared.header.Header.{Header}
use Rattle.krb_packet.specs.declared.header.Step.TheVariants as steps

pub skip_headers-step : (is_skipped : ℕ → Captured → Bool) (pass : ℕ → Captured → Option (ℕ × Captured)) (most counter kind next : ℕ) (packet rest : Captured)
    → counter < most → is_skipped kind packet ≡ true → pass kind packet ≡ Some (next, rest) → skip_headers is_skipped pass (most - counter) kind packet ≡ skip_headers is_skipped pass (most - (counter + 1)) next rest
skip_headers-step is_skipped pass most counter kind next packet rest lt test step =
    let more : most - counter ≡ suc (most - (counter + 1)) = omega arith in
    rw more (rw test (rw step refl))

pub walk-step : (port most counter : ℕ) (header next : Header) (packet rest : Captured) → counter < most → step port header packet ≡ Some (steps.Next next rest) → walk port (most - counter) header packet ≡ walk port (most - (counter + 1)) next rest
walk-step port most counter header next packet rest lt went =
    let more : most - counter ≡ suc (most - (counter + 1)) = omega arith in
    rw more (rw went refl)
