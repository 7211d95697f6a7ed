use Rattle.std.proofs.Common.{◌≡◌, ◌++◌, length, drop, sym, ap, ◌∙◌, arith}
use Rattle.std.proofs.lemmas.List.{take_at, take-append-drop}
use Rattle.std.proofs.lemmas.Grind.{common_steps}
use Rattle.krb_input.specs.Digits.{digits}
use Rattle.krb_input.specs.Readings.{prepend}
use Rattle.krb_input.proofs.Decoded.{pairs_read}
use Rattle.krb_input.proofs.digits.read_pairs.Goals as goal

pub returns : goal.returns
returns c =
    let cut : c.args.text.now ≡ c.split_at.result.0.now ++ c.split_at.result.1.now = grind (arith, common_steps, c.split_at.ensures.front, c.split_at.ensures.back, take-append-drop) in
    let size : length c.fill_octets.new.room ≡ c.resize.new.self.len = grind (arith, common_steps, c.resize.ensures.len) in
    ap digits cut
    ∙ pairs_read 0 c.split_at.result.0.now c.fill_octets.new.room c.split_at.result.1.now c.fill_octets.ensures
    ∙ ap (λ octets. prepend octets (digits c.split_at.result.1.now)) (sym (take_at c.fill_octets.new.room (drop (length c.fill_octets.new.room) c.resize.new.self.items) c.resize.new.self.len size))
