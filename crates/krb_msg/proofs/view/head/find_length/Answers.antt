use Rattle.std.proofs.Common.{◌≡◌, ◌+◌, ◌-◌, ◌<◌, ◌++◌, length, take-append-drop, ap, sym, subst, ◌∙◌, arith, length-append, get_or}
use Rattle.krb_der.specs.Octets.{AreOctets, number}
use Rattle.krb_der.specs.inner.Numbers.{AreOctets-slice, AreOctets-take}
use Rattle.krb_msg.proofs.Lengths.{long_length, long_digits, is_length}
use Rattle.krb_msg.proofs.view.head.find_length.Goals.{then-count-eq0-via-then-count-eq0, then-count-eq0-via-else-count-eq0+then-count-gt4, then-count-eq0-via-else-count-eq0+else-count-gt4+then-octets-count}
use Rattle.krb_msg.proofs.view.head.find_length.Goals.{then-digits-eq0-via-then-digits-eq0, then-digits-eq0-via-else-digits-eq0+then-size-lt128}
use Rattle.krb_msg.proofs.view.head.find_length.Goals as goal

pub returns-then-count-eq0 : goal.returns-then-count-eq0
returns-then-count-eq0 c = λ size rest small e.
    let l = long_length c.args.first c.args.octets.now size rest c.requires small e in
    elim c.then-count-eq0.branch [
      | then-count-eq0-via-then-count-eq0 w ↦ omega (arith, w.if-count-eq0.true, c.from-count.ensures, l.first_is, l.some)
      | then-count-eq0-via-else-count-eq0+then-count-gt4 w ↦ omega (arith, w.if-count-gt4.true, c.from-count.ensures, l.first_is, l.few)
      | then-count-eq0-via-else-count-eq0+else-count-gt4+then-octets-count w ↦ omega (arith, w.if-octets-count.true, c.from-count.ensures, l.first_is, ap length l.parts, length-append l.digits rest)
    ]

pub returns-then-digits-eq0 : goal.returns-then-digits-eq0
returns-then-digits-eq0 c = λ size rest small e.
    let l = long_length c.args.first c.args.octets.now size rest c.requires small e in
    let parts : c.args.octets.now ≡ c.split_at.result.0.now ++ c.split_at.result.1.now = sym (take-append-drop (c.from-count.result - 128) c.args.octets.now) ∙ (λ i. sym c.split_at.ensures.front i ++ sym c.split_at.ensures.back i) in
    let n : 128 + length c.split_at.result.0.now ≡ c.args.first = omega (arith, c.split_at.ensures.front_len, c.from-count.ensures, c.requires) in
    let f = long_digits c.args.first c.args.octets.now c.split_at.result.0.now size rest c.split_at.result.1.now l n parts in
    elim c.then-digits-eq0.branch [
      | then-digits-eq0-via-then-digits-eq0 w ↦ l.lead (ap (λ d. get_or d 0 0) (sym f) ∙ w.if-digits-eq0.true)
      | then-digits-eq0-via-else-digits-eq0+then-size-lt128 w ↦ omega (arith, w.if-size-lt128.true, c.number_of-size.ensures.value, ap number f, l.value, l.large)
    ]

pub returns : goal.returns
returns c =
    let parts : c.args.octets.now ≡ c.split_at.result.0.now ++ c.split_at.result.1.now = sym (take-append-drop (c.from-count.result - 128) c.args.octets.now) ∙ (λ i. sym c.split_at.ensures.front i ++ sym c.split_at.ensures.back i) in
    let n : c.args.first ≡ 128 + length c.split_at.result.0.now = omega (arith, c.split_at.ensures.front_len, c.from-count.ensures, c.requires) in
    let some : 0 < length c.split_at.result.0.now = omega (arith, c.split_at.ensures.front_len, c.if-count-eq0.false) in
    let octets : AreOctets c.split_at.result.0.now = subst AreOctets (sym c.split_at.ensures.front) (AreOctets-take _ _ (AreOctets-slice c.args.octets.now c.type_inv.octets)) in
    is_length c.args.first c.number_of-size.result c.split_at.result.0.now c.split_at.result.1.now c.args.octets.now octets n some c.if-digits-eq0.false c.number_of-size.ensures.value c.if-size-lt128.false parts
