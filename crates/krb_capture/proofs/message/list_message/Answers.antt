use Rattle.std.proofs.Common.{rules, ◌≡◌, ◌<◌, ◌^◌, Some, OnOk, length, refl, sym, ◌∙◌, subst, arith}
use Rattle.std.specs.Prelude.{IsErrOf}
use Rattle.krb_judge.specs.Parses.{refusal_of}
use Rattle.krb_capture.specs.Found.{with_found}
use Rattle.krb_capture.specs.Listed.{IsListed}
use Rattle.krb_capture.specs.Messages.{found_unless, message_found, refused_found}
use Rattle.krb_capture.proofs.Found.{place_few}
use Rattle.krb_msg.specs.Judgement.{judgement}
use Rattle.krb_judge.proofs.Slices.{IsWholeSlice, whole_message}
use Rattle.krb_capture.proofs.message.list_message.Goals as goal
use Rattle.krb_capture.proofs.message.list_message.Goals.{else-size-le-MOST_OCTETS-via-then-size-le-MOST_OCTETS+in_ok-put_message+else-branch, else-size-le-MOST_OCTETS-via-else-size-le-MOST_OCTETS}

pub unreachable-requires : goal.unreachable-requires
unreachable-requires c =
    let whole : IsWholeSlice (judgement c.args.profile) c.args.octets.now = whole_message c.args.profile c.args.octets.now c.in_default.ensures.whole in
    elim c.else-size-le-MOST_OCTETS.branch [
      | else-size-le-MOST_OCTETS-via-then-size-le-MOST_OCTETS+in_ok-put_message+else-branch w ↦
          (subst (IsListed c.args.profile c.args.octets.now c.args.origin.now c.args.listing.now w.put_message.new.self) w.if-branch.false w.in_ok-put_message.ensures).0 whole.whole
      | else-size-le-MOST_OCTETS-via-else-size-le-MOST_OCTETS w ↦ let short : length c.args.octets.now < 2 ^ 31 = whole.short in search rules
    ]

pub list_refused-requires-clause-fits : goal.list_refused-requires-clause-fits
list_refused-requires-clause-fits c =
    let e : refusal_of c.args.profile c.args.octets.now ≡ Some c.in-Err.refusal = (c.read_message_in.ensures.refused c.in-Err.refusal).0 (subst (λ x. IsErrOf x c.in-Err.refusal) (sym c.in-Err.is) refl) in
    omega (arith, c.requires, place_few c.args.profile c.args.octets.now c.in-Err.refusal e)

pub returns : goal.returns
unfolding message_found
returns c =
    let same : c.else-size-le-MOST_OCTETS.listing ≡ c.args.listing.now = elim c.else-size-le-MOST_OCTETS.branch [
      | else-size-le-MOST_OCTETS-via-then-size-le-MOST_OCTETS+in_ok-put_message+else-branch w ↦ w.listing-is ∙ (subst (IsListed c.args.profile c.args.octets.now c.args.origin.now c.args.listing.now w.put_message.new.self) w.if-branch.false w.in_ok-put_message.ensures).1
      | else-size-le-MOST_OCTETS-via-else-size-le-MOST_OCTETS w ↦ w.listing-is
    ] in
    let e : refusal_of c.args.profile c.args.octets.now ≡ Some c.in-Err.refusal = (c.read_message_in.ensures.refused c.in-Err.refusal).0 (subst (λ x. IsErrOf x c.in-Err.refusal) (sym c.in-Err.is) refl) in
    subst (λ o. OnOk c.list_refused.result (c.list_refused.new.listing ≡ with_found c.args.origin.now (found_unless c.args.profile o c.args.extent c.args.before c.args.octets.now) c.args.listing.now)) (sym e)
    (subst (λ w. OnOk c.list_refused.result (c.list_refused.new.listing ≡ with_found c.args.origin.now (refused_found c.args.profile c.args.extent c.args.before (length c.args.octets.now) c.args.octets.now c.in-Err.refusal) w)) same c.list_refused.ensures)
