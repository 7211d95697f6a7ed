use Rattle.std.proofs.Common.{◌≡◌, ◌-◌, ◌∙◌, ap, subst, arith, rules, FitsSigned, w64}
use Rattle.std.proofs.lemmas.Int.{to_z-of_z}
use Rattle.krb_scan.specs.inner.Numbers.{extended, in_range, integer_with}
use Rattle.krb_scan.specs.inner.Outcomes.{LeafIs}
use Rattle.krb_msg.specs.Nodes.{nodes, term_at}
use Rattle.krb_msg.specs.Table.{IsFormOf}
use Rattle.krb_scan.proofs.LeafSteps.{integer_reads, time_reads, bits_reads, text_reads, any_reads, octets_any, items_any, item_any, fields_any, time_size, goes_to}
use Rattle.krb_scan.proofs.path.Path.content.Goals as goal

pub returns-in-Time-clause-step : goal.returns-in-Time-clause-step
returns-in-Time-clause-step c = λ stack marks octets containers reads at.
    goes_to marks c.leafed-in-Time.ensures.step c.requires.known c.requires.fits c.requires.some containers reads at (to_z-of_z w64 c.args.value c.ranges.value)
    (time_reads _ _ (c.args.self.now.looked - c.args.start) _ _ _ _ c.time_next.result (subst (λ k. IsFormOf nodes k (term_at c.args.node)) c.in-Time.is c.requires.form) reads (omega arith) (omega (arith, at)) (time_size (term_at c.args.node) (c.args.end - c.args.start) (subst (λ k. IsFormOf nodes k (term_at c.args.node)) c.in-Time.is c.requires.form) c.requires.fits) c.time_next.ensures)

pub returns-in-Bits-clause-step : goal.returns-in-Bits-clause-step
returns-in-Bits-clause-step c = λ stack marks octets containers reads at.
    goes_to marks c.leafed-in-Bits.ensures.step c.requires.known c.requires.fits c.requires.some containers reads at (to_z-of_z w64 c.args.value c.ranges.value)
    (bits_reads c.in-Bits.least _ _ (c.args.self.now.looked - c.args.start) _ _ _ _ _ c.bits_next.result (subst (λ k. IsFormOf nodes k (term_at c.args.node)) c.in-Bits.is c.requires.form) reads (omega arith) (omega (arith, at)) c.first_octet-first.ensures c.bits_next.ensures)

pub returns-in-Integer-clause-step : goal.returns-in-Integer-clause-step
returns-in-Integer-clause-step c = λ stack marks octets containers reads at.
    let same = to_z-of_z w64 c.args.value c.ranges.value in
    let fits : FitsSigned w64 c.extend-with.result = search rules in
    let same_with = to_z-of_z w64 c.extend-with.result fits in
    let extends : c.extend-with.result ≡ extended (c.args.self.now.looked - c.args.start) c.args.value c.args.octet = c.extend-with.ensures ∙ ap (λ v. extended (c.args.self.now.looked - c.args.start) v c.args.octet) same in
    let within : c.is_within.result ≡ in_range c.in-Integer.low c.in-Integer.high c.extend-with.result = c.is_within.ensures c.in-Integer.low c.in-Integer.high c.in-Integer.widest c.in-Integer.is ∙ ap (in_range c.in-Integer.low c.in-Integer.high) same_with in
    let decides : LeafIs c.integer_next-next.result (integer_with c.is_within.result (c.args.end - c.args.start) (c.args.self.now.looked - c.args.start) c.args.value c.args.octet) =
    subst (λ v. LeafIs c.integer_next-next.result (integer_with c.is_within.result (c.args.end - c.args.start) (c.args.self.now.looked - c.args.start) v c.args.octet)) same c.integer_next-next.ensures in
    goes_to marks c.leafed.ensures.step c.requires.known c.requires.fits c.requires.some containers reads at same_with
    (integer_reads _ c.in-Integer.low c.in-Integer.high c.in-Integer.widest _ (c.args.self.now.looked - c.args.start) _ _ _ _ _ c.is_within.result c.integer_next-next.result (subst (λ k. IsFormOf nodes k (term_at c.args.node)) c.in-Integer.is c.requires.form) reads (omega arith) (omega (arith, at)) extends within decides)

pub returns-in-Text-clause-step : goal.returns-in-Text-clause-step
returns-in-Text-clause-step c = λ stack marks octets containers reads at.
    goes_to marks c.leafed-in-Text.ensures.step c.requires.known c.requires.fits c.requires.some containers reads at (to_z-of_z w64 c.args.value c.ranges.value)
    (text_reads c.in-Text.greatest _ _ (c.args.self.now.looked - c.args.start) _ _ _ _ c.text_next.result (subst (λ k. IsFormOf nodes k (term_at c.args.node)) c.in-Text.is c.requires.form) reads (omega arith) (omega (arith, at)) c.text_next.ensures)

pub returns-in-Octets-clause-step : goal.returns-in-Octets-clause-step
returns-in-Octets-clause-step c = λ stack marks octets containers reads at.
    goes_to marks c.leafed-in-Octets.ensures.step c.requires.known c.requires.fits c.requires.some containers reads at (to_z-of_z w64 c.args.value c.ranges.value)
    (any_reads _ _ (c.args.self.now.looked - c.args.start) _ _ _ _ c.any_next.result (octets_any (term_at c.args.node) (subst (λ k. IsFormOf nodes k (term_at c.args.node)) c.in-Octets.is c.requires.form)) reads (omega arith) (omega (arith, at)) c.any_next.ensures)

pub returns-in-Items-clause-step : goal.returns-in-Items-clause-step
returns-in-Items-clause-step c = λ stack marks octets containers reads at.
    goes_to marks c.leafed-in-Items.ensures.step c.requires.known c.requires.fits c.requires.some containers reads at (to_z-of_z w64 c.args.value c.ranges.value)
    (any_reads _ _ (c.args.self.now.looked - c.args.start) _ _ _ _ c.any_next-in-Items.result (items_any c.in-Items.node c.in-Items.empty (term_at c.args.node) (subst (λ k. IsFormOf nodes k (term_at c.args.node)) c.in-Items.is c.requires.form)) reads (omega arith) (omega (arith, at)) c.any_next-in-Items.ensures)

pub returns-in-Item-clause-step : goal.returns-in-Item-clause-step
returns-in-Item-clause-step c = λ stack marks octets containers reads at.
    goes_to marks c.leafed-in-Item.ensures.step c.requires.known c.requires.fits c.requires.some containers reads at (to_z-of_z w64 c.args.value c.ranges.value)
    (any_reads _ _ (c.args.self.now.looked - c.args.start) _ _ _ _ c.any_next-in-Item.result (item_any c.in-Item.node (term_at c.args.node) (subst (λ k. IsFormOf nodes k (term_at c.args.node)) c.in-Item.is c.requires.form)) reads (omega arith) (omega (arith, at)) c.any_next-in-Item.ensures)

pub returns-in-Fields-clause-step : goal.returns-in-Fields-clause-step
returns-in-Fields-clause-step c = λ stack marks octets containers reads at.
    goes_to marks c.leafed-in-Fields.ensures.step c.requires.known c.requires.fits c.requires.some containers reads at (to_z-of_z w64 c.args.value c.ranges.value)
    (any_reads _ _ (c.args.self.now.looked - c.args.start) _ _ _ _ c.any_next-in-Fields.result (fields_any c.in-Fields.fields (term_at c.args.node) (subst (λ k. IsFormOf nodes k (term_at c.args.node)) c.in-Fields.is c.requires.form)) reads (omega arith) (omega (arith, at)) c.any_next-in-Fields.ensures)
