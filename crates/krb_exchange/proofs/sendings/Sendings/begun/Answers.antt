use Rattle.std.proofs.Common.{◌≡◌, true, None, ◌++◌, filter, refl, sym, ◌∙◌, ap}
use Rattle.krb_exchange.specs.declared.sending.State.TheVariants as states
use Rattle.krb_exchange.specs.Happened.{at_place, ended_if, first_place, is_open_request, listed, with_state}
use Rattle.krb_exchange.proofs.Begun.{begun-step, ended-first, ended-none, if-none, same-window}
use Rattle.krb_exchange.proofs.sendings.Sendings.begun.Goals as goal

pub returns-clause-told : goal.returns-clause-told
returns-clause-told c =
    let test = is_open_request c.args.flow (λ _. true) in
    let xs = c.self.inside.window.sendings.items in
    let place : c.first_open-first.result ≡ first_place test xs = c.first_open-first.ensures c.self.invariant in
    let result : c.close.result ≡ at_place (first_place test xs) xs = c.close.ensures.told ∙ ap (λ p. at_place p xs) place in
    let items : c.close.new.self.sendings.items ≡ with_state states.Ended (first_place test xs) xs = c.close.ensures.items ∙ ap (λ p. with_state states.Ended p xs) place in
    let main : listed c.close.result ++ filter test c.close.new.self.sendings.items ≡ filter test xs = ap (λ o. listed o ++ filter test c.close.new.self.sendings.items) result ∙ ap (λ ys. listed (at_place (first_place test xs) xs) ++ filter test ys) items ∙ begun-step test (λ one. refl) xs in
    cc (main, c.self.view_is)

pub returns-clause-window : goal.returns-clause-window
returns-clause-window c =
    let test = is_open_request c.args.flow (λ _. true) in
    let xs = c.self.inside.window.sendings.items in
    let place : c.first_open-first.result ≡ first_place test xs = c.first_open-first.ensures c.self.invariant in
    let items : c.close.new.self.sendings.items ≡ with_state states.Ended (first_place test xs) xs = c.close.ensures.items ∙ ap (λ p. with_state states.Ended p xs) place in
    let main : ended_if test c.close.new.self.sendings.items ≡ ended_if test xs = ap (λ ys. ended_if test ys) items ∙ ended-first test (λ one. refl) xs in
    cc (main, c.self.view_is)

pub returns-clause-none : goal.returns-clause-none
returns-clause-none c =
    let test = is_open_request c.args.flow (λ _. true) in
    let xs = c.self.inside.window.sendings.items in
    let place : c.first_open-first.result ≡ first_place test xs = c.first_open-first.ensures c.self.invariant in
    if-none c.close.result (λ e.
    let none : at_place (first_place test xs) xs ≡ None = sym (c.close.ensures.told ∙ ap (λ p. at_place p xs) place) ∙ e in
    let items : c.close.new.self.sendings.items ≡ xs = c.close.ensures.items ∙ ap (λ p. with_state states.Ended p xs) place ∙ same-window test (λ one. refl) states.Ended (first_place test xs) xs none in
    let main : c.close.new.self.sendings.items ≡ ended_if test xs = items ∙ sym (ended-none test (λ one. refl) xs none) in
    cc (main, c.self.view_is))
