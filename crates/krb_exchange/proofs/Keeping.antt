-- A window keeps its sendings, when one is closed, leaves or is added.
use Rattle.std.proofs.Common.{◌≡◌, ℕ, ◌+◌, ◌<◌, ◌^◌, arith, List, [], ◌∷◌, ◌++◌, length, set, slice_get, Option, Some, None, sym, ◌∙◌, ap, subst, length-append, length-set}
use Rattle.krb_exchange.specs.declared.sending.Sending.{Sending}
use Rattle.krb_exchange.specs.declared.sending.State.{State}
use Rattle.krb_exchange.specs.declared.window.Window.{Window}
use Rattle.krb_exchange.specs.Happened.{in_state}
use Rattle.krb_exchange.specs.inner.Indexes.{Indexes, Keeps, with_ahead}
use Rattle.krb_exchange.proofs.Windows.{first-ahead, get-few, length-ahead, set-ahead}

module _ (old new : Window) where
  pub left : (first : Sending) (ahead : Option Sending) → old.sendings.items ≡ first ∷ new.sendings.items → new.gone ≡ old.gone + 1 → ((others : List Sending) → Indexes old.index old.gone (first ∷ others) → Indexes new.index (old.gone + 1) others) → Keeps old ahead → Keeps new ahead
  left first ahead items gone u k =
      let all : with_ahead ahead old.sendings.items ≡ first ∷ with_ahead ahead new.sendings.items = ap (λ xs. with_ahead ahead xs) items ∙ first-ahead ahead first new.sendings.items in
      let long : length (with_ahead ahead old.sendings.items) ≡ length (with_ahead ahead new.sendings.items) + 1 = ap (λ xs. length xs) all ∙ omega arith in
      let whole : length old.sendings.items ≡ length new.sendings.items + 1 = ap (λ xs. length xs) items ∙ omega arith in
      record {
        indexes = subst (λ n. Indexes new.index n (with_ahead ahead new.sendings.items)) (sym gone) (u (with_ahead ahead new.sendings.items) (subst (λ xs. Indexes old.index old.gone xs) all k.indexes));
        few = omega (arith, k.few);
        numbers = omega (arith, k.numbers);
      }

  pub closed : (place : ℕ) (one : Sending) (state : State) (ahead : Option Sending) → slice_get old.sendings.items place ≡ Some one → new.sendings.items ≡ set old.sendings.items place (in_state state one) → new.gone ≡ old.gone → Indexes new.index old.gone (set (with_ahead ahead old.sendings.items) place (in_state state one)) → Keeps old ahead → Keeps new ahead
  closed place one state ahead at items gone h k =
      let all : set (with_ahead ahead old.sendings.items) place (in_state state one) ≡ with_ahead ahead new.sendings.items = set-ahead ahead old.sendings.items place (in_state state one) (get-few old.sendings.items place one at) ∙ ap (λ xs. with_ahead ahead xs) (sym items) in
      let long : length (with_ahead ahead new.sendings.items) ≡ length (with_ahead ahead old.sendings.items) = ap (λ xs. length (with_ahead ahead xs)) items ∙ length-ahead ahead old.sendings.items place (in_state state one) in
      let whole : length new.sendings.items ≡ length old.sendings.items = ap (λ xs. length xs) items ∙ length-set old.sendings.items place (in_state state one) in
      record {
        indexes = subst (λ n. Indexes new.index n (with_ahead ahead new.sendings.items)) (sym gone) (subst (λ xs. Indexes new.index old.gone xs) all h);
        few = omega (arith, k.few);
        numbers = omega (arith, k.numbers);
      }

  pub pushed : (one : Sending) → new.sendings.items ≡ old.sendings.items ++ one ∷ [] → new.gone ≡ old.gone → new.index ≡ old.index → length old.sendings.items < 65536 → Keeps old (Some one) → Keeps new None
  pushed one items gone index room k =
      let long : length new.sendings.items ≡ length (old.sendings.items ++ one ∷ []) = ap (λ xs. length xs) items in
      record {
        indexes = subst (λ x. Indexes x new.gone new.sendings.items) (sym index) (subst (λ n. Indexes old.index n new.sendings.items) (sym gone) (subst (λ xs. Indexes old.index old.gone xs) (sym items) k.indexes));
        few = omega (arith, length-append old.sendings.items (one ∷ []));
        numbers = omega (arith, k.numbers);
      }

  pub prepared : (one : Sending) → new.sendings.items ≡ old.sendings.items → new.gone ≡ old.gone → Indexes new.index old.gone (old.sendings.items ++ one ∷ []) → old.gone + length old.sendings.items + 1 < 2 ^ 64 → Keeps old None → Keeps new (Some one)
  prepared one items gone h fits k =
      let long : length (new.sendings.items ++ one ∷ []) ≡ length (old.sendings.items ++ one ∷ []) = ap (λ xs. length (xs ++ one ∷ [])) items in
      let whole : length new.sendings.items ≡ length old.sendings.items = ap (λ xs. length xs) items in
      record {
        indexes = subst (λ n. Indexes new.index n (new.sendings.items ++ one ∷ [])) (sym gone) (subst (λ xs. Indexes new.index old.gone (xs ++ one ∷ [])) (sym items) h);
        few = omega (arith, k.few);
        numbers = omega (arith, length-append old.sendings.items (one ∷ []));
      }
