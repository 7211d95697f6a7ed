-- Which places are found in windows that are alike.
use Rattle.std.proofs.Common.{◌≡◌, Bool, true, ◌&&◌, List, refl, ◌∙◌, ap}
use Rattle.std.specs.List.{AllZip}
use Rattle.krb_record.specs.declared.flow.Flow.{Flow}
use Rattle.krb_record.specs.declared.flow.Transport.{Transport}
use Rattle.krb_record.specs.declared.flow.Transport.TheVariants as transports
use Rattle.krb_record.specs.declared.told.Request.{Request}
use Rattle.krb_exchange.specs.Happened.{answered_over, before_of, erred, first_place, fits, has_octets, is_open, is_open_request, is_request, is_syn, is_syn_of, later_place, latest_place, latest_syn, open_syn, replaced_over, same_flow, same_kind}
use Rattle.krb_exchange.specs.declared.fingerprint.Fingerprint.{Fingerprint}
use Rattle.krb_exchange.specs.declared.parties.Reply.{Reply}
use Rattle.krb_exchange.specs.declared.sending.Sending.{Sending}
use Rattle.krb_exchange_laws.proofs.Alike.{Alikeness, AlikeIf, AreAlike, IsOneToOne, agree-octets, agree-open, agree-request, agree-syn, at-alike, first-alike, if-alike, latest-alike}

module _ (R : Alikeness) where
  -- ---- tests of flows
  pub open-request : (flow : Flow) (pass : Request → Bool) (x y : Sending) → AreAlike R x y → is_open_request flow pass x ≡ is_open_request flow pass y
  open-request flow pass x y h =
      ap (λ b. b && (is_request pass x.what && same_flow flow x.flow)) (agree-open R x y h)
      ∙ ap (λ b. is_open y.state && (b && same_flow flow x.flow)) (agree-request R pass x y h)
      ∙ ap (λ f. is_open y.state && (is_request pass y.what && same_flow flow f)) h.flow

  syn-of : (flow : Flow) (x y : Sending) → AreAlike R x y → is_syn_of flow x ≡ is_syn_of flow y
  syn-of flow x y h = ap (λ b. b && same_flow flow x.flow) (agree-syn R x y h) ∙ ap (λ f. is_syn y.what && same_flow flow f) h.flow

  module _ (xs ys : List Sending) (alike : AllZip (AreAlike R) xs ys) where
    -- ---- places
    pub latest-open : (flow : Flow) (pass : Request → Bool) → latest_place (is_open_request flow pass) xs ≡ latest_place (is_open_request flow pass) ys
    latest-open flow pass = latest-alike R (is_open_request flow pass) (is_open_request flow pass) (open-request flow pass) xs ys alike

    pub first-open : (flow : Flow) (pass : Request → Bool) → first_place (is_open_request flow pass) xs ≡ first_place (is_open_request flow pass) ys
    first-open flow pass = first-alike R (is_open_request flow pass) (is_open_request flow pass) (open-request flow pass) xs ys alike

    pub same-syn : (flow : Flow) → latest_syn flow xs ≡ latest_syn flow ys
    same-syn flow = latest-alike R (is_syn_of flow) (is_syn_of flow) (syn-of flow) xs ys alike

    pub same-open_syn : (flow : Flow) → open_syn flow xs ≡ open_syn flow ys
    same-open_syn flow = if-alike R (λ one. is_open one.state) (λ one. is_open one.state) (agree-open R) xs ys alike (latest_syn flow xs) (latest_syn flow ys) (same-syn flow)

    pub same-answered : (transport : Transport) (reply : Reply) (flow : Flow) → answered_over transport reply flow xs ≡ answered_over transport reply flow ys
    same-answered transports.Udp reply flow = latest-open flow (fits reply)
    same-answered transports.Tcp reply flow =
        let any = is_open_request flow (λ _. true) in
        if-alike R (λ one. is_request (fits reply) one.what) (λ one. is_request (fits reply) one.what) (agree-request R (fits reply)) xs ys alike (first_place any xs) (first_place any ys) (first-open flow (λ _. true))

    pub same-erred : (flow : Flow) → erred flow xs ≡ erred flow ys
    same-erred flow = ap (λ p. later_place p (open_syn flow xs)) (latest-open flow (λ _. true)) ∙ ap (λ p. later_place (latest_place (is_open_request flow (λ _. true)) ys) p) (same-open_syn flow)

    module _ (one_to_one : IsOneToOne R) where
      pub same-replaced : (transport : Transport) (kind : Request) (flow : Flow) (a b : Fingerprint) → R.octets a b → replaced_over transport kind flow a xs ≡ replaced_over transport kind flow b ys
      same-replaced transports.Tcp kind flow a b r = refl
      same-replaced transports.Udp kind flow a b r =
          let test = is_open_request flow (same_kind kind) in
          if-alike R (λ one. has_octets a one.what) (λ one. has_octets b one.what) (agree-octets R one_to_one a b r) xs ys alike (latest_place test xs) (latest_place test ys) (latest-open flow (same_kind kind))

      pub before-alike : (a b : Fingerprint) → R.octets a b → AlikeIf (AreAlike R) (before_of a xs) (before_of b ys)
      before-alike a b r =
          let test = λ (one : Sending). has_octets a one.what in
          let other = λ (one : Sending). has_octets b one.what in
          at-alike R xs ys alike (latest_place test xs) (latest_place other ys) (latest-alike R test other (agree-octets R one_to_one a b r) xs ys alike)
