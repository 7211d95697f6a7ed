-- The last octets that a direction keeps, once it took more and once it ended.
use Rattle.std.proofs.Common.{◌≡◌, ℕ, ◌≤◌, Bool, true, false, Some, None, List, ◌++◌, refl, sym, ap, ap₂, ◌∙◌, arith}
use Rattle.std.specs.Global.{Vec}
use Rattle.krb_packet.specs.declared.contents.Segment.{Segment}
use Rattle.krb_der.specs.Octets.{when}
use Rattle.krb_flow.specs.Directions.{Delivery, deliver, ending, goes_on, had, is_over}
use Rattle.krb_flow.specs.Progress.{Progress}
use Rattle.krb_flow.specs.Window.{Keeps, kept_in, last, most_kept, recent}
use Rattle.krb_flow.specs.declared.direction.Direction.{Direction}
use Rattle.krb_flow.specs.declared.direction.State.{State}
use Rattle.krb_flow.specs.declared.direction.State.TheVariants.{Fresh, Open, Ended}
use Rattle.krb_flow.specs.declared.had.Had.{Had}
use Rattle.krb_flow.specs.declared.window.Window.{Window}
use Rattle.krb_flow.proofs.Windows.{last_more, last_same}

at_least : (state : State) → 4096 ≤ most_kept state
at_least Fresh = omega arith
at_least (Open progress) = omega arith
at_least (Ended had) = omega arith

-- the last 4096 of them
pub kept_after : (window : Window) (direction : Direction) (stream : List ℕ) → window.most ≡ 4096 → window.octets ≡ direction.window.octets → Keeps direction stream → kept_in window ≡ last 4096 stream
kept_after window direction stream m o k =
    let enough : 4096 ≤ direction.window.most = omega (arith, k.most, at_least direction.state) in
    ap₂ (λ (n : ℕ) (v : Vec ℕ). last n v.items) m o
    ∙ last_same direction.window.most 4096 direction.window.octets.items stream enough (k.octets ∙ ap (λ (n : ℕ). last n stream) (sym k.most))

pub keeps_ended : (old new : Direction) (had : Had) (stream : List ℕ) → new.state ≡ Ended had → new.window.most ≡ 4096 → new.window.octets ≡ old.window.octets → Keeps old stream → Keeps new stream
keeps_ended old new had stream s m o k = record {
  most = m ∙ ap most_kept (sym s);
  octets = kept_after new.window old stream m o k ∙ ap (λ (state : State). recent state stream) (sym s);
}

-- it took more, and is still open
pub keeps_more : (old new : Direction) (before after : Progress) (stream more : List ℕ) → old.state ≡ Open before → new.state ≡ Open after → new.window.most ≡ old.window.most → kept_in new.window ≡ last old.window.most (kept_in old.window ++ more) → Keeps old stream → Keeps new (stream ++ more)
keeps_more old new before after stream more s s' m o k =
    let most_is : old.window.most ≡ most_kept new.state = k.most ∙ ap most_kept s ∙ sym (ap most_kept s') in
    record {
      most = m ∙ most_is;
      octets =
          o
          ∙ last_more old.window.most (kept_in old.window) stream more (k.octets ∙ ap (λ (n : ℕ). last n stream) (sym k.most))
          ∙ ap (λ (n : ℕ). last n (stream ++ more)) most_is;
    }

-- the octets that are delivered
pub goes : (state : State) (progress : Progress) (segment : Segment) → state ≡ Open progress → (goes_on state segment).0 ≡ (deliver progress segment).0
goes state progress segment s = ap (λ (x : State). (goes_on x segment).0) s ∙ by (is_over (deliver progress segment).1)
  where
    by : (b : Bool) → (when {A = Delivery} b (λ _. ((deliver progress segment).0, Some (ending (deliver progress segment).1), Ended (had (deliver progress segment).1))) (λ _. ((deliver progress segment).0, None, Open (deliver progress segment).1))).0 ≡ (deliver progress segment).0
    by true = refl
    by false = refl
