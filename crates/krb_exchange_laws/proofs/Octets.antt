-- Two captures with the same events but for octets, of which two are the same in one where they are in the other, tell the same.
use Rattle.std.proofs.Common.{◌≡◌, ℕ, suc, List, [], ◌∷◌, map, slice_get, Option, Some, None, option_map, refl, sym, ◌∙◌, ap}
use Rattle.std.specs.List.{AllZip}
use Rattle.krb_exchange.specs.Happened.{same_octets}
use Rattle.krb_exchange.specs.declared.fingerprint.Fingerprint.{Fingerprint}
use Rattle.krb_exchange.specs.declared.sending.Moment.{Moment}
use Rattle.krb_exchange.specs.declared.sending.Sending.{Sending}
use Rattle.krb_exchange.specs.declared.sending.What.{What}
use Rattle.krb_exchange.specs.declared.sending.What.TheVariants as whats
use Rattle.krb_exchange_laws.specs.Events.{Begun, Ended, Event, Failed, Heard, Replied, Requested, Sent, Told, heard}
use Rattle.krb_exchange_laws.specs.Laws.{SameOctetsDecide, event_without, octets_in, same_at, same_if, sending_without, told_without, what_without}
use Rattle.krb_exchange_laws.proofs.Alike.{Alikeness, AlikeIf, AreAlike, AreAlikeWhats, IsOneToOne}
use Rattle.krb_exchange_laws.proofs.Unread.{AreAlikeEvents, ToldAlike, told-alike_from}

-- ---- what is alike is the same but for octets
-- octets that are alike, and the same first packets
abbrev alike_octets : (Fingerprint → Fingerprint → Type 0) → Alikeness
alike_octets Q = record { octets = Q; first = λ m n. m ≡ n }

module _ (Q : Fingerprint → Fingerprint → Type 0) where
  abbrev R : Alikeness
  R = alike_octets Q

  what-same : (x y : What) → AreAlikeWhats R x y → what_without x ≡ what_without y
  what-same (whats.Request kind octets) (whats.Request other others) h = ap (λ k. what_without (whats.Request k octets)) h.0
  what-same (whats.Request kind octets) (whats.Syn number) h = absurd h
  what-same (whats.Syn number) (whats.Request kind octets) h = absurd h
  what-same (whats.Syn number) (whats.Syn other) h = ap (λ n. whats.Syn n) h

  sending-same : (x y : Sending) → AreAlike R x y → sending_without x ≡ sending_without y
  sending-same x y h =
      let what : what_without x.what ≡ what_without y.what = what-same x.what y.what h.what in
      λ i. record { flow = h.flow i; what = what i; sent = h.sent i; first = h.first i; state = h.state i }

  one-same : (a b : Option Sending) → AlikeIf (AreAlike R) a b → option_map sending_without a ≡ option_map sending_without b
  one-same None None h = refl
  one-same None (Some y) h = absurd h
  one-same (Some x) None h = absurd h
  one-same (Some x) (Some y) h = ap (λ s. Some s) (sending-same x y h)

  all-same : (xs ys : List Sending) → AllZip (AreAlike R) xs ys → map sending_without xs ≡ map sending_without ys
  all-same [] [] h = refl
  all-same [] (y ∷ ys) h = absurd h
  all-same (x ∷ xs) [] h = absurd h
  all-same (x ∷ xs) (y ∷ ys) h = λ i. sending-same x y h.0 i ∷ all-same xs ys h.1 i

  told-same : (x y : Told) → ToldAlike R x y → told_without x ≡ told_without y
  told-same x y h =
      let answers : option_map sending_without x.answers ≡ option_map sending_without y.answers = one-same x.answers y.answers h.answers in
      let resets : option_map sending_without x.resets ≡ option_map sending_without y.resets = one-same x.resets y.resets h.resets in
      let is_about : option_map sending_without x.is_about ≡ option_map sending_without y.is_about = one-same x.is_about y.is_about h.is_about in
      let missed : map sending_without x.missed ≡ map sending_without y.missed = all-same x.missed y.missed h.missed in
      λ i. record { again = h.again i; answers = answers i; resets = resets i; is_about = is_about i; missed = missed i }

  heard-same : (xs ys : List Heard) → AllZip (λ (one other : Heard). ToldAlike R one.told other.told) xs ys → map (λ (one : Heard). told_without one.told) xs ≡ map (λ (one : Heard). told_without one.told) ys
  heard-same [] [] h = refl
  heard-same [] (y ∷ ys) h = absurd h
  heard-same (x ∷ xs) [] h = absurd h
  heard-same (x ∷ xs) (y ∷ ys) h = λ i. told-same x.told y.told h.0 i ∷ heard-same xs ys h.1 i

  -- ---- events that are the same but for octets
  -- the octets of requests are alike, place by place
  abbrev OctetsAlike : List Event → List Event → Type 0
  OctetsAlike events others = (place : ℕ) (a b : Fingerprint) → slice_get (octets_in events) place ≡ Some a → slice_get (octets_in others) place ≡ Some b → Q a b

  first-alike : (event other : Event) (events others : List Event) → event_without event ≡ event_without other → OctetsAlike (event ∷ events) (other ∷ others) → AreAlikeEvents R event other × OctetsAlike events others
  first-alike (Requested kind flow octets now) (Requested kind' flow' octets' now') events others e r =
      let same : Requested kind' flow' octets' now' ≡ Requested kind flow octets' now = cc in
      ((octets', same, r 0 octets octets' refl refl), λ place a b p q. r (suc place) a b p q)
  first-alike (Replied reply flow now) (Replied reply' flow' now') events others e r = (sym e, r)
  first-alike (Begun flow now) (Begun flow' now') events others e r = (sym e, r)
  first-alike (Sent header flow now) (Sent header' flow' now') events others e r = (sym e, r)
  first-alike (Failed flow now) (Failed flow' now') events others e r = (sym e, r)
  first-alike (Ended now) (Ended now') events others e r = (sym e, r)
  first-alike event other events others e r = absurd cc

  heads : (x y : Event) (xs ys : List Event) → x ∷ xs ≡ y ∷ ys → x ≡ y
  heads x y xs ys e = cc

  tails : (x y : Event) (xs ys : List Event) → x ∷ xs ≡ y ∷ ys → xs ≡ ys
  tails x y xs ys e = cc

  events-alike : (events others : List Event) → map event_without events ≡ map event_without others → OctetsAlike events others → AllZip (AreAlikeEvents R) events others
  events-alike [] [] e r = tt
  events-alike [] (other ∷ others) e r = absurd cc
  events-alike (event ∷ events) [] e r = absurd cc
  events-alike (event ∷ events) (other ∷ others) e r =
      let first = first-alike event other events others (heads (event_without event) (event_without other) (map event_without events) (map event_without others) e) r in
      (first.0, events-alike events others (tails (event_without event) (event_without other) (map event_without events) (map event_without others) e) first.1)

-- ---- the octets of requests, place by place
module _ (octets others : List Fingerprint) (same : (place other : ℕ) → same_at place other octets ≡ same_at place other others) where
  abbrev AtPlace : Fingerprint → Fingerprint → Type 0
  AtPlace a b = (place : ℕ) × (slice_get octets place ≡ Some a) × (slice_get others place ≡ Some b)

  one_to_one : IsOneToOne (alike_octets AtPlace)
  one_to_one a b c d r s =
      let one : same_at r.0 s.0 octets ≡ same_octets a c = ap (λ o. same_if o (slice_get octets s.0)) r.1 ∙ ap (λ o. same_if (Some a) o) s.1 in
      let two : same_at r.0 s.0 others ≡ same_octets b d = ap (λ o. same_if o (slice_get others s.0)) r.2 ∙ ap (λ o. same_if (Some b) o) s.2 in
      sym one ∙ same r.0 s.0 ∙ two

  -- what is told of events whose octets are alike
  told-without : (events others : List Event) → AllZip (AreAlikeEvents (alike_octets AtPlace)) events others → map (λ (one : Heard). told_without one.told) (heard events) ≡ map (λ (one : Heard). told_without one.told) (heard others)
  told-without events others h = heard-same AtPlace (heard events) (heard others) (told-alike_from (alike_octets AtPlace) one_to_one (λ m. refl) (λ m n e. ap (λ (k : Moment). k.packet) e) events others [] [] h tt)

pub same_octets_decide : SameOctetsDecide
same_octets_decide events others e same =
    let octets = octets_in events in
    let other = octets_in others in
    told-without octets other same events others (events-alike (AtPlace octets other same) events others e (λ place a b p q. (place, p, q)))
