-- The records that a segment tells, of which there are at most three.
use Rattle.std.proofs.Common.{◌≡◌, List, [], ◌∷◌, ◌++◌, Option, Some, None, refl, sym, ◌∙◌, ap, ap₂, append_assoc, append-nil}
use Rattle.krb_exchange.specs.declared.parties.Header.{Header}
use Rattle.krb_exchange.specs.declared.sending.Moment.{Moment}
use Rattle.krb_record.specs.declared.capture_origin.CaptureOrigin.{CaptureOrigin}
use Rattle.krb_capture.specs.Labels.{Label}
use Rattle.krb_record.specs.declared.told.ToldCounts.{ToldCounts}
use Rattle.krb_capture.specs.Found.{Sent, Written, with_found}
use Rattle.krb_capture.specs.Happened.{Heard, each_counted, moment_of, news_counted, news_line, news_lines, segment_heard}
use Rattle.krb_capture.specs.Told.{heard_in, listed, with_news_if}
use Rattle.krb_capture.specs.declared.happened.Happened.{Happened}
use Rattle.krb_capture.specs.declared.happened.News.{News}

abbrev told : List News → Moment → Happened → Written → Written
told news now happened w = heard_in now (record { news = news; happened = happened }) w

lines-append : (label : Label) (now : Moment) (xs ys : List News) → news_lines label now xs ++ news_lines label now ys ≡ news_lines label now (xs ++ ys)
lines-append label now [] ys = refl
lines-append label now (x ∷ xs) ys = append_assoc (news_line label now x) (news_lines label now xs) (news_lines label now ys) ∙ ap (λ t. news_line label now x ++ t) (lines-append label now xs ys)

counted-append : (xs ys : List News) (counts : ToldCounts) → each_counted ys (each_counted xs counts) ≡ each_counted (xs ++ ys) counts
counted-append [] ys counts = refl
counted-append (x ∷ xs) ys counts = counted-append xs ys (news_counted x counts)

told-append : (xs ys : List News) (now : Moment) (happened : Happened) (w : Written) → told ys now (record happened { counts = each_counted xs happened.counts }) (record w { text = w.text ++ news_lines w.label now xs }) ≡ told (xs ++ ys) now happened w
told-append xs ys now happened w =
    ap₂ (λ t c. record w { text = t; happened = Some (record happened { counts = c }) })
    (append_assoc w.text (news_lines w.label now xs) (news_lines w.label now ys) ∙ ap (λ t. w.text ++ t) (lines-append w.label now xs ys))
    (counted-append xs ys happened.counts)

one-if : (one : Option News) (now : Moment) (happened : Happened) (w : Written) → with_news_if one now (record w { happened = Some happened }) ≡ told (listed one) now happened w
one-if None now happened w = ap (λ t. record w { text = t; happened = Some happened }) (sym (append-nil w.text))
one-if (Some one) now happened w = ap (λ t. record w { text = w.text ++ t; happened = Some (record happened { counts = news_counted one happened.counts }) }) (sym (append-nil (news_line w.label now one)))

next-if : (one : Option News) (xs : List News) (now : Moment) (happened : Happened) (w : Written) → with_news_if one now (told xs now happened w) ≡ told (xs ++ listed one) now happened w
next-if one xs now happened w =
    one-if one now (record happened { counts = each_counted xs happened.counts }) (record w { text = w.text ++ news_lines w.label now xs }) ∙ told-append xs (listed one) now happened w

three-told : (reset silent missed : Option News) (now : Moment) (after : Heard) (w first second third : Written) → first ≡ with_news_if reset now (record w { happened = Some after.happened }) → second ≡ with_news_if silent now first → third ≡ with_news_if missed now second → listed reset ++ listed silent ++ listed missed ≡ after.news → third ≡ heard_in now after w
three-told reset silent missed now after w first second third f s t e =
    t
    ∙ ap (with_news_if missed now) (s ∙ ap (with_news_if silent now) (f ∙ one-if reset now after.happened w) ∙ next-if silent (listed reset) now after.happened w)
    ∙ next-if missed (listed reset ++ listed silent) now after.happened w
    ∙ ap (λ xs. told xs now after.happened w) e

-- they are all that a segment tells
pub segment-told : (header : Header) (origin : CaptureOrigin) (now : Moment) (old new : Happened) (reset silent missed : Option News) (w first second third : Written) → now ≡ moment_of origin → w.happened ≡ Some old → new ≡ (segment_heard header origin old).happened → listed reset ++ listed silent ++ listed missed ≡ (segment_heard header origin old).news → first ≡ with_news_if reset now (record w { happened = Some new }) → second ≡ with_news_if silent now first → third ≡ with_news_if missed now second → third ≡ with_found origin (Sent header) w
segment-told header origin now old new reset silent missed w first second third m h k e f s t =
    three-told reset silent missed now (segment_heard header origin old) w first second third (f ∙ ap (λ x. with_news_if reset now (record w { happened = Some x })) k) s t e
    ∙ ap (λ x. heard_in x (segment_heard header origin old) w) m
    ∙ ap (λ o. with_found origin (Sent header) (record w { happened = o })) (sym h)
