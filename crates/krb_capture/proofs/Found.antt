-- What is written of several findings, and what a path and a place of a finding have to do with it.
use Rattle.std.proofs.Common.{◌≡◌, ℕ, ◌<◌, ◌^◌, inl, inr, Bool, true, false, List, [], ◌∷◌, ◌++◌, length, Some, None, refl, sym, ◌∙◌, ap, ap₂, arith}
use Rattle.std.specs.Prelude.{Option, pos, codes, nat_lt, ◌==◌, if◌then◌else◌, take, drop}
use Rattle.std.proofs.lemmas.Bool.{cases_lt, lt-ltb}
use Rattle.krb_der.specs.Octets.{number}
use Rattle.krb_der.specs.Reasons.{reason_number, reason_name}
use Rattle.krb_der.specs.declared.profile.Profile.{Profile}
use Rattle.krb_der.specs.declared.verdict.Refusal.{Refusal}
use Rattle.krb_der.specs.declared.verdict.Verdict.{Verdict}
use Rattle.krb_der.specs.declared.verdict.Verdict.TheVariants as verdict
use Rattle.krb_der.specs.declared.why.Why.TheVariants as why
use Rattle.krb_record.specs.Captures.{captured}
use Rattle.krb_capture.specs.Labels.{Label, is_decoded, line_of}
use Rattle.krb_capture.specs.declared.style.Decoding.{Decoding}
use Rattle.krb_record.specs.Refusals.{extent_in, path_in}
use Rattle.krb_record.specs.Values.{Field, Number, Reason, printed, the}
use Rattle.krb_record.specs.declared.extent.Extent.{Extent}
use Rattle.krb_record.specs.declared.form.Form.{Form}
use Rattle.krb_record.specs.declared.capture_origin.CaptureOrigin.{CaptureOrigin}
use Rattle.krb_msg.specs.Grammar.{messages}
use Rattle.krb_msg.specs.Judgement.{judgement}
use Rattle.krb_msg.proofs.Grammars.{refusal_is_final}
use Rattle.krb_judge.specs.Parses.{refused, refusal_of}
use Rattle.krb_judge.specs.Paths.{message_path}
use Rattle.krb_frame.specs.GoingOn.{Fault}
use Rattle.krb_capture.specs.Happened.{by_part, heard, moment_of, news_lines, news_told, telling, told_of, unread_event}
use Rattle.krb_capture.specs.declared.happened.Happened.{Happened}
use Rattle.krb_capture.specs.Found.{Found, Faulty, Written, counted, found_line, with_all, with_found, written_line}
use Rattle.krb_capture.specs.Messages.{most_octets, path_of}
use Rattle.krb_capture.specs.Streams.{entry_found, extent_at, frame_path}

pub with_all-append : (origin : CaptureOrigin) (xs ys : List Found) (w : Written) → with_all origin (xs ++ ys) w ≡ with_all origin ys (with_all origin xs w)
with_all-append origin [] ys w = refl
with_all-append origin (x ∷ xs) ys w = with_all-append origin xs ys (with_found origin x w)

-- a message is refused at a place of 31 bits
no_refusal : (r : Refusal) → None ≡ Some r → ⊥
no_refusal r e = cc

refused_few : (v : Verdict) (r : Refusal) → ((p : Refusal) → v ≡ verdict.Refused p → p.place < 2 ^ 31) → refused v ≡ Some r → r.place < 2 ^ 31
refused_few verdict.Open r few e = absurd (no_refusal r e)
refused_few verdict.Whole r few e = absurd (no_refusal r e)
refused_few (verdict.Refused p) r few e = let same : p ≡ r = cc in omega (arith, few p refl, ap (λ (x : Refusal). x.place) same)

chosen_few : (long none : Bool) (first second : Refusal) (v : Verdict) (r : Refusal) → first.place ≡ 0 → second.place ≡ 0 → (long ≡ false → (p : Refusal) → v ≡ verdict.Refused p → p.place < 2 ^ 31) → (if long then Some first else if none then Some second else refused v) ≡ Some r → r.place < 2 ^ 31
chosen_few true none first second v r f s few e = let same : first ≡ r = cc in omega (arith, f, ap (λ (x : Refusal). x.place) same)
chosen_few false true first second v r f s few e = let same : second ≡ r = cc in omega (arith, s, ap (λ (x : Refusal). x.place) same)
chosen_few false false first second v r f s few e = refused_few v r (few refl) e

no_true : true ≡ false → ⊥
no_true e = cc

pub place_few : (profile : Profile) (octets : List ℕ) (r : Refusal) → refusal_of profile octets ≡ Some r → r.place < 2 ^ 31
place_few profile octets r e =
    chosen_few (nat_lt 2147483647 (length octets)) (length octets == 0) (record { place = 0; why = why.TooLong }) (record { place = 0; why = why.Empty }) (judgement profile (length octets) octets) r refl refl few e
  where
    few : nat_lt 2147483647 (length octets) ≡ false → (p : Refusal) → judgement profile (length octets) octets ≡ verdict.Refused p → p.place < 2 ^ 31
    few s p j = elim (cases_lt 2147483647 (length octets)) [
      | inl h ↦ absurd (no_true (sym (lt-ltb 2147483647 (length octets) h) ∙ s))
      | inr h ↦ omega (arith, h, (refusal_is_final (messages profile) (length octets) octets p.place p.why (omega arith) j).within)
    ]

-- ---- paths
-- there is none in the octets of a length
none_either : (b : Bool) → ◌≡◌ {A = Option (List ℕ)} (if b then None else None) None
none_either true = refl
none_either false = refl

pub no_path : (profile : Profile) (octets : List ℕ) → drop 4 octets ≡ [] → frame_path profile octets ≡ None
unfolding path_of
no_path profile octets e = ap (λ l. if nat_lt most_octets (number (take 4 octets)) then None else message_path profile (number (take 4 octets)) l) e ∙ none_either (nat_lt most_octets (number (take 4 octets)))

-- the line of a refusal by the fields of its path
abbrev refused_with : Label → CaptureOrigin → Refusal → Extent → List Field → List ℕ
refused_with label origin refusal extent fields =
    line_of label (captured label.form origin (printed (codes "refused") (the (codes "place") (Number (pos refusal.place)) ∷ the (codes "why") (Reason (reason_number refusal.why) (reason_name refusal.why)) ∷ (fields ++ extent_in label.form extent))))

-- paths that a form shows as the same
same_line : (decoding : Option Decoding) (label : Label) (origin : CaptureOrigin) (refusal : Refusal) (p q : Option (List ℕ)) (extent : Extent) → path_in label.form p ≡ path_in label.form q → written_line decoding label origin (Faulty refusal p extent) ≡ written_line decoding label origin (Faulty refusal q extent)
same_line None label origin refusal p q extent e = ap (refused_with label origin refusal extent) e
same_line (Some decoding) label origin refusal p q extent e = ap (λ fields. if is_decoded decoding origin then refused_with label origin refusal extent fields else []) e

pub same_path : (origin : CaptureOrigin) (refusal : Refusal) (p q : Option (List ℕ)) (extent : Extent) (w : Written) → path_in w.label.form p ≡ path_in w.label.form q → with_found origin (Faulty refusal p extent) w ≡ with_found origin (Faulty refusal q extent) w
same_path origin refusal p q extent w e = by w.happened
  where
    same : (from : CaptureOrigin) → found_line w.label from (Faulty refusal p extent) ≡ found_line w.label from (Faulty refusal q extent)
    same from = same_line w.label.decoding w.label from refusal p q extent e

    by : (h : Option Happened) → with_found origin (Faulty refusal p extent) (record w { happened = h }) ≡ with_found origin (Faulty refusal q extent) (record w { happened = h })
    by None = ap (λ (line : List ℕ). record w { text = w.text ++ line; counts = counted (Faulty refusal p extent) w.counts; happened = None }) (same origin)
    by (Some a) = ap (λ (line : List ℕ). record w {
      text = w.text ++ (line ++ news_lines w.label (moment_of origin) (heard (by_part a.parts unread_event) origin a).news);
      counts = counted (Faulty refusal p extent) w.counts;
      happened = Some (news_told (heard (by_part a.parts unread_event) origin a));
    }) (same (telling origin (told_of (by_part a.parts unread_event) origin a.sendings)))

pub refused_listed : (profile : Profile) (origin : CaptureOrigin) (refusal : Refusal) (offset : ℕ) (octets : List ℕ) (form : Form) (shown path : Option (List ℕ)) (extent : Extent) (before after : Written) → form ≡ before.label.form → path_in form shown ≡ path_in form (frame_path profile octets) → path ≡ shown → extent ≡ extent_at offset octets → after ≡ with_found origin (Faulty refusal path extent) before → after ≡ with_found origin (entry_found profile offset (Fault refusal.place refusal.why octets)) before
refused_listed profile origin refusal offset octets form shown path extent before after f e p x l =
    l
    ∙ ap₂ (λ q k. with_found origin (Faulty refusal q k) before) p x
    ∙ same_path origin refusal shown (frame_path profile octets) (extent_at offset octets) before (ap (λ n. path_in n shown) (sym f) ∙ e ∙ ap (λ n. path_in n (frame_path profile octets)) f)
