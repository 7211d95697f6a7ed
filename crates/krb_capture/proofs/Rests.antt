-- What is left of octets, of a segment and of a packet.
use Rattle.std.proofs.Common.{◌≡◌, ℕ, List, [], ◌++◌, Option, Some, None, refl, sym, ◌∙◌, ap, subst, append_assoc, append-nil}
use Rattle.krb_flow.specs.declared.stream.End.{End}
use Rattle.krb_record.specs.declared.capture_origin.CaptureOrigin.{CaptureOrigin}
use Rattle.krb_capture.specs.Found.{Found, IsFull, Written, with_all}
use Rattle.krb_capture.specs.Rests.{Takes, TookSome, unlisted_found}
use Rattle.krb_capture.specs.Sending.{end_if}
use Rattle.krb_capture.specs.Streams.{found_with}
use Rattle.krb_capture.specs.Taken.{Took, service_of}
use Rattle.krb_capture.specs.Unlisted.{Unlisted}
use Rattle.krb_capture.specs.declared.frames.Frames.{Frames}
use Rattle.krb_capture.proofs.Prefixes.{found_with-both, found_with-none}
use Rattle.krb_capture.proofs.Found.{with_all-append}

abbrev pub unlisted : Option End → List ℕ → Unlisted
unlisted end octets = record { octets = octets; end = end }

-- ---- the first octets were taken
module _ (origin : CaptureOrigin) (old mid : Frames) (limit : ℕ) (stream xs ys : List ℕ) (end : Option End) (l0 l1 : Written) (t : Took old limit stream) (u : Took mid limit (stream ++ xs)) (s : service_of mid ≡ service_of old) (h : l1 ≡ with_all origin (found_with (service_of old) limit stream xs) l0) where
  abbrev pub all : Unlisted
  all = record { octets = xs ++ ys; end = end }

  abbrev pub others : Unlisted
  others = record { octets = ys; end = end }

  abbrev first : List Found
  first = found_with (service_of old) limit stream xs

  abbrev later : List Found
  later = unlisted_found (service_of mid) limit (stream ++ xs) others

  split : unlisted_found (service_of old) limit stream all ≡ first ++ later
  split =
      ap (λ f. f ++ end_if (service_of old) limit (stream ++ (xs ++ ys)) end) (found_with-both (service_of old) limit stream xs ys)
      ∙ append_assoc first (found_with (service_of old) limit (stream ++ xs) ys) (end_if (service_of old) limit (stream ++ (xs ++ ys)) end)
      ∙ ap (λ z. first ++ (found_with (service_of old) limit (stream ++ xs) ys ++ end_if (service_of old) limit z end)) (sym (append_assoc stream xs ys))
      ∙ ap (λ v. first ++ unlisted_found v limit (stream ++ xs) others) (sym s)

  -- and the others are left
  pub takes-first : IsFull l1.text → Takes old mid limit stream all (Some others) origin l0 l1
  takes-first full = record {
    listed = first;
    left = later;
    parts = split;
    written = h;
    service = s;
    took = record { stream = stream ++ xs; parts = append_assoc stream xs ys; took = u; is = refl };
    full = full;
  }

  -- or there are none
  pub takes-last : (l2 : Written) → ys ≡ [] → l2 ≡ with_all origin (end_if (service_of mid) limit (stream ++ xs) end) l1 → Takes old mid limit stream all None origin l0 l2
  takes-last l2 none e = record {
    listed = first ++ end_if (service_of mid) limit (stream ++ xs) end;
    left = [];
    parts =
        split
        ∙ ap (λ z. first ++ (z ++ end_if (service_of mid) limit ((stream ++ xs) ++ ys) end)) (ap (found_with (service_of mid) limit (stream ++ xs)) none ∙ found_with-none (service_of mid) limit (stream ++ xs))
        ∙ ap (λ z. first ++ end_if (service_of mid) limit z end) (ap (λ z. (stream ++ xs) ++ z) none ∙ append-nil (stream ++ xs))
        ∙ sym (append-nil (first ++ end_if (service_of mid) limit (stream ++ xs) end));
    written = e ∙ ap (λ l. with_all origin (end_if (service_of mid) limit (stream ++ xs) end) l) h ∙ sym (with_all-append origin first (end_if (service_of mid) limit (stream ++ xs) end) l0);
    service = s;
    took = (subst (Took mid limit) (ap (λ z. stream ++ z) (sym (append-nil xs) ∙ ap (λ z. xs ++ z) (sym none))) u, refl);
    full = tt;
  }

  -- or some of the others were taken, too
  pub takes-more : (new : Frames) (rest : Option Unlisted) (l2 : Written) → Takes mid new limit (stream ++ xs) others rest origin l1 l2 → Takes old new limit stream all rest origin l0 l2
  takes-more new rest l2 m = record {
    listed = first ++ m.listed;
    left = m.left;
    parts = split ∙ ap (λ z. first ++ z) m.parts ∙ sym (append_assoc first m.listed m.left);
    written = m.written ∙ ap (λ l. with_all origin m.listed l) h ∙ sym (with_all-append origin first m.listed l0);
    service = m.service ∙ s;
    took = subst (λ z. TookSome new limit z rest m.left) (append_assoc stream xs ys) m.took;
    full = m.full;
  }
