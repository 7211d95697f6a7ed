-- What is listed with a segment of a direction.
use Rattle.std.proofs.Common.{◌≡◌, ℕ, List, ◌++◌, Option, sym, ◌∙◌, ap, append_assoc}
use Rattle.krb_flow.specs.Directions.{Outcome}
use Rattle.krb_flow.specs.declared.unread.Untaken.{Untaken}
use Rattle.krb_flow.specs.Window.{stream_at}
use Rattle.krb_record.specs.declared.capture_origin.CaptureOrigin.{CaptureOrigin}
use Rattle.krb_capture.specs.Found.{Found, Written, with_all}
use Rattle.krb_capture.specs.Rests.{Takes, TookSome, unlisted_found}
use Rattle.krb_capture.specs.Sending.{beginning_found, end_if, outcome_found, untaken_found}
use Rattle.krb_capture.specs.Unlisted.{Unlisted}
use Rattle.krb_capture.specs.declared.flow.Service.{Service}
use Rattle.krb_capture.specs.declared.frames.Frames.{Frames}
use Rattle.krb_capture.specs.Taken.{service_of}
use Rattle.krb_capture.proofs.Found.{with_all-append}

-- the octets of an outcome, and how the direction ends after them
abbrev pub octets_of : Outcome → Unlisted
octets_of outcome = record { octets = outcome.octets; end = outcome.end }

-- of what is found with a segment, the first findings were listed
pub record ListsOutcome (new : Frames) (service : Service) (limit : ℕ) (stream : List ℕ) (untaken : Untaken) (outcome : Outcome) (rest : Option Unlisted) (origin : CaptureOrigin) (before after : Written) : Type 0 where
  pub listed : List Found
  pub left : List Found
  pub parts : outcome_found service limit stream untaken outcome ≡ listed ++ left
  pub written : after ≡ with_all origin listed before
  pub took : TookSome new limit (stream_at outcome.begins stream ++ outcome.octets) rest left

pub outcome-listed : (origin : CaptureOrigin) (service : Service) (limit : ℕ) (stream : List ℕ) (untaken : Untaken) (outcome : Outcome) (rest : Option Unlisted) (f0 f1 f2 : Frames) (l0 l1 l2 l3 l4 : Written)
    → service_of f0 ≡ service → service_of f1 ≡ service
    → l1 ≡ with_all origin (end_if (service_of f0) limit stream outcome.before) l0
    → l2 ≡ with_all origin (beginning_found outcome.begins) l1
    → l3 ≡ with_all origin (untaken_found untaken) l2
    → Takes f1 f2 limit (stream_at outcome.begins stream) (octets_of outcome) rest origin l3 l4
    → ListsOutcome f2 service limit stream untaken outcome rest origin l0 l4
outcome-listed origin service limit stream untaken outcome rest f0 f1 f2 l0 l1 l2 l3 l4 s0 s1 h1 h2 h3 t = record {
  listed = before ++ (begun ++ (told ++ t.listed));
  left = t.left;
  parts =
      ap (λ s. before ++ (begun ++ (told ++ unlisted_found s limit (stream_at outcome.begins stream) (octets_of outcome)))) (sym s1)
      ∙ ap (λ z. before ++ (begun ++ (told ++ z))) t.parts
      ∙ ap (λ z. before ++ (begun ++ z)) (sym (append_assoc told t.listed t.left))
      ∙ ap (λ z. before ++ z) (sym (append_assoc begun (told ++ t.listed) t.left))
      ∙ sym (append_assoc before (begun ++ (told ++ t.listed)) t.left);
  written =
      t.written
      ∙ ap (λ l. with_all origin t.listed l) (h3 ∙ ap (λ l. with_all origin told l) (h2 ∙ ap (λ l. with_all origin begun l) (h1 ∙ ap (λ s. with_all origin (end_if s limit stream outcome.before) l0) s0)))
      ∙ sym (with_all-append origin told t.listed (with_all origin begun (with_all origin before l0)))
      ∙ sym (with_all-append origin begun (told ++ t.listed) (with_all origin before l0))
      ∙ sym (with_all-append origin before (begun ++ (told ++ t.listed)) l0);
  took = t.took;
}
  where
    before : List Found
    before = end_if service limit stream outcome.before

    begun : List Found
    begun = beginning_found outcome.begins

    told : List Found
    told = untaken_found untaken
