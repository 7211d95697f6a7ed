-- Where the octets lie of the records that octets are listed as, and what C is given of it.
use Rattle.std.specs.Prelude.{ℕ, ◌≡◌, ◌+◌, ◌≤◌, ◌⊎◌, Bool, true, false, if◌then◌else◌, List, [], ◌∷◌, length}
use Rattle.krb_capture.specs.Labels.{of_records}
use Rattle.krb_capture_run.specs.Captures.{capture_listing}
use Rattle.krb_der.specs.declared.profile.Profile.{Profile}
use Rattle.krb_input.specs.Sources.{command_for}
use Rattle.krb_input.specs.declared.source_kind.SourceKind.{SourceKind}
use Rattle.krb_input.specs.declared.source_kind.SourceKind.TheVariants as kind
use Rattle.krb_record.specs.Labels.{no_label}
use Rattle.krb_record.specs.declared.form.Form.TheVariants.{NamedLines}
use Rattle.krb_run.specs.declared.run.RunEnd.{RunEnd}
use Rattle.krb_run.specs.declared.run.RunEnd.TheVariants as run
use Rattle.krb_c.specs.FileSpans.{ccache_spans, keytab_spans}
use Rattle.krb_c.specs.Spans.{Spanned, message_spans, stream_spans}
use Rattle.krb_c.specs.Written.{IsCopied, WroteNothing}

-- ---- a capture: all are in the file, and it is clean as its listing is; which octets are whose is not said
abbrev pub AreWithin : (all : ℕ) → (numbers : List ℕ) → Type 0
AreWithin all [] = Unit {0}
AreWithin all (begin ∷ []) = ⊥
AreWithin all (begin ∷ size ∷ numbers) = (begin + size ≤ all) × AreWithin all numbers

abbrev pub is_clean : RunEnd → Bool
is_clean run.Clean = true
is_clean run.Refused = false
is_clean run.RefusedAtOnce = false

pub record AreOfCapture (profile : Profile) (limit port : ℕ) (octets : List ℕ) (found : Spanned) : Type 0 where
  pub within : AreWithin (length octets) found.numbers
  pub clean : found.clean ≡ is_clean (capture_listing (record { label = of_records (no_label NamedLines); profile = profile; limit = limit; port = port }) octets).end

-- ---- by what octets are
abbrev pub AreOf : SourceKind → Profile → (limit : ℕ) → (goes_on : Bool) → (port : ℕ) → (octets : List ℕ) → Spanned → Type 0
AreOf kind.Stream profile limit goes_on port octets found = found ≡ stream_spans profile limit goes_on octets
AreOf kind.Message profile limit goes_on port octets found = found ≡ message_spans profile octets
AreOf kind.Keytab profile limit goes_on port octets found = found ≡ keytab_spans octets
AreOf kind.Ccache profile limit goes_on port octets found = found ≡ ccache_spans octets
AreOf kind.Capture profile limit goes_on port octets found = AreOfCapture profile limit port octets found

abbrev pub AreSpans : Profile → (limit : ℕ) → (goes_on : Bool) → (port : ℕ) → (octets : List ℕ) → Spanned → Type 0
AreSpans profile limit goes_on port octets found = AreOf (command_for octets) profile limit goes_on port octets found

-- ---- numbers that are copied: 0 if nothing is refused, and else 1
pub record WroteSpans (IsFound : Spanned → Type 0) (before after : List ℕ) (size_after answer : ℕ) : Type 0 where
  pub found : Spanned
  pub is : IsFound found
  pub copied : IsCopied found.numbers before after size_after
  pub answered : answer ≡ (if found.clean then 0 else 1)

abbrev pub AreGiven : (IsFound : Spanned → Type 0) → (before after : List ℕ) → (size_before size_after answer : ℕ) → Type 0
AreGiven IsFound before after size_before size_after answer = WroteNothing before after size_before size_after answer ⊎ WroteSpans IsFound before after size_after answer
