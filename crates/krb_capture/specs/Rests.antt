-- What is left of a packet whose records are not all listed.
use Rattle.std.specs.Prelude.{ℕ, ◌≡◌, List, [], ◌++◌, Option, Some, None, Box}
use Rattle.std.specs.declared.alloc.Global.{Global}
use Rattle.krb_record.specs.declared.capture_origin.CaptureOrigin.{CaptureOrigin}
use Rattle.krb_flow.specs.Window.{Keeps}
use Rattle.krb_capture.specs.Captures.{Finding, Progress, Settings, Taken, counted_each, happened_each, happened_in, lines_of, over_tcp, with_each}
use Rattle.krb_capture.specs.declared.happened.Happened.{Happened}
use Rattle.krb_capture.specs.Directions.{HoldsMaps, HoldsTable, IsKnown, Table, in_flow, kept}
use Rattle.krb_capture.specs.Found.{Found, IsFullIf, Written, with_all}
use Rattle.krb_capture.specs.Labels.{label_in}
use Rattle.krb_capture.specs.Sending.{Sent, end_if}
use Rattle.krb_capture.specs.Streams.{found_with}
use Rattle.krb_capture.specs.Taken.{Took, service_of}
use Rattle.krb_capture.specs.Unlisted.{Unlisted}
use Rattle.krb_capture.specs.declared.capture.Capture.{Capture}
use Rattle.krb_capture.specs.declared.directions.Directions.{Directions}
use Rattle.krb_capture.specs.declared.directions.Rest.{Rest}
use Rattle.krb_capture.specs.declared.flow.Due.{Due}
use Rattle.krb_capture.specs.declared.flow.Service.{Service}
use Rattle.krb_capture.specs.declared.frames.Frames.{Frames}
use Rattle.krb_capture.specs.declared.sending.Sending.{Sending}

-- ---- its frames
-- what is found in octets after a stream, and how the direction ends after them
abbrev pub unlisted_found : Service → ℕ → List ℕ → Unlisted → List Found
unlisted_found service limit stream octets = found_with service limit stream octets.octets ++ end_if service limit (stream ++ octets.octets) octets.end

-- They took a stream but for octets at its end, in which these findings are.
pub record TookBut (taker : Frames) (limit : ℕ) (whole : List ℕ) (octets : Unlisted) (left : List Found) : Type 0 where
  pub stream : List ℕ
  pub parts : stream ++ octets.octets ≡ whole
  pub took : Took taker limit stream
  pub is : left ≡ unlisted_found (service_of taker) limit stream octets

abbrev pub TookSome : Frames → ℕ → List ℕ → Option Unlisted → List Found → Type 0
TookSome taker limit whole None left = Took taker limit whole × (left ≡ [])
TookSome taker limit whole (Some octets) left = TookBut taker limit whole octets left

-- octets after a stream were taken, but for some that are left
pub record Takes (old new : Frames) (limit : ℕ) (stream : List ℕ) (octets : Unlisted) (rest : Option Unlisted) (origin : CaptureOrigin) (before after : Written) : Type 0 where
  pub listed : List Found
  pub left : List Found
  pub parts : unlisted_found (service_of old) limit stream octets ≡ listed ++ left
  pub written : after ≡ with_all origin listed before
  pub service : service_of new ≡ service_of old
  pub took : TookSome new limit (stream ++ octets.octets) rest left
  pub full : IsFullIf rest after.text

-- ---- one direction
-- with frames of at most n octets
pub record RepresentsBut (kept : Sending) (limit : ℕ) (sent : Sent) (octets : Option Unlisted) (left : List Found) : Type 0 where
  pub limit_is : kept.limit ≡ limit
  pub flow : kept.flow ≡ sent.flow
  pub service : kept.service ≡ sent.service
  pub frames : service_of kept.frames ≡ sent.service
  pub state : kept.direction.state ≡ sent.state
  pub keeps : Keeps kept.direction sent.stream
  pub took : TookSome kept.frames limit sent.stream octets left

pub record Sends (kept : Sending) (limit : ℕ) (sent : Sent) (octets : Option Unlisted) (origin : CaptureOrigin) (found : List Found) (before after : Written) : Type 0 where
  pub listed : List Found
  pub left : List Found
  pub parts : found ≡ listed ++ left
  pub written : after ≡ with_all origin listed before
  pub represents : RepresentsBut kept limit sent octets left
  pub full : IsFullIf octets after.text

-- ---- the directions
-- They hold a table but for one direction, of whose segment these findings are left.
pub record HoldsBut (directions : Directions) (limit : ℕ) (table : Table) (due : Due) (rest : Rest) (found : List Finding) : Type 0 where
  pub sent : Sent
  pub others : Table
  pub maps : HoldsMaps directions limit others
  pub none : directions.last ≡ None
  pub known : IsKnown rest.step.began rest.flow rest.last directions.numbers.entries
  pub left : List Found
  pub represents : RepresentsBut rest.last.sending.value limit sent (Some rest.left) left
  pub table_is : table ≡ kept rest.flow rest.last.number rest.step sent others
  pub is : found ≡ over_tcp due (in_flow sent.flow left)

abbrev pub HoldsSome : Directions → ℕ → Table → Due → Option (Box Rest Global) → List Finding → Type 0
HoldsSome directions limit table due None found = HoldsTable directions limit table × (found ≡ [])
HoldsSome directions limit table due (Some rest) found = HoldsBut directions limit table due rest.value found

-- of what is found, the first findings were listed
pub record Follows (directions : Directions) (limit : ℕ) (table : Table) (due : Due) (rest : Option (Box Rest Global)) (found : List Finding) (before after : Written) : Type 0 where
  pub listed : List Finding
  pub left : List Finding
  pub parts : found ≡ listed ++ left
  pub written : after ≡ with_each listed before
  pub holds : HoldsSome directions limit table due rest left
  pub full : IsFullIf rest after.text

-- ---- a capture
-- What it keeps represents a progress, but that these findings are left, which are neither listed nor counted.
pub record HasFollowedBut (capture : Capture) (settings : Settings) (progress : Progress) (rest : Option (Box Rest Global)) (left : List Finding) : Type 0 where
  pub port : capture.port ≡ settings.port
  pub profile : capture.profile ≡ settings.profile
  pub label : label_in capture.listing.style ≡ settings.label
  pub fragments : capture.fragments ≡ progress.fragments
  pub table : HoldsSome capture.directions settings.limit progress.table capture.last rest left
  pub last : capture.last ≡ progress.last
  pub counts : counted_each left capture.listing.counts ≡ progress.counts

-- Of what is found, the first findings were listed, and what happened with them is told; the others are left. If anything is left the text has 64 KiB: so if it had none before, at least one finding was listed.
pub record Lists (was : Option Happened) (capture : Capture) (settings : Settings) (taken : Taken) (rest : Option (Box Rest Global)) (before after : List ℕ) : Type 0 where
  pub listed : List Finding
  pub left : List Finding
  pub parts : taken.found ≡ listed ++ left
  pub text : after ≡ before ++ lines_of settings.label was listed
  pub happened : happened_in capture.happened ≡ happened_each listed was
  pub followed : HasFollowedBut capture settings taken.progress rest left
  pub full : IsFullIf rest after
