-- What is written of what happened, step by step: what is told in the origin of a record stands before what is remembered after it.
use Rattle.std.specs.Prelude.{ℕ, ◌≡◌, ◌+◌, [], ◌∷◌, ◌++◌, List, Bool, Option, Some, None}
use Rattle.krb_der.specs.declared.profile.Profile.{Profile}
use Rattle.krb_exchange.specs.declared.sending.Moment.{Moment}
use Rattle.krb_frame.specs.Deliveries.{IsReceived}
use Rattle.krb_record.specs.declared.capture_origin.CaptureOrigin.{CaptureOrigin}
use Rattle.krb_capture.specs.Found.{Found, Written, counted, found_line}
use Rattle.krb_capture.specs.Happened.{Heard, begun_heard, by_part, end_news, heard, moment_of, news_counted, news_line, news_lines, news_told, part_count, password_event, telling, told_of, unread_event}
use Rattle.krb_capture.specs.Streams.{entry_found}
use Rattle.krb_capture.specs.declared.happened.Event.{Event}
use Rattle.krb_capture.specs.declared.happened.Happened.{Happened}
use Rattle.krb_capture.specs.declared.happened.News.{News}

-- a record of an origin as it is, of which nothing is remembered yet
abbrev pub with_line : CaptureOrigin → Found → Written → Written
with_line origin found written = record written { text = written.text ++ found_line written.label origin found; counts = counted found written.counts }

-- a message of an origin as it is was listed, if octets are one of a profile, and else nothing
abbrev pub IsListedAs : Profile → List ℕ → CaptureOrigin → Written → Written → Bool → Type 0
IsListedAs profile octets origin = IsReceived (λ old entry new. new ≡ with_line origin (entry_found profile 0 entry) old) profile octets

abbrev pub unread_origin : CaptureOrigin → Option Happened → CaptureOrigin
unread_origin origin None = origin
unread_origin origin (Some happened) = telling origin (told_of (by_part happened.parts unread_event) origin happened.sendings)

abbrev pub password_origin : CaptureOrigin → List ℕ → List ℕ → Option Happened → CaptureOrigin
password_origin origin octets ap None = origin
password_origin origin octets ap (Some happened) = telling origin (told_of (password_event octets ap) origin happened.sendings)

-- the records that are told are written and counted
abbrev pub heard_in : Moment → Heard → Written → Written
heard_in now after written = record written { text = written.text ++ news_lines written.label now after.news; happened = Some (news_told after) }

abbrev pub event_in : Event → CaptureOrigin → Option Happened → Written → Written
event_in event origin None written = written
event_in event origin (Some happened) written = heard_in (moment_of origin) (heard event origin happened) written

abbrev pub with_event : Event → CaptureOrigin → Written → Written
with_event event origin written = event_in event origin written.happened written

abbrev pub unread_in : CaptureOrigin → Option Happened → Written → Written
unread_in origin None written = written
unread_in origin (Some happened) written = heard_in (moment_of origin) (heard (by_part happened.parts unread_event) origin happened) written

abbrev pub with_unread : CaptureOrigin → Written → Written
with_unread origin written = unread_in origin written.happened written

-- one of these records
abbrev pub news_in : News → Moment → Option Happened → Written → Written
news_in news now None written = written
news_in news now (Some happened) written = record written {
  text = written.text ++ news_line written.label now news;
  happened = Some (record happened { counts = news_counted news happened.counts });
}

abbrev pub with_news : News → Moment → Written → Written
with_news news now written = news_in news now written.happened written

-- or one, if there is one
abbrev pub with_news_if : Option News → Moment → Written → Written
with_news_if None now written = written
with_news_if (Some news) now written = with_news news now written

abbrev pub parts_in : ℕ → ℕ → Option Happened → Option Happened
parts_in ap rest None = None
parts_in ap rest (Some happened) = Some (record happened { parts = part_count ap + part_count rest })

abbrev pub with_parts_of : ℕ → ℕ → Written → Written
with_parts_of ap rest written = record written { happened = parts_in ap rest written.happened }

-- ---- one of several is taken out
abbrev pub begun_news : CaptureOrigin → Option Happened → List News
begun_news origin None = []
begun_news origin (Some happened) = (begun_heard origin happened).news

abbrev pub begun_left : CaptureOrigin → Option Happened → Option Happened
begun_left origin None = None
begun_left origin (Some happened) = Some (begun_heard origin happened).happened

abbrev pub listed : Option News → List News
listed None = []
listed (Some one) = one ∷ []

abbrev pub HaveSameCounts : Option Happened → Option Happened → Type 0
HaveSameCounts None None = Unit {0}
HaveSameCounts None (Some new) = ⊥
HaveSameCounts (Some old) None = ⊥
HaveSameCounts (Some old) (Some new) = new ≡ record old { sendings = new.sendings }

-- if there is none, nothing else is left
abbrev pub IsLastBegun : Option News → CaptureOrigin → Written → Written → Type 0
IsLastBegun None origin old new = new.happened ≡ begun_left origin old.happened
IsLastBegun (Some news) origin old new = Unit {0}

pub record TakesBegun (result : Option News) (origin : CaptureOrigin) (old new : Written) : Type 0 where
  pub same : new ≡ record old { happened = new.happened }
  pub counts : HaveSameCounts old.happened new.happened
  pub next : listed result ++ begun_news origin new.happened ≡ begun_news origin old.happened
  pub left : begun_left origin new.happened ≡ begun_left origin old.happened
  pub last : IsLastBegun result origin old new

abbrev pub open_news : Option Happened → List News
open_news None = []
open_news (Some happened) = end_news happened

abbrev pub IsLastOpen : Option News → Written → Type 0
IsLastOpen None old = open_news old.happened ≡ []
IsLastOpen (Some news) old = Unit {0}

pub record TakesEnded (result : Option News) (old new : Written) : Type 0 where
  pub same : new ≡ record old { happened = new.happened }
  pub counts : HaveSameCounts old.happened new.happened
  pub next : listed result ++ open_news new.happened ≡ open_news old.happened
  pub last : IsLastOpen result old
