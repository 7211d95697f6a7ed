-- What a capture keeps after what is found is listed.
use Rattle.std.proofs.Common.{◌≡◌, ◌⊎◌, inl, inr, ℕ, true, false, List, [], ◌∷◌, ◌++◌, Option, Some, None, Box, refl, sym, ◌∙◌, ap, ap₂, subst, append_assoc, append-nil}
use Rattle.std.specs.Prelude.{is_some}
use Rattle.std.specs.declared.alloc.Global.{Global}
use Rattle.krb_packet.specs.Fragments.{unread}
use Rattle.krb_packet.specs.Table.{Table}
use Rattle.krb_capture.specs.declared.flow.Due.{Due}
use Rattle.krb_packet.specs.declared.contents.Contents.{Contents}
use Rattle.krb_packet.specs.declared.contents.Contents.TheVariants as kinds
use Rattle.krb_packet.specs.declared.contents.Datagram.{Datagram}
use Rattle.krb_packet.specs.declared.contents.Fragment.{Fragment}
use Rattle.krb_packet.specs.declared.contents.Segment.{Segment}
use Rattle.krb_record.specs.declared.capture.CaptureCounts.{CaptureCounts}
use Rattle.krb_capture.specs.Labels.{Label, label_in}
use Rattle.krb_record.specs.declared.capture_origin.CaptureOrigin.{CaptureOrigin}
use Rattle.krb_record.specs.declared.flow.Transport.TheVariants as transports
use Rattle.krb_capture.specs.Captures.{Finding, HasEnded, HasFollowed, Progress, Settings, Taken, all_counts, and_counted, contents_event, contents_taken, counted_each, datagram_taken, end_taken, error_event, failure_of, happened_each, happened_in, last_counts, last_lines, lines_of, nothing_in, over_tcp, over_udp, quoted_transport, segment_event, segment_taken, unread_taken, whole_event, whole_taken, with_each, with_event}
use Rattle.krb_capture.specs.Datagrams.{all_found}
use Rattle.krb_capture.specs.Directions.{HoldsTable, followed, last_of}
use Rattle.krb_capture.specs.Flows.{moment_due, origin_of, service_of}
use Rattle.krb_capture.specs.Found.{Failed, IsFullIf, Written, counted, totals, with_all, with_found}
use Rattle.krb_capture.specs.Ends.{IsEnded, told_in}
use Rattle.krb_capture.specs.Happened.{end_counts, end_lines}
use Rattle.krb_capture.specs.Rests.{Follows, HasFollowedBut, HoldsSome, Lists}
use Rattle.krb_capture.specs.declared.capture.Capture.{Capture}
use Rattle.krb_capture.specs.declared.happened.Happened.{Happened}
use Rattle.krb_record.specs.declared.told.ToldCounts.{ToldCounts}
use Rattle.krb_packet.specs.declared.contents.IcmpError.{IcmpError}
use Rattle.krb_record.specs.declared.unreachable.IcmpError.{IcmpError as Failure}
use Rattle.krb_capture.specs.declared.directions.Rest.{Rest}
use Rattle.krb_capture.specs.declared.flow.Service.{Service}
use Rattle.krb_capture.proofs.Written.{counts-each, happened-each, label-each, name-each, text-each, with_each-datagram}

-- ---- a call lends its text to a listing, with the tally of the capture
abbrev pub lent : Capture → List ℕ → ℕ → Written
lent capture text name = record { label = label_in capture.listing.style; text = text; counts = capture.listing.counts; happened = happened_in capture.happened; text_name = name }

-- what was written is the tally of a capture again, and the text of the caller
pub record IsBack (old capture : Capture) (written : Written) (text : List ℕ) : Type 0 where
  pub label : (label_in capture.listing.style) ≡ (label_in old.listing.style)
  pub counts : capture.listing.counts ≡ written.counts
  pub happened : happened_in capture.happened ≡ written.happened
  pub is : text ≡ written.text

-- the text that is written stays that of the caller
pub same-text : (found : List Finding) (before after : Written) → after ≡ with_each found before → after.text_name ≡ before.text_name
same-text found before after e = ap (λ w. w.text_name) e ∙ name-each found before

-- findings are listed and counted, and what happened with them is told
pub record Steps (old new : Capture) (found : List Finding) (before after : List ℕ) : Type 0 where
  pub label : (label_in new.listing.style) ≡ (label_in old.listing.style)
  pub counts : new.listing.counts ≡ counted_each found old.listing.counts
  pub happened : happened_in new.happened ≡ happened_each found (happened_in old.happened)
  pub text : after ≡ before ++ lines_of (label_in old.listing.style) (happened_in old.happened) found

pub steps : (old new : Capture) (found : List Finding) (before after : List ℕ) (name : ℕ) (written : Written) → written ≡ with_each found (lent old before name) → IsBack old new written after → Steps old new found before after
steps old new found before after name written e b = record {
  label = b.label;
  counts = b.counts ∙ ap (λ w. w.counts) e ∙ counts-each found (lent old before name);
  happened = b.happened ∙ ap (λ w. w.happened) e ∙ happened-each found (lent old before name);
  text = b.is ∙ ap (λ w. w.text) e ∙ text-each found (lent old before name);
}

-- all of it was listed
pub lists-whole : (was : Option Happened) (new : Capture) (settings : Settings) (taken : Taken) (before after : List ℕ) → HasFollowed new settings taken.progress → happened_in new.happened ≡ happened_each taken.found was → after ≡ before ++ lines_of settings.label was taken.found → Lists was new settings taken None before after
lists-whole was new settings taken before after h w e = record {
  listed = taken.found;
  left = [];
  parts = sym (append-nil taken.found);
  text = e;
  happened = w;
  followed = record { profile = h.profile; port = h.port; label = h.label; fragments = h.fragments; table = (h.table, refl); last = h.last; counts = h.counts };
  full = tt;
}

counted-append : (xs ys : List Finding) (counts : CaptureCounts) → counted_each (xs ++ ys) counts ≡ counted_each ys (counted_each xs counts)
counted-append [] ys counts = refl
counted-append (x ∷ xs) ys counts = counted-append xs ys (counted x.1 counts)

-- findings are listed, and others are left
pub lists-found : (old new : Capture) (settings : Settings) (progress : Progress) (rest : Option (Box Rest Global)) (found : List Finding) (before after : List ℕ) (name : ℕ) (written : Written) → Follows new.directions settings.limit progress.table progress.last rest found (lent old before name) written → IsBack old new written after → (label_in old.listing.style) ≡ settings.label → counted_each found old.listing.counts ≡ progress.counts → new.profile ≡ settings.profile → new.port ≡ settings.port → new.fragments ≡ progress.fragments → new.last ≡ progress.last → Lists (happened_in old.happened) new settings (record { found = found; progress = progress }) rest before after
lists-found old new settings progress rest found before after name written f b o c q p g l =
    let s = steps old new f.listed before after name written f.written b in
    record {
      listed = f.listed;
      left = f.left;
      parts = f.parts;
      text = s.text ∙ ap (λ x. before ++ lines_of x (happened_in old.happened) f.listed) o;
      happened = s.happened;
      full = subst (λ t. IsFullIf rest t) (sym b.is) f.full;
      followed = record {
        profile = q;
        port = p;
        label = s.label ∙ o;
        fragments = g;
        table = subst (λ due. HoldsSome new.directions settings.limit progress.table due rest f.left) (sym l) f.holds;
        last = l;
        counts =
            ap (λ x. counted_each f.left x) s.counts
            ∙ sym (counted-append f.listed f.left old.listing.counts)
            ∙ ap (λ xs. counted_each xs old.listing.counts) (sym f.parts)
            ∙ c;
      };
    }

-- with a datagram
pub datagram-lists : (old new : Capture) (settings : Settings) (progress : Progress) (service : Service) (datagram : Datagram) (origin : CaptureOrigin) (before after : List ℕ) (name : ℕ) (written : Written) → HasFollowed old settings progress → service_of old.profile old.port datagram.source datagram.target ≡ Some service → origin ≡ origin_of old.last transports.Udp datagram.source datagram.target → written ≡ with_all origin (all_found service datagram) (lent old before name) → IsBack old new written after → new.profile ≡ old.profile → new.port ≡ old.port → new.fragments ≡ old.fragments → new.directions ≡ old.directions → new.last ≡ old.last → Lists (happened_in old.happened) new settings (and_counted (datagram_taken (service_of settings.profile settings.port datagram.source datagram.target) datagram progress)) None before after
datagram-lists old new settings progress service datagram origin before after name written h s o e b q p g d l =
    let found = over_udp progress.last datagram (all_found service datagram) in
    let follows : Follows new.directions settings.limit progress.table progress.last None found (lent old before name) written = record {
      listed = found;
      left = [];
      parts = sym (append-nil found);
      written = e ∙ ap (λ x. with_all x (all_found service datagram) (lent old before name)) (o ∙ ap (λ x. origin_of x transports.Udp datagram.source datagram.target) h.last) ∙ sym (with_each-datagram progress.last datagram (all_found service datagram) (lent old before name));
      holds = (subst (λ x. HoldsTable x settings.limit progress.table) (sym d) h.table, refl);
      full = tt;
    } in
    subst (λ x. Lists (happened_in old.happened) new settings (and_counted (datagram_taken x datagram progress)) None before after) (sym (ap₂ (λ m n. service_of m n datagram.source datagram.target) (sym h.profile) (sym h.port) ∙ s))
    (lists-found old new settings (record progress { counts = counted_each found progress.counts }) None found before after name written follows b h.label (ap (λ x. counted_each found x) h.counts) (q ∙ h.profile) (p ∙ h.port) (g ∙ h.fragments) (l ∙ h.last))

-- what is all there, or nothing that can be listed
pub contents-whole : (settings : Settings) (contents : Contents) (progress : Progress) → ((fragment : Fragment) → contents ≡ kinds.Fragment fragment → ⊥) → contents_taken settings contents progress ≡ whole_taken settings contents progress
contents-whole settings (kinds.Datagram datagram) progress n = refl
contents-whole settings (kinds.Segment segment) progress n = refl
contents-whole settings (kinds.Fragment fragment) progress n = absurd (n fragment refl)
contents-whole settings (kinds.Error error) progress n = refl
contents-whole settings kinds.Other progress n = refl
contents-whole settings (kinds.UnreadBetween ends) progress n = refl
contents-whole settings kinds.Unread progress n = refl

pub event-whole : (settings : Settings) (due : Due) (contents : Contents) (fragments : Table) → ((fragment : Fragment) → contents ≡ kinds.Fragment fragment → ⊥) → contents_event settings due fragments contents ≡ whole_event settings due contents
event-whole settings due (kinds.Datagram datagram) fragments n = refl
event-whole settings due (kinds.Segment segment) fragments n = refl
event-whole settings due (kinds.Fragment fragment) fragments n = absurd (n fragment refl)
event-whole settings due (kinds.Error error) fragments n = refl
event-whole settings due kinds.Other fragments n = refl
event-whole settings due (kinds.UnreadBetween ends) fragments n = refl
event-whole settings due kinds.Unread fragments n = refl

pub no-event : (settings : Settings) (due : Due) (contents : Contents) → ((fragment : Fragment) × (contents ≡ kinds.Fragment fragment)) ⊎ (contents ≡ kinds.Other) → whole_event settings due contents ≡ []
no-event settings due contents (inl e) = ap (whole_event settings due) e.1
no-event settings due contents (inr e) = ap (whole_event settings due) e

pub passed-over : (settings : Settings) (contents : Contents) (progress : Progress) → ((fragment : Fragment) × (contents ≡ kinds.Fragment fragment)) ⊎ (contents ≡ kinds.Other) → whole_taken settings contents progress ≡ nothing_in progress
passed-over settings contents progress (inl e) = ap (λ x. whole_taken settings x progress) e.1
passed-over settings contents progress (inr e) = ap (λ x. whole_taken settings x progress) e

-- what is found with a segment
pub segment-lists : (old new : Capture) (settings : Settings) (progress : Progress) (service : Service) (segment : Segment) (rest : Option (Box Rest Global)) (before after : List ℕ) (name : ℕ) (written : Written) → HasFollowed old settings progress → service_of old.profile old.port segment.source segment.target ≡ Some service → Follows new.directions settings.limit (followed settings.limit old.last.packet service segment progress.table).table old.last rest (segment_event (Some service) old.last segment ++ over_tcp old.last (followed settings.limit old.last.packet service segment progress.table).found) (lent old before name) written → IsBack old new written after → new.profile ≡ old.profile → new.port ≡ old.port → new.fragments ≡ old.fragments → new.last ≡ old.last → Lists (happened_in old.happened) new settings (with_event (segment_event (service_of settings.profile settings.port segment.source segment.target) progress.last segment) (and_counted (segment_taken settings.limit (service_of settings.profile settings.port segment.source segment.target) segment progress))) rest before after
segment-lists old new settings progress service segment rest before after name written h s f b q p g l =
    let found = segment_event (Some service) progress.last segment ++ over_tcp progress.last (followed settings.limit progress.last.packet service segment progress.table).found in
    let follows = subst (λ x. Follows new.directions settings.limit (followed settings.limit x.packet service segment progress.table).table x rest (segment_event (Some service) x segment ++ over_tcp x (followed settings.limit x.packet service segment progress.table).found) (lent old before name) written) h.last f in
    subst (λ x. Lists (happened_in old.happened) new settings (with_event (segment_event x progress.last segment) (and_counted (segment_taken settings.limit x segment progress))) rest before after) (sym (ap₂ (λ m n. service_of m n segment.source segment.target) (sym h.profile) (sym h.port) ∙ s))
    (lists-found old new settings (record progress { table = (followed settings.limit progress.last.packet service segment progress.table).table; counts = counted_each found progress.counts }) rest found before after name written follows b h.label (ap (λ x. counted_each found x) h.counts) (q ∙ h.profile) (p ∙ h.port) (g ∙ h.fragments) (l ∙ h.last))

-- others of those that are left were listed
pub lists-rest : (old new : Capture) (settings : Settings) (progress : Progress) (rest : Box Rest Global) (next : Option (Box Rest Global)) (left : List Finding) (before after : List ℕ) (name : ℕ) (written : Written) → HasFollowedBut old settings progress (Some rest) left → Follows new.directions settings.limit progress.table old.last next left (lent old before name) written → IsBack old new written after → new.profile ≡ old.profile → new.port ≡ old.port → new.fragments ≡ old.fragments → new.last ≡ old.last → Lists (happened_in old.happened) new settings (record { found = left; progress = progress }) next before after
lists-rest old new settings progress rest next left before after name written h f b q p g l =
    lists-found old new settings progress next left before after name written (subst (λ x. Follows new.directions settings.limit progress.table x next left (lent old before name) written) h.last f) b h.label h.counts (q ∙ h.profile) (p ∙ h.port) (g ∙ h.fragments) (l ∙ h.last)

-- an error, if it quotes a packet of Kerberos
pub error-lists : (old new : Capture) (settings : Settings) (progress : Progress) (error : IcmpError) (failure : Failure) (origin : CaptureOrigin) (before after : List ℕ) (name : ℕ) (written : Written) → HasFollowed old settings progress → is_some (service_of old.profile old.port error.ends.source error.ends.target) ≡ true → origin ≡ origin_of old.last (quoted_transport error.protocol) error.ends.source error.ends.target → failure ≡ failure_of error → written ≡ with_found origin (Failed failure) (lent old before name) → IsBack old new written after → new.profile ≡ old.profile → new.port ≡ old.port → new.fragments ≡ old.fragments → new.directions ≡ old.directions → new.last ≡ old.last → Lists (happened_in old.happened) new settings (with_event (error_event (service_of settings.profile settings.port error.ends.source error.ends.target) progress.last error) (and_counted (nothing_in progress))) None before after
error-lists old new settings progress error failure origin before after name written h s o f e b q p g d l =
    by (service_of settings.profile settings.port error.ends.source error.ends.target) (ap₂ (λ m n. is_some (service_of m n error.ends.source error.ends.target)) (sym h.profile) (sym h.port) ∙ s)
  where
    by : (between : Option Service) → is_some between ≡ true → Lists (happened_in old.happened) new settings (with_event (error_event between progress.last error) (and_counted (nothing_in progress))) None before after
    by None i = absurd cc
    by (Some service) i =
        let found = error_event (Some service) progress.last error in
        let follows : Follows new.directions settings.limit progress.table progress.last None found (lent old before name) written = record {
          listed = found;
          left = [];
          parts = refl;
          written = e ∙ ap₂ (λ x y. with_found x (Failed y) (lent old before name)) (o ∙ ap (λ x. origin_of x (quoted_transport error.protocol) error.ends.source error.ends.target) h.last) f;
          holds = (subst (λ x. HoldsTable x settings.limit progress.table) (sym d) h.table, refl);
          full = tt;
        } in
        lists-found old new settings progress None found before after name written follows b h.label h.counts (q ∙ h.profile) (p ∙ h.port) (g ∙ h.fragments) (l ∙ h.last)

-- and else nothing
pub error-passed : (old : Capture) (settings : Settings) (progress : Progress) (error : IcmpError) (text : List ℕ) → HasFollowed old settings progress → is_some (service_of old.profile old.port error.ends.source error.ends.target) ≡ false → Lists (happened_in old.happened) old settings (with_event (error_event (service_of settings.profile settings.port error.ends.source error.ends.target) progress.last error) (and_counted (nothing_in progress))) None text text
error-passed old settings progress error text h s =
    by (service_of settings.profile settings.port error.ends.source error.ends.target) (ap₂ (λ m n. is_some (service_of m n error.ends.source error.ends.target)) (sym h.profile) (sym h.port) ∙ s)
  where
    by : (between : Option Service) → is_some between ≡ false → Lists (happened_in old.happened) old settings (with_event (error_event between progress.last error) (and_counted (nothing_in progress))) None text text
    by None i =
        lists-whole (happened_in old.happened) old settings (and_counted (nothing_in progress)) text text
        (record { profile = h.profile; port = h.port; label = h.label; fragments = h.fragments; table = h.table; last = h.last; counts = h.counts })
        refl
        (sym (append-nil text))
    by (Some service) i = absurd cc

-- a header that is not read lists nothing
pub unread-listed : (service : Option Service) (label : Label) (was : Option Happened) (progress : Progress) (text : List ℕ) → text ≡ text ++ lines_of label was (unread_taken service progress).found
unread-listed None label was progress text = sym (append-nil text)
unread-listed (Some service) label was progress text = sym (append-nil text)

pub unread-same : (service : Option Service) (progress : Progress) (was now : Option Happened) → now ≡ was → now ≡ happened_each (unread_taken service progress).found was
unread-same None progress was now e = e
unread-same (Some service) progress was now e = e

-- ---- the end of the file
pub directions-ended : (old new : Capture) (settings : Settings) (progress : Progress) (before after : List ℕ) (name : ℕ) (written : Written) → HasFollowed old settings progress → IsEnded (moment_due old.last) (with_each (over_tcp old.last (last_of settings.limit progress.table.active)) (lent old before name)) written → IsBack old new written after → new.fragments ≡ old.fragments → HasEnded (happened_in old.happened) new settings progress before after
directions-ended old new settings progress before after name written h e b g =
    let last = last_of settings.limit progress.table.active in
    let found = over_tcp progress.last last in
    let was = happened_in old.happened in
    let listed = with_each found (lent old before name) in
    let ended = subst (λ x. IsEnded (moment_due x) (with_each (over_tcp x last) (lent old before name)) written) h.last e in
    record {
      label = b.label ∙ h.label;
      counts = ap (λ x. totals (unread x) new.listing.counts) (g ∙ h.fragments) ∙ ap (λ x. totals (unread progress.fragments) x) (b.counts ∙ ap (λ w. w.counts) ended.same ∙ counts-each found (lent old before name) ∙ ap (λ x. counted_each found x) h.counts);
      told = ap told_in b.happened ∙ ended.told ∙ ap end_counts (happened-each found (lent old before name));
      text =
          b.is
          ∙ ap (λ w. w.text) ended.same
          ∙ ap (λ t. t ++ end_lines listed.label (moment_due progress.last) listed.happened) (text-each found (lent old before name))
          ∙ ap₂ (λ l w. (before ++ lines_of (label_in old.listing.style) was found) ++ end_lines l (moment_due progress.last) w) (label-each found (lent old before name)) (happened-each found (lent old before name))
          ∙ append_assoc before (lines_of (label_in old.listing.style) was found) (end_lines (label_in old.listing.style) (moment_due progress.last) (happened_each found was))
          ∙ ap (λ l. before ++ (lines_of l was found ++ end_lines l (moment_due progress.last) (happened_each found was))) h.label;
    }

-- the last record, by the label and the totals
pub last-listed : (was : Option Happened) (capture : Capture) (settings : Settings) (progress : Progress) (before between after : List ℕ) (shown : CaptureCounts) (told : ToldCounts) (line : Label → CaptureCounts → ToldCounts → List ℕ) → HasEnded was capture settings progress before between → shown ≡ totals (unread capture.fragments) capture.listing.counts → told ≡ told_in (happened_in capture.happened) → after ≡ between ++ line (label_in capture.listing.style) shown told → after ≡ before ++ (last_lines settings was progress ++ line settings.label (all_counts (end_taken settings progress).progress) (last_counts settings was progress))
last-listed was capture settings progress before between after shown told line h t u e =
    e
    ∙ ap (λ x. x ++ line (label_in capture.listing.style) shown told) h.text
    ∙ ap (λ x. (before ++ last_lines settings was progress) ++ line x shown told) h.label
    ∙ ap₂ (λ x y. (before ++ last_lines settings was progress) ++ line settings.label x y) (t ∙ h.counts) (u ∙ h.told)
    ∙ append_assoc before (last_lines settings was progress) (line settings.label (all_counts (end_taken settings progress).progress) (last_counts settings was progress))
