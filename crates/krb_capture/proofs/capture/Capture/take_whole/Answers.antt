use Rattle.std.proofs.Common.{None, refl, sym, ◌∙◌, ap, append-nil, subst}
use Rattle.std.proofs.lemmas.Result.{IfOk-weaker}
use Rattle.krb_capture.specs.Captures.{and_counted, happened_in, nothing_in, whole_event, whole_taken, with_event, with_unread}
use Rattle.krb_capture.specs.Flows.{service_of}
use Rattle.krb_capture.specs.Labels.{label_in}
use Rattle.krb_capture.specs.Rests.{Lists}
use Rattle.krb_capture.specs.Found.{and_more}
use Rattle.krb_capture.specs.declared.capture.Capture.{Capture}
use Rattle.krb_record.specs.declared.capture.CaptureCounts.{CaptureCounts}
use Rattle.krb_capture.proofs.Following.{lists-whole, no-event, passed-over, unread-listed, unread-same}
use Rattle.krb_packet.specs.declared.contents.Contents.TheVariants as contents
use Rattle.krb_capture.proofs.capture.Capture.take_whole.Goals as goal

pub returns-in_ok-take_datagram-in-Datagram : goal.returns-in_ok-take_datagram-in-Datagram
returns-in_ok-take_datagram-in-Datagram c = λ settings progress h.
    subst (λ x. Lists (happened_in c.args.self.now.happened) c.take_datagram.new.self settings (with_event (whole_event settings progress.last x) (and_counted (whole_taken settings x progress))) None c.args.text.now c.take_datagram.new.text) (sym c.in-Datagram.is)
    (c.in_ok-take_datagram-in-Datagram.ensures settings progress h)

pub returns-in-Segment : goal.returns-in-Segment
returns-in-Segment c = IfOk-weaker c.take_segment.result _ _
    (λ rest k settings progress h. subst (λ x. Lists (happened_in c.args.self.now.happened) c.take_segment.new.self settings (with_event (whole_event settings progress.last x) (and_counted (whole_taken settings x progress))) rest c.args.text.now c.take_segment.new.text) (sym c.in-Segment.is) (k settings progress h))
    c.take_segment.ensures

pub returns-in-UnreadBetween : goal.returns-in-UnreadBetween
returns-in-UnreadBetween c = λ settings progress h.
    let ends = c.in-UnreadBetween.ends in
    let text = c.args.text.now in
    subst (λ x. Lists (happened_in c.args.self.now.happened) c.take_unread.new.self settings (with_event (whole_event settings progress.last x) (and_counted (whole_taken settings x progress))) None text text) (sym c.in-UnreadBetween.is)
    (lists-whole (happened_in c.args.self.now.happened) c.take_unread.new.self settings (and_counted (whole_taken settings (contents.UnreadBetween ends) progress)) text text ((c.take_unread.ensures.followed settings progress h)) (unread-same (service_of settings.profile settings.port ends.source ends.target) progress _ _ c.take_unread.ensures.happened) (unread-listed (service_of settings.profile settings.port ends.source ends.target) settings.label (happened_in c.args.self.now.happened) progress text))

pub returns-in-Unread : goal.returns-in-Unread
returns-in-Unread c = λ settings progress h.
    let now : Capture = record c.args.self.now { listing = c.count_unread.new.self } in
    let text = c.args.text.now in
    subst (λ x. Lists (happened_in c.args.self.now.happened) now settings (with_event (whole_event settings progress.last x) (and_counted (whole_taken settings x progress))) None text text) (sym c.in-Unread.is)
    (lists-whole (happened_in c.args.self.now.happened) now settings (and_counted (nothing_in (with_unread progress))) text text
    (record {
      profile = h.profile;
      port = h.port;
      label = ap (λ w. label_in w.style) c.count_unread.ensures ∙ h.label;
      fragments = h.fragments;
      table = h.table;
      last = h.last;
      counts = ap (λ w. w.counts) c.count_unread.ensures ∙ ap {A = CaptureCounts} (λ x. record x { unread = and_more x.unread 1 }) h.counts;
    })
    refl
    (sym (append-nil text)))

pub returns-in-Fragment : goal.returns-in-Fragment
returns-in-Fragment c = λ settings progress h.
    let text = c.args.text.now in
    subst (λ e. Lists (happened_in c.args.self.now.happened) c.args.self.now settings (with_event e (and_counted (whole_taken settings c.args.contents.now progress))) None text text) (sym (no-event settings progress.last c.args.contents.now c.in-Fragment.is))
    (subst (λ t. Lists (happened_in c.args.self.now.happened) c.args.self.now settings (and_counted t) None text text) (sym (passed-over settings c.args.contents.now progress c.in-Fragment.is))
    (lists-whole (happened_in c.args.self.now.happened) c.args.self.now settings (and_counted (nothing_in progress)) text text (record { profile = h.profile; port = h.port; label = h.label; fragments = h.fragments; table = h.table; last = h.last; counts = h.counts }) refl (sym (append-nil text))))

pub returns-in_ok-take_error-in-Error : goal.returns-in_ok-take_error-in-Error
returns-in_ok-take_error-in-Error c = λ settings progress h.
    subst (λ x. Lists (happened_in c.args.self.now.happened) c.take_error.new.self settings (with_event (whole_event settings progress.last x) (and_counted (whole_taken settings x progress))) None c.args.text.now c.take_error.new.text) (sym c.in-Error.is)
    (c.in_ok-take_error-in-Error.ensures settings progress h)
