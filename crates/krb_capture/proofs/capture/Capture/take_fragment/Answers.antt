use Rattle.std.proofs.Common.{◌≡◌, List, sym, ◌∙◌, ap, ap₂, subst}
use Rattle.std.proofs.lemmas.Result.{IfOk-weaker}
use Rattle.krb_packet.specs.Fragments.{contents_of_whole, nested_step}
use Rattle.krb_capture.specs.Captures.{Finding, Progress, Taken, and_counted, completed, completed_event, fragment_taken, happened_in, whole_event, whole_taken, with_event}
use Rattle.krb_capture.specs.Rests.{Lists}
use Rattle.krb_capture.proofs.capture.Capture.take_fragment.Goals as goal

pub returns-in-Some : goal.returns-in-Some
returns-in-Some c = IfOk-weaker c.take_whole.result _ _
    (λ rest k settings progress h.
    let next : Progress = record progress { fragments = (nested_step settings.port progress.fragments c.args.fragment.now).1 } in
    let whole : whole_taken settings c.contents.result next ≡ fragment_taken settings c.args.fragment.now progress =
    ap {B = Taken} (λ contents. whole_taken settings contents next) c.contents.ensures
    ∙ ap {B = Taken} (λ port. whole_taken settings (contents_of_whole port c.in-Some.whole) next) h.port
    ∙ ap {B = Taken} (λ found. completed settings found next) (sym c.in-Some.is ∙ c.in_ok-whole.ensures.whole ∙ ap₂ (λ port held. (nested_step port held c.args.fragment.now).0) h.port h.fragments)
    in
    let event : whole_event settings progress.last c.contents.result ≡ completed_event settings progress.last (nested_step settings.port progress.fragments c.args.fragment.now).0 =
    ap {B = List Finding} (λ contents. whole_event settings progress.last contents) c.contents.ensures
    ∙ ap {B = List Finding} (λ port. whole_event settings progress.last (contents_of_whole port c.in-Some.whole)) h.port
    ∙ ap {B = List Finding} (λ found. completed_event settings progress.last found) (sym c.in-Some.is ∙ c.in_ok-whole.ensures.whole ∙ ap₂ (λ port held. (nested_step port held c.args.fragment.now).0) h.port h.fragments)
    in
    subst (λ event. Lists (happened_in c.args.self.now.happened) c.take_whole.new.self settings (with_event event (and_counted (fragment_taken settings c.args.fragment.now progress))) rest c.args.text.now c.take_whole.new.text) event
    (subst (λ taken. Lists (happened_in c.args.self.now.happened) c.take_whole.new.self settings (with_event (whole_event settings progress.last c.contents.result) (and_counted taken)) rest c.args.text.now c.take_whole.new.text) whole
    (k settings next (record {
      profile = h.profile;
      port = h.port;
      label = h.label;
      fragments = c.in_ok-whole.ensures.state ∙ ap₂ (λ port held. (nested_step port held c.args.fragment.now).1) h.port h.fragments;
      table = h.table;
      last = h.last;
      counts = h.counts;
    }))))
    c.take_whole.ensures
