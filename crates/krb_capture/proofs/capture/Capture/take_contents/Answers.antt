use Rattle.std.proofs.Common.{sym, subst}
use Rattle.std.proofs.lemmas.Result.{IfOk-weaker}
use Rattle.krb_capture.specs.Captures.{and_counted, contents_event, contents_taken, happened_in, whole_event, with_event}
use Rattle.krb_capture.specs.Rests.{Lists}
use Rattle.krb_capture.proofs.Following.{contents-whole, event-whole}
use Rattle.krb_capture.proofs.capture.Capture.take_contents.Goals as goal

pub returns-in-Fragment : goal.returns-in-Fragment
returns-in-Fragment c = IfOk-weaker c.take_fragment.result _ _
    (λ rest k settings progress h. subst (λ x. Lists (happened_in c.args.self.now.happened) c.take_fragment.new.self settings (with_event (contents_event settings progress.last progress.fragments x) (and_counted (contents_taken settings x progress))) rest c.args.text.now c.take_fragment.new.text) (sym c.in-Fragment.is) (k settings progress h))
    c.take_fragment.ensures

pub returns-in_default : goal.returns-in_default
returns-in_default c = IfOk-weaker c.take_whole.result _ _
    (λ rest k settings progress h.
    subst (λ e. Lists (happened_in c.args.self.now.happened) c.take_whole.new.self settings (with_event e (and_counted (contents_taken settings c.args.contents progress))) rest c.args.text.now c.take_whole.new.text) (sym (event-whole settings progress.last c.args.contents progress.fragments c.in_default.not-Fragment))
    (subst (λ t. Lists (happened_in c.args.self.now.happened) c.take_whole.new.self settings (with_event (whole_event settings progress.last c.args.contents) (and_counted t)) rest c.args.text.now c.take_whole.new.text) (sym (contents-whole settings c.args.contents progress c.in_default.not-Fragment)) (k settings progress h)))
    c.take_whole.ensures
