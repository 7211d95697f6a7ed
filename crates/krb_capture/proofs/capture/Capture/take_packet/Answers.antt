use Rattle.std.proofs.Common.{◌∙◌, ap, subst}
use Rattle.std.proofs.lemmas.Result.{IfOk-weaker}
use Rattle.krb_record.specs.declared.capture.CaptureCounts.{CaptureCounts}
use Rattle.krb_capture.specs.Captures.{Progress, and_counted, contents_event, contents_in, contents_taken, happened_in, packet_taken, packet_told, with_event, with_packet}
use Rattle.krb_capture.specs.Found.{and_more}
use Rattle.krb_capture.specs.Labels.{label_in}
use Rattle.krb_capture.specs.Rests.{Lists}
use Rattle.krb_capture.proofs.capture.Capture.take_packet.Goals as goal

pub returns : goal.returns
unfolding packet_taken packet_told
returns c = IfOk-weaker c.take_contents.result _ _
    (λ rest k settings progress h.
    let start : Progress = with_packet c.args.packet.now progress in
    let listed = k settings start (record {
      profile = h.profile;
      port = h.port;
      label = ap (λ w. label_in w.style) c.count_packet.ensures ∙ h.label;
      fragments = h.fragments;
      table = h.table;
      last = c.with-self.ensures;
      counts = ap (λ w. w.counts) c.count_packet.ensures ∙ ap {A = CaptureCounts} (λ x. record x { packets = and_more x.packets 1 }) h.counts;
    }) in
    subst (λ contents. Lists (happened_in c.args.self.now.happened) c.take_contents.new.self settings (with_event (contents_event settings start.last start.fragments contents) (and_counted (contents_taken settings contents start))) rest c.args.text.now c.take_contents.new.text) (c.contents_of.ensures ∙ ap (λ port. contents_in port c.args.packet.now) h.port) listed)
    c.take_contents.ensures
