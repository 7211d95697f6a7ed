use Rattle.std.proofs.Common.{◌≡◌, sym, ◌∙◌}
use Rattle.krb_file.specs.declared.progress.Progress.TheVariants as states
use Rattle.krb_packet.proofs.Streams.{reads_as, given_in_file}
use Rattle.krb_packet.proofs.packets.Packets.next_packet.Goals as goal

pub returns-in-Done-clause-next : goal.returns-in-Done-clause-next
returns-in-Done-clause-next g c =
    let s = c.self.inside in
    let is : s.state ≡ states.Done c.in-Done.field-0 = sym c.replace.ensures.value ∙ c.in-Done.is in
    rw (sym c.self.view_is)
    (λ file given reads. absurd (reads_as file given (record { cursor = s.reader; state = s.state; count = s.count }) _ is reads))

pub returns-in-Failed-clause-next : goal.returns-in-Failed-clause-next
returns-in-Failed-clause-next g c =
    let s = c.self.inside in
    let is : s.state ≡ states.Failed c.in-Failed.fault = sym c.replace.ensures.value ∙ c.in-Failed.is in
    rw (sym c.self.view_is)
    (λ file given reads. absurd (reads_as file given (record { cursor = s.reader; state = s.state; count = s.count }) _ is reads))

pub returns-in-Some-clause-refused : goal.returns-in-Some-clause-refused
returns-in-Some-clause-refused g c = λ file given reads. given_in_file file given c.read_captured.result c.read_captured.new.self (c.read_captured.ensures.next file given reads)

pub returns-in-Open-clause-refused : goal.returns-in-Open-clause-refused
returns-in-Open-clause-refused g c =
    let s = c.self.inside in
    let is : s.state ≡ states.Open c.in-Open.format = sym c.replace.ensures.value ∙ c.in-Open.is in
    rw (sym c.self.view_is)
    (λ file given reads. given_in_file file given c.read_next.result c.read_next.new.self (c.read_next.ensures.next file given
    (reads_as file given (record { cursor = s.reader; state = s.state; count = s.count }) _ is reads)))

pub returns-in-Failed-clause-refused : goal.returns-in-Failed-clause-refused
returns-in-Failed-clause-refused g c =
    let s = c.self.inside in
    let is : s.state ≡ states.Failed c.in-Failed.fault = sym c.replace.ensures.value ∙ c.in-Failed.is in
    rw (sym c.self.view_is)
    (λ file given reads. absurd (reads_as file given (record { cursor = s.reader; state = s.state; count = s.count }) _ is reads))
