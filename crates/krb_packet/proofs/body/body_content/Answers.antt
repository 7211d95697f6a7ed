use Rattle.std.proofs.Common.{◌∙◌, ap, Some, length}
use Rattle.krb_file.specs.FieldReaders.{Slice, of_slice, bounded}
use Rattle.krb_packet.specs.Bodies.{content_at}
use Rattle.krb_packet.proofs.Bodies.{Stops-content, body_agrees, body_inside}
use Rattle.krb_packet.proofs.body.body_content.Goals as goal

pub returns-clause-read : goal.returns-clause-read
returns-clause-read c =
    body_agrees (content_at c.args.kind c.args.order c.args.count c.args.interfaces.now) c.args.body.now c.read_content.result (of_slice c.set_end.new.self) c.read_content.new.reader
    (c.set_end.ensures ∙ ap (λ (s : Slice). bounded (Some (length c.args.body.now)) (of_slice s)) c.new-reader.ensures) c.read_content.ensures.read

pub returns-clause-inside : goal.returns-clause-inside
returns-clause-inside c =
    body_inside (content_at c.args.kind c.args.order c.args.count c.args.interfaces.now) c.args.body.now c.read_content.result
    (Stops-content c.args.kind c.args.order c.args.count c.args.interfaces.now)
    (body_agrees (content_at c.args.kind c.args.order c.args.count c.args.interfaces.now) c.args.body.now c.read_content.result (of_slice c.set_end.new.self) c.read_content.new.reader
    (c.set_end.ensures ∙ ap (λ (s : Slice). bounded (Some (length c.args.body.now)) (of_slice s)) c.new-reader.ensures) c.read_content.ensures.read)
