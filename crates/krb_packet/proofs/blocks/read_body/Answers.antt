use Rattle.std.proofs.Common.{◌≡◌, Ok, sym}
use Rattle.krb_file.specs.Fields.{Fails}
use Rattle.krb_packet.specs.Bodies.{content_at, in_body}
use Rattle.krb_packet.proofs.BodyContents.{body_read, body_fails}
use Rattle.krb_packet.proofs.blocks.read_body.Goals as goal

pub returns-in-Ok-clause-read : goal.returns-in-Ok-clause-read
returns-in-Ok-clause-read g c =
    let checked : in_body (content_at c.args.kind c.args.head.order c.args.count c.args.section.now.interfaces) c.in_ok-octets.octets.items ≡ Ok c.in-Ok.content =
    rw (sym c.as_slice.ensures, sym c.as_slice-2.ensures.value) c.in-Ok.ensures.read in
    body_read c.args.kind c.args.section.now c.args.count c.args.place c.args.head g.F.FieldReader.MayFail c.in_ok-octets.octets.items (g.F.FieldReader.cursor c.args.reader.now) (g.F.FieldReader.cursor c.body_octets.new.reader)
    c.in_ok-octets.ensures.read c.in-Ok.content checked

pub returns-clause-read : goal.returns-clause-read
returns-clause-read g c =
    let checked : Fails c.in-Err.fault (in_body (content_at c.args.kind c.args.head.order c.args.count c.args.section.now.interfaces) c.in_ok-octets.octets.items) =
    rw (sym c.as_slice.ensures, sym c.as_slice-2.ensures.value) c.in-Err.ensures.read in
    body_fails c.args.kind c.args.section.now c.args.count c.args.place c.args.head g.F.FieldReader.MayFail c.in_ok-octets.octets.items (g.F.FieldReader.cursor c.args.reader.now) (g.F.FieldReader.cursor c.body_octets.new.reader)
    c.in_ok-octets.ensures.read c.in-Err.fault c.fault_from.result c.place-begin.result checked c.place-begin.ensures.value c.fault_from.ensures
