use Rattle.std.proofs.Common.{◌≡◌, subst}
use Rattle.std.specs.Io.KnownBytes.{Appends}
use Rattle.krb_run.specs.Records.{AppendsPrefix}
use Rattle.krb_decode.specs.Decoded.{decoded_input}
use Rattle.krb_decode.specs.Given.{decoded_of}
use Rattle.krb_decode.proofs.InputRuns.{DecodesInput-made, input-unwritten, input-written}
use Rattle.krb_decode.proofs.input.decode_source.Goals as goal

pub returns-in_err-octets-clause-fault : goal.returns-in_err-octets-clause-fault
returns-in_err-octets-clause-fault g c = input-unwritten _ c.args.profile _ _ _ c.in_err-octets.ensures.taken

pub returns-in_err-made-clause-fault : goal.returns-in_err-made-clause-fault
returns-in_err-made-clause-fault g c = input-unwritten _ c.args.profile _ _ _ (c.in_ok-octets.octets.items, c.in_ok-octets.ensures.read.taken)

pub returns-in_err-write_all-clause-fault : goal.returns-in_err-write_all-clause-fault
returns-in_err-write_all-clause-fault g c =
    let made = subst (λ o. decoded_of c.in_ok-made.made ≡ decoded_input c.args.profile o) c.as_slice.ensures.value c.in_ok-made.ensures in
    let written = subst (AppendsPrefix _ _) c.as_slice-2.ensures.value c.in_err-write_all.ensures.prefix in
    input-written _ c.args.profile _ _ _ _ c.in_ok-octets.octets.items c.in_ok-made.made c.in_ok-octets.ensures.read.taken written made

pub returns-clause-decoded : goal.returns-clause-decoded
returns-clause-decoded g c =
    let made = subst (λ o. decoded_of c.in_ok-made.made ≡ decoded_input c.args.profile o) c.as_slice.ensures.value c.in_ok-made.ensures in
    let written = subst (Appends (g.W.Write.contents c.args.writer.now) (g.W.Write.contents c.write_all.new.writer)) c.as_slice-2.ensures.value c.in_ok-write_all.ensures.all in
    DecodesInput-made c.args.profile _ _ _ _ c.in_ok-octets.octets.items c.in_ok-made.made c.in_ok-octets.ensures.read written made
