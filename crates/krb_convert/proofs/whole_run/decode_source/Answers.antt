use Rattle.std.proofs.Common.{◌≡◌, ◌+◌, rules, subst}
use Rattle.std.specs.Io.KnownBytes.{Appends}
use Rattle.krb_convert.specs.Decoding.{decoded_whole, ReadsMost}
use Rattle.krb_run.specs.Records.{AppendsPrefix}
use Rattle.krb_convert.specs.inner.WholeRuns.{converted_of}
use Rattle.krb_convert.proofs.WholeRuns.{DecodesWhole-made, no_write, whole-unwritten, whole-written}
use Rattle.krb_convert.proofs.whole_run.decode_source.Goals as goal

pub returns-in_err-octets-clause-fault : goal.returns-in_err-octets-clause-fault
returns-in_err-octets-clause-fault g c = whole-unwritten _ c.args.profile c.args.limit _ _ _ (search rules) c.in_err-octets.ensures.taken

pub returns-in_err-line-clause-fault : goal.returns-in_err-line-clause-fault
returns-in_err-line-clause-fault g c = whole-unwritten _ c.args.profile c.args.limit _ _ _ (no_write _ (search rules)) (c.in_ok-octets.octets.items, c.in_ok-octets.ensures.read.taken)

pub returns-in_err-write_all-clause-fault : goal.returns-in_err-write_all-clause-fault
returns-in_err-write_all-clause-fault g c =
    let line = subst (λ o. converted_of c.in_ok-line.line ≡ decoded_whole c.args.profile c.args.limit o) c.as_slice.ensures.value c.in_ok-line.ensures.decoded in
    let written = subst (AppendsPrefix _ _) c.as_slice-2.ensures.value c.in_err-write_all.ensures.prefix in
    whole-written _ c.args.profile c.args.limit _ _ _ _ c.in_ok-octets.octets.items c.in_ok-line.line (search rules) c.in_ok-octets.ensures.read.taken written line

pub returns-clause-decoded : goal.returns-clause-decoded
returns-clause-decoded g c =
    let read = subst (λ n. ReadsMost (g.R.Read.remaining c.args.counted.now.reader.now) (g.R.Read.remaining c.read_most.new.counted.reader.now) (n + 1) c.in_ok-octets.octets.items) c.get.ensures.value c.in_ok-octets.ensures.read in
    let line = subst (λ o. converted_of c.in_ok-line.line ≡ decoded_whole c.args.profile c.args.limit o) c.as_slice.ensures.value c.in_ok-line.ensures.decoded in
    let written = subst (Appends (g.W.Write.contents c.args.writer.now) (g.W.Write.contents c.write_all.new.writer)) c.as_slice-2.ensures.value c.in_ok-write_all.ensures.all in
    DecodesWhole-made c.args.profile c.args.limit _ _ _ _ c.in_ok-octets.octets.items c.in_ok-line.line read written line
