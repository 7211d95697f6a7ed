use Rattle.std.proofs.lemmas.Result.{err_from_is_err_and}
use Rattle.krb_file.proofs.Chains.{read_then}
use Rattle.krb_file.proofs.FieldReaders.{Keeps-then, made_of}
use Rattle.krb_packet.specs.declared.pcap.Magic.TheVariants as magics
use Rattle.krb_packet.specs.Pcaps.{magic_at, header_at}
use Rattle.krb_packet.specs.Captures.{after_magic, begin_in}
use Rattle.krb_packet.proofs.Options.{continues_follows, continues_here, continues_then, then_fails}
use Rattle.krb_packet.proofs.InTurn.{fails_on}
use Rattle.krb_packet.proofs.format.begin.Goals as goal

pub returns-in-Pcapng-clause-read : goal.returns-in-Pcapng-clause-read
returns-in-Pcapng-clause-read g c =
    let old = g.F.FieldReader.cursor c.args.reader.now in
    let mid = g.F.FieldReader.cursor c.read_magic.new.reader in
    let begin = begin_in c.args.count in
    continues_follows begin (after_magic c.args.count magics.Pcapng) _ c.block_after.result g.F.FieldReader.MayFail old mid (g.F.FieldReader.cursor c.block_after.new.reader)
    (continues_then begin magic_at (after_magic c.args.count) magics.Pcapng old old mid (continues_here begin old) (rw c.in-Pcapng.is at c.in_ok-form.ensures.read))
    (rw (c.new-in-Pcapng.ensures, c.new.ensures.items) at c.block_after.ensures.read)

pub returns-in_err-form-clause-read : goal.returns-in_err-form-clause-read
returns-in_err-form-clause-read g c =
    let p = err_from_is_err_and c.from_residual.result c.from_residual.ensures.1 in
    rw (p.1, p.2) (then_fails magic_at (after_magic c.args.count) c.in_err-form.field-0.0 g.F.FieldReader.MayFail (g.F.FieldReader.cursor c.args.reader.now) c.in_err-form.ensures.read)

pub returns-in_err-read_header-in-Pcap-clause-read : goal.returns-in_err-read_header-in-Pcap-clause-read
returns-in_err-read_header-in-Pcap-clause-read g c =
    let p = err_from_is_err_and c.from_residual-in_err-read_header-in-Pcap.result c.from_residual-in_err-read_header-in-Pcap.ensures.1 in
    let e = c.in_err-read_header-in-Pcap.field-0.0 in
    rw (p.1, p.2)
    (fails_on (after_magic c.args.count) e g.F.FieldReader.MayFail (rw c.in-Pcap.is at c.in_ok-form.ensures.read)
    (then_fails (header_at c.in-Pcap.form) _ e g.F.FieldReader.MayFail (g.F.FieldReader.cursor c.read_magic.new.reader) c.in_err-read_header-in-Pcap.ensures.read))

pub returns-in_err-read_header-in-Pcap-clause-keeps : goal.returns-in_err-read_header-in-Pcap-clause-keeps
returns-in_err-read_header-in-Pcap-clause-keeps g c = Keeps-then c.read_magic.ensures.keeps c.read_header.ensures.keeps

pub returns-in_ok-read_header-in-Pcap-clause-read : goal.returns-in_ok-read_header-in-Pcap-clause-read
returns-in_ok-read_header-in-Pcap-clause-read g c =
    read_then magic_at (after_magic c.args.count) (rw c.in-Pcap.is at c.in_ok-form.ensures.read) (made_of _ _ _ _ _ c.in_ok-read_header-in-Pcap.ensures.read)

pub returns-in_ok-read_header-in-Pcap-clause-keeps : goal.returns-in_ok-read_header-in-Pcap-clause-keeps
returns-in_ok-read_header-in-Pcap-clause-keeps g c = Keeps-then c.read_magic.ensures.keeps c.read_header.ensures.keeps

pub returns-in-Pcapng-clause-keeps : goal.returns-in-Pcapng-clause-keeps
returns-in-Pcapng-clause-keeps g c = Keeps-then c.read_magic.ensures.keeps c.block_after.ensures.keeps
