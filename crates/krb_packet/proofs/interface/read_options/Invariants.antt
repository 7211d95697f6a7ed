use Rattle.std.proofs.Common.{◌-◌}
use Rattle.krb_file.specs.FieldReaders.{Keeps}
use Rattle.krb_packet.specs.Interfaces.{no_options, options_within}
use Rattle.krb_packet.proofs.Options.{Continues}
use Rattle.krb_packet.proofs.interface.read_options.Given as goal

abbrev pub invariant-loop : goal.invariant-loop
invariant-loop g l = record {
  on : Continues (options_within l.most l.order no_options) (options_within (l.most - l.counter) l.order l.options) (g.F.FieldReader.cursor l.fn.reader) (g.F.FieldReader.cursor l.reader);
  keeps : Keeps (g.F.FieldReader.cursor l.fn.reader) (g.F.FieldReader.cursor l.reader);
}
