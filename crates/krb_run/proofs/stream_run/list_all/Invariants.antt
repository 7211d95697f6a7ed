use Rattle.std.proofs.Common.{◌≡◌, ◌-◌, ◌^◌, [], vec_len}
use Rattle.krb_run.specs.declared.transfer.ReaderState.TheVariants as reader
use Rattle.krb_run.specs.Streams.{Runs}
use Rattle.krb_run.proofs.stream_run.list_all.Given as goal

abbrev pub invariant-pieces : goal.invariant-pieces
invariant-pieces g l = record {
  size : vec_len l.buffer ≡ 65536;
  opens : l.counted.state ≡ reader.Open;
  same_reader : l.counted.reader.ghost_name ≡ l.initial.counted.reader.ghost_name;
  none : (g.L.ListStream.listing l.lister).text ≡ [];
  runs : Runs (g.L.ListStream.rules l.fn.request) l.fn.request (g.R.Read.remaining l.initial.counted.reader.now) (g.R.Read.remaining l.counted.reader.now) (g.W.Write.contents l.initial.writer) (g.W.Write.contents l.writer) l.counted.made (g.L.ListStream.listing l.lister);
}

abbrev pub decreases-pieces : goal.decreases-pieces
decreases-pieces g l = 2 ^ 40 - l.counted.made
