use Rattle.std.proofs.Common.{sym, ◌∙◌}
use Rattle.std.proofs.lemmas.Result.{err_from_is_err_and}
use Rattle.krb_file.proofs.FieldReaders.{Keeps-then}
use Rattle.krb_packet.specs.Interfaces.{no_options, options_within}
use Rattle.krb_packet.proofs.Options.{at_end, goes_on, ends, fails}
use Rattle.krb_packet.proofs.interface.read_options.Goals as goal

pub returns-then-is_at_end-clause-read : goal.returns-then-is_at_end-clause-read
returns-then-is_at_end-clause-read g c =
    at_end (options_within c.args.most c.args.order no_options) c.args.order c.args.most c.loop.counter c.loop.options (g.F.FieldReader.cursor c.args.reader.now) (g.F.FieldReader.cursor c.loop.reader) c.loop.invariant.on
    c.loop-test.true (sym c.is_at_end.ensures ∙ c.if-is_at_end.true)

pub returns-in_err-setting-clause-read : goal.returns-in_err-setting-clause-read
returns-in_err-setting-clause-read g c =
    let p = err_from_is_err_and c.from_residual.result c.from_residual.ensures.1 in
    rw (p.1, p.2)
    (fails (options_within c.args.most c.args.order no_options) c.args.order c.args.most c.loop.counter c.loop.options (g.F.FieldReader.cursor c.args.reader.now) (g.F.FieldReader.cursor c.loop.reader) c.loop.invariant.on
    c.loop-test.true (sym c.is_at_end.ensures ∙ c.if-is_at_end.false) c.in_err-setting.field-0.0 g.F.FieldReader.MayFail c.in_err-setting.ensures.read)

pub returns-in-None-clause-read : goal.returns-in-None-clause-read
returns-in-None-clause-read g c =
    ends (options_within c.args.most c.args.order no_options) c.args.order c.args.most c.loop.counter c.loop.options (g.F.FieldReader.cursor c.args.reader.now) (g.F.FieldReader.cursor c.loop.reader) c.loop.invariant.on
    c.loop-test.true (sym c.is_at_end.ensures ∙ c.if-is_at_end.false) (g.F.FieldReader.cursor c.next_option.new.reader) (rw c.in-None.is at c.in_ok-setting.ensures.read)

pub loop-preserved : goal.loop-preserved
loop-preserved g c = record {
  on = rw c.with-options.ensures
      (goes_on (options_within c.args.most c.args.order no_options) c.args.order c.args.most c.loop.counter c.loop.options (g.F.FieldReader.cursor c.args.reader.now) (g.F.FieldReader.cursor c.loop.reader) c.loop.invariant.on
      c.loop-test.true (sym c.is_at_end.ensures ∙ c.if-is_at_end.false) c.in-Some.setting (g.F.FieldReader.cursor c.next_option.new.reader) (rw c.in-Some.is at c.in_ok-setting.ensures.read));
  keeps = Keeps-then c.loop.invariant.keeps c.next_option.ensures.keeps;
}
