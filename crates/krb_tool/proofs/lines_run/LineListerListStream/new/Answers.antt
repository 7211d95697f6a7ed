use Rattle.std.proofs.Common.{refl, sym, arith}
use Rattle.krb_run.specs.Conversions.{after_text}
use Rattle.krb_tool.specs.MessageLines.{none_seen}
use Rattle.krb_tool.specs.inner.MessageLines.{message_lines, records_from}
use Rattle.krb_run.proofs.LineReaders.{is_new}
use Rattle.krb_tool.proofs.lines_run.LineListerListStream.new.Goals as goal

pub returns : goal.returns
returns c =
    is_new message_lines _ c.args.request refl c.new-2.ensures (record { kept = c.new.ensures.items; size = refl }) refl
    (λ lines. λ i. after_text (sym c.new-2.ensures i) (records_from c.args.request none_seen lines))
    (record { lines = omega arith; records = omega arith }, tt, λ line held. tt) refl
