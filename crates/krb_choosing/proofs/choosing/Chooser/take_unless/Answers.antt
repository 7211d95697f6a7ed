use Rattle.std.proofs.Common.{◌∙◌, sym}
use Rattle.krb_choosing.proofs.Taken.{follows-after, follows-failed, follows-taken}
use Rattle.krb_choosing.proofs.choosing.Chooser.take_unless.Goals as goal

pub returns-then-is_some-clause-follows : goal.returns-then-is_some-clause-follows
returns-then-is_some-clause-follows g c = λ before given f.
    let self = c.args.self.now in let w = g.W.Write.contents c.args.writer.now in
    follows-after self.choice.now self.goes_on before w w given c.args.buffer.now self.out.items self.out.items self.begun.items self.begun.items self.told.items self.told.items c.args.fault (sym c.is_some.ensures ∙ c.if-is_some.true) f

pub returns-in-Ok-clause-follows : goal.returns-in-Ok-clause-follows
returns-in-Ok-clause-follows g c = λ before given f.
    let self = c.args.self.now in let new = c.take_all.new.self in
    follows-taken self.choice.now self.goes_on before (g.W.Write.contents c.args.writer.now) (g.W.Write.contents c.take_all.new.writer) given c.args.buffer.now self.out.items new.out.items self.begun.items new.begun.items self.told.items new.told.items c.args.fault (sym c.is_some.ensures ∙ c.if-is_some.false) f c.in-Ok.ensures.taken c.in-Ok.ensures.none

pub returns-in-Err-clause-follows : goal.returns-in-Err-clause-follows
returns-in-Err-clause-follows g c = λ before given f.
    let self = c.args.self.now in let new = c.take_all.new.self in
    follows-failed self.choice.now self.goes_on before (g.W.Write.contents c.args.writer.now) (g.W.Write.contents c.take_all.new.writer) given c.args.buffer.now self.out.items new.out.items self.begun.items new.begun.items self.told.items new.told.items c.args.fault (sym c.is_some.ensures ∙ c.if-is_some.false) f c.in-Err.ensures.first
