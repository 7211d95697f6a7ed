use Rattle.std.proofs.Common.{refl}
use Rattle.krb_tool.proofs.MessageLines.{ends-put, with_line-is}
use Rattle.krb_tool.proofs.lines_run.LineListerReadLines.end_line.Goals as goal

pub returns-clause-ended : goal.returns-clause-ended
returns-clause-ended c = ends-put c.args.self.now c.put_line.new.self _ c.requires.open c.in_ok-put_line.ensures.put refl refl c.clear.ensures.items refl (with_line-is _ _ _ refl refl refl refl refl)
