use Rattle.krb_flow.proofs.Keeping.{keeps_ended}
use Rattle.krb_flow.proofs.direction.Direction.end.Goals as goal
use Rattle.std.proofs.Common.{refl}

pub returns-in-Open-clause-keeps : goal.returns-in-Open-clause-keeps
returns-in-Open-clause-keeps c = λ stream k. keeps_ended c.args.self.now _ _ stream refl c.end.ensures.most c.end.ensures.octets k
