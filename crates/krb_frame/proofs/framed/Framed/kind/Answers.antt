use Rattle.krb_frame.proofs.framed.Framed.kind.Goals as goal

pub returns : goal.returns
returns c = rw (← c.self.view_is) c.whole_kind.ensures
