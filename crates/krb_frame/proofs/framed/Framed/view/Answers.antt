use Rattle.krb_frame.proofs.framed.Framed.view.Goals as goal

pub returns : goal.returns
returns c = rw (← c.self.view_is) c.in-Some.ensures
