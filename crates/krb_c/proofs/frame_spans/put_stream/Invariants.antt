use Rattle.krb_c.proofs.Framed.{AreFramed}
use Rattle.krb_c.proofs.frame_spans.put_stream.Given as goal

-- the frames so far
abbrev pub invariant-frames : goal.invariant-frames
invariant-frames l = AreFramed l.profile l.limit l.goes_on l.stream l._index l.place l.initial.spans l.spans
