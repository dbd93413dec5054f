-- `trip_call::sends::ended`: what is not closed is not read back. Assumes nothing.
use Rattle.trip_call.proofs.sends.ended.Goals as goal

pub returns : goal.returns
returns c = rw (c.if-u.false, ← c.compare.ensures, c.if-compare.false)
