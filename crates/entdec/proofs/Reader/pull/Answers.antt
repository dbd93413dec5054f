-- `entdec::Reader::pull`: every number stays within 32 bits. Assumes nothing.
use Rattle.entdec.specs.Read.{pull}
use Rattle.entdec.proofs.Reader.pull.Goals as goal

pub returns : goal.returns
unfolding pull
returns c = rw (c.advanced.ensures, c.byte_at-b.ensures.0)
