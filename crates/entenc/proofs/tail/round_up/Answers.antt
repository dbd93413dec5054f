-- `entenc::tail::round_up`: val with one less than the unit fits. Assumes nothing.
use Rattle.entenc.specs.Close.{rounded}
use Rattle.entenc.proofs.tail.round_up.Goals as goal

pub returns : goal.returns
unfolding rounded
returns c = rw c.pow2-u.ensures
