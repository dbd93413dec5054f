-- `entenc::Writer::sound`: sums in 64 bits are those of the definition. Assumes nothing.
use Rattle.entenc.specs.Rule.{writer_ok}
use Rattle.entenc.proofs.Writer.sound.Goals as goal

pub returns : goal.returns
unfolding writer_ok
returns c = rw c.counts_ok.ensures
