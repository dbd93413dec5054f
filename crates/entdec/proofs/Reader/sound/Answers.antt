-- `entdec::Reader::sound`: the code has the tests in the order of the definition. Assumes nothing.
use Rattle.entdec.specs.Rule.{reader_ok}
use Rattle.entdec.proofs.Reader.sound.Goals as goal

pub returns : goal.returns
unfolding reader_ok
returns c = rw c.counts_ok.ensures
