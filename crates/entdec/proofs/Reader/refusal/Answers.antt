-- `entdec::Reader::refusal`: the tests are those of the definition, in its order. Assumes nothing.
use Rattle.entdec.specs.Rule.{read_refusal}
use Rattle.entdec.proofs.Reader.refusal.Goals as goal

pub returns : goal.returns
unfolding read_refusal
returns g c = rw (c.refusal_of.ensures, c.sized.ensures, c.sound.ensures, c.tell_ok-fits.ensures)
