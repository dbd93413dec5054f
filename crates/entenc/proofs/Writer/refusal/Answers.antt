-- `entenc::Writer::refusal`: the tests are those of the definition, in its order. Assumes nothing.
use mathlib.Core.Path.{◌∙◌}
use Rattle.entenc.specs.Rule.{write_refusal}
use Rattle.entenc.proofs.Writer.refusal.Goals as goal

pub returns : goal.returns
unfolding write_refusal
returns g c = c.refusal_of.ensures ∙ rw (c.sized-sized.ensures, c.sound-sound.ensures, c.tell_ok-fits.ensures)
