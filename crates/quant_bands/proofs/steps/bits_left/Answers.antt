-- `quant_bands::steps::bits_left`: the difference, and 0 where more is used than there is. Assumes nothing.
use native.Mathlib.Omega.{arith}
use Rattle.quant_bands.specs.Steps.{bits_left}
use Rattle.quant_bands.proofs.steps.bits_left.Goals as goal

pub returns : goal.returns
unfolding bits_left
returns c = omega (arith, c.tell_of-used.ensures.0, c.saturating_sub.ensures)
