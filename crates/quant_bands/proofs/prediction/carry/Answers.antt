-- `quant_bands::prediction::carry`: the definition's operations in its order. Assumes nothing.
use mathlib.Core.Path.{refl}
use Rattle.quant_bands.specs.Prediction.{handed_on}
use Rattle.quant_bands.proofs.prediction.carry.Goals as goal

pub returns : goal.returns
unfolding handed_on
returns c = refl
