-- `quant_bands::prediction::predict`: the definition's operations in its order. Assumes nothing.
use mathlib.Core.Path.{ap}
use lib.Ieee.{Float, add, mul, binary32}
use Rattle.quant_bands.specs.Prediction.{predicted}
use Rattle.quant_bands.proofs.prediction.predict.Goals as goal

pub returns : goal.returns
unfolding predicted
returns c =
    let a = c.args in
    ap (λ (x : Float). add binary32 (add binary32 (mul binary32 a.coef x) a.prev) a.q) c.raise.ensures
