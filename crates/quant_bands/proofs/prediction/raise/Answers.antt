-- `quant_bands::prediction::raise`: by the comparison with -9. Assumes nothing.
use mathlib.Core.Path.{sym, ap}
use mathlib.Core.Bool.{Bool, cond}
use lib.Ieee.{of_bits, neg}
use Rattle.quant_bands.specs.Prediction.{lowest}
use Rattle.quant_bands.proofs.prediction.raise.Goals as goal

pub returns-then-old : goal.returns-then-old
unfolding of_bits neg
returns-then-old c = sym (ap (λ (t : Bool). cond t lowest c.args.old) c.if-old.true)

pub returns-else-old : goal.returns-else-old
unfolding of_bits neg
returns-else-old c = sym (ap (λ (t : Bool). cond t lowest c.args.old) c.if-old.false)
