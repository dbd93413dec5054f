-- `modes::prediction::coef_of`: each figure is a whole number over 32768, so that its decimals lose nothing. Assumes nothing.
use mathlib.Core.Path.{sym, ap}
use mathlib.Core.Bool.{Bool}
use lib.Ieee.{of_bits, round}
use Rattle.modes.specs.Prediction.{coef_of, pred_coefs}
use Rattle.modes.proofs.prediction.coef_of.Goals as goal

pub returns-then-intra : goal.returns-then-intra
unfolding coef_of pred_coefs of_bits round
returns-then-intra c = sym (ap (λ (t : Bool). coef_of t c.args.lm) c.if-intra.true)

pub returns-else-intra : goal.returns-else-intra
unfolding coef_of pred_coefs of_bits round
returns-else-intra c = sym (ap (λ (t : Bool). coef_of t c.args.lm) c.if-intra.false)
