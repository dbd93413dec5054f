-- `modes::prediction::beta_of`: each figure is a whole number over 32768, so that its decimals lose nothing. Assumes nothing.
use mathlib.Core.Path.{sym, ap}
use mathlib.Core.Bool.{Bool}
use lib.Ieee.{of_bits, round}
use Rattle.modes.specs.Prediction.{beta_of, beta_coefs, beta_intra}
use Rattle.modes.proofs.prediction.beta_of.Goals as goal

pub returns-then-intra : goal.returns-then-intra
unfolding beta_of beta_coefs beta_intra of_bits round
returns-then-intra c = sym (ap (λ (t : Bool). beta_of t c.args.lm) c.if-intra.true)

pub returns-else-intra : goal.returns-else-intra
unfolding beta_of beta_coefs beta_intra of_bits round
returns-else-intra c = sym (ap (λ (t : Bool). beta_of t c.args.lm) c.if-intra.false)
