-- The figures of the prediction are finite: those of the frame before are at most 230 / 256, those of the band before at most 1. Assumes nothing.
use Prim.Native.Nat.{ℕ, ◌<◌}
use mathlib.Core.Bool.{Bool, true, false}
use lib.Dec.{lit≤}
use lib.Ieee.{round}
use Rattle.laws.proofs.Tables.{few-at, ◌&◌, end}
use Rattle.laws.proofs.Within.{Within}
use Rattle.modes.specs.Prediction.{pred_coefs, beta_coefs, beta_intra, coef_of, beta_of}

-- alpha is at most 230 / 256 in size, so that it never makes an energy greater
pub coef_within : (intra : Bool) (lm : ℕ) → lm < 4 → Within (coef_of intra lm) 230 256
unfolding coef_of pred_coefs round
coef_within true lm h = lit≤ tt
coef_within false lm h = few-at (λ k. Within (coef_of false k) 230 256) 4 (lit≤ tt & lit≤ tt & lit≤ tt & lit≤ tt & end) lm h

-- beta is at most 1 in size
pub beta_within : (intra : Bool) (lm : ℕ) → lm < 4 → Within (beta_of intra lm) 1 1
unfolding beta_of beta_coefs beta_intra round
beta_within true lm h = lit≤ tt
beta_within false lm h = few-at (λ k. Within (beta_of false k) 1 1) 4 (lit≤ tt & lit≤ tt & lit≤ tt & lit≤ tt & end) lm h
