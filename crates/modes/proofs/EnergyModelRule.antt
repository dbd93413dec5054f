-- Every pair of the coarse-energy model makes a Laplace model. Assumes nothing.
use Prim.Native.Nat.{ℕ, ◌<◌}
use mathlib.Core.Path.{◌≡◌, refl}
use mathlib.Core.Bool.{Bool, true, false}
use native.Mathlib.Omega.{arith}
use lib.ListN.{length}
use Rattle.laws.proofs.Tables.{below_at}
use Rattle.modes.specs.EnergyModel.{energy_model, zero_at, decay_at, pair_index}
use Rattle.modes.specs.Laplace.{runs_out, legal}
use Rattle.modes.proofs.Laplace.{Legal, legal_parts}

-- 168 pairs
pub energy_model-length : length energy_model ≡ 336
unfolding energy_model
energy_model-length = refl

-- the computed test: each pair makes a Laplace model
pub pair_legal : (k : ℕ) → k < 168 → legal (zero_at k) (decay_at k) ≡ true
unfolding zero_at decay_at energy_model legal runs_out
pair_legal = below_at (λ k. legal (zero_at k) (decay_at k)) 168 refl

-- the same as facts
pub pair_parts : (k : ℕ) → k < 168 → Legal (zero_at k) (decay_at k)
pair_parts k h = legal_parts (zero_at k) (decay_at k) (pair_legal k h)

-- the index of a band's pair is that of one of the 168
pub pair_below : (lm : ℕ) (intra : Bool) (band : ℕ) → lm < 4 → band < 21 → pair_index lm intra band < 168
unfolding pair_index
pair_below lm true band h g = omega arith
pair_below lm false band h g = omega arith
