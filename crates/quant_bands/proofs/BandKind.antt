-- What a band is decoded with: its pair is one of the model's, so a Laplace model. Assumes nothing.
use Prim.Native.Nat.{ℕ, ◌<◌, min}
use mathlib.Core.Path.{◌≡◌}
use mathlib.Core.Bool.{Bool, true}
use native.Mathlib.Omega.{arith}
use lib.Ieee.{Float}
use Rattle.modes.specs.EnergyModel.{zero_at, decay_at, pair_index}
use Rattle.modes.specs.Laplace.{legal}
use Rattle.modes.specs.Prediction.{coef_of, beta_of}
use Rattle.modes.proofs.EnergyModelRule.{pair_below, pair_legal}
use Rattle.quant_bands.specs.declared.coarse_band.Kind.{Kind}
use Rattle.quant_bands.specs.Coarse.{kind_of}

-- whatever the band, since the index is held below 21
pub kind-legal : (lm : ℕ) (intra : Bool) (i : ℕ) → lm < 4 → legal (kind_of lm intra i).zero (kind_of lm intra i).decay ≡ true
unfolding kind_of
kind-legal lm intra i h =
    let g : min i 20 < 21 = omega arith in
    pair_legal (pair_index lm intra (min i 20)) (pair_below lm intra (min i 20) h g)

-- the code's four figures are the definition's
pub kind-is : (lm : ℕ) (intra : Bool) (i : ℕ) → i < 21 → {k z y : ℕ} {p b : Float} → k ≡ pair_index lm intra i → z ≡ zero_at k → y ≡ decay_at k
    → p ≡ coef_of intra lm
    → b ≡ beta_of intra lm → ◌≡◌ {A = Kind} (record { zero = z; decay = y; coef = p; beta = b }) (kind_of lm intra i)
unfolding kind_of
kind-is lm intra i h e f g p b =
    let m : min i 20 ≡ i = omega arith in
    rw (b, p, g, f, e, m)
