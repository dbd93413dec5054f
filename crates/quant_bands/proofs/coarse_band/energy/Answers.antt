-- `quant_bands::coarse_band::energy`: the step is read, and both formulas take it. Assumes nothing.
use Prim.Native.Nat.{◌≤◌}
use mathlib.Core.Path.{◌≡◌}
use native.Mathlib.Nat.{lt_of_le_of_lt}
use native.Mathlib.Omega.{arith}
use lib.Dec.{lit<}
use lib.IntN.{nat_abs}
use mir.Syntax.{w32}
use mir.Val.{of_z, to_z}
use mir.Facts.{to_z-of_z}
use Rattle.laws.proofs.Floats.{whole_float}
use Rattle.laws.proofs.Signs.{size_fits}
use Rattle.quant_bands.proofs.Stepping.{step-size}
use Rattle.quant_bands.proofs.Banded.{energy-is}
use Rattle.quant_bands.proofs.coarse_band.energy.Goals as goal
use Rattle.quant_bands.proofs.coarse_band.energy.Goals.{After-read_step-y}

-- how large the step is
small : (c : After-read_step-y) → nat_abs c.read_step-y.result.value ≤ 32768
small c =
    let a = c.args in
    rw c.read_step-y.ensures (step-size a.m.zero a.m.decay a.s.now a.d c.requires.decay_value)

whole : (c : After-read_step-y) → to_z w32 (of_z w32 c.read_step-y.result.value) ≡ c.read_step-y.result.value
whole c = to_z-of_z {w = w32} (size_fits c.read_step-y.result.value (lt_of_le_of_lt (small c) (lit< tt)))

pub int_to_float-q : goal.int_to_float-q
int_to_float-q c =
    rw (whole (goal.at.int_to_float-q c).After-read_step-y) (whole_float c.read_step-y.result.value
    (omega (arith, small (goal.at.int_to_float-q c).After-read_step-y)))

pub returns : goal.returns
returns c =
    let a = c.args in
    energy-is a.m a.s.now a.k a.prev a.d a.e.now c.read_step-y.ensures (rw (whole (goal.at.returns c).After-read_step-y) at c.predict.ensures)
    (rw (whole (goal.at.returns c).After-read_step-y) at c.carry.ensures)
