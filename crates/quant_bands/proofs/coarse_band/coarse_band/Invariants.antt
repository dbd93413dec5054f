-- `quant_bands::coarse_band::coarse_band`: the channels done so far. Assumes nothing.
use Prim.Native.Nat.{◌+◌, ◌-◌, ◌/◌, ◌%◌, ◌<◌}
use mathlib.Core.Path.{◌≡◌}
use Rattle.quant_bands.specs.Coarse.{coarse_state}
use Rattle.quant_bands.proofs.Banded.{channels}
use Rattle.quant_bands.proofs.coarse_band.coarse_band.Given as goal

abbrev pub invariant-loop-k : goal.invariant-loop-k
invariant-loop-k l =
    (l.k % 21 ≡ l.i) × (l.k < l.end + 21)
    × (coarse_state l.e l.y.first l.y.second l.y.next ≡ channels l.m l.s l.i (l.k / 21)
    (coarse_state l.initial.e l.initial.y.first l.initial.y.second l.initial.y.next))

abbrev pub decreases-loop-k : goal.decreases-loop-k
decreases-loop-k l = l.end - l.k
