-- `quant_bands::work::coarse_bands`: the bands done so far. Assumes nothing.
use Prim.Native.Nat.{◌-◌}
use mathlib.Core.Path.{◌≡◌}
use Rattle.laws.specs.Places.{over_places}
use Rattle.quant_bands.specs.Coarse.{coarse_state, coarse_band}
use Rattle.quant_bands.proofs.work.coarse_bands.Given as goal

abbrev pub invariant-loop-i : goal.invariant-loop-i
invariant-loop-i l =
    coarse_state l.energies l.g.first l.g.second l.g.next
    ≡ over_places (coarse_band l.f.bands.c l.f.lm l.f.intra l.s) l.f.bands.start (l.i - l.f.bands.start)
    (coarse_state l.initial.energies l.initial.g.first l.initial.g.second l.initial.g.next)
