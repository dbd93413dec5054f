-- `rate_bands::lists::skip_start`: the highest boosted band is below j. Assumes nothing.
use Prim.Native.Nat.{◌-◌, ◌≤◌}
use mathlib.Core.Path.{◌≡◌}
use Rattle.rate_spec.specs.Skips.{last_boost, skip_start}
use Rattle.rate_bands.specs.Inputs.{alloc_in}
use Rattle.rate_bands.proofs.lists.skip_start.Given as goal

abbrev pub invariant-loop-j : goal.invariant-loop-j
invariant-loop-j l =
    (l.f.start ≤ l.j) × (last_boost (alloc_in l.f l.offsets l.caps) (l.j - l.f.start) ≡ skip_start (alloc_in l.f l.offsets l.caps))
