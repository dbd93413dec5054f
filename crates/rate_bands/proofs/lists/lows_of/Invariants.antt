-- `rate_bands::lists::lows_of`: the list is filled up to band j. Assumes nothing.
use Prim.Native.Nat.{◌-◌}
use mathlib.Core.Path.{◌≡◌}
use Rattle.laws.specs.Lists.{fill}
use Rattle.rate_spec.specs.Vectors.{lower_bits}
use Rattle.rate_bands.specs.Inputs.{alloc_in}
use Rattle.rate_bands.proofs.lists.lows_of.Given as goal

abbrev pub invariant-loop-j : goal.invariant-loop-j
invariant-loop-j l =
    l.lows ≡ fill (lower_bits (alloc_in l.t.f l.offsets l.caps) l.v) l.t.f.start (l.j - l.t.f.start) l.initial.lows
