-- `rate_split::bands::split_skipped`: the loop has filled the lists up to j. Assumes nothing.
use Prim.Native.Nat.{◌-◌}
use mathlib.Core.Path.{◌≡◌}
use lib.IntN.{pos}
use lib.ListN.{get_or}
use Rattle.laws.specs.Lists.{fill}
use Rattle.rate_spec.specs.Alloc.{skipped}
use Rattle.rate_bands.specs.Inputs.{bare}
use Rattle.rate_split.specs.Lent.{SameLists}
use Rattle.rate_split.proofs.bands.split_skipped.Given as goal

abbrev pub invariant-loop-j : goal.invariant-loop-j
invariant-loop-j l =
    (l.lists.pulses.now ≡ fill (λ i. pos (skipped (bare l.f) (get_or l.kept i 0)).pulses) l.coded (l.j - l.coded) l.initial.lists.pulses.now)
    × (l.lists.fine.now ≡ fill (λ i. pos (skipped (bare l.f) (get_or l.kept i 0)).fine) l.coded (l.j - l.coded) l.initial.lists.fine.now)
    × (l.lists.priorities.now ≡ fill (λ i. pos (skipped (bare l.f) (get_or l.kept i 0)).prio) l.coded (l.j - l.coded) l.initial.lists.priorities.now)
    × SameLists l.initial.lists l.lists
