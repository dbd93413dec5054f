-- `rate_split::bands::split_coded`: the loop has filled the lists up to j, and the balance is what reaches band j. Assumes nothing.
use Prim.Native.Nat.{◌-◌}
use mathlib.Core.Path.{◌≡◌}
use lib.IntN.{pos}
use Rattle.laws.specs.Lists.{fill}
use Rattle.modes.specs.Edges.{edge}
use Rattle.rate_split.specs.Bands.{carried_at, coded_at}
use Rattle.rate_split.specs.Lent.{SameLists}
use Rattle.rate_split.proofs.bands.split_coded.Given as goal

abbrev pub invariant-loop-j : goal.invariant-loop-j
invariant-loop-j l =
    let part = coded_at l.f l.caps l.bits l.coded l.left l.intensity l.dual in
    (l.lo ≡ edge l.j) × (l.balance ≡ carried_at l.f l.caps l.bits l.coded l.left l.intensity l.dual (l.j - l.f.start))
    × (l.lists.pulses.now ≡ fill (λ i. pos (part i).pulses) l.f.start (l.j - l.f.start) l.initial.lists.pulses.now)
    × (l.lists.fine.now ≡ fill (λ i. pos (part i).fine) l.f.start (l.j - l.f.start) l.initial.lists.fine.now)
    × (l.lists.priorities.now ≡ fill (λ i. pos (part i).prio) l.f.start (l.j - l.f.start) l.initial.lists.priorities.now)
    × SameLists l.initial.lists l.lists
