-- `quant_bands::work::spend_pass`: the bands done so far. Assumes nothing.
use Prim.Native.Nat.{◌-◌}
use mathlib.Core.Path.{◌≡◌}
use Rattle.laws.specs.Places.{over_places}
use Rattle.quant_bands.specs.Finalise.{spending, spend_band}
use Rattle.quant_bands.specs.Question.{count_at}
use Rattle.quant_bands.proofs.work.spend_pass.Given as goal

abbrev pub invariant-loop-i : goal.invariant-loop-i
invariant-loop-i l =
    spending l.energies l.y.left l.y.next
    ≡ over_places (spend_band l.b.c l.pass (count_at l.fine) (count_at l.priorities) l.s) l.b.start (l.i - l.b.start)
    (spending l.initial.energies l.initial.y.left l.initial.y.next)
