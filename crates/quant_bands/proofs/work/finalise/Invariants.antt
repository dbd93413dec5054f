-- `quant_bands::work::finalise`: the passes done so far. Assumes nothing.
use Prim.Native.Nat.{◌-◌}
use mathlib.Core.Path.{◌≡◌}
use Rattle.laws.specs.Places.{over_places}
use Rattle.quant_bands.specs.Finalise.{spending}
use Rattle.quant_bands.specs.Question.{count_at}
use Rattle.quant_bands.proofs.Ranged.{pass_of}
use Rattle.quant_bands.proofs.work.finalise.Given as goal

abbrev pub invariant-loop-pass : goal.invariant-loop-pass
invariant-loop-pass l =
    spending l.energies l.y.left l.y.next
    ≡ over_places (pass_of l.b.c (count_at l.fine) (count_at l.priorities) l.b.start l.b.end l.s) 0 (l.pass - 0)
    (spending l.initial.energies l.initial.y.left l.initial.y.next)
