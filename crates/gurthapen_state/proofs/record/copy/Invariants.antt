-- `gurthapen_state::record::copy`: the first i energies are there. Assumes nothing.
use mathlib.Core.Path.{◌≡◌}
use lib.ListN.{length, take}
use Rattle.gurthapen_state.proofs.record.copy.Given as goal

abbrev pub invariant-loop-i : goal.invariant-loop-i
invariant-loop-i l = (length l.to ≡ length l.initial.to) × (take l.i l.to ≡ take l.i l.from)
